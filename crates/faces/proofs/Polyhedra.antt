-- A ring sought among the runs of a PHED.
use Prim.Native.Nat.{ℕ, suc, ◌+◌, ◌-◌, ◌≤◌, ◌<◌}
use mathlib.Core.Path.{◌≡◌, refl, sym, ap, ap₂, ◌∙◌}
use mathlib.Core.Bool.{Bool, true, false}
use mathlib.Core.List.{List, [], ◌∷◌, ◌++◌, append_assoc}
use native.Mathlib.Omega.{arith}
use borrow.Author.Tests.{le-leb, lt-leb}
use lib.Dec.{leb}
use lib.ListN.{length, get_or, take, drop, length-append, length-drop, drop_of_length-le}
use lib.Seq.{drop-drop, length-take-le, take-append-add, get_or-append-add}
use Rattle.laws.specs.Lists.{only_if}
use Rattle.mesh.specs.Rings.{phed_rings}
use Rattle.mesh.specs.Steps.{lead, ring_total}
use Rattle.mesh.proofs.Runs.{lead_le, phed_next}
use Rattle.mesh.proofs.CellTallies.{total_append}
use Rattle.faces.specs.Spans.{RunSpan}
use Rattle.faces.specs.declared.Span.{Span}

-- ring `rest` of the runs from place `at` on is sought, and so many ring words stand before them
pub record Running (ws : List ℕ) (f rest start at : ℕ) : Type 0 where
  pub seen : List (List ℕ)
  pub parts : seen ++ phed_rings (drop at ws) ≡ phed_rings ws
  pub ring_left : length seen + rest ≡ f
  pub passed : start ≡ ring_total seen
  pub small : start ≤ at
  pub within : at ≤ length ws + 1

-- at place 0 no ring is passed
pub running_start : (ws : List ℕ) (f : ℕ) → Running ws f f 0 0
running_start ws f = record { seen = []; parts = refl; ring_left = omega arith; passed = refl; small = omega arith; within = omega arith }

module _ {ws : List ℕ} {f rest start at : ℕ} (p : Running ws f rest start at) (n : ℕ) (is : n ≡ lead (drop at ws)) (more : at < length ws) where
  abbrev run : List ℕ
  run = take n (drop at ws)

  -- the run lies within the words
  pub run_fits : at + n ≤ length ws
  run_fits = omega (arith, is, lead_le (drop at ws), length-drop at ws)

  run_size : length run ≡ n
  run_size = length-take-le n (drop at ws) (omega (arith, length-drop at ws, run_fits))

  -- the run, if it is kept, and the rings behind it
  runs_next : (b : Bool) → leb 3 n ≡ b → phed_rings (drop at ws) ≡ only_if b (run ∷ []) ++ phed_rings (drop (at + (n + 1)) ws)
  runs_next b t =
      let m : at + suc n ≡ at + (n + 1) = omega arith in
      phed_next (drop at ws)
      ∙ ap (λ (k : ℕ). only_if (leb 3 k) (take k (drop at ws) ∷ []) ++ phed_rings (drop (suc k) (drop at ws))) (sym is)
      ∙ ap₂ (λ (x : Bool) (v : List ℕ). only_if x (run ∷ []) ++ phed_rings v) t (drop-drop (suc n) at ws ∙ ap (λ (k : ℕ). drop k ws) m)

  -- a run too short is no ring
  pub running_short : n < 3 → Running ws f rest start (at + (n + 1))
  running_short h =
      record {
        seen = p.seen;
        parts = ap (λ (l : List (List ℕ)). p.seen ++ l) (sym (runs_next false (lt-leb 3 n h))) ∙ p.parts;
        ring_left = p.ring_left;
        passed = p.passed;
        small = omega (arith, p.small);
        within = omega (arith, run_fits);
      }

  -- a run long enough is the first of the rings that are left
  kept : 3 ≤ n → p.seen ++ run ∷ phed_rings (drop (at + (n + 1)) ws) ≡ phed_rings ws
  kept h = ap (λ (l : List (List ℕ)). p.seen ++ l) (sym (runs_next true (le-leb 3 n h))) ∙ p.parts

  -- a ring is passed
  pub running_on : 3 ≤ n → 1 ≤ rest → Running ws f (rest - 1) (start + n) (at + (n + 1))
  running_on h z =
      record {
        seen = p.seen ++ (run ∷ []);
        parts = append_assoc p.seen (run ∷ []) (phed_rings (drop (at + (n + 1)) ws)) ∙ kept h;
        ring_left = omega (arith, p.ring_left, length-append p.seen (run ∷ []));
        passed = omega (arith, p.passed, total_append p.seen (run ∷ []), length-append run [], run_size);
        small = omega (arith, p.small);
        within = omega (arith, run_fits);
      }

  -- the ring is found
  pub running_found : 3 ≤ n → rest ≡ 0 → (s : Span) → s.start ≡ start → s.end ≡ start + n → s.at ≡ at → RunSpan ws f s
  running_found h z s a b d =
      let later = phed_rings (drop (at + (n + 1)) ws) in
      let e : f ≡ length p.seen + 0 = omega (arith, p.ring_left) in
      let r : get_or (phed_rings ws) f [] ≡ run =
      ap (λ (l : List (List ℕ)). get_or l f []) (sym (kept h)) ∙ ap (λ (j : ℕ). get_or (p.seen ++ run ∷ later) j []) e ∙ get_or-append-add p.seen (run ∷ later) 0 [] in
      let t : take f (phed_rings ws) ≡ p.seen ++ [] =
      ap (take f) (sym (kept h)) ∙ ap (λ (j : ℕ). take j (p.seen ++ run ∷ later)) e ∙ take-append-add p.seen (run ∷ later) 0 in
      let m : s.end - s.start ≡ n = omega arith in
      record {
        spot = record {
          start = omega (arith, a, p.passed, ap ring_total t, total_append p.seen []);
          end = omega (arith, a, b, ap length r, run_size);
        };
        run = ap₂ (λ (k j : ℕ). take k (drop j ws)) m d ∙ sym r;
        within = omega (arith, run_fits, m, d);
        small = omega (arith, a, p.small, more);
      }

-- some ring is left
pub running_more : {ws : List ℕ} {f rest start at : ℕ} → Running ws f rest start at → f < length (phed_rings ws) → length ws ≤ at → ⊥
running_more {ws} {f} {rest} {start} {at} p h e =
    omega (
      arith,
      h,
      p.ring_left,
      ap length p.parts,
      length-append p.seen (phed_rings (drop at ws)),
      ap (λ (v : List ℕ). length (phed_rings v)) (drop_of_length-le ws e),
    )
