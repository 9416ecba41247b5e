-- The findings of faces, kept in the lent slice.
use Prim.Native.Nat.{ℕ, suc, ◌+◌, ◌-◌, ◌≤◌}
use mathlib.Core.Path.{◌≡◌, refl, sym, ap, ◌∙◌, subst}
use mathlib.Core.List.{List, [], ◌∷◌, ◌++◌, append-nil}
use native.Mathlib.Omega.{arith}
use lib.Ieee.{Float}
use Rattle.laws.specs.Lists.{each, up_from}
use Rattle.laws.proofs.ListLaws.{each_append, up_from_snoc}
use Rattle.floats.specs.Floats.{zero64}
use Rattle.geometry.specs.declared.Point.{Point}
use Rattle.geometry.specs.Points.{points_of, centre_of}
use Rattle.findings.specs.Findings.{Finding, overfull}
use Rattle.findings.specs.Records.{fields_of, centre_in}
use Rattle.findings.specs.Rules.{rules_with}
use Rattle.records.specs.declared.Record.{Record}
use Rattle.records.specs.declared.Sink.{Sink}
use Rattle.records.specs.Keeping.{Kept, KeptOne, told}
use Rattle.records.proofs.Keeping.{kept_none, kept_then}
use Rattle.index.specs.Faces.{cell_of}
use Rattle.layout.specs.declared.Layout.{Layout}
use Rattle.layout.specs.Tables.{key_row}
use Rattle.layout.specs.ByCell.{plain_rules, over_face}
use Rattle.layout.specs.Kept.{KeptAny}
use Rattle.overfull.proofs.Found.{Many}

-- a record's fields are those of an overfull face
fields_are : (r : Record) (a b g n : ℕ) (k os : List ℕ) → r.kind ≡ 2 → r.first ≡ a → r.second ≡ b → r.a ≡ g → r.b ≡ 0 → r.count ≡ n → fields_of (overfull a b g n k os) ≡ told r
unfolding fields_of
fields_are r a b g n k os e₁ e₂ e₃ e₄ e₅ e₆ = rw (e₁, e₂, e₃, e₄, e₅, e₆)

-- its centre is that of its key
centre_is : (c : List Float) (tol : Float) (a b g n : ℕ) (k os : List ℕ) → centre_in (plain_rules c tol) (overfull a b g n k os) ≡ centre_of (points_of c k)
unfolding centre_in rules_with
centre_is c tol a b g n k os = refl

-- the findings of the faces from a on, and of one more
each_grown : (F : ℕ → List Finding) (a g : ℕ) → a ≤ g → each F (up_from a (g - a)) ++ F g ≡ each F (up_from a (g + 1 - a))
each_grown F a g h =
    let e : g + 1 - a ≡ suc (g - a) = omega (arith, h) in
    let d : a + (g - a) ≡ g = omega (arith, h) in
    sym (ap (λ (k : ℕ). each F (up_from a k)) e ∙ ap (each F) (up_from_snoc a (g - a)) ∙ each_append F (up_from a (g - a)) ((a + (g - a)) ∷ [])
    ∙ ap (λ (l : List Finding). each F (up_from a (g - a)) ++ l) (append-nil (F (a + (g - a))) ∙ ap F d))

module _ (coords : List Float) where
  -- no finding, nothing kept
  pub none_kept : (xs : List Finding) (s : Sink) → xs ≡ [] → KeptAny coords xs s s
  none_kept xs s e tol = subst (λ (ys : List Finding). Kept (plain_rules coords tol) ys s s) (sym e) (kept_none (plain_rules coords tol) s)

  -- the record of an overfull face kept
  pub many_kept : (l : Layout) (t : List ℕ) (g h n : ℕ) → Many l t g h n → (r : Record) (centre : Point) (s u : Sink)
      → r.kind ≡ 2 → r.first ≡ cell_of l.at t g → r.second ≡ cell_of l.at t h → r.a ≡ g → r.b ≡ 0 → r.count ≡ n
      → centre ≡ centre_of (points_of coords (key_row l t g)) → KeptOne r centre s u
      → KeptAny coords (over_face l t g) s u × (u.count ≤ s.count + 1)
  many_kept l t g h n m r centre s u e₁ e₂ e₃ e₄ e₅ e₆ e₇ one =
      let x : Finding = overfull (cell_of l.at t g) (cell_of l.at t h) g n (key_row l t g) m.owners in
      let p : KeptAny coords (x ∷ []) s u = λ tol.
      one (plain_rules coords tol) x
      (fields_are r (cell_of l.at t g) (cell_of l.at t h) g n (key_row l t g) m.owners e₁ e₂ e₃ e₄ e₅ e₆)
      (centre_is coords tol (cell_of l.at t g) (cell_of l.at t h) g n (key_row l t g) m.owners ∙ sym e₇) in
      (λ tol. subst (λ (ys : List Finding). Kept (plain_rules coords tol) ys s u) (sym m.found) (p tol), omega (arith, (p zero64).count))

  -- those of one face more
  pub grown_kept : (F : ℕ → List Finding) (a g : ℕ) (s t u : Sink) → a ≤ g
      → KeptAny coords (each F (up_from a (g - a))) s t → KeptAny coords (F g) t u → KeptAny coords (each F (up_from a (g + 1 - a))) s u
  grown_kept F a g s t u h p q tol =
      subst (λ (ys : List Finding). Kept (plain_rules coords tol) ys s u) (each_grown F a g h)
      (kept_then (plain_rules coords tol) (each F (up_from a (g - a))) (F g) s t u (p tol) (q tol))

  -- the same list under another name
  pub kept_as : {xs ys : List Finding} {s t : Sink} → xs ≡ ys → KeptAny coords xs s t → KeptAny coords ys s t
  kept_as {s = s} {t = t} e p = subst (λ (zs : List Finding). KeptAny coords zs s t) e p
