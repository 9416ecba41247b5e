-- The filling pass: what holds at a place of the file, and what a record changes.
use Prim.Native.Nat.{ℕ, ◌+◌, ◌*◌, ◌-◌, ◌≤◌}
use mathlib.Core.Path.{◌≡◌, refl, sym, ap, ◌∙◌, subst}
use mathlib.Core.List.{List, [], ◌∷◌, ◌++◌}
use mathlib.Core.Bool.{Bool, true, false}
use native.Mathlib.Nat.{add-zero}
use native.Mathlib.Omega.{arith}
use lib.ListN.{length, take, drop, length-append}
use lib.Seq.{sets, length-sets}
use Rattle.std.specs.Prelude.{Option, Some, None}
use lib.Dec.{ltb}
use lib.Ieee.{Float}
use borrow.Author.Tests.{ltb-true, ltb-false, lt-ltb}
use Rattle.laws.specs.Lists.{only_if}
use Rattle.laws.proofs.Stores.{sets_append}
use Rattle.model_file.specs.Records.{letter, kinds_in, words_in, ends_in, stage, misplaced, record_off}
use Rattle.model_file.specs.File.{kinds_of, words_of, ends_of, opens}
use Rattle.model_file.specs.Steps.{judge, record_refusal}
use Rattle.model_file.specs.declared.Letter.{Letter}
use Rattle.model_file.specs.declared.Letter.TheVariants.{Node, Cell, More, Last}
use Rattle.model_file.specs.declared.Stage.{Stage}
use Rattle.model_file.specs.declared.Stage.TheVariants.{Nodes as Begun}
use Rattle.model_file.proofs.Judgement.{two_rows, after_last}
pub use Rattle.model_file.proofs.Counts.{ends_as_cells}
use Rattle.model_read.specs.Steps.{after, Nodes, node_coords, Room, Put, Fitting, Filled}
use Rattle.model_read.specs.declared.Place.{Place}
use Rattle.model_read.proofs.JudgePass.{Judging, judging_step, little}
use Rattle.model_read.proofs.LeadingNodes.{behind, judging_start, nodes_stored}

-- ---- the ends: where the next goes, and whether a cell is open

-- one record's end, and those after it
next_end : (cells w : ℕ) (ends : List ℕ) (l : Option Letter) (r : List ℕ) (rs : List (List ℕ)) → (l ≡ Some Last → rs ≡ [])
    → sets (sets ends (cells - 1) (ends_in l (ltb 0 cells) w)) (cells + length (kinds_in l r) - 1) (ends_of (ltb 0 (cells + length (kinds_in l r))) (w + length (words_in l r)) rs)
    ≡ sets ends (cells - 1) (ends_in l (ltb 0 cells) w ++ ends_of (opens l (ltb 0 cells)) (w + length (words_in l r)) rs)
next_end cells w ends (Some Node) r rs h = ap (λ (k : ℕ). sets ends (k - 1) (ends_of (ltb 0 k) (w + 0) rs)) (add-zero cells)
next_end cells w ends (Some More) r rs h = ap (λ (k : ℕ). sets ends (k - 1) (ends_of (ltb 0 k) (w + length (words_in (Some More) r)) rs)) (add-zero cells)
next_end cells w ends None r rs h = ap (λ (k : ℕ). sets ends (k - 1) (ends_of (ltb 0 k) (w + 0) rs)) (add-zero cells)
next_end cells w ends (Some Cell) r rs h =
    let one = lt-ltb 0 (cells + 1) (omega arith) in
    (λ i. sets (sets ends (cells - 1) (only_if (ltb 0 cells) (w ∷ []))) (go (ltb 0 cells) refl i) (ends_of (one i) (w + length (words_in (Some Cell) r)) rs))
    ∙ sym (sets_append ends (cells - 1) (only_if (ltb 0 cells) (w ∷ [])) (ends_of true (w + length (words_in (Some Cell) r)) rs))
  where
    go : (b : Bool) → ltb 0 cells ≡ b → cells + 1 - 1 ≡ cells - 1 + length (only_if b (w ∷ []))
    go true e = let q = ltb-true 0 cells e in omega arith
    go false e = let q = ltb-false 0 cells e in omega arith
next_end cells w ends (Some Last) r rs h = rw (h refl) (sym (sets_append ends (cells - 1) (only_if (ltb 0 cells) (w ∷ [])) []))

-- ---- the pass

-- the lists so far, and the records that are left
pub record Filling (rs : List (List ℕ)) (kinds₀ ends₀ words₀ kinds ends words : List ℕ) (p : Place) (rest : List (List ℕ)) : Type 0 where
  pub st : Stage
  pub judging : Judging rs st p rest
  pub kinds_are_lem : sets kinds p.cells (kinds_of rest) ≡ sets kinds₀ 0 (kinds_of rs)
  pub ends_are_lem : sets ends (p.cells - 1) (ends_of (ltb 0 p.cells) p.words rest) ≡ sets ends₀ 0 (ends_of false 0 rs)
  pub words_are : sets words p.words (words_of rest) ≡ sets words₀ 0 (words_of rs)
  pub kinds_long : length kinds ≡ length kinds₀
  pub ends_long : length ends ≡ length ends₀
  pub words_long : length words ≡ length words₀

-- there is room for the leading nodes
pub nodes_room : (rs : List (List ℕ)) (n coords kinds ends words : ℕ) → Fitting rs coords kinds ends words → Nodes rs n → 3 * n ≤ coords
nodes_room rs n coords kinds ends words ok h = omega (arith, (judging_start rs n h).coords, ok.coords_fit)

-- the start of the pass, behind them
pub filling_start : (rs : List (List ℕ)) (n : ℕ) (kinds₀ ends₀ words₀ : List ℕ) → Nodes rs n → Filling rs kinds₀ ends₀ words₀ kinds₀ ends₀ words₀ (record { coords = 3 * n; cells = 0; words = 0 }) (drop n rs)
filling_start rs n kinds₀ ends₀ words₀ h =
    let p = behind rs n h in
    record {
      st = Begun;
      judging = judging_start rs n h;
      kinds_are_lem = ap (sets kinds₀ 0) p.kinds;
      ends_are_lem = ap (sets ends₀ 0) p.ends;
      words_are = ap (sets words₀ 0) p.words;
      kinds_long = refl;
      ends_long = refl;
      words_long = refl;
    }

module _ (rs : List (List ℕ)) (coords : ℕ) (kinds₀ ends₀ words₀ : List ℕ) (ok : Fitting rs coords (length kinds₀) (length ends₀) (length words₀)) (kinds ends words : List ℕ) (p : Place) (r : List ℕ) (later : List (List ℕ))
    (f : Filling rs kinds₀ ends₀ words₀ kinds ends words p (r ∷ later)) where
  -- it is not refused, nor are these behind it
  well : (record_refusal f.st r ≡ 0) × (judge (stage (letter r) r) later ≡ 0)
  well =
      let q = two_rows (misplaced f.st (letter r)) (record_off (letter r) r) (judge (stage (letter r) r) later) (f.judging.judged ∙ ok.judged_well) in
      (rw (q.0, q.1.0) refl, q.1.1)

  -- there is room for it
  pub filling_room : Room (letter r) r p (length kinds) (length ends) (length words)
  filling_room =
      let q = two_rows (misplaced f.st (letter r)) (record_off (letter r) r) 0 well.0 in
      let few = little (letter r) r q.1.0 in
      let j = f.judging in
      let b = length-append (kinds_in (letter r) r) (kinds_of later) in
      let c = length-append (words_in (letter r) r) (words_of later) in
      record {
        little = few.words;
        kinds_fit = omega (arith, b, j.cells, ok.kinds_fit, f.kinds_long);
        ends_fit = omega (arith, j.cells, ok.ends_fit, f.ends_long);
        words_fit = omega (arith, c, j.words, ok.words_fit, f.words_long);
        few_coords = omega (arith, j.few_coords_lem, ok.short);
        few_cells = omega (arith, j.few_cells_lem, ok.short);
        few_words = omega (arith, j.few_words, ok.short);
      }

  -- it is stored
  pub filling_step : (kinds' ends' words' : List ℕ) (q : Place) → q ≡ after (letter r) r p → Put (letter r) r p kinds kinds' ends ends' words words' → Filling rs kinds₀ ends₀ words₀ kinds' ends' words' q later
  filling_step kinds' ends' words' q place u =
      let l = letter r in
      subst (λ (y : Place). Filling rs kinds₀ ends₀ words₀ kinds' ends' words' y later) (sym place)
      (record {
        st = stage l r;
        judging = judging_step rs f.st p r later f.judging well.0;
        kinds_are_lem = ap (λ (y : List ℕ). sets y (p.cells + length (kinds_in l r)) (kinds_of later)) u.kinds_are ∙ sym (sets_append kinds p.cells (kinds_in l r) (kinds_of later)) ∙ f.kinds_are_lem;
        ends_are_lem =
            ap (λ (y : List ℕ). sets y (p.cells + length (kinds_in l r) - 1) (ends_of (ltb 0 (p.cells + length (kinds_in l r))) (p.words + length (words_in l r)) later)) u.ends_are
            ∙ next_end p.cells p.words ends l r later (λ e. after_last later (ap (λ (k : Option Letter). judge (stage k r) later) (sym e) ∙ well.1))
            ∙ f.ends_are_lem;
        words_are = ap (λ (y : List ℕ). sets y (p.words + length (words_in l r)) (words_of later)) u.words_are ∙ sym (sets_append words p.words (words_in l r) (words_of later)) ∙ f.words_are;
        kinds_long = ap length u.kinds_are ∙ length-sets kinds p.cells (kinds_in l r) ∙ f.kinds_long;
        ends_long = ap length u.ends_are ∙ length-sets ends (p.cells - 1) (ends_in l (ltb 0 p.cells) p.words) ∙ f.ends_long;
        words_long = ap length u.words_are ∙ length-sets words p.words (words_in l r) ∙ f.words_long;
      })

-- the end of the pass
pub filling_end : (rs : List (List ℕ)) (n : ℕ) (entry coords₀ : List Float) (kinds₀ ends₀ words₀ kinds ends words : List ℕ) (p : Place) (rest : List (List ℕ)) → judge Begun rs ≡ 0 → Nodes rs n → coords₀ ≡ sets entry 0 (node_coords (take n rs))
    → Filling rs kinds₀ ends₀ words₀ kinds ends words p rest → rest ≡ [] → Filled rs entry coords₀ kinds₀ kinds ends₀ ends words₀ words
filling_end rs n entry coords₀ kinds₀ ends₀ words₀ kinds ends words p rest ok h w f t = record {
  coords_are = nodes_stored entry coords₀ n rs h ok w;
  kinds_are = sym (ap (λ (y : List (List ℕ)). sets kinds p.cells (kinds_of y)) t) ∙ f.kinds_are_lem;
  ends_are = sym (ap (λ (y : List (List ℕ)). sets ends (p.cells - 1) (ends_of (ltb 0 p.cells) p.words y)) t) ∙ f.ends_are_lem;
  words_are = sym (ap (λ (y : List (List ℕ)). sets words p.words (words_of y)) t) ∙ f.words_are;
}
