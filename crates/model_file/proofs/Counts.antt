-- How much records add to the lists: coordinates in threes, and as many ends as kinds.
use Prim.Native.Nat.{ℕ, ◌+◌, ◌%◌}
use mathlib.Core.Path.{◌≡◌, refl, sym, ap, ◌∙◌}
use mathlib.Core.List.{List, [], ◌∷◌, ◌++◌}
use mathlib.Core.Bool.{Bool, true, false, cond}
use native.Mathlib.Omega.{arith}
use lib.ListN.{length, length-append}
use Rattle.laws.specs.Lists.{only_if}
use Rattle.laws.proofs.Tests.{clash}
use Rattle.std.specs.Prelude.{Option, Some, None}
use Rattle.model_file.specs.Records.{letter, count, coords_in, words_in, stage, ended}
use Rattle.model_file.specs.File.{coords_of, kinds_of, ends_of}
use Rattle.model_file.specs.Steps.{judge}
use Rattle.model_file.specs.declared.Letter.{Letter}
use Rattle.model_file.specs.declared.Letter.TheVariants.{Node, Cell, More, Last}
use Rattle.model_file.specs.declared.Stage.{Stage}
use Rattle.model_file.specs.declared.Stage.TheVariants.{Nodes}
use Rattle.model_file.proofs.Judgement.{passed, after_last, none_left, stage_open}
use Rattle.model_file.proofs.Decoded.{kinds_step, ends_step}

-- a record adds three coordinates or none
threes_in : (l : Option Letter) (r : List ℕ) → length (coords_in l r) % 3 ≡ 0
threes_in (Some Node) r = refl
threes_in (Some Cell) r = refl
threes_in (Some More) r = refl
threes_in (Some Last) r = refl
threes_in None r = refl

-- so coordinates come in threes
pub threes : (rs : List (List ℕ)) → length (coords_of rs) % 3 ≡ 0
threes [] = refl
threes (r ∷ rs) = omega (arith, length-append (coords_in (letter r) r) (coords_of rs), threes_in (letter r) r, threes rs)

-- as many ends as cells
ends_count : (rs : List (List ℕ)) (s : Stage) (b : Bool) (at : ℕ) → ended s ≡ false → judge s rs ≡ 0 → length (ends_of b at rs) ≡ cond b 1 0 + length (kinds_of rs)
ends_count [] s b at o j = absurd (none_left s o j)
ends_count (r ∷ rs) s b at o j = go (letter r) refl (λ t c n u k. ends_count rs t c n u k)
  where
    go : (l : Option Letter) → letter r ≡ l → ((t : Stage) (c : Bool) (n : ℕ) → ended t ≡ false → judge t rs ≡ 0 → length (ends_of c n rs) ≡ cond c 1 0 + length (kinds_of rs)) → length (ends_of b at (r ∷ rs)) ≡ cond b 1 0 + length (kinds_of (r ∷ rs))
    go (Some Node) e ih = ap length (ends_step r rs (Some Node) e b at) ∙ ih Nodes b (at + 0) refl (passed s r rs (Some Node) e j).rest ∙ ap (λ (x : List ℕ). cond b 1 0 + length x) (sym (kinds_step r rs (Some Node) e))
    go (Some More) e ih = ap length (ends_step r rs (Some More) e b at) ∙ ih (stage (Some More) r) b (at + length (words_in (Some More) r)) (stage_open (count r)) (passed s r rs (Some More) e j).rest ∙ ap (λ (x : List ℕ). cond b 1 0 + length x) (sym (kinds_step r rs (Some More) e))
    go None e ih = clash refl (passed s r rs None e j).place
    go (Some Cell) e ih =
        let i = ih (stage (Some Cell) r) true (at + length (words_in (Some Cell) r)) (stage_open (count r)) (passed s r rs (Some Cell) e j).rest in
        let k = ap length (kinds_step r rs (Some Cell) e) in
        let n = ap length (ends_step r rs (Some Cell) e b at) ∙ length-append (only_if b (at ∷ [])) (ends_of true (at + length (words_in (Some Cell) r)) rs) in
        let m = ended b in
        omega arith
      where
        ended : (b : Bool) → length (only_if b (at ∷ [])) ≡ cond b 1 0
        ended true = refl
        ended false = refl
    go (Some Last) e ih =
        let n = after_last rs (passed s r rs (Some Last) e j).rest in
        ap length (ends_step r rs (Some Last) e b at ∙ ap (λ (x : List (List ℕ)). only_if b (at ∷ []) ++ ends_of b (at + 0) x) n)
        ∙ ended b
        ∙ ap (λ (x : List ℕ). cond b 1 0 + length x) (sym (kinds_step r rs (Some Last) e ∙ ap kinds_of n))
      where
        ended : (b : Bool) → length (only_if b (at ∷ []) ++ []) ≡ cond b 1 0 + 0
        ended true = refl
        ended false = refl

-- of a whole file
pub ends_as_cells : (rs : List (List ℕ)) → judge Nodes rs ≡ 0 → length (ends_of false 0 rs) ≡ length (kinds_of rs)
ends_as_cells rs j = let e = ends_count rs Nodes false 0 refl j in omega arith
