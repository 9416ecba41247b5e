-- What it says of records that their table refuses nothing.
use Prim.Native.Nat.{ℕ, ◌≤◌}
use mathlib.Core.Path.{◌≡◌, refl, subst}
use mathlib.Core.Bool.{Bool, true, false, cond}
use Rattle.std.specs.Prelude.{Option, Some, None}
use mathlib.Core.List.{List, [], ◌∷◌}
use native.Mathlib.Omega.{arith}
use lib.Dec.{eqb, leb}
use borrow.Author.Tests.{leb-true}
use Rattle.laws.proofs.Tests.{clash}
use Rattle.std.proofs.lemmas.Bool.{and_parts}
use Rattle.laws.proofs.Tables.{Numbered}
use Rattle.model_file.specs.Records.{letter, count, stage, in_nodes, ended, misplaced, words_right, record_off}
use Rattle.model_file.specs.File.{records_table}
use Rattle.model_file.specs.Steps.{judge}
use Rattle.model_file.specs.declared.Letter.{Letter}
use Rattle.model_file.specs.declared.Letter.TheVariants.{Node, Cell, More, Last}
use Rattle.model_file.specs.declared.Stage.{Stage}
use Rattle.model_file.specs.declared.Stage.TheVariants.{Cells, Full, Done}

-- every number of the records' table is a refusal's
pub records_numbered : (s : Stage) (rs : List (List ℕ)) → Numbered (records_table s rs)
records_numbered s [] = (λ e. omega arith, tt)
records_numbered s (r ∷ rs) = (λ e. omega arith, (λ e. omega arith, records_numbered (stage (letter r) r) rs))

-- the first record passes, and so do the rest
pub record Passed (s : Stage) (r : List ℕ) (rs : List (List ℕ)) (l : Option Letter) : Type 0 where
  pub place : misplaced s l ≡ false
  pub good : record_off l r ≡ false
  pub rest : judge (stage l r) rs ≡ 0

-- neither row of a record holds
pub two_rows : (p q : Bool) (n : ℕ) → ◌≡◌ {A = ℕ} (cond p 2 (cond q 3 n)) 0 → (p ≡ false) × ((q ≡ false) × (n ≡ 0))
two_rows false false n e = (refl, (refl, e))
two_rows true q n e = absurd (omega arith)
two_rows false true n e = absurd (omega arith)

-- a record of a known letter in front of others
pub passed : (s : Stage) (r : List ℕ) (rs : List (List ℕ)) (l : Option Letter) → letter r ≡ l → judge s (r ∷ rs) ≡ 0 → Passed s r rs l
passed s r rs l e h =
    let p = two_rows (misplaced s (letter r)) (record_off (letter r) r) (judge (stage (letter r) r) rs) h in
    subst (λ (k : Option Letter). Passed s r rs k) e (record { place = p.0; good = p.1.0; rest = p.1.1 })

-- after T every letter is misplaced
misplaced_all : (l : Option Letter) → misplaced Done l ≡ true
misplaced_all (Some Node) = refl
misplaced_all (Some Cell) = refl
misplaced_all (Some More) = refl
misplaced_all (Some Last) = refl
misplaced_all None = refl

-- nothing follows T
pub after_last : (rs : List (List ℕ)) → judge Done rs ≡ 0 → rs ≡ []
after_last [] h = refl
after_last (r ∷ rs) h = clash (misplaced_all (letter r)) (passed Done r rs (letter r) refl h).place

-- T does not lack
pub none_left : (s : Stage) → ended s ≡ false → judge s [] ≡ 0 → ⊥
none_left s u h = omega (arith, rw u at h)

-- a record's word count
pub word_count : (least : ℕ) (r : List ℕ) → words_right least r ≡ true → (least ≤ count r) × (count r ≤ 14)
word_count least r g =
    let p = and_parts (leb least (count r)) _ g in
    let q = and_parts (leb (count r) 14) _ p.1 in
    (leb-true least (count r) p.0, leb-true (count r) 14 q.0)

-- the stage after a cell's record: full or not, T does not stand before, and not only nodes do
pub stage_open : (c : ℕ) → ended (cond (eqb c 14) Full Cells) ≡ false
stage_open c = go (eqb c 14)
  where
    go : (b : Bool) → ended (cond b Full Cells) ≡ false
    go true = refl
    go false = refl

pub stage_cells : (c : ℕ) → in_nodes (cond (eqb c 14) Full Cells) ≡ false
stage_cells c = go (eqb c 14)
  where
    go : (b : Bool) → in_nodes (cond b Full Cells) ≡ false
    go true = refl
    go false = refl
