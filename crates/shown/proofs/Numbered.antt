-- Cells under their numbers, and their faces, counted.
use Prim.Native.Nat.{ℕ, zero, suc, ◌+◌, ◌<◌}
use mathlib.Core.Path.{◌≡◌, refl, sym, ap, ◌∙◌}
use mathlib.Core.List.{List, [], ◌∷◌, ◌++◌, append-nil}
use native.Mathlib.Nat.{zero-add, add-zero, add-suc, suc-add}
use native.Mathlib.Numerals.{add-one}
use native.Mathlib.Omega.{arith}
use lib.ListN.{length, get_or, take, drop, length-append, length-map}
use lib.Seq.{take-suc, split_at}
use Rattle.laws.specs.Lists.{each}
use Rattle.laws.proofs.ListLaws.{each_append}
use Rattle.mesh.specs.Model.{Model, Raw, cells_of}
use Rattle.mesh.specs.Rings.{Cell, Face, rings_of, number_from, numbered, faces_of, faces}
use Rattle.mesh.specs.Acceptance.{faces_in}
use Rattle.mesh.proofs.ModelTable.{rings_numbered}
use Rattle.findings.specs.Rules.{cells_in}
use Rattle.findings.specs.Compared.{none}

-- ---- cells numbered from i on, their faces from n on

-- as many as there are cells
long_from : (i n : ℕ) (cs : List Raw) → length (number_from rings_of i n cs) ≡ length cs
unfolding number_from
long_from i n [] = refl
long_from i n (c ∷ cs) = ap suc (long_from (suc i) (n + length (rings_of c)) cs)

-- the number of cell c
num_from : (i n : ℕ) (cs : List Raw) (c : ℕ) (d : Cell) → c < length cs → (get_or (number_from rings_of i n cs) c d).num ≡ i + c
unfolding number_from
num_from i n [] c d h = absurd (omega arith)
num_from i n (x ∷ cs) zero d h = sym (add-zero i)
num_from i n (x ∷ cs) (suc c) d h = num_from (suc i) (n + length (rings_of x)) cs c d (omega arith) ∙ suc-add i c ∙ sym (add-suc i c)

-- its kind and words
raw_from : (i n : ℕ) (cs : List Raw) (c : ℕ) (d : Cell) → c < length cs → (get_or (number_from rings_of i n cs) c d).raw ≡ get_or cs c none
unfolding number_from
raw_from i n [] c d h = absurd (omega arith)
raw_from i n (x ∷ cs) zero d h = refl
raw_from i n (x ∷ cs) (suc c) d h = raw_from (suc i) (n + length (rings_of x)) cs c d (omega arith)

-- the first c of them
take_from : (i n : ℕ) (cs : List Raw) (c : ℕ) → take c (number_from rings_of i n cs) ≡ number_from rings_of i n (take c cs)
unfolding number_from
take_from i n cs zero = refl
take_from i n [] (suc c) = refl
take_from i n (x ∷ cs) (suc c) = ap (λ (l : List Cell). record { num = i; from = n; raw = x } ∷ l) (take_from (suc i) (n + length (rings_of x)) cs c)

-- ---- a model's

module _ (m : Model) where
  -- as many as it has
  pub cells_long : length (cells_in m) ≡ length (cells_of m)
  unfolding cells_in numbered
  cells_long = long_from 0 0 (cells_of m)

  -- a cell's number is its place
  pub num_in : (c : ℕ) (d : Cell) → c < length (cells_of m) → (get_or (cells_in m) c d).num ≡ c
  unfolding cells_in numbered
  num_in c d h = num_from 0 0 (cells_of m) c d h ∙ zero-add c

  -- its kind and words are those of the cell there
  pub raw_in : (c : ℕ) (d : Cell) → c < length (cells_of m) → (get_or (cells_in m) c d).raw ≡ get_or (cells_of m) c none
  unfolding cells_in numbered
  raw_in c d h = raw_from 0 0 (cells_of m) c d h

  -- the first c cells have as many faces as rings
  pub faces_before : (c : ℕ) → length (faces rings_of (take c (cells_in m))) ≡ length (each rings_of (take c (cells_of m)))
  unfolding cells_in numbered
  faces_before c =
      let fs = faces rings_of (number_from rings_of 0 0 (take c (cells_of m))) in
      ap (λ (l : List Cell). length (faces rings_of l)) (take_from 0 0 (cells_of m) c)
      ∙ sym (length-map fs (λ (f : Face). f.ring))
      ∙ ap length (rings_numbered 0 0 (take c (cells_of m)))

  -- one cell more has its faces more
  pub faces_more : (c : ℕ) (d : Cell) → c < length (cells_of m) → length (faces rings_of (take (c + 1) (cells_in m))) ≡ length (faces rings_of (take c (cells_in m))) + length (faces_of rings_of (get_or (cells_in m) c d))
  unfolding faces
  faces_more c d h =
      let one = get_or (cells_in m) c d in
      ap (λ (n : ℕ). length (faces rings_of (take n (cells_in m)))) (add-one c)
      ∙ ap (λ (l : List Cell). length (faces rings_of l)) (take-suc (cells_in m) c d (omega (arith, h, cells_long)))
      ∙ ap length (each_append (faces_of rings_of) (take c (cells_in m)) (one ∷ []) ∙ ap (λ (l : List Face). faces rings_of (take c (cells_in m)) ++ l) (append-nil (faces_of rings_of one)))
      ∙ length-append (faces rings_of (take c (cells_in m))) (faces_of rings_of one)

  -- all faces: those of the cells before cell c, its own, and those of the cells after it
  pub faces_around : (c : ℕ) (d : Cell) → c < length (cells_of m)
      → faces_in m ≡ faces rings_of (take c (cells_in m)) ++ (faces_of rings_of (get_or (cells_in m) c d) ++ faces rings_of (drop (c + 1) (cells_in m)))
  unfolding faces_in cells_in faces
  faces_around c d h =
      let one = get_or (cells_in m) c d in
      ap (faces rings_of) (split_at (cells_in m) c d (omega (arith, h, cells_long)) ∙ ap (λ (n : ℕ). take c (cells_in m) ++ (one ∷ drop n (cells_in m))) (sym (add-one c)))
      ∙ each_append (faces_of rings_of) (take c (cells_in m)) (one ∷ drop (c + 1) (cells_in m))
