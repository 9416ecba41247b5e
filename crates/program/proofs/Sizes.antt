-- What a file of at most 1,024 records decodes to, three coordinates, a cell or 14 words a record; and arrays of the sizes lent.
use Prim.Native.Nat.{ℕ, ◌*◌, ◌/◌, ◌≤◌}
use mathlib.Core.Path.{◌≡◌, refl}
use mathlib.Core.Bool.{false}
use mathlib.Core.List.{List, [], ◌∷◌}
use native.Mathlib.Omega.{arith}
use borrow.Author.Tests.{le-ltb}
use lib.Dec.{ltb}
use lib.Ieee.{Float}
use lib.ListN.{length, replicate, length-append, length-replicate}
use Rattle.laws.specs.Limits.{input_limit}
use Rattle.model_file.specs.Records.{letter, coords_in, kinds_in, words_in, stage}
use Rattle.model_file.specs.File.{records, coords_of, kinds_of, words_of, ends_of, decode}
use Rattle.model_file.specs.Reading.{room_off}
use Rattle.model_file.specs.Steps.{judge}
use Rattle.model_file.specs.declared.Stage.{Stage}
use Rattle.model_file.specs.declared.Stage.TheVariants.{Nodes}
use Rattle.model_file.proofs.Judgement.{passed}
use Rattle.model_file.proofs.Counts.{ends_as_cells}
use Rattle.model_read.proofs.JudgePass.{little}
use Rattle.model_read.proofs.Answering.{length-chop}
use Rattle.program.specs.Running.{Lists, Memory}

-- what records that are not refused add is little
record Few (rs : List (List ℕ)) : Type 0 where
  coords : length (coords_of rs) ≤ 3 * length rs
  cells : length (kinds_of rs) ≤ length rs
  words : length (words_of rs) ≤ 14 * length rs

few : (s : Stage) (rs : List (List ℕ)) → judge s rs ≡ 0 → Few rs
few s [] j = record { coords = omega arith; cells = omega arith; words = omega arith }
few s (r ∷ rs) j =
    let p = passed s r rs (letter r) refl j in
    let q = little (letter r) r p.good in
    let ih = few (stage (letter r) r) rs p.rest in
    record {
      coords = omega (arith, q.coords, ih.coords, length-append (coords_in (letter r) r) (coords_of rs));
      cells = omega (arith, q.cells, ih.cells, length-append (kinds_in (letter r) r) (kinds_of rs));
      words = omega (arith, q.words, ih.words, length-append (words_in (letter r) r) (words_of rs));
    }

-- there is room for a file that the program reads: reading never refuses with 4
pub room : (s : List ℕ) (coords kinds ends words : ℕ) → Lists coords kinds ends words → length s ≤ input_limit → judge Nodes (records s) ≡ 0 → room_off (decode s) coords kinds ends words ≡ false
unfolding decode
room s coords kinds ends words l h j =
    let rs = records s in
    let n : length rs ≤ 1024 = omega (arith, length-chop (length s / 32) s) in
    let f = few Nodes rs j in
    let e = ends_as_cells rs j in
    let a : ltb coords (length (coords_of rs)) ≡ false = le-ltb coords (length (coords_of rs)) (omega (arith, f.coords, l.coords_many)) in
    let b : ltb kinds (length (kinds_of rs)) ≡ false = le-ltb kinds (length (kinds_of rs)) (omega (arith, f.cells, l.kinds_many)) in
    let c : ltb ends (length (ends_of false 0 rs)) ≡ false = le-ltb ends (length (ends_of false 0 rs)) (omega (arith, f.cells, l.ends_many)) in
    let d : ltb words (length (words_of rs)) ≡ false = le-ltb words (length (words_of rs)) (omega (arith, f.words, l.words_many)) in
    rw (a, b, c, d)

-- ---- arrays of the sizes that the program lends

-- an array of n elements is as long as that
pub long_enough : {A : Type 0} (n : ℕ) (x : A) → n ≤ length (replicate n x)
long_enough n x = omega (arith, length-replicate n x)

-- lists large enough
pub array_lists : (a : Float) (b c d : ℕ) → Lists (length (replicate 3072 a)) (length (replicate 1024 b)) (length (replicate 1024 c)) (length (replicate 14336 d))
array_lists a b c d = record { coords_many = long_enough 3072 a; kinds_many = long_enough 1024 b; ends_many = long_enough 1024 c; words_many = long_enough 14336 d }

-- findings and work, with an output of n bytes
pub array_memory : (a b n : ℕ) → 65600 ≤ n → Memory (length (replicate 32768 a)) (length (replicate 16384 b)) n
array_memory a b n h = record { finding_bytes = length-replicate 32768 a; work_words = length-replicate 16384 b; out_bytes = h }
