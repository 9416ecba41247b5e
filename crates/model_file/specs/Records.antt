-- The records of 32 bytes: their layouts, their fields, what each adds to a model, and what is refused of one.
use Rattle.std.specs.Prelude.{ℕ, zero, suc, ◌+◌, ◌-◌, ◌*◌, Bool, true, false, not, cond, ◌&&◌, Option, Some, None, List, [], ◌∷◌, ◌++◌, leb, eqb, length, get_or, take, drop, replicate, Float}
use Rattle.std.proofs.Math.Seq.{slice}
use Rattle.laws.specs.Bytes.{number, bytes, zeros}
use Rattle.laws.specs.Lists.{only_if, each}
use Rattle.floats.specs.Floats.{float_of, float_bytes}
use Rattle.mesh.specs.Rings.{separator}
use Rattle.model_file.specs.declared.Letter.{Letter}
use Rattle.model_file.specs.declared.Letter.TheVariants.{Node, Cell, More, Last}
use Rattle.model_file.specs.declared.Stage.{Stage}
use Rattle.model_file.specs.declared.Stage.TheVariants.{Nodes, Cells, Full, Done}

-- ---- words: 16 bits in the file, 32 in the model; the separator is the largest of either

-- words in a full record
abbrev pub words_most : ℕ
words_most = 14

-- a word of the model in the file
abbrev pub narrow : ℕ → ℕ
narrow w = cond (eqb w separator) 65535 w

-- a word of the file in the model
abbrev pub widen : ℕ → ℕ
widen w = cond (eqb w 65535) separator w

-- the bytes of words
abbrev pub word_bytes : List ℕ → List ℕ
word_bytes ws = each (λ w. bytes 2 (narrow w)) ws

-- n words from the front of a list of bytes
abbrev pub words_at : ℕ → List ℕ → List ℕ
words_at zero l = []
words_at (suc n) l = widen (number (take 2 l)) ∷ words_at n (drop 2 l)

-- ---- the layouts

-- N: byte 0 = 78, bytes 8 to 31 the coordinates
abbrev pub node_record : Float → Float → Float → List ℕ
node_record x y z = 78 ∷ (replicate 7 0 ++ (float_bytes x ++ (float_bytes y ++ float_bytes z)))

-- byte 1 a kind or zero, byte 2 word count, from byte 4 fourteen 16-bit words, those not used zero
abbrev pub word_record : ℕ → ℕ → List ℕ → List ℕ
word_record letter kind ws = letter ∷ kind ∷ length ws ∷ 0 ∷ (word_bytes ws ++ replicate (28 - 2 * length ws) 0)

-- C: byte 0 = 67
abbrev pub cell_record : ℕ → List ℕ → List ℕ
cell_record kind ws = word_record 67 kind ws

-- K: byte 0 = 75, continues a cell
abbrev pub more_record : List ℕ → List ℕ
more_record ws = word_record 75 0 ws

-- T: byte 0 = 84, byte 1 flags, bytes 2 and 3 cap, bytes 8 to 15 tolerance
abbrev pub last_record : ℕ → ℕ → Float → List ℕ
last_record flags cap tolerance = 84 ∷ flags ∷ (bytes 2 cap ++ (replicate 4 0 ++ (float_bytes tolerance ++ replicate 16 0)))

-- ---- the fields

-- what a record is, by its byte 0; none where the letter is unknown
abbrev pub letter_of : ℕ → Option Letter
letter_of b = cond (eqb b 78) (Some Node) (cond (eqb b 67) (Some Cell) (cond (eqb b 75) (Some More) (cond (eqb b 84) (Some Last) None)))

-- a record's letter
abbrev pub letter : List ℕ → Option Letter
letter r = letter_of (get_or r 0 0)

-- a cell's kind, and the flags of T
abbrev pub byte1 : List ℕ → ℕ
byte1 r = get_or r 1 0

-- a record's word count
abbrev pub count : List ℕ → ℕ
count r = get_or r 2 0

-- the f64 at a byte
abbrev pub float_at : ℕ → List ℕ → Float
float_at a r = float_of (slice a (a + 8) r)

-- the cap of T
abbrev pub cap_in : List ℕ → ℕ
cap_in r = number (slice 2 4 r)

-- one of five values, by the letter: N, C, K, T, none of these
abbrev pub by_letter : {A : Type 0} → A → A → A → A → A → Option Letter → A
by_letter n c k t none (Some Node) = n
by_letter n c k t none (Some Cell) = c
by_letter n c k t none (Some More) = k
by_letter n c k t none (Some Last) = t
by_letter n c k t none None = none

-- ---- what a record adds to the model

-- N: three coordinates
abbrev pub coords_in : Option Letter → List ℕ → List Float
coords_in l r = by_letter (float_at 8 r ∷ float_at 16 r ∷ float_at 24 r ∷ []) [] [] [] [] l

-- C: a kind
abbrev pub kinds_in : Option Letter → List ℕ → List ℕ
kinds_in l r = by_letter [] (byte1 r ∷ []) [] [] [] l

-- C and K: words
abbrev pub words_in : Option Letter → List ℕ → List ℕ
words_in l r = by_letter [] (words_at (count r) (drop 4 r)) (words_at (count r) (drop 4 r)) [] [] l

-- C and T: an open cell ends, after so many words, where the next begins or T stands
abbrev pub ends_in : Option Letter → Bool → ℕ → List ℕ
ends_in l begun at = by_letter [] (only_if begun (at ∷ [])) [] (only_if begun (at ∷ [])) [] l

-- ---- what is refused of a record

-- where a file stands after a record; it starts as after an N
abbrev pub stage : Option Letter → List ℕ → Stage
stage l r = by_letter Nodes (cond (eqb (count r) words_most) Full Cells) (cond (eqb (count r) words_most) Full Cells) Done Done l

-- only nodes stand before
abbrev pub in_nodes : Stage → Bool
in_nodes Nodes = true
in_nodes _ = false

-- a full record of a cell stands before
abbrev pub after_full : Stage → Bool
after_full Full = true
after_full _ = false

-- T stands before
abbrev pub ended : Stage → Bool
ended Done = true
ended _ = false

-- 2: letter unknown or misplaced
abbrev pub misplaced : Stage → Option Letter → Bool
misplaced s l = by_letter (not (in_nodes s)) (ended s) (not (after_full s)) (ended s) true l

-- a count from `least` on, byte 3 and the unused words zero
abbrev pub words_right : ℕ → List ℕ → Bool
words_right least r = leb least (count r) && (leb (count r) words_most && (eqb (get_or r 3 0) 0 && zeros (slice (4 + 2 * count r) 32 r)))

-- 3: a count or zero byte wrong
abbrev pub record_off : Option Letter → List ℕ → Bool
record_off l r = by_letter (not (zeros (slice 1 8 r))) (not (words_right 0 r)) (not (eqb (byte1 r) 0 && words_right 1 r)) (not (zeros (slice 4 8 r) && zeros (slice 16 32 r))) false l
