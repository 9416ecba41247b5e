-- A layout's fields are what it was made of, and a record that is not refused is the layout of its fields.
use Prim.Native.Nat.{ℕ, suc, ◌+◌, ◌*◌, ◌-◌, ◌^◌, ◌≤◌, ◌<◌}
use mathlib.Core.Path.{◌≡◌, refl, sym, ap, ap₂, ◌∙◌}
use mathlib.Core.Logic.{◌⊎◌, inl, inr}
use mathlib.Core.List.{List, [], ◌∷◌, ◌++◌}
use mathlib.Core.Bool.{true, false, not, ◌&&◌}
use Rattle.std.specs.Prelude.{Option, Some, None}
use native.Mathlib.Omega.{arith}
use lib.ListN.{length, get_or, take, drop, replicate, length-append, length-drop, length-replicate, take-append-drop}
use lib.Seq.{slice, length-slice, take_all, drop_at, drop-drop, drop-append-le, length-take-le}
use lib.Dec.{T, eqb, leb}
use lib.Ieee.{Float, binary64, of_bits, to_bits, is_nan}
use lib.Ieee.Bits.{of_bits-to_bits, to_bits-of_bits, to_bits-lt}
use borrow.Author.Tests.{eqb-true, leb-true, le-leb, not-false}
use Rattle.laws.specs.Bytes.{number, bytes, zeros}
use Rattle.std.proofs.lemmas.Bool.{and_parts, cases_Bool}
use Rattle.laws.proofs.ByteLaws.{number_bytes}
use Rattle.floats.specs.Floats.{float_of, float_bytes}
use Rattle.model_file.specs.Records.{word_bytes, words_at, node_record, word_record, last_record, letter_of, letter, byte1, count, float_at, cap_in, coords_in, words_right, record_off}
use Rattle.laws.specs.Lists.{All}
use Rattle.model_file.specs.Held.{Byte, Fits}
use Rattle.model_file.specs.declared.Letter.{Letter}
use Rattle.model_file.specs.declared.Letter.TheVariants.{Node, Cell, More, Last}
use Rattle.laws.proofs.Holding.{all_take, all_drop}
use Rattle.model_file.proofs.Numbers.{bytes_number, number_lt, zeros_true, zeros-replicate}
use Rattle.model_file.proofs.Fields.{length-word_bytes, length-words_at, bytes_words}

-- a value that is no NaN
abbrev pub Real : Float → Type 0
Real x = T (not (is_nan x))

-- ---- the first byte of each letter

-- what the first byte of a letter's record is
abbrev pub Marks : Option Letter → ℕ → Type 0
Marks (Some Node) b = b ≡ 78
Marks (Some Cell) b = b ≡ 67
Marks (Some More) b = b ≡ 75
Marks (Some Last) b = b ≡ 84
Marks None b = Unit {0}

-- a byte, by the letter that it is read as
marks : (b : ℕ) → Marks (letter_of b) b
marks b = go (cases_Bool (eqb b 78)) (cases_Bool (eqb b 67)) (cases_Bool (eqb b 75)) (cases_Bool (eqb b 84))
  where
    go : (eqb b 78 ≡ true) ⊎ (eqb b 78 ≡ false) → (eqb b 67 ≡ true) ⊎ (eqb b 67 ≡ false) → (eqb b 75 ≡ true) ⊎ (eqb b 75 ≡ false) → (eqb b 84 ≡ true) ⊎ (eqb b 84 ≡ false) → Marks (letter_of b) b
    go (inl e) _ _ _ = rw e (eqb-true b 78 e)
    go (inr d) (inl e) _ _ = rw (d, e) (eqb-true b 67 e)
    go (inr d) (inr f) (inl e) _ = rw (d, f, e) (eqb-true b 75 e)
    go (inr d) (inr f) (inr g) (inl e) = rw (d, f, g, e) (eqb-true b 84 e)
    go (inr d) (inr f) (inr g) (inr e) = rw (d, f, g, e) tt

-- a record, by its letter
pub marked : (r : List ℕ) (l : Option Letter) → letter r ≡ l → Marks l (get_or r 0 0)
marked r l e = rw e at (marks (get_or r 0 0))

-- ---- from the values to the bytes and back

-- a value comes back out of its bytes
float_back : (x : Float) → Fits x → float_of (float_bytes x) ≡ x
float_back x h = ap (of_bits binary64) (number_bytes 8 (to_bits binary64 x) (to_bits-lt binary64 x h)) ∙ of_bits-to_bits binary64 x h

-- the coordinates of an N
pub node_coords_lem : (x y z : Float) → Fits x → Fits y → Fits z → coords_in (Some Node) (node_record x y z) ≡ x ∷ y ∷ z ∷ []
node_coords_lem x y z hx hy hz = λ i. float_back x hx i ∷ float_back y hy i ∷ float_back z hz i ∷ []

module _ (l k : ℕ) (ws : List ℕ) (small : length ws ≤ 14) where
  -- a C or K has 32 bytes
  pub word_length : length (word_record l k ws) ≡ 32
  word_length = simp (length-append, length-replicate, length-word_bytes) (omega arith)

  -- its unused words are zero
  word_zeros : zeros (slice (4 + 2 * length ws) 32 (word_record l k ws)) ≡ true
  word_zeros =
      let n : length (word_record l k ws) ≤ 32 = omega (arith, word_length) in
      let e : 4 + 2 * length ws ≡ suc (suc (suc (suc (2 * length ws)))) = omega arith in
      rw (take_all 32 (word_record l k ws) n, e, drop_at (word_bytes ws) (replicate (28 - 2 * length ws) 0) (2 * length ws) (length-word_bytes ws)) (zeros-replicate (28 - 2 * length ws))

  -- it is judged right
  pub word_right : (least : ℕ) → least ≤ length ws → words_right least (word_record l k ws) ≡ true
  word_right least h = rw (le-leb least (length ws) h, le-leb (length ws) 14 small) word_zeros

-- the cap and the tolerance of T
pub last_cap : (f c : ℕ) (t : Float) → c < 65536 → cap_in (last_record f c t) ≡ c
last_cap f c t h = number_bytes 2 c h

pub last_tolerance : (f c : ℕ) (t : Float) → Fits t → float_at 8 (last_record f c t) ≡ t
last_tolerance f c t h = float_back t h

-- ---- from the bytes to the values and back

-- the first bytes of a record, and the rest
front : (r : List ℕ) → 4 ≤ length r → r ≡ get_or r 0 0 ∷ get_or r 1 0 ∷ get_or r 2 0 ∷ get_or r 3 0 ∷ drop 4 r
front [] h = absurd (omega arith)
front (a ∷ []) h = absurd (omega arith)
front (a ∷ b ∷ []) h = absurd (omega arith)
front (a ∷ b ∷ c ∷ []) h = absurd (omega arith)
front (a ∷ b ∷ c ∷ d ∷ r) h = refl

front1 : (r : List ℕ) → 1 ≤ length r → r ≡ get_or r 0 0 ∷ drop 1 r
front1 [] h = absurd (omega arith)
front1 (a ∷ r) h = refl

front2 : (r : List ℕ) → 2 ≤ length r → r ≡ get_or r 0 0 ∷ get_or r 1 0 ∷ drop 2 r
front2 [] h = absurd (omega arith)
front2 (a ∷ []) h = absurd (omega arith)
front2 (a ∷ b ∷ r) h = refl

module _ (r : List ℕ) (long : length r ≡ 32) (each : All Byte r) where
  -- a run of bytes, and what follows
  run : (a b : ℕ) → a ≤ b → b ≤ 32 → drop a r ≡ slice a b r ++ drop b r
  run a b h k =
      let w : b ≤ length r = omega arith in
      ap (drop a) (sym (take-append-drop b r)) ∙ drop-append-le a (take b r) (drop b r) (rw (length-take-le b r w) h)

  -- the run of all
  all : slice 0 32 r ≡ r
  all = take_all 32 r (omega arith)

  -- a run of zeros
  run_zeros : (a b : ℕ) → b ≤ 32 → zeros (slice a b r) ≡ true → slice a b r ≡ replicate (b - a) 0
  run_zeros a b k e =
      let w : b ≤ length r = omega arith in
      zeros_true (slice a b r) e ∙ ap (λ (n : ℕ). replicate n 0) (length-slice a b r w)

  -- a run that is a value
  run_float : (a b : ℕ) → b ≡ a + 8 → b ≤ 32 → Real (float_at a r) → float_bytes (float_at a r) ≡ slice a b r
  run_float a b e k h =
      let w : b ≤ length r = omega arith in
      let s = slice a b r in
      let n : length s ≡ 8 = length-slice a b r w ∙ omega arith in
      let q : All Byte s = all_drop Byte a (take b r) (all_take Byte b r each) in
      let lt : number s < 256 ^ 8 = rw n at (number_lt s q) in
      let real : Real (of_bits binary64 (number s)) = rw (← e) at h in
      rw (← e) (ap (bytes 8) (to_bits-of_bits binary64 (number s) lt real) ∙ (rw n at (bytes_number s q)))

  -- an N is the layout of its coordinates
  pub node_back : letter r ≡ Some Node → record_off (Some Node) r ≡ false → All Real (coords_in (Some Node) r) → node_record (float_at 8 r) (float_at 16 r) (float_at 24 r) ≡ r
  node_back e z h =
      let tail : drop 24 r ≡ slice 24 32 r = ap (drop 24) (sym all) in
      sym (front1 r (omega arith)
      ∙ ap₂ (λ (b : ℕ) (t : List ℕ). b ∷ t) (marked r (Some Node) e)
      (run 1 8 (omega arith) (omega arith)
      ∙ ap₂ (λ (s t : List ℕ). s ++ t) (run_zeros 1 8 (omega arith) (not-false (zeros (slice 1 8 r)) z))
      (run 8 16 (omega arith) (omega arith)
      ∙ ap₂ (λ (s t : List ℕ). s ++ t) (sym (run_float 8 16 refl (omega arith) h.0))
      (run 16 24 (omega arith) (omega arith)
      ∙ ap₂ (λ (s t : List ℕ). s ++ t) (sym (run_float 16 24 refl (omega arith) h.1.0)) (tail ∙ sym (run_float 24 32 refl (omega arith) h.1.1.0))))))

  -- a C or K is that of its words
  pub word_back : (l least : ℕ) → get_or r 0 0 ≡ l → words_right least r ≡ true → word_record l (byte1 r) (words_at (count r) (drop 4 r)) ≡ r
  word_back l least e z =
      let p = and_parts (leb least (count r)) _ z in
      let q = and_parts (leb (count r) 14) _ p.1 in
      let s = and_parts (eqb (get_or r 3 0) 0) _ q.1 in
      let small : count r ≤ 14 = leb-true (count r) 14 q.0 in
      let n : 32 - (4 + 2 * count r) ≡ 28 - 2 * count r = omega arith in
      let tail : drop (2 * count r) (drop 4 r) ≡ replicate (28 - 2 * count r) 0 = drop-drop (2 * count r) 4 r ∙ ap (drop (4 + 2 * count r)) (sym all) ∙ run_zeros (4 + 2 * count r) 32 (omega arith) s.1 ∙ ap (λ (m : ℕ). replicate m 0) n in
      let body : word_bytes (words_at (count r) (drop 4 r)) ++ replicate (28 - 2 * count r) 0 ≡ drop 4 r = rw (← tail) (bytes_words (count r) (drop 4 r) (all_drop Byte 4 r each) (omega (arith, length-drop 4 r))) in
      rw (length-words_at (count r) (drop 4 r)) (λ i. sym e i ∷ get_or r 1 0 ∷ get_or r 2 0 ∷ sym (eqb-true (get_or r 3 0) 0 s.0) i ∷ body i) ∙ sym (front r (omega arith))

  -- a T is that of its fields
  pub last_back : letter r ≡ Some Last → record_off (Some Last) r ≡ false → Real (float_at 8 r) → last_record (byte1 r) (cap_in r) (float_at 8 r) ≡ r
  last_back e z h =
      let p = and_parts (zeros (slice 4 8 r)) (zeros (slice 16 32 r)) (not-false (zeros (slice 4 8 r) && zeros (slice 16 32 r)) z) in
      let cap : bytes 2 (cap_in r) ≡ slice 2 4 r =
      (let w : 4 ≤ length r = omega arith in rw (length-slice 2 4 r w) at (bytes_number (slice 2 4 r) (all_drop Byte 2 (take 4 r) (all_take Byte 4 r each)))) in
      let tail : drop 16 r ≡ slice 16 32 r = ap (drop 16) (sym all) in
      sym (front2 r (omega arith)
      ∙ (λ i. marked r (Some Last) e i ∷ get_or r 1 0 ∷ drop 2 r)
      ∙ ap (λ (t : List ℕ). 84 ∷ get_or r 1 0 ∷ t)
      (run 2 4 (omega arith) (omega arith)
      ∙ ap₂ (λ (s t : List ℕ). s ++ t) (sym cap)
      (run 4 8 (omega arith) (omega arith)
      ∙ ap₂ (λ (s t : List ℕ). s ++ t) (run_zeros 4 8 (omega arith) p.0)
      (run 8 16 (omega arith) (omega arith)
      ∙ ap₂ (λ (s t : List ℕ). s ++ t) (sym (run_float 8 16 refl (omega arith) h)) (tail ∙ run_zeros 16 32 (omega arith) p.1)))))
