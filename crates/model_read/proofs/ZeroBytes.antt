-- Zero bytes, tested by the number that they are.
use Prim.Native.Nat.{ℕ, ◌+◌, ◌*◌, ◌-◌, ◌≤◌, ◌<◌}
use mathlib.Core.Path.{◌≡◌, refl, sym, ap, ap₂, ◌∙◌}
use mathlib.Core.Bool.{Bool, true, false, ◌&&◌}
use mathlib.Core.List.{List, [], ◌∷◌, ◌++◌}
use native.Mathlib.Omega.{arith}
use lib.Dec.{eqb}
use lib.ListN.{take, drop}
use lib.Seq.{slice, take-add, drop-drop}
use borrow.Author.Tests.{eqb-true, eq-eqb}
use Rattle.laws.specs.Bytes.{number, zeros}
use Rattle.laws.proofs.Stores.{take-drop}
use Rattle.laws.proofs.Tests.{both_ways}
use Rattle.std.proofs.lemmas.Bool.{and_parts}

-- a number below 256 is its first byte, and no other
pub first_byte : (b m k : ℕ) → k < 256 → (eqb b k && eqb m 0) ≡ eqb (b + 256 * m) k
first_byte b m k h = both_ways (eqb b k && eqb m 0) (eqb (b + 256 * m) k) there back
  where
    there : (eqb b k && eqb m 0) ≡ true → eqb (b + 256 * m) k ≡ true
    there e =
        let p = and_parts (eqb b k) (eqb m 0) e in
        let x = eqb-true b k p.0 in
        let y = eqb-true m 0 p.1 in
        eq-eqb (b + 256 * m) k (omega arith)

    back : eqb (b + 256 * m) k ≡ true → (eqb b k && eqb m 0) ≡ true
    back e =
        let x = eqb-true (b + 256 * m) k e in
        let y : m ≡ 0 = omega arith in
        let z : b ≡ k = omega arith in
        rw (eq-eqb b k z, eq-eqb m 0 y)

-- bytes are zero where their number is
pub zeros_number : (l : List ℕ) → zeros l ≡ eqb (number l) 0
zeros_number [] = refl
zeros_number (b ∷ l) = ap (λ (t : Bool). eqb b 0 && t) (zeros_number l) ∙ first_byte b (number l) 0 (omega arith)

-- a number read from them, tested
pub zero_read : (l : List ℕ) (v : ℕ) → v ≡ number l → eqb v 0 ≡ zeros l
zero_read l v e = ap (λ (k : ℕ). eqb k 0) e ∙ sym (zeros_number l)

-- two runs
zeros_append : (a b : List ℕ) → zeros (a ++ b) ≡ (zeros a && zeros b)
zeros_append [] b = refl
zeros_append (x ∷ a) b = ap (λ (t : Bool). eqb x 0 && t) (zeros_append a b) ∙ assoc (eqb x 0) (zeros a) (zeros b)
  where
    assoc : (p q r : Bool) → (p && (q && r)) ≡ ((p && q) && r)
    assoc true q r = refl
    assoc false q r = refl

-- a run cut in two
zeros_cut : (a b e : ℕ) (s : List ℕ) → a ≤ b → b ≤ e → zeros (slice a e s) ≡ (zeros (slice a b s) && zeros (slice b e s))
zeros_cut a b e s h k = ap zeros parts ∙ zeros_append (slice a b s) (slice b e s)
  where
    parts : slice a e s ≡ slice a b s ++ slice b e s
    parts =
        let x : a + (e - a) ≡ e = omega arith in
        let y : a + (b - a) ≡ b = omega arith in
        let z : b + (e - b) ≡ e = omega arith in
        let w : e - a ≡ b - a + (e - b) = omega arith in
        sym (take-drop a (e - a) s ∙ ap (λ (n : ℕ). slice a n s) x)
        ∙ ap (λ (n : ℕ). take n (drop a s)) w
        ∙ take-add (b - a) (e - b) (drop a s)
        ∙ ap₂ (λ (p q : List ℕ). p ++ q) (take-drop a (b - a) s ∙ ap (λ (n : ℕ). slice a n s) y) (ap (take (e - b)) (drop-drop (b - a) a s ∙ ap (λ (n : ℕ). drop n s) y) ∙ take-drop b (e - b) s ∙ ap (λ (n : ℕ). slice b n s) z)

-- a run as two that may lie over one another
pub zeros_cover : (a b c e : ℕ) (s : List ℕ) → a ≤ c → c ≤ b → b ≤ e → zeros (slice a e s) ≡ (zeros (slice a b s) && zeros (slice c e s))
zeros_cover a b c e s h k m =
    zeros_cut a c e s h (omega arith)
    ∙ ap (λ (t : Bool). zeros (slice a c s) && t) (zeros_cut c b e s k m)
    ∙ twice (zeros (slice a c s)) (zeros (slice c b s)) (zeros (slice b e s))
    ∙ sym (ap₂ ◌&&◌ (zeros_cut a c b s h k) (zeros_cut c b e s k m))
  where
    twice : (p q r : Bool) → (p && (q && r)) ≡ ((p && q) && (q && r))
    twice true true r = refl
    twice true false r = refl
    twice false q r = refl
