-- Differences of finite values keep the order: x - c is no higher than y - c where x is no higher than y (`sub_under`),
-- and the square of a difference does not shrink as the second value moves away from the first (`gap_up`, `gap_down`).
use mathlib.Core.Path.{◌≡◌, refl, sym, ap, ap₂, ◌∙◌}
use mathlib.Core.Logic.{◌⊎◌, inl, inr, ⊎_elim}
use mathlib.Core.Bool.{Bool, true, false, not, ◌&&◌, cond}
use Prim.Native.Nat.{ℕ, zero, suc, ◌+◌, ◌-◌, ◌*◌, ◌^◌, ◌≤◌, ◌<◌}
use native.Mathlib.Nat.{le_trans, le_of_eq, mul_comm, mul_assoc, mul_left_comm, mul_right_comm, mul-mul-mul_comm, mul-sub, add-mul, zero-mul, mul-le-mul, mul-le-mul_right, mul-pos}
use native.Mathlib.Omega.{arith}
use lib.Dec.{T, ltb}
use lib.Pow.{pow_pos}
use lib.Ieee.{Float, nan, inf, fin, Format, binary64, prec, emax, low, up, down, odd, units, round, neg, sum, sub, mul, below, lt, le, is_nan}
use lib.Ieee.Fits.{down_pos, round_is}
use lib.Ieee.Exact.{HasValue, round_exact}
use lib.Ieee.Order.{round_mono}
use lib.Ieee.Scale.{round_same}
use borrow.Author.Tests.{ltb-true, ltb-false}
use Rattle.laws.proofs.Tests.{clash}
use Rattle.std.proofs.lemmas.Bool.{cases_Bool}
use Rattle.floats.specs.Floats.{is_finite}
use Rattle.floats.proofs.Monotone.{grown, not_grown, no_lower, top}
use Rattle.floats.proofs.Rounding.{round_grown}
use Rattle.floats.proofs.Signed.{ltb_scale, over, under, to_below, lt_neg, lt_flip, Part, widened, widened_back, lt_part, part_order}

-- ---- rounded fractions

-- a minus sign goes through `odd`
odd_neg : (d q k l : ℕ) → odd d true q k l ≡ neg (odd d false q k l)
unfolding odd neg
odd_neg d zero k l = refl
odd_neg d (suc q) k l = refl

-- through `units`
units-neg : (f : Format) (q k : ℕ) → units f true q k ≡ neg (units f false q k)
unfolding units neg
units-neg f q k = go (ltb (q * 2 ^ k) (2 ^ (low f + suc (emax f))))
  where
    go : (b : Bool) → cond b (odd (suc (prec f)) true q k (low f)) (inf true) ≡ neg (cond b (odd (suc (prec f)) false q k (low f)) (inf false))
    go true = odd_neg (suc (prec f)) q k (low f)
    go false = refl

-- and through `round`
round-neg : (f : Format) (a c : ℕ) → round f true a c ≡ neg (round f false a c)
round-neg f a c = rw (round_is f true a c, round_is f false a c) (units-neg f _ _)

-- what is not below zero is no NaN, with a minus sign neither
grown_number : (z : Float) → T (grown z) → T (not (is_nan z)) × T (not (is_nan (neg z)))
unfolding is_nan neg
grown_number nan g = absurd g
grown_number (inf s) g = (tt, tt)
grown_number (fin s m e) g = (tt, tt)

-- so a fraction, rounded, is none
round_number : (f : Format) (s : Bool) (a c : ℕ) → T (not (is_nan (round f s a c)))
round_number f true a c = rw (round-neg f a c) (grown_number (round f false a c) (round_grown f a c)).1
round_number f false a c = (grown_number (round f false a c) (round_grown f a c)).0

-- what is at most y is not above it
not_above : (x y : Float) → T (grown x) → T (grown y) → T (le x y) → lt y x ≡ false
unfolding le lt
not_above nan y g h k = absurd g
not_above (inf true) y g h k = absurd g
not_above (inf false) nan g h k = absurd h
not_above (inf false) (inf true) g h k = absurd h
not_above (inf false) (inf false) g h k = refl
not_above (inf false) (fin t n d) g h k = absurd k
not_above (fin true m e) y g h k = absurd g
not_above (fin false m e) y g h k = ⊎_elim (λ l. absurd (no_lower (fin false m e) y tt h k l)) (λ l. l) (cases_Bool (lt y (fin false m e)))

-- of two fractions the smaller one, rounded, is not above the larger
round_order : (f : Format) (a c b d : ℕ) → 0 < c → 0 < d → a * d ≤ b * c → lt (round f false b d) (round f false a c) ≡ false
round_order f a c b d C D h = not_above (round f false a c) (round f false b d) (round_grown f a c) (round_grown f b d) (round_mono f a c b d C D h)

-- ---- squares

-- a square does not see the sign
square_neg : (f : Format) (z : Float) → mul f (neg z) (neg z) ≡ mul f z z
unfolding mul neg
square_neg f nan = refl
square_neg f (inf true) = refl
square_neg f (inf false) = refl
square_neg f (fin true m e) = refl
square_neg f (fin false m e) = refl

-- so a rounded fraction's square is that of the fraction without it
square_round : (f : Format) (s : Bool) (a c : ℕ) → mul f (round f s a c) (round f s a c) ≡ mul f (round f false a c) (round f false a c)
square_round f true a c = rw (round-neg f a c) (square_neg f (round f false a c))
square_round f false a c = refl

-- the square of a value without a minus sign is no NaN
square_number : (f : Format) (x : Float) → T (grown x) → T (not (is_nan (mul f x x)))
unfolding mul is_nan
square_number f nan g = absurd g
square_number f (inf true) g = absurd g
square_number f (inf false) g = tt
square_number f (fin true m e) g = absurd g
square_number f (fin false m e) g = round_number f false (m * up e * (m * up e)) (down e * down e)

-- of two such values, one that is not below the other has a square that is not
square_order : (f : Format) (y x : Float) → T (grown y) → T (grown x) → lt y x ≡ false → lt (mul f y y) (mul f x x) ≡ false
unfolding mul lt
square_order f nan x h g k = absurd h
square_order f (inf true) x h g k = absurd h
square_order f (inf false) x h g k = top (mul f x x)
square_order f (fin true n d) x h g k = absurd h
square_order f (fin false n d) nan h g k = absurd g
square_order f (fin false n d) (inf true) h g k = absurd g
square_order f (fin false n d) (inf false) h g k = clash refl k
square_order f (fin false n d) (fin true m e) h g k = absurd g
square_order f (fin false n d) (fin false m e) h g k =
    let l = ltb-false (n * up d * down e) (m * up e * down d) k in
    round_order f (m * up e * (m * up e)) (down e * down e) (n * up d * (n * up d)) (down d * down d) (mul-pos (down_pos e) (down_pos e)) (mul-pos (down_pos d) (down_pos d))
    (le_trans (le_of_eq (mul-mul-mul_comm (m * up e) (m * up e) (down d) (down d)))
    (le_trans (mul-le-mul l l) (le_of_eq (mul-mul-mul_comm (n * up d) (down e) (n * up d) (down e)))))

-- what is below p is below every number that is not below p
not_below : (l p q : Float) → T (not (is_nan q)) → lt l p ≡ true → lt q p ≡ false → lt l q ≡ true
unfolding lt is_nan
not_below nan p q i g h = clash refl (sym g)
not_below (inf false) p q i g h = clash g (top p)
not_below (inf true) p nan i g h = absurd i
not_below (inf true) p (inf true) i g h = clash g h
not_below (inf true) p (inf false) i g h = refl
not_below (inf true) p (fin u k f) i g h = refl
not_below (fin s m e) nan q i g h = clash refl (sym g)
not_below (fin s m e) (inf true) q i g h = clash refl (sym g)
not_below (fin s m e) (inf false) nan i g h = absurd i
not_below (fin s m e) (inf false) (inf true) i g h = clash refl h
not_below (fin s m e) (inf false) (inf false) i g h = refl
not_below (fin s m e) (inf false) (fin u k f) i g h = clash refl h
not_below (fin s m e) (fin t n d) nan i g h = absurd i
not_below (fin s m e) (fin t n d) (inf true) i g h = clash refl h
not_below (fin s m e) (fin t n d) (inf false) i g h = refl
not_below (fin s m e) (fin t n d) (fin u k f) i g h =
    ⊎_elim (λ j. j) (λ j. clash g (lt_neg (fin s m e) (fin u k f) (fin t n d) refl refl refl j h)) (cases_Bool (lt (fin s m e) (fin u k f)))

-- ---- signed fractions, rounded

-- the minus sign of a value without one is one
neg_grown : (z : Float) → T (grown z) → grown (neg z) ≡ false
unfolding neg
neg_grown nan g = absurd g
neg_grown (inf true) g = absurd g
neg_grown (inf false) g = refl
neg_grown (fin true m e) g = absurd g
neg_grown (fin false m e) g = refl

-- 0 / c, rounded, is itself
round_zero : (f : Format) (s : Bool) (c : ℕ) → 0 < c → HasValue (round f s 0 c) s 0 c
round_zero f s c C = round_exact f s 0 c 0 0 C (pow_pos (prec f)) (pow_pos (low f + suc (emax f))) (zero-mul (2 ^ low f) ∙ sym (zero-mul c))

-- what is not below another is not below it after rounding
round_signed : (f : Format) (s t : Bool) (a b c : ℕ) → 0 < c → below s a t b ≡ false → lt (round f s a c) (round f t b c) ≡ false
round_signed f false false a b c C e = round_order f b c a c C C (mul-le-mul_right c (ltb-false a b e))
round_signed f false true a b c C e = rw (round-neg f b c) (not_grown (round f false a c) (neg (round f false b c)) (round_grown f a c) (neg_grown (round f false b c) (round_grown f b c)))
round_signed f true false a b c C e =
    let i : a ≡ 0 = omega (arith, ltb-false 0 (a + b) e) in
    let j : b ≡ 0 = omega (arith, ltb-false 0 (a + b) e) in
    rw (i, j) (lt_part (round f true 0 c) (round f false 0 c) c C (record { sign = true; size = 0; has = round_zero f true c C }) (record { sign = false; size = 0; has = round_zero f false c C }))
round_signed f true true a b c C e = rw (round-neg f a c, round-neg f b c) (lt_flip (round f false a c) (round f false b c) ∙ round_order f a c b c C C (mul-le-mul_right c (ltb-false b a e)))

-- ---- the difference as a rounded fraction

-- a fraction in other terms rounds alike
round_scale : (f : Format) (s : Bool) (a c k : ℕ) → 0 < c → 0 < k → round f s (a * k) (c * k) ≡ round f s a c
round_scale f s a c k C K = round_same f s (a * k) (c * k) a c (mul-pos C K) C (mul_right_comm a k c ∙ mul_assoc a c k)

-- and so does a sum
sum_scale : (f : Format) (s t : Bool) (a b c k : ℕ) → 0 < c → 0 < k → sum f s (a * k) t (b * k) (c * k) ≡ sum f s a t b c
unfolding sum
sum_scale f s t a b c k C K =
    rw (ltb_scale a b k K, ltb_scale b a k K, ← add-mul a b k, ← less a b, ← less b a, round_scale f s (a + b) c k C K, round_scale f t (b - a) c k C K, round_scale f (s && ltb b a) (a - b) c k C K)
  where
    less : (x y : ℕ) → (x - y) * k ≡ x * k - y * k
    less x y = mul_comm (x - y) k ∙ mul-sub k x y ∙ ap₂ (λ (v w : ℕ). v - w) (mul_comm k x) (mul_comm k y)

-- the difference is a sum over the denominator that two values share
sub_part : (f : Format) (x y : Float) (c : ℕ) → 0 < c → (p : Part x c) (q : Part y c) → sub f x y ≡ sum f p.sign p.size (not q.sign) q.size c
unfolding sub
sub_part f nan y c C p q = absurd p.has
sub_part f (inf s) y c C p q = absurd p.has
sub_part f (fin s m e) nan c C p q = absurd q.has
sub_part f (fin s m e) (inf t) c C p q = absurd q.has
sub_part f (fin s m e) (fin t n d) c C p q =
    let k = down e * down d in
    let K = mul-pos (down_pos e) (down_pos d) in
    let u = p.sign in
    let v = not q.sign in
    rw (p.has.0, q.has.0)
    (sym (sum_scale f u v (m * up e * down d) (n * up d * down e) k c K C)
    ∙ ap₂ (λ (a b : ℕ). sum f u a v b (k * c)) (widened (m * up e) c p.size (down e) (down d) p.has.1) (widened_back (n * up d) c q.size (down d) (down e) q.has.1)
    ∙ ap (λ (a : ℕ). sum f u (p.size * k) v (q.size * k) a) (mul_comm k c)
    ∙ sum_scale f u v p.size q.size c k C K)

-- z is ±a / c less ±b / c, rounded: the exact difference is ±size / c
record Difference (f : Format) (z : Float) (s t : Bool) (a b c : ℕ) : Type 0 where
  sign : Bool
  size : ℕ
  is : z ≡ round f sign size c
  exact : over sign size + under s a + over t b ≡ under sign size + over s a + under t b

-- the sum is that
sum_difference : (f : Format) (s t : Bool) (a b c : ℕ) → Difference f (sum f s a (not t) b c) s t a b c
unfolding sum
sum_difference f false true a b c = record { sign = false; size = a + b; is = refl; exact = omega arith }
sum_difference f true false a b c = record { sign = true; size = a + b; is = refl; exact = omega arith }
sum_difference f false false a b c = go (cases_Bool (ltb a b))
  where
    go : (ltb a b ≡ true) ⊎ (ltb a b ≡ false) → Difference f (sum f false a true b c) false false a b c
    go (inl e) = record { sign = true; size = b - a; is = rw e; exact = omega (arith, ltb-true a b e) }
    go (inr e) = record { sign = false; size = a - b; is = rw e; exact = omega (arith, ltb-false a b e) }
sum_difference f true true a b c = go (cases_Bool (ltb a b)) (cases_Bool (ltb b a))
  where
    go : (ltb a b ≡ true) ⊎ (ltb a b ≡ false) → (ltb b a ≡ true) ⊎ (ltb b a ≡ false) → Difference f (sum f true a false b c) true true a b c
    go (inl e) g = record { sign = false; size = b - a; is = rw e; exact = omega (arith, ltb-true a b e) }
    go (inr e) (inl g) = record { sign = true; size = a - b; is = rw (e, g); exact = omega (arith, ltb-true b a g) }
    go (inr e) (inr g) = record { sign = false; size = a - b; is = rw (e, g); exact = omega (arith, ltb-false a b e, ltb-false b a g) }

-- so x - y is
difference : {x y : Float} {c : ℕ} → 0 < c → (p : Part x c) (q : Part y c) → Difference binary64 (sub binary64 x y) p.sign q.sign p.size q.size c
difference {x} {y} {c} C p q =
    let d = sum_difference binary64 p.sign q.sign p.size q.size c in
    record { sign = d.sign; size = d.size; is = sub_part binary64 x y c C p q ∙ d.is; exact = d.exact }

-- three values over one denominator
record Shared (x y z : Float) : Type 0 where
  den : ℕ
  above : 0 < den
  first : Part x den
  second : Part y den
  third : Part z den

-- finite ones have one
share : (x y z : Float) → is_finite x ≡ true → is_finite y ≡ true → is_finite z ≡ true → Shared x y z
share nan y z p q r = clash refl (sym p)
share (inf s) y z p q r = clash refl (sym p)
share (fin s m e) nan z p q r = clash refl (sym q)
share (fin s m e) (inf t) z p q r = clash refl (sym q)
share (fin s m e) (fin t n d) nan p q r = clash refl (sym r)
share (fin s m e) (fin t n d) (inf u) p q r = clash refl (sym r)
share (fin s m e) (fin t n d) (fin u k f) p q r = record {
  den = down e * down d * down f;
  above = mul-pos (mul-pos (down_pos e) (down_pos d)) (down_pos f);
  first = record { sign = s; size = m * up e * (down d * down f); has = (refl, simp (mul_assoc, mul_comm, mul_left_comm)) };
  second = record { sign = t; size = n * up d * (down e * down f); has = (refl, simp (mul_assoc, mul_comm, mul_left_comm)) };
  third = record { sign = u; size = k * up f * (down e * down d); has = (refl, simp (mul_assoc, mul_comm, mul_left_comm)) };
}

-- ---- the square of a difference

-- the larger of two sizes, rounded, has a square above what the other's is above
wider : (f : Format) (l : Float) (p q : Bool) (g h c : ℕ) → 0 < c → g ≤ h → lt l (mul f (round f p g c) (round f p g c)) ≡ true → lt l (mul f (round f q h c) (round f q h c)) ≡ true
wider f l p q g h c C i e =
    let y = round f false g c in
    let z = round f false h c in
    rw (square_round f q h c)
    (not_below l (mul f y y) (mul f z z) (square_number f z (round_grown f h c)) (rw (square_round f p g c) at e)
    (square_order f z y (round_grown f h c) (round_grown f g c) (round_order f g c h c C C (mul-le-mul_right c i))))

-- as differences: of ±g = a - b and ±h = a - c the second is no smaller in size where a ≤ b ≤ c
size_up : (p q : Bool) (g h a a' b b' c c' : ℕ) → over p g + a' + b ≡ under p g + a + b' → over q h + a' + c ≡ under q h + a + c' → a + b' ≤ b + a' → b + c' ≤ c + b' → g ≤ h
size_up false false g h a a' b b' c c' i j k l = omega arith
size_up false true g h a a' b b' c c' i j k l = omega arith
size_up true false g h a a' b b' c c' i j k l = omega arith
size_up true true g h a a' b b' c c' i j k l = omega arith

-- and where c ≤ b ≤ a
size-down : (p q : Bool) (g h a a' b b' c c' : ℕ) → over p g + a' + b ≡ under p g + a + b' → over q h + a' + c ≡ under q h + a + c' → b + a' ≤ a + b' → c + b' ≤ b + c' → g ≤ h
size-down false false g h a a' b b' c c' i j k l = omega arith
size-down false true g h a a' b b' c c' i j k l = omega arith
size-down true false g h a a' b b' c c' i j k l = omega arith
size-down true true g h a a' b b' c c' i j k l = omega arith

-- a value further up is further from a, so its square is above what the nearer one's is above
pub gap_up : (l a b k : Float) → is_finite a ≡ true → is_finite b ≡ true → is_finite k ≡ true → lt b a ≡ false → lt k b ≡ false
    → lt l (mul binary64 (sub binary64 a b) (sub binary64 a b)) ≡ true → lt l (mul binary64 (sub binary64 a k) (sub binary64 a k)) ≡ true
gap_up l a b k p q r i j e =
    let w = share a b k p q r in
    let g = difference w.above w.first w.second in
    let h = difference w.above w.first w.third in
    rw h.is
    (wider binary64 l g.sign h.sign g.size h.size w.den w.above
    (size_up g.sign h.sign g.size h.size _ _ _ _ _ _ g.exact h.exact (part_order w.above w.second w.first i) (part_order w.above w.third w.second j))
    (rw g.is at e))

-- and one further down
pub gap_down : (l a b k : Float) → is_finite a ≡ true → is_finite b ≡ true → is_finite k ≡ true → lt a b ≡ false → lt b k ≡ false
    → lt l (mul binary64 (sub binary64 a b) (sub binary64 a b)) ≡ true → lt l (mul binary64 (sub binary64 a k) (sub binary64 a k)) ≡ true
gap_down l a b k p q r i j e =
    let w = share a b k p q r in
    let g = difference w.above w.first w.second in
    let h = difference w.above w.first w.third in
    rw h.is
    (wider binary64 l g.sign h.sign g.size h.size w.den w.above
    (size-down g.sign h.sign g.size h.size _ _ _ _ _ _ g.exact h.exact (part_order w.above w.first w.second i) (part_order w.above w.second w.third j))
    (rw g.is at e))

-- ---- the order of differences

-- p = a - c is no more than q = b - c where a ≤ b
shift : (p p' q q' a a' b b' c c' : ℕ) → p + a' + c ≡ p' + a + c' → q + b' + c ≡ q' + b + c' → a + b' ≤ b + a' → p + q' ≤ q + p'
shift p p' q q' a a' b b' c c' i j k = omega arith

-- where y - c is not above t, x - c is not for an x that is not above y
pub sub_under : (t x y c : Float) → is_finite x ≡ true → is_finite y ≡ true → is_finite c ≡ true → lt y x ≡ false
    → lt t (sub binary64 y c) ≡ false → lt t (sub binary64 x c) ≡ false
sub_under t x y c p q r i e =
    let w = share x y c p q r in
    let g = difference w.above w.first w.third in
    let h = difference w.above w.second w.third in
    let u = round binary64 g.sign g.size w.den in
    let v = round binary64 h.sign h.size w.den in
    let o : lt v u ≡ false =
    round_signed binary64 h.sign g.sign h.size g.size w.den w.above
    (to_below h.sign g.sign h.size g.size (shift _ _ _ _ _ _ _ _ _ _ g.exact h.exact (part_order w.above w.second w.first i))) in
    rw g.is (⊎_elim (λ k. clash (not_below t u v (round_number binary64 h.sign h.size w.den) k o) (rw h.is at e)) (λ k. k) (cases_Bool (lt t u)))
