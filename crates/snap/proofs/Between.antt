-- Between two nodes, in the order of nodes: where both ends say that all are passed over, each one is.
use Prim.Native.Nat.{ℕ, zero, suc, ◌+◌, ◌-◌, ◌*◌, ◌≤◌, ◌<◌}
use mathlib.Core.Path.{◌≡◌, ap, ◌∙◌, subst}
use mathlib.Core.Logic.{◌⊎◌, inl, inr}
use mathlib.Core.Bool.{Bool, true, false}
use mathlib.Core.List.{List}
use native.Mathlib.Nat.{add-zero}
use native.Mathlib.Omega.{arith}
use lib.Ieee.{Float, binary64, lt, mul}
use lib.ListN.{length, get_or, take}
use lib.Seq.{slice}
use Rattle.laws.proofs.Tests.{clash}
use Rattle.std.proofs.lemmas.Bool.{cases_Bool}
use Rattle.floats.specs.Floats.{is_finite}
use Rattle.geometry.specs.declared.Point.{Point}
use Rattle.geometry.specs.Points.{point_at, point_sub, point_dot}
use Rattle.geometry.specs.Coordinates.{coordinates_off}
use Rattle.snap.specs.Weld.{or_else, points_before, before_of, far_of, near_of, takes}
use Rattle.snap.specs.Steps.{apart_by, outside_of, passed_of, far_points, near_points, InOrder, Reached, PassedOver}
use Rattle.floats.proofs.Signed.{lt_asym, lt_neg}
use Rattle.floats.proofs.Differences.{gap_up, gap_down, sub_under}
use Rattle.snap.proofs.Order.{finite_at}
use Rattle.snap.proofs.Squares.{second_above, third_above}
use Rattle.snap.proofs.Parts.{read_to}
use Rattle.snap.proofs.Groups.{step_pass}

-- ---- one coordinate

-- what stands first is not above
not_above : (x y : Float) (r : Bool) → is_finite x ≡ true → is_finite y ≡ true → or_else x y r ≡ true → lt y x ≡ false
not_above x y r p q e = go (cases_Bool (lt x y)) (cases_Bool (lt y x))
  where
    go : (lt x y ≡ true) ⊎ (lt x y ≡ false) → (lt y x ≡ true) ⊎ (lt y x ≡ false) → lt y x ≡ false
    go (inl a) b = lt_asym x y p q a
    go (inr a) (inl b) = clash e (simp (a, b))
    go (inr a) (inr b) = b

-- where neither is above the next coordinate decides
then_by : (x y : Float) (r : Bool) → lt x y ≡ false → lt y x ≡ false → or_else x y r ≡ true → r ≡ true
then_by x y r a b e = simp (a, b) at e

-- all from b to m are apart from a
between : (l a b k m : Float) → is_finite a ≡ true → is_finite b ≡ true → is_finite k ≡ true → is_finite m ≡ true → lt k b ≡ false → lt m k ≡ false → outside_of l a b m ≡ true → apart_by l a k ≡ true
between l a b k m fa fb fk fm u v e = go (cases_Bool (lt a b)) (cases_Bool (lt m a))
  where
    go : (lt a b ≡ true) ⊎ (lt a b ≡ false) → (lt m a ≡ true) ⊎ (lt m a ≡ false) → apart_by l a k ≡ true
    go (inl s) t = gap_up l a b k fa fb fk (lt_asym a b fa fb s) u (simp s at e)
    go (inr s) (inl t) = gap_down l a m k fa fm fk (lt_asym m a fm fa t) v (simp (s, t) at e)
    go (inr s) (inr t) = clash e (simp (s, t))

-- ---- points

abbrev Finite : Point → Type 0
Finite p = (is_finite p.x ≡ true) × (is_finite p.y ≡ true) × (is_finite p.z ≡ true)

-- a point between b and m is neither too far nor taken
points_between : (t : Float) (a b k m : Point) (r s : Bool) → Finite a → Finite b → Finite k → Finite m → points_before b k r ≡ true → points_before k m s ≡ true → far_points t a b ≡ false → passed_of (mul binary64 t t) a b m ≡ true → (far_points t a k ≡ false) × (near_points t a k ≡ false)
unfolding point_sub point_dot
points_between t a b k m r s fa fb fk fm h i f p = go (cases_Bool (lt b.x m.x))
  where
    l : Float
    l = mul binary64 t t

    xk : lt k.x b.x ≡ false
    xk = not_above b.x k.x _ fb.0 fk.0 h

    xm : lt m.x k.x ≡ false
    xm = not_above k.x m.x _ fk.0 fm.0 i

    by_z : lt b.y k.y ≡ false → lt k.y m.y ≡ false → lt k.y b.y ≡ false → lt m.y k.y ≡ false → or_else b.y k.y (or_else b.z k.z r) ≡ true → or_else k.y m.y (or_else k.z m.z s) ≡ true → outside_of l a.z b.z m.z ≡ true → near_points t a k ≡ false
    by_z yb ykm yk ym h' i' o =
        third_above t _ _ _
        (between l a.z b.z k.z m.z fa.2 fb.2 fk.2 fm.2
        (not_above b.z k.z _ fb.2 fk.2 (then_by b.y k.y _ yb yk h'))
        (not_above k.z m.z _ fk.2 fm.2 (then_by k.y m.y _ ykm ym i')) o)

    by_y : lt b.x m.x ≡ false → lt k.y b.y ≡ false → lt m.y k.y ≡ false → or_else b.y k.y (or_else b.z k.z r) ≡ true → or_else k.y m.y (or_else k.z m.z s) ≡ true → (outside_of l a.y b.y m.y ≡ true) ⊎ (outside_of l a.y b.y m.y ≡ false) → (lt b.y m.y ≡ true) ⊎ (lt b.y m.y ≡ false) → near_points t a k ≡ false
    by_y e yk ym h' i' (inl o) q = second_above t _ _ _ (between l a.y b.y k.y m.y fa.1 fb.1 fk.1 fm.1 yk ym o)
    by_y e yk ym h' i' (inr o) (inl q) = clash p (simp (e, o, q))
    by_y e yk ym h' i' (inr o) (inr q) =
        by_z (lt_neg b.y m.y k.y fb.1 fm.1 fk.1 q ym) (lt_neg k.y b.y m.y fk.1 fb.1 fm.1 yk q) yk ym h' i' (simp (e, o, q) at p)

    go : (lt b.x m.x ≡ true) ⊎ (lt b.x m.x ≡ false) → (far_points t a k ≡ false) × (near_points t a k ≡ false)
    go (inl e) = clash p (simp e)
    go (inr e) =
        let xb = lt_neg b.x m.x k.x fb.0 fm.0 fk.0 e xm in
        let h' = then_by b.x k.x _ xb xk h in
        let i' = then_by k.x m.x _ (lt_neg k.x b.x m.x fk.0 fb.0 fm.0 xk e) xm i in (
          sub_under t k.x b.x a.x fk.0 fb.0 fa.0 xb f,
          by_y e (not_above b.y k.y _ fb.1 fk.1 h') (not_above k.y m.y _ fk.1 fm.1 i') h' i' (cases_Bool (outside_of l a.y b.y m.y)) (cases_Bool (lt b.y m.y)),
        )

-- ---- nodes

module _ (c : List Float) (ok : coordinates_off c ≡ false) (t : Float) (leader : ℕ) where
  finite : (n : ℕ) → Finite (point_at c n)
  unfolding point_at
  finite n = (finite_at c ok (n * 3), finite_at c ok (n * 3 + 1), finite_at c ok (n * 3 + 2))

  nodes_between : (b k m : ℕ) → before_of c b k ≡ true → before_of c k m ≡ true → far_of c t leader b ≡ false → passed_of (mul binary64 t t) (point_at c leader) (point_at c b) (point_at c m) ≡ true → (far_of c t leader k ≡ false) × (near_of c t leader k ≡ false)
  unfolding before_of far_of near_of
  nodes_between b k m h i f p =
      points_between t (point_at c leader) (point_at c b) (point_at c k) (point_at c m) _ _ (finite leader) (finite b) (finite k) (finite m) h i f p

  -- from j to a place that was reached all are passed over
  all_passed : (j r e : ℕ) (w : List ℕ) → InOrder c j e w → j ≤ r → r < e → far_of c t leader (get_or w j 0) ≡ false → near_of c t leader (get_or w j 0) ≡ false → Reached c (mul binary64 t t) (point_at c leader) (point_at c (get_or w j 0)) j r w → PassedOver c t leader j (r + 1) w
  all_passed j r e w o a b f n (inl q) k d g =
      let s : j ≡ k = omega arith in
      subst (λ (i : ℕ). (far_of c t leader (get_or w i 0) ≡ false) × (near_of c t leader (get_or w i 0) ≡ false)) s (f, n)
  all_passed j r e w o a b f n (inr p) k d g =
      nodes_between (get_or w j 0) (get_or w k 0) (get_or w r 0) (o j k (omega arith) d (omega arith)) (o k r d (omega arith) b) f p

  -- the place behind it, for the points a and b of the leader and the node at j
  pub past_all : (j r e : ℕ) (w : List ℕ) {a b : Point} → a ≡ point_at c leader → b ≡ point_at c (get_or w j 0) → (j ≤ r) × (r < e) × Reached c (mul binary64 t t) a b j r w
      → InOrder c j e w → far_of c t leader (get_or w j 0) ≡ false → near_of c t leader (get_or w j 0) ≡ false → (j < r + 1) × (r + 1 ≤ e) × PassedOver c t leader j (r + 1) w
  past_all j r e w p q h o f n =
      (omega (arith, h.0), omega (arith, h.1), all_passed j r e w o h.0 h.1 f n (rw (p, q) at h.2))

-- of those that are passed over the leader takes none
takes_past : (c : List Float) (t : Float) (p : ℕ) (taken : ℕ → Bool) (l : List ℕ) (n j e : ℕ) → j + n ≤ e → e ≤ length l → PassedOver c t p j (j + n) l → takes c t p taken (slice j e l) ≡ takes c t p taken (slice (j + n) e l)
takes_past c t p taken l zero j e h b o = rw (add-zero j)
takes_past c t p taken l (suc n) j e h b o =
    let x = o j (omega arith) (omega arith) in
    let s : j + 1 + n ≡ j + suc n = omega arith in
    step_pass c t p taken l j e (omega arith) b x.0 x.1
    ∙ takes_past c t p taken l n (j + 1) e (omega arith) b (λ k d g. o k (omega arith) (omega arith))
    ∙ ap (λ (i : ℕ). takes c t p taken (slice i e l)) s

pub takes_over : (c : List Float) (t : Float) (p : ℕ) (taken : ℕ → Bool) (l : List ℕ) (j r e : ℕ) → j ≤ r → r ≤ e → e ≤ length l → PassedOver c t p j r l → takes c t p taken (slice j e l) ≡ takes c t p taken (slice r e l)
takes_over c t p taken l j r e h q b o =
    let s : j + (r - j) ≡ r = omega arith in
    takes_past c t p taken l (r - j) j e (omega arith) b (λ k d g. o k d (omega arith)) ∙ ap (λ (i : ℕ). takes c t p taken (slice i e l)) s

-- ---- of a list that agrees up to g

-- nodes before g stand in order there too
pub order_kept : (c : List Float) (g i j e : ℕ) (v w : List ℕ) → take g v ≡ take g w → e ≤ g → i ≤ j → InOrder c i e w → InOrder c j e v
order_kept c g i j e v w h b p o k m x y z = rw (read_to g k v w h (omega arith), read_to g m v w h (omega arith)) (o k m (omega arith) y z)

-- and are passed over
pub passed_kept : (c : List Float) (t : Float) (p g j r : ℕ) (v w : List ℕ) → take g v ≡ take g w → r ≤ g → PassedOver c t p j r v → PassedOver c t p j r w
passed_kept c t p g j r v w h b o k x y = rw (← read_to g k v w h (omega arith)) (o k x y)
