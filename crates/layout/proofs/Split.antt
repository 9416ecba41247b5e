-- A slice split in two, and runs of stores in its parts.
use Prim.Native.Nat.{ℕ, suc, ◌+◌, ◌-◌, ◌≤◌}
use mathlib.Core.Path.{◌≡◌, refl, sym, ap, ap₂, ◌∙◌}
use mathlib.Core.List.{List, [], ◌∷◌, ◌++◌, append-nil}
use native.Mathlib.Omega.{arith}
use native.Mathlib.Nat.{add-zero}
use lib.ListN.{length, set, take, drop, length-set, length-drop, take-append-drop, drop_of_length-le}
use lib.Seq.{sets, length-sets, length-take-le, take_all}
use Rattle.std.proofs.lemmas.List.{set-append_left, set-append_right}

module _ {A : Type 0} where
  -- a run in the part in front, and in the one behind
  sets_left : (xs ys : List A) (o : ℕ) (vs : List A) → o + length vs ≤ length xs → sets xs o vs ++ ys ≡ sets (xs ++ ys) o vs
  sets_left xs ys o [] h = refl
  sets_left xs ys o (v ∷ vs) h =
      sets_left (set xs o v) ys (suc o) vs (omega (arith, h, length-set xs o v))
      ∙ ap (λ (l : List A). sets l (suc o) vs) (sym (set-append_left xs ys o v (omega arith)))

  sets_right : (xs ys : List A) (n o : ℕ) (vs : List A) → length xs ≡ n → xs ++ sets ys o vs ≡ sets (xs ++ ys) (n + o) vs
  sets_right xs ys n o [] e = refl
  sets_right xs ys n o (v ∷ vs) e =
      let d : n + o - n ≡ o = omega arith in
      let k : n + suc o ≡ suc (n + o) = omega arith in
      sets_right xs (set ys o v) n (suc o) vs e
      ∙ ap₂ (λ (l : List A) (i : ℕ). sets l i vs) (sym (set-append_right xs ys n (n + o) v e (omega arith) ∙ ap (λ (i : ℕ). xs ++ set ys i v) d)) k

  -- a slice is split at n: a run from the beginning of either part
  pub front_put : (w : List A) (n : ℕ) (vs : List A) → n ≤ length w → length vs ≤ n → sets (take n w) 0 vs ++ drop n w ≡ sets w 0 vs
  front_put w n vs h k =
      sets_left (take n w) (drop n w) 0 vs (omega (arith, k, length-take-le n w h)) ∙ ap (λ (l : List A). sets l 0 vs) (take-append-drop n w)

  pub back_put : (w : List A) (n : ℕ) (vs : List A) → n ≤ length w → take n w ++ sets (drop n w) 0 vs ≡ sets w n vs
  back_put w n vs h =
      sets_right (take n w) (drop n w) n 0 vs (length-take-le n w h) ∙ ap₂ (λ (l : List A) (i : ℕ). sets l i vs) (take-append-drop n w) (add-zero n)

  -- all from n on is lent out, and comes back
  pub rest_put : (w : List A) (n : ℕ) (back vs : List A) → n ≤ length w → back ≡ sets (take (length w - n) (drop n w)) 0 vs
      → take n w ++ (back ++ drop (length w - n) (drop n w)) ≡ sets w n vs
  rest_put w n back vs h e =
      let m = length w - n in
      let long : length (drop n w) ≤ m = omega (arith, length-drop n w) in
      ap₂ (λ (x y : List A). take n w ++ (x ++ y)) (e ∙ ap (λ (x : List A). sets x 0 vs) (take_all m (drop n w) long)) (drop_of_length-le (drop n w) long)
      ∙ ap (λ (x : List A). take n w ++ x) (append-nil (sets (drop n w) 0 vs))
      ∙ back_put w n vs h

  -- it is split at n, and the part behind m words further on: a run in each of the two that are behind
  pub both_put : (w : List A) (n m : ℕ) (xs ys : List A) → n + m ≤ length w → length xs ≤ m
      → take n w ++ (sets (take m (drop n w)) 0 xs ++ sets (drop m (drop n w)) 0 ys) ≡ sets (sets w n xs) (n + m) ys
  both_put w n m xs ys h k =
      let b = drop n w in
      let room : m ≤ length b = omega (arith, h, length-drop n w) in
      let long : length (sets (take m b) 0 xs) ≡ m = length-sets (take m b) 0 xs ∙ length-take-le m b room in
      ap (λ (l : List A). take n w ++ l)
      (sets_right (sets (take m b) 0 xs) (drop m b) m 0 ys long ∙ ap₂ (λ (l : List A) (i : ℕ). sets l i ys) (front_put b m xs room k) (add-zero m))
      ∙ sets_right (take n w) (sets b 0 xs) n m ys (length-take-le n w (omega (arith, h)))
      ∙ ap (λ (l : List A). sets l (n + m) ys) (back_put w n xs (omega (arith, h)))
