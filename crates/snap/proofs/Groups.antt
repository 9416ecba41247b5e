-- The groups: one node more, and what is taken of equal nodes.
use Prim.Native.Nat.{ℕ, suc, ◌+◌, ◌≤◌, ◌<◌, min}
use mathlib.Core.Path.{◌≡◌, refl, ap, ◌∙◌}
use mathlib.Core.Bool.{Bool, true, false, cond, ◌||◌}
use mathlib.Core.List.{List, [], ◌∷◌, ◌++◌}
use mathlib.Core.Logic.{⊎_elim}
use native.Mathlib.Numerals.{add-one}
use native.Mathlib.Omega.{arith}
use lib.Ieee.{Float}
use lib.ListN.{length, get_or, set, length-set}
use lib.Seq.{slice, slice-cons}
use Rattle.laws.specs.Lists.{only_if, fold, elem}
use Rattle.std.proofs.lemmas.Bool.{cases_Bool}
use Rattle.snap.specs.Weld.{far_of, near_of, takes, groups, spread, give, least}
use Rattle.laws.specs.Merging.{AllBelow}
use Rattle.snap.proofs.Parts.{slice_none}

-- ---- one node more of those that a leader goes through

module _ (c : List Float) (t : Float) (p : ℕ) (taken : ℕ → Bool) (l : List ℕ) (j e : ℕ) (h : j < e) (b : e ≤ length l) where
  -- the next node, and those behind it
  next : takes c t p taken (slice j e l) ≡ takes c t p taken (get_or l j 0 ∷ slice (j + 1) e l)
  next = rw (add-one j) (ap (takes c t p taken) (slice-cons j e l 0 h b))

  -- a node that is taken is skipped
  pub step_skip : taken (get_or l j 0) ≡ true → takes c t p taken (slice j e l) ≡ takes c t p taken (slice (j + 1) e l)
  step_skip g = next ∙ rw g

  -- a node that is too far ends it
  pub step_stop : taken (get_or l j 0) ≡ false → far_of c t p (get_or l j 0) ≡ true → takes c t p taken (slice j e l) ≡ []
  step_stop g f = next ∙ rw (g, f)

  -- a near node is taken
  pub step_take : taken (get_or l j 0) ≡ false → far_of c t p (get_or l j 0) ≡ false → near_of c t p (get_or l j 0) ≡ true
      → takes c t p taken (slice j e l) ≡ get_or l j 0 ∷ takes c t p taken (slice (j + 1) e l)
  step_take g f n = next ∙ rw (g, f, n)

  -- another is passed by, taken or not
  pub step_pass : far_of c t p (get_or l j 0) ≡ false → near_of c t p (get_or l j 0) ≡ false → takes c t p taken (slice j e l) ≡ takes c t p taken (slice (j + 1) e l)
  step_pass f n = ⊎_elim step_skip (λ (g : taken (get_or l j 0) ≡ false). next ∙ rw (g, f, n)) (cases_Bool (taken (get_or l j 0)))

-- of no nodes none is taken
pub takes_none : (c : List Float) (t : Float) (p : ℕ) (taken : ℕ → Bool) (l : List ℕ) (j e : ℕ) → e ≤ j → takes c t p taken (slice j e l) ≡ []
takes_none c t p taken l j e h = ap (takes c t p taken) (slice_none j e l h)

-- ---- the same nodes taken, the same groups

module _ (c : List Float) (t : Float) (size : ℕ) where
  -- a leader takes the same where the same nodes are taken
  takes_ext : (p : ℕ) (f g : ℕ → Bool) (ns : List ℕ) → AllBelow size ns → ((n : ℕ) → n < size → f n ≡ g n) → takes c t p f ns ≡ takes c t p g ns
  takes_ext p f g [] k h = refl
  takes_ext p f g (n ∷ ns) k h = rw (h n k.0, takes_ext p f g ns k.1 h)

  -- and the groups are the same
  pub groups_ext : (f g : ℕ → Bool) (ns : List ℕ) → AllBelow size ns → ((n : ℕ) → n < size → f n ≡ g n) → groups c t f ns ≡ groups c t g ns
  groups_ext f g [] k h = refl
  groups_ext f g (p ∷ ns) k h =
      let e = takes_ext p f g ns k.1 h in
      let G : List ℕ = p ∷ takes c t p g ns in
      rw (h p k.0, e, groups_ext f g ns k.1 h, groups_ext (λ n. elem n G || f n) (λ n. elem n G || g n) ns k.1 (λ n q. ap (λ (b : Bool). elem n G || b) (h n q)))

  -- what a leader takes are nodes
  pub nodes_takes : (p : ℕ) (f : ℕ → Bool) (ns : List ℕ) → AllBelow size ns → AllBelow size (takes c t p f ns)
  nodes_takes p f [] k = tt
  nodes_takes p f (n ∷ ns) k = go (f n) (far_of c t p n) (near_of c t p n) (nodes_takes p f ns k.1)
    where
      go : (a b d : Bool) → AllBelow size (takes c t p f ns) → AllBelow size (cond a (takes c t p f ns) (cond b [] (only_if d (n ∷ []) ++ takes c t p f ns)))
      go true b d r = r
      go false true d r = tt
      go false false true r = (k.0, r)
      go false false false r = r

  -- and no more than there are
  pub length_takes : (p : ℕ) (f : ℕ → Bool) (ns : List ℕ) → length (takes c t p f ns) ≤ length ns
  length_takes p f [] = omega arith
  length_takes p f (n ∷ ns) = go (f n) (far_of c t p n) (near_of c t p n) (length_takes p f ns)
    where
      go : (a b d : Bool) → length (takes c t p f ns) ≤ length ns → length (cond a (takes c t p f ns) (cond b [] (only_if d (n ∷ []) ++ takes c t p f ns))) ≤ suc (length ns)
      go true b d r = omega arith
      go false true d r = omega arith
      go false false true r = omega arith
      go false false false r = omega arith

-- the least is at most the first
pub least_low : (m : ℕ) (ns : List ℕ) → fold min m ns ≤ m
least_low m [] = omega arith
least_low m (n ∷ ns) = omega (arith, least_low (min m n) ns)

-- ---- lengths of maps

-- giving numbers keeps the length of the map
length_give : (m : ℕ) (ns l : List ℕ) → length (give m ns l) ≡ length l
length_give m [] l = refl
length_give m (n ∷ ns) l = length_give m ns (set l n m) ∙ length-set l n m

pub length_spread : (gs : List (List ℕ)) (l : List ℕ) → length (spread gs l) ≡ length l
length_spread [] l = refl
length_spread (g ∷ gs) l = length_spread gs (give (least g) g l) ∙ length_give (least g) g l
