-- Numbers added to the list at `found`, in several steps.
use Prim.Native.Nat.{ℕ, suc, ◌-◌, ◌≤◌, ◌<◌}
use mathlib.Core.Path.{◌≡◌, refl, sym, ap, ap₂, ◌∙◌, subst}
use mathlib.Core.Logic.{◌⊎◌, inl, inr, ⊎_elim}
use mathlib.Core.Bool.{Bool, true, false, ◌||◌, or_assoc}
use mathlib.Core.List.{List, [], ◌∷◌, ◌++◌, append_assoc, append-nil}
use native.Mathlib.Omega.{arith}
use lib.Dec.{leb, eqb}
use lib.ListN.{length}
use lib.Seq.{sets, length-sets}
use Rattle.laws.specs.Merging.{region, Asc}
use Rattle.laws.specs.Lists.{elem, add}
use Rattle.laws.proofs.Ascending.{add_least, elem-add, asc_add, head_in, later_in}
use Rattle.laws.proofs.Tests.{or_swap}
use Rattle.std.proofs.lemmas.Bool.{cases_Bool, or_cases}
use Rattle.laws.proofs.Stores.{region_same, sets_self, sets_over, length-region}
use Rattle.index.specs.declared.Places.{Places}
use Rattle.index.specs.Faces.{base}
use Rattle.seek.specs.Candidates.{Ready}
use Rattle.seek.proofs.Searching.{base_same, ready_same}
use Rattle.triples.specs.Hits.{add_all, listed, Open, Added}

-- the members are those added and those there
pub elem-add_all : (n : ℕ) (xs l : List ℕ) → elem n (add_all xs l) ≡ (elem n xs || elem n l)
elem-add_all n [] l = refl
elem-add_all n (x ∷ xs) l =
    elem-add_all n xs (add leb x l) ∙ ap (λ (b : Bool). elem n xs || b) (elem-add n x l)
    ∙ or_swap (elem n xs) (eqb n x) (elem n l) ∙ sym (or_assoc (eqb n x) (elem n xs) (elem n l))

-- the list stays ascending
pub asc_add_all : (xs l : List ℕ) → Asc l → Asc (add_all xs l)
asc_add_all [] l a = a
asc_add_all (x ∷ xs) l a = asc_add_all xs (add leb x l) (asc_add x l a)

-- two lists are added one after the other
pub add_all_append : (xs ys l : List ℕ) → add_all (xs ++ ys) l ≡ add_all ys (add_all xs l)
add_all_append [] ys l = refl
add_all_append (x ∷ xs) ys l = add_all_append xs ys (add leb x l)

-- a list to which many are added gets no shorter
add_all_longer : (xs l : List ℕ) → length l ≤ length (add_all xs l)
add_all_longer [] l = omega arith
add_all_longer (x ∷ xs) l = omega (arith, add_least x l, add_all_longer xs (add leb x l))

-- an ascending list of numbers from m to n is no longer than that
asc_length : (l : List ℕ) (m n : ℕ) → Asc l → ((x : ℕ) → elem x l ≡ true → (m ≤ x) × (x < n)) → length l ≤ n - m
asc_length [] m n a h = omega arith
asc_length (x ∷ l) m n a h =
    let top = h x (head_in x l) in
    let ih : length l ≤ n - suc x = asc_length l (suc x) n a.1 (λ y e. (a.0 y e, (h y (later_in x l y e)).1)) in
    omega (arith, top.0, top.1)

abbrev pub Faces : Places → List ℕ → Type 0
Faces p xs = (x : ℕ) → elem x xs ≡ true → x < p.faces

module _ (p : Places) (lo n : ℕ) (w : List ℕ) (op : Open p lo n w) where
  -- as many are listed as are said
  pub listed_long : length (listed p n w) ≡ n
  listed_long = length-region p.found n w (omega (arith, op.few, op.ready.room))

  -- there are at most as many as faces
  pub sum_few : (xs : List ℕ) → Faces p xs → length (add_all xs (listed p n w)) ≤ p.faces
  sum_few xs f =
      omega (
        arith,
        asc_length (add_all xs (listed p n w)) 0 p.faces (asc_add_all xs (listed p n w) op.asc)
            (λ x e. (omega arith, ⊎_elim (f x) (op.low x) (or_cases (elem x xs) (elem x (listed p n w)) (sym (elem-add_all x xs (listed p n w)) ∙ e)))),
      )

  module _ (xs : List ℕ) (f : Faces p xs) (r : ℕ) (v : List ℕ) (a : Added p xs n w r v) where
    -- the list with xs added
    pub listed_next : listed p r v ≡ add_all xs (listed p n w)
    listed_next =
        ap₂ (λ (k : ℕ) (l : List ℕ). region p.found k l) a.number a.filled
        ∙ region_same w p.found (add_all xs (listed p n w)) (omega (arith, sum_few xs f, op.ready.room))

    -- more can be added to it
    pub open_next : Open p lo r v
    open_next = record {
      ready = subst (Ready p lo) (sym a.filled) (ready_same p lo w (add_all xs (listed p n w)) op.ready);
      few = omega (arith, a.number, sum_few xs f);
      asc = subst Asc (sym listed_next) (asc_add_all xs (listed p n w) op.asc);
      low = λ x e. ⊎_elim (f x) (op.low x) (or_cases (elem x xs) (elem x (listed p n w)) (sym (elem-add_all x xs (listed p n w)) ∙ ap (elem x) (sym listed_next) ∙ e));
    }

    -- two steps make one
    pub added_more : (ys : List ℕ) (q : ℕ) (u : List ℕ) → Added p ys r v q u → Added p (xs ++ ys) n w q u
    added_more ys q u b = record {
      number = b.number ∙ ap (λ (l : List ℕ). length (add_all ys l)) listed_next ∙ ap length (sym (add_all_append xs ys (listed p n w)));
      filled =
          b.filled
          ∙ ap₂ (λ (l m : List ℕ). sets l p.found (add_all ys m)) a.filled listed_next
          ∙ sets_over w p.found (add_all xs (listed p n w)) (add_all ys (add_all xs (listed p n w))) (add_all_longer ys (add_all xs (listed p n w)))
          ∙ ap (sets w p.found) (sym (add_all_append xs ys (listed p n w)));
    }

  -- nothing is added
  pub added_none : Added p [] n w n w
  added_none = record { number = sym listed_long; filled = sym (sets_self w p.found n (omega (arith, op.few, op.ready.room))) }

-- ---- a loop that adds `all`, of which `todo` is left

pub record Prog (p : Places) (n : ℕ) (w all todo : List ℕ) (r : ℕ) (v : List ℕ) : Type 0 where
  pub done : List ℕ
  pub parts : done ++ todo ≡ all
  pub added : Added p done n w r v

-- a part of a list of faces is one
faces_left : (p : Places) (xs ys all : List ℕ) → xs ++ ys ≡ all → Faces p all → Faces p xs
faces_left p xs ys all e f x h = f x (subst (λ (l : List ℕ). elem x l ≡ true) e (in_left xs h))
  where
    in_left : (xs : List ℕ) → elem x xs ≡ true → elem x (xs ++ ys) ≡ true
    in_left [] h = absurd (mathlib.Core.Bool.false≢true h)
    in_left (y ∷ xs) h = go (in_left xs) (cases_Bool (eqb x y))
      where
        go : (elem x xs ≡ true → elem x (xs ++ ys) ≡ true) → (eqb x y ≡ true) ⊎ (eqb x y ≡ false) → elem x (y ∷ (xs ++ ys)) ≡ true
        go ih (inl s) = rw s
        go ih (inr s) = rw s (ih (rw s at h))

module _ (p : Places) (lo n : ℕ) (w : List ℕ) (op : Open p lo n w) (all : List ℕ) (f : Faces p all) where
  -- nothing is done at first
  pub prog_start : Prog p n w all all n w
  prog_start = record { done = []; parts = refl; added = added_none p lo n w op }

  module _ (todo : List ℕ) (r : ℕ) (v : List ℕ) (g : Prog p n w all todo r v) where
    -- what is done are faces
    faces_done : Faces p g.done
    faces_done = faces_left p g.done todo all g.parts f

    -- more can be added
    pub prog_open : Open p lo r v
    prog_open = open_next p lo n w op g.done faces_done r v g.added

    -- what is read stays
    pub prog_base : base p v ≡ base p w
    prog_base = ap (base p) g.added.filled ∙ base_same p w (add_all g.done (listed p n w))

    -- and the length
    pub prog_length : length v ≡ length w
    prog_length = ap length g.added.filled ∙ length-sets w p.found (add_all g.done (listed p n w))

    -- a piece is done
    pub prog_step : (piece left : List ℕ) → todo ≡ piece ++ left → (q : ℕ) (u : List ℕ) → Added p piece r v q u → Prog p n w all left q u
    prog_step piece left e q u a = record {
      done = g.done ++ piece;
      parts = append_assoc g.done piece left ∙ ap (λ (l : List ℕ). g.done ++ l) (sym e) ∙ g.parts;
      added = added_more p lo n w op g.done faces_done r v g.added piece q u a;
    }

  -- all is done
  pub prog_end : (r : ℕ) (v : List ℕ) → Prog p n w all [] r v → Added p all n w r v
  prog_end r v g = subst (λ (l : List ℕ). Added p l n w r v) (sym (append-nil g.done) ∙ g.parts) g.added
