-- The finding of a face, by the count of the faces with its key.
use Prim.Native.Nat.{ℕ, suc, ◌+◌, ◌-◌, ◌≤◌, ◌<◌}
use mathlib.Core.Path.{◌≡◌, refl, sym, ap, ap₂, ◌∙◌}
use mathlib.Core.Logic.{◌⊎◌, inl, inr, ⊎_elim}
use mathlib.Core.Bool.{Bool, true, false, not, ◌||◌}
use mathlib.Core.List.{List, [], ◌∷◌, ◌++◌, map, map-append, append_assoc}
use native.Mathlib.Omega.{arith}
use native.Mathlib.Nat.{zero-add}
use borrow.Author.Tests.{le-leb, lt-leb}
use lib.Dec.{leb}
use lib.ListN.{length, get_or, take, drop, length-map}
use lib.Seq.{take_at, drop_at}
use Rattle.std.specs.Prelude.{Some, None}
use Rattle.laws.specs.Lists.{only_if, any, keep, up_from, elem, sort, eql}
use Rattle.std.proofs.lemmas.Bool.{and_parts, cases_Bool}
use Rattle.laws.proofs.ListLaws.{any-map, keep-map, keep_append, keep-length, length-up_from, eql_self}
use Rattle.laws.proofs.Ascending.{elem-keep, keep_cong, head_in, later_in}
use Rattle.mesh.specs.Rings.{Face, key_of, same_key}
use Rattle.findings.specs.Findings.{overfull, over_of, over_at}
use Rattle.findings.proofs.Laws.{keep_nothing, length_snoc}
use Rattle.index.specs.Faces.{input, cell_of}
use Rattle.index.proofs.Entries.{up_from_split}
use Rattle.layout.specs.declared.Layout.{Layout}
use Rattle.layout.specs.Tables.{ring_row, key_row, face_row, faces_at, Faced}
use Rattle.layout.specs.ByCell.{over_face}
use Rattle.layout.proofs.Reading.{first_most}
use Rattle.overfull.specs.declared.Tally.{Tally}
use Rattle.overfull.specs.Alike.{same_as, alike, start, tallied, FaceOf}
use Rattle.overfull.proofs.Members.{in_run}
use Rattle.overfull.proofs.Counted.{first_count, first_second, earlier}

-- of two tests that agree on the members, both find one that passes or neither does
any_cong : (p q : ℕ → Bool) (l : List ℕ) → ((x : ℕ) → elem x l ≡ true → p x ≡ q x) → any p l ≡ any q l
any_cong p q [] h = refl
any_cong p q (x ∷ l) h = ap₂ (λ (a b : Bool). a || b) (h x (head_in x l)) (any_cong p q l (λ y e. h y (later_in x l y e)))

module _ (l : Layout) (t : List ℕ) (f : Faced l t) (g : ℕ) (h : g < l.at.faces) where
  -- the faces before g
  abbrev before : List ℕ
  before = up_from 0 g

  -- the faces behind it
  abbrev behind : List ℕ
  behind = up_from (suc g) (l.at.faces - suc g)

  -- those behind it that have its key
  abbrev next : List ℕ
  next = keep (same_as l t g) behind

  -- the numbers of all faces: before g, g, behind it
  numbers : up_from 0 l.at.faces ≡ before ++ (g ∷ behind)
  numbers =
      let e : l.at.faces ≡ g + suc (l.at.faces - suc g) = omega (arith, h) in
      ap (up_from 0) e ∙ up_from_split 0 g (l.at.faces - suc g) ∙ ap (λ (k : ℕ). before ++ (k ∷ up_from (suc k) (l.at.faces - suc g))) (zero-add g)

  -- and so the faces
  whole : faces_at l t ≡ map (face_row l t) before ++ (face_row l t g ∷ map (face_row l t) behind)
  unfolding faces_at
  whole = ap (map (face_row l t)) numbers ∙ map-append (face_row l t) before (g ∷ behind)

  -- the first g of them
  before_is : take g (faces_at l t) ≡ map (face_row l t) before
  before_is =
      ap (take g) whole
      ∙ take_at (map (face_row l t) before) (face_row l t g ∷ map (face_row l t) behind) g (length-map before (face_row l t) ∙ length-up_from 0 g)

  -- and those from g + 1 on
  behind_is : drop (g + 1) (faces_at l t) ≡ map (face_row l t) behind
  behind_is =
      let front : List Face = map (face_row l t) before in
      ap (drop (g + 1)) (whole ∙ sym (append_assoc front (face_row l t g ∷ []) (map (face_row l t) behind)))
      ∙ drop_at (front ++ (face_row l t g ∷ [])) (map (face_row l t) behind) (g + 1)
      (omega (arith, length_snoc front (face_row l t g), length-map before (face_row l t) ∙ length-up_from 0 g))

  -- the test on faces, by keys
  same_is : (x : ℕ) → x < l.at.faces → same_key (face_row l t g) (face_row l t x) ≡ same_as l t g x
  unfolding same_key face_row same_as
  same_is x k = sym (ap₂ (λ (a b : List ℕ). eql a b) (f.keyed g h) (f.keyed x k))

  -- a face before g is lower
  low_before : (x : ℕ) → elem x before ≡ true → x < g
  low_before x e = omega (arith, in_run x 0 g e)

  -- one behind it is higher, and a face
  low_behind : (x : ℕ) → elem x behind ≡ true → (g ≤ x) × (x < l.at.faces)
  low_behind x e = omega (arith, in_run x (suc g) (l.at.faces - suc g) e, h)

  -- the finding, by numbers of faces
  over_is : over_face l t g ≡ only_if (not (any (same_as l t g) before)) (over_of (face_row l t g) (map (face_row l t) next))
  unfolding over_face over_at
  over_is =
      let a : any (same_key (face_row l t g)) (take g (faces_at l t)) ≡ any (same_as l t g) before =
      ap (any (same_key (face_row l t g))) before_is ∙ any-map (same_key (face_row l t g)) (face_row l t) before
      ∙ any_cong (λ x. same_key (face_row l t g) (face_row l t x)) (same_as l t g) before (λ x e. same_is x (omega (arith, h, low_before x e))) in
      let b : keep (same_key (face_row l t g)) (drop (g + 1) (faces_at l t)) ≡ map (face_row l t) next =
      ap (keep (same_key (face_row l t g))) behind_is ∙ keep-map (same_key (face_row l t g)) (face_row l t) behind
      ∙ ap (map (face_row l t)) (keep_cong (λ x. same_key (face_row l t g) (face_row l t x)) (same_as l t g) behind (λ x e. same_is x (low_behind x e).1)) in
      ap₂ (λ (x : Bool) (r : List Face). only_if (not x) (over_of (face_row l t g) r)) a b

  -- the faces with g's key: earlier ones, g, later ones
  alike_is : alike l t g ≡ keep (same_as l t g) before ++ (g ∷ next)
  unfolding alike same_as
  alike_is =
      ap (keep (same_as l t g)) numbers ∙ keep_append (same_as l t g) before (g ∷ behind)
      ∙ ap (λ (b : Bool). keep (same_as l t g) before ++ (only_if b (g ∷ []) ++ next)) (eql_self (key_row l t g))

  -- later ones are not lower
  next_high : (x : ℕ) → elem x next ≡ true → g ≤ x
  next_high x e = (low_behind x (and_parts (same_as l t g x) (elem x behind) (sym (elem-keep x (same_as l t g) behind) ∙ e)).1).0

  -- with g they are at most all faces
  next_few : suc (length next) ≤ l.at.faces
  next_few = omega (arith, h, keep-length (same_as l t g) behind, length-up_from (suc g) (l.at.faces - suc g))

  -- each is a face
  next_low : (x : ℕ) → elem x next ≡ true → x < l.at.faces
  next_low x e = (low_behind x (and_parts (same_as l t g x) (elem x behind) (sym (elem-keep x (same_as l t g) behind) ∙ e)).1).1

-- a face whose key one other has is no finding
over_short : (f : Face) (more : List Face) → length more < 2 → over_of f more ≡ []
unfolding over_of
over_short f more h = rw (lt-leb 2 (length more) h)

-- with two others it is
over_long : (f : Face) (more : List Face) → 2 ≤ length more
    → over_of f more ≡ overfull f.cell (get_or (map (λ g. g.cell) more) 0 0) f.num (suc (length more)) (key_of f) (f.cell ∷ map (λ g. g.cell) more) ∷ []
unfolding over_of
over_long f more h = rw (le-leb 2 (length more) h)

-- the finding of a face g that is the first of more than two with its key, by the second of them and how many they are
pub record Many (l : Layout) (t : List ℕ) (g second n : ℕ) : Type 0 where
  pub owners : List ℕ
  pub found : over_face l t g ≡ overfull (cell_of l.at t g) (cell_of l.at t second) g n (key_row l t g) owners ∷ []
  pub low : second < l.at.faces
  pub few : n ≤ l.at.faces

module _ (l : Layout) (t : List ℕ) (f : Faced l t) (g : ℕ) (h : g < l.at.faces) (T : Tally) (is : T ≡ tallied g (alike l t g) start) where
  -- a face has g's key
  abbrev q : ℕ → Bool
  q = same_as l t g

  -- the faces behind g with its key
  abbrev later : List ℕ
  later = next l t f g h

  -- either a face before g has the key, or g is the first
  either : ((T ≡ start) × (over_face l t g ≡ [])) ⊎ ((T ≡ tallied g (g ∷ later) start) × (over_face l t g ≡ over_of (face_row l t g) (map (face_row l t) later)))
  either = go (cases_Bool (any q (up_from 0 g)))
    where
      one : T ≡ tallied g (keep q (up_from 0 g) ++ (g ∷ later)) start
      one = is ∙ ap (λ (r : List ℕ). tallied g r start) (alike_is l t f g h)

      two : (b : Bool) → any q (up_from 0 g) ≡ b → over_face l t g ≡ only_if (not b) (over_of (face_row l t g) (map (face_row l t) later))
      two b e = over_is l t f g h ∙ ap (λ (x : Bool). only_if (not x) (over_of (face_row l t g) (map (face_row l t) later))) e

      go : (any q (up_from 0 g) ≡ true) ⊎ (any q (up_from 0 g) ≡ false) → ((T ≡ start) × (over_face l t g ≡ [])) ⊎ ((T ≡ tallied g (g ∷ later) start) × (over_face l t g ≡ over_of (face_row l t g) (map (face_row l t) later)))
      go (inl a) = inl (one ∙ earlier g q (up_from 0 g) (g ∷ later) a (low_before l t f g h), two true a)
      go (inr a) = inr (one ∙ ap (λ (r : List ℕ). tallied g (r ++ (g ∷ later)) start) (keep_nothing q (up_from 0 g) a), two false a)

  -- a count below three is no finding
  pub over_few : T.count < 3 → over_face l t g ≡ []
  over_few k = ⊎_elim (λ p. p.1) (λ p. p.1 ∙ over_short (face_row l t g) (map (face_row l t) later) (short p.0)) either
    where
      short : T ≡ tallied g (g ∷ later) start → length (map (face_row l t) later) < 2
      short p = omega (arith, k, length-map later (face_row l t), ap (λ (r : Tally). r.count) p ∙ first_count g later (next_high l t f g h))

  -- nor is it one without a second
  pub over_none : T.second ≡ None → over_face l t g ≡ []
  over_none z = ⊎_elim (λ p. p.1) (λ p. p.1 ∙ alone later (next_high l t f g h) p.0) either
    where
      alone : (hs : List ℕ) → ((x : ℕ) → elem x hs ≡ true → g ≤ x) → T ≡ tallied g (g ∷ hs) start → over_of (face_row l t g) (map (face_row l t) hs) ≡ []
      alone [] high p = over_short (face_row l t g) [] (omega arith)
      alone (x ∷ hs) high p = let e : T.second ≡ Some x = ap (λ (r : Tally). r.second) p ∙ first_second g x hs high in cc

  -- with g the first, and those behind it in sight
  many : (hs : List ℕ) (y : ℕ) → ((x : ℕ) → elem x hs ≡ true → g ≤ x) → ((x : ℕ) → elem x hs ≡ true → x < l.at.faces) → suc (length hs) ≤ l.at.faces
      → T ≡ tallied g (g ∷ hs) start → over_face l t g ≡ over_of (face_row l t g) (map (face_row l t) hs) → 3 ≤ T.count → T.second ≡ Some y → Many l t g y T.count
  unfolding face_row
  many [] y high low most p e k z = absurd (omega (arith, k, ap (λ (r : Tally). r.count) p ∙ first_count g [] high))
  many (x ∷ hs) y high low most p e k z =
      let n : T.count ≡ suc (length (x ∷ hs)) = ap (λ (r : Tally). r.count) p ∙ first_count g (x ∷ hs) high in
      let m : suc (length (map (face_row l t) (x ∷ hs))) ≡ T.count = omega (arith, n, length-map (x ∷ hs) (face_row l t)) in
      let u : T.second ≡ Some x = ap (λ (r : Tally). r.second) p ∙ first_second g x hs high in
      let s : x ≡ y = cc in
      let os : List ℕ = cell_of l.at t g ∷ map (λ (i : Face). i.cell) (map (face_row l t) (x ∷ hs)) in
      record {
        owners = os;
        found =
            e ∙ over_long (face_row l t g) (map (face_row l t) (x ∷ hs)) (omega (arith, k, m))
            ∙ ap₂ (λ (y i : ℕ). overfull (cell_of l.at t g) (cell_of l.at t y) g i (sort leb (ring_row l t g)) os ∷ []) s m
            ∙ ap (λ (r : List ℕ). overfull (cell_of l.at t g) (cell_of l.at t y) g T.count r os ∷ []) (sym (f.keyed g h));
        low = omega (arith, s, low x (head_in x hs));
        few = omega (arith, n, most);
      }

  -- a count of three or more is one
  pub over_many : (y : ℕ) → T.second ≡ Some y → 3 ≤ T.count → Many l t g y T.count
  over_many y z k =
      ⊎_elim (λ p. absurd (omega (arith, k, ap (λ (r : Tally). r.count) p.0)))
      (λ p. many later y (next_high l t f g h) (next_low l t f g h) (next_few l t f g h) p.0 p.1 k z) either

-- a face of a cell is a face
pub face_in : (l : Layout) (w : List ℕ) → Faced l (input l.at w) → (c g : ℕ) → FaceOf l (input l.at w) c g → g < l.at.faces
face_in l w f c g o = omega (arith, o.before, first_most l w f (c + 1) (omega (arith, o.cell)))
