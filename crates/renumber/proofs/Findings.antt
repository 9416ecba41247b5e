-- Rules that agree on cells alike give findings alike.
use Prim.Native.Nat.{ℕ, suc, ◌+◌}
use mathlib.Core.Path.{◌≡◌, refl, sym, ap, ap₂}
use mathlib.Core.Bool.{Bool, not, ◌&&◌}
use mathlib.Core.List.{List, [], ◌∷◌, ◌++◌, map}
use lib.Dec.{leb}
use lib.ListN.{length, get_or}
use Rattle.laws.specs.Lists.{only_if, each, walk}
use Rattle.mesh.specs.Model.{Raw, contains}
use Rattle.mesh.specs.Rings.{Cell, Face, faces_from, number_from, numbered, faces_of, faces, same_key}
use Rattle.findings.specs.Findings.{Rules, Finding, bowtie, overfull, partly, repeated, over_of, over_at, meets, meeting, partly_of, pair_at, kind1, kind2, kind3, kind4, full}
use Rattle.findings.specs.Records.{centre_in}
use Rattle.renumber.specs.Renumbering.{renamed}
use Rattle.renumber.proofs.Alike.{Alike, empty, link, append_alike, length_alike, first_alike, only_if_alike, map_alike, each_alike, walk_alike, map_same, any_alike, keep_alike, sort_alike}
use Rattle.renumber.proofs.Numbers.{eql_agree, common_alike, meets_agree}

-- two nodes
abbrev pub Both : (ℕ → ℕ → Type 0) → ℕ × ℕ → ℕ × ℕ → Type 0
Both E p q = E p.0 q.0 × E p.1 q.1

-- a face under the same number
record FaceAlike (E : ℕ → ℕ → Type 0) (f g : Face) : Type 0 where
  num : f.num ≡ g.num
  cell : f.cell ≡ g.cell
  ring : Alike E f.ring g.ring

-- findings that differ in their nodes alone
pub data FindingAlike (E : ℕ → ℕ → Type 0) : Finding → Finding → Type 0 where
  bowties : {c d : ℕ} → c ≡ d → FindingAlike E (bowtie c) (bowtie d)
  overfulls : {c₁ c₂ f n d₁ d₂ g m : ℕ} {k j os ps : List ℕ} → c₁ ≡ d₁ → c₂ ≡ d₂ → f ≡ g → n ≡ m → Alike E k j → os ≡ ps
      → FindingAlike E (overfull c₁ c₂ f n k os) (overfull d₁ d₂ g m j ps)
  partlys : {c₁ c₂ a b d₁ d₂ x y : ℕ} {ns ms : List ℕ} → c₁ ≡ d₁ → c₂ ≡ d₂ → a ≡ x → b ≡ y → Alike E ns ms
      → FindingAlike E (partly c₁ c₂ a b ns) (partly d₁ d₂ x y ms)
  repeateds : {c a b d x y : ℕ} → c ≡ d → E a x → E b y → FindingAlike E (repeated c a b) (repeated d x y)

-- a cell under the same number, where C says what two raw cells have in common
pub record CellAlike (C : Raw → Raw → Type 0) (c d : Cell) : Type 0 where
  pub num : c.num ≡ d.num
  pub from : c.from ≡ d.from
  pub raw : C c.raw d.raw

-- rules that agree
pub record RulesAlike (E : ℕ → ℕ → Type 0) (C : Raw → Raw → Type 0) (R S : Rules) : Type 0 where
  pub rings : (a b : Raw) → C a b → Alike (Alike E) (R.rings a) (S.rings b)
  pub bow : (a b : Raw) → C a b → R.bow a ≡ S.bow b
  pub spans : (l m : List ℕ) → Alike E l m → R.spans l ≡ S.spans m
  pub repeats : (a b : Raw) → C a b → Alike (Both E) (R.repeats a) (S.repeats b)
  pub centre : (l m : List ℕ) → Alike E l m → R.centre l ≡ S.centre m
  pub middle : (a b x y : ℕ) → E a x → E b y → R.middle a b ≡ S.middle x y

module _ (E : ℕ → ℕ → Type 0) (mono : (a b x y : ℕ) → E a x → E b y → leb a b ≡ leb x y) (C : Raw → Raw → Type 0) where
  -- the relations, at E and C
  abbrev CA : Cell → Cell → Type 0
  CA = CellAlike C

  abbrev FA : Face → Face → Type 0
  FA = FaceAlike E

  abbrev XA : Finding → Finding → Type 0
  XA = FindingAlike E

  -- ---- overfull faces

  same_key_agree : (f f' g g' : Face) → FA f f' → FA g g' → same_key f g ≡ same_key f' g'
  unfolding same_key
  same_key_agree f f' g g' a b = eql_agree E mono (sort_alike leb leb mono a.ring) (sort_alike leb leb mono b.ring)

  over_of_alike : (f f' : Face) → FA f f' → {l m : List Face} → Alike FA l m → Alike XA (over_of f l) (over_of f' m)
  unfolding over_of
  over_of_alike f f' a {l} {m} g =
      let cells : map (λ (h : Face). h.cell) l ≡ map (λ (h : Face). h.cell) m =
      map_same (λ (h : Face). h.cell) (λ (h : Face). h.cell) (λ h h' b. b.cell) g in
      only_if_alike (ap (leb 2) (length_alike g))
      (link (overfulls a.cell (ap (λ (r : List ℕ). get_or r 0 0) cells) a.num (ap suc (length_alike g)) (sort_alike leb leb mono a.ring)
      (ap₂ (λ (x : ℕ) (r : List ℕ). x ∷ r) a.cell cells)) empty)

  over_at_alike : (p p' : List Face) (f f' : Face) (q q' : List Face) → Alike FA p p' → FA f f' → Alike FA q q' → Alike XA (over_at p f q) (over_at p' f' q')
  unfolding over_at
  over_at_alike p p' f f' q q' a b c =
      only_if_alike (ap not (any_alike (same_key f) (same_key f') (λ g g' h. same_key_agree f f' g g' b h) a))
      (over_of_alike f f' b (keep_alike (same_key f) (same_key f') (λ g g' h. same_key_agree f f' g g' b h) c))

  -- ---- faces of cells

  faces_from_lem : (c d n m : ℕ) → c ≡ d → n ≡ m → {rs ss : List (List ℕ)} → Alike (Alike E) rs ss → Alike FA (faces_from c n rs) (faces_from d m ss)
  unfolding faces_from
  faces_from_lem c d n m e f empty = empty
  faces_from_lem c d n m e f (link g r) = link (record { num = f; cell = e; ring = g }) (faces_from_lem c d (suc n) (suc m) e (ap suc f) r)

  module _ (R S : Rules) (A : RulesAlike E C R S) where
    faces_of_alike : (c d : Cell) → CA c d → Alike FA (faces_of R.rings c) (faces_of S.rings d)
    unfolding faces_of
    faces_of_alike c d a = faces_from_lem c.num d.num c.from d.from a.num a.from (A.rings c.raw d.raw a.raw)

    faces_alike : {cs ds : List Cell} → Alike CA cs ds → Alike FA (faces R.rings cs) (faces S.rings ds)
    unfolding faces
    faces_alike g = each_alike (faces_of R.rings) (faces_of S.rings) faces_of_alike g

    -- ---- partly shared pairs

    abbrev Pair : Face × Face → Face × Face → Type 0
    Pair p q = FA p.0 q.0 × FA p.1 q.1

    meeting_alike : {fs fs' gs gs' : List Face} → Alike FA fs fs' → Alike FA gs gs' → Alike Pair (meeting R fs gs) (meeting S fs' gs')
    unfolding meeting
    meeting_alike {gs = gs} {gs' = gs'} a b =
        each_alike (λ f. each (λ g. only_if (meets R.spans f.ring g.ring) ((f, g) ∷ [])) gs)
        (λ f. each (λ g. only_if (meets S.spans f.ring g.ring) ((f, g) ∷ [])) gs')
        (λ f f' h. each_alike (λ g. only_if (meets R.spans f.ring g.ring) ((f, g) ∷ []))
        (λ g. only_if (meets S.spans f'.ring g.ring) ((f', g) ∷ []))
        (λ g g' k. only_if_alike (meets_agree E mono R.spans S.spans A.spans h.ring k.ring) (link (h, k) empty)) b) a

    partly_of_alike : (a a' b b' : Cell) → CA a a' → CA b b' → (p q : Face × Face) → Pair p q → XA (partly_of R a b p) (partly_of S a' b' q)
    unfolding partly_of
    partly_of_alike a a' b b' e f p q h = partlys e.num f.num h.0.num h.1.num (common_alike E mono h.0.ring h.1.ring)

    pair_at_alike : (a a' b b' : Cell) → CA a a' → CA b b' → Alike XA (pair_at R a b) (pair_at S a' b')
    unfolding pair_at
    pair_at_alike a a' b b' e f =
        only_if_alike (ap₂ (λ (u v : Bool). not u && not v) (A.bow a.raw a'.raw e.raw) (A.bow b.raw b'.raw f.raw))
        (map_alike (partly_of R a b) (partly_of S a' b') (partly_of_alike a a' b b' e f)
        (first_alike (meeting_alike (faces_of_alike a a' e) (faces_of_alike b b' f))))

    -- ---- the kinds

    kind1_alike : (p p' : List Cell) (c c' : Cell) (q q' : List Cell) → Alike CA p p' → CA c c' → Alike CA q q' → Alike XA (kind1 R p c q) (kind1 S p' c' q')
    unfolding kind1
    kind1_alike p p' c c' q q' a b d = only_if_alike (A.bow c.raw c'.raw b.raw) (link (bowties b.num) empty)

    kind2_alike : (p p' : List Cell) (c c' : Cell) (q q' : List Cell) → Alike CA p p' → CA c c' → Alike CA q q' → Alike XA (kind2 R p c q) (kind2 S p' c' q')
    unfolding kind2
    kind2_alike p p' c c' q q' a b d =
        walk_alike (λ u f v. over_at u f (v ++ faces R.rings q)) (λ u f v. over_at u f (v ++ faces S.rings q'))
        (λ u u' f f' v v' x y z. over_at_alike u u' f f' (v ++ faces R.rings q) (v' ++ faces S.rings q') x y (append_alike z (faces_alike d)))
        (faces_of_alike c c' b) (faces_alike a)

    kind3_alike : (p p' : List Cell) (c c' : Cell) (q q' : List Cell) → Alike CA p p' → CA c c' → Alike CA q q' → Alike XA (kind3 R p c q) (kind3 S p' c' q')
    unfolding kind3
    kind3_alike p p' c c' q q' a b d = each_alike (pair_at R c) (pair_at S c') (λ x x' e. pair_at_alike c c' x x' b e) d

    kind4_alike : (p p' : List Cell) (c c' : Cell) (q q' : List Cell) → Alike CA p p' → CA c c' → Alike CA q q' → Alike XA (kind4 R p c q) (kind4 S p' c' q')
    unfolding kind4
    kind4_alike p p' c c' q q' a b d =
        map_alike (λ (x : ℕ × ℕ). repeated c.num x.0 x.1) (λ (x : ℕ × ℕ). repeated c'.num x.0 x.1)
        (λ x y e. repeateds b.num e.0 e.1) (A.repeats c.raw c'.raw b.raw)

    -- a kind, where its flag is set
    asked : (flags flag : ℕ) (f g : List Cell → Cell → List Cell → List Finding)
        → ((p p' : List Cell) (c c' : Cell) (q q' : List Cell) → Alike CA p p' → CA c c' → Alike CA q q' → Alike XA (f p c q) (g p' c' q'))
        → {cs ds : List Cell} → Alike CA cs ds → Alike XA (only_if (contains flags flag) (walk f [] cs)) (only_if (contains flags flag) (walk g [] ds))
    asked flags flag f g h a = only_if_alike {b = contains flags flag} refl (walk_alike f g h a empty)

    pub full_alike : (flags : ℕ) {cs ds : List Cell} → Alike CA cs ds → Alike XA (full R flags cs) (full S flags ds)
    unfolding full
    full_alike flags a =
        append_alike (asked flags 2 (kind1 R) (kind1 S) kind1_alike a)
        (append_alike (asked flags 1 (kind2 R) (kind2 S) kind2_alike a)
        (append_alike (asked flags 1 (kind3 R) (kind3 S) kind3_alike a) (append_alike (asked flags 1 (kind4 R) (kind4 S) kind4_alike a) empty)))

    -- ---- cells under their numbers

    numbers_from : (i n m : ℕ) → n ≡ m → {cs ds : List Raw} → Alike C cs ds → Alike CA (number_from R.rings i n cs) (number_from S.rings i m ds)
    unfolding number_from
    numbers_from i n m e empty = empty
    numbers_from i n m e (link {a = a} {b = b} h r) =
        link (record { num = refl; from = e; raw = h })
        (numbers_from (suc i) (n + length (R.rings a)) (m + length (S.rings b)) (ap₂ ◌+◌ e (length_alike (A.rings a b h))) r)

    pub numbered_alike : {cs ds : List Raw} → Alike C cs ds → Alike CA (numbered R.rings cs) (numbered S.rings ds)
    unfolding numbered
    numbered_alike g = numbers_from 0 0 0 refl g

-- ---- what findings alike have in common

module _ (E : ℕ → ℕ → Type 0) (ρ : ℕ → ℕ) (named : (a x : ℕ) → E a x → x ≡ ρ a) where
  pub names : {l m : List ℕ} → Alike E l m → m ≡ map ρ l
  names empty = refl
  names (link {a = a} {b = x} e r) = ap₂ (λ (y : ℕ) (l : List ℕ). y ∷ l) (named a x e) (names r)

  -- the one is the other, renamed
  pub finding_renamed : {x y : Finding} → FindingAlike E x y → y ≡ renamed ρ x
  unfolding renamed
  finding_renamed (bowties e) = λ i. bowtie (sym e i)
  finding_renamed (overfulls a b c d g e) = λ i. overfull (sym a i) (sym b i) (sym c i) (sym d i) (names g i) (sym e i)
  finding_renamed (partlys a b c d g) = λ i. partly (sym a i) (sym b i) (sym c i) (sym d i) (names g i)
  finding_renamed (repeateds {a = a} {b = b} {x = x} {y = y} e f g) = λ i. repeated (sym e i) (named a x f i) (named b y g i)

  pub findings_renamed : {l m : List Finding} → Alike (FindingAlike E) l m → m ≡ map (renamed ρ) l
  findings_renamed empty = refl
  findings_renamed (link e r) = ap₂ (λ (y : Finding) (l : List Finding). y ∷ l) (finding_renamed e) (findings_renamed r)

module _ (E : ℕ → ℕ → Type 0) (C : Raw → Raw → Type 0) (R S : Rules) (A : RulesAlike E C R S) where
  -- they have the same centre
  pub centre_same : {x y : Finding} → FindingAlike E x y → centre_in R x ≡ centre_in S y
  unfolding centre_in
  centre_same (bowties e) = refl
  centre_same (overfulls {k = k} {j = j} a b c d g e) = A.centre k j g
  centre_same (partlys {ns = ns} {ms = ms} a b c d g) = A.centre ns ms g
  centre_same (repeateds {a = a} {b = b} {x = x} {y = y} e f g) = A.middle a b x y f g
