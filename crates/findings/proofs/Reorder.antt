-- The full lists before and after a reordering have the same findings, each as often.
use Prim.Native.Nat.{ℕ, suc, ◌+◌}
use mathlib.Core.Path.{◌≡◌, refl, sym, ap, ap₂, ◌∙◌, subst}
use mathlib.Core.Logic.{◌⊎◌, inl, inr, ∥∥₁_map}
use mathlib.Core.Bool.{Bool, true, false, not, ◌&&◌, ◌||◌, or-false, or-true, or_comm, or_assoc, and_comm}
use mathlib.Core.List.Permᴰ
use mathlib.Core.List.{List, [], ◌∷◌, ◌++◌, map, append_assoc, map-append, map-map, Perm, Permᴰ}
use lib.Dec.{leb}
use lib.ListN.{length, get_or, length-map}
use lib.Seq.{get_or-append_seam}
use Rattle.laws.specs.Lists.{only_if, any, first, each, walk, keep, sort, eql, up_from}
use Rattle.std.proofs.lemmas.Bool.{cases_Bool}
use Rattle.laws.proofs.ListLaws.{each_ext, walk-each, each_map, map_each, map-only_if, any-map, any_append, any_swap, only_if_and, keep-map, walk-map, eql_true, eql_self, eql_comm}
use Rattle.laws.proofs.Sorting.{by_number, insert_swap}
use Rattle.laws.proofs.Permutations.{perm_ind, perm_eq, perm_append, perm_left_comm, perm_each, perm_map, pairs, perm_pairs, perm_length, sort_perm}
use Rattle.mesh.specs.Model.{Raw, contains, TOPOLOGY, BUTTERFLY}
use Rattle.mesh.specs.Rings.{Cell, Face, faces_from, faces_of, faces, number_from, numbered, same_key}
use Rattle.mesh.proofs.ModelTable.{rings_from}
use Rattle.findings.specs.Findings.{Rules, bowtie, repeated, meets, over_of, over_at, partly_of, pair_at, kind1, kind2, kind3, kind4, full}
use Rattle.findings.specs.Compared.{none, shares, Compared, bowtie_c, overfull_c, partly_c, repeated_c, compared, moved}
use Rattle.findings.proofs.Laws.{occupied, length_snoc}
use Rattle.findings.proofs.Nodes.{meets_comm}
use Rattle.findings.proofs.Faces.{meeting_occupied, face_walk}

-- ---- what is compared, from the cells' names, kinds and words alone: no cell number, no face number, no order in a pair

-- a cell by its name
abbrev Named : Type 0
Named = ℕ × Raw

-- a face by its cell's name and its key
abbrev Keyed : Type 0
Keyed = ℕ × List ℕ

-- two with the same key
abbrev same : Keyed → Keyed → Bool
same x y = eql x.1 y.1

module _ (R : Rules) where
  -- kind 1 of a cell
  abbrev bow_n : Named → List Compared
  bow_n c = only_if (R.bow c.1) (bowtie_c c.0 ∷ [])

  -- a cell's faces
  abbrev keyed : Named → List Keyed
  keyed c = map (λ r. (c.0, sort leb r)) (R.rings c.1)

  -- a face with those that have its key
  over_n : Keyed → List Keyed → List Compared
  over_n x rest = only_if (leb 2 (length rest)) (overfull_c x.1 (suc (length rest)) (R.centre x.1) (sort leb (x.0 ∷ map (λ y. y.0) rest)) ∷ [])

  -- a face among all
  over_at_n : List Keyed → Keyed → List Keyed → List Compared
  over_at_n pre x post = only_if (not (any (same x) pre)) (over_n x (keep (same x) post))

  -- kind 3 of two cells
  abbrev pair_n : Named → Named → List Compared
  pair_n a b = only_if (shares R a.1 b.1) (partly_c (sort leb (a.0 ∷ b.0 ∷ [])) ∷ [])

  -- kind 4 of a cell
  abbrev rep_n : Named → List Compared
  rep_n c = map (λ (p : ℕ × ℕ). repeated_c c.0 p.0 p.1 2 (R.middle p.0 p.1)) (R.repeats c.1)

  -- all kinds
  all_n : ℕ → List Named → List Compared
  all_n flags cs =
      only_if (contains flags BUTTERFLY) (each bow_n cs)
      ++ (only_if (contains flags TOPOLOGY) (walk over_at_n [] (each keyed cs))
      ++ (only_if (contains flags TOPOLOGY) (pairs pair_n cs) ++ (only_if (contains flags TOPOLOGY) (each rep_n cs) ++ [])))

-- ---- the compared list is settled by the cells' names, kinds and words

module _ (R : Rules) (ρ : ℕ → ℕ) where
  -- a cell by ρ's name for it
  abbrev named : Cell → Named
  named c = (ρ c.num, c.raw)

  -- a face by ρ's name for its cell, and its key
  abbrev key : Face → Keyed
  key f = (ρ f.cell, sort leb f.ring)

  -- kind 1
  bow_part : (cs : List Cell) → map (compared R ρ) (walk (kind1 R) [] cs) ≡ each (bow_n R) (map named cs)
  unfolding kind1 compared
  bow_part cs =
      ap (map (compared R ρ)) (walk-each (λ c. only_if (R.bow c.raw) (bowtie c.num ∷ [])) [] cs)
      ∙ map_each (compared R ρ) _ cs ∙ each_ext (λ c. map-only_if (compared R ρ) (R.bow c.raw) _) cs ∙ sym (each_map (bow_n R) named cs)

  -- kind 4
  rep_part : (cs : List Cell) → map (compared R ρ) (walk (kind4 R) [] cs) ≡ each (rep_n R) (map named cs)
  unfolding kind4 compared
  rep_part cs =
      ap (map (compared R ρ)) (walk-each (λ c. map (λ (p : ℕ × ℕ). repeated c.num p.0 p.1) (R.repeats c.raw)) [] cs)
      ∙ map_each (compared R ρ) _ cs ∙ each_ext (λ c. map-map (compared R ρ) _ (R.repeats c.raw)) cs ∙ sym (each_map (rep_n R) named cs)

  -- the lowest face pair, if there is one
  first_part : (a b : Cell) (l : List (Face × Face))
      → map (compared R ρ) (map (partly_of R a b) (first l)) ≡ only_if (occupied l) (partly_c (sort leb (ρ a.num ∷ ρ b.num ∷ [])) ∷ [])
  unfolding partly_of compared
  first_part a b [] = refl
  first_part a b (x ∷ l) = refl

  -- the pair of two cells
  pair_part : (a b : Cell) → map (compared R ρ) (pair_at R a b) ≡ pair_n R (named a) (named b)
  unfolding pair_at shares faces_of
  pair_part a b = simp (map-only_if, first_part, meeting_occupied, rings_from, only_if_and)

  -- kind 3
  pairs_part : (pre cs : List Cell) → map (compared R ρ) (walk (kind3 R) pre cs) ≡ pairs (pair_n R) (map named cs)
  unfolding kind3
  pairs_part pre [] = refl
  pairs_part pre (c ∷ cs) =
      map-append (compared R ρ) (each (pair_at R c) cs) _
      ∙ ap₂ (λ (l m : List Compared). l ++ m)
      (map_each (compared R ρ) (pair_at R c) cs ∙ each_ext (pair_part c) cs ∙ sym (each_map (pair_n R (named c)) named cs))
      (pairs_part (pre ++ (c ∷ [])) cs)

  -- a face with those after it that have its key
  over_of_lem : (f : Face) (l : List Face) → map (compared R ρ) (over_of f l) ≡ over_n R (key f) (map key l)
  unfolding over_of over_n compared
  over_of_lem f l = simp (map-only_if, length-map, map-map)

  -- a face among all
  over_at_lem : (p : List Face) (f : Face) (q : List Face) → map (compared R ρ) (over_at p f q) ≡ over_at_n R (map key p) (key f) (map key q)
  unfolding over_at over_at_n same_key
  over_at_lem p f q = simp (map-only_if, over_of_lem, any-map (same (key f)) key, keep-map (same (key f)) key)

  -- the keys of a cell's faces
  keys_from : (c n : ℕ) (rs : List (List ℕ)) → map key (faces_from c n rs) ≡ map (λ r. (ρ c, sort leb r)) rs
  unfolding faces_from
  keys_from c n [] = refl
  keys_from c n (r ∷ rs) = ap (λ (l : List Keyed). (ρ c, sort leb r) ∷ l) (keys_from c (suc n) rs)

  -- the keys of all faces
  keys_of : (cs : List Cell) → map key (faces R.rings cs) ≡ each (keyed R) (map named cs)
  unfolding faces faces_of
  keys_of cs = map_each key (faces_of R.rings) cs ∙ each_ext (λ c. keys_from c.num c.from (R.rings c.raw)) cs ∙ sym (each_map (keyed R) named cs)

  -- kind 2
  over_part : (cs : List Cell) → map (compared R ρ) (walk (kind2 R) [] cs) ≡ walk (over_at_n R) [] (each (keyed R) (map named cs))
  unfolding faces
  over_part cs =
      ap (map (compared R ρ)) (face_walk R [] cs) ∙ walk-map (compared R ρ) key over_at (over_at_n R) over_at_lem [] (faces R.rings cs)
      ∙ ap (walk (over_at_n R) []) (keys_of cs)

  -- all kinds
  all_part : (flags : ℕ) (cs : List Cell) → map (compared R ρ) (full R flags cs) ≡ all_n R flags (map named cs)
  unfolding full all_n
  all_part flags cs = simp (map-append, map-only_if, bow_part cs, over_part cs, pairs_part [] cs, rep_part cs)

-- two tests after a third change places
or_last : (a b c : Bool) → (a || b || c) ≡ (a || c || b)
or_last a b c = or_assoc a b c ∙ ap (λ t. a || t) (or_comm b c) ∙ sym (or_assoc a c b)

-- a permutation under a test
perm_only_if {ℓ} : {A : Type ℓ} (b : Bool) {l m : List A} → Permᴰ l m → Permᴰ (only_if b l) (only_if b m)
perm_only_if true d = d
perm_only_if false d = Permᴰ.nil

-- ---- and is the same, but for its order, however the cells are ordered

module _ (R : Rules) where
  -- two cells share either way round
  pub shares_comm : (a b : Raw) → shares R a b ≡ shares R b a
  unfolding shares
  shares_comm a b =
      ap₂ (λ (s t : Bool). s && t) (and_comm (not (R.bow a)) (not (R.bow b)))
      (any_swap (meets R.spans) (R.rings a) (R.rings b) ∙ simp (meets_comm R.spans))

  -- and so their pair
  pair_n_comm : (a b : Named) → pair_n R a b ≡ pair_n R b a
  pair_n_comm a b = rw (shares_comm a.1 b.1, insert_swap leb by_number a.0 b.0 [])

  -- the order of the faces with a key does not matter
  over_n_perm : (x : Keyed) {l m : List Keyed} → Permᴰ l m → over_n R x l ≡ over_n R x m
  unfolding over_n
  over_n_perm x {l} {m} d = rw (perm_length d, sort_perm leb by_number (perm_map (λ y. y.0) d))

  -- nor that of the faces after
  over_perm_post : (pre : List Keyed) (x : Keyed) {l m : List Keyed} → Permᴰ l m → over_at_n R pre x l ≡ over_at_n R pre x m
  unfolding over_at_n
  over_perm_post pre x d = ap (only_if (not (any (same x) pre))) (over_n_perm x (perm_each (λ y. only_if (same x y) (y ∷ [])) d))

  -- only which keys came before matters
  walk_seen : (l pre pre' : List Keyed) → ((x : Keyed) → any (same x) pre ≡ any (same x) pre') → walk (over_at_n R) pre l ≡ walk (over_at_n R) pre' l
  unfolding over_at_n
  walk_seen [] pre pre' e = refl
  walk_seen (x ∷ l) pre pre' e =
      rw (e x, walk_seen l (pre ++ (x ∷ [])) (pre' ++ (x ∷ [])) (λ y. rw (any_append (same y) pre (x ∷ []), any_append (same y) pre' (x ∷ []), e y)))

  -- y has another key than x: after x it does not matter
  other_post : (pre l : List Keyed) (x y : Keyed) → same x y ≡ false → over_at_n R pre x (y ∷ l) ≡ over_at_n R pre x l
  unfolding over_at_n
  other_post pre l x y e = rw e

  -- nor before it
  other_pre : (pre l : List Keyed) (x y : Keyed) → same x y ≡ false → over_at_n R (pre ++ (y ∷ [])) x l ≡ over_at_n R pre x l
  unfolding over_at_n
  other_pre pre l x y e = simp (any_append, e, or-false)

  -- y has x's key: after it, x is no first
  same_pre : (pre l : List Keyed) (x y : Keyed) → same x y ≡ true → over_at_n R (pre ++ (y ∷ [])) x l ≡ []
  unfolding over_at_n
  same_pre pre l x y e = simp (any_append, e, or-true)

  -- and either may be the first
  same_post : (pre l : List Keyed) (x y : Keyed) → x.1 ≡ y.1 → over_at_n R pre x (y ∷ l) ≡ over_at_n R pre y (x ∷ l)
  unfolding over_at_n over_n
  same_post pre l x y e =
      subst (λ k. over_at_n R pre x ((y.0, k) ∷ l) ≡ over_at_n R pre (y.0, k) (x ∷ l)) e (simp (eql_self x.1) (rw (insert_swap leb by_number x.0 y.0)))

  -- two faces change places
  over_swap : (pre : List Keyed) (x y : Keyed) (l : List Keyed) → Permᴰ (walk (over_at_n R) pre (x ∷ y ∷ l)) (walk (over_at_n R) pre (y ∷ x ∷ l))
  over_swap pre x y l = go (cases_Bool (same x y))
    where
      tail : walk (over_at_n R) (pre ++ (x ∷ []) ++ (y ∷ [])) l ≡ walk (over_at_n R) (pre ++ (y ∷ []) ++ (x ∷ [])) l
      tail = walk_seen l _ _ (λ z. simp (any_append, or-false) (or_last (any (same z) pre) (same z x) (same z y)))

      go : (same x y ≡ true) ⊎ (same x y ≡ false) → Permᴰ (walk (over_at_n R) pre (x ∷ y ∷ l)) (walk (over_at_n R) pre (y ∷ x ∷ l))
      go (inl e) =
          let f : same y x ≡ true = eql_comm y.1 x.1 ∙ e in
          perm_eq (rw (tail, same_pre pre l y x f, same_pre pre l x y e, same_post pre l x y (eql_true x.1 y.1 e)))
      go (inr e) =
          let f : same y x ≡ false = eql_comm y.1 x.1 ∙ e in
          rw (tail, other_post pre l x y e, other_post pre l y x f, other_pre pre l x y e, other_pre pre l y x f) (perm_left_comm (over_at_n R pre x l) (over_at_n R pre y l) (walk (over_at_n R) (pre ++ (y ∷ []) ++ (x ∷ [])) l))

  -- overfull faces in any order of the faces
  over_perm : {l m : List Keyed} → Permᴰ l m → (pre : List Keyed) → Permᴰ (walk (over_at_n R) pre l) (walk (over_at_n R) pre m)
  over_perm =
      perm_ind (λ l m. (pre : List Keyed) → Permᴰ (walk (over_at_n R) pre l) (walk (over_at_n R) pre m)) (λ pre. Permᴰ.nil)
      (λ x l m d p pre. rw (over_perm_post pre x d) (Permᴰ.append_left (over_at_n R pre x m) (p (pre ++ (x ∷ [])))))
      (λ x y l pre. over_swap pre x y l)
      (λ l m n p q pre. Permᴰ.trans (p pre) (q pre))

  -- all kinds in any order of the cells
  all_perm : (flags : ℕ) {cs ds : List Named} → Permᴰ cs ds → Permᴰ (all_n R flags cs) (all_n R flags ds)
  unfolding all_n
  all_perm flags d =
      let t = contains flags TOPOLOGY in
      perm_append (perm_only_if (contains flags BUTTERFLY) (perm_each (bow_n R) d))
      (perm_append (perm_only_if t (over_perm (perm_each (keyed R) d) []))
      (perm_append (perm_only_if t (perm_pairs (pair_n R) pair_n_comm d)) (perm_append (perm_only_if t (perm_each (rep_n R) d)) Permᴰ.nil)))

-- ---- the cells and the cells moved

module _ (R : Rules) where
  -- the moved cells, named by σ
  moved_named : (pre τ : List ℕ) (g : ℕ → Raw) (n : ℕ)
      → map (named R (λ i. get_or (pre ++ τ) i 0)) (number_from R.rings (length pre) n (map g τ)) ≡ map (λ i. (i, g i)) τ
  unfolding number_from
  moved_named pre [] g n = refl
  moved_named pre (t ∷ τ) g n =
      ap₂ (λ (c : Named) (l : List Named). c ∷ l) (ap (λ i. (i, g t)) (get_or-append_seam pre t τ 0))
      (rw (append_assoc pre (t ∷ []) τ, length_snoc pre t) at (moved_named (pre ++ (t ∷ [])) τ g (n + length (R.rings (g t)))))

  -- the cells, named by their numbers
  kept_named : (pre cs : List Raw) (n : ℕ)
      → map (named R (λ i. i)) (number_from R.rings (length pre) n cs) ≡ map (λ i. (i, get_or (pre ++ cs) i none)) (up_from (length pre) (length cs))
  unfolding number_from
  kept_named pre [] n = refl
  kept_named pre (c ∷ cs) n =
      ap₂ (λ (c : Named) (l : List Named). c ∷ l) (ap (λ (v : Raw). (length pre, v)) (sym (get_or-append_seam pre c cs none)))
      (rw (append_assoc pre (c ∷ []) cs, length_snoc pre c) at (kept_named (pre ++ (c ∷ [])) cs (n + length (R.rings c))))

  -- the full lists before and after, compared
  pub reordering : (flags : ℕ) (cs : List Raw) (σ : List ℕ) → Perm σ (up_from 0 (length cs))
      → Perm (map (compared R (λ i. get_or σ i 0)) (full R flags (numbered R.rings (moved σ cs)))) (map (compared R (λ i. i)) (full R flags (numbered R.rings cs)))
  unfolding moved numbered
  reordering flags cs σ p =
      ∥∥₁_map p (λ d. rw (all_part R (λ i. get_or σ i 0), all_part R (λ i. i), moved_named [] σ (λ i. get_or cs i none) 0, kept_named [] cs 0)
      (all_perm R flags (perm_map (λ i. (i, get_or cs i none)) d)))
