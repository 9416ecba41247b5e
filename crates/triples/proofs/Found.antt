-- What the two searches find: the candidates.
use Prim.Native.Nat.{ℕ, ◌+◌, ◌-◌, ◌≤◌, ◌<◌}
use mathlib.Core.Path.{◌≡◌, refl, sym, ap, ap₂, ◌∙◌, subst}
use mathlib.Core.Logic.{◌⊎◌, inl, inr}
use mathlib.Core.Bool.{Bool, true, false, ◌||◌, false≢true}
use mathlib.Core.List.{List, [], ◌∷◌, ◌++◌}
use native.Mathlib.Omega.{arith}
use lib.ListN.{length, get_or}
use lib.Seq.{sets}
use Rattle.laws.specs.Lists.{any, each, keep, up_from, elem}
use Rattle.laws.specs.Merging.{region}
use Rattle.laws.proofs.ListLaws.{any_append, each_append, keep-length}
use Rattle.std.proofs.lemmas.Bool.{cases_Bool}
use Rattle.laws.proofs.Ascending.{keep_none}
use Rattle.index.specs.declared.Places.{Places}
use Rattle.index.specs.declared.by_node.Index.{Index}
use Rattle.index.specs.Read.{input_of, set_of}
use Rattle.index.specs.Faces.{input, base, start_of, nodes_of, Indexed}
use Rattle.merge.specs.Runs.{rest}
use Rattle.seek.specs.Candidates.{common, shares, candidates, Ready, Sought}
use Rattle.seek.proofs.Searching.{input_base}
use Rattle.index.proofs.Read.{of_index, set-fits, set_there, read_node, node_low}
use Rattle.triple_keys.specs.Keys.{keys_of, Keyed}
use Rattle.triples.specs.Hits.{hits_by, add_all, Open, Added, Beside, Known, NodesAt, AddedRare}
use Rattle.triples.proofs.ShareKey.{Short, share_key}
use Rattle.triples.proofs.Cover.{parts, not_two, three_of, Covers, all_found}
use Rattle.triples.proofs.Steps.{step_base, step_more}

-- an empty list
pub none_open : (p : Places) (lo : ℕ) (w : List ℕ) → Ready p lo w → Open p lo 0 w
none_open p lo w r = record { ready = r; few = omega arith; asc = tt; low = λ x e. absurd (false≢true e) }

-- the second index is one of the same faces
pub keyed_beside : (p q : Places) (b : List ℕ) → Keyed p q b → Beside p q b
keyed_beside p q b k = record { indexed = k.indexed; found = k.found; faces = k.faces }

-- and so is the first
pub self_beside : (p : Places) (b : List ℕ) → Indexed p b → Beside p p b
self_beside p b ix = record { indexed = ix; found = refl; faces = refl }

-- where the nodes of lo, or its keys, stand, as an index tells
pub nodes_at : {p : Places} {b : List ℕ} (i : Index) → (i.base.now ≡ b) × (i.at ≡ p) → (lo x n : ℕ) → x ≡ i.at.sets + start_of i.at (input_of i) lo → n ≡ length (set_of i lo)
    → NodesAt p b lo x (x + n)
nodes_at i same lo x n is-x is-n = of_index i (λ q l. NodesAt q l lo x (x + n)) same (record { start = is-x; end = ap (λ (k : ℕ). x + k) is-n })

module _ (p : Places) (b : List ℕ) (ix : Indexed p b) (lo s e : ℕ) (face : lo < p.faces) (at : NodesAt p b lo s e) where
  -- the nodes of lo, or its keys, are those words
  pub the_nodes : rest s e b ≡ nodes_of p (input p b) lo
  the_nodes =
      let d : e - s ≡ length (nodes_of p (input p b) lo) = omega (arith, at.end) in
      ap₂ (λ (x k : ℕ). region x k b) at.start d ∙ set_there p b ix lo face

  -- they lie in b
  pub nodes_fit : e ≤ length b
  nodes_fit = omega (arith, at.start, at.end, set-fits p b ix lo face)

  -- each is a node
  pub nodes_known : Known p b s e
  nodes_known i h k =
      let j : ℕ = i - s in
      let i-is : i ≡ p.sets + start_of p (input p b) lo + j = omega (arith, at.start) in
      let l : j < length (nodes_of p (input p b) lo) = omega (arith, at.end) in
      omega (arith, ap (λ (x : ℕ). get_or b x 0) i-is ∙ read_node p b ix lo j face l, node_low p b ix lo j face l)

  -- of three that pass one is not left out
  one_left : (i j : ℕ) → s ≤ i → i < j → j < e → (q : ℕ → Bool) → 3 ≤ length (keep q (nodes_of p (input p b) lo)) → any q (parts s i j e b) ≡ true
  one_left i j h k l q three = not_two q s i j e b h k l nodes_fit (subst (λ (r : List ℕ). 3 ≤ length (keep q r)) (sym the_nodes) three)

  -- all but two of the nodes are enough
  pub rare_covers : (i j : ℕ) → s ≤ i → i < j → j < e → Covers p p b lo (parts s i j e b)
  unfolding common
  rare_covers i j h k l g low three = one_left i j h k l (λ v. elem v (nodes_of p (input p b) g)) three

  -- a list is short, or its keys are its numbers
  plain : (N B : ℕ) (l : List ℕ) → Short l ⊎ (keys_of N B l ≡ l)
  plain N B [] = inr refl
  plain N B (x ∷ []) = inr refl
  plain N B (x ∷ y ∷ []) = inr refl
  plain N B (x ∷ y ∷ z ∷ []) = inl (omega arith, omega arith)
  plain N B (x ∷ y ∷ z ∷ u ∷ []) = inl (omega arith, omega arith)
  plain N B (x ∷ y ∷ z ∷ u ∷ v ∷ l) = inr refl

  -- of a short face its keys, and all but two of its nodes
  pub short_covers : (q : Places) → Keyed p q b → s + 3 ≤ e → e ≤ s + 4 → (i j : ℕ) → s ≤ i → i < j → j < e
      → Covers p q b lo (nodes_of q (input q b) lo ++ parts s i j e b)
  unfolding common
  short_covers q kd three four i j h k l g low t = go (plain N B C)
    where
      N : ℕ
      N = p.nodes

      B : ℕ
      B = q.nodes - p.nodes

      A : List ℕ
      A = nodes_of p (input p b) lo

      C : List ℕ
      C = nodes_of p (input p b) g

      either : (x y : Bool) → (x ≡ true) ⊎ (y ≡ true) → (x || y) ≡ true
      either true y c = refl
      either false y (inl c) = absurd (false≢true c)
      either false y (inr c) = c

      has : ℕ → Bool
      has v = elem v (nodes_of q (input q b) g)

      go : Short C ⊎ (keys_of N B C ≡ C) → any has (nodes_of q (input q b) lo ++ parts s i j e b) ≡ true
      go (inl sc) =
          any_append has (nodes_of q (input q b) lo) (parts s i j e b)
          ∙ either (any has (nodes_of q (input q b) lo)) (any has (parts s i j e b))
          (inl (ap₂ (λ (x y : List ℕ). any (λ v. elem v x) y) (kd.keys g low) (kd.keys lo face)
          ∙ share_key N B A C (omega (arith, at.end, three), omega (arith, at.end, four)) sc (ix.laid.asc lo face) (ix.laid.asc g low) t))
      go (inr pc) =
          any_append has (nodes_of q (input q b) lo) (parts s i j e b)
          ∙ either (any has (nodes_of q (input q b) lo)) (any has (parts s i j e b))
          (inr (ap (λ (x : List ℕ). any (λ v. elem v x) (parts s i j e b)) (kd.keys g low ∙ pc) ∙ one_left i j h k l (λ v. elem v C) t))

-- the candidates added to an empty list
sought : (p q : Places) (lo : ℕ) (w : List ℕ) (r : Ready p lo w) (ks : List ℕ) (m : ℕ) (v : List ℕ) → q.faces ≡ p.faces → Covers p q (base p w) lo ks
    → Added p (each (hits_by p q (base p w) lo) ks) 0 w m v → Sought p lo w v m
sought p q lo w r ks m v same covers x =
    let e : add_all (each (hits_by p q (base p w) lo) ks) [] ≡ candidates p (input p w) lo = all_found p q (base p w) lo ks same covers ∙ ap (λ (t : List ℕ). candidates p t lo) (input_base p w r.below) in
    record { number = x.number ∙ ap length e; filled = x.filled ∙ ap (sets w p.found) e }

-- none are sought where lo has fewer than three nodes
pub few_sought : (p : Places) (lo : ℕ) (w : List ℕ) → Ready p lo w → length (nodes_of p (input p (base p w)) lo) < 3 → Sought p lo w w 0
unfolding candidates common
few_sought p lo w r few =
    let e : candidates p (input p (base p w)) lo ≡ [] = keep_none (shares p (input p (base p w)) lo) (up_from 0 p.faces)
    (λ g h. not_shared g (cases_Bool (shares p (input p (base p w)) lo g))) in
    let e' : candidates p (input p w) lo ≡ [] = ap (λ (t : List ℕ). candidates p t lo) (sym (input_base p w r.below)) ∙ e in
    record { number = sym (ap length e'); filled = sym (ap (sets w p.found) e') }
  where
    not_shared : (g : ℕ) → (shares p (input p (base p w)) lo g ≡ true) ⊎ (shares p (input p (base p w)) lo g ≡ false) → shares p (input p (base p w)) lo g ≡ false
    not_shared g (inr f) = f
    not_shared g (inl t) = absurd (omega (arith, few, three_of p (input p (base p w)) lo g t, keep-length (λ n. elem n (nodes_of p (input p (base p w)) g)) (nodes_of p (input p (base p w)) lo)))

-- the three walks are one
joined : (f : ℕ → List ℕ) (s i j e : ℕ) (b : List ℕ) → each f (rest s i b) ++ (each f (rest (i + 1) j b) ++ each f (rest (j + 1) e b)) ≡ each f (parts s i j e b)
joined f s i j e b =
    ap (λ (l : List ℕ). each f (rest s i b) ++ l) (sym (each_append f (rest (i + 1) j b) (rest (j + 1) e b)))
    ∙ sym (each_append f (rest s i b) (rest (i + 1) j b ++ rest (j + 1) e b))

-- the search over nodes
pub rare_sought : (p : Places) (lo s e : ℕ) (w : List ℕ) (r : Ready p lo w) (m : ℕ) (v : List ℕ) → NodesAt p (base p w) lo s e → AddedRare p p lo 0 s e w m v → Sought p lo w v m
rare_sought p lo s e w r m v at x =
    let f = hits_by p p (base p w) lo in
    sought p p lo w r (parts s x.i x.j e (base p w)) m v refl
    (rare_covers p (base p w) r.indexed lo s e r.face at x.i x.j x.places.0 x.places.1 x.places.2)
    (subst (λ (l : List ℕ). Added p l 0 w m v) (joined f s x.i x.j e (base p w)) x.added)

-- the search over keys, then nodes
pub short_sought : (p q : Places) (lo s e a c : ℕ) (w : List ℕ) (r : Ready p lo w) (kd : Keyed p q (base p w)) (n : ℕ) (u : List ℕ) (m : ℕ) (v : List ℕ)
    → NodesAt p (base p w) lo s e → NodesAt q (base p w) lo a c → s + 3 ≤ e → e ≤ s + 4
    → Added p (each (hits_by p q (base p w) lo) (rest a c (base p w))) 0 w n u → AddedRare p q lo n s e u m v → Sought p lo w v m
short_sought p q lo s e a c w r kd n u m v at keys three four x y =
    let b : List ℕ = base p w in
    let f = hits_by p q b lo in
    let bs = keyed_beside p q b kd in
    let op = none_open p lo w r in
    let same : base p u ≡ b = step_base p q lo 0 w op bs a c n u x in
    let is = the_nodes q b kd.indexed lo a c (omega (arith, r.face, kd.faces)) keys in
    let rare : Added p (each f (rest s y.i b) ++ (each f (rest (y.i + 1) y.j b) ++ each f (rest (y.j + 1) e b))) n u m v =
    subst (λ (z : List ℕ). Added p (each (hits_by p q z lo) (rest s y.i z) ++ (each (hits_by p q z lo) (rest (y.i + 1) y.j z) ++ each (hits_by p q z lo) (rest (y.j + 1) e z))) n u m v) same y.added in
    let all = step_more p q lo 0 w op bs a c n u x (each f (parts s y.i y.j e b)) m v (subst (λ (l : List ℕ). Added p l n u m v) (joined f s y.i y.j e b) rare) in
    sought p q lo w r (nodes_of q (input q b) lo ++ parts s y.i y.j e b) m v kd.faces
    (short_covers p b r.indexed lo s e r.face at q kd three four y.i y.j y.places.0 y.places.1 y.places.2)
    (subst (λ (l : List ℕ). Added p l 0 w m v) (sym (each_append f (rest a c b) (parts s y.i y.j e b)) ∙ ap (λ (z : List ℕ). each f (z ++ parts s y.i y.j e b)) is) all)
