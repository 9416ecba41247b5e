-- What holds of every finding of the full list, kind by kind; so no other finding is of kind 3.
use Prim.Native.Nat.{ℕ, suc, ◌+◌, ◌≤◌, ◌<◌}
use mathlib.Core.Path.{◌≡◌, refl}
use mathlib.Core.Logic.{◌≢◌}
use mathlib.Core.Bool.{Bool, true, false, not, ◌&&◌}
use mathlib.Core.List.{List, [], ◌∷◌, ◌++◌, map, Memᴰ}
use native.Mathlib.Omega.{arith}
use lib.Dec.{leb}
use lib.ListN.{length, get_or}
use Rattle.laws.specs.Lists.{only_if, any, first, each, walk, keep}
use Rattle.laws.proofs.Tests.{clash}
use Rattle.mesh.specs.Model.{Raw, contains, TOPOLOGY, BUTTERFLY}
use Rattle.mesh.specs.Rings.{Cell, Face, faces_of, faces, number_from, numbered, same_key, key_of}
use Rattle.findings.specs.Findings.{Rules, Finding, bowtie, overfull, partly, repeated, over_of, over_at, meeting, partly_of, pair_at, kind1, kind2, kind3, kind4, full}
use Rattle.findings.specs.Records.{fields_of}
use Rattle.findings.specs.Compared.{names_pair}
use Rattle.findings.specs.Demand3.{PairIn}
use Rattle.findings.proofs.Laws.{Every, every_append, every_only_if, every_walk, every_walk_each, every_map, every_each, every_all, every_mem}
use Rattle.findings.proofs.Exact.{both_at}

module _ (R : Rules) (P : Finding → Type 0) where
  -- of a list under a test, where it holds if the test passes
  every_asked : (b : Bool) (l : List Finding) → (b ≡ true → Every P l) → Every P (only_if b l)
  unfolding Every
  every_asked true l h = h refl
  every_asked false l h = tt

  -- of each kind that is asked for, so of the full list
  pub every_full : (flags : ℕ) (cs : List Cell) → (contains flags BUTTERFLY ≡ true → Every P (walk (kind1 R) [] cs)) → (contains flags TOPOLOGY ≡ true → Every P (walk (kind2 R) [] cs))
      → (contains flags TOPOLOGY ≡ true → Every P (walk (kind3 R) [] cs)) → (contains flags TOPOLOGY ≡ true → Every P (walk (kind4 R) [] cs)) → Every P (full R flags cs)
  unfolding full Every
  every_full flags cs h1 h2 h3 h4 =
      let t = contains flags TOPOLOGY in
      let b = contains flags BUTTERFLY in
      every_append P (only_if b (walk (kind1 R) [] cs)) _ (every_asked b (walk (kind1 R) [] cs) h1)
      (every_append P (only_if t (walk (kind2 R) [] cs)) _ (every_asked t (walk (kind2 R) [] cs) h2)
      (every_append P (only_if t (walk (kind3 R) [] cs)) _ (every_asked t (walk (kind3 R) [] cs) h3)
      (every_append P (only_if t (walk (kind4 R) [] cs)) [] (every_asked t (walk (kind4 R) [] cs) h4) tt)))

  -- of a bow-tie of each cell that has Q
  pub every_bows : (Q : Cell → Type 0) → ((c : Cell) → Q c → P (bowtie c.num)) → (pre cs : List Cell) → Every Q cs → Every P (walk (kind1 R) pre cs)
  unfolding kind1 Every
  every_bows Q h pre cs w = every_walk_each Q P (kind1 R) (λ a c b q. every_only_if P (R.bow c.raw) (bowtie c.num ∷ []) (h c q, tt)) pre cs w

  -- of every overfull face
  pub every_overs : ((c₁ c₂ f n : ℕ) (k os : List ℕ) → P (overfull c₁ c₂ f n k os)) → (pre cs : List Cell) → Every P (walk (kind2 R) pre cs)
  unfolding kind2 over_at over_of Every
  every_overs h pre cs =
      every_walk P (kind2 R) (λ a c b. every_walk P (λ p f q. over_at p f (q ++ faces R.rings b)) (λ p f q.
      let l = keep (same_key f) (q ++ faces R.rings b) in
      let os = f.cell ∷ map (λ g. g.cell) l in
      every_only_if P (not (any (same_key f) p)) (over_of f l)
      (every_only_if P (leb 2 (length l)) (overfull f.cell (get_or (map (λ g. g.cell) l) 0 0) f.num (suc (length l)) (key_of f) os ∷ [])
      (h f.cell (get_or (map (λ g. g.cell) l) 0 0) f.num (suc (length l)) (key_of f) os, tt))) (faces R.rings a) (faces_of R.rings c)) pre cs

  -- of every pair of two cells
  pub every_pair : (a b : Cell) → ((p : Face × Face) → P (partly_of R a b p)) → Every P (pair_at R a b)
  unfolding pair_at
  every_pair a b h =
      let l = first (meeting R (faces_of R.rings a) (faces_of R.rings b)) in
      every_only_if P (not (R.bow a.raw) && not (R.bow b.raw)) (map (partly_of R a b) l) (every_map P (partly_of R a b) h l)

  -- of every partly shared pair
  pub every_partly : ((c₁ c₂ a b : ℕ) (ns : List ℕ) → P (partly c₁ c₂ a b ns)) → (pre cs : List Cell) → Every P (walk (kind3 R) pre cs)
  unfolding kind3 partly_of
  every_partly h pre cs =
      every_walk P (kind3 R) (λ a c b. every_each (λ d. Unit {0}) P (pair_at R c) (λ d u. every_pair c d (λ p. h _ _ _ _ _)) b (every_all (λ d. Unit {0}) (λ d. tt) b)) pre cs

  -- of the repeated nodes of each cell that has Q
  pub every_reps : (Q : Cell → Type 0) → ((c : Cell) → Q c → Every P (map (λ (p : ℕ × ℕ). repeated c.num p.0 p.1) (R.repeats c.raw))) → (pre cs : List Cell) → Every Q cs
      → Every P (walk (kind4 R) pre cs)
  unfolding kind4
  every_reps Q h pre cs w = every_walk_each Q P (kind4 R) (λ a c b q. h c q) pre cs w

  -- of all bow-ties, whatever the cell
  pub every_bow : ((c : ℕ) → P (bowtie c)) → (cs : List Cell) → Every P (walk (kind1 R) [] cs)
  every_bow h cs = every_bows (λ c. Unit {0}) (λ c u. h c.num) [] cs (every_all (λ c. Unit {0}) (λ c. tt) cs)

  -- and of all repeated nodes
  pub every_rep : ((c a b : ℕ) → P (repeated c a b)) → (cs : List Cell) → Every P (walk (kind4 R) [] cs)
  every_rep h cs =
      every_reps (λ c. Unit {0}) (λ c u. every_map P (λ (p : ℕ × ℕ). repeated c.num p.0 p.1) (λ p. h c.num p.0 p.1) (R.repeats c.raw)) [] cs
      (every_all (λ c. Unit {0}) (λ c. tt) cs)

-- ---- kind 3

-- where x is of kind 3, P holds of it
abbrev Third : (Finding → Type 0) → Finding → Type 0
Third P x = (fields_of x).kind ≡ 3 → P x

-- the full list, where P holds of those of kind 3
all_third : (R : Rules) (P : Finding → Type 0) (flags : ℕ) (cs : List Cell) → (contains flags TOPOLOGY ≡ true → Every (Third P) (walk (kind3 R) [] cs)) → Every (Third P) (full R flags cs)
unfolding fields_of
all_third R P flags cs h =
    every_full R (Third P) flags cs (λ t. every_bow R (Third P) (λ c e. absurd (omega arith)) cs) (λ t. every_overs R (Third P) (λ c₁ c₂ f n k os e. absurd (omega arith)) [] cs) h
    (λ t. every_rep R (Third P) (λ c a b e. absurd (omega arith)) cs)

module _ (R : Rules) (N : ℕ) where
  -- two cells in order
  pair_in : (a b : Cell) → a.num < b.num → b.num < N → Every (Third (PairIn N)) (pair_at R a b)
  unfolding partly_of names_pair fields_of
  pair_in a b o h = every_pair R (Third (PairIn N)) a b (λ p e. record { lower = o; within = h; named = both_at a.num b.num })

  -- a cell with those after it
  row_in : (a : Cell) (k n : ℕ) (cs : List Raw) → a.num < k → k + length cs ≤ N → Every (Third (PairIn N)) (each (pair_at R a) (number_from R.rings k n cs))
  unfolding Every number_from
  row_in a k n [] o h = tt
  row_in a k n (c ∷ cs) o h =
      every_append (Third (PairIn N)) (pair_at R a record { num = k; from = n; raw = c }) _ (pair_in a _ o (omega arith)) (row_in a (suc k) (n + length (R.rings c)) cs (omega arith) (omega arith))

  -- all cells
  tri_in : (q : List Cell) (k n : ℕ) (cs : List Raw) → k + length cs ≤ N → Every (Third (PairIn N)) (walk (kind3 R) q (number_from R.rings k n cs))
  unfolding Every number_from kind3
  tri_in q k n [] h = tt
  tri_in q k n (c ∷ cs) h =
      every_append (Third (PairIn N)) (each (pair_at R record { num = k; from = n; raw = c }) (number_from R.rings (suc k) (n + length (R.rings c)) cs)) _
      (row_in _ (suc k) (n + length (R.rings c)) cs (omega arith) (omega arith))
      (tri_in (q ++ (record { num = k; from = n; raw = c } ∷ [])) (suc k) (n + length (R.rings c)) cs (omega arith))

-- each finding of kind 3 is the pair of two different cells
pub only : (R : Rules) (flags : ℕ) (cs : List Raw) (x : Finding) → Memᴰ x (full R flags (numbered R.rings cs)) → (fields_of x).kind ≡ 3 → PairIn (length cs) x
unfolding numbered
only R flags cs x m =
    every_mem (Third (PairIn (length cs))) m (all_third R (PairIn (length cs)) flags (numbered R.rings cs) (λ t. tri_in R (length cs) [] 0 0 cs (omega arith)))

-- without the flag there is none
pub unasked : (R : Rules) (flags : ℕ) (cs : List Raw) (x : Finding) → contains flags TOPOLOGY ≡ false → Memᴰ x (full R flags (numbered R.rings cs)) → (fields_of x).kind ≢ 3
unasked R flags cs x t m = every_mem (Third (λ y. ⊥)) m (all_third R (λ y. ⊥) flags (numbered R.rings cs) (λ u. clash u t))
