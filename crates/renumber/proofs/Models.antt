-- A model and its renumbering: which nodes go along, and that words, cells, welded numbers, rules and findings do.
use Prim.Native.Nat.{ℕ, ◌*◌, ◌%◌, ◌≤◌, ◌<◌}
use mathlib.Core.Path.{◌≡◌, sym, ap, ap₂, ◌∙◌, subst}
use mathlib.Core.Logic.{◌⊎◌, inl, inr}
use mathlib.Core.Bool.{true, false, not}
use mathlib.Core.List.{List, [], ◌∷◌, map}
use native.Mathlib.Omega.{arith}
use borrow.Author.Tests.{leb-true, ltb-false, eqb-true, le-leb}
use lib.Dec.{leb, ltb, eqb}
use lib.ListN.{length}
use lib.Ieee.{Float}
use Rattle.laws.specs.Lists.{each, elem}
use Rattle.laws.specs.Limits.{node_limit}
use Rattle.laws.proofs.Tests.{both_ways}
use Rattle.std.proofs.lemmas.Bool.{cases_Bool, cases_lt, or_parts}
use Rattle.laws.proofs.Ascending.{head_in, later_in}
use Rattle.laws.proofs.Members.{elem-distinct, elem_below}
use Rattle.geometry.specs.Points.{point_at}
use Rattle.geometry.specs.Coordinates.{node_count}
use Rattle.mesh.specs.Model.{Model, Raw, cells_from, cells_of}
use Rattle.mesh.specs.Rings.{separator, nodes_in, runs, rings_of}
use Rattle.mesh.proofs.Accepts.{Accepts}
use Rattle.mesh.proofs.CellWords.{cells_words, words_low, few_nodes}
use Rattle.snap.specs.Weld.{welded_by}
use Rattle.welding.specs.Used.{used_nodes, welded_used, welds_of}
use Rattle.welding.proofs.Used.{used-is, used-words}
use Rattle.findings.specs.Findings.{full}
use Rattle.findings.specs.Rules.{rules_with, rules_of, cells_in, full_of}
use Rattle.renumber.specs.Renumbering.{Used, word_by, Renumbering}
use Rattle.renumber.proofs.Alike.{Alike, empty, link, each_alike, distinct_alike}
use Rattle.renumber.proofs.Welds.{Along, welded_along}
use Rattle.renumber.proofs.Findings.{FindingAlike, CellAlike, RulesAlike, full_alike, numbered_alike}
use Rattle.renumber.proofs.Cells.{Word, RawAlike, nodes_alike, runs_alike, rings_alike, rules_alike, cells_alike}

-- a node used is a node
pub used_low : (m : Model) → Accepts m → (a : ℕ) → Used m a → a < node_count m.coords
used_low m ok a u =
    elem_below (node_count m.coords) a (nodes_in m.words) (words_low m ok)
    (sym (elem-distinct a (nodes_in m.words)) ∙ ap (elem a) (sym (used-words m ok)) ∙ u)

-- x is the new number of the used node a
pub record Goes (ρ : ℕ → ℕ) (m : Model) (a x : ℕ) : Type 0 where
  pub used : Used m a
  pub is : x ≡ ρ a

-- two cells whose words go along, the first of them one that m may have
abbrev pub CellGoes : (ℕ → ℕ) → Model → Raw → Raw → Type 0
CellGoes ρ m = RawAlike (node_count m.coords) (Goes ρ m)

module _ (ρ : ℕ → ℕ) (m n : Model) (h : Renumbering ρ m n) (ok : Accepts m) where
  -- the relations on nodes and on cells
  abbrev E : ℕ → ℕ → Type 0
  E = Goes ρ m

  abbrev C : Raw → Raw → Type 0
  C = CellGoes ρ m

  -- so many nodes, before and after
  abbrev N : ℕ
  N = node_count m.coords

  abbrev K : ℕ
  K = node_count n.coords

  pub old_few : N ≤ separator
  old_few = omega (arith, few_nodes m ok)

  pub new_few : K ≤ separator
  new_few =
      let p = or_parts (ltb (3 * node_limit) (length n.coords)) (not (eqb (length n.coords % 3) 0)) h.count in
      omega (arith, ltb-false (3 * node_limit) (length n.coords) p.0)

  -- ---- nodes

  rises_leb : (a b : ℕ) → Used m a → Used m b → leb a b ≡ leb (ρ a) (ρ b)
  rises_leb a b u v =
      both_ways (leb a b) (leb (ρ a) (ρ b)) (λ t. to (leb-true a b t) (cases_lt a b)) (λ t. back (leb-true (ρ a) (ρ b) t) (cases_lt b a))
    where
      to : a ≤ b → (a < b) ⊎ (b ≤ a) → leb (ρ a) (ρ b) ≡ true
      to q (inl r) = le-leb (ρ a) (ρ b) (omega (arith, h.rises a b u v r))
      to q (inr r) = let e : a ≡ b = omega arith in le-leb (ρ a) (ρ b) (omega (arith, ap ρ e))

      back : ρ a ≤ ρ b → (b < a) ⊎ (a ≤ b) → leb a b ≡ true
      back q (inl r) = absurd (omega (arith, h.rises b a v u r))
      back q (inr r) = le-leb a b r

  order : (a b x y : ℕ) → E a x → E b y → leb a b ≡ leb x y
  order a b x y e f = rises_leb a b e.used f.used ∙ ap₂ leb (sym e.is) (sym f.is)

  point : (a x : ℕ) → E a x → point_at m.coords a ≡ point_at n.coords x
  point a x e = sym (h.points a e.used) ∙ ap (point_at n.coords) (sym e.is)

  pub low : (a x : ℕ) → E a x → (a < N) × (x < K)
  low a x e = (used_low m ok a e.used, omega (arith, h.within a e.used, e.is))

  apart : (a x : ℕ) → E a x → (a < separator) × (x < separator)
  apart a x e = (omega (arith, (low a x e).0, old_few), omega (arith, (low a x e).1, new_few))

  -- ---- words and cells

  word : (w : ℕ) → elem w m.words ≡ true → Word E w (word_by ρ w)
  word w e = go (cases_Bool (eqb w separator))
    where
      go : (eqb w separator ≡ true) ⊎ (eqb w separator ≡ false) → Word E w (word_by ρ w)
      go (inl s) = inl (eqb-true w separator s, rw s)
      go (inr s) = inr (record { used = used-is w (cells_of m) ∙ rw (s, cells_words m ok, e); is = rw s })

  words_from : (ws : List ℕ) → ((w : ℕ) → elem w ws ≡ true → elem w m.words ≡ true) → Alike (Word E) ws (map (word_by ρ) ws)
  words_from [] f = empty
  words_from (w ∷ ws) f = link (word w (f w (head_in w ws))) (words_from ws (λ v e. f v (later_in w ws v e)))

  pub words_go : Alike (Word E) m.words n.words
  words_go = subst (λ (ws : List ℕ). Alike (Word E) m.words ws) (sym h.words) (words_from m.words (λ w e. e))

  pub cells_go : Alike C (cells_of m) (cells_of n)
  unfolding cells_of
  cells_go =
      subst (λ (cs : List Raw). Alike C (cells_from 0 m.kinds m.ends m.words) cs)
      (λ i. cells_from 0 (sym h.kinds i) (sym h.ends i) n.words)
      (cells_alike N E order old_few apart 0 m.kinds m.ends ok.right words_go)

  pub runs_go : {ws vs : List ℕ} → Alike (Word E) ws vs → Alike (Alike E) (runs ws) (runs vs)
  runs_go = runs_alike N E order old_few apart

  pub rings_go : Alike (Alike E) (each rings_of (cells_of m)) (each rings_of (cells_of n))
  rings_go = each_alike rings_of rings_of (rings_alike N E order old_few apart) cells_go

  -- ---- welded numbers

  -- the nodes used are those used
  pub used-go : Alike E (used_nodes (cells_of m)) (used_nodes (cells_of n))
  unfolding used_nodes
  used-go =
      distinct_alike leb leb order
      (nodes_alike N E order old_few apart (each_alike (λ (c : Raw). c.words) (λ (c : Raw). c.words) (λ a b g. g.words) cells_go))

  -- under one tolerance
  welds_along : (a x : ℕ) → E a x → E (welded_by (welds_of m) a) (welded_by (welded_used n.coords m.tolerance (cells_of n)) x)
  unfolding welded_used
  welds_along a x e =
      let along : Along m.coords n.coords N K E = record { order = order; point = point; low = low } in
      welded_along m.coords n.coords m.tolerance N K E along used-go a x e

  pub welds_go : (a x : ℕ) → E a x → E (welded_by (welds_of m) a) (welded_by (welds_of n) x)
  welds_go a x e =
      subst (λ (t : Float). E (welded_by (welds_of m) a) (welded_by (welded_used n.coords t (cells_of n)) x)) (sym h.tolerance) (welds_along a x e)

  -- ---- rules and findings

  pub rules_go : RulesAlike E C (rules_of m) (rules_of n)
  unfolding rules_of
  rules_go =
      subst (λ (t : Float). RulesAlike E C (rules_of m) (rules_with n.coords t (welded_used n.coords t (cells_of n)))) (sym h.tolerance)
      (rules_alike N E order old_few apart m.coords n.coords m.tolerance point (welds_of m) _ welds_along)

  numbered_go : Alike (CellAlike C) (cells_in m) (cells_in n)
  unfolding cells_in rules_of rules_with
  numbered_go = numbered_alike E order C (rules_of m) (rules_of n) rules_go cells_go

  pub full_go : Alike (FindingAlike E) (full_of m) (full_of n)
  unfolding full_of
  full_go =
      subst (λ (f : ℕ). Alike (FindingAlike E) (full_of m) (full (rules_of n) f (cells_in n))) (sym h.flags)
      (full_alike E order C (rules_of m) (rules_of n) rules_go m.flags numbered_go)
