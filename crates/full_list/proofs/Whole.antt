-- The full list: butterflies, where asked for, and topology, where asked for.
use Prim.Native.Nat.{ℕ}
use mathlib.Core.Path.{◌≡◌, refl, sym, ap, ◌∙◌, subst}
use mathlib.Core.Bool.{Bool, true, false}
use mathlib.Core.List.{List, [], ◌++◌, append-nil}
use Rattle.laws.specs.Lists.{only_if, each, walk, up_from}
use Rattle.mesh.specs.Model.{Model, contains, TOPOLOGY, BUTTERFLY}
use Rattle.findings.specs.Findings.{Finding, kind1, kind2, kind3, kind4, full}
use Rattle.findings.specs.Rules.{rules_of, cells_in, full_of}
use Rattle.records.specs.declared.Sink.{Sink}
use Rattle.records.specs.Keeping.{Kept}
use Rattle.records.proofs.Keeping.{kept_none, kept_then}
use Rattle.layout.specs.declared.Layout.{Layout}
use Rattle.layout.specs.ByCell.{bow_cell}
use Rattle.layout.specs.Shown.{Shows}
use Rattle.shown.proofs.AllCells.{bows_shown}
use Rattle.all_cells.specs.Cells.{KeptEver}
use Rattle.full_list.specs.Found.{topology_of, butterflies_in, KeptBy}

-- the list by flags
by_flags : (b t : Bool) (x y z u : List Finding) → (only_if b x ++ (only_if t y ++ (only_if t z ++ (only_if t u ++ [])))) ≡ (only_if b x ++ only_if t (y ++ (z ++ u)))
by_flags b true x y z u = ap (λ (r : List Finding). only_if b x ++ (y ++ (z ++ r))) (append-nil u)
by_flags b false x y z u = refl

pub full_is : (m : Model) → full_of m ≡ only_if (contains m.flags BUTTERFLY) (walk (kind1 (rules_of m)) [] (cells_in m)) ++ only_if (contains m.flags TOPOLOGY) (topology_of m)
unfolding full_of full topology_of
full_is m = by_flags (contains m.flags BUTTERFLY) (contains m.flags TOPOLOGY) (walk (kind1 (rules_of m)) [] (cells_in m)) (walk (kind2 (rules_of m)) [] (cells_in m)) (walk (kind3 (rules_of m)) [] (cells_in m)) (walk (kind4 (rules_of m)) [] (cells_in m))

-- nothing asked for, and nothing there
pub none_kept : (m : Model) (s : Sink) → m.flags ≡ 0 → KeptBy m (full_of m) s s
none_kept m s e =
    let bows = walk (kind1 (rules_of m)) [] (cells_in m) in
    let empty : full_of m ≡ [] = full_is m ∙ ap (λ (n : ℕ). only_if (contains n BUTTERFLY) bows ++ only_if (contains n TOPOLOGY) (topology_of m)) e in
    subst (λ (xs : List Finding). Kept (rules_of m) xs s s) (sym empty) (kept_none (rules_of m) s)

-- the butterflies, not asked for and asked for
pub butterflies_none : (flags : ℕ) (l : Layout) (t : List ℕ) (s : Sink) → contains flags BUTTERFLY ≡ false → KeptEver (butterflies_in flags l t) s s
unfolding butterflies_in
butterflies_none flags l t s e R = subst (λ (b : Bool). Kept R (only_if b (each (bow_cell l t) (up_from 0 l.at.cell_count))) s s) (sym e) (kept_none R s)

pub butterflies_some : (flags : ℕ) (l : Layout) (t : List ℕ) (s s' : Sink) → contains flags BUTTERFLY ≡ true → KeptEver (each (bow_cell l t) (up_from 0 l.at.cell_count)) s s' → KeptEver (butterflies_in flags l t) s s'
unfolding butterflies_in
butterflies_some flags l t s s' e p R = subst (λ (b : Bool). Kept R (only_if b (each (bow_cell l t) (up_from 0 l.at.cell_count))) s s') (sym e) (p R)

-- the butterflies that the tables tell
butterflies_are : (m : Model) (l : Layout) (t : List ℕ) → Shows m l t → butterflies_in m.flags l t ≡ only_if (contains m.flags BUTTERFLY) (walk (kind1 (rules_of m)) [] (cells_in m))
unfolding butterflies_in
butterflies_are m l t S = ap (only_if (contains m.flags BUTTERFLY)) (bows_shown m l t S)

module _ (m : Model) (l : Layout) (t : List ℕ) (S : Shows m l t) (s u : Sink) (p : KeptEver (butterflies_in m.flags l t) s u) where
  butterflies_kept : KeptBy m (only_if (contains m.flags BUTTERFLY) (walk (kind1 (rules_of m)) [] (cells_in m))) s u
  butterflies_kept = subst (λ (xs : List Finding). Kept (rules_of m) xs s u) (butterflies_are m l t S) (p (rules_of m))

  -- all there is without topology
  pub all_first : contains m.flags TOPOLOGY ≡ false → KeptBy m (full_of m) s u
  all_first e =
      subst (λ (xs : List Finding). Kept (rules_of m) xs s u)
      (sym (full_is m ∙ ap (λ (b : Bool). only_if (contains m.flags BUTTERFLY) (walk (kind1 (rules_of m)) [] (cells_in m)) ++ only_if b (topology_of m)) e ∙ append-nil (only_if (contains m.flags BUTTERFLY) (walk (kind1 (rules_of m)) [] (cells_in m)))))
      butterflies_kept

  -- and with it
  pub all_both : (v : Sink) → contains m.flags TOPOLOGY ≡ true → KeptBy m (topology_of m) u v → KeptBy m (full_of m) s v
  all_both v e q =
      subst (λ (xs : List Finding). Kept (rules_of m) xs s v)
      (sym (full_is m ∙ ap (λ (b : Bool). only_if (contains m.flags BUTTERFLY) (walk (kind1 (rules_of m)) [] (cells_in m)) ++ only_if b (topology_of m)) e))
      (kept_then (rules_of m) (only_if (contains m.flags BUTTERFLY) (walk (kind1 (rules_of m)) [] (cells_in m))) (topology_of m) s u v butterflies_kept q)

-- topology, kind by kind
pub three_kept : (m : Model) (s t u v : Sink) → KeptBy m (walk (kind2 (rules_of m)) [] (cells_in m)) s t → KeptBy m (walk (kind3 (rules_of m)) [] (cells_in m)) t u
    → KeptBy m (walk (kind4 (rules_of m)) [] (cells_in m)) u v → KeptBy m (topology_of m) s v
unfolding topology_of
three_kept m s t u v p q r =
    kept_then (rules_of m) (walk (kind2 (rules_of m)) [] (cells_in m)) (walk (kind3 (rules_of m)) [] (cells_in m) ++ walk (kind4 (rules_of m)) [] (cells_in m)) s t v p
    (kept_then (rules_of m) (walk (kind3 (rules_of m)) [] (cells_in m)) (walk (kind4 (rules_of m)) [] (cells_in m)) t u v q r)
