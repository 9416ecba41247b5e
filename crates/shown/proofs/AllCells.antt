-- What the tables tell of all cells, kind by kind, is what the definitions say of the model.
use Prim.Native.Nat.{ℕ, ◌+◌, ◌<◌}
use mathlib.Core.Path.{◌≡◌, sym, ap, ◌∙◌}
use mathlib.Core.List.{List, []}
use native.Mathlib.Omega.{arith}
use lib.ListN.{get_or, take, drop}
use Rattle.laws.specs.Lists.{each, walk, up_from}
use Rattle.mesh.specs.Model.{Model, cells_of}
use Rattle.mesh.specs.Rings.{Cell}
use Rattle.findings.specs.Findings.{Finding, kind1, kind2, kind3, kind4}
use Rattle.findings.specs.Rules.{rules_of, cells_in}
use Rattle.findings.specs.Compared.{none}
use Rattle.layout.specs.declared.Layout.{Layout}
use Rattle.layout.specs.ByCell.{plain_rules, bow_cell, over_cell, partly_cell, repeat_cell}
use Rattle.layout.specs.Shown.{Shows}
use Rattle.laws.proofs.ListLaws.{each_agree}
use Rattle.shown.proofs.Parts.{walk_places}
use Rattle.shown.proofs.Numbered.{cells_long}
use Rattle.shown.proofs.OneCell.{bow_cell_lem, over_cell_lem, partly_cell_lem, repeat_cell_lem}

-- a cell past the end
abbrev past : Cell
past = record { num = 0; from = 0; raw = none }

module _ (m : Model) (l : Layout) (t : List ℕ) (S : Shows m l t) where
  -- lists that agree cell by cell agree for all cells
  summed : (f : ℕ → List Finding) (h : List Cell → Cell → List Cell → List Finding)
      → ((c : ℕ) → c < l.at.cell_count → f c ≡ h (take c (cells_in m)) (get_or (cells_in m) c past) (drop (c + 1) (cells_in m)))
      → each f (up_from 0 l.at.cell_count) ≡ walk h [] (cells_in m)
  summed f h e =
      let g : ℕ → List Finding = λ c. h (take c (cells_in m)) (get_or (cells_in m) c past) (drop (c + 1) (cells_in m)) in
      each_agree f g 0 l.at.cell_count (λ c a b. e c (omega (arith, b)))
      ∙ ap (λ (n : ℕ). each g (up_from 0 n)) (S.cells ∙ sym (cells_long m))
      ∙ sym (walk_places h (cells_in m) past)

  -- bow-ties: the tables of all cells tell what kind 1 lists
  pub bows_shown : each (bow_cell l t) (up_from 0 l.at.cell_count) ≡ walk (kind1 (rules_of m)) [] (cells_in m)
  bows_shown = summed (bow_cell l t) (kind1 (rules_of m)) (bow_cell_lem m l t S past)

  -- overfull faces: the tables of all cells tell what kind 2 lists
  pub overs_shown : each (over_cell l t) (up_from 0 l.at.cell_count) ≡ walk (kind2 (rules_of m)) [] (cells_in m)
  overs_shown = summed (over_cell l t) (kind2 (rules_of m)) (over_cell_lem m l t S past)

  -- partly shared pairs: the tables of all cells tell what kind 3 lists
  pub partly_shown : each (partly_cell (plain_rules m.coords m.tolerance) l t) (up_from 0 l.at.cell_count) ≡ walk (kind3 (rules_of m)) [] (cells_in m)
  partly_shown = summed (partly_cell (plain_rules m.coords m.tolerance) l t) (kind3 (rules_of m)) (partly_cell_lem m l t S past)

  -- repeated nodes: the tables of all cells tell what kind 4 lists
  pub repeats_shown : each (λ c. repeat_cell l t c (get_or (cells_of m) c none).words) (up_from 0 l.at.cell_count) ≡ walk (kind4 (rules_of m)) [] (cells_in m)
  repeats_shown = summed (λ c. repeat_cell l t c (get_or (cells_of m) c none).words) (kind4 (rules_of m)) (repeat_cell_lem m l t S past)
