-- What a pass over cells has kept after some of them.
use Prim.Native.Nat.{ℕ, ◌+◌}
use mathlib.Core.Path.{◌≡◌, refl, sym, ap, subst}
use mathlib.Core.Bool.{Bool, not}
use mathlib.Core.List.{List, [], ◌∷◌}
use native.Mathlib.Nat.{zero-add}
use borrow.Author.Tests.{eq-eqb, ne_eqb}
use lib.ListN.{get_or}
use Rattle.laws.specs.Lists.{only_if, each, up_from}
use Rattle.geometry.specs.Points.{origin}
use Rattle.findings.specs.Findings.{Rules, Finding, bowtie}
use Rattle.findings.specs.Records.{fields_of, centre_in}
use Rattle.index.specs.Faces.{input}
use Rattle.records.specs.declared.Sink.{Sink}
use Rattle.records.specs.Keeping.{Kept}
use Rattle.records.proofs.Keeping.{kept_next}
use Rattle.layout.specs.declared.Layout.{Layout}
use Rattle.layout.specs.Tables.{Standing, Still}
use Rattle.layout.specs.ByCell.{bow_cell}
use Rattle.layout.proofs.Again.{same_input}

-- the cells before c are done
pub pass_next : (R : Rules) (h : ℕ → List Finding) (c : ℕ) (s t u : Sink) → Kept R (each h (up_from 0 c)) s t → Kept R (h c) t u → Kept R (each h (up_from 0 (c + 1))) s u
pass_next R h c s t u p q = kept_next R h (h c) 0 c s t u (ap h (sym (zero-add c))) p q

-- all of them
pub pass_end : (R : Rules) (h : ℕ → List Finding) (c m : ℕ) (s t : Sink) → c ≡ m → Kept R (each h (up_from 0 c)) s t → Kept R (each h (up_from 0 m)) s t
pass_end R h c m s t e p = subst (λ (i : ℕ). Kept R (each h (up_from 0 i)) s t) e p

-- a cell that is no bow-tie, and one that is
pub bow_none : (l : Layout) (t : List ℕ) (c : ℕ) → get_or t (l.at.bows + c) 0 ≡ 0 → bow_cell l t c ≡ []
unfolding bow_cell
bow_none l t c e = ap (λ (b : Bool). only_if (not b) (bowtie c ∷ [])) (eq-eqb (get_or t (l.at.bows + c) 0) 0 e)

pub bow_one : (l : Layout) (t : List ℕ) (c : ℕ) → (get_or t (l.at.bows + c) 0 ≡ 0 → ⊥) → bow_cell l t c ≡ bowtie c ∷ []
unfolding bow_cell
bow_one l t c h = ap (λ (b : Bool). only_if (not b) (bowtie c ∷ [])) (ne_eqb (get_or t (l.at.bows + c) 0) 0 h)

-- its fields and its centre
pub bow_fields : (c : ℕ) → fields_of (bowtie c) ≡ record { kind = 1; first = c; second = 0; a = 0; b = 0; count = 0 }
unfolding fields_of
bow_fields c = refl

pub bow_centre : (R : Rules) (c : ℕ) → centre_in R (bowtie c) ≡ origin
unfolding centre_in
bow_centre R c = refl

-- a slice that stands is still itself
pub still_self : (l : Layout) (w : List ℕ) → Standing l w → Still l w w
still_self l w s = record { same = refl; long = refl; standing = s }

-- its tables are as before
pub still_input : (l : Layout) (w v : List ℕ) → Standing l w → Still l w v → input l.at v ≡ input l.at w
still_input l w v s p = same_input l w v s.below p.same
