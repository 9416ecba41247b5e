-- What the passes over cells answer.
use Prim.Native.Nat.{ℕ}
use mathlib.Core.Path.{◌≡◌, refl, sym, ap, ◌∙◌, subst}
use mathlib.Core.Bool.{true, false}
use mathlib.Core.List.{List}
use lib.ListN.{length}
use Rattle.std.specs.Prelude.{Result, Ok, Err, Option, Some, None}
use Rattle.std.specs.Option.{ok_or}
use Rattle.laws.specs.Refusals.{refusal}
use Rattle.refusals.specs.declared.Refusal.{Refusal}
use Rattle.refusals.specs.declared.Refusal.TheVariants.{Cell}
use Rattle.refusals.specs.Told.{number}
use Rattle.refusals.proofs.Told.{told_ok, told_err, ok_told, err_told}
use Rattle.geometry.specs.Coordinates.{node_count}
use Rattle.mesh.specs.Model.{Model, Raw, cells_of}
use Rattle.mesh.specs.Acceptance.{kind_off, count_wrong, cell_table, cells_table, mesh_table}
use Rattle.mesh.specs.Steps.{cell_with, CellTallied, KindCounted}
use Rattle.mesh.specs.Counted.{refused_by, CellCounted, CellsTallied, CellsCounted, MeshCounted}
use Rattle.mesh.specs.Kinds.{kind_number}
use Rattle.mesh.specs.declared.CellTally.{CellTally}
use Rattle.mesh.specs.declared.kind.Kind.{Kind}
use Rattle.mesh.proofs.KindNumbers.{number_on}
use Rattle.mesh.proofs.ModelTable.{Before9, rows9, face_count_lem, ring_words_lem}

-- where nothing is counted, the count or a ring is wrong
pub counted_none : (c : Raw) (r : Option CellTally) → KindCounted c r → (e f : Refusal) → ok_or r e ≡ Err f → (f ≡ e) × (count_wrong c ≡ true)
counted_none c None k e f h = let q : f ≡ e = cc in (q, sym k.off)
counted_none c (Some t) k e f h = absurd (cc)

-- and where something is, they are right
pub counted_some : (c : Raw) (r : Option CellTally) → KindCounted c r → (e : Refusal) (t : CellTally) → ok_or r e ≡ Ok t → (count_wrong c ≡ false) × CellTallied c t
counted_some c None k e t h = absurd (cc)
counted_some c (Some u) k e t h = let q : u ≡ t = cc in (sym k.off, subst (CellTallied c) q k.tallied)

-- a cell that is refused, and one that is not
pub cell_refused : (n before : ℕ) (c : Raw) → refusal (cell_table n before c) ≡ 9 → CellCounted n before c (Err Cell)
cell_refused n before c e = record { answered = err_told {A = CellTally} {B = Unit {0}} _ Cell _ _ (sym e); tallied = tt }

pub cell_passed : (n before : ℕ) (c : Raw) (t : CellTally) → refusal (cell_table n before c) ≡ 0 → CellTallied c t → CellCounted n before c (Ok t)
cell_passed n before c t e k = record { answered = ok_told {A = CellTally} {B = Unit {0}} _ t _ _ e refl; tallied = k }

-- what is counted of a cell alone is counted of it behind others, where its kind is in order
pub counted_after : {n before : ℕ} (k : Kind) {c : Raw} {r : Result CellTally Refusal} → (kind_number k ≡ c.kind) × (kind_off before c.kind ≡ false) → CellCounted n 0 (cell_with (kind_number k) c.words) r → CellCounted n before c r
unfolding cell_table
counted_after {n} {before} k {c} {r} e h =
    let o = sym (ap (kind_off 0) e.0) ∙ number_on k in
    let t : refusal (cell_table n 0 c) ≡ refusal (cell_table n before c) = rw (o, e.1) refl in
    let g = subst (λ (j : ℕ). CellCounted n 0 (cell_with j c.words) r) e.0 h in
    record { answered = subst (refused_by r) t g.answered; tallied = g.tallied }

-- the same of cells
pub cells_refused : (n : ℕ) (cs : List Raw) (e : Refusal) → number e ≡ refusal (cells_table n 0 cs) → CellsCounted n cs (Err e)
cells_refused n cs e h = record { answered = err_told {A = CellTally} {B = Unit {0}} _ e _ _ h; tallied = tt }

pub cells_passed : (n : ℕ) (cs : List Raw) (t : CellTally) → refusal (cells_table n 0 cs) ≡ 0 → CellsTallied cs t → CellsCounted n cs (Ok t)
cells_passed n cs t e k = record { answered = ok_told {A = CellTally} {B = Unit {0}} _ t _ _ e refl; tallied = k }

-- and of a model
pub mesh_refused : (m : Model) (e : Refusal) → number e ≡ refusal (mesh_table m) → MeshCounted m (Err e)
mesh_refused m e h = record { answered = err_told {A = CellTally} {B = Unit {0}} _ e _ _ h; tallied = tt }

pub mesh_passed : (m : Model) → Before9 m → (r : Result CellTally Refusal) → CellsCounted (node_count m.coords) (cells_of m) r → MeshCounted m r
mesh_passed m b (Ok t) h =
    let z = told_ok {A = CellTally} {B = Unit {0}} _ t _ _ h.answered in
    let k : CellsTallied (cells_of m) t = h.tallied in
    record {
      answered = ok_told {A = CellTally} {B = Unit {0}} _ t _ _ (rows9 m b ∙ z.0) refl;
      tallied = record { faces = k.faces ∙ sym (face_count_lem m); words = k.words ∙ ap length (sym (ring_words_lem m)); few = k.few; small = k.small };
    }
mesh_passed m b (Err e) h = mesh_refused m e (told_err {A = CellTally} {B = Unit {0}} _ e _ _ h.answered ∙ sym (rows9 m b))
