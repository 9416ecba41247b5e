-- Demand 2, over the promises of the two operations: 'reading and writing a model file undo each other'. The theorems stand last.
use Prim.Native.Nat.{ℕ, ◌*◌, ◌≤◌}
use mathlib.Core.Path.{◌≡◌, sym, ap, ◌∙◌, subst}
use mathlib.Core.Bool.{Bool, false, cond}
use mathlib.Core.List.{List, [], ◌∷◌, ◌++◌}
use native.Mathlib.Omega.{arith}
use lib.Dec.{ltb}
use lib.ListN.{length, take, drop}
use lib.Seq.{take_at}
use lib.Ieee.{Float}
use borrow.Author.Tests.{le-ltb}
use Rattle.std.specs.Prelude.{Result, Ok, Err}
use Rattle.laws.specs.Refusals.{done, refusal, answer, filled}
use Rattle.refusals.specs.Told.{told}
use Rattle.refusals.specs.declared.Refusal.{Refusal}
use Rattle.laws.proofs.Tables.{Numbered, refusal_second, answered_done}
use Rattle.mesh.specs.Model.{Model, model_of}
use Rattle.mesh.specs.Acceptance.{model_table, model_refusal}
use Rattle.mesh.proofs.Accepts.{numbers_model}
use Rattle.model_file.specs.File.{records, encode, decode, length_off, file_table}
use Rattle.model_file.specs.Steps.{judge}
use Rattle.model_file.specs.Reading.{room_off, read_refusal, found_in, model_in, Reading}
use Rattle.model_file.specs.Writing.{write_refusal, Writing}
use Rattle.model_file.specs.declared.Found.{Found}
use Rattle.model_file.specs.declared.Stage.TheVariants.{Nodes}
use Rattle.model_file.proofs.Judgement.{records_numbered}
use Rattle.model_file.proofs.Counts.{threes, ends_as_cells}
use Rattle.model_file.proofs.Accepting.{row_none, table_none}
use Rattle.model_file.proofs.UndoEachOther.{written_is_file, reading_undoes_writing, writing_undoes_reading}

-- ---- answers

-- where it is told, nothing was refused
told_done : {A : Type 0} (r : Result A Refusal) (a : A) → told r ≡ done a → r ≡ Ok a
told_done (Err e) a p = absurd (cc)
told_done (Ok b) a p = let h : b ≡ a = cc in ap Ok h

-- ---- tables

-- every number of a file's table is a refusal's
pub file_numbered : (s : List ℕ) → Numbered (file_table s)
file_numbered s = (λ e. omega arith, records_numbered Nodes (records s))

-- a good file with room for its model is not refused
read_accepted : (s : List ℕ) (coords : List Float) (kinds ends words : List ℕ) → refusal (file_table s) ≡ 0
    → room_off (decode s) (length coords) (length kinds) (length ends) (length words) ≡ false → read_refusal s coords kinds ends words ≡ 0
read_accepted s coords kinds ends words j room =
    refusal_second (file_table s) ((4, room_off (decode s) (length coords) (length kinds) (length ends) (length words)) ∷ []) (file_numbered s) j ∙ ap (λ (b : Bool). cond b 4 0) room

-- nor is an accepted model with room for its file
write_accepted : (m : Model) (out : List ℕ) → model_refusal m ≡ 0 → length (encode m) ≤ length out → write_refusal m out ≡ 0
unfolding model_refusal
write_accepted m out a h =
    refusal_second (model_table m) ((4, ltb (length out) (length (encode m))) ∷ []) (numbers_model m) a ∙ ap (λ (b : Bool). cond b 4 0) (le-ltb (length out) (length (encode m)) h)

-- ---- what was written

module _ (m : Model) (out out' : List ℕ) (n : ℕ) (w : Writing m out out' (Ok n)) where
  -- nothing was refused, and so many bytes were written
  written : (write_refusal m out ≡ 0) × (n ≡ length (encode m))
  written = answered_done (write_refusal m out) n (length (encode m)) w.answered

  -- the model is accepted
  model_accepted : model_refusal m ≡ 0
  unfolding model_refusal
  model_accepted = table_none (model_table m) ((4, ltb (length out) (length (encode m))) ∷ []) written.0

  -- the bytes are its file
  bytes_written : take n out' ≡ encode m
  bytes_written =
      ap (take n) (w.out_is ∙ ap (λ (k : ℕ). filled k (encode m) out) written.0)
      ∙ take_at (encode m) (drop (length (encode m)) out) n (sym written.1)

-- ---- what was read

module _ (s : List ℕ) (coords coords' : List Float) (kinds kinds' ends ends' words words' : List ℕ) (f : Found) (p : Reading s coords coords' kinds kinds' ends ends' words words' (Ok f)) where
  -- nothing was refused, and what was found is the model's
  found : (read_refusal s coords kinds ends words ≡ 0) × (f ≡ found_in (decode s))
  found = answered_done (read_refusal s coords kinds ends words) f (found_in (decode s)) p.answered

  -- the file is good
  file_good : refusal (file_table s) ≡ 0
  file_good = table_none (file_table s) ((4, room_off (decode s) (length coords) (length kinds) (length ends) (length words)) ∷ []) found.0

  -- the first part of a list that was filled is what it was filled with
  part : {A : Type 0} (k : ℕ) (xs l l' : List A) → l' ≡ filled (read_refusal s coords kinds ends words) xs l → k ≡ length xs → take k l' ≡ xs
  part k xs l l' e n = ap (take k) (e ∙ ap (λ (x : ℕ). filled x xs l) found.0) ∙ take_at xs (drop (length xs) l) k (sym n)

  -- the model in the lists is the file's
  pub model_read : model_in f coords' kinds' ends' words' ≡ decode s
  unfolding decode
  model_read =
      let rs = records s in
      let g = found.1 in
      let j = row_none 1 (length_off (length s)) (judge Nodes rs) (λ e. omega arith) file_good in
      let nodes : 3 * f.nodes ≡ length (decode s).coords = omega (arith, ap (λ (x : Found). x.nodes) g, threes rs) in
      let cells = ap (λ (x : Found). x.cells) g in
      let cs = part (3 * f.nodes) (decode s).coords coords coords' p.memory.coords_are nodes in
      let ks = part f.cells (decode s).kinds kinds kinds' p.memory.kinds_are cells in
      let es = part f.cells (decode s).ends ends ends' p.memory.ends_are (cells ∙ sym (ends_as_cells rs j.1)) in
      let ws = part f.words (decode s).words words words' p.memory.words_are (ap (λ (x : Found). x.words) g) in
      λ i. model_of (cs i) (ks i) (es i) (ws i) (g i).tolerance (g i).checks.0 (g i).cap

-- ---- the theorems

-- Demand 2, 'reading and writing a model file undo each other': what writing wrote, read into lists with room, gives the model back.
pub written_read_back : (m : Model) (out out' : List ℕ) (n : ℕ) (coords coords' : List Float) (kinds kinds' ends ends' words words' : List ℕ) (q : Result Found Refusal)
    → Writing m out out' (Ok n)
    → Reading (take n out') coords coords' kinds kinds' ends ends' words words' q
    → room_off m (length coords) (length kinds) (length ends) (length words) ≡ false
    → (q ≡ Ok (found_in m)) × (coords' ≡ m.coords ++ drop (length m.coords) coords) × (kinds' ≡ m.kinds ++ drop (length m.kinds) kinds) × (ends' ≡ m.ends ++ drop (length m.ends) ends) × (words' ≡ m.words ++ drop (length m.words) words)
written_read_back m out out' n coords coords' kinds kinds' ends ends' words words' q w p room =
    let a = model_accepted m out out' n w in
    let d = reading_undoes_writing m w.held a in
    let c : Reading (encode m) coords coords' kinds kinds' ends ends' words words' q = subst (λ (s : List ℕ). Reading s coords coords' kinds kinds' ends ends' words words' q) (bytes_written m out out' n w) p in
    let z = read_accepted (encode m) coords kinds ends words (written_is_file m w.held a) (ap (λ (x : Model). room_off x (length coords) (length kinds) (length ends) (length words)) d ∙ room) in (
      told_done q (found_in m) (c.answered ∙ (λ i. answer (z i) (found_in (d i)))),
      c.memory.coords_are ∙ (λ i. filled (z i) (d i).coords coords),
      c.memory.kinds_are ∙ (λ i. filled (z i) (d i).kinds kinds),
      c.memory.ends_are ∙ (λ i. filled (z i) (d i).ends ends),
      c.memory.words_are ∙ (λ i. filled (z i) (d i).words words),
    )

-- Demand 2, 'reading and writing a model file undo each other': what reading read, where it is accepted, written into bytes with room, gives the file back.
pub read_written_back : (s : List ℕ) (coords coords' : List Float) (kinds kinds' ends ends' words words' : List ℕ) (f : Found) (out out' : List ℕ) (r : Result ℕ Refusal)
    → Reading s coords coords' kinds kinds' ends ends' words words' (Ok f)
    → model_refusal (model_in f coords' kinds' ends' words') ≡ 0
    → length s ≤ length out
    → Writing (model_in f coords' kinds' ends' words') out out' r
    → (r ≡ Ok (length s)) × (out' ≡ s ++ drop (length s) out)
read_written_back s coords coords' kinds kinds' ends ends' words words' f out out' r p a h w =
    let d = model_read s coords coords' kinds kinds' ends ends' words words' f p in
    let b : model_refusal (decode s) ≡ 0 = ap model_refusal (sym d) ∙ a in
    let e = writing_undoes_reading s p.bytes (file_good s coords coords' kinds kinds' ends ends' words words' f p) b in
    let c : Writing (decode s) out out' r = subst (λ (m : Model). Writing m out out' r) d w in
    let z = write_accepted (decode s) out b (omega (arith, ap length e)) in
    (told_done r (length s) (c.answered ∙ (λ i. answer (z i) (length (e i)))), c.out_is ∙ (λ i. filled (z i) (e i) out))
