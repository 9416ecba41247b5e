-- A whole run: a long input, a file that reading refuses, and a model that is checked.
use Prim.Native.Nat.{ℕ, ◌*◌, ◌≤◌, ◌<◌}
use mathlib.Core.Path.{◌≡◌, sym, ap, ◌∙◌, subst}
use mathlib.Core.Logic.{◌⊎◌, inl, inr, ◌≢◌}
use mathlib.Core.Bool.{Bool, true, false, cond}
use mathlib.Core.List.{List, [], ◌∷◌, ◌++◌}
use native.Mathlib.Omega.{arith}
use borrow.Author.Tests.{eqb-true, eqb-false, ne_eqb, lt-ltb, le-ltb}
use lib.Dec.{eqb}
use lib.Ieee.{Float}
use lib.ListN.{length, take, replicate, length-take}
use Rattle.std.specs.Prelude.{Ok, Err}
use Rattle.laws.specs.Limits.{input_limit, program_work}
use Rattle.laws.specs.Refusals.{refusal, filled}
use Rattle.laws.proofs.Tables.{refusal_first, refusal_second, unfilled, answered_done, answered_refused}
use Rattle.refusals.specs.declared.Refusal.{Refusal}
use Rattle.refusals.specs.Told.{number}
use Rattle.model_file.proofs.Counts.{threes, ends_as_cells}
use Rattle.model_file.proofs.RoundTrips.{file_numbered, model_read}
use Rattle.std.proofs.lemmas.Bool.{cases_Bool}
use Rattle.mesh.specs.Model.{Model}
use Rattle.mesh.specs.Acceptance.{check_table, work_needed}
use Rattle.model_file.specs.File.{records, file_table, decode, length_off}
use Rattle.model_file.specs.Reading.{room_off, read_refusal, found_in, model_in, Reading}
use Rattle.model_file.specs.Parts.{Within}
use Rattle.model_file.specs.Steps.{judge}
use Rattle.model_file.specs.declared.Found.{Found}
use Rattle.model_file.specs.declared.Stage.TheVariants.{Nodes}
use Rattle.report.specs.Text.{refused_line}
use Rattle.report.specs.Program.{report_of, output}
use Rattle.report_text.specs.Stored.{Stored}
use Rattle.program.specs.Running.{kept_in, Lists, input_refusal, program_refusal, Running}
use Rattle.program.specs.Steps.{checked_refusal, model_text, Reporting}
use Rattle.program.proofs.Sizes.{room}

-- ---- the tables

-- a file that is not refused has records that are not
records_right : (b : Bool) (n : ℕ) → cond b 1 n ≡ 0 → n ≡ 0
records_right true n e = absurd (omega arith)
records_right false n e = e

module _ (s : List ℕ) (coords : List Float) (kinds ends words : List ℕ) (l : Lists (length coords) (length kinds) (length ends) (length words)) (h : length s ≤ input_limit) where
  -- the last row of reading's table
  abbrev four : List (ℕ × Bool)
  four = (4, room_off (decode s) (length coords) (length kinds) (length ends) (length words)) ∷ []

  -- reading refuses with 1 to 3 only
  pub reads_as : read_refusal s coords kinds ends words ≡ refusal (file_table s)
  reads_as = go (cases_Bool (eqb (refusal (file_table s)) 0))
    where
      go : (eqb (refusal (file_table s)) 0 ≡ true) ⊎ (eqb (refusal (file_table s)) 0 ≡ false) → read_refusal s coords kinds ends words ≡ refusal (file_table s)
      go (inl t) =
          let z = eqb-true (refusal (file_table s)) 0 t in
          let j = records_right (length_off (length s)) (judge Nodes (records s)) z in
          refusal_second (file_table s) four (file_numbered s) z
          ∙ ap (λ (b : Bool). cond b 4 0) (room s (length coords) (length kinds) (length ends) (length words) l h j)
          ∙ sym z
      go (inr t) = refusal_first (file_table s) four (eqb-false (refusal (file_table s)) 0 t)

-- an input that is not too long: the file's refusal
input_short : (s : List ℕ) → length s ≤ input_limit → input_refusal s ≡ refusal (file_table s)
input_short s h = ap (λ (b : Bool). cond b 1 (refusal (file_table s))) (le-ltb input_limit (length s) h)

-- then checking's
program_short : (s : List ℕ) → length s ≤ input_limit → program_refusal s ≡ refusal (file_table s ++ check_table (decode s) program_work)
program_short s h = ap (λ (b : Bool). cond b 1 (refusal (file_table s ++ check_table (decode s) program_work))) (le-ltb input_limit (length s) h)

-- ---- refusals

-- the output of a refusal
output_refused : (s : List ℕ) (k : ℕ) → program_refusal s ≡ k → k ≢ 0 → refused_line k ≡ output s
unfolding output
output_refused s k e z =
    sym (ap (λ (n : ℕ). cond (eqb n 0) (report_of (decode s)) (refused_line n)) e ∙ ap (λ (b : Bool). cond b (report_of (decode s)) (refused_line k)) (ne_eqb k 0 z))

module _ (s : List ℕ) (coords : List Float) (kinds ends words findings work out out' : List ℕ) (r : ℕ) where
  -- an input that is too long: refused with 1, and every list as it was
  pub too_long : input_limit < length s → Stored out 0 (refused_line 1) out' r → r ≤ length out
      → Running s coords coords kinds kinds ends ends words words findings findings work work out out' r
  too_long h t w =
      let long = lt-ltb input_limit (length s) h in
      let i : input_refusal s ≡ 1 = ap (λ (b : Bool). cond b 1 (refusal (file_table s))) long in
      let p : program_refusal s ≡ 1 = ap (λ (b : Bool). cond b 1 (refusal (file_table s ++ check_table (decode s) program_work))) long in
      record {
        stored = subst (λ (x : List ℕ). Stored out 0 x out' r) (output_refused s 1 p (λ e. omega arith)) t;
        within = w;
        findings_are = unfilled (program_refusal s) 1 (kept_in (decode s)) findings p (λ e. omega arith);
        work_is = unfilled (program_refusal s) 1 (replicate (work_needed (decode s)) 0) work p (λ e. omega arith);
        coords_are = unfilled (input_refusal s) 1 (decode s).coords coords i (λ e. omega arith);
        kinds_are = unfilled (input_refusal s) 1 (decode s).kinds kinds i (λ e. omega arith);
        ends_are = unfilled (input_refusal s) 1 (decode s).ends ends i (λ e. omega arith);
        words_are = unfilled (input_refusal s) 1 (decode s).words words i (λ e. omega arith);
      }

module _ (s : List ℕ) (coords coords' : List Float) (kinds kinds' ends ends' words words' : List ℕ) (l : Lists (length coords) (length kinds) (length ends) (length words)) (h : length s ≤ input_limit) where
  -- what stands in the lists is said of the input's refusal too
  same_no : input_refusal s ≡ read_refusal s coords kinds ends words
  same_no = input_short s h ∙ sym (reads_as s coords kinds ends words l h)

  -- a file that reading refuses: refused with its number, and every list as it was
  pub not_read : (e : Refusal) (findings work out out' : List ℕ) (r : ℕ) → Reading s coords coords' kinds kinds' ends ends' words words' (Err e) → Stored out 0 (refused_line (number e)) out' r → r ≤ length out
      → Running s coords coords' kinds kinds' ends ends' words words' findings findings work work out out' r
  not_read e findings work out out' r c t w =
      let n = number e in
      let q = answered_refused n (read_refusal s coords kinds ends words) (found_in (decode s)) c.answered in
      let some : read_refusal s coords kinds ends words ≢ 0 = eqb-false (read_refusal s coords kinds ends words) 0 q.1 in
      let z : refusal (file_table s) ≢ 0 = λ y. some (reads_as s coords kinds ends words l h ∙ y) in
      let p : program_refusal s ≡ n = program_short s h ∙ refusal_first (file_table s) (check_table (decode s) program_work) z ∙ sym (q.0 ∙ reads_as s coords kinds ends words l h) in
      let d : n ≢ 0 = λ y. some (sym q.0 ∙ y) in
      record {
        stored = subst (λ (x : List ℕ). Stored out 0 x out' r) (output_refused s n p d) t;
        within = w;
        findings_are = unfilled (program_refusal s) n (kept_in (decode s)) findings p d;
        work_is = unfilled (program_refusal s) n (replicate (work_needed (decode s)) 0) work p d;
        coords_are = c.memory.coords_are ∙ ap (λ (k : ℕ). filled k (decode s).coords coords) (sym same_no);
        kinds_are = c.memory.kinds_are ∙ ap (λ (k : ℕ). filled k (decode s).kinds kinds) (sym same_no);
        ends_are = c.memory.ends_are ∙ ap (λ (k : ℕ). filled k (decode s).ends ends) (sym same_no);
        words_are = c.memory.words_are ∙ ap (λ (k : ℕ). filled k (decode s).words words) (sym same_no);
      }

-- ---- a model that was read

-- a list is as long as what its first part holds
fits : {A : Type 0} (k : ℕ) (xs l : List A) → k ≡ length xs → take k l ≡ xs → k ≤ length l
fits k xs l n e = omega (arith, length-take k l, ap length e)

module _ (s : List ℕ) (coords coords' : List Float) (kinds kinds' ends ends' words words' : List ℕ) (l : Lists (length coords) (length kinds) (length ends) (length words)) (h : length s ≤ input_limit)
    (f : Found) (c : Reading s coords coords' kinds kinds' ends ends' words words' (Ok f)) where
  -- nothing was refused, and what was found is the model's
  found : (read_refusal s coords kinds ends words ≡ 0) × (f ≡ found_in (decode s))
  found = answered_done (read_refusal s coords kinds ends words) f (found_in (decode s)) c.answered

  -- the file is right
  file_right : refusal (file_table s) ≡ 0
  file_right = sym (reads_as s coords kinds ends words l h) ∙ found.0

  -- the filled parts are the model of the file
  same_model : model_in f coords' kinds' ends' words' ≡ decode s
  same_model = model_read s coords coords' kinds kinds' ends ends' words words' f c

  -- the nodes found are all coordinates, in threes
  coords_count : 3 * f.nodes ≡ length (decode s).coords
  unfolding decode
  coords_count = omega (arith, ap (λ (x : Found). x.nodes) found.1, threes (records s))

  -- the cells found are the kinds
  kinds_count : f.cells ≡ length (decode s).kinds
  kinds_count = ap (λ (x : Found). x.cells) found.1

  -- and the ends
  ends_count : f.cells ≡ length (decode s).ends
  unfolding decode
  ends_count = kinds_count ∙ sym (ends_as_cells (records s) (records_right (length_off (length s)) (judge Nodes (records s)) file_right))

  -- what was found fits the lists
  pub found_fits : Within f (length coords') (length kinds') (length ends') (length words')
  found_fits = (
    fits (3 * f.nodes) (decode s).coords coords' coords_count (ap (λ (m : Model). m.coords) same_model),
    fits f.cells (decode s).kinds kinds' kinds_count (ap (λ (m : Model). m.kinds) same_model),
    fits f.cells (decode s).ends ends' ends_count (ap (λ (m : Model). m.ends) same_model),
    fits f.words (decode s).words words' (ap (λ (x : Found). x.words) found.1) (ap (λ (m : Model). m.words) same_model),
  )

  -- why it is not reported: checking's refusal
  program_no : program_refusal s ≡ checked_refusal (decode s)
  program_no = program_short s h ∙ refusal_second (file_table s) (check_table (decode s) program_work) (file_numbered s) file_right

  -- the output
  output_is : model_text (decode s) ≡ output s
  unfolding output model_text
  output_is = sym (ap (λ (n : ℕ). cond (eqb n 0) (report_of (decode s)) (refused_line n)) program_no)

  -- a model read and checked: its report
  pub checked : (findings findings' work work' out out' : List ℕ) (r : ℕ)
      → Reporting (model_in f coords' kinds' ends' words') findings findings' work work' out out' r
      → Running s coords coords' kinds kinds' ends ends' words words' findings findings' work work' out out' r
  checked findings findings' work work' out out' r q =
      let p = subst (λ (m : Model). Reporting m findings findings' work work' out out' r) same_model q in
      let i = same_no s coords coords' kinds kinds' ends ends' words words' l h in
      record {
        stored = subst (λ (x : List ℕ). Stored out 0 x out' r) output_is p.stored;
        within = p.within;
        findings_are = p.findings_are ∙ ap (λ (k : ℕ). filled k (kept_in (decode s)) findings) (sym program_no);
        work_is = p.work_is ∙ ap (λ (k : ℕ). filled k (replicate (work_needed (decode s)) 0) work) (sym program_no);
        coords_are = c.memory.coords_are ∙ ap (λ (k : ℕ). filled k (decode s).coords coords) (sym i);
        kinds_are = c.memory.kinds_are ∙ ap (λ (k : ℕ). filled k (decode s).kinds kinds) (sym i);
        ends_are = c.memory.ends_are ∙ ap (λ (k : ℕ). filled k (decode s).ends ends) (sym i);
        words_are = c.memory.words_are ∙ ap (λ (k : ℕ). filled k (decode s).words words) (sym i);
      }
