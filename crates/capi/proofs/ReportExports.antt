-- From the promises of the report and the run to the exported ones.
use Prim.Native.Nat.{ℕ, ◌*◌, ◌≤◌, ◌<◌}
use mathlib.Core.Path.{◌≡◌, sym, ◌∙◌}
use mathlib.Core.List.{List}
use mathlib.Core.Logic.{◌⊎◌, inl, inr}
use native.Mathlib.Omega.{arith}
use borrow.Author.Tests.{lt-ltb, le-ltb}
use lib.ListN.{length}
use Rattle.laws.specs.Limits.{program_records}
use Rattle.laws.specs.Refusals.{filled}
use Rattle.laws.proofs.Stores.{sets_front}
use Rattle.std.proofs.lemmas.Bool.{cases_lt}
use Rattle.report.specs.Text.{report_text}
use Rattle.report.specs.Program.{output}
use Rattle.report_text.specs.Stored.{Stored, fields_kept}
use Rattle.capi.specs.Reports.{text_room, report_refusal, ReportExport, run_refusal, RunExport}

-- a text stored in front of a slice fills it
front : (text out out' : List ℕ) (end : ℕ) → Stored out 0 text out' end → end ≤ length out → out' ≡ filled 0 text out
front text out out' end s h = s.0 ∙ sets_front out text (omega (arith, s.1, h))

-- ---- the report

module _ (findings : List ℕ) (total kept : ℕ) (out : List ℕ) (size : ℕ) where
  -- too few records, or too little room
  short : (length findings < 64 * kept) ⊎ (length out < text_room kept) → report_refusal findings kept out ≡ 4
  short (inl h) = rw (lt-ltb (length findings) (64 * kept) h)
  short (inr h) = go (cases_lt (length findings) (64 * kept))
    where
      go : (length findings < 64 * kept) ⊎ (64 * kept ≤ length findings) → report_refusal findings kept out ≡ 4
      go (inl a) = rw (lt-ltb (length findings) (64 * kept) a)
      go (inr a) = rw (le-ltb (length findings) (64 * kept) a, lt-ltb (length out) (text_room kept) h)

  pub report_short : (r : ℕ) → r ≡ 4 → (length findings < 64 * kept) ⊎ (length out < text_room kept) → ReportExport findings total kept out out size size r
  report_short r is h = let e = short h in record { size_is = record { answered = is ∙ sym e; lent_is = rw e }; out_is = rw e }

  -- else the text
  pub report_done : (out' : List ℕ) (n : ℕ) → 64 * kept ≤ length findings → text_room kept ≤ length out
      → Stored out 0 (report_text (fields_kept findings kept) total kept) out' n → n ≤ length out → ReportExport findings total kept out out' size n 0
  report_done out' n a b s h =
      let e : report_refusal findings kept out ≡ 0 = rw (le-ltb (length findings) (64 * kept) a, le-ltb (length out) (text_room kept) b) in
      record { size_is = record { answered = sym e; lent_is = rw e (omega (arith, s.1)) }; out_is = rw e (front (report_text (fields_kept findings kept) total kept) out out' n s h) }

-- ---- the run

module _ (input out : List ℕ) (size : ℕ) where
  -- too little room
  pub run_short : (r : ℕ) → r ≡ 4 → length out < text_room program_records → RunExport input out out size size r
  run_short r is h =
      let e : run_refusal out ≡ 4 = rw (lt-ltb (length out) (text_room program_records) h) in
      record { size_is = record { answered = is ∙ sym e; lent_is = rw e }; out_is = rw e }

  -- else the output
  pub run_done : (out' : List ℕ) (n : ℕ) → text_room program_records ≤ length out → Stored out 0 (output input) out' n → n ≤ length out → RunExport input out out' size n 0
  run_done out' n a s h =
      let e : run_refusal out ≡ 0 = rw (le-ltb (length out) (text_room program_records) a) in
      record { size_is = record { answered = sym e; lent_is = rw e (omega (arith, s.1)) }; out_is = rw e (front (output input) out out' n s h) }
