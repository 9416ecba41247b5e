-- `report_text::Text::put_lines` meets its contract: a line behind those of the records before.
use Prim.Native.Nat.{ℕ, ◌*◌, ◌/◌, ◌<◌}
use mathlib.Core.Path.{◌≡◌, ap, ◌∙◌, subst}
use mathlib.Core.List.{List, []}
use native.Mathlib.Omega.{arith}
use lib.ListN.{length, get_or}
use lib.Seq.{length-take-le}
use Rattle.std.proofs.lemmas.List.{get_or-take}
use Rattle.laws.specs.Lists.{each}
use Rattle.records.specs.Read.{fields_in}
use Rattle.records.proofs.Back.{fields_chunk}
use Rattle.records.specs.Keeping.{told}
use Rattle.report.specs.Text.{line_of}
use Rattle.report_text.specs.Stored.{fields_kept}
use Rattle.report_text.specs.Wrote.{Wrote}
use Rattle.report_text.proofs.Reports.{line_next}
use Rattle.report_text.proofs.Text.put_lines.Goals as goal

pub loop-bytes-preserved : goal.loop-bytes-preserved
loop-bytes-preserved c =
    let a = c.args in
    let o = c.loop-bytes in
    let i = o.bytes-index in
    let k = c.as_chunks in
    let n = length-take-le a.kept k.result.0.now (omega (arith, k.ensures.front_len, c.requires.0)) in
    let low : i < a.kept = omega (arith, n, c.loop-bytes-test.true) in
    let f =
    c.fields_of.ensures
    ∙ ap (λ (bytes : List ℕ). fields_in bytes 0) (get_or-take a.kept k.result.0.now i [] low ∙ ap (λ (l : List (List ℕ)). get_or l i []) k.ensures.front)
    ∙ fields_chunk (length a.findings.now / 64) i a.findings.now (omega (arith, low, c.requires.0)) in
    line_next a.findings.now i (told c.fields_of.result) f o.invariant c.put_line.ensures

pub returns : goal.returns
returns c =
    let a = c.args in
    let o = c.loop-bytes in
    let k = c.as_chunks in
    let n = length-take-le a.kept k.result.0.now (omega (arith, k.ensures.front_len, c.requires.0)) in
    let e : o.bytes-index ≡ a.kept = omega (arith, n, c.loop-bytes-test.false, o.auto.bytes-index-end) in
    subst (λ (m : ℕ). Wrote (128 * m) (each line_of (fields_kept a.findings.now m)) a.self.now o.self) e o.invariant
