-- The lines of a report one by one, its whole text, and the records read back from the bytes that hold them.
use Prim.Native.Nat.{ℕ, suc, ◌+◌, ◌*◌}
use mathlib.Core.Path.{◌≡◌, refl, sym, ap, ap₂, ◌∙◌}
use mathlib.Core.List.{List, [], ◌∷◌, ◌++◌, map, map-append, append_assoc, append-nil, Memᴰ}
use native.Mathlib.Nat.{zero-add}
use native.Mathlib.Numerals.{add-one}
use native.Mathlib.Omega.{arith}
use borrow.Author.Tests.{eq-eqb, ne_eqb}
use lib.ListN.{length, take, drop, take-append-drop}
use lib.Seq.{drop_at, drop-drop}
use Rattle.laws.specs.Lists.{each, up_from}
use Rattle.laws.proofs.ListLaws.{each_append, up_from_snoc}
use Rattle.findings.specs.Findings.{Rules, Finding}
use Rattle.findings.specs.Records.{Fields, fields_of, centre_in, record_of}
use Rattle.findings.specs.Demand3.{Below}
use Rattle.findings.proofs.Kept.{record_64}
use Rattle.records.specs.Read.{fields_in}
use Rattle.records.proofs.Back.{fields_back}
use Rattle.report.specs.Text.{line_of, total_line, conform, report_text}
use Rattle.report_text.specs.Stored.{fields_kept}
use Rattle.report_text.specs.Wrote.{Wrote}
use Rattle.report_text.specs.declared.Text.{Text}
use Rattle.report_text.proofs.Texts.{followed}

-- the lines of i records and that of the next
lines_next : (f : List ℕ) (i : ℕ) → each line_of (fields_kept f i) ++ line_of (fields_in f (64 * i)) ≡ each line_of (fields_kept f (i + 1))
lines_next f i =
    let at : (ℕ → Fields) = λ j. fields_in f (64 * j) in
    sym (ap (λ (k : ℕ). each line_of (fields_kept f k)) (add-one i)
    ∙ ap (λ (l : List ℕ). each line_of (map at l)) (up_from_snoc 0 i ∙ ap (λ (j : ℕ). up_from 0 i ++ (j ∷ [])) (zero-add i))
    ∙ ap (each line_of) (map-append at (up_from 0 i) (i ∷ []))
    ∙ each_append line_of (fields_kept f i) (at i ∷ [])
    ∙ ap (λ (l : List ℕ). each line_of (fields_kept f i) ++ l) (append-nil (line_of (at i))))

-- written one behind the other
pub line_next : (f : List ℕ) (i : ℕ) (x : Fields) {t u v : Text} → x ≡ fields_in f (64 * i) → Wrote (128 * i) (each line_of (fields_kept f i)) t u → Wrote 128 (line_of x) u v
    → Wrote (128 * (i + 1)) (each line_of (fields_kept f (i + 1))) t v
line_next f i x e p q = rw (← lines_next f i, ← e) (followed p q (omega arith))

-- the whole text where there are no findings
pub text_none : (xs : List Fields) (total k most : ℕ) {t u : Text} → total ≡ 0 → Wrote 8 conform t u → Wrote (most + 64) (report_text xs total k) t u
unfolding report_text
text_none xs total k most e p =
    rw (eq-eqb total 0 e) (record { same_reference = p.same_reference; stored = p.stored; few = omega (arith, p.few); room = p.room })

-- and where there are some: the lines, and the totals behind them
pub text_some : (xs : List Fields) (total k most : ℕ) {t u v : Text} → (total ≡ 0 → ⊥) → Wrote most (each line_of xs) t u → Wrote 64 (total_line total k) u v → Wrote (most + 64) (report_text xs total k) t v
unfolding report_text
text_some xs total k most h p q = rw (ne_eqb total 0 h) (followed p q (omega arith))

module _ (R : Rules) (f rest : List ℕ) where
  -- records from number j on
  back_from : (j : ℕ) (xs : List Finding) → drop (64 * j) f ≡ each (record_of R) xs ++ rest → ((x : Finding) → Memᴰ x xs → Below 4294967296 (fields_of x))
      → map (λ i. fields_in f (64 * i)) (up_from j (length xs)) ≡ map fields_of xs
  unfolding record_of
  back_from j [] e h = refl
  back_from j (x ∷ xs) e h =
      let more : List ℕ = each (record_of R) xs ++ rest in
      let d : drop (64 * j) f ≡ record_of R x ++ more = e ∙ append_assoc (record_of R x) (each (record_of R) xs) rest in
      let k : 64 * suc j ≡ 64 * j + 64 = omega arith in
      ap₂ (λ (y : Fields) (ys : List Fields). y ∷ ys) (fields_back f more (64 * j) (fields_of x) (centre_in R x) d (h x (Memᴰ.head refl)))
      (back_from (suc j) xs
      (ap (λ (n : ℕ). drop n f) k ∙ sym (drop-drop 64 (64 * j) f) ∙ ap (drop 64) d ∙ drop_at (record_of R x) more 64 (record_64 R x))
      (λ y m. h y (Memᴰ.tail m)))

-- where the bytes hold the records of xs in front, with numbers of 32 bits, the fields kept are those of xs
pub kept_back : (R : Rules) (f : List ℕ) (k : ℕ) (xs : List Finding) → take (64 * k) f ≡ each (record_of R) xs → length xs ≡ k
    → ((x : Finding) → Memᴰ x xs → Below 4294967296 (fields_of x)) → map (λ i. fields_in f (64 * i)) (up_from 0 k) ≡ map fields_of xs
kept_back R f k xs e n h =
    ap (fields_kept f) (sym n)
    ∙ back_from R f (drop (64 * k) f) 0 xs (sym (take-append-drop (64 * k) f) ∙ ap (λ (l : List ℕ). l ++ drop (64 * k) f) e) h
