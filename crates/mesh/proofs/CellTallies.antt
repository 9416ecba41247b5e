-- The pass over cells: what is judged and counted so far, and what is left.
use Prim.Native.Nat.{ℕ, suc, ◌+◌, ◌-◌, ◌*◌, ◌≤◌, ◌<◌}
use mathlib.Core.Path.{◌≡◌, sym, ap, ◌∙◌}
use mathlib.Core.Logic.{◌≢◌}
use mathlib.Core.Bool.{Bool, false}
use mathlib.Core.List.{List, [], ◌∷◌, ◌++◌, append_assoc}
use native.Mathlib.Numerals.{add-one}
use native.Mathlib.Omega.{arith}
use borrow.Author.Tests.{ltb-false}
use lib.Dec.{ltb}
use lib.ListN.{length, get_or, take, drop, length-append}
use lib.Seq.{drop-cons, drop-drop}
use Rattle.laws.specs.Limits.{cell_limit, word_limit}
use Rattle.laws.specs.Lists.{any, each}
use Rattle.laws.specs.Refusals.{refusal}
use Rattle.laws.proofs.ListLaws.{each_append, any_append}
use Rattle.laws.proofs.Tables.{Numbered, refusal_first, refusal_second}
use Rattle.std.proofs.lemmas.Bool.{or_parts}
use Rattle.mesh.specs.Model.{Raw, cells_from}
use Rattle.mesh.specs.Rings.{rings_of}
use Rattle.mesh.specs.Acceptance.{ends_off, cell_table, cells_table}
use Rattle.mesh.specs.Steps.{ring_total, cell_with, CellTallied}
use Rattle.mesh.specs.declared.CellTally.{CellTally}

-- ---- ends in order

-- the next end
pub ends_next : (at : ℕ) (es : List ℕ) (n i : ℕ) → ends_off at (drop i es) n ≡ false → i < length es → (at ≤ get_or es i 0) × (ends_off (get_or es i 0) (drop (i + 1) es) n ≡ false)
ends_next at es n i h l =
    let p = or_parts (ltb (get_or es i 0) at) (ends_off (get_or es i 0) (drop (suc i) es) n) (rw (drop-cons es i 0 l) at h) in
    (ltb-false (get_or es i 0) at p.0, rw (add-one i) p.1)

-- ---- the next cell

-- the cells that are left at place `at`, from number i on
abbrev pub left : List ℕ → List ℕ → List ℕ → ℕ → ℕ → List Raw
left kinds ends words at i = cells_from at (drop i kinds) (drop i ends) (drop at words)

pub left_next : (kinds ends words : List ℕ) (at i : ℕ) → i < length kinds → i < length ends → at ≤ get_or ends i 0
    → left kinds ends words at i ≡ cell_with (get_or kinds i 0) (take (get_or ends i 0 - at) (drop at words)) ∷ left kinds ends words (get_or ends i 0) (i + 1)
left_next kinds ends words at i a b d =
    let e = get_or ends i 0 in
    let m : at + (e - at) ≡ e = omega arith in
    let q : drop (e - at) (drop at words) ≡ drop e words = drop-drop (e - at) at words ∙ ap (λ (k : ℕ). drop k words) m in
    rw (drop-cons kinds i 0 a, drop-cons ends i 0 b, q, add-one i)

pub nine : (n before : ℕ) (c : Raw) → Numbered (cell_table n before c)
unfolding cell_table
nine n before c = (λ e. omega arith, (λ e. omega arith, (λ e. omega arith, tt)))

-- the words of one list of rings after another
pub total_append : (a b : List (List ℕ)) → ring_total (a ++ b) ≡ ring_total a + ring_total b
total_append a b = ap length (each_append (λ (r : List ℕ). r) a b) ∙ length-append (each (λ (r : List ℕ). r) a) (each (λ (r : List ℕ). r) b)

-- ---- the pass

-- all words of cells
abbrev pub words_in : List Raw → List ℕ
words_in cs = each (λ c. c.words) cs

-- no more cells and words than a model may have
pub record Few (cs : List Raw) : Type 0 where
  pub cells : length cs ≤ cell_limit
  pub words : length (words_in cs) ≤ word_limit

-- what is judged and counted before the cells that are left, with what they give, is all
pub record Counting (n : ℕ) (cs rest : List Raw) (t : CellTally) (before : ℕ) : Type 0 where
  pub seen : List Raw
  pub parts : seen ++ rest ≡ cs
  pub table : refusal (cells_table n before rest) ≡ refusal (cells_table n 0 cs)
  pub faces : t.faces + length (each rings_of rest) ≡ length (each rings_of cs)
  pub words : t.words + ring_total (each rings_of rest) ≡ ring_total (each rings_of cs)
  pub few : t.faces ≤ 6 * length seen + length (words_in seen)
  pub small : t.words ≤ 24 * length seen + length (words_in seen)

pub counting_start : (n : ℕ) (cs rest : List Raw) (t : CellTally) → rest ≡ cs → t.faces ≡ 0 → t.words ≡ 0 → Counting n cs rest t 0
counting_start n cs rest t is a b = record {
  seen = [];
  parts = is;
  table = ap (λ (l : List Raw). refusal (cells_table n 0 l)) is;
  faces = omega (arith, a, ap (λ (l : List Raw). length (each rings_of l)) is);
  words = omega (arith, b, ap (λ (l : List Raw). ring_total (each rings_of l)) is);
  few = omega (arith, a);
  small = omega (arith, b);
}

-- the words of the first cells and of the others
words_append : (a b : List Raw) → words_in (a ++ b) ≡ words_in a ++ words_in b
words_append a b = each_append (λ (c : Raw). c.words) a b

-- what is counted of few cells and words is not much
pub counting_bound : {n : ℕ} {cs rest : List Raw} {t : CellTally} {before : ℕ} → Counting n cs rest t before → Few cs → (t.faces ≤ 360448) × (t.words ≤ 655360)
counting_bound {n} {cs} {rest} {t} {before} r f =
    let l = ap length (sym r.parts) ∙ length-append r.seen rest in
    let w = ap (λ (x : List Raw). length (words_in x)) (sym r.parts) ∙ ap length (words_append r.seen rest) ∙ length-append (words_in r.seen) (words_in rest) in
    (omega (arith, r.few, l, w, f.cells, f.words), omega (arith, r.small, l, w, f.cells, f.words))

module _ {n : ℕ} {cs rest later : List Raw} {t : CellTally} {before : ℕ} (r : Counting n cs rest t before) (c : Raw) (is : rest ≡ c ∷ later) where
  words_are : words_in cs ≡ words_in r.seen ++ (c.words ++ words_in later)
  words_are =
      ap words_in (sym r.parts) ∙ words_append r.seen rest ∙ ap (λ (l : List Raw). words_in r.seen ++ words_in l) is

  -- the next cell's words are some of all
  pub next_words : (p : ℕ → Bool) → any p (words_in cs) ≡ false → any p c.words ≡ false
  next_words p h =
      let a = or_parts (any p (words_in r.seen)) (any p (c.words ++ words_in later)) (sym (any_append p (words_in r.seen) (c.words ++ words_in later)) ∙ ap (any p) (sym words_are) ∙ h) in
      (or_parts (any p c.words) (any p (words_in later)) (sym (any_append p c.words (words_in later)) ∙ a.1)).0

  pub next_length : length c.words ≤ length (words_in cs)
  next_length = omega (arith, ap length words_are, length-append (words_in r.seen) (c.words ++ words_in later), length-append c.words (words_in later))

  -- the sums go on fitting
  pub next_bound : (u : CellTally) → CellTallied c u → Few cs → (t.faces + u.faces < 4294967296) × (t.words + u.words < 4294967296)
  next_bound u h f =
      let b = counting_bound r f in
      (omega (arith, b.0, h.few, next_length, f.words), omega (arith, b.1, h.small, next_length, f.words))

  -- a cell is refused, and so are the cells
  pub refused_here : refusal (cell_table n before c) ≢ 0 → refusal (cell_table n before c) ≡ refusal (cells_table n 0 cs)
  refused_here z =
      sym (refusal_first (cell_table n before c) (cells_table n c.kind later) z)
      ∙ ap (λ (l : List Raw). refusal (cells_table n before l)) (sym is)
      ∙ r.table

  -- a cell passes
  pub counting_next : (u v : CellTally) → refusal (cell_table n before c) ≡ 0 → CellTallied c u → v.faces ≡ t.faces + u.faces → v.words ≡ t.words + u.words → Counting n cs later v c.kind
  counting_next u v z p a b =
      let w = ap length (words_append r.seen (c ∷ [])) ∙ length-append (words_in r.seen) (words_in (c ∷ [])) in
      let w1 = length-append c.words [] in
      let l = length-append r.seen (c ∷ []) in
      record {
        seen = r.seen ++ (c ∷ []);
        parts = append_assoc r.seen (c ∷ []) later ∙ ap (λ (x : List Raw). r.seen ++ x) (sym is) ∙ r.parts;
        table =
            sym (refusal_second (cell_table n before c) (cells_table n c.kind later) (nine n before c) z)
            ∙ ap (λ (x : List Raw). refusal (cells_table n before x)) (sym is)
            ∙ r.table;
        faces = omega (arith, a, p.faces, r.faces, ap (λ (x : List Raw). length (each rings_of x)) is, length-append (rings_of c) (each rings_of later));
        words = omega (arith, b, p.words, r.words, ap (λ (x : List Raw). ring_total (each rings_of x)) is, total_append (rings_of c) (each rings_of later));
        few = omega (arith, a, p.few, r.few, w, w1, l);
        small = omega (arith, b, p.small, r.small, w, w1, l);
      }

-- no cell is left
pub counting_end : {n : ℕ} {cs rest : List Raw} {t : CellTally} {before : ℕ} → Counting n cs rest t before → rest ≡ []
    → (refusal (cells_table n 0 cs) ≡ 0) × (t.faces ≡ length (each rings_of cs)) × (t.words ≡ ring_total (each rings_of cs))
counting_end {n} {cs} {rest} {t} {before} r e = (
  sym r.table ∙ ap (λ (l : List Raw). refusal (cells_table n before l)) e,
  omega (arith, r.faces, ap (λ (l : List Raw). length (each rings_of l)) e),
  omega (arith, r.words, ap (λ (l : List Raw). ring_total (each rings_of l)) e),
)
