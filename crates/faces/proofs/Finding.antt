-- A face sought among the cells.
use Prim.Native.Nat.{ℕ, ◌+◌, ◌-◌, ◌*◌, ◌≤◌, ◌<◌}
use mathlib.Core.Path.{◌≡◌, refl, sym, ap, ◌∙◌}
use mathlib.Core.List.{List, [], ◌∷◌, ◌++◌, append_assoc}
use native.Mathlib.Omega.{arith}
use lib.ListN.{length, get_or, take, length-append, get_or-append}
use lib.Seq.{take-append-le, take-append-add, get_or-append-add}
use Rattle.std.specs.declared.ops.Range.{Range}
use Rattle.laws.specs.Lists.{each}
use Rattle.laws.proofs.ListLaws.{each_append}
use Rattle.mesh.specs.Model.{Raw}
use Rattle.mesh.specs.Rings.{rings_of}
use Rattle.mesh.specs.Kinds.{kind_number}
use Rattle.mesh.specs.CellsRest.{cell_raw, cells_rest}
use Rattle.mesh.specs.Steps.{ring_total}
use Rattle.mesh.specs.declared.CellTally.{CellTally}
use Rattle.mesh.specs.declared.accepted.Cell.{Cell}
use Rattle.mesh.specs.declared.accepted.Cells.{Cells}
use Rattle.mesh.proofs.CellTallies.{words_in, total_append}
use Rattle.faces.specs.Spans.{SpanIn, CellFound}
use Rattle.faces.specs.declared.Place.{Place}
use Rattle.faces.proofs.Bounds.{rings_total}
use Rattle.faces.proofs.Rings.{span_within}
use Rattle.faces.proofs.Standing.{stands}

-- the face sought is face `face` of the cells that are left, before which stand so many cells, words and ring words
pub record Finding (cs : List Raw) (f : ℕ) (rest : List Raw) (number from face start : ℕ) : Type 0 where
  pub seen : List Raw
  pub parts : seen ++ rest ≡ cs
  pub face_left : length (each rings_of seen) + face ≡ f
  pub passed : start ≡ ring_total (each rings_of seen)
  pub counted : number ≡ length seen
  pub behind_words : from ≡ length (words_in seen)
  pub small : start ≤ 24 * number + from

module _ {cs : List Raw} {f number from face start : ℕ} {rest later : List Raw} (p : Finding cs f rest number from face start) (c : Raw) (is : rest ≡ c ∷ later) where
  there : p.seen ++ c ∷ later ≡ cs
  there = ap (λ (l : List Raw). p.seen ++ l) (sym is) ∙ p.parts

  -- the cell and its words are some of all
  pub walk_bounds : (number < length cs) × (from + length c.words ≤ length (words_in cs))
  walk_bounds =
      let w = ap length (ap words_in (sym there) ∙ each_append (λ (x : Raw). x.words) p.seen (c ∷ later)) in (
        omega (arith, p.counted, ap length there, length-append p.seen (c ∷ later)),
        omega (arith, p.behind_words, w, length-append (words_in p.seen) (words_in (c ∷ later)), length-append c.words (words_in later)),
      )

  -- the cell is passed
  pub finding_next : (next : ℕ) → next ≡ number + 1 → (t : CellTally) → t.faces ≡ length (rings_of c) → t.words ≡ ring_total (rings_of c) → t.words ≤ 24 + length c.words → t.faces ≤ face
      → Finding cs f later next (from + length c.words) (face - t.faces) (start + t.words)
  finding_next next q t a b d h =
      let e = each_append rings_of p.seen (c ∷ []) in
      let n = length-append (rings_of c) [] in
      record {
        seen = p.seen ++ (c ∷ []);
        parts = append_assoc p.seen (c ∷ []) later ∙ there;
        face_left = omega (arith, ap length e, length-append (each rings_of p.seen) (rings_of c ++ []), n, p.face_left, a);
        passed = omega (arith, ap ring_total e, total_append (each rings_of p.seen) (rings_of c ++ []), total_append (rings_of c) [], p.passed, b);
        counted = omega (arith, q, p.counted, length-append p.seen (c ∷ []));
        behind_words =
            omega (
              arith,
              p.behind_words,
              ap length (each_append (λ (x : Raw). x.words) p.seen (c ∷ [])),
              length-append (words_in p.seen) (words_in (c ∷ [])),
              length-append c.words [],
            );
        small = omega (arith, q, p.small, d);
      }

-- the cell holds it
pub finding_here : {f number from face start : ℕ} {rest later : List Raw} (cs : Cells) → Finding (cells_rest cs) f rest number from face start → (n : ℕ) → n ≡ number → (c : Cell) → rest ≡ cell_raw c ∷ later → face < length (rings_of (cell_raw c))
    → CellFound cs f (record { number = n; from = from; cell = c; face = face; start = start })
finding_here {later = later} cs p n q c is h =
    let l = cs.left in
    let parts = there p (cell_raw c) is in
    let s = stands l.at l.kinds.now l.ends.now l.words.now p.seen later (cell_raw c) l.paired l.ordered parts in
    record {
      before = p.seen;
      behind = later;
      parts = parts;
      face = p.face_left;
      within = h;
      start = p.passed;
      number = q ∙ p.counted;
      from = p.behind_words;
      cell = omega (arith, s.counted, q, p.counted);
      end = omega (arith, s.within, p.behind_words);
      is = rw (q, p.counted, p.behind_words) s.is;
      small = omega (arith, q, p.small);
    }

-- ---- a face of one of the cells

module _ {cs : List Raw} {f face : ℕ} (before behind : List Raw) (c : Raw) (parts : before ++ c ∷ behind ≡ cs)
    (count : length (each rings_of before) + face ≡ f) (within : face < length (rings_of c)) where
  rings_are : each rings_of cs ≡ each rings_of before ++ (rings_of c ++ each rings_of behind)
  rings_are = ap (each rings_of) (sym parts) ∙ each_append rings_of before (c ∷ behind)

  -- the face's ring is its ring in the cell
  pub found_ring : get_or (each rings_of cs) f [] ≡ get_or (rings_of c) face []
  found_ring =
      ap (λ (l : List (List ℕ)). get_or l f []) rings_are
      ∙ ap (λ (j : ℕ). get_or (each rings_of before ++ (rings_of c ++ each rings_of behind)) j []) (sym count)
      ∙ get_or-append-add (each rings_of before) (rings_of c ++ each rings_of behind) face []
      ∙ get_or-append (rings_of c) (each rings_of behind) [] face within

  -- and it starts behind the ring words before the cell
  found_start : ring_total (take f (each rings_of cs)) ≡ ring_total (each rings_of before) + ring_total (take face (rings_of c))
  found_start =
      ap (λ (l : List (List ℕ)). ring_total (take f l)) rings_are
      ∙ ap (λ (j : ℕ). ring_total (take j (each rings_of before ++ (rings_of c ++ each rings_of behind)))) (sym count)
      ∙ ap ring_total (take-append-add (each rings_of before) (rings_of c ++ each rings_of behind) face)
      ∙ total_append (each rings_of before) (take face (rings_of c ++ each rings_of behind))
      ∙ omega (arith, ap ring_total (take-append-le face (rings_of c) (each rings_of behind) (omega (arith, within))))

  -- so this is where it stands among all rings
  pub found_span : (start : ℕ) → start ≡ ring_total (each rings_of before) → (s : Range ℕ) → SpanIn (rings_of c) face s
      → (r : Range ℕ) → r.start ≡ start + s.start → r.end ≡ start + s.end → SpanIn (each rings_of cs) f r
  found_span start passed s q r a b = record { start = omega (arith, a, passed, q.start, found_start); end = omega (arith, a, b, q.end, ap length found_ring) }

  -- and it ends below each number that all ring words are below
  pub found_end : (start : ℕ) → start ≡ ring_total (each rings_of before) → (s : Range ℕ) → SpanIn (rings_of c) face s
      → (n : ℕ) → ring_total (each rings_of cs) < n → start + s.end < n
  found_end start passed s q n few =
      omega (
        arith,
        passed,
        q.start,
        q.end,
        span_within (rings_of c) face within,
        ap ring_total rings_are,
        total_append (each rings_of before) (rings_of c ++ each rings_of behind),
        total_append (rings_of c) (each rings_of behind),
        few,
      )

-- ---- the cell found

module _ (cs : Cells) (f : ℕ) (p : Place) (c : CellFound cs f p) where
  -- the ring words up to the cell's end are few
  words_few : ring_total (each rings_of (c.before ++ cell_raw p.cell ∷ [])) < 4294967296
  words_few =
      let passed : Finding (cells_rest cs) f (cell_raw p.cell ∷ c.behind) p.number p.from p.face p.start = record { seen = c.before; parts = c.parts; face_left = c.face; passed = c.start; counted = c.number; behind_words = c.from; small = c.small } in
      let w = walk_bounds passed (cell_raw p.cell) refl in
      let here = rings_of (cell_raw p.cell) in
      omega (
        arith,
        ap ring_total (each_append rings_of c.before (cell_raw p.cell ∷ [])),
        total_append (each rings_of c.before) (here ++ []),
        total_append here [],
        c.start,
        w.0,
        w.1,
        c.small,
        cs.few,
        cs.small,
        rings_total (kind_number p.cell.kind) p.cell.words.now p.cell.well,
      )

  -- so a 32-bit number can say where the face's ring ends
  pub found_fits : (s : Range ℕ) → SpanIn (rings_of (cell_raw p.cell)) p.face s → (s.start ≤ s.end) × (p.start + s.end < 4294967296)
  found_fits s q = (omega (arith, q.end), found_end c.before [] (cell_raw p.cell) refl c.face c.within p.start c.start s q 4294967296 words_few)
