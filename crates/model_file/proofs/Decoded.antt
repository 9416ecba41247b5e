-- What writing makes of what reading found in records that are not refused.
use Prim.Native.Nat.{ℕ, suc, ◌+◌, ◌-◌, ◌/◌, ◌≤◌}
use mathlib.Core.Path.{◌≡◌, refl, sym, ap, ap₂, ◌∙◌, subst}
use mathlib.Core.Logic.{◌⊎◌, inl, inr}
use mathlib.Core.List.{List, [], ◌∷◌, ◌++◌, append_assoc, append-nil}
use mathlib.Core.Bool.{Bool, true, false, cond, ◌&&◌}
use native.Mathlib.Nat.{add-zero}
use native.Mathlib.Omega.{arith}
use Rattle.std.specs.Prelude.{Option, Some, None}
use lib.ListN.{length, take, drop, length-append, drop_of_length-le}
use lib.Seq.{take_at, drop_at, take_all}
use lib.Dec.{eqb}
use borrow.Author.Tests.{eqb-true, not-false}
use Rattle.laws.proofs.Tests.{clash}
use Rattle.std.proofs.lemmas.Bool.{and_parts}
use Rattle.mesh.specs.Steps.{cell_with}
use Rattle.model_file.specs.Records.{words_at, word_record, cell_record, more_record, letter, byte1, count, coords_in, kinds_in, words_in, ends_in, stage, in_nodes, after_full, ended, words_right, record_off}
use Rattle.model_file.specs.Steps.{cells, judge}
use Rattle.laws.specs.Lists.{All}
use Rattle.model_file.specs.Held.{Byte}
use Rattle.model_file.specs.File.{node_records, more_records, cell_records, coords_of, kinds_of, words_of, ends_of, opens, last_of}
use Rattle.model_file.specs.declared.Letter.{Letter}
use Rattle.model_file.specs.declared.Letter.TheVariants.{Node, Cell, More, Last}
use Rattle.model_file.specs.declared.Stage.{Stage}
use Rattle.model_file.specs.declared.Stage.TheVariants.{Nodes, Cells, Full}
use Rattle.laws.proofs.Holding.{all_left, all_right}
use Rattle.model_file.proofs.Fields.{length-words_at}
use Rattle.model_file.proofs.Layouts.{Real, marked, node_back, word_back}
use Rattle.model_file.proofs.Judgement.{passed, after_last, none_left, word_count, stage_open, stage_cells}
use Rattle.model_file.proofs.Chop.{Whole}

-- the last record stays the last
last_cons : (r : List ℕ) (rs : List (List ℕ)) → 1 ≤ length rs → last_of (r ∷ rs) ≡ last_of rs
last_cons r [] h = absurd (omega arith)
last_cons r (q ∷ rs) h = refl

-- ---- a cell's words, cut into records

-- what stands first is a full record, or all of the cell
abbrev pub Cut : List ℕ → List ℕ → Type 0
Cut ws here = (length ws ≡ 14) ⊎ (here ≡ [])

-- what stands first, and what follows it
cut_take : (ws here : List ℕ) → length ws ≤ 14 → Cut ws here → take 14 (ws ++ here) ≡ ws
cut_take ws here h (inl e) = take_at ws here 14 e
cut_take ws here h (inr e) = rw (e, append-nil) (take_all 14 ws h)

cut_drop : (ws here : List ℕ) → length ws ≤ 14 → Cut ws here → drop 14 (ws ++ here) ≡ here
cut_drop ws here h (inl e) = drop_at ws here 14 e
cut_drop ws here h (inr e) = rw (e, append-nil) (drop_of_length-le ws h)

-- a cut by lengths
cut_length : (ws here : List ℕ) → Cut ws here → (length ws ≡ 14) ⊎ (length here ≡ 0)
cut_length ws here (inl e) = inl e
cut_length ws here (inr e) = inr (ap length e)

-- a cell is its C and the records of the rest
pub cell_join : (k : ℕ) (ws here : List ℕ) → length ws ≤ 14 → Cut ws here → cell_records (cell_with k (ws ++ here)) ≡ cell_record k ws ∷ more_records ((length here + 13) / 14) here
cell_join k ws here h c =
    let l = length-append ws here in
    let n : (length (ws ++ here) - 1) / 14 ≡ (length here + 13) / 14 = go l (cut_length ws here c) in
    ap₂ (λ (a : List ℕ) (b : List (List ℕ)). cell_record k a ∷ b) (cut_take ws here h c) (ap₂ more_records n (cut_drop ws here h c))
  where
    go : length (ws ++ here) ≡ length ws + length here → (length ws ≡ 14) ⊎ (length here ≡ 0) → (length (ws ++ here) - 1) / 14 ≡ (length here + 13) / 14
    go l (inl e) = omega arith
    go l (inr e) = omega arith

-- words left are a K and the records of the rest
pub more_join : (ws here : List ℕ) → 1 ≤ length ws → length ws ≤ 14 → Cut ws here → more_records ((length (ws ++ here) + 13) / 14) (ws ++ here) ≡ more_record ws ∷ more_records ((length here + 13) / 14) here
more_join ws here g h c =
    let n = go (length-append ws here) (cut_length ws here c) in
    rw n (ap₂ (λ (a : List ℕ) (b : List (List ℕ)). more_record a ∷ b) (cut_take ws here h c) (ap (more_records ((length here + 13) / 14)) (cut_drop ws here h c)))
  where
    go : length (ws ++ here) ≡ length ws + length here → (length ws ≡ 14) ⊎ (length here ≡ 0) → (length (ws ++ here) + 13) / 14 ≡ suc ((length here + 13) / 14)
    go l (inl e) = omega arith
    go l (inr e) = omega arith

-- ---- from within a cell on

-- what is read from there on is written back
pub record InCell (at : ℕ) (s : Stage) (rs : List (List ℕ)) : Type 0 where
  -- the open cell's further words, those of the cells behind it, and those cells' ends
  pub here : List ℕ
  pub later : List ℕ
  pub ends : List ℕ
  pub some : 1 ≤ length rs
  pub no_coords : coords_of rs ≡ []
  pub words_are : words_of rs ≡ here ++ later
  pub ends_are_lem : ends_of true at rs ≡ (at + length here) ∷ ends
  pub cut : (after_full s ≡ true) ⊎ (here ≡ [])
  pub last_letter : letter (last_of rs) ≡ Some Last
  pub last_good : record_off (Some Last) (last_of rs) ≡ false
  pub back : more_records ((length here + 13) / 14) here ++ (cells (at + length here) (kinds_of rs) ends later ++ (last_of rs ∷ [])) ≡ rs

-- the stage after a record says how its words are cut
stage_cut : (r ws here : List ℕ) → length ws ≡ count r → (after_full (cond (eqb (count r) 14) Full Cells) ≡ true) ⊎ (here ≡ []) → Cut ws here
stage_cut r ws here l (inl e) = inl (l ∙ go (eqb (count r) 14) refl e)
  where
    go : (b : Bool) → eqb (count r) 14 ≡ b → after_full (cond b Full Cells) ≡ true → count r ≡ 14
    go true q k = eqb-true (count r) 14 q
    go false q k = clash k refl
stage_cut r ws here l (inr e) = inr e

-- the first of the cells
cells_cons : (at e k : ℕ) (ks es fr bk : List ℕ) → e ≡ at + length fr → cells at (k ∷ ks) (e ∷ es) (fr ++ bk) ≡ cell_records (cell_with k fr) ++ cells e ks es bk
cells_cons at e k ks es fr bk h =
    let n : length fr ≡ e - at = omega arith in
    ap₂ (λ (a b : List ℕ). cell_records (cell_with k a) ++ cells e ks es b) (take_at fr bk (e - at) n) (drop_at fr bk (e - at) n)

-- the cells from a record C on
from_cell : (r : List ℕ) (rs : List (List ℕ)) (ws : List ℕ) (at : ℕ) → length r ≡ 32 → All Byte r → ws ≡ words_at (count r) (drop 4 r) → letter r ≡ Some Cell → record_off (Some Cell) r ≡ false
    → (i : InCell (at + length ws) (stage (Some Cell) r) rs)
    → cells at (byte1 r ∷ kinds_of rs) ((at + length ws + length i.here) ∷ i.ends) (ws ++ (i.here ++ i.later)) ++ (last_of rs ∷ []) ≡ r ∷ rs
from_cell r rs ws at long each w e g i =
    let l : length ws ≡ count r = ap length w ∙ length-words_at (count r) (drop 4 r) in
    let good = not-false (words_right 0 r) g in
    let n = word_count 0 r good in
    let end = at + length ws + length i.here in
    let rest = cells end (kinds_of rs) i.ends i.later in
    let ms = more_records ((length i.here + 13) / 14) i.here in
    let h : end ≡ at + length (ws ++ i.here) = omega (arith, length-append ws i.here) in
    let c : cell_records (cell_with (byte1 r) (ws ++ i.here)) ≡ r ∷ ms = cell_join (byte1 r) ws i.here (omega arith) (stage_cut r ws i.here l i.cut) ∙ ap (λ (a : List ℕ). a ∷ ms) (ap (cell_record (byte1 r)) w ∙ word_back r long each 67 0 (marked r (Some Cell) e) good) in
    ap (λ (a : List ℕ). cells at (byte1 r ∷ kinds_of rs) (end ∷ i.ends) a ++ (last_of rs ∷ [])) (sym (append_assoc ws i.here i.later))
    ∙ ap (λ (a : List (List ℕ)). a ++ (last_of rs ∷ [])) (cells_cons at end (byte1 r) (kinds_of rs) i.ends (ws ++ i.here) i.later h ∙ ap (λ (a : List (List ℕ)). a ++ rest) c)
    ∙ ap (λ (a : List (List ℕ)). r ∷ a) (append_assoc ms rest (last_of rs ∷ []) ∙ i.back)

-- what the first record adds, by its letter
module _ (r : List ℕ) (rs : List (List ℕ)) (l : Option Letter) (e : letter r ≡ l) where
  pub coords_step : coords_of (r ∷ rs) ≡ coords_in l r ++ coords_of rs
  coords_step = ap (λ (k : Option Letter). coords_in k r ++ coords_of rs) e

  pub kinds_step : kinds_of (r ∷ rs) ≡ kinds_in l r ++ kinds_of rs
  kinds_step = ap (λ (k : Option Letter). kinds_in k r ++ kinds_of rs) e

  pub words_step : words_of (r ∷ rs) ≡ words_in l r ++ words_of rs
  words_step = ap (λ (k : Option Letter). words_in k r ++ words_of rs) e

  pub ends_step : (b : Bool) (at : ℕ) → ends_of b at (r ∷ rs) ≡ ends_in l b at ++ ends_of (opens l b) (at + length (words_in l r)) rs
  ends_step b at = ap (λ (k : Option Letter). ends_in k b at ++ ends_of (opens k b) (at + length (words_in k r)) rs) e

-- T ends the cell
in_last : (at : ℕ) (s : Stage) (r : List ℕ) (rs : List (List ℕ)) → letter r ≡ Some Last → record_off (Some Last) r ≡ false → rs ≡ [] → InCell at s (r ∷ rs)
in_last at s r [] e g n =
    record {
      here = [];
      later = [];
      ends = [];
      some = omega arith;
      no_coords = coords_step r [] (Some Last) e;
      words_are = words_step r [] (Some Last) e;
      ends_are_lem = ends_step r [] (Some Last) e true at ∙ ap (λ (m : ℕ). m ∷ []) (sym (add-zero at));
      cut = inr refl;
      last_letter = e;
      last_good = g;
      back = ap (λ (ks : List ℕ). cells (at + 0) ks [] [] ++ (r ∷ [])) (kinds_step r [] (Some Last) e);
    }
in_last at s r (q ∷ rs) e g n = absurd (let z = ap length n in omega arith)

-- a C ends the cell and begins the next
in_cell : (at : ℕ) (s : Stage) (r : List ℕ) (rs : List (List ℕ)) → length r ≡ 32 → All Byte r → letter r ≡ Some Cell → record_off (Some Cell) r ≡ false
    → InCell (at + length (words_at (count r) (drop 4 r))) (stage (Some Cell) r) rs → InCell at s (r ∷ rs)
in_cell at s r rs long each e g i =
    let ws = words_at (count r) (drop 4 r) in
    let t = last_cons r rs i.some in
    let later : List ℕ = ws ++ (i.here ++ i.later) in
    let ends : List ℕ = (at + length ws + length i.here) ∷ i.ends in
    record {
      here = [];
      later = later;
      ends = ends;
      some = omega arith;
      no_coords = coords_step r rs (Some Cell) e ∙ i.no_coords;
      words_are = words_step r rs (Some Cell) e ∙ ap (λ (a : List ℕ). ws ++ a) i.words_are;
      ends_are_lem = ends_step r rs (Some Cell) e true at ∙ ap₂ (λ (m : ℕ) (a : List ℕ). m ∷ a) (sym (add-zero at)) i.ends_are_lem;
      cut = inr refl;
      last_letter = ap letter t ∙ i.last_letter;
      last_good = ap (record_off (Some Last)) t ∙ i.last_good;
      back = (λ k. cells (add-zero at k) (kinds_step r rs (Some Cell) e k) ends later ++ (t k ∷ [])) ∙ from_cell r rs ws at long each refl e g i;
    }

-- a K goes on
in_more : (at : ℕ) (s : Stage) (r : List ℕ) (rs : List (List ℕ)) → length r ≡ 32 → All Byte r → letter r ≡ Some More → record_off (Some More) r ≡ false → after_full s ≡ true
    → InCell (at + length (words_at (count r) (drop 4 r))) (stage (Some More) r) rs → InCell at s (r ∷ rs)
in_more at s r rs long each e g full i =
    let ws = words_at (count r) (drop 4 r) in
    let z = and_parts (eqb (byte1 r) 0) (words_right 1 r) (not-false (eqb (byte1 r) 0 && words_right 1 r) g) in
    let n = word_count 1 r z.1 in
    let l : length ws ≡ count r = length-words_at (count r) (drop 4 r) in
    let t = last_cons r rs i.some in
    let here : List ℕ = ws ++ i.here in
    let ms = more_records ((length i.here + 13) / 14) i.here in
    let q : at + length ws + length i.here ≡ at + length (ws ++ i.here) = omega (arith, length-append ws i.here) in
    let m : more_record ws ≡ r = ap (λ (k : ℕ). word_record 75 k ws) (sym (eqb-true (byte1 r) 0 z.0)) ∙ word_back r long each 75 1 (marked r (Some More) e) z.1 in
    record {
      here = here;
      later = i.later;
      ends = i.ends;
      some = omega arith;
      no_coords = coords_step r rs (Some More) e ∙ i.no_coords;
      words_are = words_step r rs (Some More) e ∙ ap (λ (a : List ℕ). ws ++ a) i.words_are ∙ sym (append_assoc ws i.here i.later);
      ends_are_lem = ends_step r rs (Some More) e true at ∙ i.ends_are_lem ∙ ap (λ (x : ℕ). x ∷ i.ends) q;
      cut = inl full;
      last_letter = ap letter t ∙ i.last_letter;
      last_good = ap (record_off (Some Last)) t ∙ i.last_good;
      back =
          (λ k. more_records ((length here + 13) / 14) here ++ (cells (sym q k) (kinds_step r rs (Some More) e k) i.ends i.later ++ (t k ∷ [])))
          ∙ ap (λ (a : List (List ℕ)). a ++ (cells (at + length ws + length i.here) (kinds_of rs) i.ends i.later ++ (last_of rs ∷ []))) (more_join ws i.here (omega arith) (omega arith) (stage_cut r ws i.here l i.cut) ∙ ap (λ (a : List ℕ). a ∷ ms) m)
          ∙ ap (λ (a : List (List ℕ)). r ∷ a) i.back;
    }

-- whatever follows
pub in_cells : (rs : List (List ℕ)) (at : ℕ) (s : Stage) → All Whole rs → All (All Byte) rs → in_nodes s ≡ false → ended s ≡ false → judge s rs ≡ 0 → InCell at s rs
in_cells [] at s w b p o j = absurd (none_left s o j)
in_cells (r ∷ rs) at s w b p o j = go (letter r) refl (λ n t q u k. in_cells rs n t w.1 b.1 q u k)
  where
    go : (l : Option Letter) → letter r ≡ l → ((n : ℕ) (t : Stage) → in_nodes t ≡ false → ended t ≡ false → judge t rs ≡ 0 → InCell n t rs) → InCell at s (r ∷ rs)
    go (Some Node) e ih = clash (not-false (in_nodes s) (passed s r rs (Some Node) e j).place) p
    go None e ih = clash refl (passed s r rs None e j).place
    go (Some Last) e ih = let h = passed s r rs (Some Last) e j in in_last at s r rs e h.good (after_last rs h.rest)
    go (Some Cell) e ih = let h = passed s r rs (Some Cell) e j in in_cell at s r rs w.0 b.0 e h.good (ih _ (stage (Some Cell) r) (stage_cells (count r)) (stage_open (count r)) h.rest)
    go (Some More) e ih = let h = passed s r rs (Some More) e j in in_more at s r rs w.0 b.0 e h.good (not-false (after_full s) h.place) (ih _ (stage (Some More) r) (stage_cells (count r)) (stage_open (count r)) h.rest)

-- ---- from the start

-- what is read from the start is written back
pub record Start (rs : List (List ℕ)) : Type 0 where
  pub some : 1 ≤ length rs
  pub last_letter : letter (last_of rs) ≡ Some Last
  pub last_good : record_off (Some Last) (last_of rs) ≡ false
  pub back : node_records (coords_of rs) ++ (cells 0 (kinds_of rs) (ends_of false 0 rs) (words_of rs) ++ (last_of rs ∷ [])) ≡ rs

-- T alone
start_last : (r : List ℕ) (rs : List (List ℕ)) → letter r ≡ Some Last → record_off (Some Last) r ≡ false → rs ≡ [] → Start (r ∷ rs)
start_last r [] e g n =
    record {
      some = omega arith;
      last_letter = e;
      last_good = g;
      back = λ k. node_records (coords_step r [] (Some Last) e k) ++ (cells 0 (kinds_step r [] (Some Last) e k) (ends_step r [] (Some Last) e false 0 k) (words_step r [] (Some Last) e k) ++ (r ∷ []));
    }
start_last r (q ∷ rs) e g n = absurd (let z = ap length n in omega arith)

-- the first cell
start_cell : (r : List ℕ) (rs : List (List ℕ)) → length r ≡ 32 → All Byte r → letter r ≡ Some Cell → record_off (Some Cell) r ≡ false
    → InCell (0 + length (words_at (count r) (drop 4 r))) (stage (Some Cell) r) rs → Start (r ∷ rs)
start_cell r rs long each e g i =
    let ws = words_at (count r) (drop 4 r) in
    let t = last_cons r rs i.some in
    record {
      some = omega arith;
      last_letter = ap letter t ∙ i.last_letter;
      last_good = ap (record_off (Some Last)) t ∙ i.last_good;
      back =
          (λ k.
          node_records ((coords_step r rs (Some Cell) e ∙ i.no_coords) k)
          ++ (cells 0 (kinds_step r rs (Some Cell) e k) ((ends_step r rs (Some Cell) e false 0 ∙ i.ends_are_lem) k) ((words_step r rs (Some Cell) e ∙ ap (λ (a : List ℕ). ws ++ a) i.words_are) k) ++ (t k ∷ [])))
          ∙ from_cell r rs ws 0 long each refl e g i;
    }

-- a node
start_node : (r : List ℕ) (rs : List (List ℕ)) → length r ≡ 32 → All Byte r → letter r ≡ Some Node → record_off (Some Node) r ≡ false → All Real (coords_in (Some Node) r) → Start rs → Start (r ∷ rs)
start_node r rs long each e g h i =
    let t = last_cons r rs i.some in
    record {
      some = omega arith;
      last_letter = ap letter t ∙ i.last_letter;
      last_good = ap (record_off (Some Last)) t ∙ i.last_good;
      back =
          (λ k. node_records (coords_step r rs (Some Node) e k) ++ (cells 0 (kinds_step r rs (Some Node) e k) (ends_step r rs (Some Node) e false 0 k) (words_step r rs (Some Node) e k) ++ (t k ∷ [])))
          ∙ ap₂ (λ (a : List ℕ) (b : List (List ℕ)). a ∷ b) (node_back r long each e g h) i.back;
    }

-- whatever stands there
pub start : (rs : List (List ℕ)) → All Whole rs → All (All Byte) rs → All Real (coords_of rs) → judge Nodes rs ≡ 0 → Start rs
start [] w b h j = absurd (omega arith)
start (r ∷ rs) w b h j = go (letter r) refl (λ x k. start rs w.1 b.1 x k)
  where
    go : (l : Option Letter) → letter r ≡ l → (All Real (coords_of rs) → judge Nodes rs ≡ 0 → Start rs) → Start (r ∷ rs)
    go (Some Node) e ih =
        let p = passed Nodes r rs (Some Node) e j in
        let a : All Real (coords_in (Some Node) r ++ coords_of rs) = subst (All Real) (coords_step r rs (Some Node) e) h in
        start_node r rs w.0 b.0 e p.good (all_left Real (coords_in (Some Node) r) (coords_of rs) a) (ih (all_right Real (coords_in (Some Node) r) (coords_of rs) a) p.rest)
    go None e ih = clash refl (passed Nodes r rs None e j).place
    go (Some More) e ih = clash refl (passed Nodes r rs (Some More) e j).place
    go (Some Last) e ih = let p = passed Nodes r rs (Some Last) e j in start_last r rs e p.good (after_last rs p.rest)
    go (Some Cell) e ih = let p = passed Nodes r rs (Some Cell) e j in start_cell r rs w.0 b.0 e p.good (in_cells rs _ (stage (Some Cell) r) w.1 b.1 (stage_cells (count r)) (stage_open (count r)) p.rest)
