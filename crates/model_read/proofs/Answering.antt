-- What reading answers, from what the passes find.
use Prim.Native.Nat.{ℕ, zero, suc, ◌-◌, ◌/◌, ◌%◌, ◌≤◌, ◌<◌}
use mathlib.Core.Path.{◌≡◌, refl, sym, ap, ◌∙◌}
use mathlib.Core.Logic.{◌≢◌}
use mathlib.Core.Bool.{Bool, true, false, not, cond, ◌||◌}
use mathlib.Core.List.{List, [], ◌∷◌, ◌++◌}
use native.Mathlib.Nat.{zero-add}
use native.Mathlib.Omega.{arith}
use lib.Dec.{eqb, ltb}
use lib.ListN.{length, get_or, take, drop}
use Rattle.std.specs.Simd.{first_chunks}
use lib.Seq.{sets, sets-eq}
use lib.Ieee.{Float}
use borrow.Author.Tests.{eqb-true, eqb-false, ltb-false, not-false}
use Rattle.laws.specs.Limits.{record_limit}
use Rattle.laws.specs.Lists.{All}
use Rattle.laws.specs.Refusals.{filled}
use Rattle.laws.proofs.Tables.{refusal_first, refusal_second, unfilled}
use Rattle.model_file.proofs.Judgement.{records_numbered}
use Rattle.model_file.proofs.Counts.{ends_as_cells}
use Rattle.std.proofs.lemmas.Bool.{or_parts}
use Rattle.model_file.specs.Records.{float_at, byte1, cap_in}
use Rattle.model_file.specs.File.{chop, records, last_of, coords_of, kinds_of, words_of, ends_of, decode, length_off, records_table}
use Rattle.model_file.specs.Held.{Byte}
use Rattle.model_file.specs.Reading.{room_off, read_refusal, found_in, Reading}
use Rattle.model_file.specs.Steps.{judge}
use Rattle.model_file.specs.declared.Found.{Found}
use Rattle.model_file.specs.declared.Stage.TheVariants.{Nodes}
use Rattle.std.specs.Prelude.{Ok, Err}
use Rattle.refusals.specs.Told.{number}
use Rattle.refusals.specs.declared.Refusal.{Refusal}
use Rattle.refusals.proofs.Told.{number-positive, ok_told, err_told}
use Rattle.model_read.specs.Steps.{short, Counted, Fitting, Filled, found_at}
use Rattle.model_read.specs.declared.Place.{Place}

-- the last record, by its place
last_at : (rs : List (List ℕ)) (r : List ℕ) → last_of (r ∷ rs) ≡ get_or (r ∷ rs) (length rs) []
last_at [] r = refl
last_at (q ∷ rs) r = last_at rs q

pub last_stands : (rs : List (List ℕ)) → 0 < length rs → last_of rs ≡ get_or rs (length rs - 1) []
last_stands [] h = absurd (omega arith)
last_stands (r ∷ rs) h = let n : length rs ≡ length (r ∷ rs) - 1 = omega arith in last_at rs r ∙ ap (λ (k : ℕ). get_or (r ∷ rs) k []) n

-- what is found besides the lists
pub found_is_lem : (s r : List ℕ) (p : Place) → r ≡ last_of (records s) → p.coords ≡ length (coords_of (records s)) → p.cells ≡ length (kinds_of (records s)) → p.words ≡ length (words_of (records s)) → found_at r p ≡ found_in (decode s)
unfolding decode
found_is_lem s r p e a b c = λ i. record { nodes = a i / 3; cells = b i; words = c i; tolerance = float_at 8 (e i); checks = record { 0 = byte1 (e i) }; cap = cap_in (e i) }

-- ---- the length

-- a right length is one of whole records, not too many
pub record Whole (s : List ℕ) : Type 0 where
  pub some : length s ≢ 0
  pub whole : length s % 32 ≡ 0
  pub few : length s / 32 ≤ 131072

-- the library cuts bytes into records as the definition does
pub chopped : (n : ℕ) (s : List ℕ) → first_chunks 32 n s ≡ chop n s
chopped zero s = refl
chopped (suc n) s = ap (λ (rs : List (List ℕ)). take 32 s ∷ rs) (chopped n (drop 32 s))

-- so many records
pub length-chop : (n : ℕ) (s : List ℕ) → length (chop n s) ≡ n
length-chop zero s = refl
length-chop (suc n) s = ap suc (length-chop n (drop 32 s))

pub length_whole : (s : List ℕ) → length_off (length s) ≡ false → Whole s
length_whole s h =
    let n = length s in
    let p = or_parts (eqb n 0 || not (eqb (n % 32) 0)) (ltb record_limit (n / 32)) h in
    let q = or_parts (eqb n 0) (not (eqb (n % 32) 0)) p.0 in
    let m = eqb-true (n % 32) 0 (not-false (eqb (n % 32) 0) q.1) in
    record { some = eqb-false n 0 q.0; whole = m; few = ltb-false record_limit (n / 32) p.1 }

-- ---- refusals

module _ (s : List ℕ) (coords : List Float) (kinds ends words : List ℕ) where
  -- 4, the last row
  abbrev four : List (ℕ × Bool)
  four = (4, room_off (decode s) (length coords) (length kinds) (length ends) (length words)) ∷ []

  -- 2 and 3
  pub refused_records : length_off (length s) ≡ false → judge Nodes (records s) ≢ 0 → read_refusal s coords kinds ends words ≡ judge Nodes (records s)
  refused_records h z = rw h (refusal_first (records_table Nodes (records s)) four z)

  -- then 4
  then_four : length_off (length s) ≡ false → judge Nodes (records s) ≡ 0 → read_refusal s coords kinds ends words ≡ cond (room_off (decode s) (length coords) (length kinds) (length ends) (length words)) 4 0
  then_four h z = rw h (refusal_second (records_table Nodes (records s)) four (records_numbered Nodes (records s)) z)

  module _ (p : Place) (j : Counted (records s) p) where
    -- the room as the code judges it
    room_is : short p (length coords) (length kinds) (length ends) (length words) ≡ room_off (decode s) (length coords) (length kinds) (length ends) (length words)
    unfolding decode
    room_is =
        let n = ends_as_cells (records s) j.judged in
        (λ i. ltb (length coords) (j.coords i) || ltb (length kinds) (j.cells i) || ltb (length ends) ((j.cells ∙ sym n) i) || ltb (length words) (j.words i))

    module _ (h : length_off (length s) ≡ false) where
      pub refused_room : short p (length coords) (length kinds) (length ends) (length words) ≡ true → read_refusal s coords kinds ends words ≡ 4
      refused_room e = then_four h j.judged ∙ ap (λ (b : Bool). cond b 4 0) (sym room_is ∙ e)

      module _ (e : short p (length coords) (length kinds) (length ends) (length words) ≡ false) where
        pub refused_none : read_refusal s coords kinds ends words ≡ 0
        refused_none = then_four h j.judged ∙ ap (λ (b : Bool). cond b 4 0) (sym room_is ∙ e)

        -- the file fits
        pub fitting : Fitting (records s) (length coords) (length kinds) (length ends) (length words)
        fitting =
            let a = ltb (length coords) p.coords in
            let b = ltb (length kinds) p.cells in
            let c = ltb (length ends) p.cells in
            let q = or_parts (a || b || c) (ltb (length words) p.words) e in
            let r = or_parts (a || b) c q.0 in
            let v = or_parts a b r.0 in
            let w = length_whole s h in
            record {
              short = omega (arith, length-chop (length s / 32) s, w.few);
              judged_well = j.judged;
              coords_fit = omega (arith, j.coords, ltb-false (length coords) p.coords v.0);
              kinds_fit = omega (arith, j.cells, ltb-false (length kinds) p.cells v.1);
              ends_fit = omega (arith, j.cells, ltb-false (length ends) p.cells r.1);
              words_fit = omega (arith, j.words, ltb-false (length words) p.words q.1);
            }

-- ---- the whole contract

-- a list whose front is filled
front_filled : {A : Type 0} (n : ℕ) (xs l l' : List A) → n ≡ 0 → length xs ≤ length l → l' ≡ sets l 0 xs → l' ≡ filled n xs l
front_filled n xs l l' h fit w =
    w ∙ sets-eq xs l 0 (omega arith) ∙ ap (λ (k : ℕ). xs ++ drop k l) (zero-add (length xs)) ∙ sym (ap (λ (k : ℕ). filled k xs l) h)

module _ (s : List ℕ) (coords : List Float) (kinds ends words : List ℕ) (b : All Byte s) where
  -- a refusal's number, and every list as it was
  pub reading_refused : (e : Refusal) → read_refusal s coords kinds ends words ≡ number e → Reading s coords coords kinds kinds ends ends words words (Err e)
  reading_refused e h =
      let m = read_refusal s coords kinds ends words in
      let p : number e ≢ 0 = λ z. omega (arith, number-positive e) in
      record {
        answered = err_told {A = Found} {B = Found} (λ a. a) e m (found_in (decode s)) (sym h);
        memory =
            record {
              coords_are = unfilled m (number e) (decode s).coords coords h p;
              kinds_are = unfilled m (number e) (decode s).kinds kinds h p;
              ends_are = unfilled m (number e) (decode s).ends ends h p;
              words_are = unfilled m (number e) (decode s).words words h p;
            };
        bytes = b;
      }

  -- what is found, and every list filled
  pub reading_done : (coords' : List Float) (kinds' ends' words' : List ℕ) (f : Found) → f ≡ found_in (decode s) → read_refusal s coords kinds ends words ≡ 0
      → Fitting (records s) (length coords) (length kinds) (length ends) (length words) → Filled (records s) coords coords' kinds kinds' ends ends' words words' → Reading s coords coords' kinds kinds' ends ends' words words' (Ok f)
  unfolding decode
  reading_done coords' kinds' ends' words' f q h ok g =
      let m = read_refusal s coords kinds ends words in
      let n = ends_as_cells (records s) ok.judged_well in
      record {
        answered = ok_told {A = Found} {B = Found} (λ a. a) f m (found_in (decode s)) h q;
        memory =
            record {
              coords_are = front_filled m (coords_of (records s)) coords coords' h ok.coords_fit g.coords_are;
              kinds_are = front_filled m (kinds_of (records s)) kinds kinds' h ok.kinds_fit g.kinds_are;
              ends_are = front_filled m (ends_of false 0 (records s)) ends ends' h (omega (arith, n, ok.ends_fit)) g.ends_are;
              words_are = front_filled m (words_of (records s)) words words' h ok.words_fit g.words_are;
            };
        bytes = b;
      }
