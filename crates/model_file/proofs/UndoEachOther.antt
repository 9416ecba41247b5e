-- Demand 2: 'reading and writing a model file undo each other'. The four theorems stand last.
use Prim.Native.Nat.{ℕ, ◌*◌, ◌/◌, ◌%◌, ◌≤◌}
use mathlib.Core.Path.{◌≡◌, refl, sym, ap, ◌∙◌}
use mathlib.Core.Bool.{false, not, ◌||◌}
use mathlib.Core.List.{List, [], ◌∷◌, ◌++◌, append-nil, append_assoc}
use native.Mathlib.Nat.{zero-add}
use native.Mathlib.Omega.{arith}
use lib.Dec.{eqb, ltb}
use lib.ListN.{length, length-append}
use lib.Ieee.{Float}
use borrow.Author.Tests.{eq-eqb, ne_eqb, le-ltb, eqb-true, not-false}
use Rattle.laws.specs.Refusals.{refusal}
use Rattle.laws.specs.Limits.{record_limit}
use Rattle.std.proofs.lemmas.Bool.{or_parts}
use Rattle.mesh.specs.Model.{Model, cells_of}
use Rattle.mesh.specs.Acceptance.{model_refusal}
use Rattle.model_file.specs.Records.{last_record, float_at, byte1, cap_in}
use Rattle.model_file.specs.File.{node_records, records_of, records, last_of, coords_of, kinds_of, words_of, ends_of, encode, decode, length_off, file_table}
use Rattle.model_file.specs.Steps.{join, cells, judge}
use Rattle.laws.specs.Lists.{All}
use Rattle.model_file.specs.Held.{Byte, Held}
use Rattle.model_file.specs.declared.Stage.TheVariants.{Nodes}
use Rattle.laws.proofs.Holding.{all_append}
use Rattle.model_file.proofs.Layouts.{Real, last_cap, last_tolerance, last_back}
use Rattle.model_file.proofs.Chop.{Whole, chop_whole, chop_bytes, join_chop, records_join, length_join, last_snoc, all_last, nodes_whole, nodes_few, cells_whole, cells_few}
use Rattle.model_file.proofs.Encoded.{NodesRead, nodes_read, CellsRead, cells_read}
use Rattle.model_file.proofs.Decoded.{start}
use Rattle.model_file.proofs.Accepting.{Accepted, accepted, row_none}

-- ---- from a model

module _ (m : Model) where
  -- T, the cells' records, and all records
  abbrev last_record_lem : List ℕ
  last_record_lem = last_record m.flags m.cap m.tolerance

  abbrev cells_of_lem : List (List ℕ)
  cells_of_lem = cells 0 m.kinds m.ends m.words

  abbrev all_records : List (List ℕ)
  all_records = node_records m.coords ++ (cells_of_lem ++ (last_record_lem ∷ []))

  -- the file's bytes are all records
  encode_is : encode m ≡ join all_records
  unfolding encode records_of cells_of
  encode_is = refl

  whole : All Whole all_records
  whole =
      all_append Whole (node_records m.coords) _ (nodes_whole m.coords)
      (all_append Whole cells_of_lem (last_record_lem ∷ []) (cells_whole 0 m.kinds m.ends m.words) (refl, tt))

  -- the records of the file's bytes are all records
  records_are : records (encode m) ≡ all_records
  records_are = ap records encode_is ∙ records_join all_records whole

module _ (m : Model) (held : Held m) (ok : Accepted m) where
  few : (1 ≤ length (all_records m)) × (length (all_records m) ≤ 131072)
  few =
      let n = nodes_few m.coords in
      let c = cells_few 0 m.kinds m.ends m.words in
      let a = ok.few in
      let b = ok.shape.cells in
      let d = ok.shape.words in
      let l = length-append (node_records m.coords) (cells_of_lem m ++ (last_record_lem m ∷ [])) in
      let k = length-append (cells_of_lem m) (last_record_lem m ∷ []) in
      (omega arith, omega arith)

  nodes_are : NodesRead m.coords (cells_of_lem m ++ (last_record_lem m ∷ []))
  nodes_are = nodes_read m.coords (cells_of_lem m ++ (last_record_lem m ∷ [])) ok.threes held.coords

  cells_are : CellsRead 0 m.kinds m.ends m.words (last_record_lem m)
  cells_are = cells_read m.flags m.cap m.tolerance 0 m.kinds m.ends m.words ok.shape.equal (rw zero-add ok.shape.order) ok.words

  -- neither the length nor a record is refused
  file_is : refusal (file_table (encode m)) ≡ 0
  file_is =
      let s = encode m in
      let l = ap length (encode_is m) ∙ length_join (all_records m) (whole m) in
      let f = few in
      let e0 : length s ≡ 0 → ⊥ = λ (e : length s ≡ 0). omega arith in
      let e1 : length s % 32 ≡ 0 = omega arith in
      let e2 : length s / 32 ≤ 131072 = omega arith in
      rw (ne_eqb (length s) 0 e0, eq-eqb (length s % 32) 0 e1, le-ltb 131072 (length s / 32) e2, records_are m)
      (nodes_are.judged ∙ cells_are.judged Nodes refl)

  model_back : decode (encode m) ≡ m
  unfolding decode
  model_back =
      let n = nodes_are in
      let c = cells_are in
      let l = ap last_of (sym (append_assoc (node_records m.coords) (cells_of_lem m) (last_record_lem m ∷ []))) ∙ last_snoc (node_records m.coords ++ cells_of_lem m) (last_record_lem m) in
      rw (records_are m)
      (λ i.
      record {
        coords = (n.coords ∙ ap (λ (t : List Float). m.coords ++ t) c.coords ∙ append-nil m.coords) i;
        kinds = (n.kinds ∙ c.kinds) i;
        ends = (n.ends ∙ c.ends false) i;
        words = (n.words ∙ c.words) i;
        tolerance = (ap (float_at 8) l ∙ last_tolerance m.flags m.cap m.tolerance held.tolerance) i;
        flags = ap byte1 l i;
        cap = (ap cap_in l ∙ last_cap m.flags m.cap m.tolerance held.cap) i;
      })

-- ---- from bytes

-- a right length is one of whole records
length_whole : (n : ℕ) → length_off n ≡ false → n ≡ 32 * (n / 32)
length_whole n h =
    let p = or_parts (eqb n 0 || not (eqb (n % 32) 0)) (ltb record_limit (n / 32)) h in
    let q = or_parts (eqb n 0) (not (eqb (n % 32) 0)) p.0 in
    let m = eqb-true (n % 32) 0 (not-false (eqb (n % 32) 0) q.1) in
    omega arith

-- all that it takes of the model is that no coordinate and no tolerance is a NaN
bytes_back : (s : List ℕ) → All Byte s → refusal (file_table s) ≡ 0 → All Real (decode s).coords → Real (decode s).tolerance → encode (decode s) ≡ s
unfolding decode
bytes_back s b j h k =
    let rs = records s in
    let p = row_none 1 (length_off (length s)) (judge Nodes rs) (λ e. omega arith) j in
    let n = length_whole (length s) p.0 in
    let w = chop_whole (length s / 32) s n in
    let e = chop_bytes (length s / 32) s b in
    let i = start rs w e h p.1 in
    let t = last_back (last_of rs) (all_last Whole rs i.some w) (all_last (All Byte) rs i.some e) i.last_letter i.last_good k in
    encode_is (decode s)
    ∙ ap (λ (r : List ℕ). join (node_records (coords_of rs) ++ (cells 0 (kinds_of rs) (ends_of false 0 rs) (words_of rs) ++ (r ∷ [])))) t
    ∙ ap join i.back
    ∙ join_chop (length s / 32) s n

-- ---- the theorems

-- What writing writes of an accepted model is a file: reading refuses it by none of 1 to 3.
pub written_is_file : (m : Model) → Held m → model_refusal m ≡ 0 → refusal (file_table (encode m)) ≡ 0
written_is_file m held a = file_is m held (accepted m a)

-- Reading undoes writing.
pub reading_undoes_writing : (m : Model) → Held m → model_refusal m ≡ 0 → decode (encode m) ≡ m
reading_undoes_writing m held a = model_back m held (accepted m a)

-- Writing undoes reading, where the model read is accepted.
pub writing_undoes_reading : (s : List ℕ) → All Byte s → refusal (file_table s) ≡ 0 → model_refusal (decode s) ≡ 0 → encode (decode s) ≡ s
writing_undoes_reading s b j a = bytes_back s b j (accepted (decode s) a).coords (accepted (decode s) a).tolerance

-- Two different accepted models never have the same bytes.
pub different_bytes : (m n : Model) → Held m → Held n → model_refusal m ≡ 0 → model_refusal n ≡ 0 → encode m ≡ encode n → m ≡ n
different_bytes m n hm hn am an e = sym (reading_undoes_writing m hm am) ∙ ap decode e ∙ reading_undoes_writing n hn an
