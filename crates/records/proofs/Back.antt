-- The fields of a record are read back; a kind as four bytes.
use Prim.Native.Nat.{ℕ, zero, suc, ◌*◌, ◌/◌, ◌%◌, ◌≤◌, ◌<◌, ◌+◌}
use mathlib.Core.Path.{◌≡◌, sym, ap, ◌∙◌}
use mathlib.Core.List.{List, [], ◌∷◌, ◌++◌}
use native.Mathlib.Nat.{add-zero}
use native.Mathlib.Omega.{arith}
use lib.ListN.{get_or, take, drop, replicate}
use lib.Seq.{drop-drop, get_or-drop, take-take}
use Rattle.std.specs.Simd.{first_chunks}
use Rattle.std.proofs.lemmas.List.{get_or-take}
use Rattle.laws.specs.Bytes.{number, bytes}
use Rattle.laws.proofs.ByteLaws.{number_bytes}
use Rattle.laws.proofs.Stores.{slice-region}
use Rattle.geometry.specs.declared.Point.{Point}
use Rattle.findings.specs.Records.{Fields, record_bytes}
use Rattle.findings.specs.Demand3.{Below}
use Rattle.records.specs.Read.{word, fields_in}

-- a number below 256 as four bytes: itself and three zeros
pub one_of_four : (k : ℕ) → k < 256 → bytes 4 k ≡ k ∷ replicate 3 0
one_of_four k h =
    let a : k % 256 ≡ k = omega arith in
    let b : k / 256 % 256 ≡ 0 = omega arith in
    let d : k / 256 / 256 % 256 ≡ 0 = omega arith in
    let e : k / 256 / 256 / 256 % 256 ≡ 0 = omega arith in
    λ i. a i ∷ b i ∷ d i ∷ e i ∷ []

-- a word of what stands from a place on
word_from : (s : List ℕ) (at k : ℕ) → word s (at + k) ≡ word (drop at s) k
word_from s at k = ap number (slice-region (at + k) 4 s ∙ ap (take 4) (sym (drop-drop k at s)) ∙ sym (slice-region k 4 (drop at s)))

-- the fields read at a place are those of what stands from there on
fields_from : (s : List ℕ) (at : ℕ) → fields_in s at ≡ fields_in (drop at s) 0
unfolding fields_in
fields_from s at =
    let k : get_or s at 0 ≡ get_or (drop at s) 0 0 = ap (λ (i : ℕ). get_or s i 0) (sym (add-zero at)) ∙ sym (get_or-drop at s 0 0) in
    λ i. record { kind = k i; first = word_from s at 4 i; second = word_from s at 8 i; a = word_from s at 12 i; b = word_from s at 16 i; count = word_from s at 20 i }

-- 64 bytes have the fields that stand in front
word_taken : (s : List ℕ) (k : ℕ) → k + 4 ≤ 64 → word (take 64 s) k ≡ word s k
word_taken s k h = ap (λ (l : List ℕ). number (drop k l)) (take-take (k + 4) 64 s h)

fields_taken : (s : List ℕ) → fields_in (take 64 s) 0 ≡ fields_in s 0
unfolding fields_in
fields_taken s =
    λ i. record { kind = get_or-take 64 s 0 0 (omega arith) i; first = word_taken s 4 (omega arith) i; second = word_taken s 8 (omega arith) i; a = word_taken s 12 (omega arith) i; b = word_taken s 16 (omega arith) i; count = word_taken s 20 (omega arith) i }

-- the fields of one of k records are those at its place
pub fields_chunk : (k i : ℕ) (s : List ℕ) → i < k → fields_in (get_or (first_chunks 64 k s) i []) 0 ≡ fields_in s (64 * i)
fields_chunk zero i s h = absurd (omega arith)
fields_chunk (suc k) zero s h = fields_taken s
fields_chunk (suc k) (suc i) s h =
    let n : 64 + 64 * i ≡ 64 * suc i = omega arith in
    fields_chunk k i (drop 64 s) (omega arith)
    ∙ fields_from (drop 64 s) (64 * i)
    ∙ ap (λ (l : List ℕ). fields_in l 0) (drop-drop (64 * i) 64 s ∙ ap (λ (m : ℕ). drop m s) n)
    ∙ sym (fields_from s (64 * suc i))

-- a record's bytes in front give its fields
fields_front : (rest : List ℕ) (f : Fields) (p : Point) → Below 4294967296 f → fields_in (record_bytes f p ++ rest) 0 ≡ f
unfolding fields_in record_bytes
fields_front rest f p h =
    λ i. record { kind = f.kind; first = number_bytes 4 f.first h.0 i; second = number_bytes 4 f.second h.1 i; a = number_bytes 4 f.a h.2 i; b = number_bytes 4 f.b h.3 i; count = number_bytes 4 f.count h.4 i }

-- the fields read where a record's bytes stand are those it was written from
pub fields_back : (s rest : List ℕ) (at : ℕ) (f : Fields) (p : Point) → drop at s ≡ record_bytes f p ++ rest → Below 4294967296 f → fields_in s at ≡ f
fields_back s rest at f p e h =
    fields_from s at ∙ ap (λ (l : List ℕ). fields_in l 0) e ∙ fields_front rest f p h
