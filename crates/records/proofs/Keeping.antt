-- Findings kept: none, one, and some behind others, within the room.
use Prim.Native.Nat.{ℕ, zero, suc, ◌+◌, ◌-◌, ◌*◌, ◌/◌, ◌≤◌, ◌<◌}
use mathlib.Core.Path.{◌≡◌, refl, sym, ap, ap₂, ◌∙◌, subst}
use mathlib.Core.Logic.{◌⊎◌, inl, inr}
use mathlib.Core.List.{List, [], ◌∷◌, ◌++◌, append-nil}
use native.Mathlib.Omega.{arith}
use lib.ListN.{length, take, length-append}
use lib.Seq.{sets, take_all, take-nil, take-append-le, take-append-add, length-sets}
use Rattle.laws.specs.Lists.{each, up_from}
use Rattle.laws.proofs.ListLaws.{each_append, each_ext, up_from_snoc}
use Rattle.laws.proofs.Stores.{sets_append}
use Rattle.std.proofs.lemmas.Bool.{cases_lt}
use Rattle.geometry.specs.declared.Point.{Point}
use Rattle.findings.specs.Findings.{Rules, Finding}
use Rattle.findings.specs.Records.{fields_of, centre_in, record_bytes, record_of}
use Rattle.findings.proofs.Kept.{records_64}
use Rattle.records.specs.declared.Record.{Record}
use Rattle.records.specs.declared.Sink.{Sink}
use Rattle.records.specs.Keeping.{told, room_of, Kept}

-- the records of the first k
abbrev first_of : Rules → ℕ → List Finding → List ℕ
first_of R k xs = each (record_of R) (take k xs)

-- a finding is written where there is room, and not where there is none
one_in : (R : Rules) (room n : ℕ) (x : Finding) (r : Record) (centre : Point) (f f' : List ℕ) → n < room → fields_of x ≡ told r → centre_in R x ≡ centre
    → f' ≡ sets f (64 * n) (record_bytes (told r) centre) → f' ≡ sets f (64 * n) (first_of R (room - n) (x ∷ []))
unfolding record_of
one_in R room n x r centre f f' h e q p = p ∙ ap (sets f (64 * n)) (one (room - n) (omega (arith, h)))
  where
    one : (k : ℕ) → 0 < k → record_bytes (told r) centre ≡ each (record_of R) (take k (x ∷ []))
    one zero z = absurd (omega (arith, z))
    one (suc k) z = sym (ap (λ (l : List Finding). each (record_of R) (x ∷ l)) (take-nil k) ∙ simp (e, q) (append-nil (record_bytes (told r) centre)))

one_out : (R : Rules) (room n : ℕ) (x : Finding) (f : List ℕ) → room ≤ n → f ≡ sets f (64 * n) (first_of R (room - n) (x ∷ []))
one_out R room n x f h = let z : 0 ≡ room - n = omega (arith, h) in ap (λ (k : ℕ). sets f (64 * n) (first_of R k (x ∷ []))) z

-- xs are written behind n, and then ys
both_in : (R : Rules) (room n : ℕ) (xs ys : List Finding) (f : List ℕ) → sets (sets f (64 * n) (first_of R (room - n) xs)) (64 * (n + length xs)) (first_of R (room - (n + length xs)) ys)
    ≡ sets f (64 * n) (first_of R (room - n) (xs ++ ys))
both_in R room n xs ys f = go (cases_lt (room - n) (length xs))
  where
    go : ((room - n) < length xs) ⊎ (length xs ≤ (room - n)) → sets (sets f (64 * n) (first_of R (room - n) xs)) (64 * (n + length xs)) (first_of R (room - (n + length xs)) ys) ≡ sets f (64 * n) (first_of R (room - n) (xs ++ ys))
    go (inl less) =
        let z : room - (n + length xs) ≡ 0 = omega (arith, less) in
        let a : take (room - n) (xs ++ ys) ≡ take (room - n) xs = take-append-le (room - n) xs ys (omega (arith, less)) in
        ap (λ (i : ℕ). sets (sets f (64 * n) (first_of R (room - n) xs)) (64 * (n + length xs)) (first_of R i ys)) z
        ∙ ap (λ (l : List Finding). sets f (64 * n) (each (record_of R) l)) (sym a)
    go (inr some) =
        let m : ℕ = room - (n + length xs) in
        let z : room - n ≡ length xs + m = omega (arith, some) in
        let a : take (room - n) (xs ++ ys) ≡ xs ++ take m ys = ap (λ (i : ℕ). take i (xs ++ ys)) z ∙ take-append-add xs ys m in
        let b : take (room - n) xs ≡ xs = take_all (room - n) xs some in
        let c : 64 * (n + length xs) ≡ 64 * n + length (each (record_of R) xs) = omega (arith, records_64 R xs) in
        ap₂ (λ (l : List Finding) (i : ℕ). sets (sets f (64 * n) (each (record_of R) l)) i (first_of R m ys)) b c
        ∙ sym (sets_append f (64 * n) (each (record_of R) xs) (first_of R m ys))
        ∙ ap (sets f (64 * n)) (sym (each_append (record_of R) xs (take m ys)))
        ∙ ap (λ (l : List Finding). sets f (64 * n) (each (record_of R) l)) (sym a)

-- a sink keeps its room
kept_room : (R : Rules) (xs : List Finding) (s t : Sink) → Kept R xs s t → room_of t ≡ room_of s
kept_room R xs s t p =
    ap (λ (n : ℕ). n / 64) (ap length p.bytes ∙ length-sets s.records.now (64 * s.count) (first_of R (room_of s - s.count) xs))

module _ (R : Rules) where
  -- nothing kept
  pub kept_none : (s : Sink) → Kept R [] s s
  kept_none s = record {
    same_reference = refl;
    count = omega arith;
    bytes = ap (λ (l : List Finding). sets s.records.now (64 * s.count) (each (record_of R) l)) (sym (take-nil (room_of s - s.count)));
  }

  -- one more, where there is room for it
  pub kept_in : (x : Finding) (r : Record) (centre : Point) (s t : Sink) → t.records.ghost_name ≡ s.records.ghost_name → t.count ≡ s.count + 1 → s.count < room_of s → fields_of x ≡ told r
      → centre_in R x ≡ centre → t.records.now ≡ sets s.records.now (64 * s.count) (record_bytes (told r) centre) → Kept R (x ∷ []) s t
  kept_in x r centre s t same one h e q p =
      record { same_reference = same; count = one; bytes = one_in R (room_of s) s.count x r centre s.records.now t.records.now h e q p }

  -- and where there is none
  pub kept_out : (x : Finding) (s t : Sink) → t.records.ghost_name ≡ s.records.ghost_name → t.count ≡ s.count + 1 → room_of s ≤ s.count → t.records.now ≡ s.records.now → Kept R (x ∷ []) s t
  kept_out x s t same one h p = record { same_reference = same; count = one; bytes = p ∙ one_out R (room_of s) s.count x s.records.now h }

  -- xs, and then ys
  pub kept_then : (xs ys : List Finding) (s t u : Sink) → Kept R xs s t → Kept R ys t u → Kept R (xs ++ ys) s u
  kept_then xs ys s t u p q = record {
    same_reference = q.same_reference ∙ p.same_reference;
    count = omega (arith, p.count, q.count, length-append xs ys);
    bytes = q.bytes ∙ ap (λ (r : ℕ). sets t.records.now (64 * t.count) (first_of R (r - t.count) ys)) (kept_room R xs s t p)
        ∙ ap₂ (λ (l : List ℕ) (i : ℕ). sets l (64 * i) (first_of R (room_of s - i) ys)) p.bytes p.count ∙ both_in R (room_of s) s.count xs ys s.records.now;
  }

-- rules that give the same records keep the same
pub kept_by : (R S : Rules) (xs : List Finding) (s t : Sink) → ((x : Finding) → record_of R x ≡ record_of S x) → Kept R xs s t → Kept S xs s t
kept_by R S xs s t e p = record {
  same_reference = p.same_reference;
  count = p.count;
  bytes = p.bytes ∙ ap (sets s.records.now (64 * s.count)) (each_ext e (take (room_of s - s.count) xs));
}

-- the findings of the numbers from a on, one number more
pub kept_next : (R : Rules) (h : ℕ → List Finding) (xs : List Finding) (a i : ℕ) (s t u : Sink) → xs ≡ h (a + i) → Kept R (each h (up_from a i)) s t → Kept R xs t u
    → Kept R (each h (up_from a (i + 1))) s u
kept_next R h xs a i s t u is p q =
    let z : i + 1 ≡ suc i = omega arith in
    let grows : each h (up_from a (i + 1)) ≡ each h (up_from a i) ++ xs =
    ap (λ (m : ℕ). each h (up_from a m)) z ∙ ap (each h) (up_from_snoc a i) ∙ each_append h (up_from a i) ((a + i) ∷ []) ∙ ap (λ (l : List Finding). each h (up_from a i) ++ l) (append-nil (h (a + i)) ∙ sym is) in
    subst (λ (l : List Finding). Kept R l s u) (sym grows) (kept_then R (each h (up_from a i)) xs s t u p q)
