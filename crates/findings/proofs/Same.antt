-- The record of a finding settles the finding: two of one full list with the same bytes are the same.
use Prim.Native.Nat.{ℕ, ◌<◌}
use mathlib.Core.Path.{◌≡◌, refl, sym, ap, ◌∙◌}
use mathlib.Core.List.{List, ◌++◌}
use lib.ListN.{get_or, take, drop, replicate}
use lib.Seq.{take_at, drop_at}
use Rattle.laws.specs.Bytes.{number, bytes}
use Rattle.laws.proofs.ByteLaws.{number_bytes, length-bytes}
use Rattle.geometry.specs.declared.Point.{Point}
use Rattle.mesh.specs.Rings.{Face}
use Rattle.findings.specs.Findings.{Rules, Finding, bowtie, overfull, partly, repeated}
use Rattle.findings.specs.Records.{Fields, fields_of, centre_in, point_bytes, record_bytes, record_of}
use Rattle.findings.specs.Demand3.{read_back, Below}
use Rattle.findings.proofs.Told.{Told}

-- ---- bytes

-- equal bytes in front of equal rests
peel : (k a b : ℕ) (s t : List ℕ) → bytes k a ++ s ≡ bytes k b ++ t → (bytes k a ≡ bytes k b) × (s ≡ t)
peel k a b s t e = (
  sym (take_at (bytes k a) s k (length-bytes k a)) ∙ ap (take k) e ∙ take_at (bytes k b) t k (length-bytes k b),
  sym (drop_at (bytes k a) s k (length-bytes k a)) ∙ ap (drop k) e ∙ drop_at (bytes k b) t k (length-bytes k b),
)

-- equal bytes of numbers below 2^32
four : (a b : ℕ) → a < 4294967296 → b < 4294967296 → bytes 4 a ≡ bytes 4 b → a ≡ b
four a b h k e = sym (number_bytes 4 a h) ∙ ap number e ∙ number_bytes 4 b k

-- fields of the same bytes
record Alike (f g : Fields) : Type 0 where
  kind : f.kind ≡ g.kind
  first : bytes 4 f.first ≡ bytes 4 g.first
  a : bytes 4 f.a ≡ bytes 4 g.a
  b : bytes 4 f.b ≡ bytes 4 g.b

-- equal records have alike fields
alike : (f g : Fields) (p q : Point) → record_bytes f p ≡ record_bytes g q → Alike f g
unfolding record_bytes
alike f g p q e =
    let r : (Fields → Point → List ℕ) = λ f p. bytes 4 f.count ++ (replicate 8 0 ++ (point_bytes p ++ replicate 8 0)) in
    let s1 = peel 4 f.first g.first (bytes 4 f.second ++ (bytes 4 f.a ++ (bytes 4 f.b ++ r f p))) (bytes 4 g.second ++ (bytes 4 g.a ++ (bytes 4 g.b ++ r g q))) (ap (drop 4) e) in
    let s2 = peel 4 f.second g.second (bytes 4 f.a ++ (bytes 4 f.b ++ r f p)) (bytes 4 g.a ++ (bytes 4 g.b ++ r g q)) s1.1 in
    let s3 = peel 4 f.a g.a (bytes 4 f.b ++ r f p) (bytes 4 g.b ++ r g q) s2.1 in
    let s4 = peel 4 f.b g.b (r f p) (r g q) s3.1 in
    record { kind = ap (λ (l : List ℕ). get_or l 0 0) e; first = s1.0; a = s3.0; b = s4.0 }

-- ---- the finding read back

-- from the fields
pub read_back_lem : (fs : List Face) (x : Finding) → Told fs x → x ≡ read_back fs (fields_of x)
unfolding Told read_back fields_of
read_back_lem fs (bowtie c) t = refl
read_back_lem fs (overfull c₁ c₂ f n k os) t = let w = t.owners in let u = t.count in let p = t.first in let q = t.second in let v = t.key in cc
read_back_lem fs (partly c₁ c₂ a b ns) t = let p = t.cell_a in let q = t.cell_b in let v = t.nodes in cc
read_back_lem fs (repeated c a b) t = refl

-- alike fields, all below 2^32, give the same finding
back_alike : (fs : List Face) (r s : Fields) → Below 4294967296 r → Below 4294967296 s → Alike r s → read_back fs r ≡ read_back fs s
unfolding read_back
back_alike fs r s h k e =
    let p = e.kind in
    let q : r.first ≡ s.first = four r.first s.first h.0 k.0 e.first in
    let t : r.a ≡ s.a = four r.a s.a h.2 k.2 e.a in
    let u : r.b ≡ s.b = four r.b s.b h.3 k.3 e.b in
    cc

-- two findings that the faces tell, all their numbers below 2^32, with the same record
pub same_record : (R : Rules) (fs : List Face) (x y : Finding) → Told fs x → Told fs y → Below 4294967296 (fields_of x) → Below 4294967296 (fields_of y) → record_of R x ≡ record_of R y → x ≡ y
unfolding record_of
same_record R fs x y t u h k e =
    read_back_lem fs x t ∙ back_alike fs (fields_of x) (fields_of y) h k (alike (fields_of x) (fields_of y) (centre_in R x) (centre_in R y) e) ∙ sym (read_back_lem fs y u)
