-- From the promises of the ring lookup to the exported one.
use Prim.Native.Nat.{ℕ, ◌-◌}
use mathlib.Core.Path.{◌≡◌, sym, ap, ◌∙◌, subst}
use mathlib.Core.List.{List, []}
use native.Mathlib.Omega.{arith}
use lib.ListN.{length, get_or}
use Rattle.std.specs.declared.ops.Range.{Range}
use Rattle.std.specs.Prelude.{Ok}
use Rattle.laws.specs.Refusals.{answer}
use Rattle.refusals.specs.Told.{told_by}
use Rattle.refusals.proofs.Told.{told_ok}
use Rattle.mesh.specs.Model.{Model}
use Rattle.mesh.specs.Lent.{lent}
use Rattle.mesh.specs.Lookup.{lookup_refusal}
use Rattle.mesh.specs.declared.accepted.Accepted.{Accepted}
use Rattle.faces.specs.Spans.{rings_in, SpanIn}
use Rattle.faces.proofs.Rings.{ring_at, start_at}
use Rattle.faces.proofs.Lookups.{part_is_lem}
use Rattle.capi.specs.FaceRings.{LookupExport}

-- found: start and size are those of the ring
pub lookup_done : (m : Model) (raw welded : List ℕ) (f start size : ℕ) (x : Accepted)
    → told_by {A = Accepted} {B = Unit {0}} (λ _. tt {0}) (Ok x) ≡ answer (lookup_refusal m raw welded f) (tt {0}) → lent x.model ≡ m
    → (s : Range ℕ) → SpanIn (rings_in (lent x.model)) f s → LookupExport m raw welded f start s.start size (s.end - s.start) 0
lookup_done m raw welded f start size x judged same s p =
    let z = (told_ok {A = Accepted} {B = Unit {0}} _ x (lookup_refusal m raw welded f) _ judged).0 in
    let q = subst (λ (v : Model). SpanIn (rings_in v) f s) same p in
    let n : s.end - s.start ≡ length (get_or (rings_in m) f []) = omega (arith, q.end) in
    record {
      start_is = record { answered = sym z; lent_is = rw z (q.start ∙ sym (start_at m f)) };
      size_is = record { answered = sym z; lent_is = rw z (n ∙ ap length (sym (ring_at m f))) };
      part_is = λ y which. part_is_lem m raw welded f x judged same s p which;
    }
