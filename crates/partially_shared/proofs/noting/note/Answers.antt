-- `partially_shared::noting::note` meets its contract.
use Prim.Native.Nat.{ℕ, ◌+◌, ◌<◌, min, max}
use mathlib.Core.List.{List, [], ◌∷◌, ◌++◌}
use mathlib.Core.Path.{◌≡◌, sym, ap, ◌∙◌, subst}
use native.Mathlib.Omega.{arith}
use lib.ListN.{get_or}
use Rattle.geometry.specs.Points.{points_of}
use Rattle.area.specs.AreaTest.{area_of, is_spans}
use Rattle.index.specs.Faces.{input, nodes_of}
use Rattle.index.proofs.Read.{of_index}
use Rattle.seek.specs.Candidates.{common}
use Rattle.layout.specs.ByCell.{plain_rules}
use Rattle.partially_shared.specs.declared.Range.{Range}
use Rattle.partially_shared.specs.Listing.{list_with}
use Rattle.partially_shared.specs.Hits.{passing, Marked, MarkedMore, Beside}
use Rattle.partially_shared.proofs.Marking.{spans_is, beside_self, marked_out, marked_kept, marked_in, noted_beside}
use Rattle.partially_shared.proofs.noting.note.Goals as goal

pub returns-then-work-m-ne0 : goal.returns-then-work-m-ne0
returns-then-work-m-ne0 c =
    let a = c.args in
    let w = a.work.now in
    let t = input a.cx.now.layout.at w in
    let R = plain_rules a.cx.now.coords.now a.cx.now.tolerance in
    let e = c.cell_of-b.ensures in
    let low = subst (λ (x : ℕ). x < a.cx.now.layout.at.cell_count) e.0 e.1 in
    record {
      marked_more = λ hits p. marked_kept R a.cx.now.layout t a.f a.g hits w a.r p low (λ z. c.if-work-m-ne0.true (ap (λ (x : ℕ). get_or w (a.cx.now.layout.marks + x) 0) e.0 ∙ z));
      beside = (beside_self a.cx.now.layout.marks a.cx.now.layout w, c.requires.f_lt_faces.2);
    }

pub returns-then-not-spans : goal.returns-then-not-spans
returns-then-not-spans c =
    let a = c.args in
    let w = a.work.now in
    let t = input a.cx.now.layout.at w in
    let R = plain_rules a.cx.now.coords.now a.cx.now.tolerance in
    let e = c.cell_of-b.ensures in
    let ok = of_index c.new.result (λ q b. c.spans.result ≡ is_spans (area_of a.cx.now.tolerance (points_of a.cx.now.coords.now (common (nodes_of q (input q b) a.f) (nodes_of q (input q b) a.g))))) c.new.ensures c.spans.ensures in
    let no = sym (spans_is a.cx.now.coords.now a.cx.now.tolerance a.cx.now.layout w a.f a.g c.requires.searching.below) ∙ sym ok ∙ c.if-not-spans.true in
    record { marked_more = λ hits p. marked_out R a.cx.now.layout t a.f a.g hits w a.r p no; beside = (beside_self a.cx.now.layout.marks a.cx.now.layout w, c.requires.f_lt_faces.2) }

pub returns : goal.returns
returns c =
    let a = c.args in
    let w = a.work.now in
    let t = input a.cx.now.layout.at w in
    let R = plain_rules a.cx.now.coords.now a.cx.now.tolerance in
    let o = c.cell_of-b in
    let i = o.result in
    let e = o.ensures in
    let sp = c.requires.searching.spaced in
    let ok = of_index c.new.result (λ q b. c.spans.result ≡ is_spans (area_of a.cx.now.tolerance (points_of a.cx.now.coords.now (common (nodes_of q (input q b) a.f) (nodes_of q (input q b) a.g))))) c.new.ensures c.spans.ensures in
    let yes = sym (spans_is a.cx.now.coords.now a.cx.now.tolerance a.cx.now.layout w a.f a.g c.requires.searching.below) ∙ sym ok ∙ c.if-not-spans.false in
    let y = c.list_cell in
    let m = y.ensures.1 ∙ ap (list_with a.cx.now.layout i a.r.listed) c.mark.ensures in
    let z = c.if-work-m-ne0.false in
    let lo : c.min.result ≡ min a.r.lo i = omega (arith, c.min.ensures) in
    let hi : c.max.result ≡ max a.r.hi (i + 1) = omega (arith, c.max.ensures) in
    let range : Range = record { lo = c.min.result; hi = c.max.result; listed = y.result } in
    let more : MarkedMore a.cx.now.layout t (passing R a.cx.now.layout t a.f (a.g ∷ [])) w y.new.work a.r range =
    λ hits p. subst (λ (v : List ℕ). Marked a.cx.now.layout t (hits ++ passing R a.cx.now.layout t a.f (a.g ∷ [])) v range) (sym m)
    (marked_in R a.cx.now.layout t a.f a.g hits w a.r p sp i e.0 e.1 range z yes lo hi y.ensures.0) in
    record {
      marked_more = more;
      beside = (subst (Beside a.cx.now.layout.marks a.cx.now.layout w) (sym m) (noted_beside a.cx.now.layout w i a.r.listed (a.f + 1) a.g sp e.1), omega (arith, hi, e.1, c.requires.f_lt_faces.2));
    }
