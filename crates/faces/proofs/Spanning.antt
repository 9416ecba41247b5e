-- Where a ring of a cell starts and how long it is.
use Prim.Native.Nat.{ℕ, zero, suc, ◌+◌, ◌*◌, ◌-◌, ◌<◌, ◌≤◌}
use mathlib.Core.Path.{◌≡◌, sym, subst}
use mathlib.Core.Logic.{◌≢◌}
use mathlib.Core.List.{List}
use native.Mathlib.Omega.{arith}
use lib.ListN.{length}
use Rattle.std.specs.declared.ops.Range.{Range}
use Rattle.mesh.specs.Rings.{at, tet_rings, hex_rings, wedge_rings, phed_rings, rings_of}
use Rattle.mesh.specs.Steps.{cell_with, WellCell}
use Rattle.faces.specs.Spans.{range, SpanIn, RunSpan, CellSpan}
use Rattle.faces.specs.declared.Span.{Span}
use Rattle.faces.proofs.Bounds.{rings_total}
use Rattle.faces.proofs.Rings.{span_within}

-- a tetrahedron's rings have three words
pub tet_span : (ws : List ℕ) (f : ℕ) (s : Range ℕ) → f < 4 → s.start ≡ 3 * f → s.end ≡ s.start + 3 → SpanIn (at ws tet_rings) f s
tet_span ws zero s h a b = record { start = a; end = b }
tet_span ws (suc zero) s h a b = record { start = a; end = b }
tet_span ws (suc (suc zero)) s h a b = record { start = a; end = b }
tet_span ws (suc (suc (suc zero))) s h a b = record { start = a; end = b }
tet_span ws (suc (suc (suc (suc f)))) s h a b = absurd (omega arith)

-- a hexahedron's have four
pub hex_span : (ws : List ℕ) (f : ℕ) (s : Range ℕ) → f < 6 → s.start ≡ 4 * f → s.end ≡ s.start + 4 → SpanIn (at ws hex_rings) f s
hex_span ws zero s h a b = record { start = a; end = b }
hex_span ws (suc zero) s h a b = record { start = a; end = b }
hex_span ws (suc (suc zero)) s h a b = record { start = a; end = b }
hex_span ws (suc (suc (suc zero))) s h a b = record { start = a; end = b }
hex_span ws (suc (suc (suc (suc zero)))) s h a b = record { start = a; end = b }
hex_span ws (suc (suc (suc (suc (suc zero))))) s h a b = record { start = a; end = b }
hex_span ws (suc (suc (suc (suc (suc (suc f)))))) s h a b = absurd (omega arith)

-- a wedge's first two have three
pub wedge_three : (ws : List ℕ) (f : ℕ) (s : Range ℕ) → f < 2 → s.start ≡ 3 * f → s.end ≡ s.start + 3 → SpanIn (at ws wedge_rings) f s
wedge_three ws zero s h a b = record { start = a; end = b }
wedge_three ws (suc zero) s h a b = record { start = a; end = b }
wedge_three ws (suc (suc f)) s h a b = absurd (omega arith)

-- and its others four
pub wedge_four : (ws : List ℕ) (f : ℕ) (s : Range ℕ) → 2 ≤ f → f < 5 → s.start ≡ 4 * f - 2 → s.end ≡ 4 * f + 2 → SpanIn (at ws wedge_rings) f s
wedge_four ws zero s l h a b = absurd (omega arith)
wedge_four ws (suc zero) s l h a b = absurd (omega arith)
wedge_four ws (suc (suc zero)) s l h a b = record { start = a; end = omega (arith, a, b) }
wedge_four ws (suc (suc (suc zero))) s l h a b = record { start = a; end = omega (arith, a, b) }
wedge_four ws (suc (suc (suc (suc zero)))) s l h a b = record { start = a; end = omega (arith, a, b) }
wedge_four ws (suc (suc (suc (suc (suc f))))) s l h a b = absurd (omega arith)

-- ---- a cell's rings, where they are known

pub of_rings : {all rs : List (List ℕ)} (f : ℕ) → all ≡ rs → f < length all → f < length rs
of_rings f e h = subst (λ (l : List (List ℕ)). f < length l) e h

pub span_of_rings : {all rs : List (List ℕ)} {f : ℕ} {s : Range ℕ} → all ≡ rs → SpanIn rs f s → SpanIn all f s
span_of_rings {f = f} {s = s} e p = subst (λ (l : List (List ℕ)). SpanIn l f s) (sym e) p

-- a ring of a cell that is no PHED
pub flat_span : (k : ℕ) (ws : List ℕ) (f : ℕ) (s : Span) → WellCell (cell_with k ws) → k ≢ 4 → f < length (rings_of (cell_with k ws)) → SpanIn (rings_of (cell_with k ws)) f (range s) → CellSpan k ws f s
flat_span k ws f s w z h p =
    record { spot = p; run = λ e. absurd (z e); small = omega (arith, p.start, span_within (rings_of (cell_with k ws)) f h, rings_total k ws w) }

-- a ring of a PHED
pub phed_cell : (k : ℕ) (ws : List ℕ) (f : ℕ) (s : Span) → rings_of (cell_with k ws) ≡ phed_rings ws → RunSpan ws f s → CellSpan k ws f s
phed_cell k ws f s e p = record { spot = span_of_rings e p.spot; run = λ _. p; small = omega (arith, p.small) }
