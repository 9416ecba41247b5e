use Prim.Native.Nat.{ℕ, suc, ◌≤◌}
use mathlib.Core.Path.{◌≡◌, sym, ◌∙◌}
use mathlib.Core.Bool.{true}
use mathlib.Core.List.{List, [], ◌∷◌, ◌++◌}
use native.Mathlib.Omega.{arith}
use borrow.Author.Rules.{rules}
use borrow.Author.Tests.{le-leb}
use lib.Dec.{leb}
use lib.ListN.{take, drop}
use lib.Seq.{length-take-le}
use Rattle.laws.specs.Lists.{only_if}
use Rattle.mesh.specs.Rings.{phed_rings}
use Rattle.mesh.specs.Steps.{lead}
use Rattle.mesh.proofs.Runs.{lead_le, phed_next}
use Rattle.mesh.proofs.phed.PhedRingsIterator.next.Goals as goal

-- a first run of three words is the first ring
first_ring : (ws behind : List ℕ) (n : ℕ) → n ≡ lead ws → behind ≡ drop (suc n) ws → 3 ≤ n → phed_rings ws ≡ take n ws ∷ phed_rings behind
first_ring ws behind n e b h =
    let t : leb 3 (lead ws) ≡ true = le-leb 3 (lead ws) (omega arith) in
    let p : only_if (leb 3 (lead ws)) (take (lead ws) ws ∷ []) ++ phed_rings (drop (suc (lead ws)) ws) ≡ take (lead ws) ws ∷ phed_rings (drop (suc (lead ws)) ws) = rw t in
    phed_next ws ∙ p ∙ rw (b, e)

pub slice_bounds-run-end : goal.slice_bounds-run-end
slice_bounds-run-end c =
    let w = c.loop-n.self.words.now in
    sym (length-take-le c.lead-n.result w (omega (arith, lead_le w, c.lead-n.ensures)))

pub returns-then-n-ge3-clause-steps : goal.returns-then-n-ge3-clause-steps
returns-then-n-ge3-clause-steps c =
    sym c.loop-n.invariant ∙ first_ring c.loop-n.self.words.now _ c.lead-n.result c.lead-n.ensures c.behind-self.ensures c.if-n-ge3.true

pub returns-then-n-ge3-clause-goes : goal.returns-then-n-ge3-clause-goes
returns-then-n-ge3-clause-goes c =
    let s : phed_rings c.args.self.now.words.now ≡ take c.lead-n.result c.loop-n.self.words.now ∷ phed_rings c.behind-self.result.now =
    sym c.loop-n.invariant ∙ first_ring c.loop-n.self.words.now _ c.lead-n.result c.lead-n.ensures c.behind-self.ensures c.if-n-ge3.true in
    search rules

pub behind-self-requires : goal.behind-self-requires
behind-self-requires c = omega (arith, lead_le c.loop-n.self.words.now, c.lead-n.ensures)
