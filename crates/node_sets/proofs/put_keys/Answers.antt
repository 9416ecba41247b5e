-- `node_sets::put_keys` meets its contract: as many keys as turns are there.
use Prim.Native.Nat.{ℕ, ◌+◌}
use mathlib.Core.Path.{◌≡◌, ap, ap₂, ◌∙◌}
use mathlib.Core.List.{List, ◌++◌}
use native.Mathlib.Omega.{arith}
use lib.Dec.{leb}
use lib.ListN.{get_or, take}
use lib.Seq.{sets, take-take}
use Rattle.laws.specs.Lists.{sort}
use Rattle.layout.specs.Tables.{ring_row}
use Rattle.layout.proofs.Split.{back_put}
use Rattle.node_sets.specs.Sets.{keys_of}
use Rattle.node_sets.proofs.Keys.{keys_more}
use Rattle.node_sets.proofs.put_keys.Goals as goal

pub loop-g-preserved : goal.loop-g-preserved
loop-g-preserved c =
    let l = c.args.l.now in
    let w = c.args.work.now in
    let at = c.loop-g in
    let split = c.split_at_mut-tables in
    let same = ap (take l.at.bows) split.ensures.front ∙ take-take l.at.bows l.keys w c.requires.1 in
    c.put_key.ensures
    ∙ ap₂ (λ (x t : List ℕ). sets x (get_or t (l.rows + at.g) 0) (sort leb (ring_row l t at.g))) at.invariant same
    ∙ keys_more l (take l.at.bows w) c.requires.0 split.result.1.now at.g c.loop-g-test.true

pub returns : goal.returns
returns c =
    let l = c.args.l.now in
    let w = c.args.work.now in
    let at = c.loop-g in
    let split = c.split_at_mut-tables in
    let e : at.g ≡ l.at.faces = omega arith in
    let keys = keys_of l (take l.at.bows w) l.at.faces in
    ap₂ (λ (x y : List ℕ). x ++ y) split.ensures.front
    (at.invariant ∙ ap₂ (λ (x : List ℕ) (n : ℕ). sets x 0 (keys_of l (take l.at.bows w) n)) split.ensures.back e)
    ∙ back_put w l.keys keys (omega (arith, c.requires.2))
