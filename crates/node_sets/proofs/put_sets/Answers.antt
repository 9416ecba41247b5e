-- `node_sets::put_sets` meets its contract. The invariant: the sets of the faces that are left, put behind those there, are all.
use Prim.Native.Nat.{ℕ, ◌+◌, ◌-◌}
use mathlib.Core.Path.{◌≡◌, ap, ap₂, ◌∙◌, subst}
use mathlib.Core.List.{List, ◌++◌}
use native.Mathlib.Omega.{arith}
use lib.ListN.{length, get_or, take, drop, length-take}
use lib.Seq.{sets, take-take}
use Rattle.laws.specs.Merging.{region, starts_of}
use Rattle.laws.proofs.Rows.{joined}
use Rattle.mesh.specs.Rings.{node_set}
use Rattle.layout.specs.Tables.{ring_row}
use Rattle.layout.proofs.Split.{rest_put, both_put}
use Rattle.node_sets.proofs.Putting.{keys_are, row_rises, set_is, starts_long}
use Rattle.node_sets.proofs.Remaining.{Left, left_next, all, done_count, done_most, done_starts, done_put}
use Rattle.node_sets.proofs.put_sets.Goals as goal

pub loop-g-preserved : goal.loop-g-preserved
loop-g-preserved c =
    let l = c.args.l.now in
    let w = c.args.work.now in
    let at = c.loop-g in
    let t = take l.at.bows w in
    let same = ap (take l.at.bows) c.split_at_mut-tables.ensures.front ∙ take-take l.at.bows l.at.starts w (omega (arith, c.requires.fit.keys_at, c.requires.fit.starts_at)) in
    let from = c.row.ensures.0 ∙ ap (λ (x : List ℕ). get_or x (l.rows + at.g) 0) same in
    let to = c.row-in-loop-g.ensures.0 ∙ ap (λ (x : List ℕ). get_or x (l.rows + (at.g + 1)) 0) same in
    let put = c.put_unique-k.ensures in
    let rise = row_rises l w c.requires at.g c.loop-g-test.true _ _ from to in
    let keys = ap (region l.keys (l.keys + l.total - l.keys)) c.split_at_mut-tables.ensures.front ∙ keys_are l w c.requires in
    let set = set_is l w c.requires at.g c.loop-g-test.true _ _ from to _ keys in
    left_next l t _ _ at.starts at.sets at.g at.k at.invariant _ _ c.loop-g-test.true
    (ap (λ (n : ℕ). at.k + n) (put.0 ∙ ap length set))
    (omega (arith, at.invariant.start, put.1, from, to, rise, length-take (c.row-in-loop-g.result - c.row.result) (drop c.row.result (region l.keys (l.keys + l.total - l.keys) c.split_at_mut-tables.result.0.now))))
    (rest_put at.sets at.k c.put_unique-k.new.out (node_set (ring_row l t at.g)) (omega arith) (put.2 ∙ ap (λ (x : List ℕ). sets (take (length at.sets - at.k) (drop at.k at.sets)) 0 x) set))

pub returns : goal.returns
returns c =
    let l = c.args.l.now in
    let w = c.args.work.now in
    let at = c.loop-g in
    let t = take l.at.bows w in
    let e : at.g ≡ l.at.faces = omega arith in
    let i = subst (λ (g : ℕ). Left l t c.split_at_mut-starts.result.0.now c.split_at_mut-starts.result.1.now g at.k at.starts at.sets) e at.invariant in (
      done_count l t _ _ at.starts at.sets at.k c.requires.fit.ringed i,
      done_most l t _ _ at.starts at.sets at.k c.requires.fit.ringed i,
      ap₂ (λ (x y : List ℕ). x ++ y) c.split_at_mut-tables.ensures.front
          (ap₂ (λ (x y : List ℕ). x ++ y)
          (done_starts l t _ _ at.starts at.sets at.k c.requires.fit.ringed i ∙ ap (λ (x : List ℕ). sets x 0 (starts_of 0 (all l t))) (c.split_at_mut-starts.ensures.front ∙ ap (take (l.at.sets - l.at.starts)) c.split_at_mut-tables.ensures.back))
          (done_put l t _ _ at.starts at.sets at.k c.requires.fit.ringed i ∙ ap (λ (x : List ℕ). sets x 0 (joined (all l t))) (c.split_at_mut-starts.ensures.back ∙ ap (drop (l.at.sets - l.at.starts)) c.split_at_mut-tables.ensures.back)))
          ∙ both_put w l.at.starts (l.at.sets - l.at.starts) (starts_of 0 (all l t)) (joined (all l t)) (omega (arith, c.requires.fit.ends, c.requires.fit.sets_at)) (omega (arith, starts_long l t, c.requires.fit.sets_at))
          ∙ ap (λ (n : ℕ). sets (sets w l.at.starts (starts_of 0 (all l t))) n (joined (all l t))) (omega (arith, c.requires.fit.sets_at)),
    )
