-- `node_sets::put_key` meets its contract: the ring is copied to its row among the keys, and sorted there.
use Prim.Native.Nat.{ℕ, ◌+◌, ◌-◌}
use mathlib.Core.Path.{◌≡◌, sym, ap, ap₂, ◌∙◌}
use mathlib.Core.List.{List, ◌++◌}
use native.Mathlib.Omega.{arith}
use lib.Dec.{leb}
use lib.ListN.{length, take, drop}
use lib.Seq.{sets}
use Rattle.laws.specs.Lists.{sort}
use Rattle.laws.proofs.Sorting.{length-sort}
use Rattle.laws.proofs.Stores.{lent_sets, length-region}
use Rattle.sorting.proofs.Sorted.{is_sort}
use Rattle.layout.specs.Tables.{ring_row}
use Rattle.layout.specs.Views.{ringed_in}
use Rattle.layout.proofs.Ringing.{Ring, rows_rise, rows_within, ring_long}
use Rattle.node_sets.proofs.put_key.Goals as goal

pub copy_words-requires : goal.copy_words-requires
copy_words-requires c =
    let rings = c.args.rings.now in
    let ring : Ring rings.layout.now rings.work.now c.args.g c.row.result c.row-2.result = let s = c in
    record { ringed = rings.ringed; face = s.requires.0; from = s.row.ensures.0; to = s.row-2.ensures.0 } in
    ap length c.ring.ensures ∙ ring_long ring
    ∙ sym (length-region c.row.result (c.row-2.result - c.row.result) c.args.keys.now (omega (arith, rows_rise ring, rows_within ring, c.requires.1)))

pub returns : goal.returns
returns c =
    let rings = c.args.rings.now in
    let ring : Ring rings.layout.now rings.work.now c.args.g c.row.result c.row-2.result = let s = c in
    record { ringed = rings.ringed; face = s.requires.0; from = s.row.ensures.0; to = s.row-2.ensures.0 } in
    let o = c.row.result in
    let n = c.row-2.result - c.row.result in
    let keys = c.args.keys.now in
    let key = sort leb (ring_row rings.layout.now (ringed_in rings) c.args.g) in
    let e : o + n - o ≡ n = omega arith in
    let sorted : c.sort_unstable.new.self ≡ key = is_sort _ _ c.sort_unstable.ensures.permutation c.sort_unstable.ensures.sorted ∙ ap (sort leb) (c.copy_words.ensures ∙ c.ring.ensures) in
    ap₂ (λ (x : List ℕ) (k : ℕ). take o keys ++ (x ++ drop k (drop o keys))) sorted (sym e)
    ∙ lent_sets n keys key o (length-sort leb (ring_row rings.layout.now (ringed_in rings) c.args.g) ∙ ring_long ring) (omega (arith, rows_rise ring, rows_within ring, c.requires.1))
    ∙ ap (λ (k : ℕ). sets keys k key) ring.from
