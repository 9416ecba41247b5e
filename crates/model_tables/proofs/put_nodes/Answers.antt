-- `model_tables::put_nodes` meets its contract: the keys stand, and the node sets behind them.
use Rattle.model_tables.proofs.Nodes.{keys_stand, sets_stand}
use Rattle.model_tables.proofs.put_nodes.Goals as goal

pub put_sets-requires : goal.put_sets-requires
put_sets-requires c = keys_stand c.args.l.now c.args.work.now _ c.requires c.put_keys.ensures

pub returns : goal.returns
returns c =
    let e = c.put_sets.ensures in
    sets_stand c.args.l.now c.args.work.now _ c.requires c.put_keys.ensures _ _ (e.0, e.2)
