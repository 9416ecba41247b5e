-- How many faces were sought by which way.
use Rattle.std.specs.Prelude.{ℕ, Bool, cond}
use Rattle.seek.specs.declared.Tally.{Tally}

-- n faces, all of them by common nodes, or all by node triples
abbrev pub tally_of : Bool → ℕ → Tally
tally_of is_by_nodes n = record { nodes = cond is_by_nodes n 0; triples = cond is_by_nodes 0 n }
