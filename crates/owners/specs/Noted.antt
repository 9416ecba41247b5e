-- For internal contracts: cells noted in a list.
use Rattle.std.specs.Prelude.{ℕ, List, ◌≡◌}
use Rattle.rings.specs.Put.{WordsPut}
use Rattle.owners.specs.declared.Holders.{Holders}

-- cells come behind those of s, which becomes s': as many as fit are written, and all are counted
pub record Noted (xs : List ℕ) (s s' : Holders) : Type 0 where
  pub same_reference : s'.owners.ghost_name ≡ s.owners.ghost_name
  pub same_key : s'.key.now ≡ s.key.now
  pub put : WordsPut xs s.owners.now s'.owners.now s.count s'.count
