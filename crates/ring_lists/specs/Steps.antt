-- For internal contracts: what the lists and the work hold once stored.
use Rattle.std.specs.Prelude.{ℕ, List, ◌≡◌, replicate}
use Rattle.std.proofs.lemmas.List.Edits.{sets}
use Rattle.mesh.specs.Model.{Model}
use Rattle.mesh.specs.Acceptance.{work_needed}
use Rattle.ring_lists.specs.Filling.{raw_rings, welded_rings}

pub record Stored (m : Model) (raw raw' welded welded' work work' : List ℕ) : Type 0 where
  pub raw_is : raw' ≡ sets raw 0 (raw_rings m)
  pub welded_is : welded' ≡ sets welded 0 (welded_rings m)
  pub work_is : work' ≡ sets work 0 (replicate (work_needed m) 0)
