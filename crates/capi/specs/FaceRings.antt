-- The exported ring lists, face owners and ring lookup.
use Rattle.std.specs.Prelude.{ℕ, List, ◌≡◌, length, take, drop}
use Rattle.laws.specs.Refusals.{refusal}
use Rattle.mesh.specs.Model.{Model}
use Rattle.mesh.specs.Acceptance.{faces_in}
use Rattle.mesh.specs.Lookup.{face_at, named, ring_start, lookup_refusal, ring_part, owners_of, owners_table, owners_after}
use Rattle.mesh.specs.declared.RingList.{RingList}
use Rattle.ring_lists.specs.Filling.{raw_rings, fill_refusal, FillMemory}
use Rattle.capi.specs.Written.{Exported}

-- Ring lists: 0 or the refusal's number; R; lists and work as filling promises them.
pub record FillExport (m : Model) (raw raw' welded welded' work work' : List ℕ) (count count' r : ℕ) : Type 0 where
  pub count_is : Exported (fill_refusal m raw welded work) (length (raw_rings m)) count count' r
  pub memory : FillMemory m raw raw' welded welded' work work'

-- Face owners: 0 or the refusal's number; the whole count; the owners that fit.
pub record OwnersExport (m : Model) (f : ℕ) (owners owners' : List ℕ) (count count' r : ℕ) : Type 0 where
  pub count_is : Exported (refusal (owners_table m f)) (length (owners_of (faces_in m) f)) count count' r
  pub owners_are : owners' ≡ owners_after m f owners

-- Ring lookup: 0 or the refusal's number; where the ring starts and its size; that part of either list is the ring.
pub record LookupExport (m : Model) (raw welded : List ℕ) (f start start' size size' r : ℕ) : Type 0 where
  pub start_is : Exported (lookup_refusal m raw welded f) (ring_start (faces_in m) f) start start' r
  pub size_is : Exported (lookup_refusal m raw welded f) (length (face_at (faces_in m) f).ring) size size' r
  pub part_is : r ≡ 0 → (which : RingList) → take size' (drop start' (named which raw welded)) ≡ ring_part m raw welded which f
