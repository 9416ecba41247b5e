-- What the index leaves any search can ask, and what a search leaves the next can.
use Prim.Native.Nat.{ℕ}
use mathlib.Core.Path.{sym, subst}
use mathlib.Core.Bool.{Bool}
use mathlib.Core.List.{List, ◌++◌}
use native.Mathlib.Omega.{arith}
use lib.ListN.{length}
use lib.Seq.{length-sets}
use Rattle.index.specs.declared.Places.{Places}
use Rattle.index.specs.Faces.{input, offsets_of, index_of, Laid, Room}
use Rattle.index.proofs.Built.{built, below_found}
use Rattle.seek.specs.declared.Searched.{Searched}
use Rattle.seek.specs.Candidates.{candidates, Ready, SoughtBy}
use Rattle.seek.proofs.Searching.{ready_same}
use Rattle.pairs.specs.Tables.{with_index, ReadyAll}

-- after the index
pub ready_first : (p : Places) (w : List ℕ) → Laid p (input p w) → Room p (length w) → ReadyAll p (with_index p w)
ready_first p w laid room k h = record {
  indexed = built p w laid room;
  below = below_found p w laid room;
  face = h;
  room = omega (arith, room.ends, length-sets w p.offsets (offsets_of p (input p w) ++ index_of p (input p w)));
}

-- after a search
pub ready_again : (way : Bool) (p : Places) (lo : ℕ) (w v : List ℕ) (r : Searched) → Ready p lo w → SoughtBy way p lo w v r → ReadyAll p v
ready_again way p lo w v r ready s k h =
    subst (Ready p k) (sym s.sought.filled)
    (ready_same p k w (candidates p (input p w) lo) (record { indexed = ready.indexed; below = ready.below; face = h; room = ready.room }))
