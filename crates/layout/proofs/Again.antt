-- A slice whose tables and index are untouched stands as before.
use Prim.Native.Nat.{ℕ, ◌≤◌}
use mathlib.Core.Path.{◌≡◌, sym, ap, ◌∙◌, subst}
use mathlib.Core.List.{List}
use lib.ListN.{length, take, replicate}
use lib.Seq.{take-take}
use Rattle.laws.specs.Merging.{region}
use Rattle.index.specs.Faces.{input, Indexed}
use Rattle.layout.specs.declared.Layout.{Layout}
use Rattle.layout.specs.Tables.{Faced, Spaced, Standing, Still}

-- the words below the index lie among those below `found`
pub same_input : (l : Layout) (w v : List ℕ) → l.at.offsets ≤ l.at.found → take l.at.found v ≡ take l.at.found w → input l.at v ≡ input l.at w
same_input l w v h e =
    sym (take-take l.at.offsets l.at.found v h) ∙ ap (take l.at.offsets) e ∙ take-take l.at.offsets l.at.found w h

-- so with zero marks and last nodes the slice stands again
pub still : (l : Layout) (w v : List ℕ) → Standing l w → take l.at.found v ≡ take l.at.found w → length v ≡ length w
    → region l.marks l.at.cell_count v ≡ replicate l.at.cell_count 0 → region l.last l.at.nodes v ≡ replicate l.at.nodes 0
    → Still l w v
still l w v s e n marks last = record {
  same = e;
  long = n;
  standing = record {
    faced = subst (Faced l) (sym (same_input l w v s.below e)) s.faced;
    indexed = subst (Indexed l.at) (sym e) s.indexed;
    below = s.below;
    spaced = subst (Spaced l) (sym n) s.spaced;
    unmarked = marks;
    fresh = last;
  };
}

-- and twice
pub still_then : (l : Layout) (u v w : List ℕ) → Still l u v → Still l v w → Still l u w
still_then l u v w p q = record { same = q.same ∙ p.same; long = q.long ∙ p.long; standing = q.standing }
