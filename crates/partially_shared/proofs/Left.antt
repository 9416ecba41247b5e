-- What a cell's search leaves: the slice stands as before.
use Prim.Native.Nat.{ℕ}
use mathlib.Core.Path.{sym, ◌∙◌, subst}
use mathlib.Core.List.{List}
use native.Mathlib.Omega.{arith}
use lib.ListN.{length}
use Rattle.index.specs.Faces.{input}
use Rattle.layout.specs.declared.Layout.{Layout}
use Rattle.layout.specs.Tables.{Spaced, Standing, Still}
use Rattle.layout.proofs.Again.{still}
use Rattle.partially_shared.specs.declared.Range.{Range}
use Rattle.partially_shared.specs.Hits.{Marked, Beside, Cleared}
use Rattle.partially_shared.proofs.Searched.{beside_less, beside_then}
use Rattle.partially_shared.proofs.Cleared.{all_cleared}

-- marked and then cleared
pub left_still : (l : Layout) (w v u : List ℕ) (hits : List (ℕ × ℕ)) (r : Range) → Standing l w → Beside l.at.found l w v → Marked l (input l.at w) hits v r → Cleared l v r.lo r.hi u → Still l w u
left_still l w v u hits r s b m q =
    let sp : Spaced l (length v) = subst (Spaced l) (sym b.long) s.spaced in
    let both = beside_then l.at.found l w v u b (beside_less l.at.found l.marks l v u (omega (arith, s.spaced.marks_at)) q.beside) in
    still l w u s both.before both.long (all_cleared l (input l.at w) v u hits r sp m q)
    (both.behind ∙ s.fresh)
