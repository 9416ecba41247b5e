-- The condition of a candidate, in the order in which it is tested.
use Prim.Native.Nat.{ℕ, ◌≤◌}
use mathlib.Core.Path.{◌≡◌, sym}
use mathlib.Core.Bool.{true, false, not, ◌&&◌, and_assoc, and-false}
use mathlib.Core.List.{List, []}
use borrow.Author.Tests.{le-ltb, eq-eqb}
use lib.Dec.{ltb, eqb, leb}
use lib.ListN.{length}
use Rattle.laws.specs.Lists.{up_from, eql}
use Rattle.laws.proofs.Ascending.{keep_none}
use Rattle.index.specs.declared.Places.{Places}
use Rattle.index.specs.Faces.{cell_of, bow_of, nodes_of}
use Rattle.seek.specs.Candidates.{common, sharing, shares, candidates}
use Rattle.seek.specs.Steps.{apart, early}

module _ (p : Places) (t : List ℕ) (lo : ℕ) where
  -- the common nodes come last
  pub shares_early : (g : ℕ) → shares p t lo g ≡ (early p t lo g && leb 3 (length (common (nodes_of p t lo) (nodes_of p t g))))
  unfolding shares sharing early apart
  shares_early g = sym (and_assoc (apart p t lo g) (not (eql (nodes_of p t lo) (nodes_of p t g))) (leb 3 (length (common (nodes_of p t lo) (nodes_of p t g)))))

  -- no candidate where g does not come after lo
  pub not_later : (g : ℕ) → g ≤ lo → shares p t lo g ≡ false
  unfolding shares
  not_later g h = rw (le-ltb lo g h)

  -- nor where it is of lo's cell
  pub own_cell : (g : ℕ) → cell_of p t lo ≡ cell_of p t g → shares p t lo g ≡ false
  unfolding shares
  own_cell g e = rw (eq-eqb (cell_of p t lo) (cell_of p t g) e) (rw (and-false (ltb lo g)))

  -- nor where lo's cell is a bow-tie
  never : bow_of p t (cell_of p t lo) ≡ true → (g : ℕ) → shares p t lo g ≡ false
  unfolding shares
  never e g = rw e (rw (and-false (ltb lo g && not (eqb (cell_of p t lo) (cell_of p t g)))))

  -- so the list is empty
  pub barred : bow_of p t (cell_of p t lo) ≡ true → candidates p t lo ≡ []
  unfolding candidates
  barred e = keep_none (shares p t lo) (up_from 0 p.faces) (λ g h. never e g)
