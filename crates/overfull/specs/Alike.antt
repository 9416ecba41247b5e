-- For internal contracts: the faces that have the key of one, and how they are counted.
use Rattle.std.specs.Prelude.{Some, None, ℕ, ◌+◌, ◌≤◌, ◌<◌, ◌^◌, Bool, cond, List, [], ◌∷◌, ltb, eqb, length, get_or}
use Rattle.laws.specs.Lists.{keep, up_from, eql}
use Rattle.layout.specs.declared.Layout.{Layout}
use Rattle.layout.specs.Tables.{key_row, first_of}
use Rattle.overfull.specs.declared.Tally.{Tally}

-- faces g and h have the same key
unfoldable pub same_as : Layout → List ℕ → ℕ → ℕ → Bool
same_as l t g h = eql (key_row l t g) (key_row l t h)

-- the faces that have the key of face g, ascending
unfoldable pub alike : Layout → List ℕ → ℕ → List ℕ
alike l t g = keep (same_as l t g) (up_from 0 l.at.faces)

-- no face is met
abbrev pub start : Tally
start = record { count = 0; second = None }

-- face h is met
abbrev pub noted : ℕ → Tally → Tally
noted h s = record { count = s.count + 1; second = cond (eqb (s.count + 1) 2) (Some h) s.second }

-- faces are met in order; none count where one comes before g
abbrev pub tallied : ℕ → List ℕ → Tally → Tally
tallied g [] s = s
tallied g (h ∷ hs) s = cond (ltb h g) start (tallied g hs (noted h s))

-- g is a face, and so are these
pub record Listed (l : Layout) (g : ℕ) (hs : List ℕ) : Type 0 where
  pub face : g < l.at.faces
  pub few : length hs < 2 ^ 32
  pub faces : (i : ℕ) → i < length hs → get_or hs i 0 < l.at.faces

-- g is a face of cell c
pub record FaceOf (l : Layout) (t : List ℕ) (c g : ℕ) : Type 0 where
  pub cell : c < l.at.cell_count
  pub from : first_of l t c ≤ g
  pub before : g < first_of l t (c + 1)
