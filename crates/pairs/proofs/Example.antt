-- Document 01's example, computed: tetrahedron 4 5 6 8 (cell 0, faces 0 to 3) and hexahedron 0 to 7 (cell 1, faces 4 to 9).
use Prim.Native.Nat.{ℕ}
use mathlib.Core.Bool.{true}
use mathlib.Core.List.{List, [], ◌∷◌}
use mathlib.Core.Path.{◌≡◌, refl}
use Rattle.index.specs.declared.Places.{Places}
use Rattle.index.specs.Faces.{nodes_of, words_of, faces_with, offsets_of}
use Rattle.seek.specs.Candidates.{common, sharing, shares, candidates}
use Rattle.pairs.specs.Work.{node_work, triple_work, is_by_nodes}

abbrev at : Places
at = record { faces = 10; nodes = 9; words = 36; cell_count = 2; cells = 2; bows = 0; starts = 12; sets = 23; offsets = 59; index = 70; found = 106 }

-- all behind the words on bow-ties: cells, starts, sets
abbrev rest : List ℕ
rest =
    0 ∷ 0 ∷ 0 ∷ 0 ∷ 1 ∷ 1 ∷ 1 ∷ 1 ∷ 1 ∷ 1
    ∷ 0 ∷ 3 ∷ 6 ∷ 9 ∷ 12 ∷ 16 ∷ 20 ∷ 24 ∷ 28 ∷ 32 ∷ 36
    ∷ 4 ∷ 5 ∷ 8 ∷ 5 ∷ 6 ∷ 8 ∷ 4 ∷ 6 ∷ 8 ∷ 4 ∷ 5 ∷ 6
    ∷ 0 ∷ 1 ∷ 2 ∷ 3 ∷ 4 ∷ 5 ∷ 6 ∷ 7 ∷ 0 ∷ 1 ∷ 4 ∷ 5 ∷ 2 ∷ 3 ∷ 6 ∷ 7 ∷ 1 ∷ 2 ∷ 5 ∷ 6 ∷ 0 ∷ 3 ∷ 4 ∷ 7 ∷ []

abbrev input : List ℕ
input = 0 ∷ 0 ∷ rest

-- face 3 has one candidate, face 5, and face 4 none
third : candidates at input 3 ≡ 5 ∷ []
unfolding candidates shares sharing common nodes_of
third = refl

-- face 4 has none
fourth : candidates at input 4 ≡ []
unfolding candidates shares sharing common nodes_of
fourth = refl

-- none where either cell is a bow-tie
barred_first : candidates at (1 ∷ 0 ∷ rest) 3 ≡ []
unfolding candidates shares sharing common nodes_of
barred_first = refl

-- nor where the other is
barred_second : candidates at (0 ∷ 1 ∷ rest) 3 ≡ []
unfolding candidates shares sharing common nodes_of
barred_second = refl

-- the offsets of the nodes
offsets : offsets_of at input ≡ 0 ∷ 3 ∷ 6 ∷ 9 ∷ 12 ∷ 18 ∷ 24 ∷ 30 ∷ 33 ∷ 36 ∷ 36 ∷ []
unfolding offsets_of words_of
offsets = refl

-- the work of both ways, and which is taken
works : (node_work at input ≡ 63) × (triple_work at input ≡ 28) × (is_by_nodes at input ≡ true)
unfolding is_by_nodes node_work triple_work faces_with nodes_of
works = (refl, refl, refl)
