-- Why a model is refused: 5 to 10, and 11 where an operation takes work.
use Rattle.std.specs.Prelude.{ℕ, ◌+◌, ◌*◌, Bool, not, cond, ◌&&◌, ◌||◌, List, [], ◌∷◌, ◌++◌, leb, ltb, eqb, length}
use Rattle.laws.specs.Lists.{any}
use Rattle.laws.specs.Limits.{cell_limit, word_limit, ring_limit, flag_limit}
use Rattle.laws.specs.Refusals.{refusal}
use Rattle.geometry.specs.Coordinates.{node_count, count_off, tolerance_off, coordinates_off}
use Rattle.mesh.specs.Model.{Model, Raw, TET4, HEX8, WEDGE6, PHED, cells_of}
use Rattle.mesh.specs.Rings.{Face, separator, runs, rings_of, numbered, faces, ring_words}

-- ---- 5: limits and lengths

-- ends descend from a place on, or the last is not n
abbrev pub ends_off : ℕ → List ℕ → ℕ → Bool
ends_off at [] n = not (eqb at n)
ends_off at (e ∷ es) n = ltb e at || ends_off e es n

unfoldable pub shape_off : Model → Bool
shape_off m =
    count_off (length m.coords)
    || ltb cell_limit (length m.kinds)
    || ltb word_limit (length m.words)
    || not (eqb (length m.kinds) (length m.ends))
    || ends_off 0 m.ends (length m.words)

-- ---- 9: a cell, after one of kind `before`

-- no kind, or kinds not ascending
abbrev pub kind_off : ℕ → ℕ → Bool
kind_off before k = ltb k before || eqb k 0 || ltb PHED k

-- a word count wrong for the kind, or a ring over the limit
abbrev pub count_wrong : Raw → Bool
count_wrong c =
    cond (eqb c.kind TET4) (not (eqb (length c.words) 4))
    (cond (eqb c.kind HEX8) (not (eqb (length c.words) 8))
    (cond (eqb c.kind WEDGE6) (not (eqb (length c.words) 6))
    (eqb (length c.words) 0 || any (λ r. ltb ring_limit (length r)) (runs c.words))))

-- a node number too large, among n nodes; in a PHED the separator is none
abbrev pub node_off : ℕ → ℕ → ℕ → Bool
node_off n k w = leb n w && not (eqb k PHED && eqb w separator)

-- the reasons of a cell: kind, then count, then nodes
unfoldable pub cell_table : ℕ → ℕ → Raw → List (ℕ × Bool)
cell_table n before c = (9, kind_off before c.kind) ∷ (9, count_wrong c) ∷ (9, any (node_off n c.kind) c.words) ∷ []

-- cells are taken in order
abbrev pub cells_table : ℕ → ℕ → List Raw → List (ℕ × Bool)
cells_table n before [] = []
cells_table n before (c ∷ cs) = cell_table n before c ++ cells_table n c.kind cs

-- ---- the table of a model

-- 5 to 9: nodes, cells and tolerance
abbrev pub mesh_table : Model → List (ℕ × Bool)
mesh_table m =
    (5, shape_off m)
    ∷ (6, tolerance_off m.tolerance)
    ∷ (7, coordinates_off m.coords)
    ∷ (8, eqb (length m.kinds) 0)
    ∷ cells_table (node_count m.coords) 0 (cells_of m)

-- then 10: the flags
abbrev pub model_table : Model → List (ℕ × Bool)
model_table m = mesh_table m ++ ((10, ltb flag_limit m.flags) ∷ [])

unfoldable pub model_refusal : Model → ℕ
model_refusal m = refusal (model_table m)

-- ---- the work needed

-- a model's faces
unfoldable pub faces_in : Model → List Face
faces_in m = faces rings_of (numbered rings_of (cells_of m))

-- 8R + 4F + 8C + 4N + 4M + 16 words (ring words, faces, cells, nodes, words)
unfoldable pub work_needed : Model → ℕ
work_needed m =
    8 * length (ring_words (faces_in m)) + 4 * length (faces_in m) + 8 * length m.kinds + 4 * node_count m.coords + 4 * length m.words + 16

-- checking a model, with so many words of work: 5 to 11
abbrev pub check_table : Model → ℕ → List (ℕ × Bool)
check_table m work = model_table m ++ ((11, ltb work (work_needed m)) ∷ [])
