-- Passes over cells that write one list right behind the other.
use Prim.Native.Nat.{ℕ, suc, ◌+◌}
use mathlib.Core.Path.{◌≡◌, refl, ap, ◌∙◌}
use mathlib.Core.List.{List, [], ◌∷◌, ◌++◌, map, map-append}
use native.Mathlib.Numerals.{add-one}
use native.Mathlib.Omega.{arith}
use lib.ListN.{length, replicate, length-append, length-replicate}
use Rattle.laws.specs.Merging.{starts_of}
use Rattle.laws.specs.Lists.{each}
use Rattle.mesh.specs.Model.{Raw}
use Rattle.mesh.specs.Rings.{rings_of}
use Rattle.tables.specs.Owners.{owners_from}

-- the lengths of all rings of cells
abbrev pub lengths_of : List Raw → List ℕ
lengths_of cs = map length (each rings_of cs)

-- the next cell's, and those behind them
pub lengths_next : (c : Raw) (cs rest : List Raw) → rest ≡ c ∷ cs → lengths_of rest ≡ map length (rings_of c) ++ lengths_of cs
lengths_next c cs rest is = ap lengths_of is ∙ map-append length (rings_of c) (each rings_of cs)

-- ---- the cell of each face

-- cells have as many owners as rings
pub owners_length : (i : ℕ) (cs : List Raw) → length (owners_from i cs) ≡ length (each rings_of cs)
owners_length i [] = refl
owners_length i (c ∷ cs) =
    omega (
      arith,
      length-append (replicate (length (rings_of c)) i) (owners_from (suc i) cs),
      length-replicate (length (rings_of c)) i,
      owners_length (suc i) cs,
      length-append (rings_of c) (each rings_of cs),
    )

-- the next cell's, and those behind them
pub owners_next : (i k j n : ℕ) (c : Raw) (cs rest : List Raw) → rest ≡ c ∷ cs → i ≡ k → j ≡ k + 1 → n ≡ length (rings_of c) → owners_from k rest ≡ replicate n i ++ owners_from j cs
owners_next i k j n c cs rest is e f a = rw (is, e, f, a, add-one k)

-- ---- the first face of each cell

-- the number of the next cell's first face, and those behind it
pub firsts_next : (n m : ℕ) (c : Raw) (cs rest : List Raw) → rest ≡ c ∷ cs → m ≡ n + length (rings_of c) → starts_of n (map rings_of rest) ≡ (n ∷ []) ++ starts_of m (map rings_of cs)
firsts_next n m c cs rest is e = rw (is, e)

pub faces_left : (n m : ℕ) (c : Raw) (cs rest : List Raw) → rest ≡ c ∷ cs → m ≡ n + length (rings_of c) → m + length (each rings_of cs) ≡ n + length (each rings_of rest)
faces_left n m c cs rest is e = omega (arith, e, ap (λ (l : List Raw). length (each rings_of l)) is, length-append (rings_of c) (each rings_of cs))
