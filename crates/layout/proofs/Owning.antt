-- Faces by cell: the faces of a cell are the numbers from its first to the next cell's.
use Prim.Native.Nat.{ℕ, zero, suc, ◌+◌, ◌-◌, ◌≤◌, ◌<◌}
use mathlib.Core.Path.{◌≡◌, ap, ◌∙◌}
use mathlib.Core.Logic.{◌⊎◌, inl, inr}
use mathlib.Core.List.{List}
use native.Mathlib.Omega.{arith}
use Rattle.std.proofs.lemmas.Bool.{cases_lt}
use Rattle.index.specs.Faces.{cell_of}
use Rattle.layout.specs.declared.Layout.{Layout}
use Rattle.layout.specs.Tables.{first_of, Faced}

module _ (l : Layout) (t : List ℕ) (f : Faced l t) where
  -- first faces rise
  pub first_mono : (k c : ℕ) → c + k ≤ l.at.cell_count → first_of l t c ≤ first_of l t (c + k)
  first_mono zero c h = let e : c + 0 ≡ c = omega arith in let q = ap (first_of l t) e in omega (arith, q)
  first_mono (suc k) c h =
      let e : c + 1 + k ≡ c + suc k = omega arith in
      let q = ap (first_of l t) e in
      omega (arith, f.first_rising c (omega (arith, h)), first_mono k (c + 1) (omega (arith, h)), q)

  -- some cell has face g
  found : (k c g : ℕ) → c + k ≡ l.at.cell_count → first_of l t c ≤ g → g < l.at.faces → (first_of l t (cell_of l.at t g) ≤ g) × (g < first_of l t (cell_of l.at t g + 1))
  found zero c g e a b =
      let z : c ≡ l.at.cell_count = omega (arith, e) in
      let q = ap (first_of l t) z ∙ f.first_last in
      absurd (omega (arith, a, b, q))
  found (suc k) c g e a b = go (cases_lt g (first_of l t (c + 1))) (λ h. found k (c + 1) g (omega (arith, e)) h b)
    where
      go : (g < first_of l t (c + 1)) ⊎ (first_of l t (c + 1) ≤ g) → (first_of l t (c + 1) ≤ g → (first_of l t (cell_of l.at t g) ≤ g) × (g < first_of l t (cell_of l.at t g + 1))) → (first_of l t (cell_of l.at t g) ≤ g) × (g < first_of l t (cell_of l.at t g + 1))
      go (inl h) rest =
          let is : cell_of l.at t g ≡ c = f.owned c g (omega (arith, e)) a h in
          (omega (arith, a, ap (first_of l t) is), omega (arith, h, ap (λ (x : ℕ). first_of l t (x + 1)) is))
      go (inr h) rest = rest h

  -- namely its own
  pub cell_range : (g : ℕ) → g < l.at.faces → (first_of l t (cell_of l.at t g) ≤ g) × (g < first_of l t (cell_of l.at t g + 1))
  cell_range g h = found l.at.cell_count 0 g (omega arith) (omega (arith, f.first_zero)) h

  -- a later face of another cell is of a later cell
  pub later_cell : (c f' g : ℕ) → c < l.at.cell_count → first_of l t c ≤ f' → f' < g → g < l.at.faces → (cell_of l.at t g ≡ c → ⊥) → c < cell_of l.at t g
  later_cell c f' g low a b h n = go (cases_lt (cell_of l.at t g) c)
    where
      go : (cell_of l.at t g < c) ⊎ (c ≤ cell_of l.at t g) → c < cell_of l.at t g
      go (inl less) =
          let k : cell_of l.at t g + 1 + (c - (cell_of l.at t g + 1)) ≡ c = omega (arith, less) in
          let q = ap (first_of l t) k in
          absurd (omega (arith, (cell_range g h).1, first_mono (c - (cell_of l.at t g + 1)) (cell_of l.at t g + 1) (omega (arith, k, low)), q, a, b))
      go (inr more) = omega (arith, more, n)
