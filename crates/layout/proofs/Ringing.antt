-- Words of the tables below the marks of bow-ties, read from the whole slice.
use Prim.Native.Nat.{ℕ, ◌+◌, ◌-◌, ◌≤◌, ◌<◌}
use mathlib.Core.Path.{◌≡◌, sym, ap, ap₂, ◌∙◌}
use mathlib.Core.List.{List}
use native.Mathlib.Omega.{arith}
use lib.ListN.{length, get_or, take, length-take}
use lib.Seq.{get_or-take}
use Rattle.laws.specs.Merging.{region}
use Rattle.laws.proofs.Stores.{region-take, length-region}
use Rattle.layout.specs.declared.Layout.{Layout}
use Rattle.layout.specs.Tables.{ring_row, Ringed}

module _ (l : Layout) (w : List ℕ) (f : Ringed l (take l.at.bows w)) where
  -- the slice holds all words of the tables
  pub tables_in : l.at.bows ≤ length w
  tables_in = omega (arith, f.whole, length-take l.at.bows w)

  -- a word of the tables is the slice's
  pub word_is : (i : ℕ) → i < l.at.bows → get_or w i 0 ≡ get_or (take l.at.bows w) i 0
  word_is i h = sym (get_or-take l.at.bows w i 0 h)

-- ring g of the tables in w starts at s and ends at e, counted in words
pub record Ring (l : Layout) (w : List ℕ) (g s e : ℕ) : Type 0 where
  pub ringed : Ringed l (take l.at.bows w)
  pub face : g < l.at.faces
  pub from : s ≡ get_or (take l.at.bows w) (l.rows + g) 0
  pub to : e ≡ get_or (take l.at.bows w) (l.rows + (g + 1)) 0

module _ {l : Layout} {w : List ℕ} {g s e : ℕ} (p : Ring l w g s e) where
  -- the bounds rise, and end within all words
  pub rows_rise : s ≤ e
  rows_rise = omega (arith, p.ringed.rising g p.face)

  pub rows_within : e ≤ l.total
  rows_within = omega (arith, p.ringed.within (g + 1) (omega arith))

  -- what stands between them is the ring
  pub ring_is : region (l.rings + s) (e - s) w ≡ ring_row l (take l.at.bows w) g
  unfolding ring_row
  ring_is =
      sym (region-take (l.rings + s) (e - s) l.at.bows w (omega (arith, rows_rise, rows_within, p.ringed.rings_at)))
      ∙ ap₂ (λ (a b : ℕ). region (l.rings + a) (b - a) (take l.at.bows w)) p.from p.to

  -- it is as long as they are apart
  pub ring_long : length (ring_row l (take l.at.bows w) g) ≡ e - s
  ring_long =
      ap length (sym ring_is)
      ∙ length-region (l.rings + s) (e - s) w (omega (arith, rows_rise, rows_within, p.ringed.rings_at, tables_in l w p.ringed))
