-- Node sets: read off the keys, and one after the other.
use Prim.Native.Nat.{ℕ, suc, ◌+◌, ◌-◌, ◌≤◌, ◌<◌}
use mathlib.Core.Path.{◌≡◌, sym, ap, ap₂, ◌∙◌}
use mathlib.Core.List.{List, ◌∷◌}
use native.Mathlib.Numerals.{add-one}
use native.Mathlib.Omega.{arith}
use lib.Dec.{leb}
use lib.ListN.{length, get_or, take, length-map}
use Rattle.laws.specs.Lists.{up_from}
use Rattle.laws.specs.Merging.{region, starts_of}
use Rattle.laws.proofs.ListLaws.{length-up_from}
use Rattle.laws.proofs.Sorting.{by_number}
use Rattle.laws.proofs.Stores.{region-take}
use Rattle.laws.proofs.Rows.{starts_length}
use Rattle.mesh.specs.Rings.{node_set}
use Rattle.layout.specs.declared.Layout.{Layout}
use Rattle.layout.specs.Tables.{ring_row}
use Rattle.node_sets.specs.Unique.{unique}
use Rattle.node_sets.specs.Sets.{keys_of, sets_from, Keyed}
use Rattle.node_sets.proofs.Unique.{unique_sort}
use Rattle.node_sets.proofs.Keys.{key_at}

module _ (l : Layout) (w : List ℕ) (f : Keyed l w) where
  abbrev t : List ℕ
  t = take l.at.bows w

  -- all keys, read in front of the starts
  pub keys_are : region l.keys (l.keys + l.total - l.keys) (take l.at.starts w) ≡ keys_of l t l.at.faces
  keys_are =
      let n : l.keys + l.total - l.keys ≡ l.total = omega arith in
      ap (λ (k : ℕ). region l.keys k (take l.at.starts w)) n ∙ region-take l.keys l.total l.at.starts w f.fit.starts_at ∙ f.keyed

  module _ (g : ℕ) (h : g < l.at.faces) (a e : ℕ) (from : a ≡ get_or t (l.rows + g) 0) (to : e ≡ get_or t (l.rows + (g + 1)) 0) where
    -- the bounds of a row rise
    pub row_rises : a ≤ e
    row_rises = omega (arith, f.fit.ringed.rising g h, from, to)

    -- what stands between them, without its repeats, is the node set
    pub set_is : (keys : List ℕ) → keys ≡ keys_of l t l.at.faces → unique leb (region a (e - a) keys) ≡ node_set (ring_row l t g)
    set_is keys is =
        ap (λ (r : List ℕ). unique leb (region a (e - a) r)) is
        ∙ ap₂ (λ (x y : ℕ). unique leb (region x (y - x) (keys_of l t l.at.faces))) from to
        ∙ ap (unique leb) (key_at l t f.fit.ringed g h)
        ∙ unique_sort leb by_number (ring_row l t g)

-- there is one start more than faces
pub starts_long : (l : Layout) (t : List ℕ) → length (starts_of 0 (sets_from l t 0 l.at.faces)) ≡ l.at.faces + 1
starts_long l t =
    omega (arith, starts_length 0 (sets_from l t 0 l.at.faces), length-map (up_from 0 l.at.faces) (λ (i : ℕ). node_set (ring_row l t i)), length-up_from 0 l.at.faces)

-- one face less is left
pub sets_next : (l : Layout) (t : List ℕ) (n g : ℕ) → g < n → sets_from l t g (n - g) ≡ node_set (ring_row l t g) ∷ sets_from l t (g + 1) (n - (g + 1))
sets_next l t n g h =
    let k : n - g ≡ suc (n - (g + 1)) = omega arith in
    ap (sets_from l t g) k ∙ ap (λ (i : ℕ). node_set (ring_row l t g) ∷ sets_from l t i (n - (g + 1))) (sym (add-one g))
