-- The keys put where there is room for them and the node sets.
use Prim.Native.Nat.{ℕ}
use mathlib.Core.Path.{◌≡◌, sym, ap, ◌∙◌, subst}
use mathlib.Core.List.{List}
use native.Mathlib.Omega.{arith}
use lib.ListN.{length, take}
use lib.Seq.{sets, length-sets}
use Rattle.laws.specs.Lists.{each}
use Rattle.laws.specs.Merging.{region, starts_of}
use Rattle.laws.proofs.Stores.{take_before, region_same}
use Rattle.layout.specs.declared.Layout.{Layout}
use Rattle.layout.specs.Tables.{Ringed}
use Rattle.node_sets.specs.Sets.{keys_of, sets_from, TablesFit, Keyed}
use Rattle.node_sets.proofs.Keys.{keys_long}

module _ (l : Layout) (w v : List ℕ) (p : TablesFit l w) (put : v ≡ sets w l.keys (keys_of l (take l.at.bows w) l.at.faces)) where
  -- the tables of rings
  abbrev t : List ℕ
  t = take l.at.bows w

  -- the keys
  abbrev keys : List ℕ
  keys = keys_of l t l.at.faces

  -- the tables before the keys are as before
  same : take l.at.bows v ≡ t
  same = ap (take l.at.bows) put ∙ take_before l.at.bows w l.keys keys p.keys_at

  -- there are as many words of keys as of rings
  long : length keys ≡ l.total
  long = keys_long l t p.ringed l.at.faces (omega arith) ∙ p.ringed.row_last

  -- the keys stand
  pub keys_stand : Keyed l v
  keys_stand =
      record {
        fit = record {
          ringed = subst (Ringed l) (sym same) p.ringed;
          keys_at = p.keys_at;
          starts_at = p.starts_at;
          sets_at = p.sets_at;
          ends = omega (arith, p.ends, ap length put, length-sets w l.keys keys);
          small = p.small;
        };
        keyed =
            ap (λ (n : ℕ). region l.keys n v) (sym long)
            ∙ ap (region l.keys (length keys)) put
            ∙ region_same w l.keys keys (omega (arith, long, p.starts_at, p.sets_at, p.ends))
            ∙ ap (λ (r : List ℕ). keys_of l r l.at.faces) (sym same);
      }

  -- the node sets put behind them are those of the tables before
  pub sets_stand : (r : ℕ) (u : List ℕ)
      → (r ≡ length (each (λ s. s) (sets_from l (take l.at.bows v) 0 l.at.faces))) × (u ≡ sets (sets v l.at.starts (starts_of 0 (sets_from l (take l.at.bows v) 0 l.at.faces))) l.at.sets (each (λ s. s) (sets_from l (take l.at.bows v) 0 l.at.faces)))
      → (r ≡ length (each (λ s. s) (sets_from l t 0 l.at.faces))) × (u ≡ sets (sets (sets w l.keys keys) l.at.starts (starts_of 0 (sets_from l t 0 l.at.faces))) l.at.sets (each (λ s. s) (sets_from l t 0 l.at.faces)))
  sets_stand r u e = (
    e.0 ∙ ap (λ (x : List ℕ). length (each (λ s. s) (sets_from l x 0 l.at.faces))) same,
    e.1
        ∙ ap (λ (x : List ℕ). sets (sets v l.at.starts (starts_of 0 (sets_from l x 0 l.at.faces))) l.at.sets (each (λ s. s) (sets_from l x 0 l.at.faces))) same
        ∙ ap (λ (x : List ℕ). sets (sets x l.at.starts (starts_of 0 (sets_from l t 0 l.at.faces))) l.at.sets (each (λ s. s) (sets_from l t 0 l.at.faces))) put,
  )
