-- A cell's ring among its words, or among its rings laid flat.
use Prim.Native.Nat.{ℕ, suc, ◌+◌, ◌-◌, ◌≤◌, ◌<◌}
use mathlib.Core.Path.{◌≡◌, refl, sym, ap, ap₂, ◌∙◌}
use mathlib.Core.Logic.{◌≢◌}
use mathlib.Core.List.{List, [], ◌∷◌, ◌++◌}
use native.Mathlib.Omega.{arith}
use lib.ListN.{length, get_or, take, drop}
use lib.Seq.{sets, split_at, take_at, drop_at}
use denote.Ref.{Bor}
use Rattle.std.specs.declared.ops.Range.{Range}
use Rattle.std.specs.Prelude.{Option, Some, None}
use Rattle.std.specs.Option.{IsSome, option_map}
use Rattle.std.specs.Iterator.{YieldsFirstBy, SkipsThenYields}
use Rattle.std.proofs.lemmas.Option.{slice_get-get_or, same_Some}
use Rattle.std.proofs.lemmas.Iterator.Consumers.{YieldsList-from_first, nth_from_yields_List}
use Rattle.laws.specs.Lists.{each}
use Rattle.laws.specs.Merging.{region}
use Rattle.laws.proofs.ListLaws.{each_append}
use Rattle.laws.proofs.Stores.{region_within}
use Rattle.mesh.specs.Kinds.{kind_number}
use Rattle.mesh.specs.Steps.{ring_total}
use Rattle.mesh.specs.PhedRest.{phed_rest}
use Rattle.mesh.specs.declared.kind.Kind.{Kind}
use Rattle.mesh.specs.declared.kind.Kind.TheVariants.{Tet4, Hex8, Wedge6, Phed}
use Rattle.mesh.specs.declared.phed.PhedRings.{PhedRings}
use Rattle.faces.specs.Spans.{SpanIn}
use Rattle.faces.proofs.Rings.{span_within}

-- ---- among the words

-- the ring of number n of a PHED's
module _ (s u : PhedRings) (n : ℕ) (r : Option (Bor (List ℕ))) (ran : SkipsThenYields (YieldsFirstBy (λ x. x.now) phed_rest) s n r u) (h : n < length (phed_rest s)) where
  found : option_map (λ x. x.now) r ≡ Some (get_or (phed_rest s) n [])
  found = nth_from_yields_List r u n ran (YieldsList-from_first (λ x. x.now) phed_rest (phed_rest s) refl) ∙ slice_get-get_or (phed_rest s) n [] h

  pub phed_there : IsSome r
  phed_there = go r found
    where
      go : (q : Option (Bor (List ℕ))) → option_map (λ x. x.now) q ≡ Some (get_or (phed_rest s) n []) → IsSome q
      go None e = absurd (cc)
      go (Some x) e = refl

  pub phed_is_lem : (x : Bor (List ℕ)) → r ≡ Some x → x.now ≡ get_or (phed_rest s) n []
  phed_is_lem x e = same_Some x.now (get_or (phed_rest s) n []) (sym (ap (option_map (λ (y : Bor (List ℕ)). y.now)) e) ∙ found)

-- ---- among rings laid flat

-- the kind of a cell that is no PHED
pub no_phed : (k : Kind) → k ≢ Phed → kind_number k ≢ 4
no_phed Tet4 z e = omega arith
no_phed Hex8 z e = omega arith
no_phed Wedge6 z e = omega arith
no_phed Phed z e = z refl

abbrev flat : List (List ℕ) → List ℕ
flat rs = each (λ r. r) rs

-- a ring among them
ring_part_lem : (rs : List (List ℕ)) (f : ℕ) → f < length rs → region (ring_total (take f rs)) (length (get_or rs f [])) (flat rs) ≡ get_or rs f []
ring_part_lem rs f h =
    let a = take f rs in
    let r = get_or rs f [] in
    let rest = drop (suc f) rs in
    ap (λ (l : List (List ℕ)). region (ring_total a) (length r) (flat l)) (split_at rs f [] h)
    ∙ ap (λ (l : List ℕ). region (ring_total a) (length r) l) (each_append (λ (l : List ℕ). l) a (r ∷ rest))
    ∙ ap (take (length r)) (drop_at (flat a) (r ++ flat rest) (ring_total a) refl)
    ∙ take_at r (flat rest) (length r) refl

-- the same where they are put in front of a list
module _ (rs : List (List ℕ)) (f : ℕ) (h : f < length rs) (s : Range ℕ) (p : SpanIn rs f s) where
  pub span_end : s.end ≤ ring_total rs
  span_end = omega (arith, p.start, p.end, span_within rs f h)

  pub span_is : (l v : List ℕ) → ring_total rs ≤ length l → v ≡ sets l 0 (flat rs) → take (s.end - s.start) (drop s.start v) ≡ get_or rs f []
  span_is l v room a =
      let n : s.end - s.start ≡ length (get_or rs f []) = omega (arith, p.end) in
      let m : s.start ≡ 0 + ring_total (take f rs) = omega (arith, p.start) in
      ap₂ (λ (k j : ℕ). take k (drop j v)) n m
      ∙ ap (λ (x : List ℕ). take (length (get_or rs f [])) (drop (0 + ring_total (take f rs)) x)) a
      ∙ region_within (ring_total (take f rs)) (length (get_or rs f [])) l 0 (flat rs) (span_within rs f h) (omega arith)
      ∙ ring_part_lem rs f h
