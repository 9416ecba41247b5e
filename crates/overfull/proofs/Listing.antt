-- The list of a key of face g in the second index holds all faces with g's sorted ring.
use Prim.Native.Nat.{ℕ, suc, ◌+◌, ◌-◌, ◌≤◌, ◌<◌}
use mathlib.Core.Path.{◌≡◌, sym, ap, ap₂, ◌∙◌, subst}
use mathlib.Core.Bool.{true}
use mathlib.Core.List.{List}
use native.Mathlib.Omega.{arith}
use lib.ListN.{length, take, drop, length-take}
use lib.Seq.{get_or-take, get_or-drop}
use Rattle.laws.specs.Lists.{keep, elem}
use Rattle.laws.proofs.Stores.{region-take}
use Rattle.counting.specs.Counts.{times, below}
use Rattle.counting.proofs.CountLaws.{below_suc}
use Rattle.index.specs.declared.Places.{Places}
use Rattle.index.specs.declared.by_node.Index.{Index}
use Rattle.index.specs.Read.{input_of, set_of}
use Rattle.index.specs.Faces.{input, base, nodes_of, words_of, Indexed}
use Rattle.merge.specs.Runs.{rest}
use Rattle.index.proofs.Read.{below_words}
use Rattle.seek.proofs.Searching.{input_base}
use Rattle.triple_keys.specs.Keys.{Keyed}
use Rattle.triples.specs.Hits.{Beside}
use Rattle.triples.proofs.OneList.{ends_in, within, all_faces, the_list}
use Rattle.triples.proofs.Found.{keyed_beside}
use Rattle.layout.specs.declared.Layout.{Layout}
use Rattle.layout.specs.Tables.{Faced, Standing}
use Rattle.overfull.specs.Alike.{same_as, alike, Listed}
use Rattle.overfull.proofs.Members.{in_list, has_keys}
use Rattle.overfull.proofs.Nodes.{member_low}

module _ (l : Layout) (q : Places) (w : List ℕ) (s : Standing l w) (kd : Keyed l.at q (base l.at w)) (g : ℕ) (h : g < l.at.faces) where
  abbrev b : List ℕ
  b = base l.at w

  -- `found` lies within the slice
  pub room : l.at.found ≤ length w
  room = omega (arith, s.spaced.marks_at, s.spaced.others_at, s.spaced.last_at, s.spaced.pairs_at, s.spaced.spare_at, s.spaced.ends)

  -- what is read of the tables
  faced : Faced l (input l.at b)
  faced = subst (Faced l) (sym (input_base l.at w s.below)) s.faced

  -- the second index can be read
  pub indexed_by : (q.found ≤ length w) × Indexed q (base q w)
  indexed_by = (omega (arith, kd.found, room), subst (Indexed q) (ap (λ (n : ℕ). take n w) (sym kd.found)) kd.indexed)

  -- as it is read
  module _ (ix : Index) (is : (ix.base.now ≡ base q w) × (ix.at ≡ q)) where
    set_is : set_of ix g ≡ nodes_of q (input q b) g
    set_is = ap₂ (λ (at : Places) (t : List ℕ). nodes_of at (input at t) g) is.1 (is.0 ∙ ap (λ (n : ℕ). take n w) kd.found)

    -- g is a face of it
    pub face : g < ix.at.faces
    face = omega (arith, h, kd.faces, ap (λ (at : Places). at.faces) is.1)

    -- and has keys there
    pub has_key : 0 < length (set_of ix g)
    has_key = rw set_is (has_keys l (input l.at b) faced g h q (input q b) kd.faces kd.keys)

    module _ (v : ℕ) (m : elem v (set_of ix g) ≡ true) where
      e : elem v (nodes_of q (input q b) g) ≡ true
      e = sym (ap (elem v) set_is) ∙ m

      -- v is a key
      low : v < q.nodes
      low = member_low q b kd.indexed g (omega (arith, h, kd.faces)) v e

      -- the second index
      bs : Beside l.at q b
      bs = keyed_beside l.at q b kd

      -- which has a list
      pub list_low : v < ix.at.nodes
      list_low = omega (arith, low, ap (λ (at : Places). at.nodes) is.1)

      module _ (x y : ℕ) (ends : (x ≡ ix.at.index + below v (words_of ix.at (input_of ix))) × (y ≡ x + times v (words_of ix.at (input_of ix)))) where
        at : (x ≡ q.index + below v (words_of q (input q b))) × (y ≡ x + times v (words_of q (input q b)))
        at = ends_in l.at ix w v kd.found is ends

        -- within the slice
        pub ends_in_lem : (x ≤ y) × (y ≤ l.at.found) × (l.at.found ≤ length w)
        ends_in_lem = let o = within l.at q w room bs v low x y at.0 at.1 in (o.0, o.1, room)

        -- its words are faces
        pub listed : Listed l g (rest x y w)
        listed =
            let S = words_of q (input q b) in
            record {
              face = h;
              few =
                  omega (
                    arith,
                    length-take (y - x) (drop x w),
                    at,
                    below_suc v S,
                    below_words q b kd.indexed (suc v),
                    kd.indexed.small.0,
                  );
              faces = λ i k.
                  let n : i < y - x = omega (arith, k, length-take (y - x) (drop x w)) in
                  let f = all_faces l.at q w room bs v low x y at.0 at.1 (x + i) (omega arith) (omega (arith, n)) in
                  rw (get_or-take (y - x) (drop x w) i 0 n ∙ get_or-drop x w i 0 ∙ sym (get_or-take l.at.found w (x + i) 0 (omega (arith, n, ends_in_lem)))) f;
            }

        -- and all that have g's sorted ring are among them
        pub all_alike : keep (same_as l (input l.at w) g) (rest x y w) ≡ alike l (input l.at w) g
        all_alike =
            let same = input_base l.at w s.below in
            ap₂ (λ (t r : List ℕ). keep (same_as l t g) r) (sym same) (sym (region-take x (y - x) l.at.found w (omega (arith, ends_in_lem))) ∙ the_list l.at q w room bs v low x y at.0 at.1)
            ∙ in_list l (input l.at b) faced g h q (input q b) kd.faces kd.keys v e
            ∙ ap (λ (t : List ℕ). alike l t g) same
