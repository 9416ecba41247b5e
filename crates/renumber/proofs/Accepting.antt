-- A renumbered model is accepted where the model is, and needs the same work but for its nodes.
use Prim.Native.Nat.{ℕ, ◌+◌, ◌*◌}
use mathlib.Core.Path.{◌≡◌, refl, sym, ap, ap₂, ◌∙◌}
use mathlib.Core.Logic.{inl, inr}
use mathlib.Core.Bool.{Bool, true, false, not, cond, ◌&&◌, ◌||◌}
use mathlib.Core.List.{List}
use native.Mathlib.Omega.{arith}
use borrow.Author.Tests.{lt-leb, le-leb}
use lib.Dec.{leb, ltb, eqb}
use lib.ListN.{length}
use Rattle.laws.specs.Lists.{any}
use Rattle.laws.specs.Limits.{cell_limit, word_limit, ring_limit, flag_limit}
use Rattle.std.proofs.lemmas.Bool.{or_parts}
use Rattle.geometry.specs.Coordinates.{node_count, tolerance_off}
use Rattle.mesh.specs.Model.{Model, Raw, TET4, HEX8, WEDGE6, PHED, ascending}
use Rattle.mesh.specs.Rings.{separator, runs, ring_words}
use Rattle.mesh.specs.Acceptance.{ends_off, count_wrong, node_off, faces_in, work_needed}
use Rattle.mesh.proofs.ModelTable.{face_count_lem, ring_words_lem}
use Rattle.mesh.proofs.Accepts.{cell_wrong, Accepts}
use Rattle.renumber.specs.Renumbering.{Renumbering}
use Rattle.renumber.proofs.Alike.{Alike, empty, link, length_alike, each_alike, any_alike, with_none}
use Rattle.renumber.proofs.Cells.{Word}
use Rattle.renumber.proofs.Models.{Goes, CellGoes, old_few, new_few, low, words_go, cells_go, runs_go, rings_go}

-- no element passes where none alike does
none_alike : {A B : Type 0} {F : A → B → Type 0} (q : B → Bool) → ((a : A) (b : B) → F a b → q b ≡ false)
    → {l : List A} {m : List B} → Alike F l m → any q m ≡ false
none_alike q h empty = refl
none_alike q h (link {a = a} {b = b} e r) = rw (h a b e) (none_alike q h r)

module _ (ρ : ℕ → ℕ) (m n : Model) (h : Renumbering ρ m n) (ok : Accepts m) where
  -- so many nodes, before and after
  abbrev N : ℕ
  N = node_count m.coords

  abbrev K : ℕ
  K = node_count n.coords

  -- ---- cells

  -- a word that passes among the old nodes passes among the new
  word_passes : (k w v : ℕ) → Word (Goes ρ m) w v → node_off N k w ≡ false → node_off K k v ≡ false
  word_passes k w v (inl e) o =
      let P : Bool = not (eqb k PHED && eqb separator separator) in
      let a : leb N separator ≡ true = le-leb N separator (old_few ρ m n h ok) in
      let b : leb K separator ≡ true = le-leb K separator (new_few ρ m n h ok) in
      let p : P ≡ false = ap (λ (t : Bool). t && P) (sym a) ∙ ap (node_off N k) (sym e.0) ∙ o in
      ap (node_off K k) e.1 ∙ ap (λ (t : Bool). t && P) b ∙ p
  word_passes k w v (inr e) o = rw (lt-leb K v (low ρ m n h ok w v e).1)

  words_pass : (k : ℕ) {ws vs : List ℕ} → Alike (Word (Goes ρ m)) ws vs → any (node_off N k) ws ≡ false → any (node_off K k) vs ≡ false
  words_pass k g o = none_alike (node_off K k) (λ w v e. word_passes k w v e.0 e.1) (with_none (node_off N k) o g)

  -- as many words, and runs as long
  count_same : (a b : Raw) → CellGoes ρ m a b → count_wrong a ≡ count_wrong b
  count_same a b g =
      let long : any (λ r. ltb ring_limit (length r)) (runs a.words) ≡ any (λ r. ltb ring_limit (length r)) (runs b.words) =
      any_alike (λ r. ltb ring_limit (length r)) (λ r. ltb ring_limit (length r)) (λ r s f. ap (ltb ring_limit) (length_alike f))
      (runs_go ρ m n h ok g.words) in
      λ i. cond (eqb (g.kind i) TET4) (not (eqb (length_alike g.words i) 4))
      (cond (eqb (g.kind i) HEX8) (not (eqb (length_alike g.words i) 8))
      (cond (eqb (g.kind i) WEDGE6) (not (eqb (length_alike g.words i) 6)) (eqb (length_alike g.words i) 0 || long i)))

  right_cell : (a b : Raw) → CellGoes ρ m a b → cell_wrong K b ≡ false
  unfolding cell_wrong
  right_cell a b g =
      let p = or_parts (eqb a.kind 0 || ltb PHED a.kind) (count_wrong a || any (node_off N a.kind) a.words) g.right in
      let q = or_parts (count_wrong a) (any (node_off N a.kind) a.words) p.1 in
      let k : (eqb b.kind 0 || ltb PHED b.kind) ≡ false = ap (λ (j : ℕ). eqb j 0 || ltb PHED j) (sym g.kind) ∙ p.0 in
      let c : count_wrong b ≡ false = sym (count_same a b g) ∙ q.0 in
      let w : any (node_off K b.kind) b.words ≡ false =
      ap (λ (j : ℕ). any (node_off K j) b.words) (sym g.kind) ∙ words_pass a.kind g.words q.1 in
      rw (k, c, w)

  ascends_same : (j : ℕ) {cs ds : List Raw} → Alike (CellGoes ρ m) cs ds → ascending j cs ≡ ascending j ds
  ascends_same j empty = refl
  ascends_same j (link {a = a} {b = b} {l = cs} {m = ds} g r) =
      ap₂ (λ (u v : Bool). u && v) (ap (leb j) g.kind) (ascends_same a.kind r ∙ ap (λ (i : ℕ). ascending i ds) g.kind)

  -- ---- the model

  words_same : length n.words ≡ length m.words
  words_same = sym (length_alike (words_go ρ m n h ok))

  pub renumbered_accepts : Accepts n
  renumbered_accepts =
      record {
        coordinates = h.count;
        cells = ap (λ (l : List ℕ). ltb cell_limit (length l)) h.kinds ∙ ok.cells;
        words = ap (ltb word_limit) words_same ∙ ok.words;
        paired = ap length h.kinds ∙ ok.paired ∙ ap length (sym h.ends);
        ends = ap₂ (ends_off 0) h.ends words_same ∙ ok.ends;
        tolerance = ap tolerance_off h.tolerance ∙ ok.tolerance;
        places = h.places;
        some = ap (λ (l : List ℕ). eqb (length l) 0) h.kinds ∙ ok.some;
        ascends = sym (ascends_same 0 (cells_go ρ m n h ok)) ∙ ok.ascends;
        right = none_alike (cell_wrong K) right_cell (cells_go ρ m n h ok);
        flags = ap (ltb flag_limit) h.flags ∙ ok.flags;
      }

  -- the work differs by four words a node
  pub renumbered_work : work_needed n + 4 * node_count m.coords ≡ work_needed m + 4 * node_count n.coords
  unfolding work_needed
  renumbered_work =
      let g = rings_go ρ m n h ok in
      let f : length (faces_in n) ≡ length (faces_in m) = face_count_lem n ∙ sym (length_alike g) ∙ sym (face_count_lem m) in
      let w : length (ring_words (faces_in n)) ≡ length (ring_words (faces_in m)) =
      ap length (ring_words_lem n) ∙ sym (length_alike (each_alike (λ (r : List ℕ). r) (λ (r : List ℕ). r) (λ r s e. e) g)) ∙ ap length (sym (ring_words_lem m)) in
      let k : length n.kinds ≡ length m.kinds = ap length h.kinds in
      let l : length n.words ≡ length m.words = words_same in
      omega arith
