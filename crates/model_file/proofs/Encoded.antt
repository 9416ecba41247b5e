-- What reading finds in the records that writing makes.
use Prim.Native.Nat.{ℕ, zero, suc, ◌+◌, ◌*◌, ◌-◌, ◌/◌, ◌%◌, ◌≤◌, ◌<◌}
use mathlib.Core.Path.{◌≡◌, refl, sym, ap, ap₂, ◌∙◌}
use mathlib.Core.List.{List, [], ◌∷◌, ◌++◌, append_assoc}
use mathlib.Core.Bool.{Bool, true, false, cond}
use native.Mathlib.Nat.{add-zero}
use native.Mathlib.Omega.{arith}
use lib.ListN.{length, take, drop, replicate, length-append, length-take, length-drop, take-append-drop}
use lib.Seq.{length-take-le}
use lib.Dec.{eqb, ltb}
use lib.Ieee.{Float}
use borrow.Author.Tests.{eq-eqb, eqb-true, ltb-false, not-false}
use Rattle.laws.specs.Lists.{only_if, All}
use Rattle.std.proofs.lemmas.Bool.{or_parts}
use Rattle.mesh.specs.Acceptance.{ends_off}
use Rattle.mesh.specs.Steps.{cell_with}
use Rattle.mesh.proofs.Ends.{ends_most}
use Rattle.model_file.specs.Records.{last_record, after_full, ended}
use Rattle.model_file.specs.File.{node_records, more_records, cell_records, coords_of, kinds_of, words_of, ends_of}
use Rattle.model_file.specs.Steps.{cells, judge}
use Rattle.model_file.specs.Held.{Fits}
use Rattle.laws.proofs.Holding.{all_take, all_drop}
use Rattle.model_file.specs.declared.Stage.{Stage}
use Rattle.model_file.specs.declared.Stage.TheVariants.{Nodes, Cells, Full}
use Rattle.model_file.proofs.Judgement.{stage_open}
use Rattle.model_file.proofs.Fields.{Word, words_bytes}
use Rattle.model_file.proofs.Layouts.{node_coords_lem, word_right}

-- records that are right after any record of the cells, and after the nodes
abbrev pub Follows : List (List ℕ) → Type 0
Follows rs = (s : Stage) → ended s ≡ false → judge s rs ≡ 0

-- ---- nodes

-- what is read of nodes in front of other records
pub record NodesRead (cs : List Float) (rs : List (List ℕ)) : Type 0 where
  pub coords : coords_of (node_records cs ++ rs) ≡ cs ++ coords_of rs
  pub kinds : kinds_of (node_records cs ++ rs) ≡ kinds_of rs
  pub words : words_of (node_records cs ++ rs) ≡ words_of rs
  pub ends : ends_of false 0 (node_records cs ++ rs) ≡ ends_of false 0 rs
  pub judged : judge Nodes (node_records cs ++ rs) ≡ judge Nodes rs

-- three coordinates less
three : (n : ℕ) → suc (suc (suc n)) % 3 ≡ 0 → n % 3 ≡ 0
three n h = omega arith

-- nodes are read back
pub nodes_read : (cs : List Float) (rs : List (List ℕ)) → length cs % 3 ≡ 0 → All Fits cs → NodesRead cs rs
nodes_read [] rs h k = record { coords = refl; kinds = refl; words = refl; ends = refl; judged = refl }
nodes_read (x ∷ []) rs h k = absurd (omega arith)
nodes_read (x ∷ y ∷ []) rs h k = absurd (omega arith)
nodes_read (x ∷ y ∷ z ∷ cs) rs h k =
    let i = nodes_read cs rs (three (length cs) h) k.1.1.1 in
    record {
      coords = ap₂ (λ (s t : List Float). s ++ t) (node_coords_lem x y z k.0 k.1.0 k.1.1.0) i.coords;
      kinds = i.kinds;
      words = i.words;
      ends = i.ends;
      judged = i.judged;
    }

-- ---- the records that continue a cell

-- so many records hold so many words
abbrev pub Holds : ℕ → ℕ → Type 0
Holds n w = (w ≤ 14 * n) × (14 * n < w + 14)

-- what is read of them in front of other records
pub record MoresRead (n : ℕ) (ws : List ℕ) (rs : List (List ℕ)) : Type 0 where
  pub coords : coords_of (more_records n ws ++ rs) ≡ coords_of rs
  pub kinds : kinds_of (more_records n ws ++ rs) ≡ kinds_of rs
  pub words : words_of (more_records n ws ++ rs) ≡ ws ++ words_of rs
  pub ends : (at : ℕ) → ends_of true at (more_records n ws ++ rs) ≡ ends_of true (at + length ws) rs
  pub judged : (s : Stage) → ended s ≡ false → (1 ≤ n → after_full s ≡ true) → judge s (more_records n ws ++ rs) ≡ 0

-- the stage after a full record
stage_full : (c : ℕ) → c ≡ 14 → after_full (cond (eqb c 14) Full Cells) ≡ true
stage_full c e = rw (eq-eqb c 14 e)

-- a first record's words, and the rest
split : (ws : List ℕ) → length ws ≡ length (take 14 ws) + length (drop 14 ws)
split ws = sym (sym (length-append (take 14 ws) (drop 14 ws)) ∙ ap length (take-append-drop 14 ws))

-- a record holds at most 14
front_le : (ws : List ℕ) → length (take 14 ws) ≤ 14
front_le ws = omega (arith, length-take 14 ws)

-- they are read back
pub mores_read : (n : ℕ) (ws : List ℕ) (rs : List (List ℕ)) → Holds n (length ws) → All Word ws → Follows rs → MoresRead n ws rs
mores_read zero [] rs h k f = record { coords = refl; kinds = refl; words = refl; ends = λ at. ap (λ (m : ℕ). ends_of true m rs) (sym (add-zero at)); judged = λ s lt full. f s lt }
mores_read zero (w ∷ ws) rs h k f = absurd (omega arith)
mores_read (suc n) ws rs h k f =
    let fr = take 14 ws in
    let bk = drop 14 ws in
    let lf : length fr ≤ 14 = front_le ws in
    let lt = length-take 14 ws in
    let ld = length-drop 14 ws in
    let i = mores_read n bk rs (omega arith, omega arith) (all_drop Word 14 ws k) f in
    let w = words_bytes fr (replicate (28 - 2 * length fr) 0) (all_take Word 14 ws k) in
    record {
      coords = i.coords;
      kinds = i.kinds;
      words = ap₂ (λ (s t : List ℕ). s ++ t) w i.words ∙ sym (append_assoc fr bk (words_of rs)) ∙ ap (λ (t : List ℕ). t ++ words_of rs) (take-append-drop 14 ws);
      ends = λ at. rw w (i.ends (at + length fr) ∙ ap (λ (m : ℕ). ends_of true m rs) (let e = split ws in omega arith));
      judged = λ s u full.
          (let e : after_full s ≡ true = full (omega arith) in
          rw (e, word_right 75 0 fr lf 1 (omega arith)) (i.judged (cond (eqb (length fr) 14) Full Cells) (stage_open (length fr)) (λ more. stage_full (length fr) (omega arith))));
    }

-- ---- a cell

-- what is read of it in front of other records
pub record CellRead (k : ℕ) (ws : List ℕ) (rs : List (List ℕ)) : Type 0 where
  pub coords : coords_of (cell_records (cell_with k ws) ++ rs) ≡ coords_of rs
  pub kinds : kinds_of (cell_records (cell_with k ws) ++ rs) ≡ k ∷ kinds_of rs
  pub words : words_of (cell_records (cell_with k ws) ++ rs) ≡ ws ++ words_of rs
  pub ends : (b : Bool) (at : ℕ) → ends_of b at (cell_records (cell_with k ws) ++ rs) ≡ only_if b (at ∷ []) ++ ends_of true (at + length ws) rs
  pub judged : Follows (cell_records (cell_with k ws) ++ rs)

-- it is read back
pub cell_read : (k : ℕ) (ws : List ℕ) (rs : List (List ℕ)) → All Word ws → Follows rs → CellRead k ws rs
cell_read k ws rs h f =
    let fr = take 14 ws in
    let bk = drop 14 ws in
    let n = (length ws - 1) / 14 in
    let lf : length fr ≤ 14 = front_le ws in
    let lt = length-take 14 ws in
    let ld = length-drop 14 ws in
    let i = mores_read n bk rs (omega arith, omega arith) (all_drop Word 14 ws h) f in
    let w = words_bytes fr (replicate (28 - 2 * length fr) 0) (all_take Word 14 ws h) in
    record {
      coords = i.coords;
      kinds = ap (λ (t : List ℕ). k ∷ t) i.kinds;
      words = ap₂ (λ (s t : List ℕ). s ++ t) w i.words ∙ sym (append_assoc fr bk (words_of rs)) ∙ ap (λ (t : List ℕ). t ++ words_of rs) (take-append-drop 14 ws);
      ends = λ b at. rw w (ap (λ (t : List ℕ). only_if b (at ∷ []) ++ t) (i.ends (at + length fr) ∙ ap (λ (m : ℕ). ends_of true m rs) (let e = split ws in omega arith)));
      judged = λ s u. rw (u, word_right 67 k fr lf 0 (omega arith)) (i.judged (cond (eqb (length fr) 14) Full Cells) (stage_open (length fr)) (λ more. stage_full (length fr) (omega arith)));
    }

-- ---- the cells, up to the last record

-- what is read of them
pub record CellsRead (at : ℕ) (ks es ws : List ℕ) (t : List ℕ) : Type 0 where
  pub coords : coords_of (cells at ks es ws ++ (t ∷ [])) ≡ []
  pub kinds : kinds_of (cells at ks es ws ++ (t ∷ [])) ≡ ks
  pub words : words_of (cells at ks es ws ++ (t ∷ [])) ≡ ws
  pub ends : (b : Bool) → ends_of b at (cells at ks es ws ++ (t ∷ [])) ≡ only_if b (at ∷ []) ++ es
  pub judged : Follows (cells at ks es ws ++ (t ∷ []))

-- they are read back
module _ (flags cap : ℕ) (tolerance : Float) where
  pub cells_read : (at : ℕ) (ks es ws : List ℕ) → length ks ≡ length es → ends_off at es (at + length ws) ≡ false → All Word ws → CellsRead at ks es ws (last_record flags cap tolerance)
  cells_read at [] [] [] l a h = record { coords = refl; kinds = refl; words = refl; ends = λ b. refl; judged = λ s u. rw u }
  cells_read at [] [] (w ∷ ws) l a h = absurd (omega (arith, eqb-true at (at + length (w ∷ ws)) (not-false (eqb at (at + length (w ∷ ws))) a)))
  cells_read at [] (e ∷ es) ws l a h = absurd (omega arith)
  cells_read at (k ∷ ks) [] ws l a h = absurd (omega arith)
  cells_read at (k ∷ ks) (e ∷ es) ws l a h =
      let t = last_record flags cap tolerance ∷ [] in
      let m = e - at in
      let p = or_parts (ltb e at) (ends_off e es (at + length ws)) a in
      let up = ends_most e es (at + length ws) p.1 in
      let low : at ≤ e = ltb-false e at p.0 in
      let fr = take m ws in
      let bk = drop m ws in
      let lt : length fr ≡ m = length-take-le m ws (omega arith) in
      let ld = length-drop m ws in
      let n : at + length ws ≡ e + length bk = omega arith in
      let i = cells_read e ks es bk (omega arith) (rw n at p.1) (all_drop Word m ws h) in
      let c = cell_read k fr (cells e ks es bk ++ t) (all_take Word m ws h) i.judged in
      let q : at + length fr ≡ e = omega arith in
      let re = append_assoc (cell_records (cell_with k fr)) (cells e ks es bk) t in
      record {
        coords = ap coords_of re ∙ c.coords ∙ i.coords;
        kinds = ap kinds_of re ∙ c.kinds ∙ ap (λ (s : List ℕ). k ∷ s) i.kinds;
        words = ap words_of re ∙ c.words ∙ ap (λ (s : List ℕ). fr ++ s) i.words ∙ take-append-drop m ws;
        ends =
            λ b.
            ap (ends_of b at) re
            ∙ c.ends b at
            ∙ ap (λ (s : List ℕ). only_if b (at ∷ []) ++ s) (ap (λ (x : ℕ). ends_of true x (cells e ks es bk ++ t)) q ∙ i.ends true);
        judged = λ s u. ap (judge s) re ∙ c.judged s u;
      }
