-- The loops of writing: nodes, a cell's further records, cells.
use Prim.Native.Nat.{ℕ, suc, ◌+◌, ◌*◌, ◌-◌, ◌/◌, ◌≤◌, ◌<◌, min}
use mathlib.Core.Path.{◌≡◌, refl, sym, ap, ◌∙◌}
use mathlib.Core.Logic.{inl, inr}
use mathlib.Core.List.{List, [], ◌∷◌, ◌++◌}
use native.Mathlib.Omega.{arith}
use lib.ListN.{length, get_or, take, drop, length-append, length-take, drop_of_length-le}
use lib.Seq.{sets, drop-cons}
use lib.Ieee.{Float, nan}
use Rattle.std.specs.Simd.{first_chunks}
use Rattle.laws.specs.Lists.{each, All}
use Rattle.laws.proofs.ListLaws.{each_append}
use Rattle.laws.proofs.Stores.{sets_append}
use Rattle.mesh.specs.Model.{Raw}
use Rattle.mesh.specs.Steps.{cell_with}
use Rattle.model_file.specs.Records.{node_record, cell_record, more_record}
use Rattle.model_file.specs.File.{node_records, more_records, cell_records}
use Rattle.model_file.specs.Steps.{join}
use Rattle.model_file.proofs.Layouts.{word_length}
use Rattle.model_file.proofs.Chop.{Whole, length_join, mores_whole, mores_count}
use Rattle.model_file.proofs.Decoded.{Cut, cell_join, more_join}

-- ---- nodes

-- the record of three coordinates
abbrev pub record_of_node : List Float → List ℕ
record_of_node t = node_record (get_or t 0 nan) (get_or t 1 nan) (get_or t 2 nan)

-- those of all nodes
pub nodes_chunked : (cs : List Float) → each record_of_node (first_chunks 3 (length cs / 3) cs) ≡ join (node_records cs)
nodes_chunked [] = refl
nodes_chunked (x ∷ []) = refl
nodes_chunked (x ∷ y ∷ []) = refl
nodes_chunked (x ∷ y ∷ z ∷ cs) =
    let n : length (x ∷ y ∷ z ∷ cs) / 3 ≡ suc (length cs / 3) = omega arith in
    ap (λ (k : ℕ). each record_of_node (first_chunks 3 k (x ∷ y ∷ z ∷ cs))) n ∙ ap (λ (l : List ℕ). node_record x y z ++ l) (nodes_chunked cs)

-- one node more
pub nodes_more : (ts : List (List Float)) (i : ℕ) (l : List ℕ) → i < length ts → sets (sets l (32 * i) (record_of_node (get_or ts i []))) (32 * (i + 1)) (each record_of_node (drop (i + 1) ts)) ≡ sets l (32 * i) (each record_of_node (drop i ts))
nodes_more ts i l h =
    let r = record_of_node (get_or ts i []) in
    let e : 32 * i + 32 ≡ 32 * (i + 1) = omega arith in
    let s : suc i ≡ i + 1 = omega arith in
    sym (ap (λ (x : List (List Float)). sets l (32 * i) (each record_of_node x)) (drop-cons ts i [] h ∙ ap (λ (k : ℕ). get_or ts i [] ∷ drop k ts) s)
    ∙ sets_append l (32 * i) r (each record_of_node (drop (i + 1) ts))
    ∙ ap (λ (k : ℕ). sets (sets l (32 * i) r) k (each record_of_node (drop (i + 1) ts))) e)

-- no node is left
pub nodes_done : (ts : List (List Float)) (i : ℕ) (l : List ℕ) → length ts ≤ i → sets l (32 * i) (each record_of_node (drop i ts)) ≡ l
nodes_done ts i l h = ap (λ (x : List (List Float)). sets l (32 * i) (each record_of_node x)) (drop_of_length-le ts h)

-- ---- a cell's records

-- the records that continue a cell by these words
abbrev pub mores : List ℕ → List (List ℕ)
mores ws = more_records ((length ws + 13) / 14) ws

-- what is left, put where the loop stands, is all K put
pub record Continuing (out₀ : List ℕ) (at : ℕ) (all out : List ℕ) (p : ℕ) (rest : List ℕ) : Type 0 where
  pub left : sets out p (join (mores rest)) ≡ sets out₀ at (join (mores all))
  pub place : p + 32 * ((length rest + 13) / 14) ≡ at + 32 * ((length all + 13) / 14)

-- a part that is full, or has all words that are left
pub cut_at : (part rest : List ℕ) → length part ≡ min 14 (length (part ++ rest)) → Cut part rest
cut_at part [] h = inr refl
cut_at part (w ∷ rest) h = let n = length-append part (w ∷ rest) in inl (omega arith)

pub continuing_step : (out₀ : List ℕ) (at : ℕ) (all out out' : List ℕ) (p : ℕ) (rest part later : List ℕ) → Continuing out₀ at all out p rest
    → rest ≡ part ++ later → length part ≡ min 14 (length rest) → 0 < length rest → out' ≡ sets out p (more_record part) → Continuing out₀ at all out' (p + 32) later
continuing_step out₀ at all out out' p rest part later v is n pos e =
    let l = ap length is ∙ length-append part later in
    let c = cut_at part later (n ∙ ap (λ (x : List ℕ). min 14 (length x)) is) in
    let j = ap mores is ∙ more_join part later (omega arith) (omega arith) c in
    let k = word_length 75 0 part (omega arith) in
    let q = mores_count ((length rest + 13) / 14) rest in
    let r = mores_count ((length later + 13) / 14) later in
    let m = ap length j in
    record {
      left =
          ap (λ (x : List ℕ). sets x (p + 32) (join (mores later))) e
          ∙ ap (λ (x : ℕ). sets (sets out p (more_record part)) (p + x) (join (mores later))) (sym k)
          ∙ sym (ap (λ (x : List (List ℕ)). sets out p (join x)) j ∙ sets_append out p (more_record part) (join (mores later)))
          ∙ v.left;
      place = omega (arith, v.place);
    }

-- no K is left
pub mores_none : (l : List ℕ) (p : ℕ) (x : List ℕ) → length x ≡ 0 → sets l p (join (mores x)) ≡ l
mores_none l p x h = let k : (length x + 13) / 14 ≡ 0 = omega arith in ap (λ (n : ℕ). sets l p (join (more_records n x))) k

-- a C, and all K
pub cell_put : (out out₁ out₂ : List ℕ) (at k : ℕ) (words first rest : List ℕ) → words ≡ first ++ rest → length first ≡ min 14 (length words) → out₁ ≡ sets out at (cell_record k first) → out₂ ≡ sets out₁ (at + 32) (join (mores rest))
    → out₂ ≡ sets out at (join (cell_records (cell_with k words)))
cell_put out out₁ out₂ at k words first rest is n e₁ e₂ =
    let c = cut_at first rest (n ∙ ap (λ (x : List ℕ). min 14 (length x)) is) in
    let j = ap (λ (x : List ℕ). cell_records (cell_with k x)) is ∙ cell_join k first rest (omega arith) c in
    e₂
    ∙ ap (λ (x : List ℕ). sets x (at + 32) (join (mores rest))) e₁
    ∙ ap (λ (x : ℕ). sets (sets out at (cell_record k first)) (at + x) (join (mores rest))) (sym (word_length 67 k first (omega arith)))
    ∙ sym (ap (λ (x : List (List ℕ)). sets out at (join x)) j ∙ sets_append out at (cell_record k first) (join (mores rest)))

-- ---- cells

-- a cell's records are so many, each whole
cell_count : (k : ℕ) (ws : List ℕ) → length (cell_records (cell_with k ws)) ≡ 1 + (length ws - 1) / 14
cell_count k ws = let m = mores_count ((length ws - 1) / 14) (drop 14 ws) in omega arith

cell_whole : (k : ℕ) (ws : List ℕ) → All Whole (cell_records (cell_with k ws))
cell_whole k ws = (word_length 67 k (take 14 ws) (omega (arith, length-take 14 ws)), mores_whole ((length ws - 1) / 14) (drop 14 ws))

-- the records of the next cell, and of those behind it
pub cells_count : (c : Raw) (rest later : List Raw) → rest ≡ c ∷ later → length (each cell_records rest) ≡ 1 + (length c.words - 1) / 14 + length (each cell_records later)
cells_count c rest later is =
    ap (λ (x : List Raw). length (each cell_records x)) is
    ∙ length-append (cell_records c) (each cell_records later)
    ∙ ap (λ (x : ℕ). x + length (each cell_records later)) (cell_count c.kind c.words)

-- what is left, put where the loop stands, is all cells put
pub record Celling (out₀ : List ℕ) (at : ℕ) (all : List Raw) (out : List ℕ) (p : ℕ) (rest : List Raw) : Type 0 where
  pub left : sets out p (join (each cell_records rest)) ≡ sets out₀ at (join (each cell_records all))
  pub place : p + 32 * length (each cell_records rest) ≡ at + 32 * length (each cell_records all)

pub celling_step : (out₀ : List ℕ) (at : ℕ) (all : List Raw) (out out' : List ℕ) (p q : ℕ) (c : Raw) (rest later : List Raw) → Celling out₀ at all out p rest → rest ≡ c ∷ later
    → out' ≡ sets out p (join (cell_records c)) → q ≡ p + 32 * (1 + (length c.words - 1) / 14) → Celling out₀ at all out' q later
celling_step out₀ at all out out' p q c rest later v is w r =
    let cs = cell_records c in
    let rs = each cell_records later in
    let n : length (join cs) ≡ 32 * (1 + (length c.words - 1) / 14) = length_join cs (cell_whole c.kind c.words) ∙ ap (λ (x : ℕ). 32 * x) (cell_count c.kind c.words) in
    let m : q ≡ p + length (join cs) = r ∙ ap (λ (x : ℕ). p + x) (sym n) in
    record {
      left =
          (λ t. sets (w t) (m t) (join rs))
          ∙ sym (ap (λ (x : List Raw). sets out p (join (each cell_records x))) is ∙ ap (sets out p) (each_append (λ (x : List ℕ). x) cs rs) ∙ sets_append out p (join cs) (join rs))
          ∙ v.left;
      place = omega (arith, v.place, cells_count c rest later is);
    }
