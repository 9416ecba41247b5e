-- Bytes cut into records and joined again; the lengths of what writing makes.
use Prim.Native.Nat.{ℕ, zero, suc, ◌+◌, ◌*◌, ◌-◌, ◌/◌, ◌≤◌}
use mathlib.Core.Path.{◌≡◌, refl, ap, ap₂, ◌∙◌}
use mathlib.Core.List.{List, [], ◌∷◌, ◌++◌}
use native.Mathlib.Omega.{arith}
use lib.ListN.{length, take, drop, length-append, length-take, length-drop, take-append-drop}
use lib.Seq.{take_at, drop_at, length-take-le}
use lib.Ieee.{Float}
use Rattle.model_file.specs.File.{node_records, more_records, chop, records, last_of}
use Rattle.model_file.specs.Steps.{join, cells}
use Rattle.laws.specs.Lists.{All}
use Rattle.model_file.specs.Held.{Byte}
use Rattle.laws.proofs.Holding.{all_append, all_take, all_drop}
use Rattle.model_file.proofs.Layouts.{word_length}

-- a record of 32 bytes
abbrev pub Whole : List ℕ → Type 0
Whole r = length r ≡ 32

-- joined and cut again
pub chop_join : (rs : List (List ℕ)) → All Whole rs → chop (length rs) (join rs) ≡ rs
chop_join [] h = refl
chop_join (r ∷ rs) h = ap₂ (λ (a : List ℕ) (b : List (List ℕ)). a ∷ b) (take_at r (join rs) 32 h.0) (ap (chop (length rs)) (drop_at r (join rs) 32 h.0) ∙ chop_join rs h.1)

-- so many bytes
pub length_join : (rs : List (List ℕ)) → All Whole rs → length (join rs) ≡ 32 * length rs
length_join [] h = refl
length_join (r ∷ rs) h = let i = length_join rs h.1 in let w : length r ≡ 32 = h.0 in omega (arith, length-append r (join rs))

-- the records of joined records
pub records_join : (rs : List (List ℕ)) → All Whole rs → records (join rs) ≡ rs
records_join rs h =
    let e = length_join rs h in
    let n : length (join rs) / 32 ≡ length rs = omega arith in
    ap (λ (k : ℕ). chop k (join rs)) n ∙ chop_join rs h

-- cut and joined again
pub join_chop : (n : ℕ) (s : List ℕ) → length s ≡ 32 * n → join (chop n s) ≡ s
join_chop zero [] h = refl
join_chop zero (b ∷ s) h = absurd (omega arith)
join_chop (suc n) s h = ap (λ (t : List ℕ). take 32 s ++ t) (join_chop n (drop 32 s) (length-drop 32 s ∙ omega arith)) ∙ take-append-drop 32 s

-- what is cut is whole, and bytes stay bytes
pub chop_whole : (n : ℕ) (s : List ℕ) → length s ≡ 32 * n → All Whole (chop n s)
chop_whole zero s h = tt
chop_whole (suc n) s h = (length-take-le 32 s (omega arith), chop_whole n (drop 32 s) (length-drop 32 s ∙ omega arith))

pub chop_bytes : (n : ℕ) (s : List ℕ) → All Byte s → All (All Byte) (chop n s)
chop_bytes zero s h = tt
chop_bytes (suc n) s h = (all_take Byte 32 s h, chop_bytes n (drop 32 s) (all_drop Byte 32 s h))

-- the last record
pub last_snoc : (rs : List (List ℕ)) (t : List ℕ) → last_of (rs ++ (t ∷ [])) ≡ t
last_snoc [] t = refl
last_snoc (r ∷ []) t = refl
last_snoc (r ∷ q ∷ rs) t = last_snoc (q ∷ rs) t

-- what holds of each record holds of the last
pub all_last : (P : List ℕ → Type 0) (rs : List (List ℕ)) → 1 ≤ length rs → All P rs → P (last_of rs)
all_last P [] h a = absurd (omega arith)
all_last P (r ∷ []) h a = a.0
all_last P (r ∷ q ∷ rs) h a = all_last P (q ∷ rs) (omega arith) a.1

-- ---- every record that writing makes is whole, and there are not too many

-- nodes
pub nodes_whole : (cs : List Float) → All Whole (node_records cs)
nodes_whole [] = tt
nodes_whole (x ∷ []) = tt
nodes_whole (x ∷ y ∷ []) = tt
nodes_whole (x ∷ y ∷ z ∷ cs) = (refl, nodes_whole cs)

-- no more nodes than coordinates allow
pub nodes_few : (cs : List Float) → 3 * length (node_records cs) ≤ length cs
nodes_few [] = omega arith
nodes_few (x ∷ []) = omega arith
nodes_few (x ∷ y ∷ []) = omega arith
nodes_few (x ∷ y ∷ z ∷ cs) = let i = nodes_few cs in omega arith

-- records that continue a cell
pub mores_whole : (n : ℕ) (ws : List ℕ) → All Whole (more_records n ws)
mores_whole zero ws = tt
mores_whole (suc n) ws = (word_length 75 0 (take 14 ws) (omega (arith, length-take 14 ws)), mores_whole n (drop 14 ws))

-- they are as many as asked for
pub mores_count : (n : ℕ) (ws : List ℕ) → length (more_records n ws) ≡ n
mores_count zero ws = refl
mores_count (suc n) ws = ap suc (mores_count n (drop 14 ws))

-- the records of cells
pub cells_whole : (at : ℕ) (ks es ws : List ℕ) → All Whole (cells at ks es ws)
cells_whole at [] es ws = tt
cells_whole at (k ∷ ks) [] ws = tt
cells_whole at (k ∷ ks) (e ∷ es) ws =
    let fr = take (e - at) ws in
    (word_length 67 k (take 14 fr) (omega (arith, length-take 14 fr)), all_append Whole (more_records ((length fr - 1) / 14) (drop 14 fr)) (cells e ks es (drop (e - at) ws)) (mores_whole ((length fr - 1) / 14) (drop 14 fr)) (cells_whole e ks es (drop (e - at) ws)))

-- they are few
pub cells_few : (at : ℕ) (ks es ws : List ℕ) → 14 * length (cells at ks es ws) ≤ 14 * length ks + length ws
cells_few at [] es ws = omega arith
cells_few at (k ∷ ks) [] ws = omega arith
cells_few at (k ∷ ks) (e ∷ es) ws =
    let fr = take (e - at) ws in
    let bk = drop (e - at) ws in
    let i = cells_few e ks es bk in
    let n = mores_count ((length fr - 1) / 14) (drop 14 fr) in
    let l = length-append (more_records ((length fr - 1) / 14) (drop 14 fr)) (cells e ks es bk) in
    let a = length-take (e - at) ws in
    let b = length-drop (e - at) ws in
    omega arith
