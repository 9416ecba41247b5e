-- Runs of stores that write zeros, words and whole records.
use Prim.Native.Nat.{ℕ, zero, suc, ◌+◌, ◌*◌, ◌-◌, ◌≤◌, ◌<◌}
use mathlib.Core.Path.{◌≡◌, sym, ap, ap₂, ◌∙◌}
use mathlib.Core.List.{List, [], ◌∷◌, ◌++◌, append_assoc, append-nil}
use native.Mathlib.Nat.{sub-zero}
use native.Mathlib.Numerals.{add-one}
use native.Mathlib.Omega.{arith}
use lib.ListN.{length, get_or, take, drop, set, replicate, length-append, length-drop, length-replicate}
use lib.Seq.{sets, sets-eq, drop-drop, get_or-drop, take_all, take-add, take-suc, length-take-le, take-append_seam, drop-append-add}
use Rattle.laws.specs.Bytes.{bytes}
use Rattle.laws.proofs.ListLaws.{each_append}
use Rattle.laws.proofs.Stores.{sets_append}
use Rattle.model_file.specs.Records.{narrow, word_bytes, word_record}
use Rattle.model_file.proofs.Fields.{length-word_bytes}

-- one word more of those from the j-th on
pub words_more : (l₀ l ws : List ℕ) (j i v : ℕ) → j + i < length ws → bytes 2 v ≡ bytes 2 (narrow (get_or ws (j + i) 0)) → l ≡ sets l₀ (4 + 2 * j) (word_bytes (take i (drop j ws)))
    → sets l (4 + 2 * (j + i)) (bytes 2 v) ≡ sets l₀ (4 + 2 * j) (word_bytes (take (i + 1) (drop j ws)))
words_more l₀ l ws j i v h e w =
    let rest = drop j ws in
    let d = length-drop j ws in
    let n : length (word_bytes (take i rest)) ≡ 2 * i = length-word_bytes (take i rest) ∙ ap (λ (x : ℕ). 2 * x) (length-take-le i rest (omega arith)) in
    let p : 4 + 2 * (j + i) ≡ 4 + 2 * j + length (word_bytes (take i rest)) = omega arith in
    let g : bytes 2 v ≡ bytes 2 (narrow (get_or rest i 0)) = e ∙ ap (λ (w : ℕ). bytes 2 (narrow w)) (sym (get_or-drop j ws i 0)) in
    (λ t. sets (w t) (p t) (g t))
    ∙ sym (ap (λ (x : List ℕ). sets l₀ (4 + 2 * j) (word_bytes x)) (ap (λ (x : ℕ). take x rest) (add-one i) ∙ take-suc rest i 0 (omega arith))
    ∙ ap (sets l₀ (4 + 2 * j)) (each_append (λ (x : ℕ). bytes 2 (narrow x)) (take i rest) (get_or rest i 0 ∷ []) ∙ ap (λ (x : List ℕ). word_bytes (take i rest) ++ x) (append-nil (bytes 2 (narrow (get_or rest i 0)))))
    ∙ sets_append l₀ (4 + 2 * j) (word_bytes (take i rest)) (bytes 2 (narrow (get_or rest i 0))))

-- words j to k put, then those to m
pub words_on : (l ws : List ℕ) (j k m : ℕ) → j ≤ k → k ≤ m → m ≤ length ws
    → sets (sets l (4 + 2 * j) (word_bytes (take (k - j) (drop j ws)))) (4 + 2 * k) (word_bytes (take (m - k) (drop k ws))) ≡ sets l (4 + 2 * j) (word_bytes (take (m - j) (drop j ws)))
words_on l ws j k m h i b =
    let rest = drop j ws in
    let a : m - j ≡ k - j + (m - k) = omega arith in
    let d : j + (k - j) ≡ k = omega arith in
    let n : length (word_bytes (take (k - j) rest)) ≡ 2 * (k - j) = length-word_bytes (take (k - j) rest) ∙ ap (λ (x : ℕ). 2 * x) (length-take-le (k - j) rest (omega (arith, length-drop j ws))) in
    let p : 4 + 2 * j + length (word_bytes (take (k - j) rest)) ≡ 4 + 2 * k = omega arith in
    sym (ap (λ (x : ℕ). sets l (4 + 2 * j) (word_bytes (take x rest))) a
    ∙ ap (λ (x : List ℕ). sets l (4 + 2 * j) (word_bytes x)) (take-add (k - j) (m - k) rest)
    ∙ ap (sets l (4 + 2 * j)) (each_append (λ (x : ℕ). bytes 2 (narrow x)) (take (k - j) rest) (take (m - k) (drop (k - j) rest)))
    ∙ sets_append l (4 + 2 * j) (word_bytes (take (k - j) rest)) (word_bytes (take (m - k) (drop (k - j) rest)))
    ∙ ap₂ (λ (x : ℕ) (y : List ℕ). sets (sets l (4 + 2 * j) (word_bytes (take (k - j) rest))) x (word_bytes (take (m - k) y))) p (drop-drop (k - j) j ws ∙ ap (λ (x : ℕ). drop x ws) d))

-- all words
pub words_all : (l ws : List ℕ) (n : ℕ) → length ws ≤ n → sets l 4 (word_bytes (take n ws)) ≡ sets l 4 (word_bytes ws)
words_all l ws n h = ap (λ (x : List ℕ). sets l 4 (word_bytes x)) (take_all n ws h)

-- ---- a record's stores, one behind the other, write all of it

-- fewer zeros
drop-zeros : (m n : ℕ) → drop {A = ℕ} m (replicate n 0) ≡ replicate (n - m) 0
drop-zeros zero n = ap (λ (x : ℕ). replicate x 0) (sym (sub-zero n))
drop-zeros (suc m) zero = let a : 0 - suc m ≡ 0 = omega arith in rw a
drop-zeros (suc m) (suc n) = let a : suc n - suc m ≡ n - m = omega arith in rw a (drop-zeros m n)

-- bytes put on zeros, with zeros left behind them
zeros_behind : (heads bs : List ℕ) (n : ℕ) → length bs ≤ n → sets (heads ++ replicate n 0) (length heads) bs ≡ heads ++ (bs ++ replicate (n - length bs) 0)
zeros_behind heads bs n h =
    let w : length heads + length bs ≤ length (heads ++ replicate n 0) = simp (length-append, length-replicate) (omega arith) in
    sets-eq bs (heads ++ replicate n 0) (length heads) w
    ∙ rw (take-append_seam heads (replicate n 0), drop-append-add heads (replicate n 0) (length bs), drop-zeros (length bs) n)
    (append_assoc heads bs (replicate (n - length bs) 0))

-- C and K
pub word_put : (l1 l2 ws : List ℕ) (l k n : ℕ) → n ≡ length ws → n ≤ 14 → l1 ≡ replicate 32 0 → l2 ≡ sets (set (set (set l1 0 l) 1 k) 2 n) 4 (word_bytes ws)
    → l2 ≡ word_record l k ws
word_put l1 l2 ws l k n e small e1 e2 =
    let long = length-word_bytes ws in
    e2
    ∙ ap₂ (λ (x : List ℕ) (y : ℕ). sets (set (set (set x 0 l) 1 k) 2 y) 4 (word_bytes ws)) e1 e
    ∙ zeros_behind (l ∷ k ∷ length ws ∷ 0 ∷ []) (word_bytes ws) 28 (omega arith)
    ∙ ap (λ (x : ℕ). l ∷ k ∷ length ws ∷ 0 ∷ (word_bytes ws ++ replicate (28 - x) 0)) long
