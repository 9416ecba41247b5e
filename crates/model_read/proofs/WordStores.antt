-- A record's words, read and stored.
use Prim.Native.Nat.{ℕ, zero, suc, ◌+◌, ◌*◌, ◌-◌, ◌≤◌}
use mathlib.Core.Path.{◌≡◌, sym, ap, ◌∙◌}
use mathlib.Core.List.{List, ◌∷◌, ◌++◌}
use native.Mathlib.Nat.{zero-add, add-zero, sub-zero, suc-add}
use native.Mathlib.Omega.{arith}
use lib.ListN.{take, drop, set}
use lib.Seq.{slice, sets, drop-drop}
use Rattle.laws.specs.Bytes.{number}
use Rattle.laws.proofs.Stores.{take-drop, sets_append}
use Rattle.model_file.specs.Records.{widen, words_at}
use Rattle.model_file.proofs.Fields.{length-words_at}
use Rattle.model_read.specs.Steps.{words_between}

-- two bytes as the code reads them
pub two_bytes : (s : List ℕ) (at : ℕ) → number (slice at (at + 2) s) ≡ number (take 2 (drop at s))
two_bytes s at = ap number (sym (take-drop at 2 s))

-- words, and more behind them
words_add : (a b : ℕ) (l : List ℕ) → words_at (a + b) l ≡ words_at a l ++ words_at b (drop (2 * a) l)
words_add zero b l = ap (λ (n : ℕ). words_at n l) (zero-add b)
words_add (suc a) b l =
    let d : 2 + 2 * a ≡ 2 * suc a = omega arith in
    ap (λ (n : ℕ). words_at n l) (suc-add a b)
    ∙ ap (λ (t : List ℕ). widen (number (take 2 l)) ∷ t) (words_add a b (drop 2 l) ∙ ap (λ (t : List ℕ). words_at a (drop 2 l) ++ words_at b t) (drop-drop (2 * a) 2 l ∙ ap (λ (n : ℕ). drop n l) d))

-- words i to j stored, then those to k
pub words_on : (l : List ℕ) (at i j k : ℕ) (r : List ℕ) → i ≤ j → j ≤ k → sets (sets l (at + i) (words_between i j r)) (at + j) (words_between j k r) ≡ sets l (at + i) (words_between i k r)
words_on l at i j k r h m =
    let a : k - i ≡ j - i + (k - j) = omega arith in
    let f : 4 + 2 * i + 2 * (j - i) ≡ 4 + 2 * j = omega arith in
    let e = length-words_at (j - i) (drop (4 + 2 * i) r) in
    let g : at + i + (j - i) ≡ at + j = omega arith in
    sym (ap (λ (n : ℕ). sets l (at + i) (words_at n (drop (4 + 2 * i) r))) a
    ∙ ap (sets l (at + i)) (words_add (j - i) (k - j) (drop (4 + 2 * i) r) ∙ ap (λ (t : List ℕ). words_between i j r ++ words_at (k - j) t) (drop-drop (2 * (j - i)) (4 + 2 * i) r ∙ ap (λ (n : ℕ). drop n r) f))
    ∙ sets_append l (at + i) (words_between i j r) (words_between j k r)
    ∙ ap (λ (n : ℕ). sets (sets l (at + i) (words_between i j r)) n (words_between j k r)) (ap (λ (n : ℕ). at + i + n) e ∙ g))

-- one word more
pub word_next : (l₀ l : List ℕ) (at j i : ℕ) (r : List ℕ) (v : ℕ) → v ≡ widen (number (take 2 (drop (4 + 2 * (j + i)) r))) → l ≡ sets l₀ (at + j) (words_between j (j + i) r) → set l (at + j + i) v ≡ sets l₀ (at + j) (words_between j (j + (i + 1)) r)
word_next l₀ l at j i r v e w =
    let o : at + j + i ≡ at + (j + i) = omega arith in
    let n : 1 ≡ j + (i + 1) - (j + i) = omega arith in
    (λ k. set (w k) (o k) (e k))
    ∙ ap (λ (m : ℕ). sets (sets l₀ (at + j) (words_between j (j + i) r)) (at + (j + i)) (words_at m (drop (4 + 2 * (j + i)) r))) n
    ∙ words_on l₀ at j (j + i) (j + (i + 1)) r (omega arith) (omega arith)

-- all words
pub words_all : (l : List ℕ) (at n : ℕ) (r : List ℕ) → sets l (at + 0) (words_between 0 n r) ≡ sets l at (words_at n (drop 4 r))
words_all l at n r = rw (add-zero, sub-zero)
