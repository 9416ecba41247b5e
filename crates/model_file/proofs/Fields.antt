-- Words in the file and in the model turn into one another.
use Prim.Native.Nat.{ℕ, zero, suc, ◌*◌, ◌≤◌, ◌<◌}
use mathlib.Core.Path.{◌≡◌, refl, sym, ap, ap₂, ◌∙◌}
use mathlib.Core.Logic.{◌⊎◌, inl, inr}
use mathlib.Core.List.{List, [], ◌∷◌, ◌++◌}
use mathlib.Core.Bool.{true, false}
use native.Mathlib.Omega.{arith}
use lib.ListN.{length, drop}
use lib.Dec.{eqb}
use borrow.Author.Tests.{eqb-true, ne_eqb}
use Rattle.laws.specs.Bytes.{number, bytes}
use Rattle.std.proofs.lemmas.Bool.{cases_Bool}
use Rattle.laws.proofs.ByteLaws.{number_bytes}
use Rattle.mesh.specs.Rings.{separator}
use Rattle.model_file.specs.Records.{narrow, widen, word_bytes, words_at}
use Rattle.laws.specs.Lists.{All}
use Rattle.model_file.specs.Held.{Byte}
use Rattle.model_file.proofs.Numbers.{bytes_number}

-- a word that 16 bits can hold: a node's number, or the separator
abbrev pub Word : ℕ → Type 0
Word w = (w < 65535) ⊎ (w ≡ separator)

-- words of a file come back, and words of a model

pub narrow_widen : (w : ℕ) → w < 65536 → narrow (widen w) ≡ w
narrow_widen w h = go (cases_Bool (eqb w 65535))
  where
    go : (eqb w 65535 ≡ true) ⊎ (eqb w 65535 ≡ false) → narrow (widen w) ≡ w
    go (inl e) = rw e (sym (eqb-true w 65535 e))
    go (inr e) = rw (e, ne_eqb w 4294967295 (λ (q : w ≡ 4294967295). omega arith))

pub widen_narrow : (w : ℕ) → Word w → widen (narrow w) ≡ w
widen_narrow w (inl h) = rw (ne_eqb w 4294967295 (λ (q : w ≡ 4294967295). omega arith), ne_eqb w 65535 (λ (q : w ≡ 65535). omega arith))
widen_narrow w (inr e) = rw e

pub narrow_lt : (w : ℕ) → Word w → narrow w < 65536
narrow_lt w (inl h) = rw (ne_eqb w 4294967295 (λ (q : w ≡ 4294967295). omega arith)) (omega arith)
narrow_lt w (inr e) = rw e (omega arith)

-- lengths
pub length-word_bytes : (ws : List ℕ) → length (word_bytes ws) ≡ 2 * length ws
length-word_bytes [] = refl
length-word_bytes (w ∷ ws) = let i = length-word_bytes ws in omega arith

pub length-words_at : (n : ℕ) (l : List ℕ) → length (words_at n l) ≡ n
length-words_at zero l = refl
length-words_at (suc n) l = ap suc (length-words_at n (drop 2 l))

-- words come back out of their bytes, whatever follows
pub words_bytes : (ws q : List ℕ) → All Word ws → words_at (length ws) (word_bytes ws ++ q) ≡ ws
words_bytes [] q h = refl
words_bytes (w ∷ ws) q h =
    ap₂ (λ (x : ℕ) (t : List ℕ). x ∷ t)
    (ap widen (number_bytes 2 (narrow w) (narrow_lt w h.0)) ∙ widen_narrow w h.0)
    (words_bytes ws q h.1)

-- bytes come back out of their words
pub bytes_words : (n : ℕ) (l : List ℕ) → All Byte l → 2 * n ≤ length l → word_bytes (words_at n l) ++ drop (2 * n) l ≡ l
bytes_words zero l h k = refl
bytes_words (suc n) [] h k = absurd (omega arith)
bytes_words (suc n) (a ∷ []) h k = absurd (omega arith)
bytes_words (suc n) (a ∷ b ∷ l) h k =
    let e : 2 * suc n ≡ suc (suc (2 * n)) = omega arith in
    let s : number (a ∷ b ∷ []) < 65536 = omega arith in
    let p : bytes 2 (narrow (widen (number (a ∷ b ∷ [])))) ≡ a ∷ b ∷ [] = ap (bytes 2) (narrow_widen (number (a ∷ b ∷ [])) s) ∙ bytes_number (a ∷ b ∷ []) (h.0, (h.1.0, tt)) in
    rw e (ap₂ (λ (t q : List ℕ). t ++ q) p (bytes_words n l h.1.1 (omega arith)))
