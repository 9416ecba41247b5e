-- Work that is lent in front and zero afterwards.
use Prim.Native.Nat.{ℕ, ◌≤◌}
use mathlib.Core.Path.{◌≡◌, sym, ap, ◌∙◌, subst}
use mathlib.Core.List.{List, ◌++◌}
use native.Mathlib.Omega.{arith}
use lib.ListN.{length, take, drop, replicate, length-append, length-drop, length-replicate}
use lib.Seq.{sets, length-take-le, drop-append_seam}
use Rattle.laws.proofs.Stores.{sets_front}

-- the first n words were lent out, came back as `part`, and are zero now
zero_front : (work part work' : List ℕ) (n : ℕ) → n ≤ length work → length part ≡ n → work' ≡ sets (part ++ drop n work) 0 (replicate n 0)
    → work' ≡ replicate n 0 ++ drop (length (replicate {A = ℕ} n 0)) work
zero_front work part work' n h e p =
    let zeros = length-replicate {A = ℕ} n 0 in
    let long : length (part ++ drop n work) ≡ length work = length-append part (drop n work) ∙ omega (arith, e, length-drop n work, h) in
    p
    ∙ sets_front (part ++ drop n work) (replicate n 0) (omega (arith, zeros, long, h))
    ∙ ap (λ (l : List ℕ). replicate n 0 ++ l) (ap (λ (k : ℕ). drop k (part ++ drop n work)) (zeros ∙ sym e) ∙ drop-append_seam part (drop n work) ∙ ap (λ (k : ℕ). drop k work) (sym zeros))

-- the first n words were lent, came back as `part`, and then as many zeros were written over them
pub cleared_front : (work part zeros : List ℕ) (n m : ℕ) → n ≡ m → n ≤ length work → length part ≡ length (take n work)
    → zeros ≡ replicate (length (take n (part ++ drop n work))) 0
    → zeros ++ drop n (part ++ drop n work) ≡ replicate m 0 ++ drop (length (replicate {A = ℕ} m 0)) work
cleared_front work part zeros n m is enough same filled =
    let back : List ℕ = part ++ drop n work in
    let long : length part ≡ n = same ∙ length-take-le n work enough in
    let whole : length back ≡ length work = omega (arith, length-append part (drop n work), length-drop n work, long, enough) in
    let count = length-replicate {A = ℕ} n 0 in
    let zero : zeros ≡ replicate n 0 = filled ∙ ap (λ (k : ℕ). replicate k 0) (length-take-le n back (omega (arith, whole, enough))) in
    subst (λ (k : ℕ). zeros ++ drop n back ≡ replicate k 0 ++ drop (length (replicate {A = ℕ} k 0)) work) is
    (zero_front work part (zeros ++ drop n back) n enough long
    (ap (λ (x : List ℕ). x ++ drop n back) zero ∙ ap (λ (k : ℕ). replicate n 0 ++ drop k back) (sym count)
    ∙ sym (sets_front back (replicate n 0) (omega (arith, count, whole, enough)))))
