use Prim.Native.Nat.{ℕ, ◌+◌}
use mathlib.Core.Path.{◌≡◌, sym, ap, ◌∙◌}
use mathlib.Core.List.{List}
use native.Mathlib.Omega.{arith}
use lib.ListN.{drop}
use lib.Seq.{sets}
use Rattle.model_file.specs.Records.{count, words_at}
use Rattle.model_read.specs.Steps.{words_between}
use Rattle.model_read.proofs.WordStores.{words_on, words_all}
use Rattle.model_read.proofs.filling.put_words.Goals as goal

pub returns-then-n-eq14 : goal.returns-then-n-eq14
returns-then-n-eq14 c =
    let a = c.args in
    let n : 14 ≡ count a.r.now = sym c.if-n-eq14.true in
    c.put_some.ensures ∙ words_all a.words.now a.at 14 a.r.now ∙ ap (λ (m : ℕ). sets a.words.now a.at (words_at m (drop 4 a.r.now))) n

pub returns : goal.returns
returns c =
    let a = c.args in
    let r = a.r.now in
    let l = a.words.now in
    let i = c.put_next-i in
    let j = c.put_next-j in
    let k = c.put_next-k in
    let n = c.put_next in
    let ej = j.ensures.words_are ∙ ap (λ (x : List ℕ). sets x (a.at + i.result) (words_between i.result j.result r)) i.ensures.words_are ∙ words_on l a.at 0 i.result j.result r (omega arith) j.ensures.up in
    let ek = k.ensures.words_are ∙ ap (λ (x : List ℕ). sets x (a.at + j.result) (words_between j.result k.result r)) ej ∙ words_on l a.at 0 j.result k.result r (omega arith) k.ensures.up in
    let all : n.result ≡ count r = omega (arith, n.ensures.few, n.ensures.inside) in
    n.ensures.words_are
    ∙ ap (λ (x : List ℕ). sets x (a.at + k.result) (words_between k.result n.result r)) ek
    ∙ words_on l a.at 0 k.result n.result r (omega arith) n.ensures.up
    ∙ words_all l a.at n.result r
    ∙ ap (λ (m : ℕ). sets l a.at (words_at m (drop 4 r))) all
