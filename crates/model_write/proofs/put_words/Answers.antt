use Prim.Native.Nat.{ℕ, ◌+◌, ◌*◌, ◌-◌}
use mathlib.Core.Path.{ap, ◌∙◌}
use mathlib.Core.List.{List}
use native.Mathlib.Omega.{arith}
use lib.ListN.{take, drop}
use lib.Seq.{sets}
use Rattle.model_file.specs.Records.{word_bytes}
use Rattle.model_write.proofs.Putting.{words_on, words_all}
use Rattle.model_write.proofs.put_words.Goals as goal

pub returns-then-words-eq14 : goal.returns-then-words-eq14
returns-then-words-eq14 c = c.put_some.ensures ∙ words_all c.args.r.now c.args.words.now 14 (omega arith)

pub returns : goal.returns
returns c =
    let r = c.args.r.now in
    let ws = c.args.words.now in
    let i = c.put_next-i in
    let j = c.put_next-j in
    let k = c.put_next-k in
    let n = c.put_next in
    let ej = j.ensures.put ∙ ap (λ (x : List ℕ). sets x (4 + 2 * i.result) (word_bytes (take (j.result - i.result) (drop i.result ws)))) i.ensures.put ∙ words_on r ws 0 i.result j.result (omega arith) j.ensures.up j.ensures.inside in
    let ek = k.ensures.put ∙ ap (λ (x : List ℕ). sets x (4 + 2 * j.result) (word_bytes (take (k.result - j.result) (drop j.result ws)))) ej ∙ words_on r ws 0 j.result k.result (omega arith) k.ensures.up k.ensures.inside in
    n.ensures.put
    ∙ ap (λ (x : List ℕ). sets x (4 + 2 * k.result) (word_bytes (take (n.result - k.result) (drop k.result ws)))) ek
    ∙ words_on r ws 0 k.result n.result (omega arith) n.ensures.up n.ensures.inside
    ∙ words_all r ws (n.result - 0) (omega (arith, n.ensures.few))
