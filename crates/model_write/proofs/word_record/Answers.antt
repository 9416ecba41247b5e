use Prim.Native.Nat.{ℕ}
use mathlib.Core.Path.{refl, ap, ◌∙◌}
use Rattle.model_file.specs.Records.{word_record}
use Rattle.model_write.proofs.Putting.{word_put}
use Rattle.model_write.proofs.word_record.Goals as goal

pub returns : goal.returns
returns c =
    let a = c.args in
    word_put _ _ a.words.now _ a.kind _ refl c.requires refl c.put_words.ensures ∙ ap (λ (l : ℕ). word_record l a.kind a.words.now) c.byte.ensures
