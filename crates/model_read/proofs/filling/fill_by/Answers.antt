use mathlib.Core.Path.{subst}
use native.Mathlib.Omega.{arith}
use lib.ListN.{length, drop}
use Rattle.std.specs.Prelude.{Some}
use Rattle.model_file.specs.declared.Letter.{Letter}
use Rattle.model_file.specs.Records.{count}
use Rattle.model_file.proofs.Fields.{length-words_at}
use Rattle.model_read.specs.Steps.{Room}
use Rattle.model_read.proofs.filling.fill_by.Goals as goal

pub put_words-requires : goal.put_words-requires
put_words-requires c =
    let a = c.args in
    let n = length-words_at (count a.r.now) (drop 4 a.r.now) in
    let room = subst (λ (l : Letter). Room (Some l) a.r.now a.p (length a.kinds.now) (length a.ends.now) (length a.words.now)) c.in-Cell.is c.requires in
    (omega (arith, room.little), omega (arith, room.words_fit))

pub put_words-requires-in-More : goal.put_words-requires-in-More
put_words-requires-in-More c =
    let a = c.args in
    let n = length-words_at (count a.r.now) (drop 4 a.r.now) in
    let room = subst (λ (l : Letter). Room (Some l) a.r.now a.p (length a.kinds.now) (length a.ends.now) (length a.words.now)) c.in-More.is c.requires in
    (omega (arith, room.little), omega (arith, room.words_fit))
