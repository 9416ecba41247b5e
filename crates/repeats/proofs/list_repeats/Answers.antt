-- What the four steps come to is said on lists, in Whole.
use Rattle.repeats.proofs.Whole.{still_welded, listed}
use borrow.Author.Rules.{rules}
use Rattle.repeats.proofs.list_repeats.Goals as goal

pub forget-requires : goal.forget-requires
forget-requires c =
    let a = c.args in
    let f = c.find_pairs-found in
    record {
      first = c.requires.first;
      second = c.requires.second;
      third = search rules;
      small = c.requires.small;
      inside = c.requires.inside;
      welded = still_welded a.at a.words.now a.work.now f.new.work f.result c.requires f.ensures;
    }

pub returns : goal.returns
returns c =
    let a = c.args in
    let f = c.find_pairs-found in
    let u = c.unique_pairs in
    listed a.at a.words.now a.work.now f.new.work f.result c.requires f.ensures
    c.forget.new.work c.sort_pairs.new.work u.new.work u.result
    c.forget.ensures c.sort_pairs.ensures u.ensures.0 u.ensures.1
