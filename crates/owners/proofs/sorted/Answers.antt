use mathlib.Core.Path.{ap, ◌∙◌}
use lib.Dec.{leb}
use Rattle.laws.specs.Lists.{sort}
use Rattle.sorting.proofs.Sorted.{is_sort}
use Rattle.owners.proofs.sorted.Goals as goal

pub returns : goal.returns
returns c = is_sort _ _ c.sort_unstable.ensures.permutation c.sort_unstable.ensures.sorted ∙ ap (sort leb) c.copy_words.ensures
