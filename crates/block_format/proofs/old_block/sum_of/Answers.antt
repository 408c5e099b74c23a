use Rattle.std.proofs.Common.{[], ◌∙◌}
use Rattle.block_format.proofs.Sums.{none_summed}
use Rattle.block_format.proofs.old_block.sum_of.Goals as goal

pub returns : goal.returns
returns c = c.value.ensures ∙ c.feed.ensures [] (c.new-summer.ensures ∙ none_summed c.args.summed)
