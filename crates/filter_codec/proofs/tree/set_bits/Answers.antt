use Rattle.std.proofs.Common.{◌∙◌}
use Rattle.bit_select.proofs.Selecting.{ones_all}
use Rattle.filter_codec.proofs.tree.set_bits.Goals as goal

pub returns : goal.returns
returns g c = c.ones.ensures ∙ ones_all c.args.bits.now c.words.result.now c.words.ensures.value
