use Rattle.std.proofs.Common.{arith}
use Rattle.block_format.proofs.Builders.{holds_none, none_in}
use Rattle.block_format.proofs.builder.BlockBuilder.clear.Goals as goal

pub invariant_of-self : goal.invariant_of-self
invariant_of-self c = (
  omega arith,
  holds_none c.clear.new.self.items c.clear-2.new.self.items _ c.clear.ensures.items c.clear-2.ensures.items,
)

pub returns : goal.returns
returns c = none_in c.clear.new.self.items
