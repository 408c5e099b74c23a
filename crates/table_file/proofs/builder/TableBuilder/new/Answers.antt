use Rattle.table_file.proofs.Builders.{holds_none, no_ranges, stand_none}
use Rattle.table_file.proofs.builder.TableBuilder.new.Goals as goal

pub invariant_of-result : goal.invariant_of-result
invariant_of-result c = (
  c.requires,
  stand_none c.new-2.result.items c.new-2.ensures.items,
  holds_none c.new-2.result.items c.new.result.items c.new-3.result c.new-5.result c.new-2.ensures.items c.new.ensures.items c.new-3.ensures c.new-5.ensures,
  c.new-4.ensures,
  no_ranges c.new-6.result.ranges c.new-6.ensures,
)
