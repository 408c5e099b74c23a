use Rattle.table_file.proofs.Builders.{holds_none, no_ranges, stand_none}
use Rattle.table_file.proofs.builder.TableBuilder.with_room.Goals as goal

pub invariant_of-result : goal.invariant_of-result
invariant_of-result c = (
  c.requires,
  stand_none c.new.result.items c.new.ensures.items,
  holds_none c.new.result.items c.room_for.result.items c.new-2.result c.new-4.result c.new.ensures.items c.room_for.ensures c.new-2.ensures c.new-4.ensures,
  c.new-3.ensures,
  no_ranges c.new-5.result.ranges c.new-5.ensures,
)
