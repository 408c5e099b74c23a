use Rattle.std.proofs.Common.{◌≡◌, ◌≤◌, length}
use Rattle.store_core.proofs.compacting.in_order.Given as goal

-- those that came so far are there
abbrev pub invariant-loop-table : goal.invariant-loop-table
invariant-loop-table g l = record {
  all : l.tables.tables ≡ l.yielded;
  room : length l.fn.made.items ≤ l.tables.room;
}
