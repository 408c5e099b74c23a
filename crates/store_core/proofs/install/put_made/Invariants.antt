use Rattle.std.proofs.Common.{◌≡◌, ◌≤◌, ◌+◌, fold, length}
use Rattle.store_core.specs.Install.{put_in}
use Rattle.store_core.proofs.install.put_made.Given as goal

-- those that came so far are put in
abbrev pub invariant-loop-new : goal.invariant-loop-new
invariant-loop-new g l = record {
  all : l.tables.tables ≡ fold put_in l.fn.tables.tables l.yielded;
  many : length l.tables.tables ≡ length l.fn.tables.tables + length l.yielded;
  room : l.fn.tables.room ≤ l.tables.room;
}
