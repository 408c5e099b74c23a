use Rattle.std.proofs.Common.{◌≡◌, ◌≤◌, [], IsTrue, length}
use Rattle.store_check.specs.Befores.{before_of}
use Rattle.store_check.specs.Causes.{OnlyReads}
use Rattle.store_check.specs.Keys.{AreRisen}
use Rattle.store_check.proofs.Seen.{AreSeen}
use Rattle.store_check.proofs.table.block_findings.Given as goal

-- the blocks before this one are seen; where nothing is found yet the keys rise
abbrev pub invariant-loop-n : goal.invariant-loop-n
invariant-loop-n g l = record {
  seen : IsTrue g.D.Disk.tells → AreSeen l.index (g.D.Disk.world l.fn.disk).seen.held l.n l.seen l.found.items;
  risen : l.found.items ≡ [] → AreRisen (before_of l.seen.before) l.seen.keys;
  some : l.found.items ≡ [] → 1 ≤ l.n → 1 ≤ length l.seen.keys;
  moves : OnlyReads (g.D.Disk.world l.fn.disk) (g.D.Disk.world l.disk);
}
