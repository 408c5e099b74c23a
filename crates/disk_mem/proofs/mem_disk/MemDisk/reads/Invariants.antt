use Rattle.std.proofs.Common.{◌≡◌, ◌≤◌}
use Rattle.disk_mem.specs.Calls.{calls_by, reads_in}
use Rattle.disk_mem.proofs.mem_disk.MemDisk.reads.Given as goal

abbrev pub invariant-loop-number : goal.invariant-loop-number
invariant-loop-number l = record { count : l.reads ≡ reads_in (calls_by l.number l.self.calls); small : l.reads ≤ l.number }
