use Rattle.std.proofs.Common.{◌≡◌}
use Rattle.disk_mem.specs.Calls.{bytes_after, calls_by}
use Rattle.disk_mem.proofs.crash.replayed.Given as goal

abbrev pub invariant-loop-number : goal.invariant-loop-number
invariant-loop-number l = l.bytes.items ≡ bytes_after l.first (calls_by l.number l.log.calls)
