use Rattle.std.proofs.Common.{◌≡◌}
use Rattle.disk_mem.specs.Calls.{calls_by, last_sync}
use Rattle.disk_mem.proofs.call_log.CallLog.last_sync.Given as goal

abbrev pub invariant-loop-number : goal.invariant-loop-number
invariant-loop-number l = l.last ≡ last_sync (calls_by l.number l.self.calls)
