use Rattle.std.proofs.Common.{◌≡◌, ◌≤◌, map}
use Rattle.disk_mem.specs.Calls.{calls_by}
use Rattle.disk_mem.specs.Choices.{crash_bytes, pending, pick_of}
use Rattle.disk_mem.proofs.crash.crashed.Given as goal

abbrev pub invariant-loop-number : goal.invariant-loop-number
invariant-loop-number l = record {
  bytes : l.bytes.items ≡ crash_bytes l.first (calls_by l.number l.log.calls) (map pick_of l.choice);
  next : l.next ≡ pending (calls_by l.number l.log.calls);
  small : l.next ≤ l.number;
}
