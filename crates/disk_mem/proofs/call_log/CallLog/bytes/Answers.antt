use Rattle.std.proofs.Common.{ap}
use Rattle.disk_mem.specs.Calls.{Call}
use Rattle.disk_mem.proofs.Logs.{seen_at, seen_in_range}
use Rattle.disk_mem.proofs.call_log.CallLog.bytes.Goals as goal

pub returns-clause-bytes : goal.returns-clause-bytes
returns-clause-bytes c = rw c.deref.ensures.value (ap (λ (call : Call). call.bytes) (seen_at c.self.inside.moved.items c.self.inside.entries.items _ c.args.number _ (λ i. (c.self.view_is i).calls) c.requires c.index-entry.ensures))

pub returns-clause-in_range : goal.returns-clause-in_range
returns-clause-in_range c = rw c.deref.ensures.value (seen_in_range c.self.inside.moved.items c.self.inside.entries.items _ c.args.number _ (λ i. (c.self.view_is i).calls) c.requires c.index-entry.ensures c.self.invariant)
