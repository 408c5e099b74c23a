use Rattle.std.proofs.Common.{ap}
use Rattle.disk_mem.specs.Calls.{Call}
use Rattle.disk_mem.proofs.Logs.{seen_at}
use Rattle.disk_mem.proofs.call_log.CallLog.place.Goals as goal

pub returns : goal.returns
returns c = ap (λ (call : Call). call.at) (seen_at c.self.inside.moved.items c.self.inside.entries.items _ c.args.number _ (λ i. (c.self.view_is i).calls) c.requires c.index.ensures)
