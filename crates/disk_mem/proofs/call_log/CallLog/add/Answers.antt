use Rattle.std.proofs.Common.{◌∙◌, ap, ◌∷◌}
use Rattle.disk_mem.specs.Kept.{Log, calls_of}
use Rattle.disk_mem.proofs.Logs.{calls-added}
use Rattle.disk_mem.proofs.call_log.CallLog.add.Goals as goal

pub returns-clause-calls : goal.returns-clause-calls
returns-clause-calls c =
    (λ i. calls_of (c.in-Ok.ensures.items i) (c.push_reserved.ensures.items i))
    ∙ calls-added c.self.inside.moved.items c.args.bytes.now c.self.inside.entries.items c.args.op c.args.at c.len-from.result c.args.done c.self.invariant (c.len-from.ensures ∙ c.self.inside.moved.ok.0)
    ∙ ap (λ (l : Log). record { op = c.args.op; at = c.args.at; bytes = c.args.bytes.now; done = c.args.done } ∷ l.calls) c.self.view_is
