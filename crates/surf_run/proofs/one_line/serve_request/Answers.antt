use Rattle.std.proofs.Common.{sym}
use Rattle.surf_run.specs.Kind.{filter_kind}
use Rattle.surf_run.proofs.Slices.{serves_alone}
use Rattle.surf_run.proofs.one_line.serve_request.Goals as goal

pub returns : goal.returns
returns g c =
    serves_alone (filter_kind g.F.RangeFilter.spelling g.F.RangeFilter.built_cutoff) g.W.Disk.tells g.W.Outside.tells_output _ c.answer_request.result c.args.store.now c.answer_request.new.store
    (g.W.Disk.world c.args.out.now) (g.W.Disk.world c.answer_request.new.out) (g.met.W.Outside.said_now c.answer_request.new.out) (λ next. sym c.if-is_change.ensures) c.answer_request.ensures.answers
