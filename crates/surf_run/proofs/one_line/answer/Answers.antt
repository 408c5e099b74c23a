use Rattle.std.proofs.Common.{refl, subst, sym}
use Rattle.line_model.specs.Requests.{Bad, Request}
use Rattle.surf_run.specs.Kind.{filter_kind}
use Rattle.surf_run.specs.Slices.{ServesLine}
use Rattle.surf_run.proofs.Slices.{serves_alone}
use Rattle.surf_run.proofs.one_line.answer.Goals as goal

pub returns-in-Err : goal.returns-in-Err
returns-in-Err g c =
    let kind = filter_kind g.F.RangeFilter.spelling g.F.RangeFilter.built_cutoff in
    let a = g.W.Disk.world c.args.out.now in
    let b = g.W.Disk.world c.bad_line.new.out in
    subst (λ (r : Request). ServesLine kind g.W.Disk.tells g.W.Outside.tells_output r c.bad_line.result c.args.store.now c.args.store.now a b) (sym c.in-Err.ensures)
    (serves_alone kind g.W.Disk.tells g.W.Outside.tells_output (Bad c.in-Err.field-0.0) c.bad_line.result c.args.store.now c.args.store.now a b (g.met.W.Outside.said_now c.bad_line.new.out) (λ next. refl) c.bad_line.ensures)
