use Rattle.std.proofs.Common.{refl}
use Rattle.surf_run.specs.Kind.{filter_kind}
use Rattle.surf_run.proofs.Slices.{serves_alone, serves_with_slice}
use Rattle.surf_run.proofs.one_line.serve_change.Goals as goal

pub returns-in-Next : goal.returns-in-Next
returns-in-Next g c =
    serves_with_slice (filter_kind g.F.RangeFilter.spelling g.F.RangeFilter.built_cutoff) g.W.Disk.tells g.W.Outside.tells_output _ c.requires.change c.merge_slice.result c.args.store.now c.answer_request.new.store c.merge_slice.new.store
    (g.W.Disk.world c.args.out.now) (g.W.Disk.world c.answer_request.new.out) (g.W.Disk.world c.merge_slice.new.out) (g.met.W.Outside.said_now c.answer_request.new.out) c.in-Next.ensures.answers (λ output. c.in-Next.ensures.onward c.requires.change output refl) c.merge_slice.ensures

pub returns-in_default : goal.returns-in_default
returns-in_default g c =
    serves_alone (filter_kind g.F.RangeFilter.spelling g.F.RangeFilter.built_cutoff) g.W.Disk.tells g.W.Outside.tells_output _ c.answer_request.result c.args.store.now c.answer_request.new.store
    (g.W.Disk.world c.args.out.now) (g.W.Disk.world c.answer_request.new.out) (g.met.W.Outside.said_now c.answer_request.new.out) (λ next. absurd (c.in_default.not-Next next)) c.answer_request.ensures.answers
