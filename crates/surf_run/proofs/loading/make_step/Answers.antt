use Rattle.entry_model.specs.Entries.{entry_of}
use Rattle.surf_run.specs.Kind.{filter_kind}
use Rattle.surf_run.proofs.LoadChanges.{step_cut, step_made}
use Rattle.surf_run.proofs.loading.make_step.Goals as goal

pub returns-in-End : goal.returns-in-End
returns-in-End g c =
    step_cut (filter_kind g.F.RangeFilter.spelling g.F.RangeFilter.built_cutoff) g.W.Disk.tells g.W.Outside.tells_output (entry_of c.args.step.key c.args.step.value) c.in_ok-done.done c.args.store.now c.make_change.new.store
    (g.W.Disk.world c.args.out.now) (g.W.Disk.world c.make_change.new.out) (g.met.W.Outside.said_now c.make_change.new.out) c.in_ok-done.ensures c.merge_slice.new.store (g.W.Disk.world c.merge_slice.new.out)
    c.in-End.status c.in-End.ensures

pub returns-in_default : goal.returns-in_default
returns-in_default g c =
    step_made (filter_kind g.F.RangeFilter.spelling g.F.RangeFilter.built_cutoff) g.W.Disk.tells g.W.Outside.tells_output (entry_of c.args.step.key c.args.step.value) c.in_ok-done.done c.args.store.now c.make_change.new.store
    (g.W.Disk.world c.args.out.now) (g.W.Disk.world c.make_change.new.out) (g.met.W.Outside.said_now c.make_change.new.out) c.in_ok-done.ensures c.merge_slice.new.store (g.W.Disk.world c.merge_slice.new.out)
    c.merge_slice.result c.in_default.not-End c.merge_slice.ensures
