use Rattle.store_core.specs.Answers.{stopped_by}
use Rattle.surf_run.specs.Kind.{filter_kind}
use Rattle.surf_run.proofs.Changes.{stopped_is}
use Rattle.surf_run.proofs.Tends.{slice_made, slice_told}
use Rattle.surf_run.proofs.one_line.merge_slice.Goals as goal

pub returns : goal.returns
returns g c =
    let a = g.W.Disk.world c.args.out.now in
    let b = g.W.Disk.world c.tend-tended.new.disk in
    let made = c.tend-tended.result in
    let after = c.tend-tended.new.self in
    slice_made (filter_kind g.F.RangeFilter.spelling g.F.RangeFilter.built_cutoff) g.W.Disk.tells made c.end_of_slice.result c.end_of_slice.ensures c.args.store.now after a b
    (slice_told made c.args.store.now after c.args.store.now.stopped c.args.store.now.manifest.version.epoch a b c.requires.running c.tend-tended.ensures.refused)
    (stopped_is c.args.store.now.stopped after.stopped (stopped_by made) c.requires.running c.tend-tended.ensures.stopped) c.consistency_law.ensures.slot c.tend-tended.ensures.moves
    (λ tells. c.tend-tended.ensures.shown tells) (λ tells. g.met.W.Disk.current c.args.out.now tells) c.tend-tended.ensures.pages c.args.blocks
    (λ s tells tied. c.tend-tended.ensures.answered s tells c.requires.running tied) (λ s tells tied. c.tend-tended.ensures.reads s tells tied)
