use Rattle.store_core.specs.Answers.{stopped_by}
use Rattle.surf_run.specs.Kind.{filter_kind}
use Rattle.surf_run.proofs.Changes.{is_told, stopped_is}
use Rattle.surf_run.proofs.Compacts.{compact_answers, compact_told}
use Rattle.surf_run.proofs.answers.compact_line.Goals as goal

pub say_change-requires-clause-told : goal.say_change-requires-clause-told
say_change-requires-clause-told g c =
    let a = g.W.Disk.world c.args.out.now in
    let mid = g.W.Disk.world c.compact-changed.new.disk in
    is_told c.compact-changed.result a mid (compact_told c.compact-changed.result c.args.store.now.stopped c.args.store.now.manifest.version.epoch a mid c.requires.running c.compact-changed.ensures.refused)

pub returns : goal.returns
returns g c =
    let a = g.W.Disk.world c.args.out.now in
    let mid = g.W.Disk.world c.compact-changed.new.disk in
    let b = g.W.Disk.world c.say_change.new.out in
    compact_answers (filter_kind g.F.RangeFilter.spelling g.F.RangeFilter.built_cutoff) g.W.Disk.tells g.W.Outside.tells_output c.compact-changed.result c.args.store.now c.compact-changed.new.self c.say_change.result a mid b
    (compact_told c.compact-changed.result c.args.store.now.stopped c.args.store.now.manifest.version.epoch a mid c.requires.running c.compact-changed.ensures.refused)
    (stopped_is c.args.store.now.stopped c.compact-changed.new.self.stopped (stopped_by c.compact-changed.result) c.requires.running c.compact-changed.ensures.stopped) c.consistency_law.ensures.slot c.compact-changed.ensures.moves
    (g.met.W.Outside.said_now c.args.out.now) (g.met.W.Outside.said_now c.compact-changed.new.disk) c.say_change.ensures.moves c.say_change.ensures.ends
    (λ s tells tied. c.compact-changed.ensures.answered s tells c.requires.running tied) (λ reply output is. c.say_change.ensures.says reply output is) (λ tells. g.met.W.Disk.current c.args.out.now tells)
    (λ tells. c.compact-changed.ensures.shown tells) c.compact-changed.ensures.pages
