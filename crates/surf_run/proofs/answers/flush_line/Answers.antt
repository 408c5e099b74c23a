use Rattle.std.specs.Prelude.{None}
use Rattle.line_model.specs.Requests.{Flush}
use Rattle.store_core.specs.Answers.{stopped_by}
use Rattle.surf_run.specs.Kind.{filter_kind}
use Rattle.surf_run.proofs.Changes.{change_answers, change_told, is_told, stopped_is, write_unharmed}
use Rattle.surf_run.proofs.answers.flush_line.Goals as goal

pub say_change-requires-clause-told : goal.say_change-requires-clause-told
say_change-requires-clause-told g c =
    let a = g.W.Disk.world c.args.out.now in
    let mid = g.W.Disk.world c.flush-changed.new.disk in
    is_told c.flush-changed.result a mid (change_told c.flush-changed.result c.args.store.now.stopped None a mid c.requires.running c.flush-changed.ensures.refused)

pub returns : goal.returns
returns g c =
    let a = g.W.Disk.world c.args.out.now in
    let mid = g.W.Disk.world c.flush-changed.new.disk in
    let b = g.W.Disk.world c.say_change.new.out in
    change_answers (filter_kind g.F.RangeFilter.spelling g.F.RangeFilter.built_cutoff) g.W.Disk.tells g.W.Outside.tells_output Flush c.flush-changed.result c.args.store.now c.flush-changed.new.self c.say_change.result a mid b
    (change_told c.flush-changed.result c.args.store.now.stopped None a mid c.requires.running c.flush-changed.ensures.refused)
    (stopped_is c.args.store.now.stopped c.flush-changed.new.self.stopped (stopped_by c.flush-changed.result) c.requires.running c.flush-changed.ensures.stopped) c.consistency_law.ensures.slot
    (g.met.W.Outside.said_now c.args.out.now) (g.met.W.Outside.said_now c.flush-changed.new.disk) c.say_change.ensures.moves c.say_change.ensures.ends
    (λ s tells tied. c.flush-changed.ensures.answered s tells c.requires.running tied) (λ reply output is. c.say_change.ensures.says reply output is) (λ tells. g.met.W.Disk.current c.args.out.now tells)
    (write_unharmed c.flush-changed.result c.args.store.now.stopped None a mid c.flush-changed.ensures.refused) c.flush-changed.ensures.moves c.flush-changed.ensures.pages
