use Rattle.line_model.specs.Limits.{limit_of}
use Rattle.line_model.specs.Requests.{Del}
use Rattle.store_core.specs.Answers.{stopped_by}
use Rattle.surf_run.specs.Kind.{filter_kind}
use Rattle.surf_run.proofs.Changes.{change_answers, change_onward, change_told, is_told, stopped_is, write_unharmed}
use Rattle.surf_run.proofs.answers.del_line.Goals as goal

pub say_change-requires-clause-told : goal.say_change-requires-clause-told
say_change-requires-clause-told g c =
    let a = g.W.Disk.world c.args.out.now in
    let mid = g.W.Disk.world c.delete-changed.new.disk in
    is_told c.delete-changed.result a mid (change_told c.delete-changed.result c.args.store.now.stopped (limit_of (Del c.args.key.now)) a mid c.requires.running c.delete-changed.ensures.refused)

pub returns-clause-answers : goal.returns-clause-answers
returns-clause-answers g c =
    let a = g.W.Disk.world c.args.out.now in
    let mid = g.W.Disk.world c.delete-changed.new.disk in
    let b = g.W.Disk.world c.say_change.new.out in
    change_answers (filter_kind g.F.RangeFilter.spelling g.F.RangeFilter.built_cutoff) g.W.Disk.tells g.W.Outside.tells_output (Del c.args.key.now) c.delete-changed.result c.args.store.now c.delete-changed.new.self c.say_change.result a mid b
    (change_told c.delete-changed.result c.args.store.now.stopped (limit_of (Del c.args.key.now)) a mid c.requires.running c.delete-changed.ensures.refused)
    (stopped_is c.args.store.now.stopped c.delete-changed.new.self.stopped (stopped_by c.delete-changed.result) c.requires.running c.delete-changed.ensures.stopped) c.consistency_law.ensures.slot
    (g.met.W.Outside.said_now c.args.out.now) (g.met.W.Outside.said_now c.delete-changed.new.disk) c.say_change.ensures.moves c.say_change.ensures.ends
    (λ s tells tied. c.delete-changed.ensures.answered s tells c.requires.running tied) (λ reply output is. c.say_change.ensures.says reply output is) (λ tells. g.met.W.Disk.current c.args.out.now tells)
    (write_unharmed c.delete-changed.result c.args.store.now.stopped (limit_of (Del c.args.key.now)) a mid c.delete-changed.ensures.refused) c.delete-changed.ensures.moves c.delete-changed.ensures.pages

pub returns-clause-onward : goal.returns-clause-onward
returns-clause-onward g c output is =
    let a = g.W.Disk.world c.args.out.now in
    let mid = g.W.Disk.world c.delete-changed.new.disk in
    let b = g.W.Disk.world c.say_change.new.out in
    change_onward c.delete-changed.result c.say_change.result a mid b (change_told c.delete-changed.result c.args.store.now.stopped (limit_of (Del c.args.key.now)) a mid c.requires.running c.delete-changed.ensures.refused)
    c.say_change.ensures.ends c.delete-changed.ensures.moves.beside (λ reply told. c.say_change.ensures.says reply output told) is
