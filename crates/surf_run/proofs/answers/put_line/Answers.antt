use Rattle.line_model.specs.Limits.{limit_of}
use Rattle.line_model.specs.Requests.{Put}
use Rattle.store_core.specs.Answers.{stopped_by}
use Rattle.surf_run.specs.Kind.{filter_kind}
use Rattle.surf_run.proofs.Changes.{change_answers, change_onward, change_told, is_told, stopped_is, write_unharmed}
use Rattle.surf_run.proofs.answers.put_line.Goals as goal

pub say_change-requires-clause-told : goal.say_change-requires-clause-told
say_change-requires-clause-told g c =
    let a = g.W.Disk.world c.args.out.now in
    let mid = g.W.Disk.world c.put-changed.new.disk in
    is_told c.put-changed.result a mid (change_told c.put-changed.result c.args.store.now.stopped (limit_of (Put c.args.key.now c.args.value.now)) a mid c.requires.running c.put-changed.ensures.refused)

pub returns-clause-answers : goal.returns-clause-answers
returns-clause-answers g c =
    let a = g.W.Disk.world c.args.out.now in
    let mid = g.W.Disk.world c.put-changed.new.disk in
    let b = g.W.Disk.world c.say_change.new.out in
    change_answers (filter_kind g.F.RangeFilter.spelling g.F.RangeFilter.built_cutoff) g.W.Disk.tells g.W.Outside.tells_output (Put c.args.key.now c.args.value.now) c.put-changed.result c.args.store.now c.put-changed.new.self c.say_change.result a mid b
    (change_told c.put-changed.result c.args.store.now.stopped (limit_of (Put c.args.key.now c.args.value.now)) a mid c.requires.running c.put-changed.ensures.refused)
    (stopped_is c.args.store.now.stopped c.put-changed.new.self.stopped (stopped_by c.put-changed.result) c.requires.running c.put-changed.ensures.stopped) c.consistency_law.ensures.slot
    (g.met.W.Outside.said_now c.args.out.now) (g.met.W.Outside.said_now c.put-changed.new.disk) c.say_change.ensures.moves c.say_change.ensures.ends
    (λ s tells tied. c.put-changed.ensures.answered s tells c.requires.running tied) (λ reply output is. c.say_change.ensures.says reply output is) (λ tells. g.met.W.Disk.current c.args.out.now tells)
    (write_unharmed c.put-changed.result c.args.store.now.stopped (limit_of (Put c.args.key.now c.args.value.now)) a mid c.put-changed.ensures.refused) c.put-changed.ensures.moves c.put-changed.ensures.pages

pub returns-clause-onward : goal.returns-clause-onward
returns-clause-onward g c output is =
    let a = g.W.Disk.world c.args.out.now in
    let mid = g.W.Disk.world c.put-changed.new.disk in
    let b = g.W.Disk.world c.say_change.new.out in
    change_onward c.put-changed.result c.say_change.result a mid b (change_told c.put-changed.result c.args.store.now.stopped (limit_of (Put c.args.key.now c.args.value.now)) a mid c.requires.running c.put-changed.ensures.refused)
    c.say_change.ensures.ends c.put-changed.ensures.moves.beside (λ reply told. c.say_change.ensures.says reply output told) is
