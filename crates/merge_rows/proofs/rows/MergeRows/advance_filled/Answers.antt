use Rattle.std.proofs.Common.{◌∙◌, sym, subst}
use Rattle.merge_rows.specs.Reads.{AreAtEnd, HaveReadAll}
use Rattle.merge_rows.proofs.FilledSteps.{filled_row, filled_sources}
use Rattle.merge_rows.proofs.SoundPasses.{chosen_ended}
use Rattle.merge_rows.proofs.rows.MergeRows.advance_filled.Goals as goal

pub returns-clause-row : goal.returns-clause-row
returns-clause-row c tells tables image caught =
    let old = c.args.self.now in
    let mid = c.pass_memory.new.self in
    let new = c.choose.new.self in
    let memory = c.pass_memory.ensures in
    let chosen = c.choose.ensures in (
      filled_sources old mid new memory.floor memory.drops memory.walks memory.same memory.rises memory.caught_up c.requires.heads_pass chosen.memory chosen.walks chosen.drops chosen.chosen tells tables image caught,
      filled_row old mid new memory.floor memory.drops memory.walks memory.same memory.rises memory.caught_up c.requires.heads_pass chosen.memory chosen.walks chosen.drops chosen.chosen tells tables image caught c.requires.whole,
    )

pub returns-clause-ended : goal.returns-clause-ended
returns-clause-ended c tables read ends =
    let mid = c.pass_memory.new.self in
    let new = c.choose.new.self in
    subst (AreAtEnd tables) (sym c.choose.ensures.walks)
    (chosen_ended mid.floor new.floor tables mid.memory mid.walks new.now c.choose.ensures.chosen (sym c.choose.ensures.said ∙ ends) (subst (HaveReadAll tables) (sym c.pass_memory.ensures.walks) read))
