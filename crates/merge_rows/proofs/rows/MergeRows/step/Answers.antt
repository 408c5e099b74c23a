use Rattle.std.specs.Prelude.{IfSome}
use Rattle.std.specs.List.{AllByRecursion}
use Rattle.merge_rows.specs.Choosing.{IsHeadFrom}
use Rattle.std.proofs.Common.{map, ◌≡◌, ◌∙◌, ◌+◌, ◌≤◌, List, sym, ap, subst}
use Rattle.entry_model.specs.Entries.{Entry}
use Rattle.merge_rows.specs.Rows.{KeyFloor}
use Rattle.merge_rows.specs.Merges.{TableWalk, left_above, merged_left}
use Rattle.merge_rows.specs.Reads.{AreAtEnd, HaveReadAll, PassSound, blocks_left, wanted_by}
use Rattle.merge_rows.specs.Steps.{AreCaughtUp, AreHeadsClear, HandsOutRow, IsCaughtUp, RowPasses, numbers, stands}
use Rattle.table_file.specs.Walks.{first_of}
use Rattle.merge_rows.proofs.RowSteps.{chosen_least, chosen_passes, step_rows, step_sound}
use Rattle.merge_rows.proofs.SoundPasses.{chosen_ended}
use Rattle.merge_rows.proofs.rows.MergeRows.step.Goals as goal

pub returns-clause-kept : goal.returns-clause-kept
returns-clause-kept g c =
    let tables = c.args.tables.now.tables in
    let image = (g.D.Disk.world c.args.disk.now).seen.held in
    let old = c.args.self.now in
    let mid = c.catch_up.new.self in
    let new = c.choose.new.self in
    let stays = c.catch_up.ensures.stays in
    let floor_is : old.floor ≡ mid.floor = sym stays.floor_is in
    let caught : IsCaughtUp mid.floor (first_of mid.memory) mid.memory = subst (λ (f : KeyFloor). IsCaughtUp f (first_of mid.memory) mid.memory) floor_is c.catch_up.ensures.memory in
    let clear : AreHeadsClear mid.floor mid.walks = subst (λ (f : KeyFloor). AreHeadsClear f mid.walks) floor_is c.in_ok-catch_up.ensures.heads_pass in
    let passes : RowPasses new.now mid.floor new.floor = chosen_passes mid.floor new.floor mid.memory mid.walks new.now c.choose.ensures.chosen caught clear in
    record {
      numbers_are = ap numbers c.choose.ensures.walks ∙ stays.sources.numbers_are;
      stands_are = ap stands c.choose.ensures.walks ∙ stays.sources.stands_are;
      drops_are = c.choose.ensures.drops ∙ stays.sources.drops_are;
      sound = λ t s. step_sound tables image mid new c.choose.ensures.memory c.choose.ensures.walks c.choose.ensures.chosen
          (subst (λ (f : KeyFloor). AreCaughtUp f tables image mid.walks) floor_is (c.in_ok-catch_up.ensures.caught_up t)) passes (stays.sources.sound t s);
    }

pub returns-clause-rows : goal.returns-clause-rows
returns-clause-rows g c t s =
    let tables = c.args.tables.now.tables in
    let image = (g.D.Disk.world c.args.disk.now).seen.held in
    let old = c.args.self.now in
    let mid = c.catch_up.new.self in
    let new = c.choose.new.self in
    let stays = c.catch_up.ensures.stays in
    let floor_is : old.floor ≡ mid.floor = sym stays.floor_is in
    let caught : IsCaughtUp mid.floor (first_of mid.memory) mid.memory = subst (λ (f : KeyFloor). IsCaughtUp f (first_of mid.memory) mid.memory) floor_is c.catch_up.ensures.memory in
    let clear : AreHeadsClear mid.floor mid.walks = subst (λ (f : KeyFloor). AreHeadsClear f mid.walks) floor_is c.in_ok-catch_up.ensures.heads_pass in
    let passes : RowPasses new.now mid.floor new.floor = chosen_passes mid.floor new.floor mid.memory mid.walks new.now c.choose.ensures.chosen caught clear in
    subst (λ (l : List Entry). HandsOutRow new.now l (merged_left new tables image)) (stays.left t)
    (step_rows tables image mid new c.choose.ensures.memory c.choose.ensures.walks c.choose.ensures.chosen
    (subst (λ (f : KeyFloor). AreCaughtUp f tables image mid.walks) floor_is (c.in_ok-catch_up.ensures.caught_up t)) passes (stays.sources.sound t s))

pub returns-clause-passes : goal.returns-clause-passes
returns-clause-passes g c =
    let tables = c.args.tables.now.tables in
    let image = (g.D.Disk.world c.args.disk.now).seen.held in
    let old = c.args.self.now in
    let mid = c.catch_up.new.self in
    let new = c.choose.new.self in
    let stays = c.catch_up.ensures.stays in
    let floor_is : old.floor ≡ mid.floor = sym stays.floor_is in
    let caught : IsCaughtUp mid.floor (first_of mid.memory) mid.memory = subst (λ (f : KeyFloor). IsCaughtUp f (first_of mid.memory) mid.memory) floor_is c.catch_up.ensures.memory in
    let clear : AreHeadsClear mid.floor mid.walks = subst (λ (f : KeyFloor). AreHeadsClear f mid.walks) floor_is c.in_ok-catch_up.ensures.heads_pass in
    let passes : RowPasses new.now mid.floor new.floor = chosen_passes mid.floor new.floor mid.memory mid.walks new.now c.choose.ensures.chosen caught clear in
    subst (λ (f : KeyFloor). RowPasses new.now f new.floor) stays.floor_is passes

pub returns-clause-caught_up_past : goal.returns-clause-caught_up_past
returns-clause-caught_up_past g c t =
    let tables = c.args.tables.now.tables in
    let image = (g.D.Disk.world c.args.disk.now).seen.held in
    let floor = c.args.self.now.floor in
    let mid = c.catch_up.new.self in
    let new = c.choose.new.self in
    let walks_are : mid.walks ≡ new.walks = sym c.choose.ensures.walks in
    record {
      same = ap (map (left_above floor tables image)) c.choose.ensures.walks ∙ c.catch_up.ensures.stays.each t;
      caught_up = subst (AreCaughtUp floor tables image) walks_are (c.in_ok-catch_up.ensures.caught_up t);
      least = subst (λ (walks : List TableWalk). IfSome new.now (λ row. AllByRecursion (λ (w : TableWalk). IsHeadFrom row.key w.walk.now) walks)) walks_are
          (chosen_least mid.floor new.floor mid.memory mid.walks new.now c.choose.ensures.chosen);
    }

pub returns-clause-left : goal.returns-clause-left
returns-clause-left g c =
    let tables = c.args.tables.now.tables in
    subst (λ (walks : List TableWalk). blocks_left tables walks ≤ blocks_left tables c.args.self.now.walks) (sym c.choose.ensures.walks) c.in_ok-catch_up.ensures.left

pub returns-clause-spent : goal.returns-clause-spent
returns-clause-spent g c t s =
    let tables = c.args.tables.now.tables in
    subst (λ (walks : List TableWalk). (g.D.Disk.world c.catch_up.new.disk).seen.reads + blocks_left tables walks ≤ (g.D.Disk.world c.args.disk.now).seen.reads + blocks_left tables c.args.self.now.walks)
    (sym c.choose.ensures.walks) (c.in_ok-catch_up.ensures.spent t s)

-- ---- what was passed is sound, and at the end no block is wanted

pub returns-clause-read_sound : goal.returns-clause-read_sound
returns-clause-read_sound g c t =
    subst (PassSound c.args.tables.now.tables (g.D.Disk.world c.args.disk.now).seen.held c.args.self.now.walks) (sym c.choose.ensures.walks) (c.catch_up.ensures.read_sound t)

pub returns-clause-done : goal.returns-clause-done
returns-clause-done g c = subst (λ (walks : List TableWalk). wanted_by c.args.self.now.floor c.args.tables.now.tables walks ≡ 0) (sym c.choose.ensures.walks) c.in_ok-catch_up.ensures.done

pub returns-clause-read_all : goal.returns-clause-read_all
returns-clause-read_all g c = subst (HaveReadAll c.args.tables.now.tables) (sym c.choose.ensures.walks) c.in_ok-catch_up.ensures.read_all

pub returns-clause-ended : goal.returns-clause-ended
returns-clause-ended g c ends =
    let tables = c.args.tables.now.tables in
    let mid = c.catch_up.new.self in
    let new = c.choose.new.self in
    subst (AreAtEnd tables) (sym c.choose.ensures.walks)
    (chosen_ended mid.floor new.floor tables mid.memory mid.walks new.now c.choose.ensures.chosen (sym c.choose.ensures.said ∙ ends) c.in_ok-catch_up.ensures.read_all)

pub returns-clause-least : goal.returns-clause-least
returns-clause-least g c =
    let mid = c.catch_up.new.self in
    let new = c.choose.new.self in
    subst (λ (walks : List TableWalk). IfSome new.now (λ row. AllByRecursion (λ (w : TableWalk). IsHeadFrom row.key w.walk.now) walks)) (sym c.choose.ensures.walks)
    (chosen_least mid.floor new.floor mid.memory mid.walks new.now c.choose.ensures.chosen)
