use Rattle.std.proofs.Common.{rules, ◌≡◌, ◌<◌, ◌≤◌, ◌*◌, ◌-◌, ◌∙◌, ◌++◌, ℕ, Bool, List, true, false, refl, sym, ap, subst, arith}
use Rattle.std.specs.Prelude.{IsTrue, Option, None, is_some}
use Rattle.disk_trait.specs.World.{ReadMoves}
use Rattle.disk_trait.specs.Image.{Image}
use Rattle.disk_trait.proofs.Calls.{reads_none}
use Rattle.entry_model.specs.Entries.{Entry}
use Rattle.key_base.specs.Limits.{max_key_bytes}
use Rattle.merge_rows.specs.Merges.{Merge}
use Rattle.merge_rows.specs.Reads.{blocks_left}
use Rattle.merge_rows.specs.Rows.{KeyFloor}
use Rattle.merge_rows.specs.Steps.{AreCaughtUp, IsRowStep, IsSoundMerge, RowPasses, SourcesStay, numbers}
use Rattle.merge_rows.proofs.Rank.{falls, key_of_entry}
use Rattle.merge_rows.proofs.RowSteps.{rises_on}
use Rattle.merge_rows.proofs.Stays.{only_both}
use Rattle.level_merge.specs.JobValue.{IsBuilding, at_hand}
use Rattle.level_merge.specs.SliceSteps.{FillsOutput, KeepsRows, PassesBlocks, left_of}
use Rattle.level_merge.proofs.BlocksPassed.{passes_none, passes_then}
use Rattle.level_merge.proofs.Reading.{both_twice, both_within, later_fault, some_then, then_twice}
use Rattle.level_merge.proofs.RowsTaken.{building_more, building_rises, fills_last, fills_none, fills_one, none_left, row_follows, stays_on}
use Rattle.state_model.specs.Merges.{lasting}
use Rattle.table_file.specs.Building.{Built}
use Rattle.table_file.specs.Opened.{Opened}
use Rattle.level_merge.proofs.taking.take_rows.Goals as goal

-- the step to the next row, as it is said of the device at first
step_of : (tells : Bool) (tables : List Opened) (image here : Image) (mid new : Merge) → here ≡ image
    → ((tells : Bool) (tables : List Opened) (image : Image) → (IsTrue tells → AreCaughtUp mid.floor tables image mid.walks) → SourcesStay tells tables image mid new × IsRowStep tells tables image mid new)
    → (IsTrue tells → AreCaughtUp mid.floor tables here mid.walks) → SourcesStay tells tables image mid new × IsRowStep tells tables image mid new
step_of tells tables image here mid new held row caught = row tells tables image (λ t. subst (λ (h : Image). AreCaughtUp mid.floor tables h mid.walks) held (caught t))

-- no block is read for it
same_blocks : (tables : List Opened) (mid new : Merge) → new.walks ≡ mid.walks → blocks_left tables new.walks ≤ blocks_left tables mid.walks
same_blocks tables mid new walks = omega (arith, ap (blocks_left tables) walks)

-- ---- a row was taken

pub advance_filled-requires-clause-whole : goal.advance_filled-requires-clause-whole
advance_filled-requires-clause-whole g c =
    c.read_ahead.ensures.kept.sources.drops_are ∙ c.loop-rows.invariant.stay.drops_are ∙ c.requires.whole

pub add_row-requires-clause-above : goal.add_row-requires-clause-above
add_row-requires-clause-above g c =
    let mid = c.read_ahead.new.rows in
    let new = c.advance_filled.new.self in
    let built = c.loop-rows.built.entries in
    let some_ahead : is_some c.in_ok-ahead.ahead ≡ true = ap (λ (o : Option ℕ). is_some o) c.in-Some.is in
    let step = c.advance_filled.ensures.row g.D.Disk.tells c.args.tables.now.tables (g.D.Disk.world c.loop-rows.disk).seen.held (λ t. c.in_ok-ahead.ensures.caught_up t some_ahead) in
    let building = subst (λ (f : KeyFloor). IsBuilding f built) (sym c.read_ahead.ensures.kept.floor_is) c.loop-rows.invariant.building in
    row_follows new.now mid.floor new.floor built step.1.passes building

pub loop-rows-smaller : goal.loop-rows-smaller
loop-rows-smaller g c =
    let mid = c.read_ahead.new.rows in
    let new = c.advance_filled.new.self in
    let some_ahead : is_some c.in_ok-ahead.ahead ≡ true = ap (λ (o : Option ℕ). is_some o) c.in-Some.is in
    let step = c.advance_filled.ensures.row g.D.Disk.tells c.args.tables.now.tables (g.D.Disk.world c.loop-rows.disk).seen.held (λ t. c.in_ok-ahead.ensures.caught_up t some_ahead) in
    let some : is_some new.now ≡ true = sym c.advance_filled.ensures.said ∙ c.if-not-advance_filled.false in
    let passes = subst (λ (f : KeyFloor). RowPasses new.now f new.floor) c.read_ahead.ensures.kept.floor_is step.1.passes in
    falls max_key_bytes new.now c.loop-rows.rows.floor new.floor some passes (key_of_entry new.now c.advance_filled.ensures.sound)

pub loop-rows-init : goal.loop-rows-init
loop-rows-init g c =
    let tables = c.args.tables.now.tables in
    let before = g.D.Disk.world c.args.disk.now in
    record {
      stay = record { numbers_are = refl; stands_are = refl; drops_are = refl; sound = λ t s. s };
      building = c.requires.begun;
      settings = refl;
      ranges = refl;
      fills = fills_none g.D.Disk.tells tables before.seen.held c.args.beside c.args.drops c.args.rows.now c.args.built.now.entries;
      within = omega arith;
      passes = passes_none g.D.Disk.tells tables before.seen.held c.args.blocks c.args.rows.now.walks;
      some = λ less. absurd (omega (arith, less));
      moves = (0, reads_none 0 before);
      caught_up_past = reads_none (2 * (c.args.blocks - c.args.blocks)) before;
      counted = λ t s. reads_none (c.args.blocks - c.args.blocks) before;
    }

pub loop-rows-preserved : goal.loop-rows-preserved
loop-rows-preserved g c =
    let tells = g.D.Disk.tells in
    let tables = c.args.tables.now.tables in
    let before = g.D.Disk.world c.args.disk.now in
    let start = g.D.Disk.world c.loop-rows.disk in
    let after = g.D.Disk.world c.read_ahead.new.disk in
    let image = before.seen.held in
    let first = c.args.rows.now in
    let old = c.loop-rows.rows in
    let mid = c.read_ahead.new.rows in
    let new = c.advance_filled.new.self in
    let begun = c.args.built.now.entries in
    let built = c.loop-rows.built.entries in
    let from = c.loop-rows.invariant in
    let read = c.in_ok-ahead.ensures in
    let held = from.moves.1.held in
    let some_ahead : is_some c.in_ok-ahead.ahead ≡ true = ap (λ (o : Option ℕ). is_some o) c.in-Some.is in
    let kept : KeepsRows tells tables image old mid = subst (λ (h : Image). KeepsRows tells tables h old mid) held c.read_ahead.ensures.kept in
    let step = step_of tells tables image start.seen.held mid new held c.advance_filled.ensures.row (λ t. read.caught_up t some_ahead) in
    let left = same_blocks tables mid new c.advance_filled.ensures.walks in
    let some : is_some new.now ≡ true = sym c.advance_filled.ensures.said ∙ c.if-not-advance_filled.false in
    let added : c.add_row.new.built.entries ≡ built ++ lasting c.args.drops (at_hand new.now) = ap (λ (b : Built). b.entries) c.in_ok-add_row.ensures.added in
    let building = subst (λ (f : KeyFloor). IsBuilding f built) (sym kept.floor_is) from.building in
    let is = c.in-Some.is in
    let rest = c.in-Some.rest in
    let within : rest ≤ c.loop-rows.left = subst (λ (o : Option ℕ). left_of o ≤ c.loop-rows.left) is read.within in
    record {
      stay = stays_on tells tables image c.args.beside c.args.drops first old mid begun built from.stay from.fills kept read.fewer new step.0 step.1 left;
      building = subst (IsBuilding new.floor) (sym added) (building_more new.now c.args.drops mid.floor new.floor built step.1.passes c.advance_filled.ensures.sound building);
      settings = ap (λ (b : Built). b.settings) c.in_ok-add_row.ensures.added ∙ from.settings;
      ranges = ap (λ (b : Built). b.ranges) c.in_ok-add_row.ensures.added ∙ from.ranges;
      fills = subst (λ (es : List Entry). FillsOutput tells tables image c.args.beside c.args.drops first new begun es) (sym added)
          (fills_one tells tables image c.args.beside c.args.drops first old mid begun built from.stay from.fills kept read.fewer new step.0 step.1 left some (sym c.is_full.ensures ∙ c.loop-rows-test.true));
      within = omega (arith, within, from.within);
      passes = subst (PassesBlocks tells tables image c.args.blocks first.walks) (sym c.advance_filled.ensures.walks)
          (passes_then tells tables image c.args.blocks start.seen.held first.walks old.walks mid.walks held from.passes c.loop-rows.left from.within c.read_ahead.ensures.passes);
      some = some_then c.args.blocks c.loop-rows.left rest (blocks_left tables first.walks) (blocks_left tables old.walks) (blocks_left tables new.walks)
          within from.fills.fewer (let two = read.fewer in omega (arith, left, two)) from.some
          (λ fewer. let fell = subst (λ (o : Option ℕ). left_of o < c.loop-rows.left → blocks_left tables mid.walks < blocks_left tables old.walks) is read.some fewer in omega (arith, fell, left));
      moves = only_both before start after from.moves c.read_ahead.ensures.moves;
      caught_up_past = both_twice c.args.blocks c.loop-rows.left rest before start after within from.within from.caught_up_past (subst (λ (o : Option ℕ). ReadMoves (2 * (c.loop-rows.left - left_of o)) start after) is read.caught_up_past);
      counted = λ t s. both_within c.args.blocks c.loop-rows.left rest before start after within from.within (from.counted t s)
          (subst (λ (o : Option ℕ). ReadMoves (c.loop-rows.left - left_of o) start after) is (read.counted t (subst (IsSoundMerge old tables) (sym held) (from.stay.sound t s))));
    }

-- ---- no row was taken

pub returns-in_err-ahead-clause-twice : goal.returns-in_err-ahead-clause-twice
returns-in_err-ahead-clause-twice g c = then_twice c.args.blocks c.loop-rows.left (2 * c.loop-rows.left) (g.D.Disk.world c.args.disk.now) (g.D.Disk.world c.loop-rows.disk) (g.D.Disk.world c.read_ahead.new.disk)
    (omega arith) c.loop-rows.invariant.within c.loop-rows.invariant.caught_up_past c.read_ahead.ensures.twice

pub returns-in_err-ahead-clause-moves : goal.returns-in_err-ahead-clause-moves
returns-in_err-ahead-clause-moves g c =
    only_both (g.D.Disk.world c.args.disk.now) (g.D.Disk.world c.loop-rows.disk) (g.D.Disk.world c.read_ahead.new.disk) c.loop-rows.invariant.moves c.read_ahead.ensures.moves

pub returns-in_err-ahead-clause-fault : goal.returns-in_err-ahead-clause-fault
returns-in_err-ahead-clause-fault g c =
    let old = c.loop-rows.rows in
    let here =
    later_fault g.D.Disk.tells c.args.tables.now.tables (numbers old.walks) (numbers c.args.rows.now.walks) (g.D.Disk.world c.args.disk.now) (g.D.Disk.world c.loop-rows.disk)
    (g.D.Disk.world c.read_ahead.new.disk) c.in_err-ahead.field-0.0 c.loop-rows.invariant.stay.numbers_are c.loop-rows.invariant.moves c.in_err-ahead.ensures.fault in
    search rules

-- without a block that may be read none fails
pub returns-in_err-ahead-clause-unread : goal.returns-in_err-ahead-clause-unread
returns-in_err-ahead-clause-unread g c none =
    let some = c.in_err-ahead.ensures.unread in
    absurd (omega (arith, none, some, c.loop-rows.invariant.within))

-- the next row needs a block
pub returns-in_default-clause-stop : goal.returns-in_default-clause-stop
returns-in_default-clause-stop g c =
    let tables = c.args.tables.now.tables in
    let first = c.args.rows.now in
    let old = c.loop-rows.rows in
    let mid = c.read_ahead.new.rows in
    let from = c.loop-rows.invariant in
    let read = c.in_ok-ahead.ensures in
    let is : c.in_ok-ahead.ahead ≡ None = c.in_default.is in (
      some_then c.args.blocks c.loop-rows.left 0 (blocks_left tables first.walks) (blocks_left tables old.walks) (blocks_left tables mid.walks)
          (omega arith) from.fills.fewer read.fewer from.some
          (subst (λ (o : Option ℕ). left_of o < c.loop-rows.left → blocks_left tables mid.walks < blocks_left tables old.walks) is read.some),
      read.more is,
    )

pub returns-in_default-clause-twice : goal.returns-in_default-clause-twice
returns-in_default-clause-twice g c = then_twice c.args.blocks c.loop-rows.left (2 * c.loop-rows.left) (g.D.Disk.world c.args.disk.now) (g.D.Disk.world c.loop-rows.disk) (g.D.Disk.world c.read_ahead.new.disk)
    (omega arith) c.loop-rows.invariant.within c.loop-rows.invariant.caught_up_past c.read_ahead.ensures.twice

pub returns-in_default-clause-moves : goal.returns-in_default-clause-moves
returns-in_default-clause-moves g c =
    only_both (g.D.Disk.world c.args.disk.now) (g.D.Disk.world c.loop-rows.disk) (g.D.Disk.world c.read_ahead.new.disk) c.loop-rows.invariant.moves c.read_ahead.ensures.moves

pub returns-then-not-advance_filled-clause-sources : goal.returns-then-not-advance_filled-clause-sources
returns-then-not-advance_filled-clause-sources g c =
    let tells = g.D.Disk.tells in
    let tables = c.args.tables.now.tables in
    let image = (g.D.Disk.world c.args.disk.now).seen.held in
    let first = c.args.rows.now in
    let old = c.loop-rows.rows in
    let mid = c.read_ahead.new.rows in
    let new = c.advance_filled.new.self in
    let begun = c.args.built.now.entries in
    let built = c.loop-rows.built.entries in
    let from = c.loop-rows.invariant in
    let read = c.in_ok-ahead.ensures in
    let held = from.moves.1.held in
    let some_ahead : is_some c.in_ok-ahead.ahead ≡ true = ap (λ (o : Option ℕ). is_some o) c.in-Some.is in
    let kept : KeepsRows tells tables image old mid = subst (λ (h : Image). KeepsRows tells tables h old mid) held c.read_ahead.ensures.kept in
    let step = step_of tells tables image (g.D.Disk.world c.loop-rows.disk).seen.held mid new held c.advance_filled.ensures.row (λ t. read.caught_up t some_ahead) in
    let left = same_blocks tables mid new c.advance_filled.ensures.walks in
    stays_on tells tables image c.args.beside c.args.drops first old mid begun built from.stay from.fills kept read.fewer new step.0 step.1 left

pub returns-then-not-advance_filled-clause-building : goal.returns-then-not-advance_filled-clause-building
returns-then-not-advance_filled-clause-building g c =
    let mid = c.read_ahead.new.rows in
    let new = c.advance_filled.new.self in
    let built = c.loop-rows.built.entries in
    let some_ahead : is_some c.in_ok-ahead.ahead ≡ true = ap (λ (o : Option ℕ). is_some o) c.in-Some.is in
    let step = c.advance_filled.ensures.row g.D.Disk.tells c.args.tables.now.tables (g.D.Disk.world c.loop-rows.disk).seen.held (λ t. c.in_ok-ahead.ensures.caught_up t some_ahead) in
    let building = subst (λ (f : KeyFloor). IsBuilding f built) (sym c.read_ahead.ensures.kept.floor_is) c.loop-rows.invariant.building in
    building_rises mid.floor new.floor built (rises_on new.now mid.floor new.floor step.1.passes) building

pub returns-then-not-advance_filled-clause-taken : goal.returns-then-not-advance_filled-clause-taken
returns-then-not-advance_filled-clause-taken g c =
    let tells = g.D.Disk.tells in
    let tables = c.args.tables.now.tables in
    let image = (g.D.Disk.world c.args.disk.now).seen.held in
    let first = c.args.rows.now in
    let old = c.loop-rows.rows in
    let mid = c.read_ahead.new.rows in
    let new = c.advance_filled.new.self in
    let begun = c.args.built.now.entries in
    let built = c.loop-rows.built.entries in
    let from = c.loop-rows.invariant in
    let read = c.in_ok-ahead.ensures in
    let held = from.moves.1.held in
    let some_ahead : is_some c.in_ok-ahead.ahead ≡ true = ap (λ (o : Option ℕ). is_some o) c.in-Some.is in
    let kept : KeepsRows tells tables image old mid = subst (λ (h : Image). KeepsRows tells tables h old mid) held c.read_ahead.ensures.kept in
    let step = step_of tells tables image (g.D.Disk.world c.loop-rows.disk).seen.held mid new held c.advance_filled.ensures.row (λ t. read.caught_up t some_ahead) in
    let left = same_blocks tables mid new c.advance_filled.ensures.walks in
    let none : is_some new.now ≡ false = sym c.advance_filled.ensures.said ∙ c.if-not-advance_filled.true in
    fills_last tells tables image c.args.beside c.args.drops first old mid begun built from.stay from.fills kept read.fewer new step.0 step.1 left none

pub returns-then-not-advance_filled-clause-stop : goal.returns-then-not-advance_filled-clause-stop
returns-then-not-advance_filled-clause-stop g c =
    let tells = g.D.Disk.tells in
    let tables = c.args.tables.now.tables in
    let image = (g.D.Disk.world c.args.disk.now).seen.held in
    let first = c.args.rows.now in
    let old = c.loop-rows.rows in
    let mid = c.read_ahead.new.rows in
    let new = c.advance_filled.new.self in
    let begun = c.args.built.now.entries in
    let built = c.loop-rows.built.entries in
    let from = c.loop-rows.invariant in
    let read = c.in_ok-ahead.ensures in
    let held = from.moves.1.held in
    let some_ahead : is_some c.in_ok-ahead.ahead ≡ true = ap (λ (o : Option ℕ). is_some o) c.in-Some.is in
    let kept : KeepsRows tells tables image old mid = subst (λ (h : Image). KeepsRows tells tables h old mid) held c.read_ahead.ensures.kept in
    let step = step_of tells tables image (g.D.Disk.world c.loop-rows.disk).seen.held mid new held c.advance_filled.ensures.row (λ t. read.caught_up t some_ahead) in
    let left = same_blocks tables mid new c.advance_filled.ensures.walks in
    let none : is_some new.now ≡ false = sym c.advance_filled.ensures.said ∙ c.if-not-advance_filled.true in
    none_left tells tables image c.args.beside c.args.drops first old mid begun built from.stay from.fills kept read.fewer new step.0 step.1 left none

pub returns-then-not-advance_filled-clause-twice : goal.returns-then-not-advance_filled-clause-twice
returns-then-not-advance_filled-clause-twice g c = then_twice c.args.blocks c.loop-rows.left (2 * c.loop-rows.left) (g.D.Disk.world c.args.disk.now) (g.D.Disk.world c.loop-rows.disk) (g.D.Disk.world c.read_ahead.new.disk)
    (omega arith) c.loop-rows.invariant.within c.loop-rows.invariant.caught_up_past c.read_ahead.ensures.twice

pub returns-then-not-advance_filled-clause-moves : goal.returns-then-not-advance_filled-clause-moves
returns-then-not-advance_filled-clause-moves g c =
    only_both (g.D.Disk.world c.args.disk.now) (g.D.Disk.world c.loop-rows.disk) (g.D.Disk.world c.read_ahead.new.disk) c.loop-rows.invariant.moves c.read_ahead.ensures.moves

pub returns-in_err-add_row-clause-sources : goal.returns-in_err-add_row-clause-sources
returns-in_err-add_row-clause-sources g c =
    let tells = g.D.Disk.tells in
    let tables = c.args.tables.now.tables in
    let image = (g.D.Disk.world c.args.disk.now).seen.held in
    let first = c.args.rows.now in
    let old = c.loop-rows.rows in
    let mid = c.read_ahead.new.rows in
    let new = c.advance_filled.new.self in
    let begun = c.args.built.now.entries in
    let built = c.loop-rows.built.entries in
    let from = c.loop-rows.invariant in
    let read = c.in_ok-ahead.ensures in
    let held = from.moves.1.held in
    let some_ahead : is_some c.in_ok-ahead.ahead ≡ true = ap (λ (o : Option ℕ). is_some o) c.in-Some.is in
    let kept : KeepsRows tells tables image old mid = subst (λ (h : Image). KeepsRows tells tables h old mid) held c.read_ahead.ensures.kept in
    let step = step_of tells tables image (g.D.Disk.world c.loop-rows.disk).seen.held mid new held c.advance_filled.ensures.row (λ t. read.caught_up t some_ahead) in
    let left = same_blocks tables mid new c.advance_filled.ensures.walks in
    stays_on tells tables image c.args.beside c.args.drops first old mid begun built from.stay from.fills kept read.fewer new step.0 step.1 left

pub returns-in_err-add_row-clause-building : goal.returns-in_err-add_row-clause-building
returns-in_err-add_row-clause-building g c =
    let mid = c.read_ahead.new.rows in
    let new = c.advance_filled.new.self in
    let built = c.loop-rows.built.entries in
    let some_ahead : is_some c.in_ok-ahead.ahead ≡ true = ap (λ (o : Option ℕ). is_some o) c.in-Some.is in
    let step = c.advance_filled.ensures.row g.D.Disk.tells c.args.tables.now.tables (g.D.Disk.world c.loop-rows.disk).seen.held (λ t. c.in_ok-ahead.ensures.caught_up t some_ahead) in
    let building = subst (λ (f : KeyFloor). IsBuilding f built) (sym c.read_ahead.ensures.kept.floor_is) c.loop-rows.invariant.building in
    subst (IsBuilding new.floor) (sym (ap (λ (b : Built). b.entries) c.in_err-add_row.ensures.unchanged))
    (building_rises mid.floor new.floor built (rises_on new.now mid.floor new.floor step.1.passes) building)

pub returns-in_err-add_row-clause-twice : goal.returns-in_err-add_row-clause-twice
returns-in_err-add_row-clause-twice g c = then_twice c.args.blocks c.loop-rows.left (2 * c.loop-rows.left) (g.D.Disk.world c.args.disk.now) (g.D.Disk.world c.loop-rows.disk) (g.D.Disk.world c.read_ahead.new.disk)
    (omega arith) c.loop-rows.invariant.within c.loop-rows.invariant.caught_up_past c.read_ahead.ensures.twice

pub returns-in_err-add_row-clause-moves : goal.returns-in_err-add_row-clause-moves
returns-in_err-add_row-clause-moves g c =
    only_both (g.D.Disk.world c.args.disk.now) (g.D.Disk.world c.loop-rows.disk) (g.D.Disk.world c.read_ahead.new.disk) c.loop-rows.invariant.moves c.read_ahead.ensures.moves

-- ---- what was passed is sound, and where no row is left no block was left out

pub returns-in_err-ahead-clause-passes : goal.returns-in_err-ahead-clause-passes
returns-in_err-ahead-clause-passes g c =
    let from = c.loop-rows.invariant in
    passes_then g.D.Disk.tells c.args.tables.now.tables (g.D.Disk.world c.args.disk.now).seen.held c.args.blocks (g.D.Disk.world c.loop-rows.disk).seen.held c.args.rows.now.walks c.loop-rows.rows.walks c.read_ahead.new.rows.walks
    from.moves.1.held from.passes c.loop-rows.left from.within c.read_ahead.ensures.passes

pub returns-in_default-clause-passes : goal.returns-in_default-clause-passes
returns-in_default-clause-passes g c =
    let from = c.loop-rows.invariant in
    passes_then g.D.Disk.tells c.args.tables.now.tables (g.D.Disk.world c.args.disk.now).seen.held c.args.blocks (g.D.Disk.world c.loop-rows.disk).seen.held c.args.rows.now.walks c.loop-rows.rows.walks c.read_ahead.new.rows.walks
    from.moves.1.held from.passes c.loop-rows.left from.within c.read_ahead.ensures.passes

pub returns-then-not-advance_filled-clause-passes : goal.returns-then-not-advance_filled-clause-passes
returns-then-not-advance_filled-clause-passes g c =
    let from = c.loop-rows.invariant in
    subst (PassesBlocks g.D.Disk.tells c.args.tables.now.tables (g.D.Disk.world c.args.disk.now).seen.held c.args.blocks c.args.rows.now.walks) (sym c.advance_filled.ensures.walks)
    (passes_then g.D.Disk.tells c.args.tables.now.tables (g.D.Disk.world c.args.disk.now).seen.held c.args.blocks (g.D.Disk.world c.loop-rows.disk).seen.held c.args.rows.now.walks c.loop-rows.rows.walks c.read_ahead.new.rows.walks
    from.moves.1.held from.passes c.loop-rows.left from.within c.read_ahead.ensures.passes)

pub returns-in_err-add_row-clause-passes : goal.returns-in_err-add_row-clause-passes
returns-in_err-add_row-clause-passes g c =
    let from = c.loop-rows.invariant in
    subst (PassesBlocks g.D.Disk.tells c.args.tables.now.tables (g.D.Disk.world c.args.disk.now).seen.held c.args.blocks c.args.rows.now.walks) (sym c.advance_filled.ensures.walks)
    (passes_then g.D.Disk.tells c.args.tables.now.tables (g.D.Disk.world c.args.disk.now).seen.held c.args.blocks (g.D.Disk.world c.loop-rows.disk).seen.held c.args.rows.now.walks c.loop-rows.rows.walks c.read_ahead.new.rows.walks
    from.moves.1.held from.passes c.loop-rows.left from.within c.read_ahead.ensures.passes)

pub returns-then-not-advance_filled-clause-ended : goal.returns-then-not-advance_filled-clause-ended
returns-then-not-advance_filled-clause-ended g c =
    let some_ahead : is_some c.in_ok-ahead.ahead ≡ true = ap (λ (o : Option ℕ). is_some o) c.in-Some.is in
    c.advance_filled.ensures.ended c.args.tables.now.tables (c.in_ok-ahead.ensures.read_all some_ahead) c.if-not-advance_filled.true
