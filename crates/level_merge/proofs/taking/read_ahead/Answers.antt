use Rattle.std.proofs.Common.{◌≡◌, ◌∙◌, ◌-◌, ◌*◌, ◌<◌, ℕ, Bool, IsTrue, true, false, sym, ap, subst, arith}
use Rattle.std.specs.Prelude.{Ok}
use Rattle.std.proofs.lemmas.Bool.{false≢true}
use Rattle.disk_trait.specs.Image.{Image}
use Rattle.disk_trait.specs.World.{ReadMoves}
use Rattle.disk_trait.proofs.Calls.{reads_none}
use Rattle.merge_rows.specs.Reads.{IsFewer, blocks_left, wanted}
use Rattle.merge_rows.specs.Rows.{KeyFloor}
use Rattle.merge_rows.specs.Steps.{AreCaughtUp, AreHeadsClear, IsSoundMerge, StaysAt, numbers}
use Rattle.merge_rows.proofs.Stays.{only_then, read_none, read_one}
use Rattle.merge_rows.proofs.WantedLeft.{wanted_left}
use Rattle.level_merge.proofs.BlocksPassed.{passes_none, passes_read, passes_still}
use Rattle.level_merge.proofs.Reading.{all_twice, kept_none, kept_then, later_fault, none_more, none_twice, one_more, one_twice, one_wanted, read_fault, then_twice, within_all}
use Rattle.level_merge.proofs.taking.read_ahead.Goals as goal

pub loop-left-init : goal.loop-left-init
loop-left-init g c =
    let before = g.D.Disk.world c.args.disk.now in
    record {
      kept = kept_none g.D.Disk.tells c.args.tables.now.tables before.seen.held c.args.rows.now;
      within = omega arith;
      fewer = omega arith;
      some = λ less. absurd (omega (arith, less));
      passes = passes_none g.D.Disk.tells c.args.tables.now.tables before.seen.held c.args.blocks c.args.rows.now.walks;
      moves = (0, reads_none 0 before);
      caught_up_past = reads_none (2 * (c.args.blocks - c.args.blocks)) before;
      counted = λ t s. reads_none (c.args.blocks - c.args.blocks) before;
    }

pub loop-left-preserved : goal.loop-left-preserved
loop-left-preserved g c =
    let tables = c.args.tables.now.tables in
    let before = g.D.Disk.world c.args.disk.now in
    let mid = g.D.Disk.world c.loop-left.disk in
    let after = g.D.Disk.world c.fill.new.disk in
    let old = c.loop-left.rows in
    let new = c.fill.new.self in
    let from = c.loop-left.invariant in
    let held = from.moves.1.held in
    let is : c.fill.result ≡ Ok true = c.in-Ok-true.is ∙ ap (λ (b : Bool). Ok b) c.in-Ok-true.field-0-test in
    let less : blocks_left tables new.walks < blocks_left tables old.walks = read_one c.fill.result (blocks_left tables old.walks) (blocks_left tables new.walks) is c.fill.ensures.left in
    record {
      kept = kept_then g.D.Disk.tells tables before.seen.held c.args.rows.now old new from.kept (subst (λ (h : Image). StaysAt g.D.Disk.tells tables h old new) held c.fill.ensures.stays);
      within = omega (arith, from.within);
      fewer = omega (arith, less, from.fewer);
      some = λ _. omega (arith, less, from.fewer);
      passes = passes_read g.D.Disk.tells tables before.seen.held c.args.blocks mid.seen.held c.args.rows.now.walks old.walks new.walks held from.passes (omega (arith, c.loop-left-test.true, from.within)) c.fill.ensures.read_sound;
      moves = only_then 2 before mid after from.moves c.fill.ensures.moves;
      caught_up_past = one_twice c.args.blocks c.loop-left.left before mid after (omega (arith, c.loop-left-test.true)) from.within from.caught_up_past c.fill.ensures.moves;
      counted = λ t s.
          let once = subst (λ (h : Image). IsSoundMerge old tables h → ReadMoves 1 mid after × IsFewer c.fill.result (wanted old tables) (wanted new tables)) held (c.fill.ensures.once t) (from.kept.sources.sound t s) in
          one_more c.args.blocks c.loop-left.left before mid after (omega (arith, c.loop-left-test.true)) from.within (from.counted t s) once.0;
    }

-- ---- none was read

pub returns-in-Ok-false-clause-kept : goal.returns-in-Ok-false-clause-kept
returns-in-Ok-false-clause-kept g c =
    let before = g.D.Disk.world c.args.disk.now in
    let from = c.loop-left.invariant in
    kept_then g.D.Disk.tells c.args.tables.now.tables before.seen.held c.args.rows.now c.loop-left.rows c.fill.new.self from.kept
    (subst (λ (h : Image). StaysAt g.D.Disk.tells c.args.tables.now.tables h c.loop-left.rows c.fill.new.self) from.moves.1.held c.fill.ensures.stays)

pub returns-in-Ok-false-clause-fewer : goal.returns-in-Ok-false-clause-fewer
returns-in-Ok-false-clause-fewer g c =
    let tables = c.args.tables.now.tables in
    let is : c.fill.result ≡ Ok false = c.in-Ok-false.is ∙ ap (λ (b : Bool). Ok b) c.in-Ok-false.field-0-test in
    let same : blocks_left tables c.fill.new.self.walks ≡ blocks_left tables c.loop-left.rows.walks =
    read_none c.fill.result (blocks_left tables c.loop-left.rows.walks) (blocks_left tables c.fill.new.self.walks) is c.fill.ensures.left in
    omega (arith, same, c.loop-left.invariant.fewer)

pub returns-in-Ok-false-clause-some : goal.returns-in-Ok-false-clause-some
returns-in-Ok-false-clause-some g c less =
    let tables = c.args.tables.now.tables in
    let is : c.fill.result ≡ Ok false = c.in-Ok-false.is ∙ ap (λ (b : Bool). Ok b) c.in-Ok-false.field-0-test in
    let same : blocks_left tables c.fill.new.self.walks ≡ blocks_left tables c.loop-left.rows.walks =
    read_none c.fill.result (blocks_left tables c.loop-left.rows.walks) (blocks_left tables c.fill.new.self.walks) is c.fill.ensures.left in
    let fell = c.loop-left.invariant.some less in
    omega (arith, same, fell)

pub returns-in-Ok-false-clause-none_wanted : goal.returns-in-Ok-false-clause-none_wanted
returns-in-Ok-false-clause-none_wanted g c some = c.in-Ok-false.ensures.done c.in-Ok-false.field-0-test

pub returns-in-Ok-false-clause-read_all : goal.returns-in-Ok-false-clause-read_all
returns-in-Ok-false-clause-read_all g c some = c.in-Ok-false.ensures.read_all c.in-Ok-false.field-0-test

pub returns-in-Ok-false-clause-passes : goal.returns-in-Ok-false-clause-passes
returns-in-Ok-false-clause-passes g c =
    let from = c.loop-left.invariant in
    passes_read g.D.Disk.tells c.args.tables.now.tables (g.D.Disk.world c.args.disk.now).seen.held c.args.blocks (g.D.Disk.world c.loop-left.disk).seen.held c.args.rows.now.walks c.loop-left.rows.walks c.fill.new.self.walks
    from.moves.1.held from.passes (omega (arith, c.loop-left-test.true, from.within)) c.fill.ensures.read_sound

pub returns-in-Ok-false-clause-heads_pass : goal.returns-in-Ok-false-clause-heads_pass
returns-in-Ok-false-clause-heads_pass g c less =
    subst (λ (f : KeyFloor). AreHeadsClear f c.fill.new.self.walks) (sym c.fill.ensures.stays.floor_is) (c.in-Ok-false.ensures.heads_pass c.in-Ok-false.field-0-test)

pub returns-in-Ok-false-clause-caught_up : goal.returns-in-Ok-false-clause-caught_up
returns-in-Ok-false-clause-caught_up g c t less =
    let tables = c.args.tables.now.tables in
    let walks = c.fill.new.self.walks in
    let caught = subst (λ (h : Image). AreCaughtUp c.loop-left.rows.floor tables h walks) c.loop-left.invariant.moves.1.held (c.in-Ok-false.ensures.caught_up t c.in-Ok-false.field-0-test) in
    subst (λ (f : KeyFloor). AreCaughtUp f tables (g.D.Disk.world c.args.disk.now).seen.held walks) (sym c.fill.ensures.stays.floor_is) caught

pub returns-in-Ok-false-clause-moves : goal.returns-in-Ok-false-clause-moves
returns-in-Ok-false-clause-moves g c =
    only_then 2 (g.D.Disk.world c.args.disk.now) (g.D.Disk.world c.loop-left.disk) (g.D.Disk.world c.fill.new.disk) c.loop-left.invariant.moves c.fill.ensures.moves

pub returns-in-Ok-false-clause-caught_up_past : goal.returns-in-Ok-false-clause-caught_up_past
returns-in-Ok-false-clause-caught_up_past g c =
    none_twice c.args.blocks c.loop-left.left (g.D.Disk.world c.args.disk.now) (g.D.Disk.world c.loop-left.disk) (g.D.Disk.world c.fill.new.disk) c.loop-left.invariant.caught_up_past
    (c.in-Ok-false.ensures.idle c.in-Ok-false.field-0-test)

pub returns-in-Ok-false-clause-twice : goal.returns-in-Ok-false-clause-twice
returns-in-Ok-false-clause-twice g c =
    all_twice c.args.blocks c.loop-left.left (g.D.Disk.world c.args.disk.now) (g.D.Disk.world c.fill.new.disk)
    (none_twice c.args.blocks c.loop-left.left (g.D.Disk.world c.args.disk.now) (g.D.Disk.world c.loop-left.disk) (g.D.Disk.world c.fill.new.disk) c.loop-left.invariant.caught_up_past
    (c.in-Ok-false.ensures.idle c.in-Ok-false.field-0-test))

pub returns-in-Err-clause-twice : goal.returns-in-Err-clause-twice
returns-in-Err-clause-twice g c =
    then_twice c.args.blocks c.loop-left.left 2 (g.D.Disk.world c.args.disk.now) (g.D.Disk.world c.loop-left.disk) (g.D.Disk.world c.fill.new.disk) (omega (arith, c.loop-left-test.true)) c.loop-left.invariant.within
    c.loop-left.invariant.caught_up_past c.fill.ensures.moves

pub returns-in-Ok-false-clause-counted : goal.returns-in-Ok-false-clause-counted
returns-in-Ok-false-clause-counted g c t s =
    none_more c.args.blocks c.loop-left.left (g.D.Disk.world c.args.disk.now) (g.D.Disk.world c.loop-left.disk) (g.D.Disk.world c.fill.new.disk) (c.loop-left.invariant.counted t s)
    (c.in-Ok-false.ensures.idle c.in-Ok-false.field-0-test)

pub returns-in-Ok-false-clause-bounded : goal.returns-in-Ok-false-clause-bounded
returns-in-Ok-false-clause-bounded g c t s =
    within_all c.args.blocks c.loop-left.left (g.D.Disk.world c.args.disk.now) (g.D.Disk.world c.fill.new.disk)
    (none_more c.args.blocks c.loop-left.left (g.D.Disk.world c.args.disk.now) (g.D.Disk.world c.loop-left.disk) (g.D.Disk.world c.fill.new.disk) (c.loop-left.invariant.counted t s)
    (c.in-Ok-false.ensures.idle c.in-Ok-false.field-0-test))

-- ---- the read failed

pub returns-in-Err-clause-kept : goal.returns-in-Err-clause-kept
returns-in-Err-clause-kept g c =
    let before = g.D.Disk.world c.args.disk.now in
    let from = c.loop-left.invariant in
    kept_then g.D.Disk.tells c.args.tables.now.tables before.seen.held c.args.rows.now c.loop-left.rows c.fill.new.self from.kept
    (subst (λ (h : Image). StaysAt g.D.Disk.tells c.args.tables.now.tables h c.loop-left.rows c.fill.new.self) from.moves.1.held c.fill.ensures.stays)

pub returns-in-Err-clause-fault : goal.returns-in-Err-clause-fault
returns-in-Err-clause-fault g c =
    let tells = g.D.Disk.tells in
    let tables = c.args.tables.now.tables in
    let before = g.D.Disk.world c.args.disk.now in
    let mid = g.D.Disk.world c.loop-left.disk in
    let after = g.D.Disk.world c.fill.new.disk in
    let now = numbers c.loop-left.rows.walks in
    let which = numbers c.args.rows.now.walks in
    let is = read_fault tells tables now mid after c.in-Err.why c.in-Err.ensures.never_memory c.in-Err.ensures.cause c.in-Err.ensures.fault in
    subst (λ why. Rattle.level_merge.specs.SliceSteps.IsTakeFault tells tables which before after why) (sym c.from.ensures)
    (later_fault tells tables now which before mid after _ c.loop-left.invariant.kept.sources.numbers_are c.loop-left.invariant.moves is)

pub returns-in-Err-clause-passes : goal.returns-in-Err-clause-passes
returns-in-Err-clause-passes g c =
    let from = c.loop-left.invariant in
    passes_read g.D.Disk.tells c.args.tables.now.tables (g.D.Disk.world c.args.disk.now).seen.held c.args.blocks (g.D.Disk.world c.loop-left.disk).seen.held c.args.rows.now.walks c.loop-left.rows.walks c.fill.new.self.walks
    from.moves.1.held from.passes (omega (arith, c.loop-left-test.true, from.within)) c.fill.ensures.read_sound

pub returns-in-Err-clause-met : goal.returns-in-Err-clause-met
returns-in-Err-clause-met g c t s =
    let tables = c.args.tables.now.tables in
    let old = c.loop-left.rows in
    let new = c.fill.new.self in
    let from = c.loop-left.invariant in
    let fewer = subst (λ (h : Image). IsSoundMerge old tables h → IsFewer c.fill.result (wanted old tables) (wanted new tables)) from.moves.1.held (λ u. (c.fill.ensures.once t u).1) (from.kept.sources.sound t s) in
    let some = one_wanted c.fill.result c.in-Err.why (wanted old tables) (wanted new tables) c.in-Err.is fewer in
    let left = wanted_left old.floor tables old.walks some in
    omega (arith, left, from.fewer)

pub returns-in-Err-clause-moves : goal.returns-in-Err-clause-moves
returns-in-Err-clause-moves g c =
    only_then 2 (g.D.Disk.world c.args.disk.now) (g.D.Disk.world c.loop-left.disk) (g.D.Disk.world c.fill.new.disk) c.loop-left.invariant.moves c.fill.ensures.moves

pub returns-in-Err-clause-bounded : goal.returns-in-Err-clause-bounded
returns-in-Err-clause-bounded g c t s =
    let tables = c.args.tables.now.tables in
    let before = g.D.Disk.world c.args.disk.now in
    let mid = g.D.Disk.world c.loop-left.disk in
    let after = g.D.Disk.world c.fill.new.disk in
    let from = c.loop-left.invariant in
    let once = subst (λ (h : Image). IsSoundMerge c.loop-left.rows tables h → ReadMoves 1 mid after) from.moves.1.held (λ u. (c.fill.ensures.once t u).0) (from.kept.sources.sound t s) in
    within_all c.args.blocks (c.loop-left.left - 1) before after
    (one_more c.args.blocks c.loop-left.left before mid after (omega (arith, c.loop-left-test.true)) from.within (from.counted t s) once)

pub returns-in-Err-clause-unread : goal.returns-in-Err-clause-unread
returns-in-Err-clause-unread g c = omega (arith, c.loop-left-test.true, c.loop-left.invariant.within)

-- ---- no more may be read: the next row needs a block, or none

-- what was so is so after the question
pub returns-then-wants_block : goal.returns-then-wants_block
returns-then-wants_block g c =
    let tells = g.D.Disk.tells in
    let tables = c.args.tables.now.tables in
    let before = g.D.Disk.world c.args.disk.now in
    let mid = g.D.Disk.world c.loop-left.disk in
    let after = g.D.Disk.world c.wants_block.new.disk in
    let from = c.loop-left.invariant in
    let asks = c.wants_block.ensures in
    let none : c.loop-left.left ≡ 0 = omega (arith, c.loop-left-test.false) in
    let caught_up_past = subst (λ (n : ℕ). ReadMoves (2 * (c.args.blocks - n)) before after) none (none_twice c.args.blocks c.loop-left.left before mid after from.caught_up_past asks.moves) in
    let counted : IsTrue tells → IsSoundMerge c.args.rows.now tables before.seen.held → ReadMoves (c.args.blocks - 0) before after = λ t s. subst (λ (n : ℕ). ReadMoves (c.args.blocks - n) before after) none (none_more c.args.blocks c.loop-left.left before mid after (from.counted t s) asks.moves) in
    record {
      kept = kept_then tells tables before.seen.held c.args.rows.now c.loop-left.rows c.wants_block.new.self from.kept
          (subst (λ (h : Image). StaysAt tells tables h c.loop-left.rows c.wants_block.new.self) from.moves.1.held asks.stays);
      within = omega arith;
      fewer = omega (arith, asks.left, from.fewer);
      some = λ less. let fell = from.some (omega (arith, none, less)) in omega (arith, asks.left, fell);
      more = λ _. wanted_left c.wants_block.new.self.floor tables c.wants_block.new.self.walks (asks.some c.if-wants_block.true);
      none_wanted = λ some. absurd (false≢true some);
      read_all = λ some. absurd (false≢true some);
      passes = passes_still tells tables before.seen.held c.args.blocks mid.seen.held c.args.rows.now.walks c.loop-left.rows.walks c.wants_block.new.self.walks from.moves.1.held from.passes asks.stays.sources.numbers_are asks.blocks;
      heads_pass = λ some. absurd (false≢true some);
      caught_up = λ t some. absurd (false≢true some);
      fault = tt;
      unread = tt;
      met = λ t s. tt;
      moves = only_then 0 before mid after from.moves asks.moves;
      caught_up_past = caught_up_past;
      twice = all_twice c.args.blocks 0 before after caught_up_past;
      bounded = λ t s. within_all c.args.blocks 0 before after (counted t s);
      counted = counted;
    }

pub returns : goal.returns
returns g c =
    let tells = g.D.Disk.tells in
    let tables = c.args.tables.now.tables in
    let before = g.D.Disk.world c.args.disk.now in
    let mid = g.D.Disk.world c.loop-left.disk in
    let after = g.D.Disk.world c.wants_block.new.disk in
    let old = c.loop-left.rows in
    let new = c.wants_block.new.self in
    let from = c.loop-left.invariant in
    let asks = c.wants_block.ensures in
    let held = from.moves.1.held in
    let none : c.loop-left.left ≡ 0 = omega (arith, c.loop-left-test.false) in
    let caught_up_past = subst (λ (n : ℕ). ReadMoves (2 * (c.args.blocks - n)) before after) none (none_twice c.args.blocks c.loop-left.left before mid after from.caught_up_past asks.moves) in
    let counted : IsTrue tells → IsSoundMerge c.args.rows.now tables before.seen.held → ReadMoves (c.args.blocks - 0) before after = λ t s. subst (λ (n : ℕ). ReadMoves (c.args.blocks - n) before after) none (none_more c.args.blocks c.loop-left.left before mid after (from.counted t s) asks.moves) in
    record {
      kept = kept_then tells tables before.seen.held c.args.rows.now old new from.kept (subst (λ (h : Image). StaysAt tells tables h old new) held asks.stays);
      within = omega arith;
      fewer = omega (arith, asks.left, from.fewer);
      some = λ less. let fell = from.some (omega (arith, none, less)) in omega (arith, asks.left, fell);
      more = λ is. absurd cc;
      none_wanted = λ _. asks.none c.if-wants_block.false;
      read_all = λ _. asks.read_all c.if-wants_block.false;
      passes = passes_still tells tables before.seen.held c.args.blocks mid.seen.held c.args.rows.now.walks old.walks new.walks held from.passes asks.stays.sources.numbers_are asks.blocks;
      heads_pass = λ _. subst (λ (f : KeyFloor). AreHeadsClear f new.walks) (sym asks.stays.floor_is) (asks.heads_pass c.if-wants_block.false);
      caught_up = λ t _. subst (λ (f : KeyFloor). AreCaughtUp f tables before.seen.held new.walks) (sym asks.stays.floor_is)
          (subst (λ (h : Image). AreCaughtUp old.floor tables h new.walks) held (asks.caught_up t c.if-wants_block.false));
      fault = tt;
      unread = tt;
      met = λ t s. tt;
      moves = only_then 0 before mid after from.moves asks.moves;
      caught_up_past = caught_up_past;
      twice = all_twice c.args.blocks 0 before after caught_up_past;
      bounded = λ t s. within_all c.args.blocks 0 before after (counted t s);
      counted = counted;
    }
