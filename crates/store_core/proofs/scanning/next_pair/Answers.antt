use Rattle.std.proofs.Common.{rules, ◌≡◌, ◌∙◌, ◌≤◌, ℕ, List, not, length, refl, sym, ap, subst, arith}
use Rattle.std.specs.Option.{option_map}
use Rattle.std.specs.Prelude.{IfSome, Option, Some, is_some}
use Rattle.std.proofs.lemmas.Bool.{false≢true}
use Rattle.disk_trait.proofs.Calls.{reads_none}
use Rattle.disk_trait.specs.Image.{Image}
use Rattle.entry_model.specs.Entries.{Entry, entry_of}
use Rattle.key_base.specs.Limits.{max_key_bytes}
use Rattle.late_rows.specs.Late.{IsSoundLate}
use Rattle.late_rows.specs.Opening.{SleepAbove}
use Rattle.merge_rows.proofs.Rank.{height_ends, height_rises}
use Rattle.merge_rows.proofs.SoundPasses.{pass_same}
use Rattle.merge_rows.proofs.Steps.{none_of}
use Rattle.merge_rows.specs.Reads.{SomeBlock}
use Rattle.merge_rows.specs.Steps.{AreWalksIn, RowPasses, numbers}
use Rattle.store_core.proofs.ScanCauses.{as_many_walks, block_cause, fault_at, none_value, opens_at, paced_at, reads_on, pair_some, some_mapped, step_at}
use Rattle.store_core.proofs.ScanEnds.{bound_done, ended_done, none_sleeps, passed_on}
use Rattle.store_core.proofs.ScanGoes.{goes_same, next_steps}
use Rattle.store_core.proofs.ScanSteps.{all_bounded, all_owing, all_spent, all_tried, late_on, none_below, none_left, one_on, pair_given, set_out, still_pairs}
use Rattle.store_core.specs.Scans.{pair_in}
use Rattle.table_file.specs.Search.{IsGetFault}
use Rattle.store_core.proofs.scanning.next_pair.Goals as goal

pub loop-rows-init : goal.loop-rows-init
loop-rows-init g c =
    let before = g.D.Disk.world c.args.disk.now in
    record {
      way = set_out c.merged_laws.ensures g.D.Disk.tells before.seen.held c.args.tables.now.tables (option_map (λ v. v.items) c.args.high.now) c.args.rows.now c.requires.keeps c.requires.up_to before.seen.reads;
      passes = λ so. pass_same c.args.tables.now.tables before.seen.held c.args.rows.now.merge.walks;
      goes = λ so. goes_same c.args.tables.now.tables before.seen.held c.args.rows.now.merge;
      moves = (0, reads_none 0 before);
    }

pub advance-requires : goal.advance-requires
advance-requires g c = subst (AreWalksIn c.args.tables.now.tables) (sym c.loop-rows.invariant.way.late.stands_are) c.requires.there

-- ---- a fault

pub returns-in_err-advance-clause-late : goal.returns-in_err-advance-clause-late
returns-in_err-advance-clause-late g c =
    let before = g.D.Disk.world c.args.disk.now in
    let mid = g.D.Disk.world c.loop-rows.disk in
    let tables = c.args.tables.now.tables in
    let high = option_map (λ v. v.items) c.args.high.now in
    let same = c.loop-rows.invariant.moves.1.held in
    let old = c.loop-rows.rows in
    let new = c.advance.new.self in
    let opens = opens_at g.D.Disk.tells tables _ _ same old new c.advance.ensures.late in
    late_on c.merged_laws.ensures g.D.Disk.tells before.seen.held tables high c.args.rows.now c.requires.keeps c.requires.up_to before.seen.reads old mid.seen.reads c.loop-rows.invariant.way new opens

pub returns-in_err-advance-clause-bounded : goal.returns-in_err-advance-clause-bounded
returns-in_err-advance-clause-bounded g c so sound =
    let before = g.D.Disk.world c.args.disk.now in
    let mid = g.D.Disk.world c.loop-rows.disk in
    let after = g.D.Disk.world c.advance.new.disk in
    let tables = c.args.tables.now.tables in
    let high = option_map (λ v. v.items) c.args.high.now in
    let same = c.loop-rows.invariant.moves.1.held in
    let old = c.loop-rows.rows in
    let new = c.advance.new.self in
    let opens = opens_at g.D.Disk.tells tables _ _ same old new c.advance.ensures.late in
    all_bounded c.merged_laws.ensures g.D.Disk.tells before.seen.held tables high c.args.rows.now c.requires.keeps c.requires.up_to before.seen.reads old mid.seen.reads c.loop-rows.invariant.way new opens after.seen.reads (λ so sound. (c.advance.ensures.bounded so (subst (IsSoundLate old tables) (sym same) sound)).reads) so sound

pub returns-in_err-advance-clause-passes : goal.returns-in_err-advance-clause-passes
returns-in_err-advance-clause-passes g c so =
    let before = g.D.Disk.world c.args.disk.now in
    let mid = g.D.Disk.world c.loop-rows.disk in
    let tables = c.args.tables.now.tables in
    let same = c.loop-rows.invariant.moves.1.held in
    let old = c.loop-rows.rows in
    let new = c.advance.new.self in
    passed_on tables tables mid.seen.held before.seen.held c.args.rows.now.merge.walks old.merge.walks new.merge.walks refl same (c.loop-rows.invariant.passes so) (c.advance.ensures.read_sound so)

pub returns-in_err-advance-clause-moves : goal.returns-in_err-advance-clause-moves
returns-in_err-advance-clause-moves g c =
    reads_on (g.D.Disk.world c.args.disk.now) (g.D.Disk.world c.loop-rows.disk) (g.D.Disk.world c.advance.new.disk) c.loop-rows.invariant.moves c.advance.ensures.moves

pub returns-in_err-advance-clause-stays : goal.returns-in_err-advance-clause-stays
returns-in_err-advance-clause-stays g c so sound =
    let before = g.D.Disk.world c.args.disk.now in
    let mid = g.D.Disk.world c.loop-rows.disk in
    let tables = c.args.tables.now.tables in
    let high = option_map (λ v. v.items) c.args.high.now in
    let same = c.loop-rows.invariant.moves.1.held in
    let old = c.loop-rows.rows in
    let new = c.advance.new.self in
    let opens = opens_at g.D.Disk.tells tables _ _ same old new c.advance.ensures.late in
    let here = still_pairs c.merged_laws.ensures g.D.Disk.tells before.seen.held tables high c.args.rows.now c.requires.keeps c.requires.up_to before.seen.reads old mid.seen.reads c.loop-rows.invariant.way new opens (fault_at g.D.Disk.tells tables _ _ same old new c.in_err-advance.ensures.stays) so sound in
    search rules

pub returns-in_err-advance-clause-owed : goal.returns-in_err-advance-clause-owed
returns-in_err-advance-clause-owed g c so sound =
    let before = g.D.Disk.world c.args.disk.now in
    let mid = g.D.Disk.world c.loop-rows.disk in
    let tables = c.args.tables.now.tables in
    let high = option_map (λ v. v.items) c.args.high.now in
    let same = c.loop-rows.invariant.moves.1.held in
    let old = c.loop-rows.rows in
    let new = c.advance.new.self in
    let opens = opens_at g.D.Disk.tells tables _ _ same old new c.advance.ensures.late in
    let here = all_owing c.merged_laws.ensures g.D.Disk.tells before.seen.held tables high c.args.rows.now c.requires.keeps c.requires.up_to before.seen.reads old mid.seen.reads c.loop-rows.invariant.way new opens c.loop-rows.invariant.moves.1.reads_later (λ so sound. c.in_err-advance.ensures.only_if_wanted so (subst (IsSoundLate old tables) (sym same) sound)) so sound in
    search rules

pub returns-in_err-advance-clause-tried : goal.returns-in_err-advance-clause-tried
returns-in_err-advance-clause-tried g c so sound =
    let before = g.D.Disk.world c.args.disk.now in
    let mid = g.D.Disk.world c.loop-rows.disk in
    let after = g.D.Disk.world c.advance.new.disk in
    let tables = c.args.tables.now.tables in
    let high = option_map (λ v. v.items) c.args.high.now in
    let same = c.loop-rows.invariant.moves.1.held in
    let old = c.loop-rows.rows in
    let new = c.advance.new.self in
    let opens = opens_at g.D.Disk.tells tables _ _ same old new c.advance.ensures.late in
    let here = all_tried c.merged_laws.ensures g.D.Disk.tells before.seen.held tables high c.args.rows.now c.requires.keeps c.requires.up_to before.seen.reads old mid.seen.reads c.loop-rows.invariant.way new opens after.seen.reads (λ so sound. c.in_err-advance.ensures.tried so (subst (IsSoundLate old tables) (sym same) sound)) so sound in
    search rules

pub returns-in_err-advance-clause-only_if_read : goal.returns-in_err-advance-clause-only_if_read
returns-in_err-advance-clause-only_if_read g c =
    let many = as_many_walks c.loop-rows.rows.merge.walks c.args.rows.now.merge.walks c.loop-rows.invariant.way.late.numbers_are in
    let here : 1 ≤ length c.args.rows.now.merge.walks = omega (arith, many, c.in_err-advance.ensures.only_if_read) in
    search rules

pub returns-in_err-advance-clause-cause : goal.returns-in_err-advance-clause-cause
returns-in_err-advance-clause-cause g c =
    let here = block_cause (g.D.Disk.world c.args.disk.now) (g.D.Disk.world c.loop-rows.disk) (g.D.Disk.world c.advance.new.disk) c.args.tables.now.tables (numbers c.loop-rows.rows.merge.walks) c.in_err-advance.field-0.0
    c.loop-rows.invariant.moves c.in_err-advance.ensures.never_memory c.in_err-advance.ensures.cause in
    search rules

pub returns-in_err-advance-clause-fault : goal.returns-in_err-advance-clause-fault
returns-in_err-advance-clause-fault g c so =
    let tables = c.args.tables.now.tables in
    let told = subst (λ (f : Image). SomeBlock tables (numbers c.loop-rows.rows.merge.walks) (λ t n. IsGetFault t n f c.in_err-advance.field-0.0)) c.loop-rows.invariant.moves.1.held (c.in_err-advance.ensures.fault so) in
    let here = subst (λ (which : List ℕ). SomeBlock tables which (λ t n. IsGetFault t n (g.D.Disk.world c.args.disk.now).seen.held c.in_err-advance.field-0.0)) c.loop-rows.invariant.way.late.numbers_are told in
    search rules

-- ---- no row is left

pub returns-in-None-clause-late : goal.returns-in-None-clause-late
returns-in-None-clause-late g c =
    let before = g.D.Disk.world c.args.disk.now in
    let mid = g.D.Disk.world c.loop-rows.disk in
    let tables = c.args.tables.now.tables in
    let high = option_map (λ v. v.items) c.args.high.now in
    let same = c.loop-rows.invariant.moves.1.held in
    let old = c.loop-rows.rows in
    let new = c.advance.new.self in
    let opens = opens_at g.D.Disk.tells tables _ _ same old new c.advance.ensures.late in
    late_on c.merged_laws.ensures g.D.Disk.tells before.seen.held tables high c.args.rows.now c.requires.keeps c.requires.up_to before.seen.reads old mid.seen.reads c.loop-rows.invariant.way new opens

pub returns-in-None-clause-bounded : goal.returns-in-None-clause-bounded
returns-in-None-clause-bounded g c so sound =
    let before = g.D.Disk.world c.args.disk.now in
    let mid = g.D.Disk.world c.loop-rows.disk in
    let after = g.D.Disk.world c.advance.new.disk in
    let tables = c.args.tables.now.tables in
    let high = option_map (λ v. v.items) c.args.high.now in
    let same = c.loop-rows.invariant.moves.1.held in
    let old = c.loop-rows.rows in
    let new = c.advance.new.self in
    let opens = opens_at g.D.Disk.tells tables _ _ same old new c.advance.ensures.late in
    all_bounded c.merged_laws.ensures g.D.Disk.tells before.seen.held tables high c.args.rows.now c.requires.keeps c.requires.up_to before.seen.reads old mid.seen.reads c.loop-rows.invariant.way new opens after.seen.reads (λ so sound. (c.advance.ensures.bounded so (subst (IsSoundLate old tables) (sym same) sound)).reads) so sound

pub returns-in-None-clause-passes : goal.returns-in-None-clause-passes
returns-in-None-clause-passes g c so =
    let before = g.D.Disk.world c.args.disk.now in
    let mid = g.D.Disk.world c.loop-rows.disk in
    let tables = c.args.tables.now.tables in
    let same = c.loop-rows.invariant.moves.1.held in
    let old = c.loop-rows.rows in
    let new = c.advance.new.self in
    passed_on tables tables mid.seen.held before.seen.held c.args.rows.now.merge.walks old.merge.walks new.merge.walks refl same (c.loop-rows.invariant.passes so) (c.advance.ensures.read_sound so)

pub returns-in-None-clause-moves : goal.returns-in-None-clause-moves
returns-in-None-clause-moves g c =
    reads_on (g.D.Disk.world c.args.disk.now) (g.D.Disk.world c.loop-rows.disk) (g.D.Disk.world c.advance.new.disk) c.loop-rows.invariant.moves c.advance.ensures.moves

pub returns-in-None-clause-spent : goal.returns-in-None-clause-spent
returns-in-None-clause-spent g c so sound =
    let before = g.D.Disk.world c.args.disk.now in
    let mid = g.D.Disk.world c.loop-rows.disk in
    let after = g.D.Disk.world c.advance.new.disk in
    let tables = c.args.tables.now.tables in
    let high = option_map (λ v. v.items) c.args.high.now in
    let same = c.loop-rows.invariant.moves.1.held in
    let old = c.loop-rows.rows in
    let new = c.advance.new.self in
    let opens = opens_at g.D.Disk.tells tables _ _ same old new c.advance.ensures.late in
    all_spent c.merged_laws.ensures g.D.Disk.tells before.seen.held tables high c.args.rows.now c.requires.keeps c.requires.up_to before.seen.reads old mid.seen.reads c.loop-rows.invariant.way new opens after.seen.reads (λ so sound. c.in_ok-advance.ensures.spent so (subst (IsSoundLate old tables) (sym same) sound)) so sound

pub returns-in-None-clause-steps : goal.returns-in-None-clause-steps
returns-in-None-clause-steps g c so =
    let before = g.D.Disk.world c.args.disk.now in
    let mid = g.D.Disk.world c.loop-rows.disk in
    let tables = c.args.tables.now.tables in
    let same = c.loop-rows.invariant.moves.1.held in
    let old = c.loop-rows.rows in
    let new = c.advance.new.self in
    next_steps tables mid.seen.held before.seen.held c.args.rows.now.merge old new same (c.loop-rows.invariant.goes so) (c.in_ok-advance.ensures.paced so) c.in_ok-advance.ensures.row.passes

pub returns-in-None-clause-pairs : goal.returns-in-None-clause-pairs
returns-in-None-clause-pairs g c so sound =
    let before = g.D.Disk.world c.args.disk.now in
    let mid = g.D.Disk.world c.loop-rows.disk in
    let after = g.D.Disk.world c.advance.new.disk in
    let tables = c.args.tables.now.tables in
    let high = option_map (λ v. v.items) c.args.high.now in
    let same = c.loop-rows.invariant.moves.1.held in
    let old = c.loop-rows.rows in
    let new = c.advance.new.self in
    let opens = opens_at g.D.Disk.tells tables _ _ same old new c.advance.ensures.late in
    none_left c.merged_laws.ensures g.D.Disk.tells before.seen.held tables high c.args.rows.now c.requires.keeps c.requires.up_to before.seen.reads old mid.seen.reads c.loop-rows.invariant.way new opens after.seen.reads (λ so sound. (c.advance.ensures.bounded so (subst (IsSoundLate old tables) (sym same) sound)).reads) (step_at g.D.Disk.tells tables _ _ same old new c.in_ok-advance.ensures.row) (λ so. paced_at g.D.Disk.tells tables _ _ same old new (c.in_ok-advance.ensures.paced so)) c.in_ok-advance.ensures.least c.in_ok-advance.ensures.above (sym c.in-None.ensures.now) so sound

pub returns-in-None-clause-done : goal.returns-in-None-clause-done
returns-in-None-clause-done g c none =
    absurd (false≢true (ap (λ (o : Option Entry). is_some o) c.in-None.ensures.now ∙ sym c.in_ok-advance.ensures.said ∙ c.if-branch.true))

-- ---- the row is above the bound

pub returns-then-is_above-clause-late : goal.returns-then-is_above-clause-late
returns-then-is_above-clause-late g c =
    let before = g.D.Disk.world c.args.disk.now in
    let mid = g.D.Disk.world c.loop-rows.disk in
    let tables = c.args.tables.now.tables in
    let high = option_map (λ v. v.items) c.args.high.now in
    let same = c.loop-rows.invariant.moves.1.held in
    let old = c.loop-rows.rows in
    let new = c.advance.new.self in
    let opens = opens_at g.D.Disk.tells tables _ _ same old new c.advance.ensures.late in
    late_on c.merged_laws.ensures g.D.Disk.tells before.seen.held tables high c.args.rows.now c.requires.keeps c.requires.up_to before.seen.reads old mid.seen.reads c.loop-rows.invariant.way new opens

pub returns-then-is_above-clause-bounded : goal.returns-then-is_above-clause-bounded
returns-then-is_above-clause-bounded g c so sound =
    let before = g.D.Disk.world c.args.disk.now in
    let mid = g.D.Disk.world c.loop-rows.disk in
    let after = g.D.Disk.world c.advance.new.disk in
    let tables = c.args.tables.now.tables in
    let high = option_map (λ v. v.items) c.args.high.now in
    let same = c.loop-rows.invariant.moves.1.held in
    let old = c.loop-rows.rows in
    let new = c.advance.new.self in
    let opens = opens_at g.D.Disk.tells tables _ _ same old new c.advance.ensures.late in
    all_bounded c.merged_laws.ensures g.D.Disk.tells before.seen.held tables high c.args.rows.now c.requires.keeps c.requires.up_to before.seen.reads old mid.seen.reads c.loop-rows.invariant.way new opens after.seen.reads (λ so sound. (c.advance.ensures.bounded so (subst (IsSoundLate old tables) (sym same) sound)).reads) so sound

pub returns-then-is_above-clause-passes : goal.returns-then-is_above-clause-passes
returns-then-is_above-clause-passes g c so =
    let before = g.D.Disk.world c.args.disk.now in
    let mid = g.D.Disk.world c.loop-rows.disk in
    let tables = c.args.tables.now.tables in
    let same = c.loop-rows.invariant.moves.1.held in
    let old = c.loop-rows.rows in
    let new = c.advance.new.self in
    passed_on tables tables mid.seen.held before.seen.held c.args.rows.now.merge.walks old.merge.walks new.merge.walks refl same (c.loop-rows.invariant.passes so) (c.advance.ensures.read_sound so)

pub returns-then-is_above-clause-moves : goal.returns-then-is_above-clause-moves
returns-then-is_above-clause-moves g c =
    reads_on (g.D.Disk.world c.args.disk.now) (g.D.Disk.world c.loop-rows.disk) (g.D.Disk.world c.advance.new.disk) c.loop-rows.invariant.moves c.advance.ensures.moves

pub returns-then-is_above-clause-spent : goal.returns-then-is_above-clause-spent
returns-then-is_above-clause-spent g c so sound =
    let before = g.D.Disk.world c.args.disk.now in
    let mid = g.D.Disk.world c.loop-rows.disk in
    let after = g.D.Disk.world c.advance.new.disk in
    let tables = c.args.tables.now.tables in
    let high = option_map (λ v. v.items) c.args.high.now in
    let same = c.loop-rows.invariant.moves.1.held in
    let old = c.loop-rows.rows in
    let new = c.advance.new.self in
    let opens = opens_at g.D.Disk.tells tables _ _ same old new c.advance.ensures.late in
    all_spent c.merged_laws.ensures g.D.Disk.tells before.seen.held tables high c.args.rows.now c.requires.keeps c.requires.up_to before.seen.reads old mid.seen.reads c.loop-rows.invariant.way new opens after.seen.reads (λ so sound. c.in_ok-advance.ensures.spent so (subst (IsSoundLate old tables) (sym same) sound)) so sound

pub returns-then-is_above-clause-steps : goal.returns-then-is_above-clause-steps
returns-then-is_above-clause-steps g c so =
    let before = g.D.Disk.world c.args.disk.now in
    let mid = g.D.Disk.world c.loop-rows.disk in
    let tables = c.args.tables.now.tables in
    let same = c.loop-rows.invariant.moves.1.held in
    let old = c.loop-rows.rows in
    let new = c.advance.new.self in
    next_steps tables mid.seen.held before.seen.held c.args.rows.now.merge old new same (c.loop-rows.invariant.goes so) (c.in_ok-advance.ensures.paced so) c.in_ok-advance.ensures.row.passes

pub returns-then-is_above-clause-pairs : goal.returns-then-is_above-clause-pairs
returns-then-is_above-clause-pairs g c so sound =
    let before = g.D.Disk.world c.args.disk.now in
    let mid = g.D.Disk.world c.loop-rows.disk in
    let after = g.D.Disk.world c.advance.new.disk in
    let tables = c.args.tables.now.tables in
    let high = option_map (λ v. v.items) c.args.high.now in
    let same = c.loop-rows.invariant.moves.1.held in
    let old = c.loop-rows.rows in
    let new = c.advance.new.self in
    let opens = opens_at g.D.Disk.tells tables _ _ same old new c.advance.ensures.late in
    let row = entry_of c.in-Some.key.now (option_map (λ v. v.now) c.in-Some.value) in
    let some : new.merge.now ≡ Some row = sym c.in-Some.ensures.now in
    none_below c.merged_laws.ensures g.D.Disk.tells before.seen.held tables high c.args.rows.now c.requires.keeps c.requires.up_to before.seen.reads old mid.seen.reads c.loop-rows.invariant.way new opens after.seen.reads (λ so sound. (c.advance.ensures.bounded so (subst (IsSoundLate old tables) (sym same) sound)).reads) (step_at g.D.Disk.tells tables _ _ same old new c.in_ok-advance.ensures.row) (λ so. paced_at g.D.Disk.tells tables _ _ same old new (c.in_ok-advance.ensures.paced so)) c.in_ok-advance.ensures.least c.in_ok-advance.ensures.above row some (c.is_above.ensures ∙ ap not c.if-is_above.true) so sound

pub returns-then-is_above-clause-done : goal.returns-then-is_above-clause-done
returns-then-is_above-clause-done g c none =
    let before = g.D.Disk.world c.args.disk.now in
    let mid = g.D.Disk.world c.loop-rows.disk in
    let tables = c.args.tables.now.tables in
    let high = option_map (λ v. v.items) c.args.high.now in
    let same = c.loop-rows.invariant.moves.1.held in
    let old = c.loop-rows.rows in
    let new = c.advance.new.self in
    let opens = opens_at g.D.Disk.tells tables _ _ same old new c.advance.ensures.late in
    let row = entry_of c.in-Some.key.now (option_map (λ v. v.now) c.in-Some.value) in
    let some : new.merge.now ≡ Some row = sym c.in-Some.ensures.now in
    let over = c.is_above.ensures ∙ ap not c.if-is_above.true in
    let sleeps = subst (λ (o : Option Entry). IfSome o (λ r. SleepAbove r.key new.asleep)) some c.in_ok-advance.ensures.above in
    let late = late_on c.merged_laws.ensures g.D.Disk.tells before.seen.held tables high c.args.rows.now c.requires.keeps c.requires.up_to before.seen.reads old mid.seen.reads c.loop-rows.invariant.way new opens in
    let awake = none_sleeps high new.asleep row.key over (λ at key is. c.requires.up_to at key (late.sleep_on at key is).0) sleeps in
    bound_done high tables new.merge.walks new.merge.now row some over (c.in_ok-advance.ensures.read_all awake) c.in_ok-advance.ensures.least

-- ---- it is a pair

pub returns-then-is_some-clause-late : goal.returns-then-is_some-clause-late
returns-then-is_some-clause-late g c =
    let before = g.D.Disk.world c.args.disk.now in
    let mid = g.D.Disk.world c.loop-rows.disk in
    let tables = c.args.tables.now.tables in
    let high = option_map (λ v. v.items) c.args.high.now in
    let same = c.loop-rows.invariant.moves.1.held in
    let old = c.loop-rows.rows in
    let new = c.advance.new.self in
    let opens = opens_at g.D.Disk.tells tables _ _ same old new c.advance.ensures.late in
    late_on c.merged_laws.ensures g.D.Disk.tells before.seen.held tables high c.args.rows.now c.requires.keeps c.requires.up_to before.seen.reads old mid.seen.reads c.loop-rows.invariant.way new opens

pub returns-then-is_some-clause-bounded : goal.returns-then-is_some-clause-bounded
returns-then-is_some-clause-bounded g c so sound =
    let before = g.D.Disk.world c.args.disk.now in
    let mid = g.D.Disk.world c.loop-rows.disk in
    let after = g.D.Disk.world c.advance.new.disk in
    let tables = c.args.tables.now.tables in
    let high = option_map (λ v. v.items) c.args.high.now in
    let same = c.loop-rows.invariant.moves.1.held in
    let old = c.loop-rows.rows in
    let new = c.advance.new.self in
    let opens = opens_at g.D.Disk.tells tables _ _ same old new c.advance.ensures.late in
    all_bounded c.merged_laws.ensures g.D.Disk.tells before.seen.held tables high c.args.rows.now c.requires.keeps c.requires.up_to before.seen.reads old mid.seen.reads c.loop-rows.invariant.way new opens after.seen.reads (λ so sound. (c.advance.ensures.bounded so (subst (IsSoundLate old tables) (sym same) sound)).reads) so sound

pub returns-then-is_some-clause-passes : goal.returns-then-is_some-clause-passes
returns-then-is_some-clause-passes g c so =
    let before = g.D.Disk.world c.args.disk.now in
    let mid = g.D.Disk.world c.loop-rows.disk in
    let tables = c.args.tables.now.tables in
    let same = c.loop-rows.invariant.moves.1.held in
    let old = c.loop-rows.rows in
    let new = c.advance.new.self in
    passed_on tables tables mid.seen.held before.seen.held c.args.rows.now.merge.walks old.merge.walks new.merge.walks refl same (c.loop-rows.invariant.passes so) (c.advance.ensures.read_sound so)

pub returns-then-is_some-clause-moves : goal.returns-then-is_some-clause-moves
returns-then-is_some-clause-moves g c =
    reads_on (g.D.Disk.world c.args.disk.now) (g.D.Disk.world c.loop-rows.disk) (g.D.Disk.world c.advance.new.disk) c.loop-rows.invariant.moves c.advance.ensures.moves

pub returns-then-is_some-clause-spent : goal.returns-then-is_some-clause-spent
returns-then-is_some-clause-spent g c so sound =
    let before = g.D.Disk.world c.args.disk.now in
    let mid = g.D.Disk.world c.loop-rows.disk in
    let after = g.D.Disk.world c.advance.new.disk in
    let tables = c.args.tables.now.tables in
    let high = option_map (λ v. v.items) c.args.high.now in
    let same = c.loop-rows.invariant.moves.1.held in
    let old = c.loop-rows.rows in
    let new = c.advance.new.self in
    let opens = opens_at g.D.Disk.tells tables _ _ same old new c.advance.ensures.late in
    all_spent c.merged_laws.ensures g.D.Disk.tells before.seen.held tables high c.args.rows.now c.requires.keeps c.requires.up_to before.seen.reads old mid.seen.reads c.loop-rows.invariant.way new opens after.seen.reads (λ so sound. c.in_ok-advance.ensures.spent so (subst (IsSoundLate old tables) (sym same) sound)) so sound

pub returns-then-is_some-clause-steps : goal.returns-then-is_some-clause-steps
returns-then-is_some-clause-steps g c so =
    let before = g.D.Disk.world c.args.disk.now in
    let mid = g.D.Disk.world c.loop-rows.disk in
    let tables = c.args.tables.now.tables in
    let same = c.loop-rows.invariant.moves.1.held in
    let old = c.loop-rows.rows in
    let new = c.advance.new.self in
    next_steps tables mid.seen.held before.seen.held c.args.rows.now.merge old new same (c.loop-rows.invariant.goes so) (c.in_ok-advance.ensures.paced so) c.in_ok-advance.ensures.row.passes

pub returns-then-is_some-clause-some : goal.returns-then-is_some-clause-some
returns-then-is_some-clause-some g c found =
    ap (λ (o : Option Entry). is_some (pair_in o)) (sym c.in-Some.ensures.now) ∙ pair_some _ _ ∙ some_mapped (λ v. v.now) c.in-Some.value ∙ sym c.is_some.ensures ∙ c.if-is_some.true

pub returns-then-is_some-clause-pairs : goal.returns-then-is_some-clause-pairs
returns-then-is_some-clause-pairs g c so sound =
    let before = g.D.Disk.world c.args.disk.now in
    let mid = g.D.Disk.world c.loop-rows.disk in
    let after = g.D.Disk.world c.advance.new.disk in
    let tables = c.args.tables.now.tables in
    let high = option_map (λ v. v.items) c.args.high.now in
    let same = c.loop-rows.invariant.moves.1.held in
    let old = c.loop-rows.rows in
    let new = c.advance.new.self in
    let opens = opens_at g.D.Disk.tells tables _ _ same old new c.advance.ensures.late in
    let row = entry_of c.in-Some.key.now (option_map (λ v. v.now) c.in-Some.value) in
    let some : new.merge.now ≡ Some row = sym c.in-Some.ensures.now in
    pair_given c.merged_laws.ensures g.D.Disk.tells before.seen.held tables high c.args.rows.now c.requires.keeps c.requires.up_to before.seen.reads old mid.seen.reads c.loop-rows.invariant.way new opens after.seen.reads (λ so sound. (c.advance.ensures.bounded so (subst (IsSoundLate old tables) (sym same) sound)).reads) (step_at g.D.Disk.tells tables _ _ same old new c.in_ok-advance.ensures.row) (λ so. paced_at g.D.Disk.tells tables _ _ same old new (c.in_ok-advance.ensures.paced so)) c.in_ok-advance.ensures.least c.in_ok-advance.ensures.above row some (c.is_above.ensures ∙ ap not c.if-is_above.false) (some_mapped (λ v. v.now) c.in-Some.value ∙ sym c.is_some.ensures ∙ c.if-is_some.true) so sound

pub returns-then-is_some-clause-done : goal.returns-then-is_some-clause-done
returns-then-is_some-clause-done g c none =
    absurd (false≢true (sym none))

-- ---- it is a tombstone

pub loop-rows-smaller : goal.loop-rows-smaller
loop-rows-smaller g c =
    let passes = subst (λ (o : Option Entry). RowPasses o c.loop-rows.rows.merge.floor c.advance.new.self.merge.floor) (sym c.in-Some.ensures.now) c.in_ok-advance.ensures.row.passes in
    let rises = height_rises max_key_bytes c.loop-rows.rows.merge.floor c.advance.new.self.merge.floor c.in-Some.key.now passes.0 passes.1 c.in-Some.ensures.sound.short_key c.in-Some.ensures.sound.key_bytes in
    omega (arith, rises, height_ends max_key_bytes c.advance.new.self.merge.floor)

pub loop-rows-preserved : goal.loop-rows-preserved
loop-rows-preserved g c =
    let before = g.D.Disk.world c.args.disk.now in
    let mid = g.D.Disk.world c.loop-rows.disk in
    let after = g.D.Disk.world c.advance.new.disk in
    let tables = c.args.tables.now.tables in
    let high = option_map (λ v. v.items) c.args.high.now in
    let same = c.loop-rows.invariant.moves.1.held in
    let old = c.loop-rows.rows in
    let new = c.advance.new.self in
    let opens = opens_at g.D.Disk.tells tables _ _ same old new c.advance.ensures.late in
    let row = entry_of c.in-Some.key.now (option_map (λ v. v.now) c.in-Some.value) in
    let some : new.merge.now ≡ Some row = sym c.in-Some.ensures.now in
    record {
      way = one_on c.merged_laws.ensures g.D.Disk.tells before.seen.held tables high c.args.rows.now c.requires.keeps c.requires.up_to before.seen.reads old mid.seen.reads c.loop-rows.invariant.way new opens after.seen.reads (λ so sound. (c.advance.ensures.bounded so (subst (IsSoundLate old tables) (sym same) sound)).reads) (step_at g.D.Disk.tells tables _ _ same old new c.in_ok-advance.ensures.row) (λ so. paced_at g.D.Disk.tells tables _ _ same old new (c.in_ok-advance.ensures.paced so)) c.in_ok-advance.ensures.least c.in_ok-advance.ensures.above row some
          (c.is_above.ensures ∙ ap not c.if-is_above.false)
          (none_value (option_map (λ v. v.now) c.in-Some.value) (some_mapped (λ v. v.now) c.in-Some.value ∙ sym c.is_some.ensures ∙ c.if-is_some.false))
          (λ so sound. c.in_ok-advance.ensures.spent so (subst (IsSoundLate old tables) (sym same) sound));
      passes = λ so. passed_on tables tables mid.seen.held before.seen.held c.args.rows.now.merge.walks old.merge.walks new.merge.walks refl same (c.loop-rows.invariant.passes so) (c.advance.ensures.read_sound so);
      goes = λ so. (next_steps tables mid.seen.held before.seen.held c.args.rows.now.merge old new same (c.loop-rows.invariant.goes so) (c.in_ok-advance.ensures.paced so) c.in_ok-advance.ensures.row.passes).on;
      moves = reads_on before mid after c.loop-rows.invariant.moves c.advance.ensures.moves;
    }

-- ---- the rows have ended

pub returns-clause-late : goal.returns-clause-late
returns-clause-late g c =
    let before = g.D.Disk.world c.args.disk.now in
    let mid = g.D.Disk.world c.loop-rows.disk in
    let tables = c.args.tables.now.tables in
    let high = option_map (λ v. v.items) c.args.high.now in
    let same = c.loop-rows.invariant.moves.1.held in
    let old = c.loop-rows.rows in
    let new = c.advance.new.self in
    let opens = opens_at g.D.Disk.tells tables _ _ same old new c.advance.ensures.late in
    late_on c.merged_laws.ensures g.D.Disk.tells before.seen.held tables high c.args.rows.now c.requires.keeps c.requires.up_to before.seen.reads old mid.seen.reads c.loop-rows.invariant.way new opens

pub returns-clause-bounded : goal.returns-clause-bounded
returns-clause-bounded g c so sound =
    let before = g.D.Disk.world c.args.disk.now in
    let mid = g.D.Disk.world c.loop-rows.disk in
    let after = g.D.Disk.world c.advance.new.disk in
    let tables = c.args.tables.now.tables in
    let high = option_map (λ v. v.items) c.args.high.now in
    let same = c.loop-rows.invariant.moves.1.held in
    let old = c.loop-rows.rows in
    let new = c.advance.new.self in
    let opens = opens_at g.D.Disk.tells tables _ _ same old new c.advance.ensures.late in
    all_bounded c.merged_laws.ensures g.D.Disk.tells before.seen.held tables high c.args.rows.now c.requires.keeps c.requires.up_to before.seen.reads old mid.seen.reads c.loop-rows.invariant.way new opens after.seen.reads (λ so sound. (c.advance.ensures.bounded so (subst (IsSoundLate old tables) (sym same) sound)).reads) so sound

pub returns-clause-passes : goal.returns-clause-passes
returns-clause-passes g c so =
    let before = g.D.Disk.world c.args.disk.now in
    let mid = g.D.Disk.world c.loop-rows.disk in
    let tables = c.args.tables.now.tables in
    let same = c.loop-rows.invariant.moves.1.held in
    let old = c.loop-rows.rows in
    let new = c.advance.new.self in
    passed_on tables tables mid.seen.held before.seen.held c.args.rows.now.merge.walks old.merge.walks new.merge.walks refl same (c.loop-rows.invariant.passes so) (c.advance.ensures.read_sound so)

pub returns-clause-moves : goal.returns-clause-moves
returns-clause-moves g c =
    reads_on (g.D.Disk.world c.args.disk.now) (g.D.Disk.world c.loop-rows.disk) (g.D.Disk.world c.advance.new.disk) c.loop-rows.invariant.moves c.advance.ensures.moves

pub returns-clause-spent : goal.returns-clause-spent
returns-clause-spent g c so sound =
    let before = g.D.Disk.world c.args.disk.now in
    let mid = g.D.Disk.world c.loop-rows.disk in
    let after = g.D.Disk.world c.advance.new.disk in
    let tables = c.args.tables.now.tables in
    let high = option_map (λ v. v.items) c.args.high.now in
    let same = c.loop-rows.invariant.moves.1.held in
    let old = c.loop-rows.rows in
    let new = c.advance.new.self in
    let opens = opens_at g.D.Disk.tells tables _ _ same old new c.advance.ensures.late in
    all_spent c.merged_laws.ensures g.D.Disk.tells before.seen.held tables high c.args.rows.now c.requires.keeps c.requires.up_to before.seen.reads old mid.seen.reads c.loop-rows.invariant.way new opens after.seen.reads (λ so sound. c.in_ok-advance.ensures.spent so (subst (IsSoundLate old tables) (sym same) sound)) so sound

pub returns-clause-steps : goal.returns-clause-steps
returns-clause-steps g c so =
    let before = g.D.Disk.world c.args.disk.now in
    let mid = g.D.Disk.world c.loop-rows.disk in
    let tables = c.args.tables.now.tables in
    let same = c.loop-rows.invariant.moves.1.held in
    let old = c.loop-rows.rows in
    let new = c.advance.new.self in
    next_steps tables mid.seen.held before.seen.held c.args.rows.now.merge old new same (c.loop-rows.invariant.goes so) (c.in_ok-advance.ensures.paced so) c.in_ok-advance.ensures.row.passes

pub returns-clause-pairs : goal.returns-clause-pairs
returns-clause-pairs g c so sound =
    let before = g.D.Disk.world c.args.disk.now in
    let mid = g.D.Disk.world c.loop-rows.disk in
    let after = g.D.Disk.world c.advance.new.disk in
    let tables = c.args.tables.now.tables in
    let high = option_map (λ v. v.items) c.args.high.now in
    let same = c.loop-rows.invariant.moves.1.held in
    let old = c.loop-rows.rows in
    let new = c.advance.new.self in
    let opens = opens_at g.D.Disk.tells tables _ _ same old new c.advance.ensures.late in
    none_left c.merged_laws.ensures g.D.Disk.tells before.seen.held tables high c.args.rows.now c.requires.keeps c.requires.up_to before.seen.reads old mid.seen.reads c.loop-rows.invariant.way new opens after.seen.reads (λ so sound. (c.advance.ensures.bounded so (subst (IsSoundLate old tables) (sym same) sound)).reads) (step_at g.D.Disk.tells tables _ _ same old new c.in_ok-advance.ensures.row) (λ so. paced_at g.D.Disk.tells tables _ _ same old new (c.in_ok-advance.ensures.paced so)) c.in_ok-advance.ensures.least c.in_ok-advance.ensures.above (none_of new.merge.now (sym c.in_ok-advance.ensures.said ∙ c.if-branch.false)) so sound

pub returns-clause-done : goal.returns-clause-done
returns-clause-done g c none =
    ended_done (option_map (λ v. v.items) c.args.high.now) c.args.tables.now.tables c.advance.new.self.merge.walks (c.in_ok-advance.ensures.ended c.if-branch.false).1
