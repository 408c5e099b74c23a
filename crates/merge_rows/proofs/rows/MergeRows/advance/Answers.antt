use Rattle.std.proofs.Common.{◌≡◌, ◌+◌, ◌≤◌, ◌∙◌, ℕ, List, true, false, refl, sym, subst, arith}
use Rattle.std.specs.Prelude.{Contains, IsTrue, is_some}
use Rattle.std.proofs.lemmas.Bool.{false≢true}
use Rattle.disk_trait.specs.Image.{Image}
use Rattle.disk_trait.proofs.Calls.{reads_none}
use Rattle.block_model.specs.Places.{byte_of_page}
use Rattle.key_base.specs.Limits.{max_key_bytes}
use Rattle.merge_rows.specs.Merges.{Merge, merged_left}
use Rattle.merge_rows.specs.Reads.{PassSound, blocks_left, wanted}
use Rattle.merge_rows.specs.Steps.{HandsOutRow, IsPaced, IsSoundMerge, SourcesStay, StaysAt}
use Rattle.table_file.specs.Search.{IsGetFault, page_at}
use Rattle.merge_rows.proofs.Fills.{cause_since}
use Rattle.merge_rows.proofs.Rank.{falls, key_of_entry}
use Rattle.merge_rows.proofs.RowSteps.{fault_step, hidden_drops, hidden_step, none_step, rises_on, row_step, sources_then}
use Rattle.merge_rows.proofs.SoundPasses.{pass_same, pass_then, wanted_falls}
use Rattle.merge_rows.proofs.Stays.{only_both, still_some}
use Rattle.merge_rows.proofs.Steps.{rises_then}
use Rattle.merge_rows.proofs.rows.MergeRows.advance.Goals as goal

pub returns-in-Ok-false-clause-moves : goal.returns-in-Ok-false-clause-moves
returns-in-Ok-false-clause-moves g c =
    only_both (g.D.Disk.world c.args.disk.now) (g.D.Disk.world c.loop-why.disk) (g.D.Disk.world c.step.new.disk) c.loop-why.invariant.moves c.step.ensures.moves

pub returns-in-Ok-false-clause-kept : goal.returns-in-Ok-false-clause-kept
returns-in-Ok-false-clause-kept g c =
    let tells = g.D.Disk.tells in
    let tables = c.args.tables.now.tables in
    let before = g.D.Disk.world c.args.disk.now in
    let mid = g.D.Disk.world c.loop-why.disk in
    let after = g.D.Disk.world c.step.new.disk in
    let image = before.seen.held in
    let first = c.args.self.now in
    let old = c.loop-why.self in
    let new = c.step.new.self in
    let from = c.loop-why.invariant in
    let held = from.moves.1.held in
    let kept : SourcesStay tells tables image old new = subst (λ (h : Image). SourcesStay tells tables h old new) held c.step.ensures.kept in
    sources_then tells tables image first old new from.stay kept

pub returns-in-Err-clause-moves : goal.returns-in-Err-clause-moves
returns-in-Err-clause-moves g c =
    only_both (g.D.Disk.world c.args.disk.now) (g.D.Disk.world c.loop-why.disk) (g.D.Disk.world c.step.new.disk) c.loop-why.invariant.moves c.step.ensures.moves

pub returns-in-Err-clause-kept : goal.returns-in-Err-clause-kept
returns-in-Err-clause-kept g c =
    let tells = g.D.Disk.tells in
    let tables = c.args.tables.now.tables in
    let before = g.D.Disk.world c.args.disk.now in
    let mid = g.D.Disk.world c.loop-why.disk in
    let after = g.D.Disk.world c.step.new.disk in
    let image = before.seen.held in
    let first = c.args.self.now in
    let old = c.loop-why.self in
    let new = c.step.new.self in
    let from = c.loop-why.invariant in
    let held = from.moves.1.held in
    let kept : SourcesStay tells tables image old new = subst (λ (h : Image). SourcesStay tells tables h old new) held c.step.ensures.kept in
    sources_then tells tables image first old new from.stay kept

pub returns-then-is_shown-clause-moves : goal.returns-then-is_shown-clause-moves
returns-then-is_shown-clause-moves g c =
    only_both (g.D.Disk.world c.args.disk.now) (g.D.Disk.world c.loop-why.disk) (g.D.Disk.world c.step.new.disk) c.loop-why.invariant.moves c.step.ensures.moves

pub returns-then-is_shown-clause-kept : goal.returns-then-is_shown-clause-kept
returns-then-is_shown-clause-kept g c =
    let tells = g.D.Disk.tells in
    let tables = c.args.tables.now.tables in
    let before = g.D.Disk.world c.args.disk.now in
    let mid = g.D.Disk.world c.loop-why.disk in
    let after = g.D.Disk.world c.step.new.disk in
    let image = before.seen.held in
    let first = c.args.self.now in
    let old = c.loop-why.self in
    let new = c.step.new.self in
    let from = c.loop-why.invariant in
    let held = from.moves.1.held in
    let kept : SourcesStay tells tables image old new = subst (λ (h : Image). SourcesStay tells tables h old new) held c.step.ensures.kept in
    sources_then tells tables image first old new from.stay kept

pub returns-in-Ok-false-clause-row : goal.returns-in-Ok-false-clause-row
returns-in-Ok-false-clause-row g c =
    let tells = g.D.Disk.tells in
    let tables = c.args.tables.now.tables in
    let before = g.D.Disk.world c.args.disk.now in
    let mid = g.D.Disk.world c.loop-why.disk in
    let after = g.D.Disk.world c.step.new.disk in
    let image = before.seen.held in
    let first = c.args.self.now in
    let old = c.loop-why.self in
    let new = c.step.new.self in
    let from = c.loop-why.invariant in
    let held = from.moves.1.held in
    let kept : SourcesStay tells tables image old new = subst (λ (h : Image). SourcesStay tells tables h old new) held c.step.ensures.kept in
    let hands : IsTrue tells → IsSoundMerge old tables image → HandsOutRow new.now (merged_left old tables image) (merged_left new tables image) =
    subst (λ (h : Image). IsTrue tells → IsSoundMerge old tables h → HandsOutRow new.now (merged_left old tables h) (merged_left new tables h)) held c.in-Ok-false.ensures.rows in
    let none : is_some new.now ≡ false = sym c.in-Ok-false.ensures.said ∙ c.in-Ok-false.field-0-test in
    none_step tells tables image first old new from.stay from.rows from.rises kept hands c.in-Ok-false.ensures.passes none

pub returns-then-is_shown-clause-row : goal.returns-then-is_shown-clause-row
returns-then-is_shown-clause-row g c =
    let tells = g.D.Disk.tells in
    let tables = c.args.tables.now.tables in
    let before = g.D.Disk.world c.args.disk.now in
    let mid = g.D.Disk.world c.loop-why.disk in
    let after = g.D.Disk.world c.step.new.disk in
    let image = before.seen.held in
    let first = c.args.self.now in
    let old = c.loop-why.self in
    let new = c.step.new.self in
    let from = c.loop-why.invariant in
    let held = from.moves.1.held in
    let kept : SourcesStay tells tables image old new = subst (λ (h : Image). SourcesStay tells tables h old new) held c.step.ensures.kept in
    let hands : IsTrue tells → IsSoundMerge old tables image → HandsOutRow new.now (merged_left old tables image) (merged_left new tables image) =
    subst (λ (h : Image). IsTrue tells → IsSoundMerge old tables h → HandsOutRow new.now (merged_left old tables h) (merged_left new tables h)) held c.in-Ok-true.ensures.rows in
    let some : is_some new.now ≡ true = sym c.in-Ok-true.ensures.said ∙ c.in-Ok-true.field-0-test in
    row_step tells tables image first old new from.stay from.rows from.rises kept hands c.in-Ok-true.ensures.passes some c.if-is_shown.ensures

pub returns-in-Err-clause-stays : goal.returns-in-Err-clause-stays
returns-in-Err-clause-stays g c =
    let tells = g.D.Disk.tells in
    let tables = c.args.tables.now.tables in
    let before = g.D.Disk.world c.args.disk.now in
    let mid = g.D.Disk.world c.loop-why.disk in
    let after = g.D.Disk.world c.step.new.disk in
    let image = before.seen.held in
    let first = c.args.self.now in
    let old = c.loop-why.self in
    let new = c.step.new.self in
    let from = c.loop-why.invariant in
    let held = from.moves.1.held in
    let kept : SourcesStay tells tables image old new = subst (λ (h : Image). SourcesStay tells tables h old new) held c.step.ensures.kept in
    fault_step tells tables image first old new from.rows from.rises (subst (λ (h : Image). StaysAt tells tables h old new) held c.in-Err.ensures.stays)

pub returns-in-Err-clause-cause : goal.returns-in-Err-clause-cause
returns-in-Err-clause-cause g c =
    let is = c.in-Err.ensures.cause in (
      is.0,
      subst (λ (which : List ℕ). Contains which is.0) c.loop-why.invariant.stay.numbers_are is.1,
      (
        is.2.0,
        is.2.1,
        is.2.2,
        is.2.3,
        cause_since (byte_of_page (page_at is.2.0 is.2.1)) (g.D.Disk.world c.args.disk.now) (g.D.Disk.world c.loop-why.disk) (g.D.Disk.world c.step.new.disk) c.in-Err.why c.loop-why.invariant.moves.1.read_faults is.2.4,
      ),
    )

pub returns-in-Err-clause-fault : goal.returns-in-Err-clause-fault
returns-in-Err-clause-fault g c t =
    let is = c.in-Err.ensures.fault t in
    (is.0, subst (λ (which : List ℕ). Contains which is.0) c.loop-why.invariant.stay.numbers_are is.1, (is.2.0, is.2.1, is.2.2, is.2.3, subst (λ (h : Image). IsGetFault is.2.0 is.2.1 h c.in-Err.why) c.loop-why.invariant.moves.1.held is.2.4))

pub loop-why-smaller : goal.loop-why-smaller
loop-why-smaller g c =
    let new = c.step.new.self in
    let some : is_some new.now ≡ true = sym c.in-Ok-true.ensures.said ∙ c.in-Ok-true.field-0-test in
    falls max_key_bytes new.now c.loop-why.self.floor new.floor some c.in-Ok-true.ensures.passes (key_of_entry new.now c.in-Ok-true.ensures.sound)

pub loop-why-init : goal.loop-why-init
loop-why-init g c =
    let tables = c.args.tables.now.tables in
    let before = g.D.Disk.world c.args.disk.now in
    let first = c.args.self.now in
    record {
      stay = record { numbers_are = refl; stands_are = refl; drops_are = refl; sound = λ t s. s };
      rows = λ t s. refl;
      rises = λ key clear. clear;
      read_sound = λ t. pass_same tables before.seen.held first.walks;
      moves = (0, reads_none 0 before);
      left = omega arith;
      spent = λ t s. omega arith;
      counted = λ t. refl;
      first = λ all. (refl, reads_none 0 before);
    }

pub loop-why-preserved : goal.loop-why-preserved
loop-why-preserved g c =
    let tells = g.D.Disk.tells in
    let tables = c.args.tables.now.tables in
    let before = g.D.Disk.world c.args.disk.now in
    let mid = g.D.Disk.world c.loop-why.disk in
    let after = g.D.Disk.world c.step.new.disk in
    let image = before.seen.held in
    let first = c.args.self.now in
    let old = c.loop-why.self in
    let new = c.step.new.self in
    let from = c.loop-why.invariant in
    let held = from.moves.1.held in
    let kept : SourcesStay tells tables image old new = subst (λ (h : Image). SourcesStay tells tables h old new) held c.step.ensures.kept in
    let hands : IsTrue tells → IsSoundMerge old tables image → HandsOutRow new.now (merged_left old tables image) (merged_left new tables image) =
    subst (λ (h : Image). IsTrue tells → IsSoundMerge old tables h → HandsOutRow new.now (merged_left old tables h) (merged_left new tables h)) held c.in-Ok-true.ensures.rows in
    let some : is_some new.now ≡ true = sym c.in-Ok-true.ensures.said ∙ c.in-Ok-true.field-0-test in
    record {
      stay = sources_then tells tables image first old new from.stay kept;
      rows = hidden_step tells tables image first old new from.stay from.rows from.rises kept hands c.in-Ok-true.ensures.passes some c.if-is_shown.ensures;
      rises = rises_then first.floor old.floor new.floor from.rises (rises_on new.now old.floor new.floor c.in-Ok-true.ensures.passes);
      read_sound = λ t. pass_then tables image first.walks old.walks new.walks (from.read_sound t) (subst (λ (h : Image). PassSound tables h old.walks new.walks) held (c.step.ensures.read_sound t));
      moves = only_both before mid after from.moves c.step.ensures.moves;
      left = (let one = from.left in let two = c.in-Ok-true.ensures.left in omega (arith, one, two));
      spent = λ t s.
          let one = from.spent t s in
          let two = subst (λ (h : Image). IsSoundMerge old tables h → after.seen.reads + blocks_left tables new.walks ≤ mid.seen.reads + blocks_left tables old.walks) held (c.in-Ok-true.ensures.spent t) (from.stay.sound t s) in
          omega (arith, one, two);
      counted = λ t. let one = from.counted t in let two = c.in-Ok-true.ensures.counted t in omega (arith, one, two);
      first = λ all. absurd (false≢true (sym all ∙ sym from.stay.drops_are ∙ sym kept.drops_are ∙ hidden_drops new.drops new.now some c.if-is_shown.ensures));
    }

pub returns-in-Err-clause-only_if_read : goal.returns-in-Err-clause-only_if_read
returns-in-Err-clause-only_if_read g c = still_some c.loop-why.self.walks c.args.self.now.walks c.loop-why.invariant.stay.numbers_are c.in-Err.ensures.only_if_read

pub returns-in-Err-clause-only_if_wanted : goal.returns-in-Err-clause-only_if_wanted
returns-in-Err-clause-only_if_wanted g c t all sound =
    let tables = c.args.tables.now.tables in
    let old = c.loop-why.self in
    let from = c.loop-why.invariant in
    subst (λ (m : Merge). 1 ≤ wanted m tables) (from.first all).0
    (subst (λ (h : Image). IsSoundMerge old tables h → 1 ≤ wanted old tables) from.moves.1.held (c.in-Err.ensures.only_if_wanted t) (from.stay.sound t sound))

pub returns-in-Ok-false-clause-caught_up_past : goal.returns-in-Ok-false-clause-caught_up_past
returns-in-Ok-false-clause-caught_up_past g c t all =
    let tables = c.args.tables.now.tables in
    let from = c.loop-why.invariant in
    subst (λ (m : Merge). IsPaced tables (g.D.Disk.world c.args.disk.now).seen.held m c.step.new.self) (from.first all).0
    (subst (λ (h : Image). IsPaced tables h c.loop-why.self c.step.new.self) from.moves.1.held (c.in-Ok-false.ensures.caught_up_past t))

pub returns-then-is_shown-clause-caught_up_past : goal.returns-then-is_shown-clause-caught_up_past
returns-then-is_shown-clause-caught_up_past g c t all =
    let tables = c.args.tables.now.tables in
    let from = c.loop-why.invariant in
    subst (λ (m : Merge). IsPaced tables (g.D.Disk.world c.args.disk.now).seen.held m c.step.new.self) (from.first all).0
    (subst (λ (h : Image). IsPaced tables h c.loop-why.self c.step.new.self) from.moves.1.held (c.in-Ok-true.ensures.caught_up_past t))

-- ---- no more blocks were read than fewer are left

pub returns-in-Ok-false-clause-spent : goal.returns-in-Ok-false-clause-spent
returns-in-Ok-false-clause-spent g c t s =
    let tables = c.args.tables.now.tables in
    let mid = g.D.Disk.world c.loop-why.disk in
    let after = g.D.Disk.world c.step.new.disk in
    let old = c.loop-why.self in
    let new = c.step.new.self in
    let from = c.loop-why.invariant in
    let held = from.moves.1.held in
    let one = from.spent t s in
    let two = subst (λ (h : Image). IsSoundMerge old tables h → after.seen.reads + blocks_left tables new.walks ≤ mid.seen.reads + blocks_left tables old.walks) held (c.in-Ok-false.ensures.spent t) (from.stay.sound t s) in
    omega (arith, one, two)

pub returns-then-is_shown-clause-spent : goal.returns-then-is_shown-clause-spent
returns-then-is_shown-clause-spent g c t s =
    let tables = c.args.tables.now.tables in
    let mid = g.D.Disk.world c.loop-why.disk in
    let after = g.D.Disk.world c.step.new.disk in
    let old = c.loop-why.self in
    let new = c.step.new.self in
    let from = c.loop-why.invariant in
    let held = from.moves.1.held in
    let one = from.spent t s in
    let two = subst (λ (h : Image). IsSoundMerge old tables h → after.seen.reads + blocks_left tables new.walks ≤ mid.seen.reads + blocks_left tables old.walks) held (c.in-Ok-true.ensures.spent t) (from.stay.sound t s) in
    omega (arith, one, two)

pub returns-in-Err-clause-tried : goal.returns-in-Err-clause-tried
returns-in-Err-clause-tried g c t s =
    let tables = c.args.tables.now.tables in
    let mid = g.D.Disk.world c.loop-why.disk in
    let after = g.D.Disk.world c.step.new.disk in
    let old = c.loop-why.self in
    let new = c.step.new.self in
    let from = c.loop-why.invariant in
    let held = from.moves.1.held in
    let one = from.spent t s in
    let two = subst (λ (h : Image). IsSoundMerge old tables h → after.seen.reads ≤ mid.seen.reads + blocks_left tables old.walks) held (c.in-Err.ensures.tried t) (from.stay.sound t s) in
    omega (arith, one, two)

-- ---- what was passed is sound, and at the end no block is wanted

pub returns-in-Ok-false-clause-read_sound : goal.returns-in-Ok-false-clause-read_sound
returns-in-Ok-false-clause-read_sound g c t =
    let tables = c.args.tables.now.tables in
    let old = c.loop-why.self in
    let new = c.step.new.self in
    let from = c.loop-why.invariant in
    pass_then tables (g.D.Disk.world c.args.disk.now).seen.held c.args.self.now.walks old.walks new.walks (from.read_sound t)
    (subst (λ (h : Image). PassSound tables h old.walks new.walks) from.moves.1.held (c.step.ensures.read_sound t))

pub returns-then-is_shown-clause-read_sound : goal.returns-then-is_shown-clause-read_sound
returns-then-is_shown-clause-read_sound g c t =
    let tables = c.args.tables.now.tables in
    let old = c.loop-why.self in
    let new = c.step.new.self in
    let from = c.loop-why.invariant in
    pass_then tables (g.D.Disk.world c.args.disk.now).seen.held c.args.self.now.walks old.walks new.walks (from.read_sound t)
    (subst (λ (h : Image). PassSound tables h old.walks new.walks) from.moves.1.held (c.step.ensures.read_sound t))

pub returns-in-Err-clause-read_sound : goal.returns-in-Err-clause-read_sound
returns-in-Err-clause-read_sound g c t =
    let tables = c.args.tables.now.tables in
    let old = c.loop-why.self in
    let new = c.step.new.self in
    let from = c.loop-why.invariant in
    pass_then tables (g.D.Disk.world c.args.disk.now).seen.held c.args.self.now.walks old.walks new.walks (from.read_sound t)
    (subst (λ (h : Image). PassSound tables h old.walks new.walks) from.moves.1.held (c.step.ensures.read_sound t))

pub returns-in-Ok-false-clause-done : goal.returns-in-Ok-false-clause-done
returns-in-Ok-false-clause-done g c = wanted_falls c.args.self.now.floor c.loop-why.self.floor c.args.tables.now.tables c.step.new.self.walks c.loop-why.invariant.rises c.in-Ok-false.ensures.done

pub returns-then-is_shown-clause-done : goal.returns-then-is_shown-clause-done
returns-then-is_shown-clause-done g c = wanted_falls c.args.self.now.floor c.loop-why.self.floor c.args.tables.now.tables c.step.new.self.walks c.loop-why.invariant.rises c.in-Ok-true.ensures.done

pub returns-in-Ok-false-clause-ended : goal.returns-in-Ok-false-clause-ended
returns-in-Ok-false-clause-ended g c none = c.in-Ok-false.ensures.ended c.in-Ok-false.field-0-test

pub returns-then-is_shown-clause-ended : goal.returns-then-is_shown-clause-ended
returns-then-is_shown-clause-ended g c none = absurd (false≢true (sym none))
