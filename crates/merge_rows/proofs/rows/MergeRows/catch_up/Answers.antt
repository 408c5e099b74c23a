use Rattle.std.proofs.Common.{rules, ◌≡◌, ◌∙◌, ◌<◌, ℕ, List, Bool, true, false, sym, ap, subst, arith}
use Rattle.std.specs.Prelude.{Contains, Ok}
use Rattle.disk_trait.specs.Image.{Image}
use Rattle.disk_trait.specs.World.{ReadMoves}
use Rattle.disk_trait.proofs.Calls.{reads_none}
use Rattle.block_model.specs.Places.{byte_of_page}
use Rattle.entry_model.specs.Entries.{Entry}
use Rattle.merge_rows.specs.Merges.{Merge, TableWalk}
use Rattle.merge_rows.specs.Reads.{IsFewer, PassSound, blocks_left, wanted, wanted_by}
use Rattle.merge_rows.specs.Rows.{KeyFloor}
use Rattle.merge_rows.specs.Steps.{IsCaughtUp, IsSoundMerge, StaysAt}
use Rattle.table_file.specs.Search.{IsGetFault, page_at}
use Rattle.table_file.specs.Walks.{first_of}
use Rattle.merge_rows.proofs.Fills.{cause_since}
use Rattle.merge_rows.proofs.FirstFills.{fewer_err, fewer_one}
use Rattle.merge_rows.proofs.Stays.{fewer_then, only_then, read_none, read_one, sound_too, stays_since, still_some}
use Rattle.merge_rows.proofs.SoundPasses.{pass_same, pass_then}
use Rattle.merge_rows.proofs.WantedLeft.{wanted_left}
use Rattle.merge_rows.proofs.rows.MergeRows.catch_up.Goals as goal

pub loop-why-init : goal.loop-why-init
loop-why-init g c =
    let tables = c.args.tables.now.tables in
    let image = (g.D.Disk.world c.args.disk.now).seen.held in
    record {
      stays = search rules;
      memory = search rules;
      read_sound = λ t. subst (λ (walks : List TableWalk). PassSound tables image walks c.self.inside.walks.items) (ap (λ (m : Merge). m.walks) c.self.view_is) (pass_same tables image c.self.inside.walks.items);
      moves = (0, reads_none 0 (g.D.Disk.world c.args.disk.now));
      left = search rules;
      spent = search rules;
      counted = search rules;
      bounded = search rules;
    }

pub loop-why-preserved : goal.loop-why-preserved
loop-why-preserved g c =
    let tables = c.args.tables.now.tables in
    let before = g.D.Disk.world c.args.disk.now in
    let mid = g.D.Disk.world c.loop-why.disk in
    let after = g.D.Disk.world c.fill.new.disk in
    let old = c.loop-why.self in
    let new = c.fill.new.self in
    let from = c.loop-why.invariant in
    let held = from.moves.1.held in
    let is : c.fill.result ≡ Ok true = c.in-Ok-true.is ∙ ap (λ (b : Bool). Ok b) c.in-Ok-true.field-0-test in
    let fewer : blocks_left tables new.walks < blocks_left tables old.walks = read_one c.fill.result (blocks_left tables old.walks) (blocks_left tables new.walks) is c.fill.ensures.left in
    record {
      stays = stays_since g.D.Disk.tells tables before.seen.held c.args.self.now old new from.stays (subst (λ (h : Image). StaysAt g.D.Disk.tells tables h old new) held c.fill.ensures.stays);
      memory = subst (λ (es : List Entry). IsCaughtUp c.args.self.now.floor (first_of es) es) (sym c.fill.ensures.memory) from.memory;
      read_sound = λ t. pass_then tables before.seen.held c.args.self.now.walks old.walks new.walks (from.read_sound t) (subst (λ (h : Image). PassSound tables h old.walks new.walks) held (c.fill.ensures.read_sound t));
      moves = only_then 2 before mid after from.moves c.fill.ensures.moves;
      left = omega (arith, fewer, from.left);
      spent = λ t s.
          let once = subst (λ (h : Image). IsSoundMerge old tables h → ReadMoves 1 mid after) held (λ u. (c.fill.ensures.once t u).0) (sound_too tables before.seen.held old (from.stays.sources.sound t s)) in
          let one = from.spent t s in
          omega (arith, one, once.reads, fewer);
      counted = λ t. let one = from.counted t in let two = c.in-Ok-true.ensures.counted t in omega (arith, one, two);
      bounded = λ t s.
          let once = subst (λ (h : Image). IsSoundMerge old tables h → ReadMoves 1 mid after × IsFewer c.fill.result (wanted old tables) (wanted new tables)) held (c.fill.ensures.once t) (sound_too tables before.seen.held old (from.stays.sources.sound t s)) in
          fewer_then (wanted c.args.self.now tables) (wanted old tables) (wanted new tables) before mid after (fewer_one c.fill.result (wanted old tables) (wanted new tables) is once.1) (from.bounded t s) once.0;
    }

pub returns-in-Err-clause-cause : goal.returns-in-Err-clause-cause
returns-in-Err-clause-cause g c =
    let is = c.in-Err.ensures.cause in (
      is.0,
      subst (λ (which : List ℕ). Contains which is.0) c.loop-why.invariant.stays.sources.numbers_are is.1,
      (
        is.2.0,
        is.2.1,
        is.2.2,
        is.2.3,
        cause_since (byte_of_page (page_at is.2.0 is.2.1)) (g.D.Disk.world c.args.disk.now) (g.D.Disk.world c.loop-why.disk) (g.D.Disk.world c.fill.new.disk) c.in-Err.why c.loop-why.invariant.moves.1.read_faults is.2.4,
      ),
    )

pub returns-in-Ok-false-clause-left : goal.returns-in-Ok-false-clause-left
returns-in-Ok-false-clause-left g c =
    let tables = c.args.tables.now.tables in
    let is : c.fill.result ≡ Ok false = c.in-Ok-false.is ∙ ap (λ (b : Bool). Ok b) c.in-Ok-false.field-0-test in
    let same : blocks_left tables c.fill.new.self.walks ≡ blocks_left tables c.loop-why.self.walks =
    read_none c.fill.result (blocks_left tables c.loop-why.self.walks) (blocks_left tables c.fill.new.self.walks) is c.fill.ensures.left in
    omega (arith, same, c.loop-why.invariant.left)

pub returns-in-Err-clause-fault : goal.returns-in-Err-clause-fault
returns-in-Err-clause-fault g c t =
    let is = c.in-Err.ensures.fault t in
    (is.0, subst (λ (which : List ℕ). Contains which is.0) c.loop-why.invariant.stays.sources.numbers_are is.1, (is.2.0, is.2.1, is.2.2, is.2.3, subst (λ (h : Image). IsGetFault is.2.0 is.2.1 h c.in-Err.why) c.loop-why.invariant.moves.1.held is.2.4))

pub returns-in-Err-clause-moves : goal.returns-in-Err-clause-moves
returns-in-Err-clause-moves g c =
    only_then 2 (g.D.Disk.world c.args.disk.now) (g.D.Disk.world c.loop-why.disk) (g.D.Disk.world c.fill.new.disk) c.loop-why.invariant.moves c.fill.ensures.moves

pub returns-in-Err-clause-only_if_read : goal.returns-in-Err-clause-only_if_read
returns-in-Err-clause-only_if_read g c = still_some c.loop-why.self.walks c.args.self.now.walks c.loop-why.invariant.stays.sources.numbers_are c.in-Err.ensures.only_if_read

pub returns-in-Err-clause-only_if_wanted : goal.returns-in-Err-clause-only_if_wanted
returns-in-Err-clause-only_if_wanted g c t s =
    let tables = c.args.tables.now.tables in
    let old = c.loop-why.self in
    let new = c.fill.new.self in
    let from = c.loop-why.invariant in
    let fewer = subst (λ (h : Image). IsSoundMerge old tables h → IsFewer c.fill.result (wanted old tables) (wanted new tables)) from.moves.1.held (λ u. (c.fill.ensures.once t u).1) (sound_too tables (g.D.Disk.world c.args.disk.now).seen.held old (from.stays.sources.sound t s)) in
    let some = fewer_err c.fill.result c.in-Err.why (wanted old tables) (wanted new tables) c.in-Err.is fewer in
    let most = (from.bounded t s).0 in
    omega (arith, some, most)

-- ---- no more blocks were read than fewer are left

pub returns-in-Ok-false-clause-spent : goal.returns-in-Ok-false-clause-spent
returns-in-Ok-false-clause-spent g c t s =
    let tables = c.args.tables.now.tables in
    let is : c.fill.result ≡ Ok false = c.in-Ok-false.is ∙ ap (λ (b : Bool). Ok b) c.in-Ok-false.field-0-test in
    let same : blocks_left tables c.fill.new.self.walks ≡ blocks_left tables c.loop-why.self.walks =
    read_none c.fill.result (blocks_left tables c.loop-why.self.walks) (blocks_left tables c.fill.new.self.walks) is c.fill.ensures.left in
    let idle = c.in-Ok-false.ensures.idle c.in-Ok-false.field-0-test in
    let one = c.loop-why.invariant.spent t s in
    omega (arith, one, same, idle.reads)

pub returns-in-Err-clause-tried : goal.returns-in-Err-clause-tried
returns-in-Err-clause-tried g c t s =
    let tables = c.args.tables.now.tables in
    let before = g.D.Disk.world c.args.disk.now in
    let mid = g.D.Disk.world c.loop-why.disk in
    let after = g.D.Disk.world c.fill.new.disk in
    let old = c.loop-why.self in
    let new = c.fill.new.self in
    let from = c.loop-why.invariant in
    let once = subst (λ (h : Image). IsSoundMerge old tables h → ReadMoves 1 mid after × IsFewer c.fill.result (wanted old tables) (wanted new tables)) from.moves.1.held (c.fill.ensures.once t) (sound_too tables before.seen.held old (from.stays.sources.sound t s)) in
    let some = fewer_err c.fill.result c.in-Err.why (wanted old tables) (wanted new tables) c.in-Err.is once.1 in
    let left = wanted_left old.floor tables old.walks some in
    let one = from.spent t s in
    omega (arith, one, once.0.reads, left)

-- ---- what was passed is sound, and at the end no block is wanted

pub returns-in-Ok-false-clause-read_sound : goal.returns-in-Ok-false-clause-read_sound
returns-in-Ok-false-clause-read_sound g c t =
    let tables = c.args.tables.now.tables in
    let before = g.D.Disk.world c.args.disk.now in
    let old = c.loop-why.self in
    let new = c.fill.new.self in
    let from = c.loop-why.invariant in
    pass_then tables before.seen.held c.args.self.now.walks old.walks new.walks (from.read_sound t) (subst (λ (h : Image). PassSound tables h old.walks new.walks) from.moves.1.held (c.fill.ensures.read_sound t))

pub returns-in-Err-clause-read_sound : goal.returns-in-Err-clause-read_sound
returns-in-Err-clause-read_sound g c t =
    let tables = c.args.tables.now.tables in
    let before = g.D.Disk.world c.args.disk.now in
    let old = c.loop-why.self in
    let new = c.fill.new.self in
    let from = c.loop-why.invariant in
    pass_then tables before.seen.held c.args.self.now.walks old.walks new.walks (from.read_sound t) (subst (λ (h : Image). PassSound tables h old.walks new.walks) from.moves.1.held (c.fill.ensures.read_sound t))

pub returns-in-Ok-false-clause-done : goal.returns-in-Ok-false-clause-done
returns-in-Ok-false-clause-done g c =
    let tables = c.args.tables.now.tables in
    let new = c.fill.new.self in
    subst (λ (f : KeyFloor). wanted_by f tables new.walks ≡ 0) (c.fill.ensures.stays.floor_is ∙ c.loop-why.invariant.stays.floor_is) (c.in-Ok-false.ensures.done c.in-Ok-false.field-0-test)
