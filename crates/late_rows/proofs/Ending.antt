-- The last part of a way on which all walks are awake: a step of the merge.
use Rattle.std.proofs.Common.{◌≡◌, ◌∙◌, ◌+◌, ◌≤◌, ℕ, List, length, refl, sym, ap, subst, Bool, false, arith}
use Rattle.std.specs.Prelude.{Contains, IfSome, IsTrue, Option, Some, None, Result, Ok, Err, OnErr, OnOk}
use Rattle.block_model.specs.Places.{byte_of_page}
use Rattle.disk_trait.specs.Image.{Image}
use Rattle.disk_trait.specs.World.{ReadMoves, World}
use Rattle.entry_model.specs.Entries.{Entry}
use Rattle.merge_rows.specs.Choosing.{IsHeadFrom}
use Rattle.merge_rows.specs.Merges.{Merge, rows_left}
use Rattle.merge_rows.specs.Reads.{OnlyReads, PassSound, SomeBlock, blocks_left, next_blocks, wanted, wanted_by}
use Rattle.merge_rows.specs.Rows.{KeyFloor}
use Rattle.merge_rows.specs.Steps.{FloorRises, HandsOutRow, IsFaultStep, IsRowStep, IsSoundMerge, RowPasses, SourcesStay, numbers}
use Rattle.merge_rows.proofs.Fills.{cause_since}
use Rattle.merge_rows.proofs.SoundPasses.{pass_then}
use Rattle.merge_rows.proofs.Stays.{lengths_are, only_both}
use Rattle.table_file.specs.Faults.{HasReadCause}
use Rattle.table_file.specs.Opened.{Opened}
use Rattle.table_file.specs.Search.{IsGetFault, page_at}
use Rattle.table_file.specs.Walks.{first_of}
use Rattle.table_file.specs.declared.fault.TableFault.{TableFault}
use Rattle.late_rows.proofs.Awake.{all_awake, no_key}
use Rattle.late_rows.proofs.Composed.{sound_merge}
use Rattle.late_rows.proofs.Going.{left_same}
use Rattle.late_rows.proofs.Handing.{all_shown, reads_most}
use Rattle.late_rows.specs.Going.{GoesOn, ReadsOn}
use Rattle.late_rows.specs.Late.{IsSoundLate, LateMerge, waking_at, wanted_awake}
use Rattle.late_rows.specs.Opening.{IsLateFault, IsLateStep, OpensLate}

-- what follows from what an error says
pub on_err_then : {T E : Type 0} (result : Result T E) (P Q : Type 0) → OnErr result P → (P → Q) → OnErr result Q
on_err_then (Ok value) P Q is next = tt
on_err_then (Err why) P Q is next = next is

module _ (tells : Bool) (tables : List Opened) (first now : LateMerge) (next : Merge) (before mid after : World) (goes : GoesOn tells tables first now before mid)
    (reads : ReadsOn tells tables first now before mid) (awake : (at : ℕ) → waking_at now.asleep at ≡ None) (keeps : first.merge.drops ≡ false) where
  abbrev new : LateMerge
  new = record { merge = next; asleep = now.asleep }

  abbrev held : mid.seen.held ≡ before.seen.held
  held = goes.moves.1.held

  same_rows : IsTrue tells → rows_left now.merge tables before.seen.held ≡ rows_left first.merge tables before.seen.held
  same_rows t = all_shown now.merge tables before.seen.held (goes.drops ∙ keeps) ∙ left_same tells tables first now before mid goes t ∙ sym (all_shown first.merge tables before.seen.held keeps)

  pub sound_mid : IsTrue tells → IsSoundLate first tables before.seen.held → IsSoundMerge now.merge tables mid.seen.held
  sound_mid t s = sound_merge tells tables first now now before mid mid goes refl t s.merge

  pub all_late : SourcesStay tells tables mid.seen.held now.merge next → OpensLate tells tables before.seen.held first new
  all_late kept = record {
    numbers_are = kept.numbers_are ∙ goes.numbers_are;
    stands_are = kept.stands_are ∙ goes.stands_are;
    drops_are = kept.drops_are ∙ goes.drops;
    sleep_on = λ at key is. no_key key (sym (awake at) ∙ is);
    wake_late = λ t s at key is none. subst (λ (l : List Entry). IsHeadFrom key (first_of l)) (sym (all_shown first.merge tables before.seen.held keeps)) (goes.wake_late t s at key is (awake at));
    sound = λ t s. record {
      merge = subst (λ (h : Image). IsSoundMerge next tables h) held (kept.sound t (sound_mid t s));
      asleep = λ at key is. no_key key (sym (awake at) ∙ is);
    };
  }

  pub all_row : IsRowStep tells tables mid.seen.held now.merge next → IsLateStep tells tables before.seen.held first new
  all_row step = record {
    rows = λ t s. subst (λ (l : List Entry). HandsOutRow next.now l (rows_left next tables before.seen.held)) (same_rows t)
        (subst (λ (h : Image). HandsOutRow next.now (rows_left now.merge tables h) (rows_left next tables h)) held (step.rows t (sound_mid t s)));
    passes = subst (λ (f : KeyFloor). RowPasses next.now f next.floor) goes.floor step.passes;
  }

  pub all_stays : IsFaultStep tells tables mid.seen.held now.merge next → IsLateFault tells tables before.seen.held first new
  all_stays fault = record {
    rows = λ t s. subst (λ (h : Image). rows_left next tables h ≡ rows_left now.merge tables h) held (fault.rows t (sound_mid t s)) ∙ same_rows t;
    rises = subst (λ (f : KeyFloor). FloorRises f next.floor) goes.floor fault.rises;
    none = fault.none;
  }

  -- all that the next row wants is wanted of those who are awake
  same_wanted : wanted now.merge tables ≡ wanted_awake first.merge.floor tables now.asleep now.merge.walks
  same_wanted = ap (λ (f : KeyFloor). wanted_by f tables now.merge.walks) goes.floor ∙ ap (wanted_by first.merge.floor tables) (sym (all_awake now.asleep now.merge.walks awake))

  pub all_owed : IsTrue tells → IsSoundLate first tables before.seen.held → 1 ≤ wanted now.merge tables → 1 ≤ wanted_awake first.merge.floor tables now.asleep first.merge.walks
  all_owed t s some = let sofar = reads.bounded t s.merge in omega (arith, some, sofar, same_wanted, goes.moves.1.reads_later)

  pub all_bounded : OnlyReads mid after → (IsTrue tells → IsSoundMerge now.merge tables mid.seen.held → ReadMoves (wanted now.merge tables) mid after) → IsTrue tells → IsSoundLate first tables before.seen.held
      → ReadMoves (wanted_awake first.merge.floor tables now.asleep first.merge.walks) before after
  all_bounded only bounded t s =
      let sofar = reads.bounded t s.merge in
      let rest = bounded t (sound_mid t s) in
      reads_most (wanted_awake first.merge.floor tables now.asleep first.merge.walks) before after (only_both before mid after goes.moves only) (omega (arith, sofar, rest.reads, same_wanted))

  pub all_passed : (IsTrue tells → PassSound tables mid.seen.held now.merge.walks next.walks) → IsTrue tells → PassSound tables before.seen.held first.merge.walks next.walks
  all_passed passed t = pass_then tables before.seen.held first.merge.walks now.merge.walks next.walks (goes.read_sound t)
      (subst (λ (h : Image). PassSound tables h now.merge.walks next.walks) held (passed t))

  pub all_cause : (why : TableFault) → SomeBlock tables (numbers now.merge.walks) (λ t n. HasReadCause (byte_of_page (page_at t n)) mid after why)
      → SomeBlock tables (numbers first.merge.walks) (λ t n. HasReadCause (byte_of_page (page_at t n)) before after why)
  all_cause why is = (
    is.0,
    subst (λ (ns : List ℕ). Contains ns is.0) goes.numbers_are is.1,
    (is.2.0, is.2.1, is.2.2, is.2.3, cause_since (byte_of_page (page_at is.2.0 is.2.1)) before mid after why goes.moves.1.read_faults is.2.4),
  )

  pub all_fault : (why : TableFault) → SomeBlock tables (numbers now.merge.walks) (λ t n. IsGetFault t n mid.seen.held why)
      → SomeBlock tables (numbers first.merge.walks) (λ t n. IsGetFault t n before.seen.held why)
  all_fault why is = (
    is.0,
    subst (λ (ns : List ℕ). Contains ns is.0) goes.numbers_are is.1,
    (is.2.0, is.2.1, is.2.2, is.2.3, subst (λ (h : Image). IsGetFault is.2.0 is.2.1 h why) held is.2.4),
  )

  pub all_met : 1 ≤ length now.merge.walks → 1 ≤ length first.merge.walks
  all_met some = let many = lengths_are now.merge.walks first.merge.walks goes.numbers_are in omega (arith, many, some)

  pub all_left : blocks_left tables next.walks ≤ blocks_left tables now.merge.walks → blocks_left tables next.walks ≤ blocks_left tables first.merge.walks
  all_left less = omega (arith, less, reads.left)

  pub all_spent : IsTrue tells → IsSoundLate first tables before.seen.held → after.seen.reads + blocks_left tables next.walks ≤ mid.seen.reads + blocks_left tables now.merge.walks
      → after.seen.reads + blocks_left tables next.walks ≤ before.seen.reads + blocks_left tables first.merge.walks
  all_spent t s less = let sofar = reads.spent t s.merge in omega (arith, less, sofar)

  pub all_tried : IsTrue tells → IsSoundLate first tables before.seen.held → after.seen.reads ≤ mid.seen.reads + blocks_left tables now.merge.walks
      → after.seen.reads ≤ before.seen.reads + blocks_left tables first.merge.walks
  all_tried t s less = let sofar = reads.spent t s.merge in omega (arith, less, sofar)

  pub all_counted : IsTrue tells → after.seen.reads + next_blocks now.merge.walks ≡ mid.seen.reads + next_blocks next.walks
      → after.seen.reads + next_blocks first.merge.walks ≡ before.seen.reads + next_blocks next.walks
  all_counted t now_so = let sofar = reads.counted t in omega (arith, now_so, sofar)

-- what holds anyway
pub ok_from : {T E : Type 0} (result : Result T E) (P : Type 0) → P → OnOk result P
ok_from (Ok value) P is = is
ok_from (Err why) P is = tt

pub some_from : (o : Option Entry) (P : Entry → Type 0) → ((e : Entry) → P e) → IfSome o P
some_from None P each = tt
some_from (Some e) P each = each e
