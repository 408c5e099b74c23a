-- The least row at hand is handed out, below the waking keys of all that sleep; or the next one wakes.
use Rattle.std.proofs.Common.{◌≡◌, ◌∙◌, ◌+◌, ◌≤◌, ℕ, List, ◌∷◌, map, refl, sym, ap, subst, Bool, true, false, arith}
use Rattle.std.specs.Prelude.{IfSome, IsTrue, Option, Some, None, is_some}
use Rattle.std.specs.List.{AllByRecursion}
use Rattle.std.proofs.lemmas.Bool.{false≢true}
use Rattle.disk_trait.specs.Image.{Image}
use Rattle.disk_trait.specs.World.{ReadMoves, World}
use Rattle.entry_model.specs.Entries.{Entry, IsEntry}
use Rattle.key_base.specs.ByteOrder.{IsBefore, is_before}
use Rattle.map_model.specs.SortedMap.{Bytes}
use Rattle.merge_rows.specs.CatchingUp.{AdvancesBefore, IsChosenBefore}
use Rattle.merge_rows.specs.Choosing.{IsHeadFrom, heads_of}
use Rattle.merge_rows.specs.Merges.{Merge, TableWalk, left_above, merged_left, rows_left, sources_above}
use Rattle.merge_rows.specs.Reads.{OnlyReads}
use Rattle.merge_rows.specs.Rows.{KeyFloor, merged_rows, rows_shown}
use Rattle.merge_rows.specs.Steps.{AreHeadsClear, AreSoundWalks, FloorRises, HandsOutRow, IsChosen, IsLeastRow, RowPasses, numbers, stands}
use Rattle.merge_rows.proofs.Keys.{before_from, not_before_itself}
use Rattle.merge_rows.proofs.Least.{least_from_low}
use Rattle.merge_rows.proofs.RowSteps.{chosen_least, chosen_passes}
use Rattle.merge_rows.proofs.Steps.{rises_same}
use Rattle.table_file.specs.Opened.{Opened}
use Rattle.table_file.specs.Walks.{first_of}
use Rattle.late_rows.proofs.Going.{left_same, sound_now}
use Rattle.late_rows.proofs.Least.{all_from, all_wider, late_row, late_sound, rows_from}
use Rattle.late_rows.specs.Going.{AwakeCaughtUp, GoesOn, ReadsOn}
use Rattle.late_rows.specs.Late.{AreStill, IsKeyFrom, IsNext, IsSoundLate, LateMerge, SleepWell, late_rows, waking_at, walk_in, wanted_awake}
use Rattle.late_rows.specs.Opening.{IsLateFault, IsLateStep, OpensLate, SleepAbove}

-- reads and nothing else, so many at most
pub reads_most : (n : ℕ) (a b : World) → OnlyReads a b → b.seen.reads ≤ a.seen.reads + n → ReadMoves n a b
reads_most n a b only most = record {
  held = only.1.held;
  reads = most;
  reads_later = only.1.reads_later;
  read_faults = only.1.read_faults;
  write_faults = only.1.write_faults;
  time = only.1.time;
  beside = only.1.beside;
}

-- tombstones are rows: the rows are all that is left
pub all_shown : (m : Merge) (tables : List Opened) (image : Image) → m.drops ≡ false → rows_left m tables image ≡ merged_left m tables image
all_shown m tables image keeps = ap (λ (d : Bool). rows_shown d (merged_left m tables image)) keeps

-- ---- keys of those that sleep

-- no sleeper's is below the next one's
pub keys_from : (asleep : List (Option Bytes)) (key : Bytes) → ((at : ℕ) → IsKeyFrom key (waking_at asleep at)) → (at : ℕ) (other : Bytes) → waking_at asleep at ≡ Some other → is_before other key ≡ false
keys_from asleep key from at other is = subst (IsKeyFrom key) is (from at)

module _ (tells : Bool) (tables : List Opened) (key : Bytes) (first old new : LateMerge) (before after : World) (goes : GoesOn tells tables first old before after)
    (asleep : new.asleep ≡ old.asleep) (nearest : (at : ℕ) → IsKeyFrom key (waking_at old.asleep at))
    (ready : IsTrue tells → AwakeCaughtUp first.merge.floor tables before.seen.held old.asleep old.merge.walks) (clear : AreHeadsClear old.merge.floor old.merge.walks)
    (still : AreStill old.asleep old.merge.walks) (steps : AdvancesBefore key old.merge new.merge true) where
  abbrev image : Image
  image = before.seen.held

  -- what was chosen
  pub record Chosen (row : Entry) : Type 0 where
    pub is : new.merge.now ≡ Some row
    pub below : IsBefore row.key key
    pub chosen : IsChosen (heads_of new.merge.memory old.merge.walks) (Some row) old.merge.floor new.merge.floor

  of_chosen : (now : Option Entry) → new.merge.now ≡ now → IsChosenBefore key (heads_of new.merge.memory old.merge.walks) now old.merge.floor new.merge.floor true → (row : Entry) × Chosen row
  of_chosen None is chosen = absurd (false≢true (sym chosen.0))
  of_chosen (Some row) is chosen = (row, record { is = is; below = chosen.1; chosen = chosen.2 })

  pub the_row : (row : Entry) × Chosen row
  the_row = of_chosen new.merge.now refl steps.chosen

  abbrev row : Entry
  row = the_row.0

  abbrev its : Chosen row
  its = the_row.1

  pub some_row : is_some new.merge.now ≡ true
  some_row = ap (λ (o : Option Entry). is_some o) its.is

  pub entry_row : IfSome new.merge.now IsEntry
  entry_row = subst (λ (o : Option Entry). IfSome o IsEntry) (sym its.is) its.chosen.1

  passes : RowPasses (Some row) old.merge.floor new.merge.floor
  passes = chosen_passes old.merge.floor new.merge.floor new.merge.memory old.merge.walks (Some row) its.chosen steps.memory.caught_up clear

  -- each sleeper's key is above the row
  behind : (at : ℕ) (other : Bytes) → waking_at old.asleep at ≡ Some other → IsBefore row.key other
  behind at other is = before_from row.key key other its.below (keys_from old.asleep key nearest at other is)

  pub sleeps_above : IfSome new.merge.now (λ (e : Entry). SleepAbove e.key new.asleep)
  sleeps_above = subst (λ (o : Option Entry). IfSome o (λ (e : Entry). SleepAbove e.key new.asleep)) (sym its.is)
      (λ at other is. behind at other (ap (λ (os : List (Option Bytes)). waking_at os at) (sym asleep) ∙ is))

  pub least_row : IsLeastRow new.merge
  least_row = subst (λ (o : Option Entry). IfSome o (λ (e : Entry). AllByRecursion (λ (w : TableWalk). IsHeadFrom e.key w.walk.now) new.merge.walks)) (sym its.is)
      (subst (AllByRecursion (λ (w : TableWalk). IsHeadFrom row.key w.walk.now)) (sym steps.walks)
      (chosen_least old.merge.floor new.merge.floor new.merge.memory old.merge.walks (Some row) its.chosen))

  ready_old : IsTrue tells → AwakeCaughtUp old.merge.floor tables image old.asleep old.merge.walks
  ready_old t = subst (λ (f : KeyFloor). AwakeCaughtUp f tables image old.asleep old.merge.walks) (sym goes.floor) (ready t)

  heads_from : AllByRecursion (IsHeadFrom row.key) (heads_of new.merge.memory old.merge.walks)
  heads_from = least_from_low row.key (heads_of new.merge.memory old.merge.walks) its.chosen.0.0 row (not_before_itself row.key) its.chosen.0.1

  rows : IsTrue tells → IsSoundLate first tables image → merged_left first.merge tables image ≡ row ∷ merged_left new.merge tables image
  rows t s =
      let now = sound_now tells tables first old before after goes t s in
      sym (left_same tells tables first old before after goes t)
      ∙ ap (λ (es : List Entry). merged_rows (es ∷ map (left_above old.merge.floor tables image) old.merge.walks)) (sym steps.memory.same)
      ∙ late_row tables image old.merge.floor new.merge.memory old.merge.walks (steps.memory.rises now.merge.memory) now.merge.walks new.merge.floor its.chosen.0.0 row its.chosen.0.1
      (all_wider tables image old.merge.floor row.key old.asleep old.merge.walks (ready_old t) still behind now.asleep) passes.0 passes.1
      ∙ ap (λ (ws : List TableWalk). row ∷ merged_rows (sources_above new.merge.floor tables image new.merge.memory ws)) (sym steps.walks)

  pub hands_out : first.merge.drops ≡ false → IsLateStep tells tables image first new
  hands_out keeps = record {
    rows = λ t s. subst (λ (o : Option Entry). HandsOutRow o (late_rows first tables image) (late_rows new tables image)) (sym its.is)
        (all_shown first.merge tables image keeps ∙ rows t s ∙ ap (λ (l : List Entry). row ∷ l) (sym (all_shown new.merge tables image (steps.drops ∙ goes.drops ∙ keeps))));
    passes = subst (λ (o : Option Entry). RowPasses o first.merge.floor new.merge.floor) (sym its.is) (subst (λ (f : KeyFloor). RowPasses (Some row) f new.merge.floor) goes.floor passes);
  }

  sound_new : IsTrue tells → IsSoundLate first tables image → IsSoundLate new tables image
  sound_new t s =
      let now = sound_now tells tables first old before after goes t s in
      record {
        merge = record {
          memory = steps.memory.rises now.merge.memory;
          walks = subst (AreSoundWalks new.merge.floor tables image) (sym steps.walks)
              (subst (λ (f : KeyFloor). AreSoundWalks f tables image old.merge.walks) (sym passes.1)
              (late_sound tables image old.merge.floor row.key old.asleep old.merge.walks (ready_old t) still behind now.asleep heads_from.1 now.merge.walks));
        };
        asleep = subst (λ (os : List (Option Bytes)). SleepWell tables image os new.merge.walks) (sym asleep) (subst (SleepWell tables image old.asleep) (sym steps.walks) now.asleep);
      }

  pub opens_late : first.merge.drops ≡ false → OpensLate tells tables image first new
  opens_late keeps = record {
    numbers_are = ap numbers steps.walks ∙ goes.numbers_are;
    stands_are = ap stands steps.walks ∙ goes.stands_are;
    drops_are = steps.drops ∙ goes.drops;
    sleep_on = λ at other is.
        let on = goes.sleep_on at other (ap (λ (os : List (Option Bytes)). waking_at os at) (sym asleep) ∙ is) in
        (on.0, ap (λ (ws : List TableWalk). walk_in ws at) steps.walks ∙ on.1);
    wake_late = λ t s at other is none.
        subst (λ (l : List Entry). IsHeadFrom other (first_of l)) (sym (all_shown first.merge tables image keeps))
        (goes.wake_late t s at other is (ap (λ (os : List (Option Bytes)). waking_at os at) (sym asleep) ∙ none));
    sound = sound_new;
  }

-- ---- or none at hand is below the next key: then no row is, and who has it wakes

module _ (tells : Bool) (tables : List Opened) (key : Bytes) (first old new : LateMerge) (before after : World) (goes : GoesOn tells tables first old before after)
    (nearest : (at : ℕ) → IsKeyFrom key (waking_at old.asleep at))
    (ready : IsTrue tells → AwakeCaughtUp first.merge.floor tables before.seen.held old.asleep old.merge.walks)
    (steps : AdvancesBefore key old.merge new.merge false) where
  pub record NoneBefore : Type 0 where
    pub none : new.merge.now ≡ None
    pub floor : new.merge.floor ≡ old.merge.floor
    pub from : AllByRecursion (IsHeadFrom key) (heads_of new.merge.memory old.merge.walks)

  of_none : (now : Option Entry) → new.merge.now ≡ now → IsChosenBefore key (heads_of new.merge.memory old.merge.walks) now old.merge.floor new.merge.floor false → NoneBefore
  of_none None is chosen = record { none = is; floor = chosen.1; from = chosen.2 }
  of_none (Some e) is chosen = absurd (false≢true chosen.0)

  pub none_before : NoneBefore
  none_before = of_none new.merge.now refl steps.chosen

  pub none_below : IsTrue tells → IsSoundLate first tables before.seen.held → IsHeadFrom key (first_of (merged_left first.merge tables before.seen.held))
  none_below t s =
      let now = sound_now tells tables first old before after goes t s in
      let caught = subst (λ (f : KeyFloor). AwakeCaughtUp f tables before.seen.held old.asleep old.merge.walks) (sym goes.floor) (ready t) in
      subst (λ (l : List Entry). IsHeadFrom key (first_of l))
      (ap (λ (es : List Entry). merged_rows (es ∷ map (left_above old.merge.floor tables before.seen.held) old.merge.walks)) steps.memory.same ∙ left_same tells tables first old before after goes t)
      (rows_from tables before.seen.held old.merge.floor new.merge.memory old.merge.walks (steps.memory.rises now.merge.memory) now.merge.walks key
      (none_before.from.0, all_from tables before.seen.held old.merge.floor key old.asleep old.merge.walks caught (keys_from old.asleep key nearest) now.asleep none_before.from.1))

-- ---- on the way

module _ (tells : Bool) (tables : List Opened) (first now : LateMerge) (before after : World) (goes : GoesOn tells tables first now before after) (keeps : first.merge.drops ≡ false) where
  pub goes_opens : OpensLate tells tables before.seen.held first now
  goes_opens = record {
    numbers_are = goes.numbers_are;
    stands_are = goes.stands_are;
    drops_are = goes.drops;
    sleep_on = goes.sleep_on;
    wake_late = λ t s at key is none. subst (λ (l : List Entry). IsHeadFrom key (first_of l)) (sym (all_shown first.merge tables before.seen.held keeps)) (goes.wake_late t s at key is none);
    sound = sound_now tells tables first now before after goes;
  }

  pub goes_stays : now.merge.now ≡ None → IsLateFault tells tables before.seen.held first now
  goes_stays none = record {
    rows = λ t s. all_shown now.merge tables before.seen.held (goes.drops ∙ keeps) ∙ left_same tells tables first now before after goes t ∙ sym (all_shown first.merge tables before.seen.held keeps);
    rises = subst (FloorRises first.merge.floor) (sym goes.floor) (rises_same first.merge.floor);
    none = none;
  }

  -- no more is read than is wanted of those who are awake
  pub goes_bounded : IsTrue tells → IsSoundLate first tables before.seen.held → ReadsOn tells tables first now before after
      → ReadMoves (wanted_awake first.merge.floor tables now.asleep first.merge.walks) before after
  goes_bounded t s reads = reads_most (wanted_awake first.merge.floor tables now.asleep first.merge.walks) before after goes.moves (let most = reads.bounded t s.merge in omega (arith, most))

-- ---- who wakes next

-- the key of the one that was found, where the same sleep
pub next_of_some : (from old : List (Option Bytes)) (found : Option ℕ) (next : ℕ) → found ≡ Some next → IsNext from found → old ≡ from
    → (key : Bytes) × (waking_at old next ≡ Some key) × ((at : ℕ) → IsKeyFrom key (waking_at old at))
next_of_some from old found next is nearest same =
    let here = subst (IsNext from) is nearest in (
      here.0,
      ap (λ (os : List (Option Bytes)). waking_at os next) same ∙ here.1,
      λ at. subst (λ (os : List (Option Bytes)). IsKeyFrom here.0 (waking_at os at)) (sym same) (here.2 at),
    )

-- who caught up at the same floor, in the same image
pub ready_since : (tells : Bool) (tables : List Opened) (first from old : LateMerge) (before mid : World) → GoesOn tells tables first from before mid
    → AwakeCaughtUp from.merge.floor tables mid.seen.held old.asleep old.merge.walks → AwakeCaughtUp first.merge.floor tables before.seen.held old.asleep old.merge.walks
ready_since tells tables first from old before mid goes ready =
    subst (λ (h : Image). AwakeCaughtUp first.merge.floor tables h old.asleep old.merge.walks) goes.moves.1.held
    (subst (λ (f : KeyFloor). AwakeCaughtUp f tables mid.seen.held old.asleep old.merge.walks) goes.floor ready)
