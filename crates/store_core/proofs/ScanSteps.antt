-- A step of a scan: tombstones are passed over on the way to the next pair.
use Rattle.std.proofs.Common.{◌≡◌, ◌∙◌, ◌≤◌, ◌+◌, ◌-◌, ℕ, zero, suc, Bool, true, false, cond, not, ◌&&◌, List, [], ◌∷◌, drop, take, refl, sym, ap, subst, arith}
use Rattle.std.specs.Prelude.{IfSome, IsTrue, Option, Some, None, is_some}
use Rattle.std.specs.Ordering.{is_lt}
use Rattle.std.specs.declared.cmp.Ordering.TheVariants.{Less}
use Rattle.std.proofs.lemmas.Bool.{eqb-true, false≢true}
use Rattle.disk_trait.specs.Image.{Image}
use Rattle.entry_model.specs.Entries.{Entry}
use Rattle.entry_model.specs.Newest.{KeysRise}
use Rattle.filter_api.specs.Spellings.{Spelling}
use Rattle.key_base.specs.ByteOrder.{byte_order, is_before}
use Rattle.late_rows.proofs.Least.{from_then}
use Rattle.late_rows.specs.Going.{IsLatePaced}
use Rattle.late_rows.specs.Late.{IsSoundLate, LateMerge, late_rows, waking_at, wanted_awake}
use Rattle.late_rows.specs.Opening.{IsLateFault, IsLateStep, OpensLate, SleepAbove}
use Rattle.map_model.specs.Slices.{first_pair, is_up_to}
use Rattle.map_model.specs.SortedMap.{Bytes, Map}
use Rattle.merge_rows.proofs.Keys.{not_before_back}
use Rattle.merge_rows.specs.Choosing.{IsHeadFrom}
use Rattle.merge_rows.specs.Merges.{Merge, merged_left, rows_left, sources_above}
use Rattle.merge_rows.specs.Reads.{blocks_left}
use Rattle.merge_rows.specs.RowLaws.{MergedLaws}
use Rattle.merge_rows.specs.Rows.{rows_shown}
use Rattle.merge_rows.specs.Steps.{HandsOutRow, IsLeastRow, RowPasses}
use Rattle.state_model.specs.Bounds.{is_passed}
use Rattle.store_core.proofs.ScanPairs.{ArePairsAbove, pairs_above}
use Rattle.store_core.proofs.ScanReads.{paid, wanted_owed}
use Rattle.store_core.specs.Scans.{AreUpTo, ScanWalk, StillComes, WakesLate, all_owed, at_most, blocks_of_step, blocks_on_way, given, is_ended, is_on_the_way, late_of, left_behind, looks_up_to, pair_at, pair_in, pair_of, pairs_up_to, step_bound, wakes_up_to, with_first, before_pairs}
use Rattle.table_file.specs.Opened.{Opened}
use Rattle.table_file.specs.Walks.{first_of}

-- ---- the pairs of rows, by the first row

pub at_tombstone : (high : Option Bytes) (row : Entry) (rows later : List Entry) → rows ≡ row ∷ later → is_up_to high row.key ≡ true → row.value ≡ None → pairs_up_to high rows ≡ pairs_up_to high later
at_tombstone high row rows later is up none =
    ap (pairs_up_to high) is
    ∙ ap (λ (b : Bool). cond b (before_pairs row.key row.value (pairs_up_to high later)) []) up
    ∙ ap (λ (v : Option Bytes). before_pairs row.key v (pairs_up_to high later)) none

pub at_pair : (high : Option Bytes) (row : Entry) (value : Bytes) (rows later : List Entry) → rows ≡ row ∷ later → is_up_to high row.key ≡ true → row.value ≡ Some value
    → pairs_up_to high rows ≡ (row.key, value) ∷ pairs_up_to high later
at_pair high row value rows later is up some =
    ap (pairs_up_to high) is
    ∙ ap (λ (b : Bool). cond b (before_pairs row.key row.value (pairs_up_to high later)) []) up
    ∙ ap (λ (v : Option Bytes). before_pairs row.key v (pairs_up_to high later)) some

pub at_end : (high : Option Bytes) (row : Entry) (rows later : List Entry) → rows ≡ row ∷ later → is_up_to high row.key ≡ false → pairs_up_to high rows ≡ []
at_end high row rows later is above = ap (pairs_up_to high) is ∙ ap (λ (b : Bool). cond b (before_pairs row.key row.value (pairs_up_to high later)) []) above

-- before the pairs after a row comes its key
before_first : (key : Bytes) (pairs : Map) → ArePairsAbove key pairs → is_passed (first_pair pairs) key ≡ true
before_first key [] above = refl
before_first key (pair ∷ later) above = ap is_lt above.0

rows_rise : MergedLaws → (m : Merge) (tables : List Opened) (image : Image) → m.drops ≡ false → KeysRise (rows_left m tables image)
rows_rise laws m tables image keeps = subst KeysRise (sym (ap (λ (b : Bool). rows_shown b (merged_left m tables image)) keeps)) (laws.rises (sources_above m.floor tables image m.memory m.walks))

-- ---- who wakes on the way

-- of the first row, or of a later one: its key is up to that of the first pair, or up to the upper bound where there is none
looks_from : MergedLaws → (high : Option Bytes) (rows : List Entry) (key : Bytes) → KeysRise rows → is_up_to high key ≡ true → IsHeadFrom key (first_of rows)
    → is_up_to (looks_up_to high (pairs_up_to high rows)) key ≡ true
looks_from laws high [] key rise up from = up
looks_from laws high (row ∷ later) key rise up from = elim (is_up_to high row.key) as (λ b. is_up_to (looks_up_to high (cond b (before_pairs row.key row.value (pairs_up_to high later)) [])) key ≡ true) [
  | true ↦ by_value row.value
  | false ↦ up
]
  where
    later_pair : (pairs : Map) → ArePairsAbove row.key pairs → is_up_to (looks_up_to high pairs) key ≡ true
    later_pair [] above = up
    later_pair (pair ∷ more) above = ap not (is_after pair.0 above.0)
      where
        is_after : (other : Bytes) → byte_order row.key other ≡ Less → is_before other key ≡ false
        is_after other less = from_then key row.key other from (not_before_back row.key other less)

    by_value : (value : Option Bytes) → is_up_to (looks_up_to high (before_pairs row.key value (pairs_up_to high later))) key ≡ true
    by_value None = later_pair (pairs_up_to high later) (pairs_above high row.key later rise.0)
    by_value (Some value) = ap not from

-- where no step was made
pub late_same : (tells : Bool) (tables : List Opened) (image : Image) (high : Option Bytes) (l : LateMerge) → WakesLate tells tables image high l l
late_same tells tables image high l = record {
  numbers_are = refl;
  stands_are = refl;
  drops_are = refl;
  sleep_on = λ at key is. (is, refl);
  woken = λ _ _ at none. ap (wakes_up_to (looks_up_to high (pairs_up_to high (late_rows l tables image)))) none;
  sound = λ _ sound. sound;
}

-- ---- so far on the way

-- No pair is lost, what was read is owed no more, and a given number of blocks fewer are left.
pub record IsUnderWay (tells : Bool) (image : Image) (tables : List Opened) (high : Option Bytes) (old now : LateMerge) (before after : ℕ) : Type 0 where
  pub late : WakesLate tells tables image high old now
  pub pairs : IsTrue tells → IsSoundLate old tables image → pairs_up_to high (late_rows now tables image) ≡ pairs_up_to high (late_rows old tables image)
  pub owed : IsTrue tells → IsSoundLate old tables image
      → after + all_owed (is_on_the_way high (pairs_up_to high (late_rows old tables image))) (looks_up_to high (pairs_up_to high (late_rows old tables image))) now tables image
      ≤ before + blocks_on_way high old tables image
  pub spent : IsTrue tells → IsSoundLate old tables image → after + blocks_left tables now.merge.walks ≤ before + blocks_left tables old.merge.walks

module _ (laws : MergedLaws) (tells : Bool) (image : Image) (tables : List Opened) (high : Option Bytes) (old : LateMerge) (keeps : old.merge.drops ≡ false) (up_to : AreUpTo high old.asleep) (before : ℕ) where
  abbrev pairs_of : LateMerge → Map
  pairs_of l = pairs_up_to high (late_rows l tables image)

  abbrev looks : Option Bytes
  looks = looks_up_to high (pairs_of old)

  pub set_out : IsUnderWay tells image tables high old old before before
  set_out = record {
    late = late_same tells tables image high old;
    pairs = λ _ _. refl;
    owed = λ _ _. omega arith;
    spent = λ _ _. omega arith;
  }

  module _ (mid : LateMerge) (reads : ℕ) (way : IsUnderWay tells image tables high old mid before reads) (next : LateMerge) (opens : OpensLate tells tables image mid next) where
    mid_keeps : mid.merge.drops ≡ false
    mid_keeps = way.late.drops_are ∙ keeps

    -- who is awake after the step was so, or wakes on the way
    woken_mid : IsTrue tells → IsSoundLate old tables image → (at : ℕ) → waking_at next.asleep at ≡ None → wakes_up_to looks (waking_at mid.asleep at) ≡ true
    woken_mid so sound at none = by_key (waking_at mid.asleep at) refl
      where
        by_key : (o : Option Bytes) → waking_at mid.asleep at ≡ o → wakes_up_to looks o ≡ true
        by_key None is = refl
        by_key (Some key) is =
            ap (λ (p : Map). is_up_to (looks_up_to high p) key) (sym (way.pairs so sound))
            ∙ looks_from laws high (late_rows mid tables image) key (rows_rise laws mid.merge tables image mid_keeps) (up_to at key (way.late.sleep_on at key is).0)
            (opens.wake_late so (way.late.sound so sound) at key is none)

    woken_old : IsTrue tells → IsSoundLate old tables image → (at : ℕ) → waking_at next.asleep at ≡ None → wakes_up_to looks (waking_at old.asleep at) ≡ true
    woken_old so sound at none = by_key (waking_at mid.asleep at) refl
      where
        by_key : (o : Option Bytes) → waking_at mid.asleep at ≡ o → wakes_up_to looks (waking_at old.asleep at) ≡ true
        by_key None is = way.late.woken so sound at is
        by_key (Some key) is = ap (wakes_up_to looks) ((way.late.sleep_on at key is).0 ∙ sym is) ∙ woken_mid so sound at none

    pub late_on : WakesLate tells tables image high old next
    late_on = record {
      numbers_are = opens.numbers_are ∙ way.late.numbers_are;
      stands_are = opens.stands_are ∙ way.late.stands_are;
      drops_are = opens.drops_are ∙ way.late.drops_are;
      sleep_on = λ at key is. let here = opens.sleep_on at key is in let first = way.late.sleep_on at key here.0 in (first.0, here.1 ∙ first.1);
      woken = woken_old;
      sound = λ so sound. opens.sound so (way.late.sound so sound);
    }

    -- ---- a fault on the way: no pair is lost

    pub still_pairs : IsLateFault tells tables image mid next → IsTrue tells → IsSoundLate old tables image → pairs_of next ≡ pairs_of old
    still_pairs fault so sound = ap (pairs_up_to high) (fault.rows so (way.late.sound so sound)) ∙ way.pairs so sound

    -- a step that reads no more than a given number of blocks fewer are left does so from the first one on
    pub all_spent : (after : ℕ) → (IsTrue tells → IsSoundLate mid tables image → after + blocks_left tables next.merge.walks ≤ reads + blocks_left tables mid.merge.walks) → IsTrue tells → IsSoundLate old tables image
        → after + blocks_left tables next.merge.walks ≤ before + blocks_left tables old.merge.walks
    all_spent after spends so sound = omega (arith, spends so (way.late.sound so sound), way.spent so sound)

    -- one that fails reads no more than are left
    pub all_tried : (after : ℕ) → (IsTrue tells → IsSoundLate mid tables image → after ≤ reads + blocks_left tables mid.merge.walks) → IsTrue tells → IsSoundLate old tables image
        → after ≤ before + blocks_left tables old.merge.walks
    all_tried after tries so sound = omega (arith, tries so (way.late.sound so sound), way.spent so sound)

    wanted_way : IsTrue tells → IsSoundLate old tables image → wanted_awake mid.merge.floor tables next.asleep mid.merge.walks ≤ all_owed (is_on_the_way high (pairs_of old)) looks mid tables image
    wanted_way so sound = wanted_owed (is_on_the_way high (pairs_of old)) tables image looks mid next.asleep (woken_mid so sound)

    -- and only what is owed
    pub all_owing : before ≤ reads → (IsTrue tells → IsSoundLate mid tables image → 1 ≤ wanted_awake mid.merge.floor tables next.asleep mid.merge.walks) → IsTrue tells → IsSoundLate old tables image
        → 1 ≤ blocks_on_way high old tables image
    all_owing later wants so sound = omega (arith, later, wants so (way.late.sound so sound), wanted_way so sound, way.owed so sound)

    module _ (after : ℕ) (bounded : IsTrue tells → IsSoundLate mid tables image → after ≤ reads + wanted_awake mid.merge.floor tables next.asleep mid.merge.walks) where
      -- whatever came, no more was read than is owed
      pub all_bounded : IsTrue tells → IsSoundLate old tables image → after ≤ before + blocks_on_way high old tables image
      all_bounded so sound = omega (arith, bounded so (way.late.sound so sound), wanted_way so sound, way.owed so sound)

      module _ (step : IsLateStep tells tables image mid next) (paced : IsTrue tells → IsLatePaced tables image mid next) (least : IsLeastRow next.merge)
          (above : IfSome next.merge.now (λ row. SleepAbove row.key next.asleep)) where
        -- the row that came to hand is the first of those to come
        rows_are : (row : Entry) → next.merge.now ≡ Some row → IsTrue tells → IsSoundLate old tables image → late_rows mid tables image ≡ row ∷ late_rows next tables image
        rows_are row now so sound =
            subst (λ (o : Option Entry). HandsOutRow o (late_rows mid tables image) (late_rows next tables image)) now (step.rows so (way.late.sound so sound))

        -- a tombstone is on the way
        on_the_way : (row : Entry) → next.merge.now ≡ Some row → is_up_to high row.key ≡ true → row.value ≡ None → IsTrue tells → IsSoundLate old tables image
            → is_on_the_way high (pairs_of old) row.key ≡ true
        on_the_way row now up none so sound =
            let rows = rows_are row now so sound in
            let pairs = sym (way.pairs so sound) ∙ at_tombstone high row (late_rows mid tables image) (late_rows next tables image) rows up none in
            let rise = subst KeysRise rows (rows_rise laws mid.merge tables image mid_keeps) in
            let passed = before_first row.key (pairs_of next) (pairs_above high row.key (late_rows next tables image) rise.0) in
            ap (λ (b : Bool). b && is_passed (first_pair (pairs_of old)) row.key) up ∙ ap (λ (p : Map). is_passed (first_pair p) row.key) pairs ∙ passed

        on_owed : (row : Entry) → next.merge.now ≡ Some row → is_up_to high row.key ≡ true → row.value ≡ None → IsTrue tells → IsSoundLate old tables image
            → after + all_owed (is_on_the_way high (pairs_of old)) looks next tables image ≤ before + blocks_on_way high old tables image
        on_owed row now up none so sound =
            let mid_sound = way.late.sound so sound in
            let passes = subst (λ (o : Option Entry). RowPasses o mid.merge.floor next.merge.floor) now step.passes in
            let sleeps = subst (λ (o : Option Entry). IfSome o (λ r. SleepAbove r.key next.asleep)) now above in
            let less =
            paid (is_on_the_way high (pairs_of old)) tables image looks mid next row (paced so) least (opens.sound so mid_sound) opens.sleep_on sleeps now passes.0 passes.1 (on_the_way row now up none so sound)
            (woken_mid so sound) in
            omega (arith, less, bounded so mid_sound, way.owed so sound)

        pub one_on : (row : Entry) → next.merge.now ≡ Some row → is_up_to high row.key ≡ true → row.value ≡ None
            → (IsTrue tells → IsSoundLate mid tables image → after + blocks_left tables next.merge.walks ≤ reads + blocks_left tables mid.merge.walks) → IsUnderWay tells image tables high old next before after
        one_on row some up none spends = record {
          late = late_on;
          pairs = λ so sound. sym (at_tombstone high row (late_rows mid tables image) (late_rows next tables image) (rows_are row some so sound) up none) ∙ way.pairs so sound;
          owed = on_owed row some up none;
          spent = all_spent after spends;
        }

        -- ---- what comes of the pairs

        pub pair_given : (row : Entry) → next.merge.now ≡ Some row → is_up_to high row.key ≡ true → is_some row.value ≡ true → IsTrue tells → IsSoundLate old tables image
            → pairs_of old ≡ given true next.merge.now (pairs_of next)
        pair_given row some up has so sound = by_value row.value refl has
          where
            by_value : (value : Option Bytes) → row.value ≡ value → is_some value ≡ true → pairs_of old ≡ given true next.merge.now (pairs_of next)
            by_value None is has = absurd (false≢true has)
            by_value (Some value) is has =
                sym (way.pairs so sound) ∙ at_pair high row value (late_rows mid tables image) (late_rows next tables image) (rows_are row some so sound) up is
                ∙ sym (ap (λ (o : Option Entry). given true o (pairs_of next)) some ∙ ap (λ (v : Option Bytes). with_first (pair_of row.key v) (pairs_of next)) is)

        pub none_left : next.merge.now ≡ None → IsTrue tells → IsSoundLate old tables image → pairs_of old ≡ []
        none_left none so sound =
            let rows = subst (λ (o : Option Entry). HandsOutRow o (late_rows mid tables image) (late_rows next tables image)) none (step.rows so (way.late.sound so sound)) in
            sym (way.pairs so sound) ∙ ap (pairs_up_to high) rows.0

        pub none_below : (row : Entry) → next.merge.now ≡ Some row → is_up_to high row.key ≡ false → IsTrue tells → IsSoundLate old tables image → pairs_of old ≡ []
        none_below row some above so sound =
            sym (way.pairs so sound) ∙ at_end high row (late_rows mid tables image) (late_rows next tables image) (rows_are row some so sound) above

-- ---- of a scan

module _ (tells : Bool) (so : IsTrue tells) (spelling : Spelling) (image : Image) (old : ScanWalk) (m : Map) (shows : StillComes spelling old m image) where
  abbrev pairs_in : LateMerge → Map
  pairs_in l = pairs_up_to old.high (late_rows l old.tables image)

  -- where nothing more is wanted, no pair is left
  pub shows_ended : (now : ScanWalk) → now ≡ record old { now = None } → is_ended old.left ≡ true → (now.now ≡ first_pair m) × StillComes spelling now (drop 1 m) image
  shows_ended now is ended =
      let none = sym shows.pairs_are ∙ none_of old.left ended (pairs_in (late_of old)) in
      subst (λ (w : ScanWalk). (w.now ≡ first_pair m) × StillComes spelling w (drop 1 m) image) (sym is)
      (sym (ap first_pair none), record { states = shows.states; held = shows.held; sound = shows.sound; pairs_are = none_of old.left ended (pairs_in (late_of old)) ∙ sym (ap (drop 1) none) })
    where
      none_of : (left : Option ℕ) → is_ended left ≡ true → (pairs : Map) → at_most left pairs ≡ []
      none_of None ended pairs = absurd (false≢true ended)
      none_of (Some zero) ended pairs = refl
      none_of (Some (suc n)) ended pairs = absurd (omega (arith, eqb-true (suc n) 0 ended))

  -- at a fault they are still to come
  pub shows_still : (next : LateMerge) (now : ScanWalk) → WakesLate tells old.tables image old.high (late_of old) next → pairs_in next ≡ pairs_in (late_of old) → now ≡ record old { merge = next.merge; asleep = next.asleep; now = None } → StillComes spelling now m image
  shows_still next now kept same is = subst (λ (w : ScanWalk). StillComes spelling w m image) (sym is) (record {
    states = shows.states;
    held = shows.held;
    sound = kept.sound so shows.sound;
    pairs_are = ap (at_most old.left) same ∙ shows.pairs_are;
  })

  -- a pair is given, or none is left
  pub shows_on : (next : LateMerge) (now : ScanWalk) (found : Bool) (left : Option ℕ) → left ≡ left_behind found old.left → WakesLate tells old.tables image old.high (late_of old) next → is_ended old.left ≡ false → (found ≡ true → is_some (pair_in next.merge.now) ≡ true)
      → pairs_in (late_of old) ≡ given found next.merge.now (pairs_in next) → now ≡ record old { merge = next.merge; asleep = next.asleep; left = left; now = pair_at found next.merge.now }
      → (now.now ≡ first_pair m) × StillComes spelling now (drop 1 m) image
  shows_on next now found left left_is kept going some same is = subst (λ (w : ScanWalk). (w.now ≡ first_pair m) × StillComes spelling w (drop 1 m) image) (sym is) (
    first_of old.left going found (pair_in next.merge.now) refl (pairs_in next) some ∙ ap first_pair whole,
    record {
      states = shows.states;
      held = shows.held;
      sound = kept.sound so shows.sound;
      pairs_are = ap (λ (l : Option ℕ). at_most l (pairs_in next)) left_is ∙ sym (rest_of old.left going found (pair_in next.merge.now) refl (pairs_in next) some) ∙ ap (drop 1) whole;
    },
  )
    where
      whole : at_most old.left (given found next.merge.now (pairs_in next)) ≡ m
      whole = ap (at_most old.left) (sym same) ∙ shows.pairs_are

      none_most : (left : Option ℕ) → at_most left [] ≡ []
      none_most None = refl
      none_most (Some zero) = refl
      none_most (Some (suc n)) = refl

      first_of : (left : Option ℕ) → is_ended left ≡ false → (found : Bool) (pair : Option (Bytes × Bytes)) → pair_in next.merge.now ≡ pair → (later : Map) → (found ≡ true → is_some (pair_in next.merge.now) ≡ true)
          → pair_at found next.merge.now ≡ first_pair (at_most left (given found next.merge.now later))
      first_of left going false pair at later some = sym (ap first_pair (none_most left))
      first_of left going true None at later some = absurd (false≢true (sym (ap is_some at) ∙ some refl))
      first_of None going true (Some pair) at later some = at ∙ sym (ap (λ (o : Option (Bytes × Bytes)). first_pair (with_first o later)) at)
      first_of (Some zero) going true (Some pair) at later some = absurd (false≢true (sym going))
      first_of (Some (suc n)) going true (Some pair) at later some = at ∙ sym (ap (λ (o : Option (Bytes × Bytes)). first_pair (take (suc n) (with_first o later))) at)

      rest_of : (left : Option ℕ) → is_ended left ≡ false → (found : Bool) (pair : Option (Bytes × Bytes)) → pair_in next.merge.now ≡ pair → (later : Map) → (found ≡ true → is_some (pair_in next.merge.now) ≡ true)
          → drop 1 (at_most left (given found next.merge.now later)) ≡ at_most (left_behind found left) later
      rest_of left going false pair at later some = ap (drop 1) (none_most left)
      rest_of left going true None at later some = absurd (false≢true (sym (ap is_some at) ∙ some refl))
      rest_of None going true (Some pair) at later some = ap (λ (o : Option (Bytes × Bytes)). drop 1 (with_first o later)) at
      rest_of (Some zero) going true (Some pair) at later some = absurd (false≢true (sym going))
      rest_of (Some (suc n)) going true (Some pair) at later some =
          let less : n ≡ suc n - 1 = omega arith in
          ap (λ (o : Option (Bytes × Bytes)). drop 1 (take (suc n) (with_first o later))) at ∙ ap (λ (k : ℕ). take k later) less

  bound_is : (left : Option ℕ) → is_ended left ≡ false → (n : ℕ) → blocks_of_step left n ≡ n
  bound_is None going n = refl
  bound_is (Some zero) going n = absurd (false≢true (sym going))
  bound_is (Some (suc m)) going n = refl

  pub shows_bounded : (before after : ℕ) → is_ended old.left ≡ false → after ≤ before + blocks_on_way old.high (late_of old) old.tables image → after ≤ before + step_bound old image
  shows_bounded before after going le = omega (arith, le, bound_is old.left going (blocks_on_way old.high (late_of old) old.tables image))

  pub shows_owing : is_ended old.left ≡ false → 1 ≤ blocks_on_way old.high (late_of old) old.tables image → 1 ≤ step_bound old image
  shows_owing going some = omega (arith, some, bound_is old.left going (blocks_on_way old.high (late_of old) old.tables image))
