-- The heart: walks that sleep, of which all that is left is above the least entry at hand, change neither that row nor what is left.
use Rattle.std.proofs.Common.{◌≡◌, ◌∙◌, ◌⊎◌, ℕ, zero, suc, List, [], ◌∷◌, map, refl, sym, ap, subst, Bool, true, false, cond, inl, inr, arith}
use Rattle.std.specs.Prelude.{Option, Some, None}
use Rattle.std.specs.List.{AllByRecursion}
use Rattle.std.specs.Option.{option_or}
use Rattle.std.proofs.lemmas.Bool.{cases_Bool, false≢true}
use Rattle.disk_trait.specs.Image.{Image}
use Rattle.entry_model.specs.Entries.{Entry}
use Rattle.entry_model.specs.Newest.{ComesBehind, KeysRise, lookup}
use Rattle.entry_model.proofs.Newest.{above_lower}
use Rattle.key_base.specs.ByteOrder.{IsBefore, is_before}
use Rattle.map_model.specs.SortedMap.{Bytes}
use Rattle.map_model.proofs.Maps.{same_key}
use Rattle.merge_rows.specs.Choosing.{IsHeadAbove, IsHeadFrom, IsLeastAt, heads_of}
use Rattle.merge_rows.specs.Merges.{TableWalk, blocks_in, numbered, sources_above, walk_left, with_hand}
use Rattle.merge_rows.specs.Rows.{KeyFloor, clears, merged_rows}
use Rattle.merge_rows.specs.Steps.{AreSoundWalks, IsSoundWalk, passed_at}
use Rattle.merge_rows.proofs.Keys.{at_or_after, before_from, before_of, before_then, is_before_of, newest_above, not_before_itself}
use Rattle.merge_rows.proofs.Merged.{AllRise, cut, first_row, merged_says, said_by, said_cut, said_kept}
use Rattle.merge_rows.proofs.RowSteps.{sources_cut}
use Rattle.merge_rows.proofs.Steps.{caught_first, sound_passed}
use Rattle.table_file.specs.Opened.{Opened}
use Rattle.table_file.specs.Walks.{first_of, to_come}
use Rattle.late_rows.proofs.Awake.{no_key}
use Rattle.late_rows.specs.Going.{AwakeCaughtUp}
use Rattle.late_rows.specs.Late.{AreFrom, AreStill, SleepWell, waking_at}

-- ---- keys

-- what is not below a key is not below what that key is not below
pub from_then : (low key other : Bytes) → is_before key low ≡ false → is_before other key ≡ false → is_before other low ≡ false
from_then low key other not_so from = elim (cases_Bool (is_before other low)) [
  | inr from_it ↦ from_it
  | inl less ↦ absurd (at_or_after ⊥ other key from
      (λ same. false≢true (sym not_so ∙ ap (λ (k : Bytes). is_before k low) (sym same) ∙ less))
      (λ after. false≢true (sym not_so ∙ is_before_of key low (before_then key other low after (before_of other low less)))))
]

first_from : (key : Bytes) (entries : List Entry) → AreFrom key entries → IsHeadFrom key (first_of entries)
first_from key [] from = tt
first_from key (e ∷ later) from = from.0

first_above : (low key : Bytes) (entries : List Entry) → IsBefore low key → AreFrom key entries → IsHeadAbove low (first_of entries)
first_above low key [] less from = tt
first_above low key (e ∷ later) less from = before_from low key e.key less from.0

head_from_then : (low key : Bytes) (head : Option Entry) → is_before key low ≡ false → IsHeadFrom key head → IsHeadFrom low head
head_from_then low key None not_so from = tt
head_from_then low key (Some e) not_so from = from_then low key e.key not_so from

head_behind : (low key : Bytes) (head : Option Entry) → IsBefore low key → IsHeadFrom key head → IsHeadAbove low head
head_behind low key None less from = tt
head_behind low key (Some e) less from = before_from low key e.key less from

-- a source whose first key is above one is above it
above_first : (key : Bytes) (source : List Entry) → KeysRise source → IsHeadAbove key (first_of source) → AllByRecursion (ComesBehind key) source
above_first key [] rises above = tt
above_first key (entry ∷ later) rises above = (above, above_lower key entry.key later above rises.0)

-- of a key before all that they begin with, sources say nothing
all_before : (key low : Bytes) (sources : List (List Entry)) → AllRise sources → IsBefore key low → AllByRecursion (IsHeadFrom low) (map first_of sources) → said_by sources key ≡ None
all_before key low [] rise less from = refl
all_before key low (source ∷ older) rise less from =
    ap (λ (o : Option (Option Bytes)). option_or o (said_by older key)) (newest_above key source (above_first key source rise.0 (head_behind key low (first_of source) less from.0)))
    ∙ all_before key low older rise.1 less from.1

-- ---- the entries at hand, and the first ones of what is left

module _ (tables : List Opened) (image : Image) where
  -- the entry at hand is the first of what is left, or none is at hand and the first comes after the key
  abbrev pub IsWider : Bytes → TableWalk → Type 0
  IsWider key w = (w.walk.now ≡ first_of (walk_left tables image w)) ⊎ ((w.walk.now ≡ None) × IsHeadAbove key (first_of (walk_left tables image w)))

  abbrev pub AreWider : Bytes → List TableWalk → Type 0
  AreWider key walks = AllByRecursion (IsWider key) walks

  abbrev heads : List TableWalk → List (Option Entry)
  heads walks = map (λ (w : TableWalk). w.walk.now) walks

  abbrev lefts : List TableWalk → List (List Entry)
  lefts walks = map (walk_left tables image) walks

  not_above_before : (key : Bytes) (head : Option Entry) → IsHeadAbove key head → IsHeadFrom key head
  not_above_before key None above = tt
  not_above_before key (Some e) above = elim (cases_Bool (is_before e.key key)) [
    | inr from_it ↦ from_it
    | inl less ↦ absurd (false≢true (sym (not_before_itself key) ∙ is_before_of key key (before_then key e.key key above (before_of e.key key less))))
  ]

  wider_from : (key : Bytes) (walks : List TableWalk) → AllByRecursion (IsHeadFrom key) (heads walks) → AreWider key walks → AllByRecursion (IsHeadFrom key) (map first_of (lefts walks))
  wider_from key [] from wider = tt
  wider_from key (w ∷ walks) from (inl same, more) = (subst (IsHeadFrom key) same from.0, wider_from key walks from.1 more)
  wider_from key (w ∷ walks) from (inr above, more) = (not_above_before key (first_of (walk_left tables image w)) above.1, wider_from key walks from.1 more)

  wider_least : (walks : List TableWalk) (place : ℕ) (row : Entry) → IsLeastAt (heads walks) place row → AreWider row.key walks → IsLeastAt (map first_of (lefts walks)) place row
  wider_least [] place row least wider = absurd least
  wider_least (w ∷ walks) zero row least (inl same, more) = (sym same ∙ least.0, wider_from row.key walks least.1 more)
  wider_least (w ∷ walks) zero row least (inr none, more) = absurd (let no : None ≡ Some row = sym none.0 ∙ least.0 in cc)
  wider_least (w ∷ walks) (suc place) row least (inl same, more) = (subst (IsHeadAbove row.key) same least.0, wider_least walks place row least.1 more)
  wider_least (w ∷ walks) (suc place) row least (inr above, more) = (above.1, wider_least walks place row least.1 more)

  pub all_wider : (floor : KeyFloor) (low : Bytes) (asleep : List (Option Bytes)) (walks : List TableWalk) → AwakeCaughtUp floor tables image asleep walks → AreStill asleep walks
      → ((at : ℕ) (key : Bytes) → waking_at asleep at ≡ Some key → IsBefore low key) → SleepWell tables image asleep walks → AreWider low walks
  all_wider floor low asleep [] caught still before well = tt
  all_wider floor low [] (w ∷ walks) caught still before well = (
    inl (sym (caught_first floor w.walk.now (to_come w.walk (blocks_in (numbered tables w.number) image)) (caught 0 (omega arith) refl))),
    all_wider floor low [] walks (λ at lt none. caught (suc at) (omega (arith, lt)) refl) (λ at key is. no_key key is) (λ at key is. no_key key is) (λ at key is. no_key key is),
  )
  all_wider floor low (o ∷ asleep) (w ∷ walks) caught still before well =
      (here o refl, all_wider floor low asleep walks (λ at lt none. caught (suc at) (omega (arith, lt)) none) (λ at key is. still (suc at) key is) (λ at key is. before (suc at) key is) (λ at key is. well (suc at) key is))
    where
      here : (p : Option Bytes) → o ≡ p → IsWider low w
      here None is = inl (sym (caught_first floor w.walk.now (to_come w.walk (blocks_in (numbered tables w.number) image)) (caught 0 (omega arith) is)))
      here (Some key) is = inr (still 0 key is, first_above low key (walk_left tables image w) (before 0 key is) (well 0 key is))

  rise : (floor : KeyFloor) (walks : List TableWalk) → AreSoundWalks floor tables image walks → AllRise (lefts walks)
  rise floor [] sound = tt
  rise floor (w ∷ walks) sound = (sound.0.rises, rise floor walks sound.1)

  module _ (floor : KeyFloor) (memory : List Entry) (walks : List TableWalk) (rises : KeysRise memory) (sound : AreSoundWalks floor tables image walks) where
    -- the least entry at hand is the first row of all, and the rows after it are those above its key
    pub late_row : (next : KeyFloor) (place : ℕ) (row : Entry) → IsLeastAt (heads_of memory walks) place row → AreWider row.key walks → clears floor row.key ≡ true → next ≡ passed_at row.key
        → merged_rows (sources_above floor tables image memory walks) ≡ row ∷ merged_rows (sources_above next tables image memory walks)
    late_row next place row least wider clear is =
        ap merged_rows (sources_cut tables image floor memory walks)
        ∙ first_row (memory ∷ lefts walks) place row floor next (rises, rise floor walks sound) (of_all place least) clear is
        ∙ sym (ap (λ (ls : List (List Entry)). row ∷ merged_rows ls) (sources_cut tables image next memory walks))
      where
        of_all : (at : ℕ) → IsLeastAt (heads_of memory walks) at row → IsLeastAt (map first_of (memory ∷ lefts walks)) at row
        of_all zero here = (here.0, wider_from row.key walks here.1 wider)
        of_all (suc at) here = (here.0, wider_least walks at row here.1 wider)

    -- where no source begins below a key, no row does
    pub rows_from : (key : Bytes) → AllByRecursion (IsHeadFrom key) (map first_of (memory ∷ lefts walks)) → IsHeadFrom key (first_of (merged_rows (sources_above floor tables image memory walks)))
    rows_from key from = of_first (merged_rows (sources_above floor tables image memory walks)) refl
      where
        says : (k : Bytes) → is_before k key ≡ true → lookup (merged_rows (sources_above floor tables image memory walks)) k ≡ None
        says k less =
            let before = before_of k key less in
            ap (λ (ls : List (List Entry)). lookup (merged_rows ls) k) (sources_cut tables image floor memory walks)
            ∙ merged_says (cut floor (memory ∷ lefts walks)) k
            ∙ (elim (cases_Bool (clears floor k)) [
              | inl clear ↦ said_kept floor k (memory ∷ lefts walks) clear ∙ all_before k key (memory ∷ lefts walks) (rises, rise floor walks sound) before from
              | inr not_so ↦ said_cut floor k (memory ∷ lefts walks) not_so
            ])

        of_first : (rows : List Entry) → merged_rows (sources_above floor tables image memory walks) ≡ rows → IsHeadFrom key (first_of (merged_rows (sources_above floor tables image memory walks)))
        of_first [] is = subst (λ (l : List Entry). IsHeadFrom key (first_of l)) (sym is) tt
        of_first (e ∷ later) is = subst (λ (l : List Entry). IsHeadFrom key (first_of l)) (sym is) (elim (cases_Bool (is_before e.key key)) [
          | inr from_it ↦ from_it
          | inl less ↦ absurd (let no : Some e.value ≡ None =
              sym (ap (λ (t : Bool). cond t (Some e.value) (lookup later e.key)) (same_key e.key)) ∙ sym (ap (λ (l : List Entry). lookup l e.key) is) ∙ says e.key less in cc)
        ])

  -- ---- soundness behind a row

  clear_from : (low key : Bytes) (entries : List Entry) → IsBefore low key → AreFrom key entries → AllByRecursion (λ (e : Entry). clears (passed_at low) e.key ≡ true) entries
  clear_from low key [] less from = tt
  clear_from low key (e ∷ later) less from = (is_before_of low e.key (before_from low key e.key less from.0), clear_from low key later less from.1)

  of_none : (P : List Entry → Type 0) (now : Option Entry) (later : List Entry) → now ≡ None → P (with_hand now later) → P later
  of_none P now later none is = subst (λ (o : Option Entry). P (with_hand o later)) none is

  pub late_sound : (floor : KeyFloor) (low : Bytes) (asleep : List (Option Bytes)) (walks : List TableWalk) → AwakeCaughtUp floor tables image asleep walks → AreStill asleep walks
      → ((at : ℕ) (key : Bytes) → waking_at asleep at ≡ Some key → IsBefore low key) → SleepWell tables image asleep walks → AllByRecursion (IsHeadFrom low) (heads walks)
      → AreSoundWalks floor tables image walks → AreSoundWalks (passed_at low) tables image walks
  late_sound floor low asleep [] caught still before well from sound = tt
  late_sound floor low [] (w ∷ walks) caught still before well from sound = (
    sound_passed floor low w.walk (blocks_in (numbered tables w.number) image) (caught 0 (omega arith) refl) from.0 sound.0,
    late_sound floor low [] walks (λ at lt none. caught (suc at) (omega (arith, lt)) refl) (λ at key is. no_key key is) (λ at key is. no_key key is) (λ at key is. no_key key is) from.1 sound.1,
  )
  late_sound floor low (o ∷ asleep) (w ∷ walks) caught still before well from sound =
      (here o refl, late_sound floor low asleep walks (λ at lt none. caught (suc at) (omega (arith, lt)) none) (λ at key is. still (suc at) key is) (λ at key is. before (suc at) key is) (λ at key is. well (suc at) key is) from.1 sound.1)
    where
      here : (p : Option Bytes) → o ≡ p → IsSoundWalk (passed_at low) w.walk (blocks_in (numbered tables w.number) image)
      here None is = sound_passed floor low w.walk (blocks_in (numbered tables w.number) image) (caught 0 (omega arith) is) from.0 sound.0
      here (Some key) is = record {
        rises = sound.0.rises;
        clear = of_none (λ es. AllByRecursion (λ (e : Entry). clears (passed_at low) e.key ≡ true) es) w.walk.now (to_come w.walk (blocks_in (numbered tables w.number) image)) (still 0 key is)
            (clear_from low key (walk_left tables image w) (before 0 key is) (well 0 key is));
        some = sound.0.some;
        begins = sound.0.begins;
      }

  -- ---- none below a waking key

  pub all_from : (floor : KeyFloor) (low : Bytes) (asleep : List (Option Bytes)) (walks : List TableWalk) → AwakeCaughtUp floor tables image asleep walks
      → ((at : ℕ) (key : Bytes) → waking_at asleep at ≡ Some key → is_before key low ≡ false) → SleepWell tables image asleep walks → AllByRecursion (IsHeadFrom low) (heads walks)
      → AllByRecursion (IsHeadFrom low) (map first_of (lefts walks))
  all_from floor low asleep [] caught before well from = tt
  all_from floor low [] (w ∷ walks) caught before well from = (
    subst (IsHeadFrom low) (sym (caught_first floor w.walk.now (to_come w.walk (blocks_in (numbered tables w.number) image)) (caught 0 (omega arith) refl))) from.0,
    all_from floor low [] walks (λ at lt none. caught (suc at) (omega (arith, lt)) refl) (λ at key is. no_key key is) (λ at key is. no_key key is) from.1,
  )
  all_from floor low (o ∷ asleep) (w ∷ walks) caught before well from =
      (here o refl, all_from floor low asleep walks (λ at lt none. caught (suc at) (omega (arith, lt)) none) (λ at key is. before (suc at) key is) (λ at key is. well (suc at) key is) from.1)
    where
      here : (p : Option Bytes) → o ≡ p → IsHeadFrom low (first_of (walk_left tables image w))
      here None is = subst (IsHeadFrom low) (sym (caught_first floor w.walk.now (to_come w.walk (blocks_in (numbered tables w.number) image)) (caught 0 (omega arith) is))) from.0
      here (Some key) is = head_from_then low key (first_of (walk_left tables image w)) (before 0 key is) (first_from key (walk_left tables image w) (well 0 key is))
