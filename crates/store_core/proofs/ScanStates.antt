-- The rows of memory and of the tables that are opened for a scan have between its bounds what the state has.
use Rattle.std.proofs.Common.{◌≡◌, ◌∙◌, ◌≤◌, ◌<◌, ◌-◌, ℕ, zero, suc, Bool, true, false, cond, not, ◌&&◌, List, [], ◌∷◌, ◌++◌, length, map, refl, sym, ap, subst, arith}
use Rattle.std.specs.Prelude.{Option, Some, None, bytes_eq, is_some, slice_get}
use Rattle.std.specs.List.{AllByRecursion, Contains}
use Rattle.std.specs.Option.{option_or}
use Rattle.std.proofs.lemmas.Bool.{and_parts, false≢true}
use Rattle.std.proofs.lemmas.List.{append_assoc, length-append}
use Rattle.std.proofs.lemmas.Slice.Eq.{bytes_eq-Decides}
use Rattle.block_model.specs.Laws.{joined}
use Rattle.byte_fields.specs.Spelling.{IsBytes}
use Rattle.disk_trait.specs.Image.{Image}
use Rattle.entry_model.proofs.Maps.{entries_rise}
use Rattle.entry_model.specs.Entries.{Entry, keys_of, live}
use Rattle.entry_model.specs.Newest.{entries_from, lookup}
use Rattle.filter_api.specs.Spellings.{Spelling}
use Rattle.filter_model.specs.Answers.{ranged}
use Rattle.late_rows.specs.Late.{AreFrom}
use Rattle.late_rows.specs.Laws.{NoneBefore}
use Rattle.map_model.specs.Slices.{between, is_before, is_between, is_up_to}
use Rattle.map_model.specs.SortedMap.{Bytes, get, Rises}
use Rattle.merge_rows.specs.Laws.{NumberedStand}
use Rattle.merge_rows.specs.Merges.{numbered}
use Rattle.merge_rows.specs.RowLaws.{MergedLaws}
use Rattle.merge_rows.specs.Rows.{merged_rows}
use Rattle.state_model.proofs.Sayings.{AllRise, lists_of, newest_of_rising, source_sound}
use Rattle.state_model.proofs.Searches.{range_admitted}
use Rattle.state_model.proofs.Views.{tables_rise, view_says}
use Rattle.state_model.specs.Sound.{IsSound, IsSoundTable}
use Rattle.state_model.specs.State.{State}
use Rattle.state_model.specs.View.{memory, state_map}
use Rattle.state_model.specs.WithoutRanges.{HasOnlyEntries, first_found, table_entries}
use Rattle.store_search.proofs.Founds.{held_entries}
use Rattle.store_core.proofs.ScanPairs.{from_then_after, pairs_between}
use Rattle.store_core.proofs.Tellings.{ranges_same}
use Rattle.store_core.proofs.ScanWaking.{entries_from_waking, none_before, none_from}
use Rattle.store_core.specs.Scans.{AreUpTo, admits_keys, filter_admits, key_up_to, keys_admitting, numbers_admitting, pairs_up_to, waking_between, waking_from}
use Rattle.store_core.specs.Telling.{IsHighOfBytes}
use Rattle.store_search.specs.TablesAgree.{TableAgrees, TablesAgree}
use Rattle.table_file.specs.Laws.{StandingKeys}
use Rattle.table_file.specs.Opened.{Opened}
use Rattle.table_model.specs.Tables.{FilterBytes, Table}
use Rattle.state_model.proofs.WithoutRanges.{map_alone, view_alone}

-- the entries of the tables that are opened
abbrev pub entries_opened : Bytes → Option Bytes → List Opened → List Table → List (List Entry)
entries_opened low high [] tables = []
entries_opened low high (o ∷ opened) [] = []
entries_opened low high (o ∷ opened) (t ∷ tables) = cond (admits_keys low high o) (t.entries ∷ entries_opened low high opened tables) (entries_opened low high opened tables)

not_false : (b : Bool) → not b ≡ false → b ≡ true
not_false true e = refl
not_false false e = absurd (false≢true (sym e))

pub not_true : (b : Bool) → not b ≡ true → b ≡ false
not_true true e = absurd (false≢true e)
not_true false e = refl

-- where the upper bound is below the lower one, no key lies between
pub crossed_key : (low high key : Bytes) → is_before high low ≡ true → is_between low (Some high) key ≡ true → ⊥
crossed_key low high key crossed inside = by_tests (is_before key low) (is_before high key) refl refl inside
  where
    by_tests : (below above : Bool) → is_before key low ≡ below → is_before high key ≡ above → not below && not above ≡ true → ⊥
    by_tests true above is up e = absurd (false≢true e)
    by_tests false true is up e = absurd (false≢true e)
    by_tests false false is up e = absurd (false≢true (sym up ∙ from_then_after key low high is crossed))

-- a table by its number
pub numbered_at : (front : List Opened) (o : Opened) (older : List Opened) → numbered (front ++ o ∷ older) (length older) ≡ Some o
numbered_at front o older =
    let place : length (front ++ o ∷ older) - 1 - length older ≡ length front = omega (arith, length-append front (o ∷ older)) in
    ap (slice_get (front ++ o ∷ older)) place ∙ get_behind front o older
  where
    get_behind : (front : List Opened) (o : Opened) (older : List Opened) → slice_get (front ++ o ∷ older) (length front) ≡ Some o
    get_behind [] o older = refl
    get_behind (x ∷ front) o older = get_behind front o older

-- ---- what a waking key between bounds is

-- a key that is found is among the keys
there_of : (entries : List Entry) (key : Bytes) (value : Option Bytes) → lookup entries key ≡ Some value → Contains (keys_of entries) key
there_of [] key value is = absurd cc
there_of (e ∷ more) key value is = elim (bytes_eq e.key key) as (λ b. bytes_eq e.key key ≡ b → cond b (Some e.value) (lookup more key) ≡ Some value → Contains (keys_of (e ∷ more)) key) [
  | true ↦ λ same _. (0, omega arith, (bytes_eq-Decides e.key key).0 same)
  | false ↦ λ _ found. let rest = there_of more key value found in (suc rest.0, omega (arith, rest.1), rest.2)
] refl is

pub no_such : (key : Bytes) → None ≡ Some key → ⊥
no_such key is = cc

key_of_both : (b : Bool) (key waking : Bytes) → cond b (Some key) None ≡ Some waking → (b ≡ true) × (key ≡ waking)
key_of_both true key waking is = (refl, cc)
key_of_both false key waking is = absurd (no_such waking is)

pub waking_up_to : (low : Bytes) (high : Option Bytes) (o : Opened) (waking : Bytes) → waking_between low high o ≡ Some waking → (waking_from low o ≡ Some waking) × (is_up_to high waking ≡ true)
waking_up_to low high o waking is = by_filter (filter_admits low high o) is
  where
    by_key : (found : Option Bytes) → key_up_to high found ≡ Some waking → (found ≡ Some waking) × (is_up_to high waking ≡ true)
    by_key None none = absurd (no_such waking none)
    by_key (Some key) some =
        let both = key_of_both (is_up_to high key) key waking some in
        (ap Some both.1, subst (λ (k : Bytes). is_up_to high k ≡ true) both.1 both.0)

    by_filter : (admitted : Bool) → cond admitted (key_up_to high (waking_from low o)) None ≡ Some waking → (waking_from low o ≡ Some waking) × (is_up_to high waking ≡ true)
    by_filter true some = by_key (waking_from low o) some
    by_filter false none = absurd (no_such waking none)

module _ (found : StandingKeys) (spelling : Spelling) (image : Image) (low : Bytes) where
  -- ---- a table that is not opened has no key between the bounds

  module _ (low_bytes : IsBytes low) where
    not_crossed : (high key : Bytes) → is_between low (Some high) key ≡ true → (crossed : Bool) → is_before high low ≡ crossed → crossed ≡ false
    not_crossed high key inside true is = absurd (crossed_key low high key is inside)
    not_crossed high key inside false is = refl

    -- the filter denies the bounds
    denied_there : (high : Option Bytes) → IsHighOfBytes high → (key : Bytes) → is_between low high key ≡ true → (o : Opened) (t : Table) → TableAgrees spelling o t image → IsSoundTable t
        → filter_admits low high o ≡ false → (value : Option Bytes) → lookup t.entries key ≡ Some value → ⊥
    denied_there None high_bytes key inside o t held sound closed value is = false≢true (sym closed)
    denied_there (Some high) high_bytes key inside o t held sound closed value is =
        let order = not_crossed high key inside (is_before high low) refl in
        let admitted = ranges_same spelling image o t held low high ∙ range_admitted t low high key value sound low_bytes high_bytes order is inside in
        false≢true (sym closed ∙ ap (λ (b : Bool). not b && ranged o.filter.real_bits o.filter.leaves low high) order ∙ admitted)

    -- what is not below a key above the upper bound is above it too
    above_too : (high : Option Bytes) (waking key : Bytes) → is_up_to high waking ≡ false → is_before key waking ≡ false → is_up_to high key ≡ true → ⊥
    above_too None waking key over from up = false≢true (sym over)
    above_too (Some high) waking key over from up = false≢true (sym (ap not (from_then_after key waking high from (not_false (is_before high waking) over))) ∙ up)

    denied : (high : Option Bytes) → IsHighOfBytes high → (key : Bytes) → is_between low high key ≡ true → (o : Opened) (t : Table) → TableAgrees spelling o t image → IsSoundTable t
        → admits_keys low high o ≡ false → (said : Option (Option Bytes)) → lookup t.entries key ≡ said → said ≡ None
    denied high high_bytes key inside o t held sound closed None is = refl
    denied high high_bytes key inside o t held sound closed (Some value) is = absurd (by_filter (filter_admits low high o) refl closed)
      where
        parts : (not (is_before key low) ≡ true) × (is_up_to high key ≡ true)
        parts = and_parts (not (is_before key low)) (is_up_to high key) inside

        there : Contains (keys_of t.entries) key
        there = there_of t.entries key value is

        by_waking : (waking : Option Bytes) → waking_from low o ≡ waking → is_some (key_up_to high waking) ≡ false → ⊥
        by_waking None at none = false≢true (sym (not_true (is_before key low) parts.0) ∙ none_from found spelling image o t held sound low low_bytes at key there)
        by_waking (Some waking) at none = by_bound (is_up_to high waking) refl none
          where
            by_bound : (up : Bool) → is_up_to high waking ≡ up → is_some (cond up (Some waking) None) ≡ false → ⊥
            by_bound true up some = false≢true (sym some)
            by_bound false over _ = above_too high waking key over (none_before found spelling image o t held sound low low_bytes waking at key there (not_true (is_before key low) parts.0)) parts.1

        by_filter : (admitted : Bool) → filter_admits low high o ≡ admitted → is_some (cond admitted (key_up_to high (waking_from low o)) None) ≡ false → ⊥
        by_filter true at none = by_waking (waking_from low o) refl none
        by_filter false at none = denied_there high high_bytes key inside o t held sound at value is

    -- so those that are opened say of such a key what all say
    pub opened_say : (high : Option Bytes) → IsHighOfBytes high → (key : Bytes) → is_between low high key ≡ true → (opened : List Opened) (tables : List Table)
        → TablesAgree spelling opened tables image → AllByRecursion IsSoundTable tables → first_found (entries_opened low high opened tables) key ≡ first_found (lists_of tables) key
    opened_say high high_bytes key inside [] [] held sound = refl
    opened_say high high_bytes key inside [] (t ∷ tables) held sound = elim held [ ]
    opened_say high high_bytes key inside (o ∷ opened) [] held sound = elim held [ ]
    opened_say high high_bytes key inside (o ∷ opened) (t ∷ tables) held sound =
        by_test (opened_say high high_bytes key inside opened tables held.1 sound.1) (admits_keys low high o) refl
      where
        by_test : first_found (entries_opened low high opened tables) key ≡ first_found (lists_of tables) key → (yes : Bool) → admits_keys low high o ≡ yes
            → first_found (cond yes (t.entries ∷ entries_opened low high opened tables) (entries_opened low high opened tables)) key ≡ option_or (lookup t.entries key) (first_found (lists_of tables) key)
        by_test rest true is = ap (option_or (lookup t.entries key)) rest
        by_test rest false is =
            rest ∙ ap (λ (o : Option (Option Bytes)). option_or o (first_found (lists_of tables) key)) (sym (denied high high_bytes key inside o t held.0 sound.0 is (lookup t.entries key) refl))

  -- ---- their entries, and where they are

  pub opened_rise : (high : Option Bytes) (opened : List Opened) (tables : List Table) → AllByRecursion IsSoundTable tables → AllRise (entries_opened low high opened tables)
  opened_rise high [] tables sound = tt
  opened_rise high (o ∷ opened) [] sound = tt
  opened_rise high (o ∷ opened) (t ∷ tables) sound = elim (admits_keys low high o) as (λ b. AllRise (cond b (t.entries ∷ entries_opened low high opened tables) (entries_opened low high opened tables))) [
    | true ↦ ((tables_rise (t ∷ tables) sound).0, opened_rise high opened tables sound.1)
    | false ↦ opened_rise high opened tables sound.1
  ]

  abbrev pub blocks_opened : (high : Option Bytes) (opened : List Opened) (tables : List Table) → TablesAgree spelling opened tables image → List (List (List Entry))
  blocks_opened high [] [] held = []
  blocks_opened high [] (t ∷ tables) held = []
  blocks_opened high (o ∷ opened) [] held = []
  blocks_opened high (o ∷ opened) (t ∷ tables) held = cond (admits_keys low high o) (held.0.blocks ∷ blocks_opened high opened tables held.1) (blocks_opened high opened tables held.1)

  pub blocks_joined : (high : Option Bytes) (opened : List Opened) (tables : List Table) (held : TablesAgree spelling opened tables image)
      → map (λ (b : List (List Entry)). joined b) (blocks_opened high opened tables held) ≡ entries_opened low high opened tables
  blocks_joined high [] [] held = refl
  blocks_joined high [] (t ∷ tables) held = elim held [ ]
  blocks_joined high (o ∷ opened) [] held = elim held [ ]
  blocks_joined high (o ∷ opened) (t ∷ tables) held = elim (admits_keys low high o) as (λ b.
      map (λ (b : List (List Entry)). joined b) (cond b (held.0.blocks ∷ blocks_opened high opened tables held.1) (blocks_opened high opened tables held.1))
      ≡ cond b (t.entries ∷ entries_opened low high opened tables) (entries_opened low high opened tables)) [
        | true ↦ λ i. sym (held_entries spelling o t image held.0) i ∷ blocks_joined high opened tables held.1 i
        | false ↦ blocks_joined high opened tables held.1
      ]

  -- and none of them has an entry from the bound on below its waking key
  pub sleep_opened : IsBytes low → (high : Option Bytes) (opened : List Opened) (tables : List Table) (held : TablesAgree spelling opened tables image) → AllByRecursion IsSoundTable tables
      → NoneBefore low (keys_admitting low high opened) (blocks_opened high opened tables held)
  sleep_opened low_bytes high [] [] held sound = λ at key is. absurd (no_such key is)
  sleep_opened low_bytes high [] (t ∷ tables) held sound = elim held [ ]
  sleep_opened low_bytes high (o ∷ opened) [] held sound = elim held [ ]
  sleep_opened low_bytes high (o ∷ opened) (t ∷ tables) held sound =
      let rest = sleep_opened low_bytes high opened tables held.1 sound.1 in
      elim (admits_keys low high o) as (λ b. NoneBefore low (cond b (waking_between low high o ∷ keys_admitting low high opened) (keys_admitting low high opened))
      (cond b (held.0.blocks ∷ blocks_opened high opened tables held.1) (blocks_opened high opened tables held.1))) [
        | true ↦ with_first rest
        | false ↦ rest
      ]
    where
      first : (key : Bytes) → waking_between low high o ≡ Some key → AreFrom key (entries_from (joined held.0.blocks) low)
      first key is = subst (λ (es : List Entry). AreFrom key (entries_from es low)) (held_entries spelling o t image held.0)
          (entries_from_waking found spelling image o t held.0 sound.0 low low_bytes key (waking_up_to low high o key is).0)

      with_first : NoneBefore low (keys_admitting low high opened) (blocks_opened high opened tables held.1)
          → NoneBefore low (waking_between low high o ∷ keys_admitting low high opened) (held.0.blocks ∷ blocks_opened high opened tables held.1)
      with_first rest zero key is = first key is
      with_first rest (suc at) key is = rest at key is

  -- by their numbers, with those before them
  stand_behind : (high : Option Bytes) (front opened : List Opened) (tables : List Table) (held : TablesAgree spelling opened tables image)
      → NumberedStand spelling (front ++ opened) image (numbers_admitting low high opened) (blocks_opened high opened tables held)
  stand_behind high front [] [] held = tt
  stand_behind high front [] (t ∷ tables) held = elim held [ ]
  stand_behind high front (o ∷ opened) [] held = elim held [ ]
  stand_behind high front (o ∷ opened) (t ∷ tables) held =
      let rest = subst (λ (all : List Opened). NumberedStand spelling all image (numbers_admitting low high opened) (blocks_opened high opened tables held.1))
      (append_assoc front (o ∷ []) opened) (stand_behind high (front ++ o ∷ []) opened tables held.1) in
      elim (admits_keys low high o) as (λ b. NumberedStand spelling (front ++ o ∷ opened) image (cond b (length opened ∷ numbers_admitting low high opened) (numbers_admitting low high opened))
      (cond b (held.0.blocks ∷ blocks_opened high opened tables held.1) (blocks_opened high opened tables held.1))) [
        | true ↦ ((o, numbered_at front o opened, held.0.stands), rest)
        | false ↦ rest
      ]

  pub opened_stand : (high : Option Bytes) (opened : List Opened) (tables : List Table) (held : TablesAgree spelling opened tables image)
      → NumberedStand spelling opened image (numbers_admitting low high opened) (blocks_opened high opened tables held)
  opened_stand high opened tables held = stand_behind high [] opened tables held

-- ---- as many keys as numbers, and none above the upper bound

pub as_many_keys : (low : Bytes) (high : Option Bytes) (opened : List Opened) → length (keys_admitting low high opened) ≡ length (numbers_admitting low high opened)
as_many_keys low high [] = refl
as_many_keys low high (o ∷ opened) = elim (admits_keys low high o) as (λ b.
    length (cond b (waking_between low high o ∷ keys_admitting low high opened) (keys_admitting low high opened)) ≡ length (cond b (length opened ∷ numbers_admitting low high opened) (numbers_admitting low high opened))) [
      | true ↦ ap suc (as_many_keys low high opened)
      | false ↦ as_many_keys low high opened
    ]

pub keys_up_to : (low : Bytes) (high : Option Bytes) (opened : List Opened) → AreUpTo high (keys_admitting low high opened)
keys_up_to low high [] = λ at key is. absurd (no_such key is)
keys_up_to low high (o ∷ opened) = elim (admits_keys low high o) as (λ b. AreUpTo high (cond b (waking_between low high o ∷ keys_admitting low high opened) (keys_admitting low high opened))) [
  | true ↦ with_first (keys_up_to low high opened)
  | false ↦ keys_up_to low high opened
]
  where
    with_first : AreUpTo high (keys_admitting low high opened) → AreUpTo high (waking_between low high o ∷ keys_admitting low high opened)
    with_first rest zero key is = (waking_up_to low high o key is).1
    with_first rest (suc at) key is = rest at key is

-- ---- the numbers are those of tables

numbers_below : (low : Bytes) (high : Option Bytes) (opened : List Opened) (most : ℕ) → length opened ≤ most → AllByRecursion (λ (number : ℕ). number < most) (numbers_admitting low high opened)
numbers_below low high [] most few = tt
numbers_below low high (o ∷ opened) most few = elim (admits_keys low high o) as (λ b. AllByRecursion (λ (number : ℕ). number < most) (cond b (length opened ∷ numbers_admitting low high opened) (numbers_admitting low high opened))) [
  | true ↦ (omega (arith, few), numbers_below low high opened most (omega (arith, few)))
  | false ↦ numbers_below low high opened most (omega (arith, few))
]

pub numbers_there : (low : Bytes) (high : Option Bytes) (opened : List Opened) → AllByRecursion (λ (number : ℕ). number < length opened) (numbers_admitting low high opened)
numbers_there low high opened = numbers_below low high opened (length opened) (omega arith)

-- ---- the rows of them all

merged_say : MergedLaws → (lists : List (List Entry)) (key : Bytes) → AllRise lists → lookup (merged_rows lists) key ≡ first_found lists key
merged_say laws [] key rise = ap (λ (rows : List Entry). lookup rows key) laws.none
merged_say laws (entries ∷ older) key rise =
    laws.first_says entries older key
    ∙ ap (λ (o : Option (Option Bytes)). option_or o (lookup (merged_rows older) key)) (newest_of_rising entries key rise.0)
    ∙ ap (option_or (lookup entries key)) (merged_say laws older key rise.1)

module _ (laws : MergedLaws) (found : StandingKeys) (spelling : Spelling) (filter_bytes : FilterBytes) (s : State) (image : Image) (low : Bytes) (low_bytes : IsBytes low) (high : Option Bytes) (high_bytes : IsHighOfBytes high)
    (sound : IsSound filter_bytes s) (entries : List Entry) (only : HasOnlyEntries s entries) (opened : List Opened) (held : TablesAgree spelling opened s.tables image) where
  abbrev pub all_sources : List (List Entry)
  all_sources = memory s ∷ entries_opened low high opened s.tables

  all_rise : AllRise all_sources
  all_rise = ((source_sound s.log).rises, opened_rise found spelling image low high opened s.tables sound.tables)

  rows_say : (key : Bytes) → is_between low high key ≡ true → live (lookup (merged_rows all_sources) key) ≡ get (state_map s) key
  rows_say key inside =
      ap live (merged_say laws all_sources key all_rise
      ∙ ap (option_or (lookup (memory s) key)) (opened_say found spelling image low low_bytes high high_bytes key inside opened s.tables held sound.tables)
      ∙ sym (view_alone s entries key only))
      ∙ sym (view_says filter_bytes s key sound)

  -- the pairs of the rows between the bounds are those of the state's map
  pub state_pairs : pairs_up_to high (entries_from (merged_rows all_sources) low) ≡ between (state_map s) low high
  state_pairs = pairs_between (merged_rows all_sources) (state_map s) low high (laws.rises all_sources)
      (subst Rises (sym (map_alone s entries only)) (entries_rise [] (table_entries s.tables ++ entries) tt)) rows_say
