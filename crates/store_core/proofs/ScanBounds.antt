-- What the first step of a scan may read, against what the state says.
use Rattle.std.proofs.Common.{◌≡◌, ◌∙◌, ◌≤◌, ◌<◌, ◌+◌, ℕ, suc, Bool, true, false, cond, not, ◌&&◌, List, [], ◌∷◌, ◌++◌, length, map, refl, sym, ap, subst, arith}
use Rattle.std.specs.Prelude.{Option, Some, None, count_by, filter, is_some, sum_by}
use Rattle.std.specs.List.{AllByRecursion}
use Rattle.std.proofs.lemmas.List.{append_assoc}
use Rattle.std.proofs.lemmas.List.Sums.{sum_by-cons}
use Rattle.byte_fields.specs.Spelling.{IsBytes}
use Rattle.disk_trait.specs.Image.{Image}
use Rattle.entry_model.specs.Entries.{Entry}
use Rattle.entry_model.specs.Newest.{entries_from}
use Rattle.filter_api.specs.Spellings.{Spelling}
use Rattle.filter_model.specs.Answers.{ranged}
use Rattle.map_model.specs.Slices.{is_before, is_between, is_up_to, seek}
use Rattle.map_model.specs.SortedMap.{Bytes}
use Rattle.merge_rows.specs.Merges.{TableWalk, blocks_in, numbered, walk_at, walk_left, with_hand}
use Rattle.merge_rows.specs.Reads.{ones, wants}
use Rattle.merge_rows.specs.Rows.{KeyFloor}
use Rattle.state_model.proofs.Looks.{admits_farther}
use Rattle.state_model.specs.Bounds.{admits_range, is_passed, looks_to, seek_bound, stepped}
use Rattle.state_model.specs.Sound.{IsSoundTable}
use Rattle.state_model.specs.State.{State}
use Rattle.state_model.specs.View.{state_map}
use Rattle.store_search.proofs.Founds.{held_entries}
use Rattle.store_core.proofs.ScanReads.{none_woken}
use Rattle.store_core.proofs.ScanStates.{no_such, not_true, numbered_at, waking_up_to}
use Rattle.store_core.proofs.Tellings.{as_many, ranges_same}
use Rattle.store_core.proofs.ScanWaking.{waking_admitted}
use Rattle.store_core.specs.Scans.{MayRead, admits_keys, key_up_to, keys_admitting, numbers_admitting, owed, waking_between, waking_from, woken_up_to}
use Rattle.store_search.specs.TablesAgree.{TableAgrees, TablesAgree}
use Rattle.table_file.specs.Laws.{StandingBlocks, StandingKeys, StandingWalks}
use Rattle.table_file.specs.Opened.{Opened}
use Rattle.table_file.specs.Walks.{to_come, walk_from}
use Rattle.table_model.specs.Tables.{Table}

abbrev one_if : Bool → ℕ
one_if is = cond is 1 0

-- ---- the entries of a table that are passed over

-- not below, up to the other bound, and before the answer
abbrev is_on_way : Bytes → Option Bytes → Option (Bytes × Bytes) → Bytes → Bool
is_on_way low high answer key = not (is_before key low) && (is_up_to high key && is_passed answer key)

abbrev is_stepped : Bytes → Option Bytes → Option (Bytes × Bytes) → Bytes → Bool
is_stepped low high answer key = is_between low high key && is_passed answer key

same_tests : (a b c : Bool) → (a && (b && c)) ≡ ((a && b) && c)
same_tests true b c = refl
same_tests false b c = refl

stepped_from : (low : Bytes) (high : Option Bytes) (answer : Option (Bytes × Bytes)) (entries : List Entry)
    → count_by (λ (e : Entry). is_on_way low high answer e.key) (entries_from entries low) ≤ count_by (λ (e : Entry). is_stepped low high answer e.key) entries
stepped_from low high answer [] = omega arith
stepped_from low high answer (e ∷ more) = by_test (stepped_from low high answer more) (is_before e.key low) refl
  where
    here : count_by (λ (e : Entry). is_stepped low high answer e.key) (e ∷ more) ≡ one_if (is_stepped low high answer e.key) + count_by (λ (e : Entry). is_stepped low high answer e.key) more
    here = sum_by-cons (λ (x : Entry). one_if (is_stepped low high answer x.key)) e more

    by_test : count_by (λ (e : Entry). is_on_way low high answer e.key) (entries_from more low) ≤ count_by (λ (e : Entry). is_stepped low high answer e.key) more
        → (below : Bool) → is_before e.key low ≡ below
        → count_by (λ (e : Entry). is_on_way low high answer e.key) (entries_from (e ∷ more) low) ≤ count_by (λ (e : Entry). is_stepped low high answer e.key) (e ∷ more)
    by_test rest true is =
        let cut : entries_from (e ∷ more) low ≡ entries_from more low = ap (λ (b : Bool). cond (not b) (e ∷ entries_from more low) (entries_from more low)) is in
        omega (arith, here, rest, ap (count_by (λ (e : Entry). is_on_way low high answer e.key)) cut)
    by_test rest false is =
        let kept : entries_from (e ∷ more) low ≡ e ∷ entries_from more low = ap (λ (b : Bool). cond (not b) (e ∷ entries_from more low) (entries_from more low)) is in
        let same : one_if (is_on_way low high answer e.key) ≡ one_if (is_stepped low high answer e.key) = ap one_if (same_tests (not (is_before e.key low)) (is_up_to high e.key) (is_passed answer e.key)) in
        omega (
          arith,
          here,
          rest,
          same,
          ap (count_by (λ (e : Entry). is_on_way low high answer e.key)) kept,
          sum_by-cons (λ (x : Entry). one_if (is_on_way low high answer x.key)) e (entries_from more low),
        )

ones_few : (b : Bool) → ones b ≤ 1
ones_few true = omega arith
ones_few false = omega arith

module _ (blocks : StandingBlocks) (walks : StandingWalks) (spelling : Spelling) (image : Image) (low : Bytes) where
  abbrev floor : KeyFloor
  floor = record { key = low; passed = false }

  abbrev start : List Opened → ℕ → TableWalk
  start all number = record { number = number; walk = walk_at (numbered all number) low }

  -- ---- one table

  left_of : (all : List Opened) (number : ℕ) (o : Opened) (t : Table) → numbered all number ≡ Some o → TableAgrees spelling o t image → walk_left all image (start all number) ≡ entries_from t.entries low
  left_of all number o t is held =
      ap (λ (found : Option Opened). with_hand (walk_at found low).now (to_come (walk_at found low) (blocks_in found image))) is
      ∙ ap (to_come (walk_from o low)) (blocks spelling o held.blocks image held.stands).on_device
      ∙ (walks spelling o held.blocks image held.stands).all low
      ∙ ap (λ (es : List Entry). entries_from es low) (sym (held_entries spelling o t image held))

  owed_one : (all : List Opened) (number : ℕ) (high : Option Bytes) (answer : Option (Bytes × Bytes)) (o : Opened) (t : Table) → numbered all number ≡ Some o → TableAgrees spelling o t image
      → owed (λ (key : Bytes). is_up_to high key && is_passed answer key) floor all image (start all number) ≤ suc (count_by (λ (e : Entry). is_stepped low high answer e.key) t.entries)
  owed_one all number high answer o t is held =
      let left = ap (count_by (λ (e : Entry). is_on_way low high answer e.key)) (left_of all number o t is held) in
      omega (arith, ones_few (wants floor all (start all number)), left, stepped_from low high answer t.entries)

  -- ---- all that may have a key between two bounds

  module _ (found : StandingKeys) (low_bytes : IsBytes low) (high near : Bytes) (answer : Option (Bytes × Bytes)) where
    abbrev bound_of : Table → ℕ
    bound_of t = suc (count_by (λ (e : Entry). is_stepped low (Some high) answer e.key) t.entries)

    abbrev owed_of : List Opened → TableWalk → ℕ
    owed_of all = owed (λ (key : Bytes). is_up_to (Some high) key && is_passed answer key) floor all image

    more_counted : (yes : Bool) (t : Table) (tables : List Table) → sum_by bound_of tables ≤ sum_by bound_of (cond yes (t ∷ tables) tables)
    more_counted true t tables = omega (arith, sum_by-cons bound_of t tables)
    more_counted false t tables = omega arith

    -- a table whose waking key is up to where a seek looks admits the keys up to there
    admits_near : (o : Opened) (t : Table) → TableAgrees spelling o t image → IsSoundTable t → (key : Bytes) → waking_between low (Some high) o ≡ Some key → is_up_to (Some near) key ≡ true → admits_range low near t ≡ true
    admits_near o t held sound key is up =
        admits_farther low key near (not_true (is_before near key) up) t (waking_admitted found spelling image o t held sound low low_bytes key (waking_up_to low (Some high) o key is).0)

    owed_behind : (front opened : List Opened) (tables : List Table) → TablesAgree spelling opened tables image → AllByRecursion IsSoundTable tables
        → sum_by (owed_of (front ++ opened)) (woken_up_to (Some near) (keys_admitting low (Some high) opened) (map (start (front ++ opened)) (numbers_admitting low (Some high) opened)))
        ≤ sum_by bound_of (filter (admits_range low near) tables)
    owed_behind front [] [] held sound = omega arith
    owed_behind front [] (t ∷ tables) held sound = elim held [ ]
    owed_behind front (o ∷ opened) [] held sound = elim held [ ]
    owed_behind front (o ∷ opened) (t ∷ tables) held sound =
        by_found (subst (λ (all : List Opened). sum_by (owed_of all) (rest_of all) ≤ sum_by bound_of (filter (admits_range low near) tables))
        (append_assoc front (o ∷ []) opened) (owed_behind (front ++ o ∷ []) opened tables held.1 sound.1))
        (waking_between low (Some high) o) refl
      where
        rest_of : List Opened → List TableWalk
        rest_of all = woken_up_to (Some near) (keys_admitting low (Some high) opened) (map (start all) (numbers_admitting low (Some high) opened))

        by_found : sum_by (owed_of (front ++ o ∷ opened)) (rest_of (front ++ o ∷ opened)) ≤ sum_by bound_of (filter (admits_range low near) tables)
            → (waking : Option Bytes) → waking_between low (Some high) o ≡ waking
            → sum_by (owed_of (front ++ o ∷ opened)) (woken_up_to (Some near) (cond (is_some waking) (waking ∷ keys_admitting low (Some high) opened) (keys_admitting low (Some high) opened))
            (map (start (front ++ o ∷ opened)) (cond (is_some waking) (length opened ∷ numbers_admitting low (Some high) opened) (numbers_admitting low (Some high) opened))))
            ≤ sum_by bound_of (cond (admits_range low near t) (t ∷ filter (admits_range low near) tables) (filter (admits_range low near) tables))
        by_found rest None is = omega (arith, rest, more_counted (admits_range low near t) t (filter (admits_range low near) tables))
        by_found rest (Some key) is = by_up (is_up_to (Some near) key) refl
          where
            by_up : (up : Bool) → is_up_to (Some near) key ≡ up
                → sum_by (owed_of (front ++ o ∷ opened)) (cond up (start (front ++ o ∷ opened) (length opened) ∷ rest_of (front ++ o ∷ opened)) (rest_of (front ++ o ∷ opened)))
                ≤ sum_by bound_of (cond (admits_range low near t) (t ∷ filter (admits_range low near) tables) (filter (admits_range low near) tables))
            by_up false over = omega (arith, rest, more_counted (admits_range low near t) t (filter (admits_range low near) tables))
            by_up true up =
                omega (
                  arith,
                  rest,
                  ap (λ (yes : Bool). sum_by bound_of (cond yes (t ∷ filter (admits_range low near) tables) (filter (admits_range low near) tables))) (admits_near o t held.0 sound.0 key is up),
                  sum_by-cons (owed_of (front ++ o ∷ opened)) (start (front ++ o ∷ opened) (length opened)) (rest_of (front ++ o ∷ opened)),
                  sum_by-cons bound_of t (filter (admits_range low near) tables),
                  owed_one (front ++ o ∷ opened) (length opened) (Some high) answer o t (numbered_at front o opened) held.0,
                )

-- a table that may have a key between two bounds admits them
module _ (spelling : Spelling) (image : Image) (low high : Bytes) where
  admits_there : (o : Opened) (t : Table) → TableAgrees spelling o t image → (key : Bytes) → waking_between low (Some high) o ≡ Some key → admits_range low high t ≡ true
  admits_there o t held key is = by_filter (not (is_before high low)) (ranged o.filter.real_bits o.filter.leaves low high) (ranges_same spelling image o t held low high) is
    where
      by_filter : (order ranges : Bool) → ranges ≡ admits_range low high t → cond (order && ranges) (key_up_to (Some high) (waking_from low o)) None ≡ Some key → admits_range low high t ≡ true
      by_filter true true same some = sym same
      by_filter true false same none = absurd (no_such key none)
      by_filter false ranges same none = absurd (no_such key none)

  some_behind : (opened : List Opened) (tables : List Table) → TablesAgree spelling opened tables image → length (numbers_admitting low (Some high) opened) ≤ count_by (admits_range low high) tables
  some_behind [] [] held = omega arith
  some_behind [] (t ∷ tables) held = elim held [ ]
  some_behind (o ∷ opened) [] held = elim held [ ]
  some_behind (o ∷ opened) (t ∷ tables) held = by_found (some_behind opened tables held.1) (waking_between low (Some high) o) refl
    where
      here : count_by (admits_range low high) (t ∷ tables) ≡ one_if (admits_range low high t) + count_by (admits_range low high) tables
      here = sum_by-cons (λ (u : Table). one_if (admits_range low high u)) t tables

      by_found : length (numbers_admitting low (Some high) opened) ≤ count_by (admits_range low high) tables → (waking : Option Bytes) → waking_between low (Some high) o ≡ waking
          → length (cond (is_some waking) (length opened ∷ numbers_admitting low (Some high) opened) (numbers_admitting low (Some high) opened)) ≤ count_by (admits_range low high) (t ∷ tables)
      by_found rest None is = omega (arith, rest, here)
      by_found rest (Some key) is = omega (arith, rest, here, ap one_if (admits_there o t held.0 key is))

-- ---- crossed bounds open nothing

none_crossed : (low high : Bytes) → is_before high low ≡ true → (opened : List Opened) → numbers_admitting low (Some high) opened ≡ []
none_crossed low high crossed [] = refl
none_crossed low high crossed (o ∷ opened) =
    ap (λ (b : Bool). cond (is_some (cond (not b && ranged o.filter.real_bits o.filter.leaves low high) (key_up_to (Some high) (waking_from low o)) None)) (length opened ∷ numbers_admitting low (Some high) opened)
    (numbers_admitting low (Some high) opened)) crossed
    ∙ none_crossed low high crossed opened

few_numbers : (low : Bytes) (high : Option Bytes) (opened : List Opened) → length (numbers_admitting low high opened) ≤ length opened
few_numbers low high [] = omega arith
few_numbers low high (o ∷ opened) = elim (admits_keys low high o) as (λ b. length (cond b (length opened ∷ numbers_admitting low high opened) (numbers_admitting low high opened)) ≤ suc (length opened)) [
  | true ↦ omega (arith, few_numbers low high opened)
  | false ↦ omega (arith, few_numbers low high opened)
]

module _ (blocks : StandingBlocks) (walks : StandingWalks) (spelling : Spelling) (s : State) (image : Image) (low : Bytes) (opened : List Opened) (held : TablesAgree spelling opened s.tables image) where
  abbrev starts : Option Bytes → List TableWalk
  starts high = map (start blocks walks spelling image low opened) (numbers_admitting low high opened)

  abbrev owed_on_way : Bytes → TableWalk → ℕ
  owed_on_way high = owed (λ (key : Bytes). is_up_to (Some high) key && is_passed (seek (state_map s) low (Some high)) key) (record { key = low; passed = false }) opened image

  abbrev near : Bytes → Bytes
  near high = looks_to (state_map s) low high

  -- what the walks owe that wake on the way to the answer of a closed seek
  pub owed_bound : StandingKeys → AllByRecursion IsSoundTable s.tables → IsBytes low → (high : Bytes)
      → sum_by (owed_on_way high) (woken_up_to (Some (near high)) (keys_admitting low (Some high) opened) (starts (Some high))) ≤ seek_bound s low high
  owed_bound found sound low_bytes high = by_order (is_before high low) refl
    where
      by_order : (crossed : Bool) → is_before high low ≡ crossed
          → sum_by (owed_on_way high) (woken_up_to (Some (near high)) (keys_admitting low (Some high) opened) (starts (Some high)))
          ≤ cond crossed 0 (sum_by (λ (t : Table). suc (stepped (state_map s) low high t)) (filter (admits_range low (near high)) s.tables))
      by_order true is =
          omega (
            arith,
            ap (λ (l : List ℕ). sum_by (owed_on_way high) (woken_up_to (Some (near high)) (keys_admitting low (Some high) opened) (map (start blocks walks spelling image low opened) l))) (none_crossed low high is opened),
            none_woken (owed_on_way high) (Some (near high)) (keys_admitting low (Some high) opened),
          )
      by_order false is = owed_behind blocks walks spelling image low found low_bytes high (near high) (seek (state_map s) low (Some high)) [] opened s.tables held sound

  pub may_read : (high : Option Bytes) → 1 ≤ length (numbers_admitting low high opened) → MayRead s low high
  may_read None some = λ none.
      omega (arith, some, few_numbers low None opened, as_many spelling image opened s.tables held, ap (λ (ts : List Table). length ts) none)
  may_read (Some high) some = by_order (is_before high low) refl
    where
      by_order : (crossed : Bool) → is_before high low ≡ crossed → 0 < cond crossed 0 (count_by (admits_range low high) s.tables)
      by_order true is = absurd (omega (arith, some, ap (λ (l : List ℕ). length l) (none_crossed low high is opened)))
      by_order false is = omega (arith, some, some_behind spelling image low high opened s.tables held)
