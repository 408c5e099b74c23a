-- The keys of the tables of one deeper level rise from table to table, so their entries are those of the state.
use Rattle.std.proofs.Common.{◌≡◌, ◌∙◌, ◌==◌, ◌+◌, ℕ, zero, suc, true, false, cond, not, List, [], ◌∷◌, ◌++◌, length, inl, inr, refl, sym, ap, subst, arith}
use Rattle.std.specs.Prelude.{◌&&◌, Option, Some, None, bytes_eq}
use Rattle.std.proofs.lemmas.Bool.{and_parts, eqb-true}
use Rattle.std.proofs.lemmas.List.Sums.{sum_by-cons}
use Rattle.std.specs.Cmp.Lexicographic.{nat_list_cmp_total}
use Rattle.std.specs.List.{AllByRecursion, sum_by}
use Rattle.std.specs.Option.{option_or}
use Rattle.block_model.proofs.Cutting.{all_append}
use Rattle.block_model.specs.Laws.{joined}
use Rattle.byte_fields.specs.declared.parts.Row.{Row}
use Rattle.disk_trait.specs.Image.{Image}
use Rattle.entry_model.proofs.Maps.{entries_rise}
use Rattle.entry_model.specs.Entries.{Entry, first_key, last_key, live}
use Rattle.entry_model.specs.Newest.{ComesBehind, KeysRise, lookup}
use Rattle.extent_model.proofs.Lists.{Pairs, pairs_of as each_with_later}
use Rattle.filter_api.specs.Spellings.{Spelling}
use Rattle.image_model.proofs.OnlyEntries.{state_has_entries}
use Rattle.image_model.proofs.Sound.{state_sound}
use Rattle.image_model.specs.Stands.{IsStateOf}
use Rattle.image_model.specs.Tables.{AreTablesOf}
use Rattle.key_base.specs.ByteOrder.{IsBefore}
use Rattle.map_model.specs.SortedMap.{Bytes, Rises}
use Rattle.range_model.specs.Sources.{Change, source_of}
use Rattle.state_model.proofs.Disjoint.{below_greatest}
use Rattle.state_model.proofs.SameMaps.{one_map}
use Rattle.state_model.proofs.Sayings.{AllRise, lists_of}
use Rattle.state_model.proofs.Views.{tables_rise, view_says}
use Rattle.state_model.proofs.WithoutRanges.{map_alone, view_alone}
use Rattle.state_model.specs.Sound.{IsSound, StandsBefore}
use Rattle.state_model.specs.State.{State}
use Rattle.state_model.specs.View.{memory, state_map}
use Rattle.state_model.specs.WithoutRanges.{HasOnlyEntries, first_found, table_entries}
use Rattle.store_check.proofs.Lives.{pairs_of, pairs_rise, pairs_say, with_pair}
use Rattle.store_check.specs.Values.{OneLevelHasItsValues, all_on, are_on_one_level, table_values, values_in, with_value}
use Rattle.table_model.specs.Tables.{FilterBytes, Table}

-- ---- keys of lists, one after the other

before_all : (low key : Bytes) (entries : List Entry) → IsBefore low key → AllByRecursion (ComesBehind key) entries → AllByRecursion (ComesBehind low) entries
before_all low key [] less above = tt
before_all low key (e ∷ later) less above = (nat_list_cmp_total.trans low key e.key less above.0, before_all low key later less above.1)

from_first : (low : Bytes) (entries : List Entry) → KeysRise entries → IsBefore low (first_key entries) → AllByRecursion (ComesBehind low) entries
from_first low [] rises less = tt
from_first low (e ∷ later) rises less = (less, before_all low e.key later less rises.0)

to_last : (low : Bytes) (e : Entry) (later : List Entry) → AllByRecursion (ComesBehind low) (e ∷ later) → IsBefore low (last_key (e ∷ later))
to_last low e [] above = above.0
to_last low e (next ∷ later) above = to_last low next later above.1

rise_joined : (xs ys : List Entry) → KeysRise xs → KeysRise ys → AllByRecursion (ComesBehind (last_key xs)) ys → KeysRise (xs ++ ys)
rise_joined [] ys first second above = second
rise_joined (x ∷ []) ys first second above = (above, second)
rise_joined (x ∷ next ∷ later) ys first second above = (
  all_append (ComesBehind x.key) (next ∷ later) ys first.0 (before_all x.key (last_key (next ∷ later)) ys (to_last x.key next later first.0) above),
  rise_joined (next ∷ later) ys first.1 second above,
)

-- ---- tables on one level

abbrev IsOn : ℕ → Table → Type 0
IsOn level t = t.level ≡ level

module _ (level : ℕ) (deep : level ≡ 0 → ⊥) where
  above_table : (t : Table) (later : List Table) → IsOn level t → AllByRecursion (IsOn level) later → AllByRecursion (StandsBefore t) later → AllRise (lists_of later)
      → AllByRecursion (ComesBehind (last_key t.entries)) (joined (lists_of later))
  above_table t [] on all stands rise = tt
  above_table t (u ∷ later) on all stands rise =
      all_append (ComesBehind (last_key t.entries)) u.entries (joined (lists_of later)) here (above_table t later on all.1 stands.1 rise.1)
    where
      here : AllByRecursion (ComesBehind (last_key t.entries)) u.entries
      here = elim stands.0 [
        | inl less ↦ absurd (omega (arith, less, on, all.0))
        | inr same ↦ elim same.1 [
          | inl none ↦ absurd (deep (sym on ∙ none))
          | inr below ↦ from_first (last_key t.entries) u.entries rise.0 (below_greatest t (first_key u.entries) below)
        ]
      ]

  rise_on : (tables : List Table) → AllByRecursion (IsOn level) tables → Pairs StandsBefore tables → AllRise (lists_of tables) → KeysRise (joined (lists_of tables))
  rise_on [] on pairs rise = tt
  rise_on (t ∷ later) on pairs rise = rise_joined t.entries (joined (lists_of later)) rise.0 (rise_on later on.1 pairs.1 rise.1) (above_table t later on.0 on.1 pairs.0 rise.1)

on_level : (level : ℕ) (spelling : Spelling) (image : Image) (rows : List Row) (tables : List Table) → AreTablesOf spelling rows tables image → all_on level rows ≡ true → AllByRecursion (IsOn level) tables
on_level level spelling image [] [] are on = tt
on_level level spelling image [] (t ∷ tables) are on = elim are [ ]
on_level level spelling image (row ∷ rows) [] are on = elim are [ ]
on_level level spelling image (row ∷ rows) (t ∷ tables) are on =
    let both = and_parts (row.level == level) (all_on level rows) on in
    (ap (λ (u : Table). u.level) are.0.2 ∙ eqb-true row.level level both.0, on_level level spelling image rows tables are.1 both.1)

-- ---- what they say, and how much

found_in_both : (xs ys : List Entry) (key : Bytes) → lookup (xs ++ ys) key ≡ option_or (lookup xs key) (lookup ys key)
found_in_both [] ys key = refl
found_in_both (x ∷ xs) ys key = elim (bytes_eq x.key key) as (λ t. cond t (Some x.value) (lookup (xs ++ ys) key) ≡ option_or (cond t (Some x.value) (lookup xs key)) (lookup ys key)) [
  | true ↦ refl
  | false ↦ found_in_both xs ys key
]

found_joined : (lists : List (List Entry)) (key : Bytes) → lookup (joined lists) key ≡ first_found lists key
found_joined [] key = refl
found_joined (entries ∷ older) key = found_in_both entries (joined older) key ∙ ap (option_or (lookup entries key)) (found_joined older key)

pub values_of_both : (xs ys : List Entry) → values_in (xs ++ ys) ≡ values_in xs + values_in ys
values_of_both [] ys = omega arith
values_of_both (e ∷ later) ys = by_value (values_of_both later ys) e.value
  where
    by_value : values_in (later ++ ys) ≡ values_in later + values_in ys → (value : Option Bytes) → with_value value (values_in (later ++ ys)) ≡ with_value value (values_in later) + values_in ys
    by_value rest None = rest
    by_value rest (Some value) = omega (arith, rest)

values_of_lists : (tables : List Table) → values_in (joined (lists_of tables)) ≡ sum_by table_values tables
values_of_lists [] = refl
values_of_lists (t ∷ later) = omega (arith, values_of_both t.entries (joined (lists_of later)), values_of_lists later, sum_by-cons table_values t later)

pairs_many : (entries : List Entry) → length (pairs_of entries) ≡ values_in entries
pairs_many [] = refl
pairs_many (e ∷ later) = by_value (pairs_many later) e.value
  where
    by_value : length (pairs_of later) ≡ values_in later → (value : Option Bytes) → length (with_pair e.key value (pairs_of later)) ≡ with_value value (values_in later)
    by_value rest None = rest
    by_value rest (Some value) = ap suc rest

-- ---- the state

no_bytes : FilterBytes
no_bytes settings keys = []

deeper : (level : ℕ) → not (level == 0) ≡ true → level ≡ 0 → ⊥
deeper zero deep is = absurd cc
deeper (suc level) deep is = absurd cc

module _ (spelling : Spelling) (image : Image) (s : State) (is : IsStateOf spelling s image) (none : s.log ≡ []) where
  lists_rise : (rows : List Row) (tables : List Table) → AreTablesOf spelling rows tables image → are_on_one_level rows ≡ true → Pairs StandsBefore tables → AllRise (lists_of tables)
      → KeysRise (joined (lists_of tables))
  lists_rise [] [] are on pairs rise = tt
  lists_rise [] (t ∷ tables) are on pairs rise = elim are [ ]
  lists_rise (row ∷ rows) [] are on pairs rise = tt
  lists_rise (row ∷ rows) (t ∷ tables) are on pairs rise =
      let both = and_parts (not (row.level == 0)) (all_on row.level rows) on in
      let same : t.level ≡ row.level = ap (λ (u : Table). u.level) are.0.2 in
      rise_on row.level (deeper row.level both.0) (t ∷ tables) (same, on_level row.level spelling image rows tables are.1 both.1) pairs rise

  sound : IsSound no_bytes s
  sound = state_sound spelling no_bytes s image is

  only : HasOnlyEntries s is.1.named.entries
  only = state_has_entries spelling is.0 s image is.1.named

  all : List Entry
  all = joined (lists_of s.tables)

  pairs_are : KeysRise all → pairs_of all ≡ state_map s
  unfolding all
  pairs_are rise = one_map (pairs_of all) (state_map s) (pairs_rise all rise)
      (subst Rises (sym (map_alone s is.1.named.entries only)) (entries_rise [] (table_entries s.tables ++ is.1.named.entries) tt))
      (λ key. pairs_say all key rise
      ∙ ap live (found_joined (lists_of s.tables) key
      ∙ sym (ap (λ (log : List Change). option_or (lookup (source_of log).entries key) (first_found (lists_of s.tables) key)) none)
      ∙ sym (view_alone s is.1.named.entries key only))
      ∙ sym (view_says no_bytes s key sound))

  pub pairs_of_values : are_on_one_level is.0.rows ≡ true → length (state_map s) ≡ sum_by table_values s.tables
  unfolding all
  pairs_of_values on =
      let rise = lists_rise is.0.rows s.tables is.1.named.tables on (each_with_later StandsBefore s.tables is.1.named.order) (tables_rise s.tables sound.tables) in
      sym (ap length (pairs_are rise)) ∙ pairs_many all ∙ values_of_lists s.tables

pub one_level_has_its_values : OneLevelHasItsValues
one_level_has_its_values spelling image s is none on = pairs_of_values spelling image s is none on
