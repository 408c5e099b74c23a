-- Entries of either format that break no rule can be walked, the first of them with no key before it.
use Rattle.std.proofs.Common.{◌≡◌, ◌≤◌, ◌+◌, ◌-◌, ◌*◌, ℕ, zero, suc, false, List, [], ◌∷◌, length, take, drop, sym, ap, ap₂, ◌∙◌, subst, arith}
use Rattle.std.specs.Prelude.{Option, Some, None, not, nat_lt, ◌||◌}
use Rattle.std.specs.List.{AllByRecursion}
use Rattle.std.proofs.lemmas.Bool.{eqb-true, ltb-false, or_parts}
use Rattle.std.proofs.lemmas.List.{drop-take}
use Rattle.byte_fields.specs.Faults.{refuse}
use Rattle.byte_fields.specs.Spelling.{IsBytes}
use Rattle.key_base.specs.ByteOrder.{is_before}
use Rattle.key_base.specs.Limits.{is_no_key_length}
use Rattle.map_model.specs.SortedMap.{Bytes}
use Rattle.entry_model.specs.Entries.{Entry, IsEntry}
use Rattle.entry_model.specs.Newest.{entries_from}
use Rattle.block_model.specs.Block.{IsEntryOf}
use Rattle.block_model.specs.BlockReading.{block_fault, block_fault_by, block_in, block_in_by, count_in, entries_fault_by, entries_part_by, entries_place, entry_fault_by, has_wrong_kind, shares_otherwise, used_in}
use Rattle.block_model.specs.Formats.{Format, Old, Prefixed, entries_by, entry_head_by, format_in, key_by, listed_in, most_value, rest_length_in, shared_in, value_length_by, wants_shared, width_by}
use Rattle.block_model.proofs.OldEntriesWritten.{key_length_sound}
use Rattle.block_model.proofs.ListedEntries.{listed_are_later, listed_break_none}
use Rattle.block_model.proofs.EitherFormat.{either_written}
use Rattle.block_model.proofs.EntryBodies.{wants_few}
use Rattle.block_model.proofs.Refusals.{kept, neither, not_false}
use Rattle.block_format.specs.Finding.{IsGroupOf, IsHeadOf}
use Rattle.block_format.specs.Walking.{kept_from}
use Rattle.block_format.specs.Walking.{BeginsFor, IsHere, StandBy, StandsAfter, part_walked, walked}
use Rattle.block_format.specs.declared.header.BlockHead.{BlockHead}
use Rattle.block_format.specs.declared.format.BlockFormat.TheVariants as code
use Rattle.block_format.specs.declared.walk.EntryWalk.{EntryWalk}
use Rattle.block_format.proofs.Groups.{from_group, group_part, place_fits}
use Rattle.block_format.proofs.Spans.{kept_sound}

few_shared : (f : Format) (i : ℕ) (before rest : Bytes) → shares_otherwise f i before rest ≡ false → shared_in f rest ≤ length before
few_shared Old i before rest right = omega arith
few_shared Prefixed i before rest right =
    let same = eqb-true (shared_in Prefixed rest) (wants_shared i before (key_by Prefixed before rest)) (not_false _ right) in
    omega (arith, same, (wants_few i before (key_by Prefixed before rest)).0)

one_here : (f : Format) (i place : ℕ) (before rest : Bytes) → entry_fault_by f i place before rest ≡ None → IsHere f before rest
unfolding entry_fault_by
one_here f i place before rest none =
    let above = not (is_before before (key_by f before rest)) in
    let last = refuse above place 6 None in
    let share = refuse (shares_otherwise f i before rest) place 10 last in
    let past = nat_lt (length rest) (width_by f rest) in
    let whole = refuse past place 3 share in
    let long_key = is_no_key_length (shared_in f rest + rest_length_in f rest) in
    let long_value = nat_lt (most_value f) (value_length_by f rest) in
    let lengths = refuse (long_key || long_value) place 5 whole in
    let kinds = refuse (has_wrong_kind f rest) place 4 lengths in
    let a = kept (nat_lt (length rest) (entry_head_by f)) place 3 kinds none in
    let b = kept (has_wrong_kind f rest) place 4 lengths a.1 in
    let c = kept (long_key || long_value) place 5 whole b.1 in
    let d = kept past place 3 share c.1 in
    let e = kept (shares_otherwise f i before rest) place 10 last d.1 in
    let g = kept above place 6 None e.1 in
    record {
      within = ltb-false (length rest) (width_by f rest) d.0;
      shared = few_shared f i before rest e.0;
      short = (key_length_sound (shared_in f rest + rest_length_in f rest) (or_parts long_key long_value c.0).0).1;
      above = not_false (is_before before (key_by f before rest)) g.0;
    }

pub stand_by : (f : Format) (bytes : Bytes) (i n place : ℕ) (before rest : Bytes) → entries_fault_by f bytes i n place before rest ≡ None → StandBy f n before rest
unfolding entries_fault_by
stand_by f bytes i zero place before rest none = tt
stand_by f bytes i (suc n) place before rest none =
    let both = neither _ _ (kept _ _ _ _ none).1 in
    let w = width_by f rest in
    (one_here f i place before rest both.0, stand_by f bytes (suc i) n (place + w) (key_by f before rest) (drop w rest) both.1)

-- each of them is an entry, whatever the format
entry_of_format : (f : Format) (e : Entry) → IsEntryOf f e → IsEntry e
entry_of_format Old e is = is.sound
entry_of_format Prefixed e is = is

entries_sound : (f : Format) (es : List Entry) → AllByRecursion (IsEntryOf f) es → AllByRecursion IsEntry es
entries_sound f [] each = tt
entries_sound f (e ∷ es) each = (entry_of_format f e each.0, entries_sound f es each.1)

pub sound_kept : (low : Option Bytes) (bytes : Bytes) → IsBytes bytes → block_fault bytes ≡ None → AllByRecursion IsEntry (kept_from low (block_in bytes))
sound_kept None bytes is none = entries_sound (format_in bytes) (block_in bytes) (either_written bytes is none).0.each
sound_kept (Some low) bytes is none = kept_sound IsEntry low (block_in bytes) (entries_sound (format_in bytes) (block_in bytes) (either_written bytes is none).0.each)

-- ---- by what the header says

module _ (head : BlockHead) (bytes : Bytes) (is : IsHeadOf head bytes) where
  abbrev f : Format
  f = format_in bytes

  none_broken : entries_fault_by f bytes 0 (count_in bytes) (entries_place f bytes) [] (entries_part_by f bytes) ≡ None
  unfolding block_fault_by
  none_broken = (neither _ _ (neither _ _ is.whole).1).0

  -- all entries
  abbrev all : EntryWalk
  all = record { format = head.format; at = head.from; end = head.used; left = head.count; key_length = 0 }

  part_is : part_walked all bytes ≡ entries_part_by f bytes
  unfolding entries_part_by
  part_is =
      let sum : head.from + (head.used - head.from) ≡ head.used = omega (arith, is.within) in
      sym (drop-take head.from (head.used - head.from) bytes)
      ∙ ap (λ (k : ℕ). drop head.from (take k bytes)) sum
      ∙ ap₂ (λ (p u : ℕ). drop p (take u bytes)) is.from is.used

  all_stand : StandBy f head.count [] (part_walked all bytes)
  all_stand =
      subst (λ (n : ℕ). StandBy f n [] (part_walked all bytes)) (sym is.count)
      (subst (λ (l : Bytes). StandBy f (count_in bytes) [] l) (sym part_is) (stand_by f bytes 0 (count_in bytes) (entries_place f bytes) [] (entries_part_by f bytes) none_broken))

  pub stands_all : (buffer : Bytes) → StandsAfter all buffer bytes
  stands_all buffer = record {
    within = is.within;
    inside = is.inside;
    held = omega arith;
    entries = subst (λ (g : Format). StandBy g head.count [] (part_walked all bytes)) (sym is.format) all_stand;
  }

  pub walked_all : (buffer : Bytes) → walked all buffer bytes ≡ block_in bytes
  unfolding block_in_by
  walked_all buffer =
      ap (λ (g : Format). entries_by g head.count [] (part_walked all bytes)) is.format
      ∙ ap₂ (λ (n : ℕ) (l : Bytes). entries_by f n [] l) is.count part_is

  pub begins_all : (low : Bytes) → BeginsFor low all bytes
  begins_all low = record { stands = stands_all; entries = λ buffer. ap (λ (es : List Entry). entries_from es low) (walked_all buffer) }

  -- those from a group on
  module _ (format : format_in bytes ≡ Prefixed) (low : Bytes) (group at left : ℕ) (of : IsGroupOf bytes low group) (at_is : at ≡ listed_in bytes group)
      (left_is : left ≡ head.count - 16 * group) where
    abbrev later : EntryWalk
    later = record { format = code.Prefixed; at = at; end = head.used; left = left; key_length = 0 }

    rest_is : part_walked later bytes ≡ drop (listed_in bytes group) (take (used_in bytes) bytes)
    rest_is = group_part head bytes is format group at at_is of.inside

    many : left ≡ count_in bytes - 16 * group
    many = left_is ∙ ap (λ (n : ℕ). n - 16 * group) is.count

    later_stand : StandBy Prefixed left [] (part_walked later bytes)
    later_stand =
        subst (λ (n : ℕ). StandBy Prefixed n [] (part_walked later bytes)) (sym many)
        (subst (λ (l : Bytes). StandBy Prefixed (count_in bytes - 16 * group) [] l) (sym rest_is)
        (stand_by Prefixed bytes (16 * group) (count_in bytes - 16 * group) (listed_in bytes group) [] _ (listed_break_none bytes format is.whole group of.inside)))

    pub begins_group : BeginsFor low later bytes
    begins_group = record {
      stands = λ buffer. record {
        within = omega (arith, at_is, place_fits head bytes is format group of.inside);
        inside = is.inside;
        held = omega arith;
        entries = later_stand;
      };
      entries = λ buffer.
          ap₂ (λ (n : ℕ) (l : Bytes). entries_from (entries_by Prefixed n [] l) low) many rest_is
          ∙ ap (λ (es : List Entry). entries_from es low) (listed_are_later bytes format is.whole group of.inside [])
          ∙ sym (from_group bytes format is.whole low group of);
    }
