-- The entries of a memory table that are left.
use Rattle.std.proofs.Common.{◌≡◌, List, [], ◌∷◌, sym, subst, true, false, cond}
use Rattle.std.specs.Prelude.{Option, Some, None, MatchOption, not}
use Rattle.std.specs.List.{AllByRecursion}
use Rattle.std.specs.Option.{option_map}
use Rattle.entry_model.specs.Entries.{Entry, IsEntry}
use Rattle.entry_model.specs.Newest.{KeysRise, entries_from}
use Rattle.key_base.specs.ByteOrder.{is_before}
use Rattle.map_model.specs.SortedMap.{Bytes}
use Rattle.merge_rows.specs.Merges.{with_hand}
use Rattle.table_file.specs.Walks.{others_of}

-- entries from a key on are entries
pub entries_kept : (low : Bytes) (entries : List Entry) → AllByRecursion IsEntry entries → AllByRecursion IsEntry (entries_from entries low)
entries_kept low [] all = tt
entries_kept low (e ∷ later) all = elim (not (is_before e.key low)) as (λ t. AllByRecursion IsEntry (cond t (e ∷ entries_from later low) (entries_from later low))) [
  | true ↦ (all.0, entries_kept low later all.1)
  | false ↦ entries_kept low later all.1
]

-- the first of them at hand, and the others after it
pub taken_whole : {T : Type 0} (entry : T → Entry) (first : Option T) (old new : List Entry)
    → MatchOption first ((old ≡ []) × (new ≡ [])) (λ found. old ≡ entry found ∷ new) → AllByRecursion IsEntry old
    → (first ≡ None → new ≡ []) × AllByRecursion IsEntry (with_hand (option_map entry first) new)
taken_whole entry None old new is all = ((λ _. is.1), subst (AllByRecursion IsEntry) (sym is.1) tt)
taken_whole entry (Some found) old new is all = ((λ none. absurd cc), subst (AllByRecursion IsEntry) is all)

pub rises_others : (entries : List Entry) → KeysRise entries → KeysRise (others_of entries)
rises_others [] rises = tt
rises_others (e ∷ later) rises = rises.1
