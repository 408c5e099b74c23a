-- What a sound state says of a key keeps the limit of values.
use Rattle.std.proofs.Common.{◌≡◌, ◌≤◌, List, [], ◌∷◌, length, sym, ap, ◌∙◌, subst, Bool, true, false, cond}
use Rattle.std.specs.List.{AllByRecursion}
use Rattle.std.specs.Option.{option_or}
use Rattle.std.specs.Prelude.{Option, Some, None, bytes_eq}
use Rattle.entry_model.specs.Entries.{Entry, IsEntry, bytes_of, live}
use Rattle.entry_model.specs.Newest.{lookup}
use Rattle.map_model.specs.SortedMap.{Bytes, get}
use Rattle.range_model.specs.Ranges.{covers}
use Rattle.range_model.specs.Sources.{Source, cleared, first_said, says}
use Rattle.state_model.proofs.SoundLogs.{changes_entries, logged_changes}
use Rattle.state_model.proofs.Views.{view_says}
use Rattle.state_model.specs.Sound.{IsSound, IsSoundTable}
use Rattle.state_model.specs.State.{State}
use Rattle.state_model.specs.View.{in_memory, sources_of, state_map, view}
use Rattle.table_model.specs.Tables.{FilterBytes, Table, as_source}

entry_short : (entry : Entry) (value : Bytes) → IsEntry entry → Some entry.value ≡ Some (Some value) → length value ≤ 1048576
entry_short entry value sound is = let said : entry.value ≡ Some value = cc in subst (λ (v : Option Bytes). length (bytes_of v) ≤ 1048576) said sound.short_value

lookup_short : (entries : List Entry) (key value : Bytes) → AllByRecursion IsEntry entries → lookup entries key ≡ Some (Some value) → length value ≤ 1048576
lookup_short [] key value sound is = absurd cc
lookup_short (entry ∷ later) key value sound is =
    elim (bytes_eq entry.key key) as (λ t. cond t (Some entry.value) (lookup later key) ≡ Some (Some value) → length value ≤ 1048576) [
      | true ↦ λ then. entry_short entry value sound.0 then
      | false ↦ λ then. lookup_short later key value sound.1 then
    ] is

or_short : (a b : Option (Option Bytes)) (value : Bytes) (P : Type 0) → (a ≡ Some (Some value) → P) → (b ≡ Some (Some value) → P) → option_or a b ≡ Some (Some value) → P
or_short None b value P first then is = then is
or_short (Some said) b value P first then is = first is

-- a deleted range says no value
no_value : (covered : Bool) (value : Bytes) (P : Type 0) → cleared covered ≡ Some (Some value) → P
no_value true value P is = absurd cc
no_value false value P is = absurd cc

says_short : (source : Source) (key value : Bytes) → AllByRecursion IsEntry source.entries → says source key ≡ Some (Some value) → length value ≤ 1048576
says_short source key value sound is =
    or_short (lookup source.entries key) (cleared (covers source.ranges key)) value (length value ≤ 1048576) (lookup_short source.entries key value sound)
    (no_value (covers source.ranges key) value (length value ≤ 1048576)) is

first_short : (tables : List Table) (key value : Bytes) → AllByRecursion IsSoundTable tables → first_said (sources_of tables) key ≡ Some (Some value) → length value ≤ 1048576
first_short [] key value sound is = absurd cc
first_short (t ∷ older) key value sound is =
    or_short (says (as_source t) key) (first_said (sources_of older) key) value (length value ≤ 1048576)
    (says_short (as_source t) key value sound.0.entries.sound.each) (first_short older key value sound.1) is

live_some : (found : Option (Option Bytes)) (value : Bytes) → Some value ≡ live found → found ≡ Some (Some value)
live_some None value is = absurd cc
live_some (Some said) value is = ap Some (sym is)

pub value_short : (filter_bytes : FilterBytes) (s : State) (key value : Bytes) → IsSound filter_bytes s → Some value ≡ get (state_map s) key → length value ≤ 1048576
value_short filter_bytes s key value sound is =
    or_short (says (in_memory s) key) (first_said (sources_of s.tables) key) value (length value ≤ 1048576)
    (says_short (in_memory s) key value (changes_entries s.log (logged_changes s.log sound.log))) (first_short s.tables key value sound.tables)
    (live_some (view s key) value (is ∙ view_says filter_bytes s key sound))
