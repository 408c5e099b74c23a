-- Where the log sets entries and no table has a range, the words of a state are those of its entries.
use Rattle.std.proofs.Common.{◌≡◌, List, [], ◌∷◌, ◌++◌, map, refl, sym, ap, ap₂, ◌∙◌, Bool, true, false, not}
use Rattle.std.specs.Prelude.{◌&&◌, filter, fold, Option}
use Rattle.std.specs.List.{AllByRecursion}
use Rattle.std.specs.Option.{option_or}
use Rattle.std.proofs.lemmas.List.{map-append}
use Rattle.key_base.specs.ByteOrder.{Bytes, is_before}
use Rattle.map_model.specs.SortedMap.{Map}
use Rattle.entry_model.specs.Entries.{Entry, changed, filled, gap, map_of}
use Rattle.entry_model.specs.Newest.{lookup, newest_entries}
use Rattle.range_model.specs.ChangedMaps.{map_changed_by, map_of_changes}
use Rattle.range_model.specs.Ranges.{DeletedRange, covers}
use Rattle.range_model.specs.Sources.{Change, Clears, Sets, Source, alone, cleared, first_said, says, source_of}
use Rattle.range_model.specs.Reach.{reach}
use Rattle.range_model.proofs.SameSource.{sets_alone}
use Rattle.range_model.proofs.Silence.{before_none}
use Rattle.range_model.proofs.SoundOutputs.{no_ranges}
use Rattle.table_model.specs.Tables.{Table}
use Rattle.state_model.specs.State.{State}
use Rattle.state_model.specs.Logs.{filled_by, gap_after}
use Rattle.state_model.specs.View.{changes_of, in_memory, memory, oldest_first, sources_of, state_map, view}
use Rattle.state_model.specs.Merges.{Plan, cut_for, greater_key, greatest_key, greatest_of, has_value, is_deepest, lasting, lasting_of, least_key, least_of, reaches_into, merged_of, outputs_for, planned, reach_of}
use Rattle.state_model.specs.Changes.{compacted_outputs, live_entries}
use Rattle.state_model.specs.WithoutRanges.{HasNoRange, HasOnlyEntries, first_found, table_entries}
use Rattle.state_model.proofs.Sayings.{or_none}
use Rattle.state_model.proofs.SoundLogs.{recorded_sets}

pub memory_alone : (s : State) (entries : List Entry) → HasOnlyEntries s entries → in_memory s ≡ alone (newest_entries entries)
memory_alone s entries is = ap source_of is.log ∙ sets_alone entries

pub sets_of : (tables : List Table) → AllByRecursion HasNoRange tables → oldest_first tables ≡ map Sets (table_entries tables)
sets_of [] none = refl
sets_of (t ∷ more) none =
    ap₂ (λ (l r : List Change). l ++ r) (sets_of more none.1) (ap (λ (ranges : List DeletedRange). map Clears ranges ++ map Sets t.entries) none.0)
    ∙ sym (map-append Sets (table_entries more) t.entries)

pub merged_alone : (tables : List Table) → AllByRecursion HasNoRange tables → merged_of tables ≡ alone (newest_entries (table_entries tables))
merged_alone tables none = ap source_of (sets_of tables none) ∙ sets_alone (table_entries tables)

cut_alone : (is_last : Bool) (inputs : List Table) (entries : List Entry) → cut_for inputs (lasting_of is_last (alone entries)) ≡ map alone (outputs_for inputs (lasting is_last entries))
cut_alone true inputs entries = no_ranges (outputs_for inputs (filter (λ (e : Entry). has_value e.value) entries))
cut_alone false inputs entries = no_ranges (outputs_for inputs entries)

pub planned_alone : (tables : List Table) (plan : Plan) → AllByRecursion HasNoRange plan.inputs
    → planned tables plan ≡ map alone (outputs_for plan.inputs (lasting (is_deepest tables plan.output) (newest_entries (table_entries plan.inputs))))
planned_alone tables plan none = ap (λ (s : Source). cut_for plan.inputs (lasting_of (is_deepest tables plan.output) s)) (merged_alone plan.inputs none)
    ∙ cut_alone (is_deepest tables plan.output) plan.inputs (newest_entries (table_entries plan.inputs))

pub changes_alone : (s : State) (entries : List Entry) → HasOnlyEntries s entries → changes_of s ≡ map Sets (table_entries s.tables ++ entries)
changes_alone s entries is = ap₂ (λ (l r : List Change). l ++ r) (sets_of s.tables is.tables) is.log ∙ sym (map-append Sets (table_entries s.tables) entries)

pub live_alone : (s : State) (entries : List Entry) → HasOnlyEntries s entries
    → live_entries s ≡ filter (λ (e : Entry). has_value e.value) (newest_entries (table_entries s.tables ++ entries))
live_alone s entries is =
    ap (λ (changes : List Change). filter (λ (e : Entry). has_value e.value) (source_of changes).entries) (changes_alone s entries is)
    ∙ ap (λ (source : Source). filter (λ (e : Entry). has_value e.value) source.entries) (sets_alone (table_entries s.tables ++ entries))

pub compacted_alone : (s : State) → compacted_outputs s ≡ map alone (outputs_for s.tables (live_entries s))
compacted_alone s = no_ranges (outputs_for s.tables (live_entries s))

-- ---- what is said of a key, and the map

said_alone : (entries : List Entry) (ranges : List DeletedRange) (key : Bytes) → ranges ≡ [] → says (record { entries = entries; ranges = ranges }) key ≡ lookup entries key
said_alone entries ranges key none =
    ap (λ (l : List DeletedRange). option_or (lookup entries key) (cleared (covers l key))) none ∙ or_none (lookup entries key)

pub found_alone : (tables : List Table) (key : Bytes) → AllByRecursion HasNoRange tables → first_said (sources_of tables) key ≡ first_found (map (λ (t : Table). t.entries) tables) key
found_alone [] key none = refl
found_alone (t ∷ older) key none = ap₂ (λ (a b : Option (Option Bytes)). option_or a b) (said_alone t.entries t.ranges key none.0) (found_alone older key none.1)

pub view_alone : (s : State) (entries : List Entry) (key : Bytes) → HasOnlyEntries s entries → view s key ≡ first_found (memory s ∷ map (λ (t : Table). t.entries) s.tables) key
view_alone s entries key is =
    ap₂ (λ (a b : Option (Option Bytes)). option_or a b)
    (said_alone (memory s) (in_memory s).ranges key (ap (λ (source : Source). source.ranges) (memory_alone s entries is)))
    (found_alone s.tables key is.tables)

sets_make : (before : Map) (entries : List Entry) → fold map_changed_by before (map Sets entries) ≡ fold changed before entries
sets_make before [] = refl
sets_make before (e ∷ more) = sets_make (changed before e) more

pub map_alone : (s : State) (entries : List Entry) → HasOnlyEntries s entries → state_map s ≡ map_of (table_entries s.tables ++ entries)
map_alone s entries is = ap map_of_changes (changes_alone s entries is) ∙ sets_make [] (table_entries s.tables ++ entries)

-- ---- which tables meet

no_reach : (tables : List Table) → AllByRecursion HasNoRange tables → reach_of tables ≡ []
no_reach [] none = refl
no_reach (t ∷ more) none = ap (λ (ranges : List DeletedRange). fold (λ key (u : Table). greater_key key (reach u.ranges)) (greater_key [] (reach ranges)) more) none.0 ∙ no_reach more none.1

by_key : (below : Bool) (key end : Bytes) → end ≡ [] → (below && not (is_before key end)) ≡ below
by_key below key end none = ap (λ (k : Bytes). below && not (is_before key k)) none ∙ ap (λ (b : Bool). below && not b) (before_none key) ∙ and_true below
  where
    and_true : (b : Bool) → (b && true) ≡ b
    and_true true = refl
    and_true false = refl

pub meets_alone : (tables : List Table) (t : Table) → AllByRecursion HasNoRange tables → HasNoRange t
    → reaches_into tables t ≡ (not (is_before (greatest_key t) (least_of tables)) && not (is_before (greatest_of tables) (least_key t)))
meets_alone tables t none own = ap₂ (λ (x y : Bool). not x && not y)
    (by_key (is_before (greatest_key t) (least_of tables)) (least_of tables) (reach t.ranges) (ap reach own))
    (by_key (is_before (greatest_of tables) (least_key t)) (least_key t) (reach_of tables) (no_reach tables none))

-- ---- the log

pub filled_alone : (entries : List Entry) → filled_by (map Sets entries) ≡ filled entries
filled_alone entries = ap filled (recorded_sets entries)

pub gap_alone : (entries : List Entry) → gap_after (map Sets entries) ≡ gap entries
gap_alone entries = ap gap (recorded_sets entries)
