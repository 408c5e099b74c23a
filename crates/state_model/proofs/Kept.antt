-- What a flush, a change that is written and a compaction make of the map.
use Rattle.std.proofs.Common.{◌≡◌, List, [], ◌∷◌, ◌++◌, refl, sym, ap, ◌∙◌, subst, true, false, cond}
use Rattle.std.specs.Option.{option_or}
use Rattle.std.specs.Prelude.{Option, Result, Ok, Err, nat_le, length, ◌==◌, ◌+◌}
use Rattle.std.proofs.lemmas.List.{append_assoc, append-nil, map-append}
use Rattle.std.proofs.lemmas.List.Sums.{fold-append}
use Rattle.key_base.specs.Limits.{last_epoch, max_tables}
use Rattle.map_model.specs.SortedMap.{Bytes, Map}
use Rattle.entry_model.specs.Entries.{Entry, live}
use Rattle.range_model.specs.Sources.{Change, IsSource, Source, alone, changes_in, last_said, source_of}
use Rattle.range_model.specs.ChangedMaps.{map_changed_by, map_of_changes}
use Rattle.range_model.specs.Hiding.{oldest_changes}
use Rattle.range_model.proofs.Sources.{source_says}
use Rattle.range_model.proofs.Sound.{said_both}
use Rattle.state_model.specs.State.{State, without_job}
use Rattle.table_model.specs.Tables.{FilterBytes, Table, as_source}
use Rattle.state_model.specs.Logs.{gap_after, need_of, recorded}
use Rattle.state_model.specs.View.{in_memory, memory, sources_of, changes_of, oldest_first, state_map, sources}
use Rattle.state_model.specs.Taken.{taken}
use Rattle.state_model.specs.Merges.{NoRoom, placed}
use Rattle.state_model.specs.Changes.{with_tables, flush_placed, flushed_with, flushed, is_long, logged, logged_then, written, compact_placed, compacted_outputs, live_entries, compacted_with, compacted}
use Rattle.line_model.specs.Replies.{Reply, ManyTables, LastEpoch}
use Rattle.state_model.specs.Laws.{is_done}
use Rattle.state_model.proofs.SameMaps.{same_map}
use Rattle.state_model.proofs.Sayings.{said_again, said_backwards, source_sound}
use Rattle.state_model.proofs.Merged.{lasting_is, lasting_say}
use Rattle.state_model.proofs.Outputs.{cut_are, cut_say, placed_lists}

-- a change that is done has this; one that is refused is not answered as done
abbrev pub IfDone : (State → Type 0) → Result State Reply → Type 0
IfDone P (Ok s) = P s
IfDone P (Err refusal) = is_done refusal ≡ false

if_done : (P : State → Type 0) (done : Result State Reply) (s : State) → IfDone P done → done ≡ Ok s → P s
if_done P done s so e = subst (IfDone P) e so

abbrev pub KeepsMap : State → State → Type 0
KeepsMap s t = state_map t ≡ state_map s

-- ---- flush

-- the tables with one more in front, of what is in memory, say what tables and log say
flush_says : (s : State) (made : List Table) (key : Bytes) → sources_of made ≡ in_memory s ∷ [] → last_said (oldest_first (made ++ s.tables) ++ []) key ≡ last_said (changes_of s) key
flush_says s made key sources =
    ap (λ (l : List Change). last_said l key) (append-nil (oldest_first (made ++ s.tables))
    ∙ ap oldest_changes (map-append as_source made s.tables ∙ ap (λ (l : List Source). l ++ sources_of s.tables) sources))
    ∙ said_both (oldest_first s.tables) (changes_in (in_memory s)) key
    ∙ ap (λ (o : Option (Option Bytes)). option_or o (last_said (oldest_first s.tables) key)) (said_again s.log key)
    ∙ sym (said_both (oldest_first s.tables) s.log key)

with_tables_keeps : (s : State) (made : List Table) → sources_of made ≡ in_memory s ∷ [] → IfDone (KeepsMap s) (with_tables s (made ++ s.tables))
with_tables_keeps s made sources = elim (s.epoch == last_epoch) as (λ t. IfDone (KeepsMap s) (cond t (Err LastEpoch) (Ok (record s { epoch = s.epoch + 1; log = []; tables = made ++ s.tables })))) [
  | true ↦ refl
  | false ↦ same_map (oldest_first (made ++ s.tables) ++ []) (changes_of s) (λ key. ap live (flush_says s made key sources))
]

flush_placed_keeps : (filter_bytes : FilterBytes) (s : State) (done : Result (List Table) NoRoom) → placed filter_bytes s.settings s.pages (taken s) 0 (in_memory s ∷ []) ≡ done → IfDone (KeepsMap s) (flush_placed s done)
flush_placed_keeps filter_bytes s (Ok made) e = with_tables_keeps s made (placed_lists filter_bytes s (taken s) 0 (in_memory s ∷ []) made e)
flush_placed_keeps filter_bytes s (Err refusal) e = refl

flushed_with_keeps : (filter_bytes : FilterBytes) (s : State) (entries : List Entry) → IfDone (KeepsMap s) (flushed_with filter_bytes s (in_memory s) entries)
flushed_with_keeps filter_bytes s [] = refl
flushed_with_keeps filter_bytes s (entry ∷ more) =
    let done = placed filter_bytes s.settings s.pages (taken s) 0 (in_memory s ∷ []) in
    elim (nat_le max_tables (length s.tables)) as (λ t. IfDone (KeepsMap s) (cond t (Err ManyTables) (flush_placed s done))) [
      | true ↦ refl
      | false ↦ flush_placed_keeps filter_bytes s done refl
    ]

pub flushed_done : (filter_bytes : FilterBytes) (s : State) → IfDone (KeepsMap s) (flushed filter_bytes s)
flushed_done filter_bytes s = flushed_with_keeps filter_bytes s (memory s)

pub flushed_keeps : (filter_bytes : FilterBytes) (s t : State) → flushed filter_bytes s ≡ Ok t → state_map t ≡ state_map s
flushed_keeps filter_bytes s t e = if_done (KeepsMap s) (flushed filter_bytes s) t (flushed_done filter_bytes s) e

-- ---- one change

logged_makes : (s : State) (change : Change) → state_map (logged s change) ≡ map_changed_by (state_map s) change
logged_makes s change = ap map_of_changes (sym (append_assoc (oldest_first s.tables) s.log (change ∷ []))) ∙ fold-append map_changed_by [] (changes_of s) (change ∷ [])

abbrev pub Makes : Map → Change → State → Type 0
Makes map change t = state_map t ≡ map_changed_by map change

logged_then_makes : (map : Map) (change : Change) (done : Result State Reply) → IfDone (λ s. state_map s ≡ map) done → IfDone (Makes map change) (logged_then change done)
logged_then_makes map change (Ok s) same = logged_makes s change ∙ ap (λ (m : Map). map_changed_by m change) same
logged_then_makes map change (Err refusal) same = same

-- a flush over what is in memory keeps the map of the state with the change
flushed_over_makes : (s : State) (change : Change) (done : Result State Reply) → IfDone (KeepsMap (logged s change)) done → IfDone (Makes (state_map s) change) done
flushed_over_makes s change (Ok t) same = same ∙ logged_makes s change
flushed_over_makes s change (Err refusal) same = same

short_done : (filter_bytes : FilterBytes) (s : State) (change : Change)
    → IfDone (Makes (state_map s) change) (cond (nat_le (need_of change) (gap_after s.log)) (Ok (logged s change)) (logged_then change (flushed filter_bytes s)))
short_done filter_bytes s change = elim (nat_le (need_of change) (gap_after s.log)) as (λ t. IfDone (Makes (state_map s) change) (cond t (Ok (logged s change)) (logged_then change (flushed filter_bytes s)))) [
  | true ↦ logged_makes s change
  | false ↦ logged_then_makes (state_map s) change (flushed filter_bytes s) (flushed_done filter_bytes s)
]

pub written_done : (filter_bytes : FilterBytes) (s : State) (change : Change) → IfDone (Makes (state_map s) change) (written filter_bytes s change)
written_done filter_bytes s change = elim (is_long (recorded change)) as (λ long. IfDone (Makes (state_map s) change)
    (cond long (flushed filter_bytes (logged s change)) (cond (nat_le (need_of change) (gap_after s.log)) (Ok (logged s change)) (logged_then change (flushed filter_bytes s))))) [
      | true ↦ flushed_over_makes s change (flushed filter_bytes (logged s change)) (flushed_done filter_bytes (logged s change))
      | false ↦ short_done filter_bytes s change
    ]

pub written_makes : (filter_bytes : FilterBytes) (s t : State) (change : Change) → written filter_bytes s change ≡ Ok t → state_map t ≡ map_changed_by (state_map s) change
written_makes filter_bytes s t change e = if_done (Makes (state_map s) change) (written filter_bytes s change) t (written_done filter_bytes s change) e

-- ---- compaction

live_are : (s : State) → IsSource (alone (live_entries s))
live_are s = lasting_is true (source_of (changes_of s)) (source_sound (changes_of s))

compact_says : (s : State) (made : List Table) (key : Bytes) → sources_of made ≡ compacted_outputs s → live (last_said (oldest_first made ++ []) key) ≡ live (last_said (changes_of s) key)
compact_says s made key sources =
    ap (λ (l : List Change). live (last_said l key)) (append-nil (oldest_first made) ∙ ap oldest_changes sources)
    ∙ ap live (said_backwards (compacted_outputs s) key (cut_are s.tables (alone (live_entries s)) (live_are s)) ∙ cut_say s.tables (alone (live_entries s)) key (live_are s))
    ∙ lasting_say true (source_of (changes_of s)) key (source_sound (changes_of s)).rises
    ∙ ap live (source_says (changes_of s) key)

compact_placed_keeps : (filter_bytes : FilterBytes) (s : State) (done : Result (List Table) NoRoom) → placed filter_bytes s.settings s.pages (taken (without_job s)) 6 (compacted_outputs s) ≡ done → IfDone (KeepsMap s) (compact_placed s done)
compact_placed_keeps filter_bytes s (Ok made) e = same_map (oldest_first made ++ []) (changes_of s)
    (λ key. compact_says s made key (placed_lists filter_bytes s (taken (without_job s)) 6 (compacted_outputs s) made e))
compact_placed_keeps filter_bytes s (Err refusal) e = refl

compacted_with_keeps : (filter_bytes : FilterBytes) (s : State) (changes : List Change) → IfDone (KeepsMap s) (compacted_with filter_bytes s changes)
compacted_with_keeps filter_bytes s [] = refl
compacted_with_keeps filter_bytes s (change ∷ more) =
    let done = placed filter_bytes s.settings s.pages (taken (without_job s)) 6 (compacted_outputs s) in
    elim (s.epoch == last_epoch) as (λ t. IfDone (KeepsMap s) (cond t (Err LastEpoch) (compact_placed s done))) [
      | true ↦ refl
      | false ↦ compact_placed_keeps filter_bytes s done refl
    ]

pub compacted_done : (filter_bytes : FilterBytes) (s : State) → IfDone (KeepsMap s) (compacted filter_bytes s)
compacted_done filter_bytes s = compacted_with_keeps filter_bytes s (changes_of s)

pub compacted_keeps : (filter_bytes : FilterBytes) (s t : State) → compacted filter_bytes s ≡ Ok t → state_map t ≡ state_map s
compacted_keeps filter_bytes s t e = if_done (KeepsMap s) (compacted filter_bytes s) t (compacted_done filter_bytes s) e
