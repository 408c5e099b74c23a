-- The entries of a state's log: a store has states of entries alone.
use Rattle.std.proofs.Common.{◌≡◌, ◌∙◌, List, [], ◌∷◌, ◌++◌, map, sym, ap}
use Rattle.std.specs.Prelude.{Option, Some, None}
use Rattle.std.proofs.lemmas.List.{map-append}
use Rattle.std.proofs.lemmas.List.Sums.{fold-append}
use Rattle.disk_trait.specs.Image.{Image}
use Rattle.entry_model.specs.Entries.{Entry}
use Rattle.filter_api.specs.Spellings.{Spelling}
use Rattle.image_model.specs.Stands.{IsNamedBy, as_shown}
use Rattle.level_merge.specs.JobValue.{JobValue}
use Rattle.manifest.specs.Manifest.{Manifest}
use Rattle.manifest_model.specs.Version.{Version}
use Rattle.entry_model.specs.Newest.{with_entry}
use Rattle.range_model.specs.Sources.{Change, Sets, Source, empty_source, source_of, with_change, alone}
use Rattle.state_model.proofs.SoundLogs.{recorded_sets}
use Rattle.state_model.specs.Logs.{recorded}
use Rattle.state_model.specs.State.{State}
use Rattle.state_model.specs.WithoutRanges.{HasOnlyEntries}
use Rattle.store_core.specs.Represents.{RepresentsOn}
use Rattle.table_file.specs.Opened.{Opened}
use Rattle.state_model.proofs.WithoutRanges.{memory_alone}
use Rattle.state_model.specs.View.{in_memory, memory}
use Rattle.store_core.specs.Flushing.{state_with}

-- a function of the state: each image that a crash may leave has the same
abbrev pub entries_in : State → List Entry
entries_in s = map recorded s.log

pub named_only : (spelling : Spelling) (v : Version) (s : State) (image : Image) → IsNamedBy spelling v s image → HasOnlyEntries s (entries_in s)
named_only spelling v s image named =
    let are : named.entries ≡ entries_in s = sym (ap (map recorded) named.sets ∙ recorded_sets named.entries) in
    record { log = named.sets ∙ ap (map Sets) are; tables = named.no_ranges }

-- as a device shows it
pub shown_only : (spelling : Spelling) (m : Manifest) (opened : List Opened) (running : Option JobValue) (s : State) (image : Image) → RepresentsOn spelling m opened running s image → HasOnlyEntries s (entries_in s)
shown_only spelling m opened running s image on =
    let only = named_only spelling m.version (as_shown s) image on.ready.named in
    record { log = only.log; tables = only.tables }

-- what is in memory has one more
pub one_more : (log : List Change) (e : Entry) → source_of (log ++ Sets e ∷ []) ≡ with_change (source_of log) (Sets e)
one_more log e = fold-append with_change empty_source log (Sets e ∷ [])

pub one_more_made : (log : List Change) (e : Entry) → (source_of (log ++ Sets e ∷ [])).entries ≡ with_entry (source_of log).entries e
one_more_made log e = ap (λ (source : Source). source.entries) (one_more log e)

-- a source by its parts
pub same_source : (s t : Source) → s.entries ≡ t.entries → s.ranges ≡ t.ranges → s ≡ t
same_source s t entries ranges = λ i. record { entries = entries i; ranges = ranges i }

-- without ranges memory is its entries
pub no_range_of : (s : State) (entries : List Entry) → HasOnlyEntries s entries → in_memory s ≡ alone (memory s)
no_range_of s entries only = memory_alone s entries only ∙ ap (λ (source : Source). alone source.entries) (sym (memory_alone s entries only))

-- also with an entry over it
pub no_range_with : (s : State) (over : Option Entry) → HasOnlyEntries s (entries_in s) → in_memory (state_with s over) ≡ alone (memory (state_with s over))
no_range_with s None only = no_range_of s (entries_in s) only
no_range_with s (Some e) only = no_range_of (state_with s (Some e)) (entries_in s ++ e ∷ []) (record {
  log = ap (λ (log : List Change). log ++ Sets e ∷ []) only.log ∙ sym (map-append Sets (entries_in s) (e ∷ []));
  tables = only.tables;
})
