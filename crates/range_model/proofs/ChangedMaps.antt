-- The map that changes make, and that their source keeps it.
use Rattle.std.proofs.Common.{◌≡◌, ◌≢◌, List, [], ◌∷◌, refl, sym, ap, ◌∙◌, subst, true, false, cond}
use Rattle.std.specs.Option.{option_or}
use Rattle.std.specs.Prelude.{Option, Some, None, bytes_eq, fold}
use Rattle.std.proofs.lemmas.Slice.Eq.{bytes_eq-Decides}
use Rattle.key_base.specs.ByteOrder.{Bytes}
use Rattle.map_model.specs.SortedMap.{Map, get, Rises}
use Rattle.map_model.proofs.Maps.{put_here, put_elsewhere, del_here, del_elsewhere}
use Rattle.entry_model.specs.Entries.{change_by, changed, live}
use Rattle.entry_model.proofs.Maps.{entries_rise}
use Rattle.range_model.specs.Clearing.{clear}
use Rattle.range_model.specs.Ranges.{is_covered}
use Rattle.range_model.specs.Sources.{Change, Sets, Clears, IsSource, change_says, changes_in, cleared, empty_source, last_said, source_of}
use Rattle.range_model.specs.ChangedMaps.{map_changed_by}
use Rattle.range_model.specs.Laws.{MapSays, SourceKeepsMap}
use Rattle.range_model.proofs.Clearing.{clear_rises, get_cleared}
use Rattle.range_model.proofs.MapEntries.{one_map}
use Rattle.range_model.proofs.Sources.{source_says}
use Rattle.range_model.proofs.Sound.{changes_say, source_is}

-- what a map has at a key after what was said of it since
abbrev after : Map → Option (Option Bytes) → Bytes → Option Bytes
after map None key = get map key
after map (Some value) key = value

set_here : (map : Map) (key : Bytes) (value : Option Bytes) → get (change_by map key value) key ≡ value
set_here map key (Some value) = put_here map key value
set_here map key None = del_here map key

set_elsewhere : (map : Map) (key : Bytes) (value : Option Bytes) (other : Bytes) → key ≢ other → get (change_by map key value) other ≡ get map other
set_elsewhere map key (Some value) other apart = put_elsewhere map key value other apart
set_elsewhere map key None other apart = del_elsewhere map key other apart

changed_by_at : (map : Map) (change : Change) (key : Bytes) → get (map_changed_by map change) key ≡ after map (change_says change key) key
changed_by_at map (Sets entry) key = elim (bytes_eq entry.key key) as (λ t. bytes_eq entry.key key ≡ t → get (changed map entry) key ≡ after map (cond t (Some entry.value) None) key) [
  | true ↦ λ e. subst (λ (k : Bytes). get (changed map entry) k ≡ entry.value) ((bytes_eq-Decides entry.key key).0 e) (set_here map entry.key entry.value)
  | false ↦ λ e. set_elsewhere map entry.key entry.value key (λ same. let yes = (bytes_eq-Decides entry.key key).1 same in cc)
] refl
changed_by_at map (Clears range) key = get_cleared map range.lo range.hi key
    ∙ elim (is_covered range key) as (λ t. cond t None (get map key) ≡ after map (cleared t) key) [ true ↦ refl | false ↦ refl ]

then_said : (map : Map) (change : Change) (key : Bytes) (later : Option (Option Bytes)) → after (map_changed_by map change) later key ≡ after map (option_or later (change_says change key)) key
then_said map change key (Some value) = refl
then_said map change key None = changed_by_at map change key

last_after : (map : Map) (changes : List Change) (key : Bytes) → get (fold map_changed_by map changes) key ≡ after map (last_said changes key) key
last_after map [] key = refl
last_after map (change ∷ later) key = last_after (map_changed_by map change) later key ∙ then_said map change key (last_said later key)

pub changes_rise : (map : Map) (changes : List Change) → Rises map → Rises (fold map_changed_by map changes)
changes_rise map [] rises = rises
changes_rise map (Sets entry ∷ later) rises = changes_rise (changed map entry) later (entries_rise map (entry ∷ []) rises)
changes_rise map (Clears range ∷ later) rises = changes_rise (clear map range.lo range.hi) later (clear_rises map range.lo range.hi rises)

after_none : (value : Option (Option Bytes)) (key : Bytes) → after [] value key ≡ live value
after_none None key = refl
after_none (Some value) key = refl

pub map_says : MapSays
map_says changes key = last_after [] changes key ∙ after_none (last_said changes key) key

pub empty_is : IsSource empty_source
empty_is = record { rises = tt; ranges = tt; apart = tt; begin = tt }

pub source_keeps_map : SourceKeepsMap
source_keeps_map map changes rises =
    one_map (fold map_changed_by map (changes_in (source_of changes))) (fold map_changed_by map changes)
    (changes_rise map (changes_in (source_of changes)) rises) (changes_rise map changes rises)
    (λ key. last_after map (changes_in (source_of changes)) key
    ∙ ap (λ (o : Option (Option Bytes)). after map o key) (changes_say (source_of changes) key (source_is empty_source changes empty_is) ∙ source_says changes key)
    ∙ sym (last_after map changes key))
