-- The map of some entries.
use Rattle.std.proofs.Common.{◌≡◌, ◌≢◌, List, [], ◌∷◌, refl, ◌∙◌, subst, true, false, cond}
use Rattle.std.specs.Option.{option_or}
use Rattle.std.specs.Prelude.{Option, Some, None, bytes_eq, fold}
use Rattle.std.proofs.lemmas.Slice.Eq.{bytes_eq-Decides}
use Rattle.map_model.specs.SortedMap.{Bytes, Map, get, Rises}
use Rattle.map_model.proofs.Maps.{put_here, put_elsewhere, put_rises, del_here, del_elsewhere, del_rises}
use Rattle.entry_model.specs.Entries.{Entry, changed, change_by, newest, live}

-- what the map has at the key after some entries, the newest of that key being this
abbrev after : Map → Option (Option Bytes) → Bytes → Option Bytes
after map None key = get map key
after map (Some value) key = value

changed_here : (map : Map) (key : Bytes) (value : Option Bytes) → get (change_by map key value) key ≡ value
changed_here map key (Some value) = put_here map key value
changed_here map key None = del_here map key

changed_elsewhere : (map : Map) (key : Bytes) (value : Option Bytes) (other : Bytes) → key ≢ other → get (change_by map key value) other ≡ get map other
changed_elsewhere map key (Some value) other apart = put_elsewhere map key value other apart
changed_elsewhere map key None other apart = del_elsewhere map key other apart

changed_at : (map : Map) (entry : Entry) (key : Bytes) → get (changed map entry) key ≡ after map (cond (bytes_eq entry.key key) (Some entry.value) None) key
changed_at map entry key = elim (bytes_eq entry.key key) as (λ t. bytes_eq entry.key key ≡ t → get (changed map entry) key ≡ after map (cond t (Some entry.value) None) key) [
  | true ↦ λ e. subst (λ (k : Bytes). get (changed map entry) k ≡ entry.value) ((bytes_eq-Decides entry.key key).0 e) (changed_here map entry.key entry.value)
  | false ↦ λ e. changed_elsewhere map entry.key entry.value key (λ same. let yes = (bytes_eq-Decides entry.key key).1 same in cc)
] refl

then_newest : (map : Map) (entry : Entry) (key : Bytes) (later : Option (Option Bytes)) → after (changed map entry) later key ≡ after map (option_or later (cond (bytes_eq entry.key key) (Some entry.value) None)) key
then_newest map entry key (Some value) = refl
then_newest map entry key None = changed_at map entry key

pub newest_after : (map : Map) (entries : List Entry) (key : Bytes) → get (fold changed map entries) key ≡ after map (newest entries key) key
newest_after map [] key = refl
newest_after map (entry ∷ later) key = newest_after (changed map entry) later key ∙ then_newest map entry key (newest later key)

after_none : (value : Option (Option Bytes)) (key : Bytes) → after [] value key ≡ live value
after_none None key = refl
after_none (Some value) key = refl

pub newest_counts : (entries : List Entry) (key : Bytes) → get (fold changed [] entries) key ≡ live (newest entries key)
newest_counts entries key = newest_after [] entries key ∙ after_none (newest entries key) key

change_rises : (map : Map) (key : Bytes) (value : Option Bytes) → Rises map → Rises (change_by map key value)
change_rises map key (Some value) rises = put_rises map key value rises
change_rises map key None rises = del_rises map key rises

pub entries_rise : (map : Map) (entries : List Entry) → Rises map → Rises (fold changed map entries)
entries_rise map [] rises = rises
entries_rise map (entry ∷ later) rises = entries_rise (changed map entry) later (change_rises map entry.key entry.value rises)
