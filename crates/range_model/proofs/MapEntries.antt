-- A map as a list of entries: two maps with rising keys that give the same at each key are one.
use Rattle.std.proofs.Common.{◌≡◌, List, [], ◌∷◌, map, refl, sym, ap, ◌∙◌, cond, true, false}
use Rattle.std.specs.Prelude.{Some, bytes_eq}
use Rattle.std.specs.Option.{option_map}
use Rattle.key_base.specs.ByteOrder.{Bytes}
use Rattle.map_model.specs.SortedMap.{Map, get, Rises}
use Rattle.entry_model.specs.Entries.{Entry, bytes_of, put_entry}
use Rattle.entry_model.specs.Newest.{KeysRise, lookup}
use Rattle.entry_model.proofs.Newest.{above_lower, one_list}

abbrev entries_of : Map → List Entry
entries_of pairs = map (λ (pair : Bytes × Bytes). put_entry pair.0 pair.1) pairs

abbrev pairs_of : List Entry → Map
pairs_of entries = map (λ (e : Entry). (e.key, bytes_of e.value)) entries

back : (pairs : Map) → pairs_of (entries_of pairs) ≡ pairs
back [] = refl
back (pair ∷ more) = ap (λ (m : Map). pair ∷ m) (back more)

looked_up : (pairs : Map) (key : Bytes) → lookup (entries_of pairs) key ≡ option_map Some (get pairs key)
looked_up [] key = refl
looked_up (pair ∷ more) key = elim (bytes_eq pair.0 key) as (λ t. cond t (Some (Some pair.1)) (lookup (entries_of more) key) ≡ option_map Some (cond t (Some pair.1) (get more key))) [
  | true ↦ refl
  | false ↦ looked_up more key
]

-- each pair is before the next one, and so before all that come after it
rising : (pairs : Map) → Rises pairs → KeysRise (entries_of pairs)
rising [] rises = tt
rising (pair ∷ []) rises = (tt, tt)
rising (pair ∷ next ∷ more) rises =
    let later = rising (next ∷ more) rises.1 in
    ((rises.0, above_lower pair.0 next.0 (entries_of more) rises.0 later.0), later)

pub one_map : (pairs other : Map) → Rises pairs → Rises other → ((key : Bytes) → get pairs key ≡ get other key) → pairs ≡ other
one_map pairs other rises_a rises_b same =
    sym (back pairs)
    ∙ ap pairs_of (one_list (entries_of pairs) (entries_of other) (rising pairs rises_a) (rising other rises_b)
    (λ key. looked_up pairs key ∙ ap (option_map Some) (same key) ∙ sym (looked_up other key)))
    ∙ back other
