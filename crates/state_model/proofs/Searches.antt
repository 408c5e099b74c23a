-- A table that has an entry of a key is searched for it.
use Rattle.std.proofs.Common.{◌≡◌, suc, List, [], ◌∷◌, refl, ap₂, Bool, true, false, cond, not, ◌&&◌, arith}
use Rattle.std.specs.Prelude.{Option, Some, None, bytes_eq}
use Rattle.std.specs.List.{Contains}
use Rattle.std.proofs.lemmas.Slice.Eq.{bytes_eq-Decides}
use Rattle.byte_fields.specs.Spelling.{IsBytes}
use Rattle.map_model.specs.SortedMap.{Bytes}
use Rattle.entry_model.specs.Entries.{Entry, keys_of}
use Rattle.entry_model.specs.Newest.{lookup}
use Rattle.map_model.specs.Slices.{is_before, is_between}
use Rattle.filter_model.proofs.Stubs.{no_key_is_denied}
use Rattle.filter_model.proofs.Tallies.{no_held_range_is_denied}
use Rattle.table_model.specs.Tables.{Table}
use Rattle.state_model.specs.Merges.{least_key, greatest_key}
use Rattle.state_model.specs.Bounds.{admits_range, encloses, is_searched}
use Rattle.state_model.specs.Sound.{IsSoundTable}
use Rattle.state_model.proofs.Disjoint.{IsSome, first_upto, upto_last, not_before}
use Rattle.state_model.proofs.Hulls.{rises_of}
use Rattle.state_model.proofs.SoundKeys.{key_list}

-- a key that is found is among the keys
held : (entries : List Entry) (key : Bytes) (value : Option Bytes) → lookup entries key ≡ Some value → Contains (keys_of entries) key
held [] key value e = absurd cc
held (x ∷ more) key value e = elim (bytes_eq x.key key) as (λ t. bytes_eq x.key key ≡ t → cond t (Some x.value) (lookup more key) ≡ Some value → Contains (keys_of (x ∷ more)) key) [
  | true ↦ λ same _. (0, omega arith, (bytes_eq-Decides x.key key).0 same)
  | false ↦ λ _ e. let rest = held more key value e in (suc rest.0, omega (arith, rest.1), rest.2)
] refl e

found_some : (found : Option (Option Bytes)) (value : Option Bytes) → found ≡ Some value → IsSome found
found_some None value e = absurd cc
found_some (Some other) value e = tt

pub encloses_held : (t : Table) (key : Bytes) (value : Option Bytes) → IsSoundTable t → lookup t.entries key ≡ Some value → encloses key t ≡ true
encloses_held t key value is e =
    let some = found_some (lookup t.entries key) value e in
    ap₂ (λ (a b : Bool). not a && not b)
    (not_before (least_key t) key (first_upto t.entries key (rises_of t is) some))
    (not_before key (greatest_key t) (upto_last t.entries key (rises_of t is) some))

pub key_searched : (t : Table) (key : Bytes) (value : Option Bytes) → IsSoundTable t → lookup t.entries key ≡ Some value → is_searched key t ≡ true
key_searched t key value is e = ap₂ (λ (a b : Bool). a && b)
    (no_key_is_denied t.settings.hash_bits t.settings.real_bits (keys_of t.entries) key (held t.entries key value e))
    (encloses_held t key value is e)

pub range_admitted : (t : Table) (lo hi key : Bytes) (value : Option Bytes) → IsSoundTable t → IsBytes lo → IsBytes hi → is_before hi lo ≡ false
    → lookup t.entries key ≡ Some value → is_between lo (Some hi) key ≡ true → admits_range lo hi t ≡ true
range_admitted t lo hi key value is low high order e inside =
    no_held_range_is_denied t.settings.hash_bits t.settings.real_bits (keys_of t.entries) lo hi key (key_list t is)
    (record { lo_bytes = low; hi_bytes = high; in_order = order }) (held t.entries key value e) inside
