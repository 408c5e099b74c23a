-- What a closed seek steps over is deleted.
use Rattle.std.proofs.Common.{◌≡◌, ◌≤◌, [], ◌∷◌, refl, sym, ap, ◌∙◌, Bool, true, false, ◌&&◌}
use Rattle.std.specs.Prelude.{Option, Some, None}
use Rattle.std.specs.List.{Contains}
use Rattle.std.specs.Option.{is_none}
use Rattle.std.proofs.lemmas.Bool.{and_parts}
use Rattle.filter_model.proofs.Counts.{count_le}
use Rattle.entry_model.specs.Entries.{Entry}
use Rattle.map_model.specs.SortedMap.{Bytes, Map, get}
use Rattle.range_model.proofs.ChangedMaps.{changes_rise}
use Rattle.map_model.specs.Slices.{is_before, is_between, between, first_pair, seek}
use Rattle.map_model.proofs.Between.{within, sought_least}
use Rattle.state_model.specs.State.{State}
use Rattle.state_model.specs.View.{changes_of, state_map}
use Rattle.state_model.specs.Bounds.{is_passed, stepped}
use Rattle.state_model.specs.ReadLaws.{deleted_between}
use Rattle.table_model.specs.Tables.{Table}

first_none : (map : Map) → first_pair map ≡ None → map ≡ []
first_none [] e = refl
first_none (pair ∷ more) e = absurd cc

true-false : true ≡ false → ⊥
true-false e = cc

none-some : (value : Bytes) → None ≡ Some value → ⊥
none-some value e = cc

pub stepped_deleted : (s : State) (lo hi key : Bytes) → is_between lo (Some hi) key ≡ true → is_passed (seek (state_map s) lo (Some hi)) key ≡ true → get (state_map s) key ≡ None
stepped_deleted s lo hi key inside passed = by_answer (seek (state_map s) lo (Some hi)) refl passed
  where
    held : (pair : Bytes × Bytes) (value : Option Bytes) → seek (state_map s) lo (Some hi) ≡ Some pair → is_before key pair.0 ≡ true → get (state_map s) key ≡ value → value ≡ None
    held pair None found before got = refl
    held pair (Some value) found before got =
        absurd (true-false (sym before ∙ sought_least (state_map s) lo (Some hi) pair key value (changes_rise [] (changes_of s) tt) found got inside))

    by_answer : (answer : Option (Bytes × Bytes)) → seek (state_map s) lo (Some hi) ≡ answer → is_passed answer key ≡ true → get (state_map s) key ≡ None
    by_answer None none _ = sym (within (state_map s) lo (Some hi) key inside) ∙ ap (λ (m : Map). get m key) (first_none (between (state_map s) lo (Some hi)) none)
    by_answer (Some pair) found before = held pair (get (state_map s) key) found before refl

-- each of these entries is a deleted one, so no more are counted
pub stepped_few : (s : State) (lo hi : Bytes) (t : Table) → stepped (state_map s) lo hi t ≤ deleted_between (state_map s) lo hi t
stepped_few s lo hi t = count_le passed deleted t.entries few
  where
    passed : Entry → Bool
    passed e = is_between lo (Some hi) e.key && is_passed (seek (state_map s) lo (Some hi)) e.key

    deleted : Entry → Bool
    deleted e = is_between lo (Some hi) e.key && is_none (get (state_map s) e.key)

    few : (e : Entry) → Contains t.entries e → passed e ≡ true → deleted e ≡ true
    few e _ both =
        let parts = and_parts (is_between lo (Some hi) e.key) (is_passed (seek (state_map s) lo (Some hi)) e.key) both in
        ap (λ (b : Bool). b && is_none (get (state_map s) e.key)) parts.0
        ∙ ap (λ (value : Option Bytes). is_none value) (stepped_deleted s lo hi e.key parts.0 parts.1)
