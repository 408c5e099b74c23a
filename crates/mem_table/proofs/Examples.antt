-- The definitions, shown by examples: two chunks of places.
use Rattle.std.proofs.Common.{◌≡◌, ℕ, List, [], ◌∷◌, true, false, refl}
use Rattle.std.specs.Prelude.{Some, None, codes}
use Rattle.arrayvec.specs.ArrayVec.{ArrayVec}
use Rattle.entry_model.specs.Entries.{Entry, entry_of}
use Rattle.range_model.specs.Ranges.{range_of}
use Rattle.range_model.specs.Sources.{Sets, Clears}
use Rattle.mem_table.specs.Changes.{clears_one, entries_set}
use Rattle.mem_table.specs.Chunks.{flat, flat_at, in_order, places_outside, spare_places}

abbrev chunks : List (ArrayVec ℕ)
chunks = record { items = 2 ∷ 0 ∷ [] } ∷ record { items = 1 ∷ [] } ∷ []

abbrev put : List Entry
put = entry_of (codes "b") (Some (codes "1")) ∷ entry_of (codes "c") None ∷ entry_of (codes "a") (Some []) ∷ []

flat_example : flat chunks ≡ 2 ∷ 0 ∷ 1 ∷ []
flat_example = refl

-- the first place of the second chunk is behind those of the first, and so is the end of the first
first_of_second_example : flat_at chunks 1 0 ≡ 2
first_of_second_example = refl

end_of_first_example : flat_at chunks 0 2 ≡ 2
end_of_first_example = refl

-- entries stay where they were put, and are shown by rising keys
in_order_example : in_order put (flat chunks) ≡ entry_of (codes "a") (Some []) ∷ entry_of (codes "b") (Some (codes "1")) ∷ entry_of (codes "c") None ∷ []
in_order_example = refl

-- room for three entries and for one chunk is surely room for one entry
spare_example : spare_places 8 5 3 2 ≡ 1
spare_example = refl

-- a place has 32 bits
last_place_example : spare_places 4294967300 4294967295 3 2 ≡ 1
last_place_example = refl

-- a range from a to c leaves the place of c
outside_example : places_outside put (range_of (codes "a") (codes "c")) (flat chunks) ≡ 1 ∷ []
outside_example = refl

-- of a put and a range, the entry of the put
set_example : entries_set (Sets (entry_of (codes "b") None) ∷ Clears (range_of (codes "a") (codes "c")) ∷ []) ≡ entry_of (codes "b") None ∷ []
set_example = refl

clears_example : clears_one (Sets (entry_of (codes "b") None) ∷ Clears (range_of (codes "a") (codes "c")) ∷ []) ≡ true
clears_example = refl

clears_none_example : clears_one (Sets (entry_of (codes "b") None) ∷ []) ≡ false
clears_none_example = refl
