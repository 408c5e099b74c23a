-- Which source has the next row: the first of those whose entry at hand has the least key.
use Rattle.std.specs.Prelude.{◌≡◌, ℕ, zero, suc, false, List, [], ◌∷◌, map, slice_get, Option, Some, None, if◌then◌else◌}
use Rattle.std.specs.List.{AllByRecursion}
use Rattle.std.specs.Option.{option_map_or}
use Rattle.entry_model.specs.Entries.{Entry}
use Rattle.key_base.specs.ByteOrder.{IsBefore, is_before}
use Rattle.map_model.specs.SortedMap.{Bytes}
use Rattle.merge_rows.specs.Merges.{TableWalk}
use Rattle.table_file.specs.Walks.{first_of}

-- the entries at hand, that of the memory first
abbrev pub heads_of : List Entry → List TableWalk → List (Option Entry)
heads_of memory walks = first_of memory ∷ map (λ (w : TableWalk). w.walk.now) walks

abbrev pub IsNone : Option Entry → Type 0
IsNone head = head ≡ None

-- the entry at hand comes after the key, or not before it, where there is one
abbrev pub IsHeadAbove : Bytes → Option Entry → Type 0
IsHeadAbove key None = Unit {0}
IsHeadAbove key (Some e) = IsBefore key e.key

abbrev pub IsHeadFrom : Bytes → Option Entry → Type 0
IsHeadFrom key None = Unit {0}
IsHeadFrom key (Some e) = is_before e.key key ≡ false

-- of the entries at hand, this one has the least key, and is at the first place where one has it
abbrev pub IsLeastAt : List (Option Entry) → ℕ → Entry → Type 0
IsLeastAt [] place entry = ⊥
IsLeastAt (head ∷ older) zero entry = (head ≡ Some entry) × AllByRecursion (IsHeadFrom entry.key) older
IsLeastAt (head ∷ older) (suc place) entry = IsHeadAbove entry.key head × IsLeastAt older place entry

-- ---- as it is found, from the oldest on

-- the entry at hand of the walk at a place
abbrev pub head_in : List TableWalk → ℕ → Option Entry
head_in walks at = option_map_or (λ (w : TableWalk). w.walk.now) (slice_get walks at) None

-- a place with its key, or another one whose key is less
abbrev pub nearer : ℕ → Bytes → Option (ℕ × Bytes) → Option (ℕ × Bytes)
nearer n key None = Some (n, key)
nearer n key (Some other) = if is_before other.1 key then Some other else Some (n, key)

abbrev pub with_head : ℕ → Option Entry → Option (ℕ × Bytes) → Option (ℕ × Bytes)
with_head n None least = least
with_head n (Some e) least = nearer n e.key least

-- of entries at hand whose places begin at a number, the first with the least key
abbrev pub least_from : ℕ → List (Option Entry) → Option (ℕ × Bytes)
least_from n [] = None
least_from n (head ∷ older) = with_head n head (least_from (suc n) older)
