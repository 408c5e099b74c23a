-- An order of places, in chunks.
use Rattle.std.specs.Prelude.{ℕ, zero, suc, ◌+◌, ◌<◌, ◌≤◌, ◌-◌, min, length, map, slice_index, slice_index_or, List, [], ◌∷◌, ◌++◌, None, filter, not}
use Rattle.std.specs.List.{AllByRecursion}
use Rattle.arrayvec.specs.ArrayVec.{ArrayVec}
use Rattle.entry_model.specs.Entries.{Entry, entry_of}
use Rattle.entry_model.specs.Newest.{KeysRise}
use Rattle.range_model.specs.Ranges.{DeletedRange, is_covered}

-- the places of all chunks, one after the other
abbrev pub flat : List (ArrayVec ℕ) → List ℕ
flat [] = []
flat (chunk ∷ more) = chunk.items ++ flat more

-- how many places are before this one of a chunk
abbrev pub flat_at : List (ArrayVec ℕ) → ℕ → ℕ → ℕ
flat_at [] chunk within = 0
flat_at (first ∷ more) zero within = within
flat_at (first ∷ more) (suc chunk) within = length first.items + flat_at more chunk within

-- a place stands there
abbrev pub IsPlace : List (ArrayVec ℕ) → ℕ → ℕ → Type 0
IsPlace [] chunk within = ⊥
IsPlace (first ∷ more) zero within = within < length first.items
IsPlace (first ∷ more) (suc chunk) within = IsPlace more chunk within

-- a place can go there: into a chunk, or behind them all
abbrev pub IsGap : List (ArrayVec ℕ) → ℕ → ℕ → Type 0
IsGap [] chunk within = Unit {0}
IsGap (first ∷ more) zero within = within ≤ length first.items
IsGap (first ∷ more) (suc chunk) within = IsGap more chunk within

abbrev pub NoneEmpty : List (ArrayVec ℕ) → Type 0
NoneEmpty chunks = AllByRecursion (λ chunk. 0 < length chunk.items) chunks

-- the entry at a place, and an empty one where there is none
abbrev pub entry_at : List Entry → ℕ → Entry
entry_at entries place = slice_index_or entries place (entry_of [] None)

-- the entry at the first place of a chunk
abbrev pub first_in : List Entry → ArrayVec ℕ → Entry
first_in entries chunk = entry_at entries (slice_index chunk.items 0)

-- the entries in the order of their places
abbrev pub in_order : List Entry → List ℕ → List Entry
in_order entries places = map (entry_at entries) places

-- the places whose entries no range covers
abbrev pub places_outside : List Entry → DeletedRange → List ℕ → List ℕ
places_outside entries range places = filter (λ place. not (is_covered range (entry_at entries place).key)) places

-- the chunks order entries by rising keys: all of them, but for those that a range took out
pub record Orders (chunks : List (ArrayVec ℕ)) (entries : List Entry) : Type 0 where
  pub rises : KeysRise (in_order entries (flat chunks))
  pub within : AllByRecursion (λ place. place < length entries) (flat chunks)
  pub few : length (flat chunks) ≤ length entries
  pub some : NoneEmpty chunks

-- how many entries more have surely room: each takes a place of 32 bits and at most one chunk
abbrev pub spare_places : ℕ → ℕ → ℕ → ℕ → ℕ
spare_places capacity entries chunk_capacity chunks = min (min capacity 4294967296 - entries) (chunk_capacity - chunks)
