-- The places of the sources: the memory is before the walks.
use Rattle.std.specs.Prelude.{ℕ, suc, ◌<◌, List, length, slice_get, Option, Some, None}
use Rattle.std.specs.Option.{option_map_or}
use Rattle.entry_model.specs.Entries.{Entry}
use Rattle.merge_rows.specs.Merges.{TableWalk}
use Rattle.merge_rows.specs.declared.choosing.Source.{Source}
use Rattle.merge_rows.specs.declared.choosing.Source.TheVariants as source
use Rattle.table_file.specs.Walks.{first_of}

abbrev pub place_in : Source → ℕ
place_in source.Memory = 0
place_in (source.Table n) = suc n

abbrev pub IsSourceIn : Source → List TableWalk → Type 0
IsSourceIn source.Memory walks = Unit {0}
IsSourceIn (source.Table n) walks = n < length walks

-- the entry at hand there
abbrev pub head_at : Source → List Entry → List TableWalk → Option Entry
head_at source.Memory memory walks = first_of memory
head_at (source.Table n) memory walks = option_map_or (λ (w : TableWalk). w.walk.now) (slice_get walks n) None

-- the row at hand, where one was chosen
abbrev pub chosen_row : Option Source → List Entry → List TableWalk → Option Entry
chosen_row None memory walks = None
chosen_row (Some source) memory walks = head_at source memory walks

abbrev pub IsChosenIn : Option Source → List TableWalk → Type 0
IsChosenIn None walks = Unit {0}
IsChosenIn (Some source) walks = IsSourceIn source walks
