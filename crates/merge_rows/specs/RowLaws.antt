-- Laws of merged rows.
use Rattle.std.specs.Prelude.{◌≡◌, List, [], ◌∷◌}
use Rattle.std.specs.Option.{option_or}
use Rattle.entry_model.specs.Entries.{Entry, newest}
use Rattle.entry_model.specs.Newest.{KeysRise, lookup}
use Rattle.map_model.specs.SortedMap.{Bytes}
use Rattle.merge_rows.specs.Rows.{merged_rows}

-- their keys rise, and of each key they say what the first source says that has it
pub record MergedLaws : Type 0 where
  pub rises : (sources : List (List Entry)) → KeysRise (merged_rows sources)
  pub none : merged_rows [] ≡ []
  pub first_says : (source : List Entry) (older : List (List Entry)) (key : Bytes) → lookup (merged_rows (source ∷ older)) key ≡ option_or (newest source key) (lookup (merged_rows older) key)
