-- A kind of filter, as a run over a store of it has it.
use Rattle.std.specs.Prelude.{ℕ, List}
use Rattle.filter_api.specs.Spellings.{Spelling}
use Rattle.filter_model.specs.Leaves.{Leaf}
use Rattle.table_model.specs.Tables.{FilterBytes, filter_bytes_of}

-- how filters are spelled, and how many bytes the one has that is built
pub record Kind : Type 0 where
  pub spelling : Spelling
  pub filter_bytes : FilterBytes

abbrev pub filter_kind : Spelling → (ℕ → List Leaf → ℕ) → Kind
filter_kind spelling built_cutoff = record { spelling = spelling; filter_bytes = filter_bytes_of spelling built_cutoff }
