-- What a builder writes, read again.
use Rattle.std.specs.Prelude.{ℕ}
use Rattle.map_file_model.specs.Laws.{IsReadAs}
use Rattle.map_file_model.specs.Maps.{Map, keys_of}
use Rattle.map_writer.specs.Bodies.{body_by}
use Rattle.map_writer.specs.Plans.{whole_cutoff}

-- the body of these pairs breaks no rule, and what is read of it are these pairs
abbrev pub IsReadAgain : ℕ → Map → Type 0
IsReadAgain ratio pairs = IsReadAs (whole_cutoff ratio (keys_of pairs)) pairs (body_by ratio pairs)
