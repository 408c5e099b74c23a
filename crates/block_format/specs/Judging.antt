-- What a judge of entries of either format looks at.
use Rattle.std.specs.Prelude.{ℕ, ◌-◌, Bool, false, not, ◌==◌, ◌++◌, take, drop}
use Rattle.map_model.specs.SortedMap.{Bytes}
use Rattle.block_model.specs.Formats.{Format, Old, Prefixed, wants_shared}

-- the key that is so many bytes of the one before and a rest shares another number of bytes with it than it has to
abbrev pub shares_wrongly : Format → ℕ → ℕ → Bytes → Bytes → Bool
shares_wrongly Old i shared before rest = false
shares_wrongly Prefixed i shared before rest = not (shared == wants_shared i before (take shared before ++ rest))

-- the bytes from a place up to the length that is used
abbrev pub left_from : ℕ → ℕ → Bytes → Bytes
left_from used at bytes = take (used - at) (drop at bytes)

-- the key of an entry that begins some bytes, by the numbers of its head: so many bytes of the key before, and its rest
abbrev pub key_after : ℕ → ℕ → ℕ → Bytes → Bytes → Bytes
key_after shared own head before rest = take shared before ++ take own (drop head rest)
