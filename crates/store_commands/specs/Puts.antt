-- The lines that put the pairs of a map.
use Rattle.std.specs.Prelude.{◌∷◌, [], ◌++◌, flat_map, codes}
use Rattle.line_model.specs.Replies.{word_of}
use Rattle.map_model.specs.SortedMap.{Bytes, Map}

-- the line that puts a pair, and its newline
abbrev pub put_text : Bytes → Bytes → Bytes
put_text key value = codes "put " ++ word_of key ++ codes " " ++ word_of value ++ 10 ∷ []

-- the lines of all pairs, in their order
abbrev pub puts_text : Map → Bytes
puts_text pairs = flat_map (λ (pair : Bytes × Bytes). put_text pair.0 pair.1) pairs
