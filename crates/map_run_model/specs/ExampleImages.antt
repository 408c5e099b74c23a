-- Images and dialogues by which the definitions are shown.
use Rattle.std.specs.Prelude.{List, [], ◌∷◌, ◌++◌, map, replicate, slice_index_or, codes}
use Rattle.disk_trait.specs.Image.{Image}
use Rattle.line_model.specs.Replies.{text_of}
use Rattle.map_file_model.specs.ExampleBodies.{a_and_ab, a_and_ab_body}
use Rattle.map_model.specs.SortedMap.{Bytes}
use Rattle.map_run_model.specs.MapLines.{map_reply, map_request_of}

-- bytes from byte 0 on, and zeros
abbrev pub image_of : Bytes → Image
image_of bytes place = slice_index_or bytes place 0

-- an open gate, and the body of 61 01 and 6162 02
abbrev pub a_and_ab_image : Image
a_and_ab_image = image_of (1 ∷ replicate 7 0 ++ a_and_ab_body)

-- an open gate, and a head of two pairs with an image of 2^40 bytes
abbrev pub long_image : Image
long_image = image_of (1 ∷ replicate 7 0 ++ codes "SURM" ++ 1 ∷ 0 ∷ 0 ∷ 0 ∷ 2 ∷ replicate 12 0 ++ 1 ∷ [])

-- all but the last newline
abbrev pub without_newline : Bytes → Bytes
without_newline [] = []
without_newline (b ∷ []) = []
without_newline (b ∷ next ∷ more) = b ∷ without_newline (next ∷ more)

-- what the map of 61 01 and 6162 02 replies to lines
abbrev pub replies_of_two : List Bytes → List Bytes
replies_of_two lines = map (λ line. without_newline (text_of (map_reply a_and_ab (map_request_of line)))) lines
