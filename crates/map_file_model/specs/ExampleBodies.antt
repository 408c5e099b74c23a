-- Maps and bodies by which the definitions are shown.
use Rattle.std.specs.Prelude.{ℕ, List, [], ◌∷◌, ◌++◌, codes, map, replicate, Option, Some}
use Rattle.std.specs.List.{range_with_len}
use Rattle.byte_fields.specs.Faults.{Fault, fault}
use Rattle.filter_model.specs.Examples.{a_ab_sparse}
use Rattle.map_file_model.specs.Body.{body_head, summed, words}
use Rattle.map_file_model.specs.Maps.{Bytes, Map}

-- a with 01, ab with 02
abbrev pub a_and_ab : Map
a_and_ab = (codes "a", 1 ∷ []) ∷ (codes "ab", 2 ∷ []) ∷ []

-- its body: head, image, offsets, values, sum
unfoldable pub a_and_ab_body : Bytes
a_and_ab_body =
    (0x53 ∷ 0x55 ∷ 0x52 ∷ 0x4D ∷ 1 ∷ 0 ∷ 0 ∷ 0
    ∷ 2 ∷ 0 ∷ 0 ∷ 0 ∷ 0 ∷ 0 ∷ 0 ∷ 0
    ∷ 45 ∷ 0 ∷ 0 ∷ 0 ∷ 0 ∷ 0 ∷ 0 ∷ 0 ∷ [])
    ++ a_ab_sparse
    ++ (replicate 8 0 ++ (1 ∷ replicate 7 0) ++ (2 ∷ replicate 7 0))
    ++ (1 ∷ 2 ∷ [])
    ++ (0x50 ∷ 0xDF ∷ 0x46 ∷ 0x2B ∷ 0x53 ∷ 0xBD ∷ 0xE1 ∷ 7 ∷ [])

-- three keys that two leaves do not fit: four offsets, and the sum right
unfoldable pub one_key_too_many : Bytes
one_key_too_many = summed (body_head 3 45 ++ a_ab_sparse ++ words (0 ∷ 1 ∷ 2 ∷ 2 ∷ []) ++ 1 ∷ 2 ∷ [])

-- b is the shortest path, so its value stands first
abbrev pub a_ab_and_b : Map
a_ab_and_b = (codes "a", 1 ∷ []) ∷ (codes "ab", 2 ∷ 2 ∷ []) ∷ (codes "b", 3 ∷ 3 ∷ 3 ∷ []) ∷ []

-- zebra alone, with no byte
abbrev pub zebra_alone : Map
zebra_alone = (codes "zebra", []) ∷ []

-- the first n bytes are too few, for each n below 103
abbrev pub too_short : List (Option Fault)
too_short = map (λ (n : ℕ). Some (fault n 1)) (range_with_len 0 103)
