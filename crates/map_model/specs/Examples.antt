-- Maps by which the definitions are shown.
use Rattle.std.specs.Prelude.{[], ◌∷◌}
use Rattle.map_model.specs.SortedMap.{Map, put}

-- 61 with no bytes, and 62 with 01
abbrev pub two : Map
two = put (put [] (0x61 ∷ []) []) (0x62 ∷ []) (0x01 ∷ [])

-- 616131 and 616231
abbrev pub near : Map
near = put (put [] (0x61 ∷ 0x61 ∷ 0x31 ∷ []) (0x01 ∷ [])) (0x61 ∷ 0x62 ∷ 0x31 ∷ []) (0x02 ∷ [])
