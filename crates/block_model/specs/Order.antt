-- How the keys of a block and of an index follow one another.
use Rattle.std.specs.Prelude.{◌≡◌, Bool, true, not, List, [], ◌∷◌}
use Rattle.key_base.specs.ByteOrder.{is_before}
use Rattle.map_model.specs.SortedMap.{Bytes}

-- tests of a key: not before another one, any key
abbrev pub is_from : Bytes → Bytes → Bool
is_from low key = not (is_before key low)

abbrev pub is_any : Bytes → Bool
is_any key = true

-- the first key passes a test, and each later one comes behind the one before it
abbrev pub Follow : (Bytes → Bool) → List Bytes → Type 0
Follow test [] = Unit {0}
Follow test (key ∷ later) = (test key ≡ true) × Follow (is_before key) later
