-- The sorted map: pairs of byte strings with strictly rising keys.
use Rattle.std.specs.Prelude.{◌≡◌, List, [], ◌∷◌, Option, Some, None, if◌then◌else◌, bytes_eq}
use Rattle.std.specs.declared.cmp.Ordering.{Ordering}
use Rattle.std.specs.declared.cmp.Ordering.TheVariants.{Less, Equal, Greater}
pub use Rattle.key_base.specs.ByteOrder.{Bytes, byte_order}

abbrev pub Map : Type 0
Map = List (Bytes × Bytes)

-- the value under the key
abbrev pub get : Map → Bytes → Option Bytes
get [] key = None
get (pair ∷ more) key = if bytes_eq pair.0 key then Some pair.1 else get more key

-- Something new where keys rise: before the first, in its place, or behind it, where `later` is what it makes of the rest.
abbrev pub in_place : {A : Type 0} → Ordering → A → A → List A → List A → List A
in_place Less new first more later = new ∷ first ∷ more
in_place Equal new first more later = new ∷ more
in_place Greater new first more later = first ∷ later

-- the map with this value under the key, in the place of an older one
abbrev pub put : Map → Bytes → Bytes → Map
put [] key value = (key, value) ∷ []
put (pair ∷ more) key value = in_place (byte_order key pair.0) (key, value) pair more (put more key value)

-- the map without the key
abbrev pub del : Map → Bytes → Map
del [] key = []
del (pair ∷ more) key = if bytes_eq pair.0 key then del more key else pair ∷ del more key

-- the keys rise strictly
abbrev pub Rises : Map → Type 0
Rises [] = Unit {0}
Rises (pair ∷ []) = Unit {0}
Rises (pair ∷ next ∷ more) = (byte_order pair.0 next.0 ≡ Less) × Rises (next ∷ more)
