-- Laws of the sorted map, and of what is read between two keys.
use Rattle.std.specs.Prelude.{◌≡◌, ◌≢◌, ◌↔◌, ◌≤◌, ℕ, true, false, [], length, count_by, Option, Some, None}
use Rattle.std.specs.List.{All}
use Rattle.map_model.specs.SortedMap.{Bytes, Map, get, put, del, Rises}
use Rattle.map_model.specs.Slices.{is_before, is_between, between, slice, seek, count}

-- a put gives its value to its key, and leaves every other key as it was
pub record PutLaws : Type 0 where
  pub here : (map : Map) (key value : Bytes) → get (put map key value) key ≡ Some value
  pub elsewhere : (map : Map) (key value other : Bytes) → key ≢ other → get (put map key value) other ≡ get map other
  pub rises : (map : Map) (key value : Bytes) → Rises map → Rises (put map key value)

-- a del takes its key away, and leaves every other key as it was
pub record DelLaws : Type 0 where
  pub here : (map : Map) (key : Bytes) → get (del map key) key ≡ None
  pub elsewhere : (map : Map) (key other : Bytes) → key ≢ other → get (del map key) other ≡ get map other
  pub rises : (map : Map) (key : Bytes) → Rises map → Rises (del map key)

-- The pairs between two keys are a map that has, at each key there, what the whole has, and nothing elsewhere. A slice
-- of n is no longer than n, is all of them where they are no more, keeps their order, and is empty where lo is above hi.
pub record SliceLaws : Type 0 where
  pub within : (map : Map) (lo : Bytes) (hi : Option Bytes) (key : Bytes) → is_between lo hi key ≡ true → get (between map lo hi) key ≡ get map key
  pub outside : (map : Map) (lo : Bytes) (hi : Option Bytes) (key : Bytes) → is_between lo hi key ≡ false → get (between map lo hi) key ≡ None
  pub short : (map : Map) (lo : Bytes) (hi : Option Bytes) (n : ℕ) → length (slice map lo hi n) ≤ n
  pub whole : (map : Map) (lo : Bytes) (hi : Option Bytes) (n : ℕ) → count map lo hi ≤ n → slice map lo hi n ≡ between map lo hi
  pub rises : (map : Map) (lo : Bytes) (hi : Option Bytes) (n : ℕ) → Rises map → Rises (slice map lo hi n)
  pub crossed : (map : Map) (lo hi : Bytes) (n : ℕ) → is_before hi lo ≡ true → slice map lo (Some hi) n ≡ []

-- a seek gives nothing exactly where no pair lies between, and else the least of the keys there
pub record SeekLaws : Type 0 where
  pub none : (map : Map) (lo : Bytes) (hi : Option Bytes) → (seek map lo hi ≡ None) ↔ All (λ (pair : Bytes × Bytes). is_between lo hi pair.0 ≡ false) map
  pub between : (map : Map) (lo : Bytes) (hi : Option Bytes) (pair : Bytes × Bytes) → seek map lo hi ≡ Some pair → is_between lo hi pair.0 ≡ true
  pub least :
      (map : Map) (lo : Bytes) (hi : Option Bytes) (pair : Bytes × Bytes) (key value : Bytes) → Rises map
      → seek map lo hi ≡ Some pair → get map key ≡ Some value → is_between lo hi key ≡ true → is_before key pair.0 ≡ false

-- a count counts the pairs whose keys lie between, none where lo is above hi
pub record CountLaws : Type 0 where
  pub counts : (map : Map) (lo : Bytes) (hi : Option Bytes) → count map lo hi ≡ count_by (λ (pair : Bytes × Bytes). is_between lo hi pair.0) map
  pub crossed : (map : Map) (lo hi : Bytes) → is_before hi lo ≡ true → count map lo (Some hi) ≡ 0
