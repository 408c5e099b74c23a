-- Keys that are not the same.
use Rattle.std.proofs.Common.{◌≡◌, ◌≢◌, ℕ, true, false, length, refl, ap}
use Rattle.std.specs.Prelude.{bytes_eq, slice_index}
use Rattle.std.proofs.lemmas.Slice.Eq.{bytes_eq-Decides}
use Rattle.map_model.specs.SortedMap.{Bytes}

-- two keys that differ in anything are not the same
apart : {A : Type 0} (f : Bytes → A) (a b : Bytes) → f a ≢ f b → false ≡ bytes_eq a b
apart f a b other = elim (bytes_eq a b) as (λ t. bytes_eq a b ≡ t → false ≡ t) [
  | true ↦ λ same. absurd (other (ap f ((bytes_eq-Decides a b).0 same)))
  | false ↦ λ _. refl
] refl

pub other_length : (a b : Bytes) → length a ≢ length b → false ≡ bytes_eq a b
other_length = apart length

pub other_byte : (a b : Bytes) (place : ℕ) → slice_index a place ≢ slice_index b place → false ≡ bytes_eq a b
other_byte a b place = apart (λ bytes. slice_index bytes place) a b
