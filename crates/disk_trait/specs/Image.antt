-- The bytes of a disk as a function from place to byte: 0 past the end.
use Rattle.std.specs.Prelude.{◌<◌, ◌≡◌, ◌⊎◌, ℕ, zero, suc, ◌+◌, ◌-◌, ◌≤◌, List, [], ◌∷◌, length, nat_lt, if◌then◌else◌, slice_index_or}

abbrev pub Image : Type 0
Image = ℕ → ℕ

-- so many bytes from a place on
abbrev pub window : Image → ℕ → ℕ → List ℕ
window image at zero = []
window image at (suc n) = image at ∷ window image (at + 1) n

-- these bytes stand there
abbrev pub Shows : ℕ → List ℕ → Image → Type 0
Shows at bytes image = window image at (length bytes) ≡ bytes

-- so many bytes from one place on do not meet so many from another
abbrev pub IsApart : ℕ → ℕ → ℕ → ℕ → Type 0
IsApart from size at n = (from + size ≤ at) ⊎ (at + n ≤ from)

-- these bytes written from a place on
abbrev pub overwritten : Image → ℕ → List ℕ → Image
overwritten image at bytes place = if nat_lt place at then image place else slice_index_or bytes (place - at) (image place)

-- any bytes in the range of so many from a place on, and the same outside it
pub record Torn (at n : ℕ) (old new : Image) : Type 0 where
  pub before : (place : ℕ) → place < at → new place ≡ old place
  pub after : (place : ℕ) → at + n ≤ place → new place ≡ old place

abbrev pub Same : Image → Image → Type 0
Same old new = new ≡ old
