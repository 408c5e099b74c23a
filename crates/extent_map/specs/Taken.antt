-- What a map of extents is seen as, and their order in it.
use Rattle.std.specs.Prelude.{ℕ, zero, suc, ◌<◌, ◌≤◌, List, [], ◌∷◌}
use Rattle.extent_model.specs.Extents.{Extent, end_of}

-- the pages of a device, and the extents that are taken of it
pub record Taken : Type 0 where
  pub pages : ℕ
  pub extents : List Extent

-- Extents from a page on and up to the device's end: each has pages, and lies behind the one before.
abbrev pub RiseFrom : ℕ → ℕ → List Extent → Type 0
RiseFrom pages page [] = page ≤ pages
RiseFrom pages page (extent ∷ later) = (page ≤ extent.0) × (0 < extent.1) × RiseFrom pages (end_of extent) later

-- the page behind the first so many extents, and that page where there are none
abbrev pub end_before : ℕ → List Extent → ℕ → ℕ
end_before page extents zero = page
end_before page [] (suc more) = page
end_before page (extent ∷ later) (suc more) = end_before (end_of extent) later more

-- the first page of the extent at a place, and the device's end behind the last
abbrev pub first_at : ℕ → List Extent → ℕ → ℕ
first_at pages [] place = pages
first_at pages (extent ∷ later) zero = extent.0
first_at pages (extent ∷ later) (suc place) = first_at pages later place
