-- Where on a device of so many pages there is room beside some extents.
use Rattle.std.specs.Prelude.{ℕ, ◌-◌, nat_le, nat_lt, min, max, Bool, ◌&&◌, if◌then◌else◌, List, [], ◌∷◌, map, filter, fold, Option, Some, None}
use Rattle.std.specs.List.{list_any}
use Rattle.extent_model.specs.Extents.{Extent, end_of, first_table_page}

abbrev pub has_page : ℕ → Extent → Bool
has_page page extent = nat_le extent.0 page && nat_lt page (end_of extent)

-- the first page of the next extent, or the device's end
abbrev pub next_taken : ℕ → List Extent → ℕ → ℕ
next_taken pages extents page = fold min pages (map (λ (e : Extent). e.0) (filter (λ (e : Extent). nat_le page e.0) extents))

-- how many pages are free from this page on
abbrev pub room_at : ℕ → List Extent → ℕ → ℕ
room_at pages extents page = if list_any (has_page page) extents then 0 else next_taken pages extents page - page

-- the pages at which a gap may begin
abbrev pub gap_starts : List Extent → List ℕ
gap_starts extents = first_table_page ∷ map end_of extents

-- the pages of the largest gap
abbrev pub largest_gap : ℕ → List Extent → ℕ
largest_gap pages extents = fold max 0 (map (room_at pages extents) (gap_starts extents))

abbrev pub least : List ℕ → Option ℕ
least [] = None
least (n ∷ more) = Some (fold min n more)

-- the first page of the first gap that holds so many pages
abbrev pub first_gap : ℕ → List Extent → ℕ → Option ℕ
first_gap pages extents need = least (filter (λ page. nat_le need (room_at pages extents page)) (gap_starts extents))
