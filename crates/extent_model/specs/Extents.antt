-- Runs of pages on a device.
use Rattle.std.specs.Prelude.{ℕ, ◌+◌, ◌<◌, ◌≤◌, ◌⊎◌, List}
use Rattle.std.specs.List.{AllByRecursion, AllPairs}
pub use Rattle.key_base.specs.Limits.{first_table_page}

-- an extent: its first page, and how many pages it has
abbrev pub Extent : Type 0
Extent = ℕ × ℕ

-- the page behind it
abbrev pub end_of : Extent → ℕ
end_of extent = extent.0 + extent.1

-- the extent has pages, behind manifest and logs and on a device of so many pages
pub record IsOnDevice (pages : ℕ) (extent : Extent) : Type 0 where
  pub some : 0 < extent.1
  pub from : first_table_page ≤ extent.0
  pub to : end_of extent ≤ pages

-- the two do not meet
abbrev pub AreApart : Extent → Extent → Type 0
AreApart a b = (end_of a ≤ b.0) ⊎ (end_of b ≤ a.0)

-- these extents are on the device, and no two of them meet
pub record AreLaid (pages : ℕ) (extents : List Extent) : Type 0 where
  pub on_device : AllByRecursion (IsOnDevice pages) extents
  pub apart : AllPairs AreApart extents
