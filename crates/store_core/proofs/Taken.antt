-- The extents that a state takes are those of the rows under it.
use Rattle.std.proofs.Common.{◌≡◌, ◌∙◌, List, [], ◌∷◌, refl, ap, map}
use Rattle.byte_fields.specs.declared.parts.Row.{Row}
use Rattle.disk_trait.specs.Image.{Image}
use Rattle.extent_model.specs.Extents.{Extent}
use Rattle.filter_api.specs.Spellings.{Spelling}
use Rattle.image_model.specs.Tables.{AreTablesOf}
use Rattle.manifest_model.specs.Rows as rows
use Rattle.state_model.specs.Taken.{extent_of}
use Rattle.table_model.specs.Images.{IsTableOf}
use Rattle.table_model.specs.Tables.{Table}

module _ (spelling : Spelling) (image : Image) where
  one_extent : (row : Row) (t : Table) → IsTableOf spelling row t image → extent_of t ≡ rows.extent_of row
  one_extent row t is = ap extent_of is.2

  pub rows_extents : (rs : List Row) (ts : List Table) → AreTablesOf spelling rs ts image → map extent_of ts ≡ map rows.extent_of rs
  rows_extents [] [] are = refl
  rows_extents [] (t ∷ ts) are = elim are [ ]
  rows_extents (row ∷ rs) [] are = elim are [ ]
  rows_extents (row ∷ rs) (t ∷ ts) are =
      ap (λ (e : Extent). e ∷ map extent_of ts) (one_extent row t are.0) ∙ ap (λ (es : List Extent). rows.extent_of row ∷ es) (rows_extents rs ts are.1)
