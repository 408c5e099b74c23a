-- The pages of rows spell one list of tables.
use Rattle.std.proofs.Common.{◌≡◌, List, [], ◌∷◌, refl, ap₂}
use Rattle.disk_trait.specs.Image.{Image}
use Rattle.byte_fields.specs.declared.parts.Row.{Row}
use Rattle.filter_api.specs.Spellings.{Spelling}
use Rattle.table_model.specs.Tables.{Table}
use Rattle.table_model.proofs.OneTable.{one_table}
use Rattle.image_model.specs.Tables.{AreTablesOf}

pub tables_at : (spelling : Spelling) (rows : List Row) (ts us : List Table) (image : Image) → AreTablesOf spelling rows ts image
    → AreTablesOf spelling rows us image → ts ≡ us
tables_at spelling [] [] [] image a b = refl
tables_at spelling [] [] (u ∷ us) image a b = elim b [ ]
tables_at spelling [] (t ∷ ts) us image a b = elim a [ ]
tables_at spelling (row ∷ rows) [] us image a b = elim a [ ]
tables_at spelling (row ∷ rows) (t ∷ ts) [] image a b = elim b [ ]
tables_at spelling (row ∷ rows) (t ∷ ts) (u ∷ us) image a b =
    ap₂ (λ (v : Table) (vs : List Table). v ∷ vs) (one_table spelling row t u image a.0 b.0) (tables_at spelling rows ts us image a.1 b.1)
