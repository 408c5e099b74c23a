-- The tables that the pages of some rows spell.
use Rattle.std.specs.Prelude.{List, [], ◌∷◌}
use Rattle.disk_trait.specs.Image.{Image}
use Rattle.byte_fields.specs.declared.parts.Row.{Row}
use Rattle.filter_api.specs.Spellings.{Spelling}
use Rattle.table_model.specs.Images.{IsTableOf}
use Rattle.table_model.specs.Tables.{Table}

-- the tables of all rows, in their order
abbrev pub AreTablesOf : Spelling → List Row → List Table → Image → Type 0
AreTablesOf spelling [] [] image = Unit {0}
AreTablesOf spelling (row ∷ rows) (t ∷ tables) image = IsTableOf spelling row t image × AreTablesOf spelling rows tables image
AreTablesOf spelling rows tables image = ⊥
