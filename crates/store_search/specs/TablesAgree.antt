-- Open tables are those of a state, on an image.
use Rattle.std.specs.Prelude.{◌≡◌, List, [], ◌∷◌}
use Rattle.disk_trait.specs.Image.{Image}
use Rattle.entry_model.specs.Entries.{Entry}
use Rattle.filter_api.specs.Spellings.{Spelling}
use Rattle.table_file.specs.Opened.{Opened}
use Rattle.table_file.specs.Search.{StandsThere}
use Rattle.table_model.specs.Images.{table_with}
use Rattle.table_model.specs.Tables.{Table}

-- the open table is that of the blocks in its pages, and so the state's
pub record TableAgrees (spelling : Spelling) (opened : Opened) (t : Table) (image : Image) : Type 0 where
  pub blocks : List (List Entry)
  pub stands : StandsThere spelling opened blocks image
  pub table_is : t ≡ table_with opened.row blocks stands.at.ranges

-- one after the other
abbrev pub TablesAgree : Spelling → List Opened → List Table → Image → Type 0
TablesAgree spelling [] [] image = Unit {0}
TablesAgree spelling (opened ∷ more) (t ∷ tables) image = TableAgrees spelling opened t image × TablesAgree spelling more tables image
TablesAgree spelling opened tables image = ⊥
