-- Some tables that are opened, and for how many there is room.
use Rattle.std.specs.Prelude.{ℕ, List}
use Rattle.table_file.specs.Opened.{Opened}

pub record TableList : Type 0 where
  pub tables : List Opened
  pub room : ℕ
