-- What a cursor ends as, once an entry that it lent is given back.
use Rattle.std.specs.Prelude.{⊤}
use Rattle.std.specs.Borrow.{Fml, MutBor, follows_so}
use mathlib.Core.Option.{none}
use Rattle.table_file.specs.Walks.{CursorWalk}
use Rattle.table_file.specs.contracts.cursor.TableCursor.{the_row}

abbrev pub cursor_ends : MutBor CursorWalk → (CursorWalk → Type 0) → Fml
cursor_ends cursor P = follows_so the_row the_row cursor.ghost_name none (λ _ _. ⊤) P
