-- What a merge ends as, once a row that it lent is given back.
use Rattle.std.specs.Prelude.{[], ⊤}
use Rattle.std.specs.Borrow.{Fml, MutBor, follows_so}
use mathlib.Core.Option.{none}
use mir.Syntax.{named}
use Rattle.merge_rows.specs.Merges.{Merge}
use Rattle.merge_rows.specs.contracts.rows.MergeRows.{the_row}

abbrev pub merge_ends : MutBor Merge → (Merge → Type 0) → Fml
merge_ends merge P = follows_so (the_row (record { mir = named 1; lft = [] })) (the_row (record { mir = named 1; lft = [] })) merge.ghost_name none (λ _ _. ⊤) P
