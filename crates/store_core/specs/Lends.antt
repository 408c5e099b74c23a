-- What a store ends as, once a value that it lent is given back.
use Rattle.std.specs.Prelude.{[], ⊤}
use Rattle.std.specs.Borrow.{Fml, MutBor, RattleType, follows_so}
use mathlib.Core.Option.{none}
use mir.Syntax.{named}
use Rattle.filter_api.specs.declared.filter.RangeFilter as filter
use Rattle.store_core.specs.StoreValue.{StoreValue}
use Rattle.store_core.specs.Scans.{ScanWalk}
use Rattle.store_core.specs.contracts.scanning.Scan as scan
use Rattle.store_core.specs.contracts.store.Store.{the_row}

module _ (F : RattleType) (members : filter.Ghosts F.Denot) where
  abbrev pub store_ends : MutBor StoreValue → (StoreValue → Type 0) → Fml
  store_ends store P = follows_so (the_row F members) (the_row F members) store.ghost_name none (λ _ _. ⊤) P

  abbrev pub scan_ends : MutBor ScanWalk → (ScanWalk → Type 0) → Fml
  scan_ends walk P =
      follows_so (scan.the_row (record { mir = named 1; lft = [] }) F members) (scan.the_row (record { mir = named 1; lft = [] }) F members) walk.ghost_name none (λ _ _. ⊤) P
