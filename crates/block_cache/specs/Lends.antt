-- What a cache ends as, once a block that it lent is given back.
use Rattle.std.specs.Prelude.{List, ⊤}
use Rattle.std.specs.Borrow.{Fml, MutBor, follows_so}
use mathlib.Core.Option.{none}
use Rattle.block_cache.specs.Kept.{KeptBlock}
use Rattle.block_cache.specs.contracts.cache.BlockCache.{the_row}

abbrev pub cache_ends : MutBor (List KeptBlock) → (List KeptBlock → Type 0) → Fml
cache_ends cache P = follows_so the_row the_row cache.ghost_name none (λ _ _. ⊤) P
