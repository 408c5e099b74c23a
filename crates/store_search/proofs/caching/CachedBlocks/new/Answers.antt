use Rattle.std.proofs.Common.{sym, subst}
use Rattle.store_search.specs.Caching.{AreSound}
use Rattle.store_search.proofs.Caches.{none_sound}
use Rattle.store_search.proofs.caching.CachedBlocks.new.Goals as goal

pub invariant_of-result : goal.invariant_of-result
invariant_of-result c = subst AreSound (sym c.in_ok-cache.ensures) none_sound
