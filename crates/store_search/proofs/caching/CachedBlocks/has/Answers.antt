use Rattle.std.proofs.Common.{sym, subst}
use Rattle.store_search.specs.Caching.{AreSound}
use Rattle.store_search.proofs.Caches.{sound_brought}
use Rattle.store_search.proofs.caching.CachedBlocks.has.Goals as goal

pub invariant_of-self : goal.invariant_of-self
invariant_of-self c = subst AreSound (sym c.bring_first.ensures.brought) (sound_brought (c.args.number, c.args.block) _ c.self.invariant)
