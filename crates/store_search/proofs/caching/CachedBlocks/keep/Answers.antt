use Rattle.std.proofs.Common.{◌∙◌, ap}
use Rattle.block_cache.proofs.Results.{by_result}
use Rattle.block_model.specs.BlockReading.{block_fault}
use Rattle.store_search.specs.Caching.{AreSound}
use Rattle.store_search.proofs.Caches.{sound_with}
use Rattle.store_search.proofs.caching.CachedBlocks.keep.Goals as goal

pub invariant_of-self-in-Ok-2 : goal.invariant_of-self-in-Ok-2
invariant_of-self-in-Ok-2 c =
    by_result c.keep.result AreSound c.keep.ensures.kept c.keep.ensures.unchanged
    (sound_with (c.args.number, c.args.block) _ _ (ap block_fault c.in-Ok.ensures.ok ∙ c.requires) c.self.invariant) c.self.invariant
