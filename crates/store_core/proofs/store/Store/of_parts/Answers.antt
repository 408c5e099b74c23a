use Rattle.std.proofs.Common.{length, rules, subst, sym}
use Rattle.store_search.specs.Caching.{AreNumbered, Cached}
use Rattle.store_search.proofs.Caches.{none_numbered}
use Rattle.store_core.proofs.store.Store.of_parts.Goals as goal

pub invariant_of-result : goal.invariant_of-result
invariant_of-result g c = (
  record {
    version = c.requires.version;
    slot = c.requires.slot;
    rows = c.requires.rows;
    area = c.requires.area;
    changes = record {
      changes = c.args.changes.items;
      sound = c.requires.sound;
      fits = c.requires.fits;
      filled_is = c.requires.log;
      memory_is = c.in_ok-memory.ensures;
    };
    job = tt;
    numbered = subst (λ (b : Cached). AreNumbered b (length c.args.tables.tables)) (sym c.in_ok-blocks.ensures) (none_numbered (length c.args.tables.tables));
  },
  search rules,
  tt,
)
