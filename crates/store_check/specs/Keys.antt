-- The keys of some blocks, whatever blocks they are.
use Rattle.std.specs.Prelude.{List, ◌++◌}
use Rattle.std.specs.List.{AllByRecursion}
use Rattle.filter_model.specs.Keys.{IsKey}
use Rattle.map_model.specs.SortedMap.{Bytes}
use Rattle.block_model.specs.Order.{Follow, is_any}
use Rattle.image_model.specs.Findings.{Before, may_follow}

-- each is a key, and they rise
pub record AreKeys (keys : List Bytes) : Type 0 where
  pub each : AllByRecursion IsKey keys
  pub rising : Follow is_any keys

-- Each is a key, and they rise, and go on rising with whatever keys may come after what is known of the last of them.
pub record AreRisen (before : Before) (keys : List Bytes) : Type 0 where
  pub each : AllByRecursion IsKey keys
  pub rising : (more : List Bytes) → Follow (may_follow before) more → Follow is_any (keys ++ more)
