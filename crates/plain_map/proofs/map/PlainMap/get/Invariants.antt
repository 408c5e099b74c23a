use Rattle.std.proofs.Common.{◌≡◌, drop}
use Rattle.map_model.specs.SortedMap.{get}
use Rattle.plain_map.proofs.map.PlainMap.get.Given as goal

abbrev pub invariant-loop-pair : goal.invariant-loop-pair
invariant-loop-pair l = record {
  whole : l.pair-items ≡ l.self;
  left : get (drop l.pair-index l.pair-items) l.key ≡ get l.pair-items l.key;
}
