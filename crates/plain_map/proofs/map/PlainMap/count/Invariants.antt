use Rattle.std.proofs.Common.{◌≡◌, ◌≤◌, ◌+◌, drop}
use Rattle.std.specs.Option.{option_map}
use Rattle.map_model.specs.Slices.{count}
use Rattle.plain_map.proofs.map.PlainMap.count.Given as goal

abbrev pub invariant-loop-pair : goal.invariant-loop-pair
invariant-loop-pair l = record {
  whole : l.pair-items ≡ l.self;
  few : l.count ≤ l.pair-index;
  counted : l.count + count (drop l.pair-index l.pair-items) l.lo (option_map (λ h. h.now) l.hi) ≡ count l.pair-items l.lo (option_map (λ h. h.now) l.hi);
}
