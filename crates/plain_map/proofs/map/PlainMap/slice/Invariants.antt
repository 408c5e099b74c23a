use Rattle.std.proofs.Common.{◌≡◌, ◌≤◌, ◌-◌, ◌++◌, length, drop, take}
use Rattle.std.specs.Option.{option_map}
use Rattle.map_model.specs.Slices.{between, slice}
use Rattle.plain_map.proofs.map.PlainMap.slice.Given as goal

abbrev pub invariant-loop-pair : goal.invariant-loop-pair
invariant-loop-pair l = record {
  whole : l.pair-items ≡ l.self;
  few : length l.pairs.items ≤ l.n;
  left : l.pairs.items ++ take (l.n - length l.pairs.items) (between (drop l.pair-index l.pair-items) l.lo (option_map (λ h. h.now) l.hi)) ≡ slice l.pair-items l.lo (option_map (λ h. h.now) l.hi) l.n;
}
