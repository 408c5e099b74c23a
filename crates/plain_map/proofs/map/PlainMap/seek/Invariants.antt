use Rattle.std.proofs.Common.{◌≡◌, drop}
use Rattle.std.specs.Option.{option_map}
use Rattle.map_model.specs.Slices.{seek}
use Rattle.plain_map.proofs.map.PlainMap.seek.Given as goal

abbrev pub invariant-loop-pair : goal.invariant-loop-pair
invariant-loop-pair l = record {
  whole : l.pair-items ≡ l.self;
  left : seek (drop l.pair-index l.pair-items) l.lo (option_map (λ h. h.now) l.hi) ≡ seek l.pair-items l.lo (option_map (λ h. h.now) l.hi);
}
