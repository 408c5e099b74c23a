use Rattle.std.proofs.Common.{◌≡◌}
use Rattle.std.specs.List.{AllWithin}
use Rattle.std.specs.declared.cmp.Ordering.TheVariants.{Greater}
use Rattle.map_model.specs.SortedMap.{byte_order}
use Rattle.plain_map.proofs.map.PlainMap.place_of.Given as goal

abbrev pub invariant-loop-at : goal.invariant-loop-at
invariant-loop-at l = AllWithin (λ pair. byte_order l.key pair.0 ≡ Greater) l.self 0 l.at
