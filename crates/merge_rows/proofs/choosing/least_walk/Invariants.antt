use Rattle.std.proofs.Common.{◌≡◌, ◌<◌, drop, length, map}
use Rattle.std.specs.Prelude.{IfSome}
use Rattle.std.specs.Option.{option_map}
use Rattle.merge_rows.specs.Choosing.{head_in, least_from}
use Rattle.merge_rows.specs.Leads.{key_at_hand}
use Rattle.merge_rows.specs.Merges.{TableWalk}
use Rattle.merge_rows.proofs.choosing.least_walk.Given as goal

-- the least of the walks from this one on
abbrev pub invariant-loop-i : goal.invariant-loop-i
invariant-loop-i l = record {
  least : option_map (λ at. (at, key_at_hand (head_in l.walks at))) l.least ≡ least_from l.i (drop l.i (map (λ (w : TableWalk). w.walk.now) l.walks));
  there : IfSome l.least (λ at. at < length l.walks);
}
