use Rattle.std.proofs.Common.{◌≡◌, length}
use Rattle.entry_model.specs.Newest.{KeysRise}
use Rattle.merge_rows.specs.Rows.{above_floor}
use Rattle.merge_rows.proofs.memory_source.MemorySource.catch_up.Given as goal

-- only entries below the floor were passed over
abbrev pub invariant-loop-key : goal.invariant-loop-key
invariant-loop-key l = record {
  same : above_floor l.floor l.self ≡ above_floor l.floor l.fn.self;
  rises : KeysRise l.fn.self → KeysRise l.self;
}

abbrev pub decreases-loop-key : goal.decreases-loop-key
decreases-loop-key l = length l.self
