use Rattle.std.proofs.Common.{◌≡◌, ◌-◌, length}
use Rattle.log_model.specs.Changes.{filled_by}
use Rattle.log_model.specs.Records.{BeginsWith}
use Rattle.gate_log.proofs.reading.changes_in.Given as goal

abbrev pub invariant-loop-at : goal.invariant-loop-at
invariant-loop-at l = record { begins : BeginsWith l.changes.items l.bytes; here : l.at ≡ filled_by l.changes.items }

abbrev pub decreases-loop-at : goal.decreases-loop-at
decreases-loop-at l = length l.bytes - l.at
