use Rattle.std.proofs.Common.{◌≡◌}
use Rattle.map_file_model.specs.Reading.{offsets_fault}
use Rattle.map_parts.proofs.Offsets.{falls_behind}
use Rattle.map_parts.proofs.rest.offsets_rule.Given as goal

-- what the offsets to come break is what all do
abbrev pub invariant-loop-slot : goal.invariant-loop-slot
invariant-loop-slot l = offsets_fault l.bytes ≡ falls_behind l.bytes l.slot l.before
