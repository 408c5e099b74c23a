use Rattle.state_model.proofs.Kept.{flushed_keeps, written_makes, compacted_keeps}
use Rattle.state_model.proofs.Lines.{lines_change}
use Rattle.state_model.proofs.laws.change_laws.Goals as goal

pub returns : goal.returns
returns c = record { flush = flushed_keeps; write = written_makes; compaction = compacted_keeps; lines = lines_change }
