use Rattle.state_model.proofs.FaultsMet.{step_keeps_device, slice_keeps_device}
use Rattle.state_model.proofs.laws.device_is_kept.Goals as goal

pub returns : goal.returns
returns c = record { line = step_keeps_device; merge_slice = slice_keeps_device }
