use Rattle.state_model.proofs.FaultsMet.{refused_slice_left}
use Rattle.state_model.proofs.EmptyStores.{compaction_left}
use Rattle.state_model.proofs.laws.no_job_is_left.Goals as goal

pub returns : goal.returns
returns c = record { compaction = compaction_left; merge_slice = refused_slice_left }
