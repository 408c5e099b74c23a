use Rattle.state_model.specs.PlayLaws.{Never}
use Rattle.state_model.proofs.Wholes.{merged_is_a_slice}
use Rattle.state_model.proofs.Plays.{no_job_behind, lines_played}
use Rattle.state_model.proofs.laws.play_laws.Goals as goal

pub returns : goal.returns
returns c = record {
  merge_slice = λ filter_bytes s none. (merged_is_a_slice Never filter_bytes s none).0;
  no_job = no_job_behind;
  script = λ filter_bytes s said lines none. lines_played Never filter_bytes s said lines none;
}
