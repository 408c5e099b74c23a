use Rattle.state_model.proofs.Merged.{merge_says, tombstones_last, merge_is_whole, merge_some, merge_sound, merge_few}
use Rattle.state_model.proofs.laws.merge_laws.Goals as goal

pub returns : goal.returns
returns c = record { says = merge_says; tombstones = tombstones_last; whole = merge_is_whole; some = merge_some; sound = merge_sound; few = merge_few }
