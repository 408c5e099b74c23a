use Rattle.whole_keys.proofs.Answered.{one_is_run_past, whole_fits, whole_meets, whole_past, whole_tally}
use Rattle.whole_keys.proofs.laws.whole_meets.Goals as goal

pub returns : goal.returns
returns c = record { point = whole_fits; past = whole_past; range = whole_meets; one = one_is_run_past; count = whole_tally }
