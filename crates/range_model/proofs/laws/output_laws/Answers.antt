use Rattle.range_model.proofs.Outputs.{outputs_say}
use Rattle.range_model.proofs.SoundOutputs.{no_ranges, outputs_are, outputs_are_cut, outputs_have_bounds}
use Rattle.range_model.proofs.Silence.{outputs_lie_apart}
use Rattle.range_model.proofs.laws.output_laws.Goals as goal

pub returns-clause-cut : goal.returns-clause-cut
returns-clause-cut c = outputs_are_cut

pub returns-clause-say : goal.returns-clause-say
returns-clause-say c = outputs_say

pub returns-clause-are : goal.returns-clause-are
returns-clause-are c = outputs_are

pub returns-clause-bounds : goal.returns-clause-bounds
returns-clause-bounds c = outputs_have_bounds

pub returns-clause-none : goal.returns-clause-none
returns-clause-none c = no_ranges

pub returns-clause-apart : goal.returns-clause-apart
returns-clause-apart c = outputs_lie_apart
