use Rattle.std.proofs.Common.{refl}
use Rattle.std.specs.Fmt.{digits}
use Rattle.hex.specs.Hex.{decode_pairs}
use Rattle.map_run_model.proofs.examples.lines_of_a_map.Goals as goal

pub returns-clause-requests : goal.returns-clause-requests
unfolding digits decode_pairs
returns-clause-requests c = refl

pub returns-clause-bad_words : goal.returns-clause-bad_words
unfolding digits decode_pairs
returns-clause-bad_words c = refl
