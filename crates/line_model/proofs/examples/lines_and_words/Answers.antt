use Rattle.std.proofs.Common.{refl}
use Rattle.std.specs.Fmt.{digits}
use Rattle.hex.specs.Hex.{decode_pairs, encode_with}
use Rattle.line_model.proofs.examples.lines_and_words.Goals as goal

pub returns-clause-numbers_in_one_spelling : goal.returns-clause-numbers_in_one_spelling
unfolding digits decode_pairs
returns-clause-numbers_in_one_spelling c = refl

pub returns-clause-texts : goal.returns-clause-texts
unfolding digits encode_with
returns-clause-texts c = refl

pub returns-clause-a_damaged_sum : goal.returns-clause-a_damaged_sum
unfolding digits encode_with
returns-clause-a_damaged_sum c = refl
