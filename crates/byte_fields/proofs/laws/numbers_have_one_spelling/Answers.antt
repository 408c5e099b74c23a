use Rattle.byte_fields.proofs.NumberLemmas.{number_again, number_back, number_below}
use Rattle.byte_fields.proofs.laws.numbers_have_one_spelling.Goals as goal

pub returns : goal.returns
returns c = record { again = number_again; back = number_back; below = number_below }
