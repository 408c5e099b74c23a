use Rattle.byte_fields.proofs.FieldLemmas.{fields_again, fields_back, fields_below}
use Rattle.byte_fields.proofs.laws.fields_have_one_spelling.Goals as goal

pub returns : goal.returns
returns c = record { again = fields_again; back = fields_back; below = fields_below }
