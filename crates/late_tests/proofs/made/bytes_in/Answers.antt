use Rattle.late_tests.proofs.made.bytes_in.Goals as goal

pub returns-clause-bytes : goal.returns-clause-bytes
returns-clause-bytes c i = (c.type_inv.bytes i).fits
