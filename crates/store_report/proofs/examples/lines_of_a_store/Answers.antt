use Rattle.std.proofs.Common.{refl}
use Rattle.std.specs.Fmt.{digits}
use Rattle.hex.specs.Hex.{encode_with}
use Rattle.store_report.proofs.examples.lines_of_a_store.Goals as goal

pub returns-clause-table : goal.returns-clause-table
unfolding digits encode_with
returns-clause-table c = refl

pub returns-clause-deeper : goal.returns-clause-deeper
unfolding digits encode_with
returns-clause-deeper c = refl

pub returns-clause-store : goal.returns-clause-store
unfolding digits
returns-clause-store c = refl
