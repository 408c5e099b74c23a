use Rattle.std.proofs.Common.{ap, sym}
use Rattle.std.specs.Option.{option_map}
use Rattle.filter_iter.specs.CursorPath.{branch_of_end}
use Rattle.filter_iter.proofs.branches.end_branch.Goals as goal

pub returns-in-Some : goal.returns-in-Some
returns-in-Some g c = ap (option_map branch_of_end) (sym c.in-Some.ensures)

pub returns-in-None : goal.returns-in-None
returns-in-None g c = ap (option_map branch_of_end) (sym c.in-None.ensures)
