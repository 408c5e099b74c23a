use Rattle.std.proofs.Common.{[]}
use Rattle.std.specs.Prelude.{◌==◌}
use Rattle.std.specs.List.{slice_split}
use Rattle.std.proofs.Common.{drop, ◌+◌}
use Rattle.store_commands.proofs.Cuts.{cut_nowhere, cut_there}
use Rattle.fst_run.proofs.map_line.first_word.Goals as goal

pub returns-in-Some : goal.returns-in-Some
returns-in-Some c = (slice_split (λ x. x == 32) (drop (c.in-Some.at + 1) c.args.line.now), cut_there 32 c.args.line.now c.in-Some.at c.in-Some.ensures.0 c.in-Some.ensures.1)

pub returns-in-None : goal.returns-in-None
returns-in-None c = ([], cut_nowhere 32 c.args.line.now c.in-None.ensures)
