use Rattle.std.proofs.Common.{arith}
use Rattle.bit_select.proofs.Windows.{ones-split, ones-halves}
use Rattle.bit_select.proofs.word.halved.Goals as goal

pub returns-else-window-count-clause-before : goal.returns-else-window-count-clause-before
returns-else-window-count-clause-before c =
    omega (arith, ones-split c.args.word c.args.window.place c.args.width, c.ones_below-count.ensures)

pub returns-else-window-count-clause-holds : goal.returns-else-window-count-clause-holds
returns-else-window-count-clause-holds c =
    omega (arith, ones-halves c.args.word c.args.window.place c.args.width, c.ones_below-count.ensures, c.requires.holds)
