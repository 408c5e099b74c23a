use Rattle.std.proofs.Common.{arith}
use Rattle.std.proofs.lemmas.List.{take_all, length-drop}
use Rattle.store_commands.proofs.Windows.{shows_added}
use Rattle.store_commands.proofs.window.add.Goals as goal

pub returns-clause-shows : goal.returns-clause-shows
returns-clause-shows c from whole shows =
    shows_added from whole c.args.text.now _ _ c.args.into.now _ _ c.min-skipped.result _ c.min-n.result shows c.put_text-filled.auto.into c.min-skipped.ensures
    (take_all _ _ (omega (arith, length-drop c.min-skipped.result c.args.text.now))) c.min-n.ensures c.put_text-filled.ensures.end c.put_text-filled.ensures.text
