use Rattle.std.proofs.Common.{[]}
use Rattle.store_commands.proofs.reply.say_other_sum.Goals as goal

pub returns-clause-shows : goal.returns-clause-shows
returns-clause-shows c from s =
    c.add.ensures.shows from _ (c.add_sum-window-2.ensures.shows from _ (c.add-window-4.ensures.shows from _ (c.add_sum-window.ensures.shows from _ (c.add-window-3.ensures.shows from _ (c.add_number-window.ensures.shows from _ (c.add-window-2.ensures.shows from _ (c.add_part-window.ensures.shows from _ (c.add-window.ensures.shows from [] s))))))))
