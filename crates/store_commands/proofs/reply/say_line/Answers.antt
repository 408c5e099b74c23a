use Rattle.std.proofs.Common.{[], sym, subst}
use Rattle.line_model.specs.Replies.{text_of}
use Rattle.store_commands.specs.Spoken.{HasPiece, spoken}
use Rattle.store_commands.specs.declared.reply.Reply.{Reply}
use Rattle.store_commands.proofs.reply.say_line.Goals as goal

pub returns-in-LongValue-clause-shows : goal.returns-in-LongValue-clause-shows
returns-in-LongValue-clause-shows c from s =
    subst (λ (r : Reply). HasPiece from (text_of (spoken r)) c.say_count-in-LongValue.result.filled c.say_count-in-LongValue.result.skip c.say_count-in-LongValue.new.into)
    (sym c.in-LongValue.is) (c.say_count-in-LongValue.ensures.shows from s)

pub returns-in-ManyTables-clause-shows : goal.returns-in-ManyTables-clause-shows
returns-in-ManyTables-clause-shows c from s =
    subst (λ (r : Reply). HasPiece from (text_of (spoken r)) c.add-in-ManyTables.result.filled c.add-in-ManyTables.result.skip c.add-in-ManyTables.new.into)
    (sym c.in-ManyTables.is) (c.add-in-ManyTables.ensures.shows from [] s)

pub returns-in-LastEpoch-clause-shows : goal.returns-in-LastEpoch-clause-shows
returns-in-LastEpoch-clause-shows c from s =
    subst (λ (r : Reply). HasPiece from (text_of (spoken r)) c.add-in-LastEpoch.result.filled c.add-in-LastEpoch.result.skip c.add-in-LastEpoch.new.into)
    (sym c.in-LastEpoch.is) (c.add-in-LastEpoch.ensures.shows from [] s)
