use Rattle.std.proofs.Common.{◌≡◌, ◌∙◌, arith, length, take, drop}
use Rattle.std.proofs.lemmas.List.{length-take, length-drop}
use Rattle.line_model.specs.Replies.{text_of}
use Rattle.store_commands.specs.Spoken.{spoken}
use Rattle.store_commands.proofs.Windows.{shows_none}
use Rattle.store_commands.proofs.reply.piece.Goals as goal

pub returns-in_default-clause-count : goal.returns-in_default-clause-count
returns-in_default-clause-count c =
    let text = text_of (spoken c.args.reply.now) in
    let shows = c.say_line.ensures.shows c.args.from (shows_none c.args.from c.args.into.now) in
    omega (arith, shows.size, length-take (length c.say_line.new.into) (drop c.args.from text), length-drop c.args.from text, c.say_line.auto.into)

pub returns-in_default-clause-bytes : goal.returns-in_default-clause-bytes
returns-in_default-clause-bytes c =
    let shows = c.say_line.ensures.shows c.args.from (shows_none c.args.from c.args.into.now) in
    let text = text_of (spoken c.args.reply.now) in
    let same : length c.say_line.new.into ≡ length c.args.into.now = c.say_line.auto.into in
    shows.bytes ∙ (λ i. take (same i) (drop c.args.from text))
