use Rattle.std.proofs.Common.{◌≡◌, ◌∙◌, arith, length, take, drop}
use Rattle.std.proofs.lemmas.List.{length-take, length-drop}
use Rattle.store_commands.specs.Puts.{put_text}
use Rattle.store_commands.proofs.Windows.{shows_none}
use Rattle.store_commands.proofs.put_line.put_piece.Goals as goal

pub returns-clause-count : goal.returns-clause-count
returns-clause-count c =
    let text = put_text c.args.key.now c.args.value.now in
    let shows = c.add_put.ensures.shows c.args.from (shows_none c.args.from c.args.into.now) in
    omega (arith, shows.size, length-take (length c.add_put.new.into) (drop c.args.from text), length-drop c.args.from text, c.add_put.auto.into)

pub returns-clause-bytes : goal.returns-clause-bytes
returns-clause-bytes c =
    let shows = c.add_put.ensures.shows c.args.from (shows_none c.args.from c.args.into.now) in
    let text = put_text c.args.key.now c.args.value.now in
    let same : length c.add_put.new.into ≡ length c.args.into.now = c.add_put.auto.into in
    shows.bytes ∙ (λ i. take (same i) (drop c.args.from text))
