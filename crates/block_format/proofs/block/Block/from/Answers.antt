use Rattle.std.proofs.Common.{List, ap, ◌∙◌}
use Rattle.std.specs.Prelude.{None}
use Rattle.std.specs.Option.{option_map}
use Rattle.entry_model.specs.Entries.{Entry}
use Rattle.block_format.specs.Walking.{kept_from}
use Rattle.block_format.specs.Walking.{EntriesLeft}
use Rattle.block_format.proofs.block.Block.from.Goals as goal

abbrev left : List Entry → EntriesLeft
left later = record { now = None; later = later }

pub returns : goal.returns
returns c =
    c.new.ensures
    ∙ ap left (c.walk_from-walk.ensures.entries ∙ ap (kept_from (option_map (λ k. k.now) c.args.low)) c.self.view_is)
