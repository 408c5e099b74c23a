use Rattle.std.proofs.Common.{◌∙◌, List, fold, length, ap, ap₂, arith}
use Rattle.table_file.specs.Opened.{Opened}
use Rattle.store_search.specs.Caching.{renumbered}
use Rattle.store_core.specs.Install.{put_in}
use Rattle.store_core.proofs.install.replace_tables.Goals as goal

pub put_made-requires : goal.put_made-requires
put_made-requires g c = record { room = omega (arith, c.requires.room, ap length c.take_merged.ensures.others, ap length c.into_tables.ensures, c.take_merged.ensures.room) }

pub returns-clause-tables : goal.returns-clause-tables
returns-clause-tables g c = c.put_made.ensures ∙ ap₂ (λ (ts made : List Opened). fold put_in ts made) c.take_merged.ensures.others c.into_tables.ensures

pub returns-clause-blocks : goal.returns-clause-blocks
returns-clause-blocks g c = c.renumber.ensures ∙ ap (renumbered c.args.blocks.now) c.len.ensures
