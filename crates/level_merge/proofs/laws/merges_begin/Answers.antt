use Rattle.level_merge.proofs.Begun.{begun_follows, compaction_makes, merge_begins}
use Rattle.level_merge.proofs.laws.merges_begin.Goals as goal

pub returns-clause-begun : goal.returns-clause-begun
returns-clause-begun c = merge_begins c.standing_tables_are_merged.ensures

pub returns-clause-follows : goal.returns-clause-follows
returns-clause-follows c = begun_follows c.standing_tables_are_merged.ensures c.standing_tables_are_read.ensures.blocks

pub returns-clause-compaction : goal.returns-clause-compaction
returns-clause-compaction c = compaction_makes c.standing_tables_are_merged.ensures
