use Rattle.std.proofs.Common.{length}
use Rattle.store_search.proofs.searching.+look_in_all.Given as goal

-- fewer tables are left
abbrev pub decreases-look_in_all : goal.decreases-look_in_all
decreases-look_in_all g l = length l.tables.now
