use Rattle.outside.proofs.HandingOn.{crash_is_handed_on, disk_is_handed_on}
use Rattle.outside.proofs.laws.outsides_follow.Goals as goal

pub returns-clause-disk : goal.returns-clause-disk
returns-clause-disk c = disk_is_handed_on

pub returns-clause-crash : goal.returns-clause-crash
returns-clause-crash c = crash_is_handed_on
