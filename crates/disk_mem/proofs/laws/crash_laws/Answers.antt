use Rattle.disk_mem.proofs.Crashes.{crash_is_left, each_is_made, past_are_not_read}
use Rattle.disk_mem.proofs.laws.crash_laws.Goals as goal

pub returns-clause-is_left : goal.returns-clause-is_left
returns-clause-is_left c = crash_is_left

pub returns-clause-each_is_of_a_choice : goal.returns-clause-each_is_of_a_choice
returns-clause-each_is_of_a_choice c = each_is_made

pub returns-clause-past_the_last : goal.returns-clause-past_the_last
returns-clause-past_the_last c = past_are_not_read
