use Rattle.block_model.proofs.ListedEntries.{listed_are_later, listed_break_none, listed_rise}
use Rattle.block_model.proofs.laws.listed_entries_are_found_by_halves.Goals as goal

pub returns-clause-later : goal.returns-clause-later
returns-clause-later c = listed_are_later

pub returns-clause-whole : goal.returns-clause-whole
returns-clause-whole c = listed_break_none

pub returns-clause-rising : goal.returns-clause-rising
returns-clause-rising c = listed_rise
