use Rattle.std.proofs.Common.{[]}
use Rattle.entry_model.proofs.Maps.{newest_counts, entries_rise}
use Rattle.entry_model.proofs.laws.map_laws.Goals as goal

pub returns : goal.returns
returns c = record { newest_counts = newest_counts; rises = λ entries. entries_rise [] entries tt }
