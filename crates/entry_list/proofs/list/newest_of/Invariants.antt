use Rattle.std.proofs.Common.{◌≡◌, drop}
use Rattle.std.specs.Option.{option_map, option_or}
use Rattle.entry_model.specs.Entries.{newest}
use Rattle.entry_list.proofs.list.newest_of.Given as goal

-- what later entries do not say, the one that was found says
abbrev pub invariant-loop-entry : goal.invariant-loop-entry
invariant-loop-entry l = option_or (newest (drop l.entry-index l.entries) l.key) (option_map (λ found. option_map (λ v. v.now) found) l.newest) ≡ newest l.entries l.key
