use Rattle.std.proofs.Common.{◌≡◌, ◌++◌, ◌-◌}
use Rattle.std.specs.Option.{option_map}
use Rattle.plain_filter_model.specs.Reading.{leaf_list_in}
use Rattle.plain_filter.proofs.decode.read_leaves.Given as goal

-- the leaves read so far, and those that the rest spells
abbrev pub invariant-loop-i : goal.invariant-loop-i
invariant-loop-i l = leaf_list_in l.count l.bytes ≡ option_map (λ more. l.leaves ++ more) (leaf_list_in (l.count - l.i) l.rest)
