use Rattle.std.proofs.Common.{◌≡◌, ◌-◌, drop}
use Rattle.filter_codec.specs.Rules.{rise}
use Rattle.filter_codec.proofs.shape.is_rising.Given as goal

-- the labels so far rise
abbrev pub invariant-loop-i : goal.invariant-loop-i
invariant-loop-i l = rise l.labels ≡ rise (drop (l.i - 1) l.labels)
