-- What is wrong, as the definitions say it.
use Rattle.image_model.specs.Findings.{BrokenRule, OtherSum, What, WrongCount, WrongKeys, WrongLeaf}
use Rattle.store_check.specs.declared.finding.What.{What as Said}
use Rattle.store_check.specs.declared.finding.What.TheVariants as said

abbrev pub what_said : Said → What
what_said (said.OtherSum kept seen) = OtherSum kept seen
what_said (said.BrokenRule rule) = BrokenRule rule
what_said said.WrongKeys = WrongKeys
what_said said.WrongCount = WrongCount
what_said (said.WrongLeaf number) = WrongLeaf number
