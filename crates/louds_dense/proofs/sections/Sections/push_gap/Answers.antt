use Rattle.std.proofs.Common.{◌∙◌, false, ap, arith}
use Rattle.louds_dense.specs.Building.{SectionsInRoom, with_byte}
use Rattle.louds_dense.proofs.Built.{length-gap, no_gap, with_gap_more}
use Rattle.louds_dense.proofs.sections.Sections.push_gap.Goals as goal

pub loop-init : goal.loop-init
loop-init g c = no_gap c.args.self.now

pub push-requires : goal.push-requires
push-requires g c = omega (arith, c.requires, c.loop-test.true, length-gap c.loop.counter c.args.self.now c.loop.self c.loop.invariant, ap (λ (s : SectionsInRoom). s.limit) c.loop.invariant)

pub loop-preserved : goal.loop-preserved
loop-preserved g c = c.push.ensures ∙ ap (with_byte false false) c.loop.invariant ∙ with_gap_more c.loop.counter c.args.self.now
