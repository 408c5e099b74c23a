use Rattle.std.proofs.Common.{◌-◌, ◌∙◌, ℕ, ap, arith, true}
use Rattle.louds_dense.specs.Building.{SectionsInRoom, with_byte, with_gap}
use Rattle.louds_dense.proofs.Built.{length-gap}
use Rattle.louds_dense.proofs.sections.Sections.push_branch.Goals as goal

pub push_gap-requires : goal.push_gap-requires
push_gap-requires g c = omega (arith, c.requires.room, c.requires.order, c.from.ensures, c.ranges.byte.fits)

pub push-requires : goal.push-requires
push-requires g c = omega (arith, c.requires.room, c.requires.order, c.from.ensures, c.ranges.byte.fits, length-gap (c.from.result - c.args.next) c.args.self.now c.push_gap.new.self c.push_gap.ensures, ap (λ (s : SectionsInRoom). s.limit) c.push_gap.ensures)

pub returns-clause-added : goal.returns-clause-added
returns-clause-added g c = c.push.ensures ∙ ap (with_byte true c.args.child) (c.push_gap.ensures ∙ ap (λ (b : ℕ). with_gap (b - c.args.next) c.args.self.now) c.from.ensures)
