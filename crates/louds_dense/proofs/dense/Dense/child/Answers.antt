use Rattle.std.proofs.Common.{◌≡◌, ◌≤◌, ◌*◌, length, sym, ◌∙◌, ◌+◌, arith}
use Rattle.louds_dense.proofs.Spelled.{children_counted, led_none, led_some, length_children}
use Rattle.louds_dense.specs.Places.{first_below}
use Rattle.louds_dense.specs.Spelling.{IsSpelled}
use Rattle.louds_dense.proofs.dense.Dense.child.Goals as goal

pub bit_and_rank-before-requires : goal.bit_and_rank-before-requires
bit_and_rank-before-requires g c =
    let s : IsSpelled c.self.inside.labels c.self.inside.has_child c.self.inside.prefix c.args.self.now = rw c.self.view_is at c.self.invariant in
    omega (arith, length_children s, c.requires)

pub returns-then-leads_on : goal.returns-then-leads_on
returns-then-leads_on g c =
    let s : IsSpelled c.self.inside.labels c.self.inside.has_child c.self.inside.prefix c.args.self.now = rw c.self.view_is at c.self.invariant in
    let within : c.args.place ≤ 256 * length c.args.self.now = omega (arith, c.requires) in
    let number : c.bit_and_rank-before.result.1 + 1 ≡ first_below c.args.self.now c.args.place = omega (arith, c.bit_and_rank-before.ensures.rank, children_counted s c.args.place within) in
    led_some c.args.self.now c.args.place (c.bit_and_rank-before.result.1 + 1) number (sym c.leads_on.ensures ∙ c.if-leads_on.true)

pub returns-else-leads_on : goal.returns-else-leads_on
returns-else-leads_on g c = led_none c.args.self.now c.args.place (sym c.leads_on.ensures ∙ c.if-leads_on.false)
