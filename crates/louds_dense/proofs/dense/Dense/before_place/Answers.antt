use Rattle.std.proofs.Common.{ap, arith, length}
use Rattle.louds_dense.proofs.Spelled.{children_counted, children_to, covered_at, ends_to, few_ends, length_children, length_ends, slot_is}
use Rattle.louds_dense.specs.Spelling.{IsSpelled}
use Rattle.louds_dense.proofs.dense.Dense.before_place.Goals as goal

pub rank-children-requires : goal.rank-children-requires
rank-children-requires g c =
    let s : IsSpelled c.self.inside.labels c.self.inside.has_child c.self.inside.prefix c.args.self.now = rw c.self.view_is at c.self.invariant in
    omega (arith, length_children s, c.requires)

pub leaves_to-requires-clause-children : goal.leaves_to-requires-clause-children
leaves_to-requires-clause-children g c =
    let s : IsSpelled c.self.inside.labels c.self.inside.has_child c.self.inside.prefix c.args.self.now = rw c.self.view_is at c.self.invariant in
    children_to s c.args.place c.rank-children.result c.rank-children.ensures

pub leaves_to-requires-clause-ends : goal.leaves_to-requires-clause-ends
leaves_to-requires-clause-ends g c =
    let s : IsSpelled c.self.inside.labels c.self.inside.has_child c.self.inside.prefix c.args.self.now = rw c.self.view_is at c.self.invariant in
    few_ends s c.min-nodes.result c.rank.result c.rank.ensures

pub leaves_to-requires-clause-covered : goal.leaves_to-requires-clause-covered
leaves_to-requires-clause-covered g c =
    let s : IsSpelled c.self.inside.labels c.self.inside.has_child c.self.inside.prefix c.args.self.now = rw c.self.view_is at c.self.invariant in
    omega (
      arith,
      ends_to s c.min-nodes.result c.rank.result c.rank.ensures,
      covered_at s c.args.place c.min-nodes.result c.requires
          (λ inside. omega (arith, inside, c.min-nodes.ensures, c.len.ensures, length_ends s, ap length c.bits.ensures))
          (λ past. omega (arith, past, c.min-nodes.ensures, c.len.ensures, length_ends s, ap length c.bits.ensures)),
    )

pub returns-clause-slots : goal.returns-clause-slots
returns-clause-slots g c =
    let s : IsSpelled c.self.inside.labels c.self.inside.has_child c.self.inside.prefix c.args.self.now = rw c.self.view_is at c.self.invariant in
    slot_is s c.args.place c.min-nodes.result c.leaves_to.result c.requires
    (λ inside. omega (arith, inside, c.min-nodes.ensures, c.len.ensures, length_ends s, ap length c.bits.ensures))
    (λ past. omega (arith, past, c.min-nodes.ensures, c.len.ensures, length_ends s, ap length c.bits.ensures))
    (omega (arith, c.leaves_to.ensures.sum, ends_to s c.min-nodes.result c.rank.result c.rank.ensures))

pub returns-clause-below : goal.returns-clause-below
returns-clause-below g c =
    let s : IsSpelled c.self.inside.labels c.self.inside.has_child c.self.inside.prefix c.args.self.now = rw c.self.view_is at c.self.invariant in
    omega (arith, c.rank-children.ensures, children_counted s c.args.place c.requires)
