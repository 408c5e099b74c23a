use Rattle.std.proofs.Common.{◌*◌, arith}
use Rattle.louds_dense.proofs.Spelled.{children_to, covered_node, ends_to, few_ends, length_children, length_ends, node_slot_is}
use Rattle.louds_dense.specs.Spelling.{IsSpelled}
use Rattle.louds_dense.proofs.dense.Dense.node_slot.Goals as goal

pub overflow_mul-node : goal.overflow_mul-node
overflow_mul-node g c =
    let s : IsSpelled c.self.inside.labels c.self.inside.has_child c.self.inside.prefix c.args.self.now = rw c.self.view_is at c.self.invariant in
    omega (arith, s.few, c.requires)

pub rank-ends-requires : goal.rank-ends-requires
rank-ends-requires g c =
    let s : IsSpelled c.self.inside.labels c.self.inside.has_child c.self.inside.prefix c.args.self.now = rw c.self.view_is at c.self.invariant in
    omega (arith, length_ends s, c.requires)

pub rank-requires : goal.rank-requires
rank-requires g c =
    let s : IsSpelled c.self.inside.labels c.self.inside.has_child c.self.inside.prefix c.args.self.now = rw c.self.view_is at c.self.invariant in
    omega (arith, length_children s, c.requires)

pub leaves_to-requires-clause-children : goal.leaves_to-requires-clause-children
leaves_to-requires-clause-children g c =
    let s : IsSpelled c.self.inside.labels c.self.inside.has_child c.self.inside.prefix c.args.self.now = rw c.self.view_is at c.self.invariant in
    children_to s (256 * c.args.node) c.rank.result c.rank.ensures

pub leaves_to-requires-clause-ends : goal.leaves_to-requires-clause-ends
leaves_to-requires-clause-ends g c =
    let s : IsSpelled c.self.inside.labels c.self.inside.has_child c.self.inside.prefix c.args.self.now = rw c.self.view_is at c.self.invariant in
    few_ends s c.args.node c.rank-ends.result c.rank-ends.ensures

pub leaves_to-requires-clause-covered : goal.leaves_to-requires-clause-covered
leaves_to-requires-clause-covered g c =
    let s : IsSpelled c.self.inside.labels c.self.inside.has_child c.self.inside.prefix c.args.self.now = rw c.self.view_is at c.self.invariant in
    omega (arith, covered_node s c.args.node c.requires, ends_to s c.args.node c.rank-ends.result c.rank-ends.ensures)

pub returns : goal.returns
returns g c =
    let s : IsSpelled c.self.inside.labels c.self.inside.has_child c.self.inside.prefix c.args.self.now = rw c.self.view_is at c.self.invariant in
    node_slot_is s c.args.node c.leaves_to.result c.requires (omega (arith, c.leaves_to.ensures.sum, ends_to s c.args.node c.rank-ends.result c.rank-ends.ensures))
