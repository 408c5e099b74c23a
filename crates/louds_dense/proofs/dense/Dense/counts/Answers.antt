use Rattle.std.proofs.Common.{◌*◌, ap, arith, length, ◌∙◌}
use Rattle.louds_dense.proofs.Spelled.{children_to, covered_all, counts_are, ends_to, few_ends, length_children, length_ends}
use Rattle.louds_dense.specs.Spelling.{IsSpelled}
use Rattle.louds_dense.proofs.dense.Dense.counts.Goals as goal

pub rank-children-requires : goal.rank-children-requires
rank-children-requires g c =
    let s : IsSpelled c.self.inside.labels c.self.inside.has_child c.self.inside.prefix c.args.self.now = rw c.self.view_is at c.self.invariant in
    omega (arith, length_children s, length_ends s, c.len-nodes.ensures, ap length c.bits.ensures)

pub leaves_to-requires-clause-children : goal.leaves_to-requires-clause-children
leaves_to-requires-clause-children g c =
    let s : IsSpelled c.self.inside.labels c.self.inside.has_child c.self.inside.prefix c.args.self.now = rw c.self.view_is at c.self.invariant in
    children_to s (256 * c.len-nodes.result) c.rank-children.result c.rank-children.ensures

pub leaves_to-requires-clause-ends : goal.leaves_to-requires-clause-ends
leaves_to-requires-clause-ends g c =
    let s : IsSpelled c.self.inside.labels c.self.inside.has_child c.self.inside.prefix c.args.self.now = rw c.self.view_is at c.self.invariant in
    few_ends s c.len-nodes.result c.rank.result c.rank.ensures

pub leaves_to-requires-clause-covered : goal.leaves_to-requires-clause-covered
leaves_to-requires-clause-covered g c =
    let s : IsSpelled c.self.inside.labels c.self.inside.has_child c.self.inside.prefix c.args.self.now = rw c.self.view_is at c.self.invariant in
    omega (arith, ends_to s c.len-nodes.result c.rank.result c.rank.ensures, covered_all s c.len-nodes.result (c.len-nodes.ensures ∙ ap length c.bits.ensures))

pub returns-clause-counts : goal.returns-clause-counts
returns-clause-counts g c =
    let s : IsSpelled c.self.inside.labels c.self.inside.has_child c.self.inside.prefix c.args.self.now = rw c.self.view_is at c.self.invariant in
    counts_are s c.len-nodes.result c.rank-children.result c.leaves_to.result (c.len-nodes.ensures ∙ ap length c.bits.ensures) c.rank-children.ensures
    (omega (arith, c.leaves_to.ensures.sum, ends_to s c.len-nodes.result c.rank.result c.rank.ensures))
