use Rattle.std.proofs.Common.{◌<◌, ◌^◌, ◌∙◌, false, length, ap, arith, subst, sym}
use Rattle.louds_dense.specs.Building.{NodesInRoom, SectionsInRoom, with_byte_bits, with_node}
use Rattle.louds_dense.specs.Spelling.{IsSpelled, nodes_in}
use Rattle.louds_dense.proofs.Built.{ends_more, node_added}
use Rattle.louds_dense.proofs.Spelled.{length_ends, length_labels}
use Rattle.trie_model.specs.Given.{node_given}
use Rattle.louds_dense.proofs.builder.DenseBuilder.node.Goals as goal

pub push_node-requires-clause-bytes : goal.push_node-requires-clause-bytes
push_node-requires-clause-bytes g c =
    omega (arith, c.requires.room, length_labels c.self.invariant.0, ap (λ (v : NodesInRoom). length v.nodes) c.self.view_is, ap (λ (v : NodesInRoom). v.limit) c.self.view_is)

pub invariant_of-self : goal.invariant_of-self
invariant_of-self g c =
    let s = c.self.inside.sections in
    let nodes = nodes_in s.labels s.children s.ends in
    let few : length nodes < 2 ^ 53 = omega (arith, c.requires.room, c.self.invariant.2, ap (λ (v : NodesInRoom). length v.nodes) c.self.view_is, ap (λ (v : NodesInRoom). v.limit) c.self.view_is) in
    let more = node_added s c.push_node.new.self nodes c.args.end c.args.branches.now c.requires.branches c.push_node.ensures.bytes c.self.invariant.0 few c.push_node.ensures.added in (
      subst (IsSpelled _ _ _) (sym more.nodes) more.spelled,
      omega (
        arith,
        c.requires.room,
        length_ends c.self.invariant.0,
        ends_more c.args.end (with_byte_bits 256 (node_given false c.args.branches.now) s) c.push_node.new.self c.push_node.ensures.added,
        ap (λ (x : SectionsInRoom). x.limit) c.push_node.ensures.added,
        ap (λ (v : NodesInRoom). length v.nodes) c.self.view_is,
        ap (λ (v : NodesInRoom). v.limit) c.self.view_is,
      ),
      omega (arith, c.self.invariant.2, ap (λ (x : SectionsInRoom). x.limit) c.push_node.ensures.added),
    )

pub returns : goal.returns
returns g c =
    let s = c.self.inside.sections in
    let nodes = nodes_in s.labels s.children s.ends in
    let few : length nodes < 2 ^ 53 = omega (arith, c.requires.room, c.self.invariant.2, ap (λ (v : NodesInRoom). length v.nodes) c.self.view_is, ap (λ (v : NodesInRoom). v.limit) c.self.view_is) in
    let more = node_added s c.push_node.new.self nodes c.args.end c.args.branches.now c.requires.branches c.push_node.ensures.bytes c.self.invariant.0 few c.push_node.ensures.added in
    (λ j. record { nodes = more.nodes j; limit = ap (λ (x : SectionsInRoom). x.limit) c.push_node.ensures.added j })
    ∙ ap (with_node _) c.self.view_is
