use Rattle.std.proofs.Common.{◌<◌, ◌+◌, ◌∙◌, ◌^◌, length, ap, arith, subst, sym}
use Rattle.louds_sparse.specs.Building.{HalfInRoom, SectionsInRoom, with_node}
use Rattle.trie_model.specs.Given.{node_given}
use Rattle.louds_sparse.specs.Spelling.{IsSpelled, half_in}
use Rattle.louds_sparse.proofs.Built.{given_form, node_added}
use Rattle.louds_sparse.proofs.Spelled.{length_labels}
use Rattle.trie_model.specs.Halves.{Half, places_in}
use Rattle.louds_sparse.proofs.builder.SparseBuilder.node.Goals as goal

pub invariant_of-self : goal.invariant_of-self
invariant_of-self g c =
    let before = c.self.inside.before in
    let s = c.self.inside.sections in
    let n = node_given c.args.end c.args.branches.now in
    let limit = ap (λ (v : HalfInRoom). v.limit) c.self.view_is in
    let places = ap (λ (v : HalfInRoom). places_in v.half) c.self.view_is in
    let room : length s.labels + length n < 2 ^ 62 = omega (arith, c.requires.room, c.self.invariant.1, limit, places, length_labels c.self.invariant.0) in
    let more = node_added c.self.invariant.0 n (given_form c.args.branches.now c.requires.branches c.push_node.ensures.bytes c.args.end) room in
    subst (λ (r : SectionsInRoom). IsSpelled before r.labels r.children r.louds (half_in before r.labels r.children r.louds) × (r.limit < 2 ^ 62)) (sym c.push_node.ensures.added)
    (subst (IsSpelled before _ _ _) (sym more.half) more.spelled, c.self.invariant.1)

pub returns : goal.returns
returns g c =
    let before = c.self.inside.before in
    let s = c.self.inside.sections in
    let n = node_given c.args.end c.args.branches.now in
    let limit = ap (λ (v : HalfInRoom). v.limit) c.self.view_is in
    let places = ap (λ (v : HalfInRoom). places_in v.half) c.self.view_is in
    let room : length s.labels + length n < 2 ^ 62 = omega (arith, c.requires.room, c.self.invariant.1, limit, places, length_labels c.self.invariant.0) in
    let more = node_added c.self.invariant.0 n (given_form c.args.branches.now c.requires.branches c.push_node.ensures.bytes c.args.end) room in
    ap (λ (r : SectionsInRoom). record { half = half_in before r.labels r.children r.louds; limit = r.limit }) c.push_node.ensures.added
    ∙ ap (λ (h : Half). record { half = h; limit = s.limit }) more.half
    ∙ ap (with_node n) c.self.view_is
