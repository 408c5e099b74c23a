use Rattle.std.proofs.Common.{◌≡◌, ◌+◌, ◌∙◌, ap, arith}
use Rattle.filter_model.specs.Nodes.{first_place}
use Rattle.louds_sparse.proofs.Spelled.{length_labels, next_end, next_found, node_some, node_within, number_is}
use Rattle.trie_model.specs.Halves.{begin_of}
use Rattle.louds_sparse.specs.Spelling.{IsSpelled}
use Rattle.louds_sparse.proofs.sparse.Sparse.labels_of.Goals as goal

pub overflow_add-from : goal.overflow_add-from
overflow_add-from g c =
    let s : IsSpelled c.self.inside.before c.self.inside.labels.items c.self.inside.has_child c.self.inside.louds c.args.self.now = rw c.self.view_is at c.self.invariant in
    let from : c.begin-from.result ≡ begin_of c.args.self.now c.args.node = c.begin-from.ensures ∙ ap (first_place c.args.self.now.nodes) (number_is s c.args.node) in
    omega (arith, from, node_some s c.args.node c.requires, node_within s c.args.node c.requires, length_labels s, s.short)

pub returns-in-Some-clause-from : goal.returns-in-Some-clause-from
returns-in-Some-clause-from g c =
    let s : IsSpelled c.self.inside.before c.self.inside.labels.items c.self.inside.has_child c.self.inside.louds c.args.self.now = rw c.self.view_is at c.self.invariant in
    let from : c.begin-from.result ≡ begin_of c.args.self.now c.args.node = c.begin-from.ensures ∙ ap (first_place c.args.self.now.nodes) (number_is s c.args.node) in
    from

pub returns-in-Some-clause-to : goal.returns-in-Some-clause-to
returns-in-Some-clause-to g c =
    let s : IsSpelled c.self.inside.before c.self.inside.labels.items c.self.inside.has_child c.self.inside.louds c.args.self.now = rw c.self.view_is at c.self.invariant in
    let from : c.begin-from.result ≡ begin_of c.args.self.now c.args.node = c.begin-from.ensures ∙ ap (first_place c.args.self.now.nodes) (number_is s c.args.node) in
    let to : c.in-Some.to ≡ begin_of c.args.self.now (c.args.node + 1) = next_found s c.args.node c.requires c.in-Some.to (rw (c.bits.ensures, from) at c.in-Some.ensures) in
    to

pub returns-in-Some-clause-order : goal.returns-in-Some-clause-order
returns-in-Some-clause-order g c =
    let s : IsSpelled c.self.inside.before c.self.inside.labels.items c.self.inside.has_child c.self.inside.louds c.args.self.now = rw c.self.view_is at c.self.invariant in
    let from : c.begin-from.result ≡ begin_of c.args.self.now c.args.node = c.begin-from.ensures ∙ ap (first_place c.args.self.now.nodes) (number_is s c.args.node) in
    let to : c.in-Some.to ≡ begin_of c.args.self.now (c.args.node + 1) = next_found s c.args.node c.requires c.in-Some.to (rw (c.bits.ensures, from) at c.in-Some.ensures) in
    omega (arith, from, to, node_some s c.args.node c.requires)

pub returns-in-Some-clause-within : goal.returns-in-Some-clause-within
returns-in-Some-clause-within g c =
    let s : IsSpelled c.self.inside.before c.self.inside.labels.items c.self.inside.has_child c.self.inside.louds c.args.self.now = rw c.self.view_is at c.self.invariant in
    let from : c.begin-from.result ≡ begin_of c.args.self.now c.args.node = c.begin-from.ensures ∙ ap (first_place c.args.self.now.nodes) (number_is s c.args.node) in
    let to : c.in-Some.to ≡ begin_of c.args.self.now (c.args.node + 1) = next_found s c.args.node c.requires c.in-Some.to (rw (c.bits.ensures, from) at c.in-Some.ensures) in
    omega (arith, to, node_within s c.args.node c.requires)

pub returns-in-None-clause-from : goal.returns-in-None-clause-from
returns-in-None-clause-from g c =
    let s : IsSpelled c.self.inside.before c.self.inside.labels.items c.self.inside.has_child c.self.inside.louds c.args.self.now = rw c.self.view_is at c.self.invariant in
    let from : c.begin-from.result ≡ begin_of c.args.self.now c.args.node = c.begin-from.ensures ∙ ap (first_place c.args.self.now.nodes) (number_is s c.args.node) in
    from

pub returns-in-None-clause-to : goal.returns-in-None-clause-to
returns-in-None-clause-to g c =
    let s : IsSpelled c.self.inside.before c.self.inside.labels.items c.self.inside.has_child c.self.inside.louds c.args.self.now = rw c.self.view_is at c.self.invariant in
    let from : c.begin-from.result ≡ begin_of c.args.self.now c.args.node = c.begin-from.ensures ∙ ap (first_place c.args.self.now.nodes) (number_is s c.args.node) in
    c.len.ensures ∙ c.self.inside.labels.ok.0 ∙ next_end s c.args.node c.requires (rw (c.bits.ensures, from) at c.in-None.ensures)

pub returns-in-None-clause-order : goal.returns-in-None-clause-order
returns-in-None-clause-order g c =
    let s : IsSpelled c.self.inside.before c.self.inside.labels.items c.self.inside.has_child c.self.inside.louds c.args.self.now = rw c.self.view_is at c.self.invariant in
    let from : c.begin-from.result ≡ begin_of c.args.self.now c.args.node = c.begin-from.ensures ∙ ap (first_place c.args.self.now.nodes) (number_is s c.args.node) in
    omega (arith, from, c.len.ensures, c.self.inside.labels.ok.0, length_labels s, node_some s c.args.node c.requires, node_within s c.args.node c.requires)
