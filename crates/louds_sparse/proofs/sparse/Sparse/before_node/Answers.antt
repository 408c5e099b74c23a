use Rattle.std.proofs.Common.{◌≡◌, ◌≤◌, ◌-◌, ◌∙◌, ap, arith}
use Rattle.filter_model.specs.Nodes.{children_before, first_place}
use Rattle.louds_sparse.proofs.Counted.{place_within}
use Rattle.louds_sparse.proofs.Spelled.{counts_add, length_labels, number_is}
use Rattle.louds_sparse.specs.Spelling.{IsSpelled}
use Rattle.trie_model.specs.Halves.{begin_of, places_in}
use Rattle.trie_model.specs.declared.parts.Before.{Before}
use Rattle.louds_sparse.proofs.sparse.Sparse.before_node.Goals as goal

pub overflow_add-result : goal.overflow_add-result
overflow_add-result g c =
    let s : IsSpelled c.self.inside.before c.self.inside.labels.items c.self.inside.has_child c.self.inside.louds c.args.self.now = rw c.self.view_is at c.self.invariant in
    let place : c.begin_counted-place.result.0 ≡ begin_of c.args.self.now c.args.node = c.begin_counted-place.ensures.place ∙ ap (first_place c.args.self.now.nodes) (number_is s c.args.node) in
    let within : begin_of c.args.self.now c.args.node ≤ places_in c.args.self.now = place_within s (c.args.node - c.args.self.now.before.nodes) (omega (arith, c.requires.there)) in
    record { fits = omega (arith, place, within, s.few.slots, length_labels s, s.short) }

pub returns-clause-slots : goal.returns-clause-slots
returns-clause-slots g c =
    let s : IsSpelled c.self.inside.before c.self.inside.labels.items c.self.inside.has_child c.self.inside.louds c.args.self.now = rw c.self.view_is at c.self.invariant in
    let place : c.begin_counted-place.result.0 ≡ begin_of c.args.self.now c.args.node = c.begin_counted-place.ensures.place ∙ ap (first_place c.args.self.now.nodes) (number_is s c.args.node) in
    let within : begin_of c.args.self.now c.args.node ≤ places_in c.args.self.now = place_within s (c.args.node - c.args.self.now.before.nodes) (omega (arith, c.requires.there)) in
    omega (
      arith,
      ap (λ (b : Before). b.slots) s.before_is,
      place,
      c.begin_counted-place.ensures.leading,
      ap (children_before c.args.self.now.nodes) place,
      counts_add s (begin_of c.args.self.now c.args.node) within,
    )
