use Rattle.std.proofs.Common.{◌+◌, ◌-◌, ap, arith, ◌∙◌}
use Rattle.filter_iter.proofs.SpotCounts.{AreCounts, counts_are, leads_to_leaf, leads_to_node, slot_small}
use Rattle.trie_model.specs.Halves.{Half}
use Rattle.trie_model.specs.declared.parts.Before.{Before}
use Rattle.filter_iter.proofs.leaf_place.lead_at_spot.Goals as goal

pub leads_on-requires : goal.leads_on-requires
leads_on-requires g c = omega (arith, c.requires.spot.taken, c.requires.spot.within)

pub overflow_sub-leading : goal.overflow_sub-leading
overflow_sub-leading g c =
    let before = c.before-before.ensures ∙ ap (λ (h : Half). h.before) c.sparse.ensures in
    let are : AreCounts c.args.trie.now c.args.spot.place c.args.spot.below c.before-before.result.children c.before-before.result.slots =
    counts_are c.args.trie.now c.args.spot.place c.args.spot.below c.before-before.result.children c.before-before.result.slots (omega (arith, c.requires.spot.taken, c.requires.spot.within)) c.requires.spot.below (ap (λ (b : Before). b.children) before) (ap (λ (b : Before). b.slots) before)
    in omega (arith, are.above)

pub overflow_sub-leading-2 : goal.overflow_sub-leading-2
overflow_sub-leading-2 g c =
    let before = c.before-before.ensures ∙ ap (λ (h : Half). h.before) c.sparse.ensures in
    let are : AreCounts c.args.trie.now c.args.spot.place c.args.spot.below c.before-before.result.children c.before-before.result.slots =
    counts_are c.args.trie.now c.args.spot.place c.args.spot.below c.before-before.result.children c.before-before.result.slots (omega (arith, c.requires.spot.taken, c.requires.spot.within)) c.requires.spot.below (ap (λ (b : Before). b.children) before) (ap (λ (b : Before). b.slots) before)
    in omega (arith, are.above)

pub overflow_sub-result : goal.overflow_sub-result
overflow_sub-result g c =
    let before = c.before-before.ensures ∙ ap (λ (h : Half). h.before) c.sparse.ensures in
    let are : AreCounts c.args.trie.now c.args.spot.place c.args.spot.below c.before-before.result.children c.before-before.result.slots =
    counts_are c.args.trie.now c.args.spot.place c.args.spot.below c.before-before.result.children c.before-before.result.slots (omega (arith, c.requires.spot.taken, c.requires.spot.within)) c.requires.spot.below (ap (λ (b : Before). b.children) before) (ap (λ (b : Before). b.slots) before)
    in are.leading

pub overflow_add-result : goal.overflow_add-result
overflow_add-result g c =
    let few = c.requires.stands.valid.few in
    let before = c.before-before.ensures ∙ ap (λ (h : Half). h.before) c.sparse.ensures in
    let are : AreCounts c.args.trie.now c.args.spot.place c.args.spot.below c.before-before.result.children c.before-before.result.slots =
    counts_are c.args.trie.now c.args.spot.place c.args.spot.below c.before-before.result.children c.before-before.result.slots (omega (arith, c.requires.spot.taken, c.requires.spot.within)) c.requires.spot.below (ap (λ (b : Before). b.children) before) (ap (λ (b : Before). b.slots) before)
    in omega (arith, few, are.slot, slot_small c.args.trie.now c.args.trie.now.hash_bits c.args.trie.now.real_bits c.requires.stands.valid c.args.spot.place)

pub returns : goal.returns
returns g c =
    let before = c.before-before.ensures ∙ ap (λ (h : Half). h.before) c.sparse.ensures in
    let are : AreCounts c.args.trie.now c.args.spot.place c.args.spot.below c.before-before.result.children c.before-before.result.slots =
    counts_are c.args.trie.now c.args.spot.place c.args.spot.below c.before-before.result.children c.before-before.result.slots (omega (arith, c.requires.spot.taken, c.requires.spot.within)) c.requires.spot.below (ap (λ (b : Before). b.children) before) (ap (λ (b : Before). b.slots) before)
    in leads_to_leaf c.args.trie.now c.args.spot.place (c.before-before.result.slots + (c.args.spot.place - (c.args.spot.below - c.before-before.result.children - 1))) are.slot c.if-leads_on.ensures

pub returns-then-leads_on : goal.returns-then-leads_on
returns-then-leads_on g c = leads_to_node c.args.trie.now c.args.spot.place c.args.spot.below c.requires.spot.below c.if-leads_on.ensures
