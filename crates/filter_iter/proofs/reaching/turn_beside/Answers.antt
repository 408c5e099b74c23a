use Rattle.std.proofs.Common.{ℕ, ◌+◌, arith, ap, refl, ◌∙◌, length, get_or, []}
use Rattle.filter_iter.proofs.Starts.{node_fits}
use Rattle.filter_iter.proofs.Steps.{down_to, first_leaf_within, room, step_border}
use Rattle.filter_iter.proofs.Turns.{at_place, behind_node, by_next, is_down, leads, node_high, turns_nowhere}
use Rattle.filter_model.specs.Nodes.{first_place, trie_of}
use Rattle.filter_model.specs.Trie.{nodes}
use Rattle.filter_trie.specs.Places.{branch_number, trie}
use Rattle.trie_model.specs.Halves.{begin_of, next_place}
use Rattle.filter_iter.proofs.reaching.turn_beside.Goals as goal

pub overflow_add-behind : goal.overflow_add-behind
overflow_add-behind g c = let small = node_fits c.args.trie.now.hash_bits c.args.trie.now.real_bits c.args.trie.now.leaves c.requires.stands.valid in omega (arith, small, c.requires.node)

pub below-requires-clause-room : goal.below-requires-clause-room
below-requires-clause-room g c = room c.args.trie.now.hash_bits c.args.trie.now.real_bits c.args.trie.now.leaves c.requires.stands.valid (length (get_or (nodes c.args.trie.now.leaves) c.args.border.node [])) (begin_of (trie c.args.trie.now) (c.args.border.node + 1)) c.args.border c.requires.border (omega (arith, c.requires.before, first_leaf_within c.args.trie.now.leaves (get_or (nodes c.args.trie.now.leaves) c.args.border.node [])))

pub returns-in-None-clause-border : goal.returns-in-None-clause-border
returns-in-None-clause-border g c =
    step_border c.args.trie.now.hash_bits c.args.trie.now.real_bits c.args.trie.now.leaves c.requires.stands.valid (first_place (trie_of c.args.trie.now.leaves) (c.args.border.node + 1)) c.args.border c.below.result (down_to c.args.trie.now.hash_bits c.args.trie.now.real_bits c.args.trie.now.leaves c.requires.stands.valid (c.args.border.node + 1) c.args.border c.below.result (omega arith) (omega (arith, c.requires.node)) c.below.ensures.node c.below.ensures.sum) (length (get_or (nodes c.args.trie.now.leaves) c.args.border.node [])) c.requires.border (node_high c.args.trie.now.hash_bits c.args.trie.now.real_bits c.args.trie.now.leaves c.requires.stands.valid c.args.border.node c.args.byte c.requires.node c.ranges.byte.fits)

pub returns-in-None-clause-before : goal.returns-in-None-clause-before
returns-in-None-clause-before g c = behind_node c.args.trie.now.hash_bits c.args.trie.now.real_bits c.args.trie.now.leaves c.requires.stands.valid c.args.border.node c.args.byte c.requires.node c.ranges.byte.fits c.args.border c.below.result c.requires.border refl c.requires.before (c.in-None.ensures.place ∙ ap (next_place (trie c.args.trie.now) c.args.border.node) c.from.ensures) (down_to c.args.trie.now.hash_bits c.args.trie.now.real_bits c.args.trie.now.leaves c.requires.stands.valid (c.args.border.node + 1) c.args.border c.below.result (omega arith) (omega (arith, c.requires.node)) c.below.ensures.node c.below.ensures.sum)

pub returns-in-None-clause-turn : goal.returns-in-None-clause-turn
returns-in-None-clause-turn g c = turns_nowhere c.args.trie.now.hash_bits c.args.trie.now.real_bits c.args.trie.now.leaves c.requires.stands.valid c.args.border.node c.args.byte c.requires.node c.ranges.byte.fits c.args.border c.below.result c.requires.border refl c.requires.before (c.in-None.ensures.place ∙ ap (next_place (trie c.args.trie.now) c.args.border.node) c.from.ensures)

pub overflow_add-next : goal.overflow_add-next
overflow_add-next g c =
    omega (arith, c.before-slots.ensures.slots, room c.args.trie.now.hash_bits c.args.trie.now.real_bits c.args.trie.now.leaves c.requires.stands.valid (length (get_or (nodes c.args.trie.now.leaves) c.args.border.node [])) (branch_number c.args.trie.now c.in-Some.place) c.args.border c.requires.border (omega (arith, c.requires.before, first_leaf_within c.args.trie.now.leaves (get_or (nodes c.args.trie.now.leaves) c.args.border.node []))))

pub returns-in-Some-clause-border : goal.returns-in-Some-clause-border
returns-in-Some-clause-border g c =
    step_border c.args.trie.now.hash_bits c.args.trie.now.real_bits c.args.trie.now.leaves c.requires.stands.valid (branch_number c.args.trie.now c.in-Some.place) c.args.border (record { node = c.before-slots.result.1; sum = c.args.border.sum + c.before-slots.result.0 }) (is_down c.args.trie.now.hash_bits c.args.trie.now.real_bits c.args.trie.now.leaves c.requires.stands.valid c.args.border.node c.args.byte c.requires.node c.ranges.byte.fits c.args.border (record { node = c.before-slots.result.1; sum = c.args.border.sum + c.before-slots.result.0 }) c.requires.border refl c.requires.before (branch_number c.args.trie.now c.in-Some.place) (by_next c.args.trie.now.hash_bits c.args.trie.now.real_bits c.args.trie.now.leaves c.requires.stands.valid c.args.border.node c.args.byte c.requires.node c.ranges.byte.fits (branch_number c.args.trie.now c.in-Some.place) (c.in-Some.ensures.place ∙ ap (next_place (trie c.args.trie.now) c.args.border.node) c.from.ensures)) c.before-slots.ensures.below (ap (λ (n : ℕ). c.args.border.sum + n) c.before-slots.ensures.slots)) (length (get_or (nodes c.args.trie.now.leaves) c.args.border.node [])) c.requires.border (node_high c.args.trie.now.hash_bits c.args.trie.now.real_bits c.args.trie.now.leaves c.requires.stands.valid c.args.border.node c.args.byte c.requires.node c.ranges.byte.fits)

pub returns-in-Some-clause-before : goal.returns-in-Some-clause-before
returns-in-Some-clause-before g c = at_place c.args.trie.now.hash_bits c.args.trie.now.real_bits c.args.trie.now.leaves c.requires.stands.valid c.args.border.node c.args.byte c.requires.node c.ranges.byte.fits c.args.border (record { node = c.before-slots.result.1; sum = c.args.border.sum + c.before-slots.result.0 }) c.requires.border refl c.requires.before (branch_number c.args.trie.now c.in-Some.place) (by_next c.args.trie.now.hash_bits c.args.trie.now.real_bits c.args.trie.now.leaves c.requires.stands.valid c.args.border.node c.args.byte c.requires.node c.ranges.byte.fits (branch_number c.args.trie.now c.in-Some.place) (c.in-Some.ensures.place ∙ ap (next_place (trie c.args.trie.now) c.args.border.node) c.from.ensures)) (is_down c.args.trie.now.hash_bits c.args.trie.now.real_bits c.args.trie.now.leaves c.requires.stands.valid c.args.border.node c.args.byte c.requires.node c.ranges.byte.fits c.args.border (record { node = c.before-slots.result.1; sum = c.args.border.sum + c.before-slots.result.0 }) c.requires.border refl c.requires.before (branch_number c.args.trie.now c.in-Some.place) (by_next c.args.trie.now.hash_bits c.args.trie.now.real_bits c.args.trie.now.leaves c.requires.stands.valid c.args.border.node c.args.byte c.requires.node c.ranges.byte.fits (branch_number c.args.trie.now c.in-Some.place) (c.in-Some.ensures.place ∙ ap (next_place (trie c.args.trie.now) c.args.border.node) c.from.ensures)) c.before-slots.ensures.below (ap (λ (n : ℕ). c.args.border.sum + n) c.before-slots.ensures.slots))

pub returns-in-Some-clause-turn : goal.returns-in-Some-clause-turn
returns-in-Some-clause-turn g c = leads c.args.trie.now.hash_bits c.args.trie.now.real_bits c.args.trie.now.leaves c.requires.stands.valid c.args.border.node c.args.byte c.requires.node c.ranges.byte.fits c.args.border (record { node = c.before-slots.result.1; sum = c.args.border.sum + c.before-slots.result.0 }) c.requires.border refl c.requires.before (branch_number c.args.trie.now c.in-Some.place) (by_next c.args.trie.now.hash_bits c.args.trie.now.real_bits c.args.trie.now.leaves c.requires.stands.valid c.args.border.node c.args.byte c.requires.node c.ranges.byte.fits (branch_number c.args.trie.now c.in-Some.place) (c.in-Some.ensures.place ∙ ap (next_place (trie c.args.trie.now) c.args.border.node) c.from.ensures)) c.turn_at.result c.before-slots.ensures.below c.turn_at.ensures
