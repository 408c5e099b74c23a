use Rattle.std.proofs.Common.{ℕ, ◌+◌, arith, ap, refl, length, get_or, []}
use Rattle.filter_iter.proofs.Steps.{first_leaf_within, room, step_border}
use Rattle.filter_iter.proofs.Turns.{at_place, by_branch, is_down, node_high, own_leads}
use Rattle.filter_model.specs.Trie.{nodes}
use Rattle.filter_trie.specs.Places.{branch_number}
use Rattle.filter_trie.specs.declared.place.Place.TheVariants as in_half
use Rattle.filter_iter.proofs.reaching.turn.Goals as goal

pub overflow_add-next : goal.overflow_add-next
overflow_add-next g c =
    omega (arith, c.in-Some.ensures.stands.slots, room c.args.trie.now.hash_bits c.args.trie.now.real_bits c.args.trie.now.leaves c.requires.stands.valid (length (get_or (nodes c.args.trie.now.leaves) c.args.border.node [])) (branch_number c.args.trie.now (in_half.Sparse c.in-Some.at.place)) c.args.border c.requires.border (omega (arith, c.requires.before, first_leaf_within c.args.trie.now.leaves (get_or (nodes c.args.trie.now.leaves) c.args.border.node []))))

pub returns-in-Some-clause-border : goal.returns-in-Some-clause-border
returns-in-Some-clause-border g c =
    step_border c.args.trie.now.hash_bits c.args.trie.now.real_bits c.args.trie.now.leaves c.requires.stands.valid (branch_number c.args.trie.now (in_half.Sparse c.in-Some.at.place)) c.args.border (record { node = c.in-Some.at.below; sum = c.args.border.sum + c.in-Some.at.slots }) (is_down c.args.trie.now.hash_bits c.args.trie.now.real_bits c.args.trie.now.leaves c.requires.stands.valid c.args.border.node c.args.byte c.requires.node c.ranges.byte.fits c.args.border (record { node = c.in-Some.at.below; sum = c.args.border.sum + c.in-Some.at.slots }) c.requires.border refl c.requires.before (branch_number c.args.trie.now (in_half.Sparse c.in-Some.at.place)) (by_branch c.args.trie.now.hash_bits c.args.trie.now.real_bits c.args.trie.now.leaves c.requires.stands.valid c.args.border.node c.args.byte c.requires.node c.ranges.byte.fits (branch_number c.args.trie.now (in_half.Sparse c.in-Some.at.place)) c.in-Some.ensures.place) c.in-Some.ensures.stands.below (ap (λ (n : ℕ). c.args.border.sum + n) c.in-Some.ensures.stands.slots)) (length (get_or (nodes c.args.trie.now.leaves) c.args.border.node [])) c.requires.border (node_high c.args.trie.now.hash_bits c.args.trie.now.real_bits c.args.trie.now.leaves c.requires.stands.valid c.args.border.node c.args.byte c.requires.node c.ranges.byte.fits)

pub returns-in-Some-clause-before : goal.returns-in-Some-clause-before
returns-in-Some-clause-before g c = at_place c.args.trie.now.hash_bits c.args.trie.now.real_bits c.args.trie.now.leaves c.requires.stands.valid c.args.border.node c.args.byte c.requires.node c.ranges.byte.fits c.args.border (record { node = c.in-Some.at.below; sum = c.args.border.sum + c.in-Some.at.slots }) c.requires.border refl c.requires.before (branch_number c.args.trie.now (in_half.Sparse c.in-Some.at.place)) (by_branch c.args.trie.now.hash_bits c.args.trie.now.real_bits c.args.trie.now.leaves c.requires.stands.valid c.args.border.node c.args.byte c.requires.node c.ranges.byte.fits (branch_number c.args.trie.now (in_half.Sparse c.in-Some.at.place)) c.in-Some.ensures.place) (is_down c.args.trie.now.hash_bits c.args.trie.now.real_bits c.args.trie.now.leaves c.requires.stands.valid c.args.border.node c.args.byte c.requires.node c.ranges.byte.fits c.args.border (record { node = c.in-Some.at.below; sum = c.args.border.sum + c.in-Some.at.slots }) c.requires.border refl c.requires.before (branch_number c.args.trie.now (in_half.Sparse c.in-Some.at.place)) (by_branch c.args.trie.now.hash_bits c.args.trie.now.real_bits c.args.trie.now.leaves c.requires.stands.valid c.args.border.node c.args.byte c.requires.node c.ranges.byte.fits (branch_number c.args.trie.now (in_half.Sparse c.in-Some.at.place)) c.in-Some.ensures.place) c.in-Some.ensures.stands.below (ap (λ (n : ℕ). c.args.border.sum + n) c.in-Some.ensures.stands.slots))

pub returns-in-Some-clause-turn : goal.returns-in-Some-clause-turn
returns-in-Some-clause-turn g c =
    rw c.own_turn.ensures (own_leads c.args.trie.now.hash_bits c.args.trie.now.real_bits c.args.trie.now.leaves c.requires.stands.valid c.args.border.node c.args.byte c.requires.node c.ranges.byte.fits c.args.border (record { node = c.in-Some.at.below; sum = c.args.border.sum + c.in-Some.at.slots }) c.requires.border refl c.requires.before (branch_number c.args.trie.now (in_half.Sparse c.in-Some.at.place)) c.in-Some.ensures.place c.in-Some.at.leads c.in-Some.at.slots c.in-Some.ensures.stands.leads c.in-Some.ensures.stands.slots c.in-Some.ensures.stands.below)
