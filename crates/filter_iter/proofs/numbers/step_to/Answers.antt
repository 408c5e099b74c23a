use Rattle.std.proofs.Common.{subst, get_or, ◌++◌, ◌∷◌, []}
use Rattle.filter_iter.proofs.ByNumber.{by_last, ends_at, has_branch, has_end, one_leaf}
use Rattle.filter_iter.specs.Borders.{IsTurn}
use Rattle.filter_iter.specs.Numbers.{IsLastFound}
use Rattle.filter_iter.specs.declared.parts.Turn.{Turn}
use Rattle.filter_model.specs.Trie.{nodes}
use Rattle.filter_trie.specs.Walks.{IsNodeAt, IsSlotAt}
use Rattle.filter_iter.proofs.numbers.step_to.Goals as goal

pub unreachable-requires : goal.unreachable-requires
unreachable-requires g c = has_end c.args.trie.now.hash_bits c.args.trie.now.real_bits c.args.trie.now.leaves c.requires.at.stands.valid c.args.border.node c.args.n c.requires.at.node c.requires.below c.in_default.ensures c.in-None.ensures

pub returns-in_default : goal.returns-in_default
returns-in_default g c = ends_at c.args.trie.now.hash_bits c.args.trie.now.real_bits c.args.trie.now.leaves c.requires.at.stands.valid c.args.border.node c.args.n c.requires.at.node c.requires.below c.in-Some-prefix_slot.slot c.in_default.ensures c.in-Some-prefix_slot.ensures

pub unreachable-requires-in-Nowhere : goal.unreachable-requires-in-Nowhere
unreachable-requires-in-Nowhere g c = has_branch c.args.trie.now.hash_bits c.args.trie.now.real_bits c.args.trie.now.leaves c.requires.at.stands.valid c.args.border.node c.args.n c.requires.at.node c.requires.below c.in-Some.byte (by_last c.args.trie.now.hash_bits c.args.trie.now.real_bits c.args.trie.now.leaves c.requires.at.stands.valid c.args.border.node c.args.n c.requires.at.node c.requires.below c.in-Some.byte c.in-Some.ensures) (subst (λ (t : Turn). IsTurn c.args.trie.now.leaves (get_or (nodes c.args.trie.now.leaves) c.args.border.node [] ++ c.in-Some.byte ∷ []) c.turn-turn.result.0 t) c.in-Nowhere.is c.turn-turn.ensures.turn)

pub returns-in-Leaf : goal.returns-in-Leaf
returns-in-Leaf g c =
    let a : IsSlotAt c.args.trie.now.leaves c.in-Leaf.slot (get_or (nodes c.args.trie.now.leaves) c.args.border.node [] ++ c.in-Some.byte ∷ []) = (subst (λ (t : Turn). IsTurn c.args.trie.now.leaves (get_or (nodes c.args.trie.now.leaves) c.args.border.node [] ++ c.in-Some.byte ∷ []) c.turn-turn.result.0 t) c.in-Leaf.is c.turn-turn.ensures.turn) in
    let h : IsLastFound c.args.trie.now.leaves (get_or (nodes c.args.trie.now.leaves) c.args.border.node []) c.args.n c.in-Some.byte = c.in-Some.ensures in
    (h.0, a, one_leaf c.args.trie.now.hash_bits c.args.trie.now.real_bits c.args.trie.now.leaves c.requires.at.stands.valid c.in-Leaf.slot c.args.n (get_or (nodes c.args.trie.now.leaves) c.args.border.node [] ++ c.in-Some.byte ∷ []) a (by_last c.args.trie.now.hash_bits c.args.trie.now.real_bits c.args.trie.now.leaves c.requires.at.stands.valid c.args.border.node c.args.n c.requires.at.node c.requires.below c.in-Some.byte c.in-Some.ensures))

pub returns-in-Node : goal.returns-in-Node
returns-in-Node g c =
    let a : IsNodeAt c.args.trie.now.leaves c.turn-turn.result.0.node (get_or (nodes c.args.trie.now.leaves) c.args.border.node [] ++ c.in-Some.byte ∷ []) = (subst (λ (t : Turn). IsTurn c.args.trie.now.leaves (get_or (nodes c.args.trie.now.leaves) c.args.border.node [] ++ c.in-Some.byte ∷ []) c.turn-turn.result.0 t) c.in-Node.is c.turn-turn.ensures.turn) in
    let h : IsLastFound c.args.trie.now.leaves (get_or (nodes c.args.trie.now.leaves) c.args.border.node []) c.args.n c.in-Some.byte = c.in-Some.ensures in
    (h.0, a, c.turn-turn.ensures.border, c.turn-turn.ensures.before, (by_last c.args.trie.now.hash_bits c.args.trie.now.real_bits c.args.trie.now.leaves c.requires.at.stands.valid c.args.border.node c.args.n c.requires.at.node c.requires.below c.in-Some.byte c.in-Some.ensures))
