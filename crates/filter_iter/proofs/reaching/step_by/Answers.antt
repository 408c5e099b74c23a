use Rattle.std.proofs.Common.{◌+◌, get_or, ◌++◌, ◌∷◌, [], refl, subst, sym, take}
use Rattle.filter_iter.proofs.Bounds.{own_before, own_border, step_off_is, step_on_is, step_to_is, turned_off, turned_on, turned_to}
use Rattle.filter_iter.specs.Borders.{IsDescent, IsStepBy, IsTurn}
use Rattle.filter_iter.specs.declared.parts.Turn.{Turn}
use Rattle.filter_model.specs.Trie.{nodes}
use Rattle.filter_iter.proofs.reaching.step_by.Goals as goal

pub turn-turn-requires-clause-node : goal.turn-turn-requires-clause-node
turn-turn-requires-clause-node g c = c.requires.leads.node.within

pub turn-turn-requires-clause-border : goal.turn-turn-requires-clause-border
turn-turn-requires-clause-border g c = own_border c.args.trie.now.hash_bits c.args.trie.now.real_bits c.args.trie.now.leaves c.requires.stands.valid c.args.bound.now c.args.level c.args.border c.requires.leads c.requires.border

pub turn-turn-requires-clause-before : goal.turn-turn-requires-clause-before
turn-turn-requires-clause-before g c = own_before c.args.trie.now.hash_bits c.args.trie.now.real_bits c.args.trie.now.leaves c.requires.stands.valid c.args.bound.now c.args.level c.args.border c.requires.leads

pub returns-in-Node-clause-descent : goal.returns-in-Node-clause-descent
returns-in-Node-clause-descent g c = turned_on c.args.trie.now.hash_bits c.args.trie.now.real_bits c.args.trie.now.leaves c.requires.stands.valid c.args.bound.now c.args.level (get_or c.args.bound.now c.args.level 0) c.args.border c.turn-turn.result.0 c.requires.leads c.requires.more refl c.turn-turn.ensures.border c.turn-turn.ensures.before (subst (λ (t : Turn). IsTurn c.args.trie.now.leaves (get_or (nodes c.args.trie.now.leaves) c.args.border.node [] ++ get_or c.args.bound.now c.args.level 0 ∷ []) c.turn-turn.result.0 t) c.in-Node.is c.turn-turn.ensures.turn)

pub returns-in-Nowhere-clause-descent : goal.returns-in-Nowhere-clause-descent
returns-in-Nowhere-clause-descent g c = subst (IsDescent c.args.trie.now.leaves c.args.bound.now (c.args.level + 1)) (sym c.left.ensures) (turned_off c.args.trie.now.hash_bits c.args.trie.now.real_bits c.args.trie.now.leaves c.requires.stands.valid c.args.bound.now c.args.level (get_or c.args.bound.now c.args.level 0) c.args.border c.turn-turn.result.0 c.requires.leads c.requires.more refl c.turn-turn.ensures.border c.turn-turn.ensures.before (subst (λ (t : Turn). IsTurn c.args.trie.now.leaves (get_or (nodes c.args.trie.now.leaves) c.args.border.node [] ++ get_or c.args.bound.now c.args.level 0 ∷ []) c.turn-turn.result.0 t) c.in-Nowhere.is c.turn-turn.ensures.turn))

pub returns-in-Leaf-clause-descent : goal.returns-in-Leaf-clause-descent
returns-in-Leaf-clause-descent g c = subst (IsDescent c.args.trie.now.leaves c.args.bound.now (c.args.level + 1)) (sym c.left-in-Leaf.ensures) (turned_to c.args.trie.now.hash_bits c.args.trie.now.real_bits c.args.trie.now.leaves c.requires.stands.valid c.args.bound.now c.args.level (get_or c.args.bound.now c.args.level 0) c.args.border c.turn-turn.result.0 c.requires.leads c.requires.more refl c.turn-turn.ensures.border c.turn-turn.ensures.before c.in-Leaf.slot (subst (λ (t : Turn). IsTurn c.args.trie.now.leaves (get_or (nodes c.args.trie.now.leaves) c.args.border.node [] ++ get_or c.args.bound.now c.args.level 0 ∷ []) c.turn-turn.result.0 t) c.in-Leaf.is c.turn-turn.ensures.turn))

pub returns-in-Node-clause-step : goal.returns-in-Node-clause-step
returns-in-Node-clause-step g c = step_on_is c.args.trie.now.hash_bits c.args.trie.now.real_bits c.args.trie.now.leaves c.requires.stands.valid c.args.bound.now c.args.level (get_or c.args.bound.now c.args.level 0) c.args.border c.turn-turn.result.0 c.requires.leads c.requires.more refl c.turn-turn.ensures.border c.turn-turn.ensures.before

pub returns-in-Nowhere-clause-step : goal.returns-in-Nowhere-clause-step
returns-in-Nowhere-clause-step g c = subst (IsStepBy c.args.trie.now.leaves (take (c.args.level + 1) c.args.bound.now) (c.args.level + 1)) (sym c.left.ensures) (step_off_is c.args.trie.now.hash_bits c.args.trie.now.real_bits c.args.trie.now.leaves c.requires.stands.valid c.args.bound.now c.args.level (get_or c.args.bound.now c.args.level 0) c.args.border c.turn-turn.result.0 c.requires.leads c.requires.more refl c.turn-turn.ensures.border c.turn-turn.ensures.before (subst (λ (t : Turn). IsTurn c.args.trie.now.leaves (get_or (nodes c.args.trie.now.leaves) c.args.border.node [] ++ get_or c.args.bound.now c.args.level 0 ∷ []) c.turn-turn.result.0 t) c.in-Nowhere.is c.turn-turn.ensures.turn))

pub returns-in-Leaf-clause-step : goal.returns-in-Leaf-clause-step
returns-in-Leaf-clause-step g c = subst (IsStepBy c.args.trie.now.leaves (take (c.args.level + 1) c.args.bound.now) (c.args.level + 1)) (sym c.left-in-Leaf.ensures) (step_to_is c.args.trie.now.hash_bits c.args.trie.now.real_bits c.args.trie.now.leaves c.requires.stands.valid c.args.bound.now c.args.level (get_or c.args.bound.now c.args.level 0) c.args.border c.turn-turn.result.0 c.requires.leads c.requires.more refl c.turn-turn.ensures.border c.turn-turn.ensures.before c.in-Leaf.slot (subst (λ (t : Turn). IsTurn c.args.trie.now.leaves (get_or (nodes c.args.trie.now.leaves) c.args.border.node [] ++ get_or c.args.bound.now c.args.level 0 ∷ []) c.turn-turn.result.0 t) c.in-Leaf.is c.turn-turn.ensures.turn))
