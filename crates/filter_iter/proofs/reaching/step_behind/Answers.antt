use Rattle.std.proofs.Common.{◌+◌, ◌++◌, ◌∷◌, [], arith, subst, sym, take}
use Rattle.filter_iter.proofs.Bounds.{end_at_is, end_off_is, ended_at, ended_off, some_level}
use Rattle.filter_iter.proofs.Steps.{below_border, first_leaf_within, room}
use Rattle.filter_iter.specs.Borders.{IsDescent, IsStepBy}
use Rattle.filter_model.specs.Trie.{END}
use Rattle.filter_trie.specs.Places.{trie}
use Rattle.trie_model.specs.Halves.{begin_of}
use Rattle.filter_iter.proofs.reaching.step_behind.Goals as goal

pub below-next-requires-clause-room : goal.below-next-requires-clause-room
below-next-requires-clause-room g c =
    room c.args.trie.now.hash_bits c.args.trie.now.real_bits c.args.trie.now.leaves c.requires.stands.valid c.args.level (begin_of (trie c.args.trie.now) c.args.border.node) c.args.border c.requires.border (omega (arith, c.requires.leads.before, first_leaf_within c.args.trie.now.leaves (take c.args.level c.args.bound.now)))

pub returns-in-None-clause-descent : goal.returns-in-None-clause-descent
returns-in-None-clause-descent g c = let b = (below_border c.args.trie.now.hash_bits c.args.trie.now.real_bits c.args.trie.now.leaves c.requires.stands.valid c.args.level c.args.border c.below-next.result c.requires.border (some_level c.args.trie.now.hash_bits c.args.trie.now.real_bits c.args.trie.now.leaves c.requires.stands.valid c.args.bound.now c.args.level c.args.border c.requires.leads) c.below-next.ensures.node c.below-next.ensures.sum) in subst (IsDescent c.args.trie.now.leaves c.args.bound.now (c.args.level + 1)) (sym c.left.ensures) (ended_off c.args.trie.now.hash_bits c.args.trie.now.real_bits c.args.trie.now.leaves c.requires.stands.valid c.args.bound.now c.args.level c.args.border c.below-next.result c.requires.leads c.requires.end b.0 b.1 c.in-None.ensures)

pub returns-in-Some-clause-descent : goal.returns-in-Some-clause-descent
returns-in-Some-clause-descent g c = let b = (below_border c.args.trie.now.hash_bits c.args.trie.now.real_bits c.args.trie.now.leaves c.requires.stands.valid c.args.level c.args.border c.below-next.result c.requires.border (some_level c.args.trie.now.hash_bits c.args.trie.now.real_bits c.args.trie.now.leaves c.requires.stands.valid c.args.bound.now c.args.level c.args.border c.requires.leads) c.below-next.ensures.node c.below-next.ensures.sum) in subst (IsDescent c.args.trie.now.leaves c.args.bound.now (c.args.level + 1)) (sym c.left-in-Some.ensures) (ended_at c.args.trie.now.hash_bits c.args.trie.now.real_bits c.args.trie.now.leaves c.requires.stands.valid c.args.bound.now c.args.level c.args.border c.below-next.result c.requires.leads c.requires.end b.0 b.1 c.in-Some.slot c.in-Some.ensures)

pub returns-in-None-clause-step : goal.returns-in-None-clause-step
returns-in-None-clause-step g c = let b = (below_border c.args.trie.now.hash_bits c.args.trie.now.real_bits c.args.trie.now.leaves c.requires.stands.valid c.args.level c.args.border c.below-next.result c.requires.border (some_level c.args.trie.now.hash_bits c.args.trie.now.real_bits c.args.trie.now.leaves c.requires.stands.valid c.args.bound.now c.args.level c.args.border c.requires.leads) c.below-next.ensures.node c.below-next.ensures.sum) in subst (IsStepBy c.args.trie.now.leaves (c.args.bound.now ++ END ∷ []) (c.args.level + 1)) (sym c.left.ensures) (end_off_is c.args.trie.now.hash_bits c.args.trie.now.real_bits c.args.trie.now.leaves c.requires.stands.valid c.args.bound.now c.args.level c.args.border c.below-next.result c.requires.leads c.requires.end b.0 b.1 c.in-None.ensures)

pub returns-in-Some-clause-step : goal.returns-in-Some-clause-step
returns-in-Some-clause-step g c = let b = (below_border c.args.trie.now.hash_bits c.args.trie.now.real_bits c.args.trie.now.leaves c.requires.stands.valid c.args.level c.args.border c.below-next.result c.requires.border (some_level c.args.trie.now.hash_bits c.args.trie.now.real_bits c.args.trie.now.leaves c.requires.stands.valid c.args.bound.now c.args.level c.args.border c.requires.leads) c.below-next.ensures.node c.below-next.ensures.sum) in subst (IsStepBy c.args.trie.now.leaves (c.args.bound.now ++ END ∷ []) (c.args.level + 1)) (sym c.left-in-Some.ensures) (end_at_is c.args.trie.now.hash_bits c.args.trie.now.real_bits c.args.trie.now.leaves c.requires.stands.valid c.args.bound.now c.args.level c.args.border c.below-next.result c.requires.leads c.requires.end b.0 b.1 c.in-Some.slot c.in-Some.ensures)
