use Rattle.std.proofs.Common.{ℕ, ◌+◌, ap, arith, get_or, ◌++◌, ◌∷◌, []}
use Rattle.filter_iter.proofs.Steps.{first_leaf_within}
use Rattle.filter_iter.specs.Borders.{leaves_at}
use Rattle.filter_model.specs.Trie.{nodes}
use Rattle.filter_iter.proofs.numbers.count_to.Goals as goal

pub leaves_before-requires-clause-few : goal.leaves_before-requires-clause-few
leaves_before-requires-clause-few g c =
    omega (arith, c.turn_beside.ensures.before, ap (λ (n : ℕ). leaves_at c.args.trie.now.leaves (n + 1) c.turn_beside.result.0) c.requires.level, first_leaf_within c.args.trie.now.leaves (get_or (nodes c.args.trie.now.leaves) c.args.border.node [] ++ c.args.byte ∷ []))
