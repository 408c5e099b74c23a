use Rattle.std.proofs.Common.{ℕ, ◌+◌, ap, arith, subst, sym, ◌∙◌}
use Rattle.filter_iter.proofs.Steps.{first_leaf_within}
use Rattle.filter_iter.specs.Cuts.{FirstPass}
use Rattle.filter_model.specs.Answers.{is_past}
use Rattle.filter_iter.proofs.answers.count_past.Goals as goal

pub past_at-past-requires-clause-reached : goal.past_at-past-requires-clause-reached
past_at-past-requires-clause-reached g c = c.follow-level.ensures.left.reached

pub leaves_before-requires-clause-few : goal.leaves_before-requires-clause-few
leaves_before-requires-clause-few g c = omega (arith, c.follow-level.ensures.left.before, first_leaf_within c.args.trie.now.leaves c.args.lo.now)

pub overflow_add-result : goal.overflow_add-result
overflow_add-result g c =
    let few = c.follow-level.ensures.stands.valid.few in
    omega (arith, few, c.leaves_before.ensures, c.follow-level.ensures.left.before, c.past_at-past.ensures.past.within)

pub returns-clause-past : goal.returns-clause-past
returns-clause-past g c =
    subst (FirstPass (is_past c.args.trie.now.real_bits c.args.lo.now) c.args.trie.now.leaves) (ap (λ (n : ℕ). n + c.past_at-past.result) (sym (c.leaves_before.ensures ∙ c.follow-level.ensures.left.before))) c.past_at-past.ensures.past
