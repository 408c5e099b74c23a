use Rattle.std.proofs.Common.{Bool, Some, None, cond, ap, sym, ◌∙◌, arith, le-ltb, lt-ltb, length}
use Rattle.filter_iter.proofs.Cuts.{first_is}
use Rattle.filter_iter.proofs.answers.seek.Goals as goal

pub returns-then-past-leaves : goal.returns-then-past-leaves
returns-then-past-leaves g c =
    sym (first_is c.args.trie.now.real_bits c.args.trie.now.leaves c.args.lo.now c.count_past-past.result c.count_past-past.ensures.past
    ∙ ap (λ (t : Bool). cond t (Some c.count_past-past.result) None) (lt-ltb c.count_past-past.result (length c.args.trie.now.leaves) (omega (arith, c.if-past-leaves.true, c.leaves.ensures))))

pub returns-else-past-leaves : goal.returns-else-past-leaves
returns-else-past-leaves g c =
    sym (first_is c.args.trie.now.real_bits c.args.trie.now.leaves c.args.lo.now c.count_past-past.result c.count_past-past.ensures.past
    ∙ ap (λ (t : Bool). cond t (Some c.count_past-past.result) None) (le-ltb c.count_past-past.result (length c.args.trie.now.leaves) (omega (arith, c.if-past-leaves.false, c.leaves.ensures))))
