use Rattle.std.proofs.Common.{◌+◌, arith}
use Rattle.filter_iter.proofs.Cuts.{tally_is}
use Rattle.trie_model.specs.Rests.{first_leaf}
use Rattle.filter_iter.proofs.answers.tally.Goals as goal

pub returns : goal.returns
returns g c =
    let few = c.meet.ensures.stands.valid.few in
    omega (
      arith,
      few,
      c.saturating_sub.ensures,
      c.meet.ensures.met.apart,
      c.begun_at.ensures.begun.within,
      tally_is c.args.trie.now.real_bits c.args.trie.now.leaves c.args.lo.now c.args.hi.now (first_leaf c.args.trie.now.leaves c.args.lo.now + c.past_at.result) (first_leaf c.args.trie.now.leaves c.args.hi.now + c.begun_at.result) c.past_at.ensures.past c.begun_at.ensures.begun,
    )
