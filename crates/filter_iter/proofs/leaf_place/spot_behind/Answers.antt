use Rattle.std.proofs.Common.{ℕ, Bool, ◌+◌, ap, arith, cond, ◌∙◌}
use Rattle.filter_iter.proofs.MetLeaves.{byte_of}
use Rattle.filter_iter.proofs.SpotCounts.{below_more, below_small}
use Rattle.filter_iter.proofs.leaf_place.spot_behind.Goals as goal

pub leads_on-leads-requires : goal.leads_on-leads-requires
leads_on-leads-requires g c = omega (arith, c.requires.spot.taken, c.requires.spot.within)

pub overflow_add-result-2 : goal.overflow_add-result-2
overflow_add-result-2 g c =
    let bit = c.from.ensures ∙ byte_of c.leads_on-leads.result ∙ ap (λ (b : Bool). cond {A = ℕ} b 1 0) c.leads_on-leads.ensures in
    omega (arith, bit, c.requires.spot.below, below_more c.args.trie.now c.args.spot.place (omega (arith, c.requires.spot.taken, c.requires.spot.within)), below_small c.args.trie.now c.args.trie.now.hash_bits c.args.trie.now.real_bits c.requires.stands.valid (c.args.spot.place + 1))

pub returns-clause-below : goal.returns-clause-below
returns-clause-below g c =
    let bit = c.from.ensures ∙ byte_of c.leads_on-leads.result ∙ ap (λ (b : Bool). cond {A = ℕ} b 1 0) c.leads_on-leads.ensures in
    omega (arith, bit, c.requires.spot.below, below_more c.args.trie.now c.args.spot.place (omega (arith, c.requires.spot.taken, c.requires.spot.within)))
