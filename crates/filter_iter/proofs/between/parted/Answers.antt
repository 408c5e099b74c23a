use Rattle.std.proofs.Common.{◌+◌, arith, get_or, refl, subst, sym, take, ◌∙◌}
use Rattle.std.proofs.lemmas.Bool.{ltb-false, ltb-true}
use Rattle.filter_iter.proofs.Parting.{part_back, part_from, part_to, part_within}
use Rattle.filter_iter.proofs.Sides.{along}
use Rattle.filter_iter.specs.Between.{TellsFrom}
use Rattle.filter_trie.specs.Walks.{IsNodeAt}
use Rattle.filter_iter.proofs.between.parted.Goals as goal

pub returns-then-to-from : goal.returns-then-to-from
returns-then-to-from g c = part_back c.args.trie.now.hash_bits c.args.trie.now.real_bits c.args.trie.now.leaves c.requires.stands.valid c.requires.stands.real_width c.args.lo.now c.args.hi.now (λ i. (c.type_inv.lo i).fits) (λ i. (c.type_inv.hi i).fits) c.args.node c.args.read c.requires.node c.requires.alike (get_or c.args.lo.now c.args.read 0) (get_or c.args.hi.now c.args.read 0) c.requires.lo_on refl c.requires.hi_on refl ((c.type_inv.lo c.args.read).fits) ((c.type_inv.hi c.args.read).fits) c.if-to-from.true

pub returns-then-has_between : goal.returns-then-has_between
returns-then-has_between g c = part_within c.args.trie.now.hash_bits c.args.trie.now.real_bits c.args.trie.now.leaves c.requires.stands.valid c.requires.stands.real_width c.args.lo.now c.args.hi.now (λ i. (c.type_inv.lo i).fits) (λ i. (c.type_inv.hi i).fits) c.args.node c.args.read c.requires.node c.requires.alike (get_or c.args.lo.now c.args.read 0) (get_or c.args.hi.now c.args.read 0) c.requires.lo_on refl c.requires.hi_on refl ((c.type_inv.lo c.args.read).fits) ((c.type_inv.hi c.args.read).fits) (ltb-true _ _ (sym c.has_between.ensures.between ∙ c.if-has_between.true))

pub some_from-requires-clause-leads : goal.some_from-requires-clause-leads
some_from-requires-clause-leads g c = along c.args.trie.now.hash_bits c.args.trie.now.real_bits c.args.trie.now.leaves c.requires.stands.valid c.requires.stands.real_width c.args.lo.now (λ i. (c.type_inv.lo i).fits) c.args.node c.args.read (get_or c.args.lo.now c.args.read 0) c.requires.node c.requires.lo_on refl c.lead_by.result c.lead_by.ensures

pub returns-then-some_from : goal.returns-then-some_from
returns-then-some_from g c = part_from c.args.trie.now.hash_bits c.args.trie.now.real_bits c.args.trie.now.leaves c.requires.stands.valid c.requires.stands.real_width c.args.lo.now c.args.hi.now (λ i. (c.type_inv.lo i).fits) (λ i. (c.type_inv.hi i).fits) c.args.node c.args.read c.requires.node c.requires.alike (get_or c.args.lo.now c.args.read 0) (get_or c.args.hi.now c.args.read 0) c.requires.lo_on refl c.requires.hi_on refl ((c.type_inv.lo c.args.read).fits) ((c.type_inv.hi c.args.read).fits) (omega (arith, ltb-false _ _ (sym c.has_between.ensures.between ∙ c.if-has_between.false), c.has_between.ensures.order)) (subst (TellsFrom c.args.trie.now.real_bits c.args.trie.now.leaves c.args.lo.now (take (c.args.read + 1) c.args.lo.now)) c.if-some_from.true c.some_from.ensures)

pub some_to-requires-clause-leads : goal.some_to-requires-clause-leads
some_to-requires-clause-leads g c = along c.args.trie.now.hash_bits c.args.trie.now.real_bits c.args.trie.now.leaves c.requires.stands.valid c.requires.stands.real_width c.args.hi.now (λ i. (c.type_inv.hi i).fits) c.args.node c.args.read (get_or c.args.hi.now c.args.read 0) (subst (IsNodeAt c.args.trie.now.leaves c.args.node) c.requires.alike c.requires.node) c.requires.hi_on refl c.lead_by-2.result c.lead_by-2.ensures

pub returns : goal.returns
returns g c = part_to c.args.trie.now.hash_bits c.args.trie.now.real_bits c.args.trie.now.leaves c.requires.stands.valid c.requires.stands.real_width c.args.lo.now c.args.hi.now (λ i. (c.type_inv.lo i).fits) (λ i. (c.type_inv.hi i).fits) c.args.node c.args.read c.requires.node c.requires.alike (get_or c.args.lo.now c.args.read 0) (get_or c.args.hi.now c.args.read 0) c.requires.lo_on refl c.requires.hi_on refl ((c.type_inv.lo c.args.read).fits) ((c.type_inv.hi c.args.read).fits) (omega (arith, ltb-false _ _ (sym c.has_between.ensures.between ∙ c.if-has_between.false), c.has_between.ensures.order)) c.some_to.result (subst (TellsFrom c.args.trie.now.real_bits c.args.trie.now.leaves c.args.lo.now (take (c.args.read + 1) c.args.lo.now)) c.if-some_from.false c.some_from.ensures) c.some_to.ensures
