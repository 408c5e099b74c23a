use Rattle.std.proofs.Common.{Bool, List, ℕ, ◌≡◌, Some, None, true, false, ◌+◌, ◌++◌, ◌∷◌, [], ap, arith, get_or, length, refl, subst, sym, take, ◌∙◌}
use Rattle.std.specs.Prelude.{not, ◌&&◌}
use Rattle.std.proofs.lemmas.List.{length-take, take_more_same}
use Rattle.filter_iter.proofs.MetLeaves.{slot_fits}
use Rattle.filter_iter.proofs.Parting.{hi_ends, lo_ends, shared_leaf, shared_none}
use Rattle.filter_iter.proofs.Sides.{along}
use Rattle.filter_iter.specs.Between.{LeadsIf, TellsTo}
use Rattle.filter_iter.specs.Borders.{reached_begun, reached_past}
use Rattle.filter_iter.specs.declared.parts.Lead.{Lead}
use Rattle.filter_iter.specs.declared.parts.Lead.TheVariants as lead
use Rattle.filter_iter.specs.declared.parts.Reached.{Reached}
use Rattle.filter_model.specs.Trie.{nodes}
use Rattle.filter_trie.specs.Walks.{IsNodeAt}
use Rattle.filter_iter.proofs.between.range.Goals as goal

pub returns-then-i-hi : goal.returns-then-i-hi
returns-then-i-hi g c = hi_ends c.args.trie.now.hash_bits c.args.trie.now.real_bits c.args.trie.now.leaves c.root-node.ensures.stands.valid c.root-node.ensures.stands.real_width c.args.lo.now c.args.hi.now (λ i. (c.type_inv.lo i).fits) (λ i. (c.type_inv.hi i).fits) c.loop-i.node c.loop-i.i c.loop-i.invariant.0 c.loop-i.invariant.1 c.if-i-hi.true (omega (arith, ap (λ (q : List ℕ). length q) c.loop-i.invariant.1, length-take c.loop-i.i c.args.lo.now, length-take c.loop-i.i c.args.hi.now, c.loop-i-test.true)) c.loop-i-test.true (get_or c.args.lo.now c.loop-i.i 0) refl ((c.type_inv.lo c.loop-i.i).fits)

pub returns-in-None : goal.returns-in-None
returns-in-None g c = shared_none c.args.trie.now.hash_bits c.args.trie.now.real_bits c.args.trie.now.leaves c.root-node.ensures.stands.valid c.root-node.ensures.stands.real_width c.args.lo.now c.args.hi.now (λ i. (c.type_inv.lo i).fits) (λ i. (c.type_inv.hi i).fits) (c.loop-i.i + 1) (take_more_same c.args.lo.now c.args.hi.now c.loop-i.i 0 c.loop-i-test.true c.if-i-hi.false c.loop-i.invariant.1 c.if-lo-i.false) (along c.args.trie.now.hash_bits c.args.trie.now.real_bits c.args.trie.now.leaves c.root-node.ensures.stands.valid c.root-node.ensures.stands.real_width c.args.lo.now (λ i. (c.type_inv.lo i).fits) c.loop-i.node c.loop-i.i (get_or c.args.lo.now c.loop-i.i 0) c.loop-i.invariant.0 c.loop-i-test.true refl None c.in-None.ensures) (along c.args.trie.now.hash_bits c.args.trie.now.real_bits c.args.trie.now.leaves c.root-node.ensures.stands.valid c.root-node.ensures.stands.real_width c.args.hi.now (λ i. (c.type_inv.hi i).fits) c.loop-i.node c.loop-i.i (get_or c.args.lo.now c.loop-i.i 0) (subst (IsNodeAt c.args.trie.now.leaves c.loop-i.node) c.loop-i.invariant.1 c.loop-i.invariant.0) c.if-i-hi.false c.if-lo-i.false None c.in-None.ensures)

pub is_reached_past-requires : goal.is_reached_past-requires
is_reached_past-requires g c = omega (arith, slot_fits c.args.trie.now.hash_bits c.args.trie.now.real_bits c.args.trie.now.leaves c.in-Some-Leaf.slot (take (c.loop-i.i + 1) c.args.lo.now) c.root-node.ensures.stands.valid (along c.args.trie.now.hash_bits c.args.trie.now.real_bits c.args.trie.now.leaves c.root-node.ensures.stands.valid c.root-node.ensures.stands.real_width c.args.lo.now (λ i. (c.type_inv.lo i).fits) c.loop-i.node c.loop-i.i (get_or c.args.lo.now c.loop-i.i 0) c.loop-i.invariant.0 c.loop-i-test.true refl (Some (lead.Leaf c.in-Some-Leaf.slot)) (subst (λ (l : Lead). LeadsIf c.args.trie.now.leaves ((get_or (nodes c.args.trie.now.leaves) c.loop-i.node []) ++ (get_or c.args.lo.now c.loop-i.i 0) ∷ []) (Some l)) c.in-Some-Leaf.field-0-is c.in-Some-Leaf.ensures)).2, ap (λ (r : Reached). r.slot) c.met-leaf.ensures)

pub is_reached_begun-requires : goal.is_reached_begun-requires
is_reached_begun-requires g c = omega (arith, slot_fits c.args.trie.now.hash_bits c.args.trie.now.real_bits c.args.trie.now.leaves c.in-Some-Leaf.slot (take (c.loop-i.i + 1) c.args.lo.now) c.root-node.ensures.stands.valid (along c.args.trie.now.hash_bits c.args.trie.now.real_bits c.args.trie.now.leaves c.root-node.ensures.stands.valid c.root-node.ensures.stands.real_width c.args.lo.now (λ i. (c.type_inv.lo i).fits) c.loop-i.node c.loop-i.i (get_or c.args.lo.now c.loop-i.i 0) c.loop-i.invariant.0 c.loop-i-test.true refl (Some (lead.Leaf c.in-Some-Leaf.slot)) (subst (λ (l : Lead). LeadsIf c.args.trie.now.leaves ((get_or (nodes c.args.trie.now.leaves) c.loop-i.node []) ++ (get_or c.args.lo.now c.loop-i.i 0) ∷ []) (Some l)) c.in-Some-Leaf.field-0-is c.in-Some-Leaf.ensures)).2, ap (λ (r : Reached). r.slot) c.met-leaf.ensures)

pub returns-then-not-is_reached_past : goal.returns-then-not-is_reached_past
returns-then-not-is_reached_past g c =
    let past : c.is_reached_past.result ≡ reached_past c.args.trie.now.real_bits c.args.trie.now.leaves c.args.lo.now (record { slot = c.in-Some-Leaf.slot; stub = c.loop-i.i + 1; ends = false }) = c.is_reached_past.ensures ∙ ap (reached_past c.args.trie.now.real_bits c.args.trie.now.leaves c.args.lo.now) c.met-leaf.ensures in
    let all = shared_leaf c.args.trie.now.hash_bits c.args.trie.now.real_bits c.args.trie.now.leaves c.root-node.ensures.stands.valid c.root-node.ensures.stands.real_width c.args.lo.now c.args.hi.now (λ i. (c.type_inv.lo i).fits) (λ i. (c.type_inv.hi i).fits) (c.loop-i.i + 1) c.in-Some-Leaf.slot (take_more_same c.args.lo.now c.args.hi.now c.loop-i.i 0 c.loop-i-test.true c.if-i-hi.false c.loop-i.invariant.1 c.if-lo-i.false) (along c.args.trie.now.hash_bits c.args.trie.now.real_bits c.args.trie.now.leaves c.root-node.ensures.stands.valid c.root-node.ensures.stands.real_width c.args.lo.now (λ i. (c.type_inv.lo i).fits) c.loop-i.node c.loop-i.i (get_or c.args.lo.now c.loop-i.i 0) c.loop-i.invariant.0 c.loop-i-test.true refl (Some (lead.Leaf c.in-Some-Leaf.slot)) (subst (λ (l : Lead). LeadsIf c.args.trie.now.leaves ((get_or (nodes c.args.trie.now.leaves) c.loop-i.node []) ++ (get_or c.args.lo.now c.loop-i.i 0) ∷ []) (Some l)) c.in-Some-Leaf.field-0-is c.in-Some-Leaf.ensures)) (along c.args.trie.now.hash_bits c.args.trie.now.real_bits c.args.trie.now.leaves c.root-node.ensures.stands.valid c.root-node.ensures.stands.real_width c.args.hi.now (λ i. (c.type_inv.hi i).fits) c.loop-i.node c.loop-i.i (get_or c.args.lo.now c.loop-i.i 0) (subst (IsNodeAt c.args.trie.now.leaves c.loop-i.node) c.loop-i.invariant.1 c.loop-i.invariant.0) c.if-i-hi.false c.if-lo-i.false (Some (lead.Leaf c.in-Some-Leaf.slot)) (subst (λ (l : Lead). LeadsIf c.args.trie.now.leaves ((get_or (nodes c.args.trie.now.leaves) c.loop-i.node []) ++ (get_or c.args.lo.now c.loop-i.i 0) ∷ []) (Some l)) c.in-Some-Leaf.field-0-is c.in-Some-Leaf.ensures)) in
    let begun : c.is_reached_begun.result ≡ reached_begun c.args.trie.now.real_bits c.args.trie.now.leaves c.args.hi.now (record { slot = c.in-Some-Leaf.slot; stub = c.loop-i.i + 1; ends = false }) = c.is_reached_begun.ensures ∙ ap (reached_begun c.args.trie.now.real_bits c.args.trie.now.leaves c.args.hi.now) c.met-leaf.ensures in
    let here : not (reached_past c.args.trie.now.real_bits c.args.trie.now.leaves c.args.lo.now (record { slot = c.in-Some-Leaf.slot; stub = c.loop-i.i + 1; ends = false })) ≡ true = ap not (sym past ∙ c.if-not-is_reached_past.true) in
    begun ∙ ap (λ (t : Bool). t && reached_begun c.args.trie.now.real_bits c.args.trie.now.leaves c.args.hi.now (record { slot = c.in-Some-Leaf.slot; stub = c.loop-i.i + 1; ends = false })) (sym here) ∙ all

pub returns-else-not-is_reached_past : goal.returns-else-not-is_reached_past
returns-else-not-is_reached_past g c =
    let past : c.is_reached_past.result ≡ reached_past c.args.trie.now.real_bits c.args.trie.now.leaves c.args.lo.now (record { slot = c.in-Some-Leaf.slot; stub = c.loop-i.i + 1; ends = false }) = c.is_reached_past.ensures ∙ ap (reached_past c.args.trie.now.real_bits c.args.trie.now.leaves c.args.lo.now) c.met-leaf.ensures in
    let all = shared_leaf c.args.trie.now.hash_bits c.args.trie.now.real_bits c.args.trie.now.leaves c.root-node.ensures.stands.valid c.root-node.ensures.stands.real_width c.args.lo.now c.args.hi.now (λ i. (c.type_inv.lo i).fits) (λ i. (c.type_inv.hi i).fits) (c.loop-i.i + 1) c.in-Some-Leaf.slot (take_more_same c.args.lo.now c.args.hi.now c.loop-i.i 0 c.loop-i-test.true c.if-i-hi.false c.loop-i.invariant.1 c.if-lo-i.false) (along c.args.trie.now.hash_bits c.args.trie.now.real_bits c.args.trie.now.leaves c.root-node.ensures.stands.valid c.root-node.ensures.stands.real_width c.args.lo.now (λ i. (c.type_inv.lo i).fits) c.loop-i.node c.loop-i.i (get_or c.args.lo.now c.loop-i.i 0) c.loop-i.invariant.0 c.loop-i-test.true refl (Some (lead.Leaf c.in-Some-Leaf.slot)) (subst (λ (l : Lead). LeadsIf c.args.trie.now.leaves ((get_or (nodes c.args.trie.now.leaves) c.loop-i.node []) ++ (get_or c.args.lo.now c.loop-i.i 0) ∷ []) (Some l)) c.in-Some-Leaf.field-0-is c.in-Some-Leaf.ensures)) (along c.args.trie.now.hash_bits c.args.trie.now.real_bits c.args.trie.now.leaves c.root-node.ensures.stands.valid c.root-node.ensures.stands.real_width c.args.hi.now (λ i. (c.type_inv.hi i).fits) c.loop-i.node c.loop-i.i (get_or c.args.lo.now c.loop-i.i 0) (subst (IsNodeAt c.args.trie.now.leaves c.loop-i.node) c.loop-i.invariant.1 c.loop-i.invariant.0) c.if-i-hi.false c.if-lo-i.false (Some (lead.Leaf c.in-Some-Leaf.slot)) (subst (λ (l : Lead). LeadsIf c.args.trie.now.leaves ((get_or (nodes c.args.trie.now.leaves) c.loop-i.node []) ++ (get_or c.args.lo.now c.loop-i.i 0) ∷ []) (Some l)) c.in-Some-Leaf.field-0-is c.in-Some-Leaf.ensures)) in
    let here : not (reached_past c.args.trie.now.real_bits c.args.trie.now.leaves c.args.lo.now (record { slot = c.in-Some-Leaf.slot; stub = c.loop-i.i + 1; ends = false })) ≡ false = ap not (sym past ∙ c.if-not-is_reached_past.false) in
    ap not c.if-not-is_reached_past.false ∙ ap (λ (t : Bool). t && reached_begun c.args.trie.now.real_bits c.args.trie.now.leaves c.args.hi.now (record { slot = c.in-Some-Leaf.slot; stub = c.loop-i.i + 1; ends = false })) (sym here) ∙ all

pub returns : goal.returns
returns g c = let is : length c.args.lo.now ≡ c.loop-i.i = omega (arith, c.loop-i-test.false, c.loop-i.auto.i-end) in lo_ends c.args.trie.now.hash_bits c.args.trie.now.real_bits c.args.trie.now.leaves c.root-node.ensures.stands.valid c.root-node.ensures.stands.real_width c.args.lo.now c.args.hi.now (λ i. (c.type_inv.lo i).fits) (λ i. (c.type_inv.hi i).fits) c.loop-i.node c.loop-i.i c.loop-i.invariant.0 c.loop-i.invariant.1 c.loop-i-test.false c.loop-i.auto.i-end c.some_to.result (subst (λ (k : ℕ). TellsTo c.args.trie.now.real_bits c.args.trie.now.leaves c.args.hi.now (take k c.args.hi.now) c.some_to.result) is c.some_to.ensures)
