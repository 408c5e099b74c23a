use Rattle.std.proofs.Common.{Bool, true, false, Some, None, ◌≡◌, ap, arith, get_or, refl, subst, sym, take, ◌∙◌}
use Rattle.std.specs.Prelude.{not}
use Rattle.std.proofs.lemmas.Bool.{ltb-false, ltb-true}
use Rattle.filter_iter.proofs.MetLeaves.{slot_fits}
use Rattle.filter_iter.proofs.Sides.{along, from_end, from_leaf, from_more, from_none, from_on, from_same}
use Rattle.filter_iter.specs.Between.{LeadsAlong, TellsFrom}
use Rattle.filter_iter.specs.Borders.{reached_past}
use Rattle.filter_iter.specs.declared.parts.Lead.{Lead}
use Rattle.filter_iter.specs.declared.parts.Lead.TheVariants as lead
use Rattle.filter_iter.specs.declared.parts.Reached.{Reached}
use Rattle.filter_iter.proofs.between.some_from.Goals as goal

pub returns-in-None : goal.returns-in-None
returns-in-None g c = let a : LeadsAlong c.args.trie.now.leaves c.args.lo.now c.loop-lead.read None = rw c.in-None.is at c.loop-lead.invariant.1 in from_same c.args.trie.now.hash_bits c.args.trie.now.real_bits c.args.trie.now.leaves c.requires.stands.valid c.requires.stands.real_width c.args.lo.now (λ i. (c.type_inv.lo i).fits) (take c.args.read c.args.lo.now) (take c.loop-lead.read c.args.lo.now) false c.loop-lead.invariant.2 (from_none c.args.trie.now.hash_bits c.args.trie.now.real_bits c.args.trie.now.leaves c.requires.stands.valid c.requires.stands.real_width c.args.lo.now (λ i. (c.type_inv.lo i).fits) c.loop-lead.read a)

pub is_reached_past-requires : goal.is_reached_past-requires
is_reached_past-requires g c = let a : LeadsAlong c.args.trie.now.leaves c.args.lo.now c.loop-lead.read (Some (lead.Leaf c.in-Some-Leaf.slot)) = (let f : c.in-Some-Leaf.field-0 ≡ lead.Leaf c.in-Some-Leaf.slot = rw c.in-Some-Leaf.is at c.in-Some-Leaf.field-0-is in subst (λ (l : Lead). LeadsAlong c.args.trie.now.leaves c.args.lo.now c.loop-lead.read (Some l)) f (rw c.in-Some-Leaf.is at c.loop-lead.invariant.1)) in omega (arith, slot_fits c.args.trie.now.hash_bits c.args.trie.now.real_bits c.args.trie.now.leaves c.in-Some-Leaf.slot (take c.loop-lead.read c.args.lo.now) c.requires.stands.valid a.2, ap (λ (r : Reached). r.slot) c.met.ensures)

pub returns-in-Some-Leaf : goal.returns-in-Some-Leaf
returns-in-Some-Leaf g c = let a : LeadsAlong c.args.trie.now.leaves c.args.lo.now c.loop-lead.read (Some (lead.Leaf c.in-Some-Leaf.slot)) = (let f : c.in-Some-Leaf.field-0 ≡ lead.Leaf c.in-Some-Leaf.slot = rw c.in-Some-Leaf.is at c.in-Some-Leaf.field-0-is in subst (λ (l : Lead). LeadsAlong c.args.trie.now.leaves c.args.lo.now c.loop-lead.read (Some l)) f (rw c.in-Some-Leaf.is at c.loop-lead.invariant.1)) in subst (TellsFrom c.args.trie.now.real_bits c.args.trie.now.leaves c.args.lo.now (take c.args.read c.args.lo.now)) (sym (ap (λ (t : Bool). not t) (c.is_reached_past.ensures ∙ ap (reached_past c.args.trie.now.real_bits c.args.trie.now.leaves c.args.lo.now) c.met.ensures))) (from_same c.args.trie.now.hash_bits c.args.trie.now.real_bits c.args.trie.now.leaves c.requires.stands.valid c.requires.stands.real_width c.args.lo.now (λ i. (c.type_inv.lo i).fits) (take c.args.read c.args.lo.now) (take c.loop-lead.read c.args.lo.now) (not (reached_past c.args.trie.now.real_bits c.args.trie.now.leaves c.args.lo.now (record { slot = c.in-Some-Leaf.slot; stub = c.loop-lead.read; ends = false }))) c.loop-lead.invariant.2 (from_leaf c.args.trie.now.hash_bits c.args.trie.now.real_bits c.args.trie.now.leaves c.requires.stands.valid c.requires.stands.real_width c.args.lo.now (λ i. (c.type_inv.lo i).fits) c.loop-lead.read c.in-Some-Leaf.slot a))

pub returns-then-read-lo : goal.returns-then-read-lo
returns-then-read-lo g c = let a : LeadsAlong c.args.trie.now.leaves c.args.lo.now c.loop-lead.read (Some (lead.Node c.in-Some-Node.node)) = (let f : c.in-Some-Node.field-0 ≡ lead.Node c.in-Some-Node.node = rw c.in-Some-Node.is at c.in-Some-Node.field-0-is in subst (λ (l : Lead). LeadsAlong c.args.trie.now.leaves c.args.lo.now c.loop-lead.read (Some l)) f (rw c.in-Some-Node.is at c.loop-lead.invariant.1)) in from_same c.args.trie.now.hash_bits c.args.trie.now.real_bits c.args.trie.now.leaves c.requires.stands.valid c.requires.stands.real_width c.args.lo.now (λ i. (c.type_inv.lo i).fits) (take c.args.read c.args.lo.now) (take c.loop-lead.read c.args.lo.now) true c.loop-lead.invariant.2 (from_end c.args.trie.now.hash_bits c.args.trie.now.real_bits c.args.trie.now.leaves c.requires.stands.valid c.requires.stands.real_width c.args.lo.now (λ i. (c.type_inv.lo i).fits) c.in-Some-Node.node c.loop-lead.read a c.if-read-lo.true c.loop-lead.invariant.0)

pub returns-then-has_behind : goal.returns-then-has_behind
returns-then-has_behind g c = let a : LeadsAlong c.args.trie.now.leaves c.args.lo.now c.loop-lead.read (Some (lead.Node c.in-Some-Node.node)) = (let f : c.in-Some-Node.field-0 ≡ lead.Node c.in-Some-Node.node = rw c.in-Some-Node.is at c.in-Some-Node.field-0-is in subst (λ (l : Lead). LeadsAlong c.args.trie.now.leaves c.args.lo.now c.loop-lead.read (Some l)) f (rw c.in-Some-Node.is at c.loop-lead.invariant.1)) in from_same c.args.trie.now.hash_bits c.args.trie.now.real_bits c.args.trie.now.leaves c.requires.stands.valid c.requires.stands.real_width c.args.lo.now (λ i. (c.type_inv.lo i).fits) (take c.args.read c.args.lo.now) (take c.loop-lead.read c.args.lo.now) true c.loop-lead.invariant.2 (from_more c.args.trie.now.hash_bits c.args.trie.now.real_bits c.args.trie.now.leaves c.requires.stands.valid c.requires.stands.real_width c.args.lo.now (λ i. (c.type_inv.lo i).fits) c.in-Some-Node.node c.loop-lead.read (get_or c.args.lo.now c.loop-lead.read 0) a c.if-read-lo.false refl (ltb-true _ _ (sym c.has_behind.ensures.behind ∙ c.if-has_behind.true)))

pub loop-lead-preserved : goal.loop-lead-preserved
loop-lead-preserved g c = let a : LeadsAlong c.args.trie.now.leaves c.args.lo.now c.loop-lead.read (Some (lead.Node c.in-Some-Node.node)) = (let f : c.in-Some-Node.field-0 ≡ lead.Node c.in-Some-Node.node = rw c.in-Some-Node.is at c.in-Some-Node.field-0-is in subst (λ (l : Lead). LeadsAlong c.args.trie.now.leaves c.args.lo.now c.loop-lead.read (Some l)) f (rw c.in-Some-Node.is at c.loop-lead.invariant.1)) in let same = ltb-false _ _ (sym c.has_behind.ensures.behind ∙ c.if-has_behind.false) in (omega (arith, c.if-read-lo.false), along c.args.trie.now.hash_bits c.args.trie.now.real_bits c.args.trie.now.leaves c.requires.stands.valid c.requires.stands.real_width c.args.lo.now (λ i. (c.type_inv.lo i).fits) c.in-Some-Node.node c.loop-lead.read (get_or c.args.lo.now c.loop-lead.read 0) a c.if-read-lo.false refl c.lead_by-lead.result c.lead_by-lead.ensures, from_on c.args.trie.now.hash_bits c.args.trie.now.real_bits c.args.trie.now.leaves c.requires.stands.valid c.requires.stands.real_width c.args.lo.now (λ i. (c.type_inv.lo i).fits) c.in-Some-Node.node c.loop-lead.read (get_or c.args.lo.now c.loop-lead.read 0) a c.if-read-lo.false refl (omega (arith, same, c.has_behind.ensures.order)) ∙ c.loop-lead.invariant.2)
