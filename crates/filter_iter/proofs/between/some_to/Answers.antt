use Rattle.std.proofs.Common.{ℕ, Bool, true, false, Some, None, ◌≡◌, ◌++◌, ◌∷◌, [], ap, arith, eq-eqb, get_or, nat_lt, refl, subst, sym, take, ◌∙◌}
use Rattle.std.specs.Prelude.{is_some}
use Rattle.filter_iter.proofs.MetLeaves.{slot_fits}
use Rattle.filter_iter.proofs.Sides.{along, some_lead, to_end, to_ended, to_leaf, to_none, to_on, to_other, to_same}
use Rattle.filter_iter.specs.Between.{LeadsAlong, TellsTo}
use Rattle.filter_iter.specs.Borders.{reached_begun}
use Rattle.filter_iter.specs.CursorPath.{LeadGoesTo}
use Rattle.filter_iter.specs.declared.parts.Lead.{Lead}
use Rattle.filter_iter.specs.declared.parts.Lead.TheVariants as lead
use Rattle.filter_iter.specs.declared.parts.Reached.{Reached}
use Rattle.filter_model.specs.Trie.{nodes}
use Rattle.filter_iter.proofs.between.some_to.Goals as goal

pub returns-in-None : goal.returns-in-None
returns-in-None g c = let a : LeadsAlong c.args.trie.now.leaves c.args.hi.now c.loop-lead.read None = rw c.in-None.is at c.loop-lead.invariant.1 in to_same c.args.trie.now.hash_bits c.args.trie.now.real_bits c.args.trie.now.leaves c.requires.stands.valid c.requires.stands.real_width c.args.hi.now (λ i. (c.type_inv.hi i).fits) (take c.args.read c.args.hi.now) (take c.loop-lead.read c.args.hi.now) false c.loop-lead.invariant.2 (to_none c.args.trie.now.hash_bits c.args.trie.now.real_bits c.args.trie.now.leaves c.requires.stands.valid c.requires.stands.real_width c.args.hi.now (λ i. (c.type_inv.hi i).fits) c.loop-lead.read a)

pub is_reached_begun-requires : goal.is_reached_begun-requires
is_reached_begun-requires g c = let a : LeadsAlong c.args.trie.now.leaves c.args.hi.now c.loop-lead.read (Some (lead.Leaf c.in-Some-Leaf.slot)) = (let f : c.in-Some-Leaf.field-0 ≡ lead.Leaf c.in-Some-Leaf.slot = rw c.in-Some-Leaf.is at c.in-Some-Leaf.field-0-is in subst (λ (l : Lead). LeadsAlong c.args.trie.now.leaves c.args.hi.now c.loop-lead.read (Some l)) f (rw c.in-Some-Leaf.is at c.loop-lead.invariant.1)) in omega (arith, slot_fits c.args.trie.now.hash_bits c.args.trie.now.real_bits c.args.trie.now.leaves c.in-Some-Leaf.slot (take c.loop-lead.read c.args.hi.now) c.requires.stands.valid a.2, ap (λ (r : Reached). r.slot) c.met.ensures)

pub returns-in-Some-Leaf : goal.returns-in-Some-Leaf
returns-in-Some-Leaf g c = let a : LeadsAlong c.args.trie.now.leaves c.args.hi.now c.loop-lead.read (Some (lead.Leaf c.in-Some-Leaf.slot)) = (let f : c.in-Some-Leaf.field-0 ≡ lead.Leaf c.in-Some-Leaf.slot = rw c.in-Some-Leaf.is at c.in-Some-Leaf.field-0-is in subst (λ (l : Lead). LeadsAlong c.args.trie.now.leaves c.args.hi.now c.loop-lead.read (Some l)) f (rw c.in-Some-Leaf.is at c.loop-lead.invariant.1)) in subst (TellsTo c.args.trie.now.real_bits c.args.trie.now.leaves c.args.hi.now (take c.args.read c.args.hi.now)) (sym (ap (λ (t : Bool). t) (c.is_reached_begun.ensures ∙ ap (reached_begun c.args.trie.now.real_bits c.args.trie.now.leaves c.args.hi.now) c.met.ensures))) (to_same c.args.trie.now.hash_bits c.args.trie.now.real_bits c.args.trie.now.leaves c.requires.stands.valid c.requires.stands.real_width c.args.hi.now (λ i. (c.type_inv.hi i).fits) (take c.args.read c.args.hi.now) (take c.loop-lead.read c.args.hi.now) ((reached_begun c.args.trie.now.real_bits c.args.trie.now.leaves c.args.hi.now (record { slot = c.in-Some-Leaf.slot; stub = c.loop-lead.read; ends = false }))) c.loop-lead.invariant.2 (to_leaf c.args.trie.now.hash_bits c.args.trie.now.real_bits c.args.trie.now.leaves c.requires.stands.valid c.requires.stands.real_width c.args.hi.now (λ i. (c.type_inv.hi i).fits) c.loop-lead.read c.in-Some-Leaf.slot a))

pub returns-then-read-hi : goal.returns-then-read-hi
returns-then-read-hi g c = let a : LeadsAlong c.args.trie.now.leaves c.args.hi.now c.loop-lead.read (Some (lead.Node c.in-Some-Node.node)) = (let f : c.in-Some-Node.field-0 ≡ lead.Node c.in-Some-Node.node = rw c.in-Some-Node.is at c.in-Some-Node.field-0-is in subst (λ (l : Lead). LeadsAlong c.args.trie.now.leaves c.args.hi.now c.loop-lead.read (Some l)) f (rw c.in-Some-Node.is at c.loop-lead.invariant.1)) in subst (TellsTo c.args.trie.now.real_bits c.args.trie.now.leaves c.args.hi.now (take c.args.read c.args.hi.now)) (sym c.is_some.ensures) (to_same c.args.trie.now.hash_bits c.args.trie.now.real_bits c.args.trie.now.leaves c.requires.stands.valid c.requires.stands.real_width c.args.hi.now (λ i. (c.type_inv.hi i).fits) (take c.args.read c.args.hi.now) (take c.loop-lead.read c.args.hi.now) (is_some c.prefix_slot.result) c.loop-lead.invariant.2 (to_end c.args.trie.now.hash_bits c.args.trie.now.real_bits c.args.trie.now.leaves c.requires.stands.valid c.requires.stands.real_width c.args.hi.now (λ i. (c.type_inv.hi i).fits) c.in-Some-Node.node c.loop-lead.read a c.if-read-hi.true c.loop-lead.invariant.0 c.prefix_slot.result c.prefix_slot.ensures))

pub returns-then-branch-eq-END_LETTER : goal.returns-then-branch-eq-END_LETTER
returns-then-branch-eq-END_LETTER g c = let a : LeadsAlong c.args.trie.now.leaves c.args.hi.now c.loop-lead.read (Some (lead.Node c.in-Some-Node.node)) = (let f : c.in-Some-Node.field-0 ≡ lead.Node c.in-Some-Node.node = rw c.in-Some-Node.is at c.in-Some-Node.field-0-is in subst (λ (l : Lead). LeadsAlong c.args.trie.now.leaves c.args.hi.now c.loop-lead.read (Some l)) f (rw c.in-Some-Node.is at c.loop-lead.invariant.1)) in subst (TellsTo c.args.trie.now.real_bits c.args.trie.now.leaves c.args.hi.now (take c.args.read c.args.hi.now)) (sym (eq-eqb c.first_branch.result.0.letter 256 c.if-branch-eq-END_LETTER.true)) (to_same c.args.trie.now.hash_bits c.args.trie.now.real_bits c.args.trie.now.leaves c.requires.stands.valid c.requires.stands.real_width c.args.hi.now (λ i. (c.type_inv.hi i).fits) (take c.args.read c.args.hi.now) (take c.loop-lead.read c.args.hi.now) true c.loop-lead.invariant.2 (to_ended c.args.trie.now.hash_bits c.args.trie.now.real_bits c.args.trie.now.leaves c.requires.stands.valid c.requires.stands.real_width c.args.hi.now (λ i. (c.type_inv.hi i).fits) c.in-Some-Node.node c.loop-lead.read (get_or c.args.hi.now c.loop-lead.read 0) a c.if-read-hi.false refl ((c.type_inv.hi c.loop-lead.read).fits) c.first_branch.result.0 c.first_branch.ensures.branch.branch c.first_branch.ensures.branch.first c.if-branch-eq-END_LETTER.true))

pub returns-else-branch-eq-END_LETTER : goal.returns-else-branch-eq-END_LETTER
returns-else-branch-eq-END_LETTER g c = let a : LeadsAlong c.args.trie.now.leaves c.args.hi.now c.loop-lead.read (Some (lead.Node c.in-Some-Node.node)) = (let f : c.in-Some-Node.field-0 ≡ lead.Node c.in-Some-Node.node = rw c.in-Some-Node.is at c.in-Some-Node.field-0-is in subst (λ (l : Lead). LeadsAlong c.args.trie.now.leaves c.args.hi.now c.loop-lead.read (Some l)) f (rw c.in-Some-Node.is at c.loop-lead.invariant.1)) in subst (λ (k : ℕ). TellsTo c.args.trie.now.real_bits c.args.trie.now.leaves c.args.hi.now (take c.args.read c.args.hi.now) (nat_lt c.first_branch.result.0.letter k)) (sym c.from-letter.ensures) (to_same c.args.trie.now.hash_bits c.args.trie.now.real_bits c.args.trie.now.leaves c.requires.stands.valid c.requires.stands.real_width c.args.hi.now (λ i. (c.type_inv.hi i).fits) (take c.args.read c.args.hi.now) (take c.loop-lead.read c.args.hi.now) (nat_lt c.first_branch.result.0.letter (get_or c.args.hi.now c.loop-lead.read 0)) c.loop-lead.invariant.2 (to_other c.args.trie.now.hash_bits c.args.trie.now.real_bits c.args.trie.now.leaves c.requires.stands.valid c.requires.stands.real_width c.args.hi.now (λ i. (c.type_inv.hi i).fits) c.in-Some-Node.node c.loop-lead.read (get_or c.args.hi.now c.loop-lead.read 0) a c.if-read-hi.false refl ((c.type_inv.hi c.loop-lead.read).fits) c.first_branch.result.0 c.first_branch.ensures.branch.branch c.first_branch.ensures.branch.first c.if-branch-eq-END_LETTER.false (λ e. c.if-branch-letter.true (e ∙ sym c.from-letter.ensures))))

pub loop-lead-preserved : goal.loop-lead-preserved
loop-lead-preserved g c = let a : LeadsAlong c.args.trie.now.leaves c.args.hi.now c.loop-lead.read (Some (lead.Node c.in-Some-Node.node)) = (let f : c.in-Some-Node.field-0 ≡ lead.Node c.in-Some-Node.node = rw c.in-Some-Node.is at c.in-Some-Node.field-0-is in subst (λ (l : Lead). LeadsAlong c.args.trie.now.leaves c.args.hi.now c.loop-lead.read (Some l)) f (rw c.in-Some-Node.is at c.loop-lead.invariant.1)) in let is : c.first_branch.result.0.letter ≡ (get_or c.args.hi.now c.loop-lead.read 0) = c.if-branch-letter.false ∙ c.from-letter.ensures in (omega (arith, c.if-read-hi.false), along c.args.trie.now.hash_bits c.args.trie.now.real_bits c.args.trie.now.leaves c.requires.stands.valid c.requires.stands.real_width c.args.hi.now (λ i. (c.type_inv.hi i).fits) c.in-Some-Node.node c.loop-lead.read (get_or c.args.hi.now c.loop-lead.read 0) a c.if-read-hi.false refl (Some c.first_branch.result.0.lead) (some_lead c.args.trie.now.leaves ((get_or (nodes c.args.trie.now.leaves) c.in-Some-Node.node []) ++ (get_or c.args.hi.now c.loop-lead.read 0) ∷ []) c.first_branch.result.0.lead (subst (λ (k : ℕ). LeadGoesTo c.args.trie.now.leaves ((get_or (nodes c.args.trie.now.leaves) c.in-Some-Node.node []) ++ k ∷ []) c.first_branch.result.0.lead) is c.first_branch.ensures.branch.branch.leads)), to_on c.args.trie.now.hash_bits c.args.trie.now.real_bits c.args.trie.now.leaves c.requires.stands.valid c.requires.stands.real_width c.args.hi.now (λ i. (c.type_inv.hi i).fits) c.in-Some-Node.node c.loop-lead.read (get_or c.args.hi.now c.loop-lead.read 0) a c.if-read-hi.false refl ((c.type_inv.hi c.loop-lead.read).fits) c.first_branch.result.0 c.first_branch.ensures.branch.branch c.first_branch.ensures.branch.first is ∙ c.loop-lead.invariant.2)
