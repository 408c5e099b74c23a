use Rattle.filter_trie.proofs.Least.{first_way, least_slot, less_below, next_way}
use Rattle.filter_trie.proofs.WaysDown.{IsOnWay}
use Rattle.filter_trie.specs.Places.{branch_number, string_at}
use Rattle.louds_sparse.specs.declared.lead.Lead.TheVariants as lead
use Rattle.filter_trie.proofs.trie.Trie.leftmost.Goals as goal

pub loop-lead-init : goal.loop-lead-init
loop-lead-init g c =
    first_way c.lead-lead.ensures.stands (branch_number c.args.self.now c.args.place) c.lead-lead.result c.lead-lead.ensures.number c.lead-lead.ensures.lead

pub returns-in-Leaf : goal.returns-in-Leaf
returns-in-Leaf g c =
    least_slot c.lead-lead.ensures.stands (string_at c.args.self.now c.args.place) c.in-Leaf.slot (rw c.in-Leaf.is at c.loop-lead.invariant)

pub first_lead-lead-requires : goal.first_lead-lead-requires
first_lead-lead-requires g c =
    let w : IsOnWay c.args.self.now.leaves (string_at c.args.self.now c.args.place) (lead.Child c.in-Child.node) = rw c.in-Child.is at c.loop-lead.invariant in
    w.0

pub loop-lead-smaller : goal.loop-lead-smaller
loop-lead-smaller g c =
    let w : IsOnWay c.args.self.now.leaves (string_at c.args.self.now c.args.place) (lead.Child c.in-Child.node) = rw c.in-Child.is at c.loop-lead.invariant in
    rw c.in-Child.is (less_below c.lead-lead.ensures.stands (string_at c.args.self.now c.args.place) c.in-Child.node c.first_lead-lead.result w c.first_lead-lead.ensures)

pub loop-lead-preserved : goal.loop-lead-preserved
loop-lead-preserved g c =
    let w : IsOnWay c.args.self.now.leaves (string_at c.args.self.now c.args.place) (lead.Child c.in-Child.node) = rw c.in-Child.is at c.loop-lead.invariant in
    next_way c.lead-lead.ensures.stands (string_at c.args.self.now c.args.place) c.in-Child.node c.first_lead-lead.result w c.first_lead-lead.ensures
