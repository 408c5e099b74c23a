use Rattle.louds_sparse.specs.Leads.{IsLead}
use Rattle.louds_sparse.specs.declared.lead.Lead.TheVariants as lead
use Rattle.louds_sparse.proofs.sparse.Sparse.child.Goals as goal

pub returns-in-Child : goal.returns-in-Child
returns-in-Child g c =
    let l : IsLead c.args.self.now c.args.place (lead.Child c.in-Child.node) = rw c.in-Child.is at c.lead_by.ensures in
    l

pub returns-in-Leaf : goal.returns-in-Leaf
returns-in-Leaf g c =
    let l : IsLead c.args.self.now c.args.place (lead.Leaf c.in-Leaf.field-0) = rw c.in-Leaf.is at c.lead_by.ensures in
    l.0
