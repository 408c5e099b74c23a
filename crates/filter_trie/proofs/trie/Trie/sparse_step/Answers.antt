use Rattle.filter_trie.proofs.Halves.{has_node}
use Rattle.filter_trie.proofs.Walking.{sparse_down, sparse_leaf, sparse_none, there_both}
use Rattle.filter_trie.specs.Parts.{AreParts, lower, upper}
use Rattle.louds_sparse.specs.Leads.{IsLead}
use Rattle.louds_sparse.specs.declared.lead.Lead.TheVariants as lead
use Rattle.trie_laws.specs.Halves.{second_half}
use Rattle.filter_trie.proofs.trie.Trie.sparse_step.Goals as goal

pub lead-requires : goal.lead-requires
lead-requires g c =
    let s : AreParts c.args.self.now c.self.inside.cutoff c.self.inside.height c.self.inside.dense c.self.inside.sparse c.self.inside.suffixes = rw c.self.view_is at c.self.invariant.0 in
    rw s.sparse_is (has_node (upper c.args.self.now.cutoff c.args.self.now.leaves) (lower c.args.self.now.cutoff c.args.self.now.leaves) c.args.node c.requires.behind (there_both s c.args.node c.requires.there))

pub returns-in-None : goal.returns-in-None
returns-in-None g c =
    let s : AreParts c.args.self.now c.self.inside.cutoff c.self.inside.height c.self.inside.dense c.self.inside.sparse c.self.inside.suffixes = rw c.self.view_is at c.self.invariant.0 in
    sparse_none s c.args.node c.requires.behind c.requires.there c.args.byte c.ranges.byte.fits (rw s.sparse_is at c.in-None.ensures.place)

pub returns-in-Child : goal.returns-in-Child
returns-in-Child g c =
    let s : AreParts c.args.self.now c.self.inside.cutoff c.self.inside.height c.self.inside.dense c.self.inside.sparse c.self.inside.suffixes = rw c.self.view_is at c.self.invariant.0 in
    let l : IsLead (second_half (upper c.args.self.now.cutoff c.args.self.now.leaves) (lower c.args.self.now.cutoff c.args.self.now.leaves)) c.in-Some.field-0-0 (lead.Child c.in-Child.child) = rw s.sparse_is at rw c.in-Child.is at c.in-Some.ensures.leads in
    sparse_down s c.args.node c.requires.behind c.requires.there c.args.byte c.in-Some.field-0-0 c.in-Child.child (rw s.sparse_is at c.in-Some.ensures.place) l

pub returns-in-Leaf : goal.returns-in-Leaf
returns-in-Leaf g c =
    let s : AreParts c.args.self.now c.self.inside.cutoff c.self.inside.height c.self.inside.dense c.self.inside.sparse c.self.inside.suffixes = rw c.self.view_is at c.self.invariant.0 in
    let l : IsLead (second_half (upper c.args.self.now.cutoff c.args.self.now.leaves) (lower c.args.self.now.cutoff c.args.self.now.leaves)) c.in-Some.field-0-0 (lead.Leaf c.in-Leaf.slot) = rw s.sparse_is at rw c.in-Leaf.is at c.in-Some.ensures.leads in
    sparse_leaf s c.args.node c.requires.behind c.requires.there c.args.byte c.in-Some.field-0-0 c.in-Leaf.slot (rw s.sparse_is at c.in-Some.ensures.place) l.0 l.1
