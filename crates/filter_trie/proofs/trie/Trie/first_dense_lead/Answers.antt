use Rattle.std.proofs.Common.{ℕ, subst, arith}
use Rattle.filter_trie.proofs.Least.{byte_first, end_lead, some_byte}
use Rattle.filter_trie.proofs.Numbers.{dense_next_taken}
use Rattle.louds_sparse.specs.Leads.{IsLead}
use Rattle.filter_trie.specs.Places.{trie}
use Rattle.filter_trie.specs.Parts.{AreParts}
use Rattle.filter_trie.proofs.trie.Trie.first_dense_lead.Goals as goal

pub returns-in-Some : goal.returns-in-Some
returns-in-Some g c =
    let s : AreParts c.args.self.now c.self.inside.cutoff c.self.inside.height c.self.inside.dense c.self.inside.sparse c.self.inside.suffixes = rw c.self.view_is at c.self.invariant.0 in
    end_lead s c.args.node c.requires c.in-Some.slot (rw s.dense_is at c.in-Some.ensures)

pub lead-requires : goal.lead-requires
lead-requires g c =
    let s : AreParts c.args.self.now c.self.inside.cutoff c.self.inside.height c.self.inside.dense c.self.inside.sparse c.self.inside.suffixes = rw c.self.view_is at c.self.invariant.0 in
    dense_next_taken s c.args.node 0 c.in-Some-next_branch.bit c.requires (omega arith) (rw s.dense_is at c.in-Some-next_branch.ensures)

pub unreachable-requires : goal.unreachable-requires
unreachable-requires g c =
    let s : AreParts c.args.self.now c.self.inside.cutoff c.self.inside.height c.self.inside.dense c.self.inside.sparse c.self.inside.suffixes = rw c.self.view_is at c.self.invariant.0 in
    some_byte s c.args.node c.requires (rw s.dense_is at c.in_default.ensures) (rw s.dense_is at c.in-None.ensures)

pub returns : goal.returns
returns g c =
    let s : AreParts c.args.self.now c.self.inside.cutoff c.self.inside.height c.self.inside.dense c.self.inside.sparse c.self.inside.suffixes = rw c.self.view_is at c.self.invariant.0 in
    subst (λ (n : ℕ). IsLead (trie c.args.self.now) n c.lead.result) (byte_first s c.args.node c.requires c.in-Some-next_branch.bit (rw s.dense_is at c.in_default.ensures) (rw s.dense_is at c.in-Some-next_branch.ensures)) c.lead.ensures.lead
