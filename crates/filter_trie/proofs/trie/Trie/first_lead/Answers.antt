use Rattle.std.proofs.Common.{ℕ, ◌∙◌, ap, subst, arith}
use Rattle.filter_trie.proofs.Least.{first_taken}
use Rattle.filter_trie.proofs.Numbers.{behind, sparse_begins, sparse_behind}
use Rattle.louds_sparse.specs.Leads.{IsLead}
use Rattle.filter_trie.specs.Places.{trie}
use Rattle.trie_model.specs.Halves.{Half, begin_of}
use Rattle.filter_model.specs.Nodes.{all}
use Rattle.std.specs.Prelude.{◌+◌, length}
use Rattle.filter_trie.specs.Parts.{AreParts, upper}
use Rattle.filter_trie.proofs.trie.Trie.first_lead.Goals as goal

pub first_place-place-requires-clause-there : goal.first_place-place-requires-clause-there
first_place-place-requires-clause-there g c =
    let s : AreParts c.args.self.now c.self.inside.cutoff c.self.inside.height c.self.inside.dense c.self.inside.sparse c.self.inside.suffixes = rw c.self.view_is at c.self.invariant.0 in
    rw s.sparse_is (sparse_behind s c.args.node (omega (arith, c.requires)))

pub lead-requires : goal.lead-requires
lead-requires g c =
    let s : AreParts c.args.self.now c.self.inside.cutoff c.self.inside.height c.self.inside.dense c.self.inside.sparse c.self.inside.suffixes = rw c.self.view_is at c.self.invariant.0 in
    first_taken s c.args.node c.first_place-place.result (behind s c.args.node c.if-has_node.ensures.has.1) c.requires (c.first_place-place.ensures ∙ ap (λ (h : Half). begin_of h c.args.node) s.sparse_is)

pub returns-else-has_node : goal.returns-else-has_node
returns-else-has_node g c =
    let s : AreParts c.args.self.now c.self.inside.cutoff c.self.inside.height c.self.inside.dense c.self.inside.sparse c.self.inside.suffixes = rw c.self.view_is at c.self.invariant.0 in
    subst (λ (n : ℕ). IsLead (trie c.args.self.now) n c.lead.result) (ap (λ (k : ℕ). length (all (upper c.args.self.now.cutoff c.args.self.now.leaves)) + k) (c.first_place-place.ensures ∙ ap (λ (h : Half). begin_of h c.args.node) s.sparse_is) ∙ sparse_begins s c.args.node (behind s c.args.node c.if-has_node.ensures.has.1)) c.lead.ensures.lead
