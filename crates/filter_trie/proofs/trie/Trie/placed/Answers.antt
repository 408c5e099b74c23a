use Rattle.std.proofs.Common.{◌≡◌, ℕ, ◌+◌, ◌∙◌, Option, Some, None, List, length, ap, refl}
use Rattle.std.specs.Prelude.{is_some, IfSome}
use Rattle.std.specs.Option.{option_map}
use Rattle.filter_model.specs.Leaves.{Filter}
use Rattle.filter_model.specs.Nodes.{Node, all}
use Rattle.filter_trie.proofs.Halves.{has_node}
use Rattle.filter_trie.proofs.Numbers.{sparse_below_is, sparse_branch_is, sparse_child_is, sparse_slot_is}
use Rattle.filter_trie.proofs.Walking.{there_both}
use Rattle.filter_trie.specs.Parts.{AreParts, lower, upper}
use Rattle.filter_trie.specs.Places.{StandsAt}
use Rattle.louds_sparse.specs.Leads.{StandsAt as StandsInHalf}
use Rattle.louds_sparse.specs.declared.lead.Placed.{Placed}
use Rattle.suffix_bits.specs.Slots.{SuffixArray}
use Rattle.trie_laws.specs.Halves.{second_half}
use Rattle.trie_model.specs.Halves.{Half}
use Rattle.filter_trie.proofs.trie.Trie.placed.Goals as goal

pub placed-requires : goal.placed-requires
placed-requires g c =
    let s : AreParts c.args.self.now c.self.inside.cutoff c.self.inside.height c.self.inside.dense c.self.inside.sparse c.self.inside.suffixes = rw c.self.view_is at c.self.invariant.0 in
    rw s.sparse_is (has_node (upper c.args.self.now.cutoff c.args.self.now.leaves) (lower c.args.self.now.cutoff c.args.self.now.leaves) c.args.node c.requires.behind (there_both s c.args.node c.requires.there))

mapped : (k : ℕ) (r : Option Placed) → option_map (λ at. k + at.place) r ≡ option_map (λ p. k + p) (option_map (λ (at : Placed). at.place) r)
mapped k None = refl
mapped k (Some at) = refl

pub returns-clause-place : goal.returns-clause-place
returns-clause-place g c =
    let s : AreParts c.args.self.now c.self.inside.cutoff c.self.inside.height c.self.inside.dense c.self.inside.sparse c.self.inside.suffixes = rw c.self.view_is at c.self.invariant.0 in
    mapped (length (all (upper c.args.self.now.cutoff c.args.self.now.leaves))) c.placed.result
    ∙ sparse_branch_is s (option_map (λ (at : Placed). at.place) c.placed.result) c.args.node c.args.byte c.requires.behind (rw s.sparse_is at c.placed.ensures.place)

module _ {i : Filter} {cutoff levels : ℕ} {dense : List Node} {sparse : Half} {array : SuffixArray} (s : AreParts i cutoff levels dense sparse array) where
  lifted : (r : Option Placed) → IfSome r (StandsInHalf (second_half (upper i.cutoff i.leaves) (lower i.cutoff i.leaves))) → IfSome r (StandsAt i)
  lifted None h = h
  lifted (Some at) h = record {
    taken = h.within;
    slots = h.slots ∙ sparse_slot_is s at.place;
    below = h.below ∙ sparse_below_is s at.place;
    leads = h.leads ∙ ap is_some (sparse_child_is s at.place);
  }

pub returns-clause-stands : goal.returns-clause-stands
returns-clause-stands g c =
    let s : AreParts c.args.self.now c.self.inside.cutoff c.self.inside.height c.self.inside.dense c.self.inside.sparse c.self.inside.suffixes = rw c.self.view_is at c.self.invariant.0 in
    lifted s c.placed.result (rw s.sparse_is at c.placed.ensures.stands)
