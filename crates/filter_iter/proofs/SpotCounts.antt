-- Places of the sparse half: where the branch there leads, by a count of the nodes below.
use Rattle.std.proofs.Common.{◌≡◌, ℕ, ◌+◌, ◌-◌, ◌^◌, ◌<◌, ◌≤◌, Bool, true, false, cond, Some, List, [], ◌∷◌, length, length-append, take, ap, sym, ◌∙◌, arith}
use Rattle.std.specs.Prelude.{count_by, is_some}
use Rattle.std.proofs.lemmas.List.{take_more}
use Rattle.std.proofs.lemmas.List.Concat.{flat_map-append}
use Rattle.std.proofs.lemmas.List.Sums.{sum_by-append}
use Rattle.filter_image_model.proofs.Sizes.{some_height}
use Rattle.filter_iter.proofs.Starts.{node_fits}
use Rattle.filter_iter.proofs.Turns.{child_if, leads_bit, no_child_if}
use Rattle.filter_iter.specs.LeafPlace.{below_place}
use Rattle.filter_iter.specs.CursorPath.{IsLeadAt}
use Rattle.filter_iter.specs.declared.parts.Lead.TheVariants as lead
use Rattle.filter_model.specs.Leaves.{Filter}
use Rattle.filter_model.specs.Nodes.{Branch, Node, all, at, children_before, leaves_before, trie_of}
use Rattle.filter_model.specs.Valid.{IsLeafList}
use Rattle.filter_trie.proofs.LevelStarts.{counts_add, nodes_within, slots_within}
use Rattle.filter_trie.proofs.Parts.{joined}
use Rattle.filter_trie.specs.Parts.{lower, upper}
use Rattle.filter_trie.specs.Places.{trie as trie_in}
use Rattle.louds_dense.proofs.Nodes.{count-cons}
use Rattle.trie_laws.proofs.Joining.{second_half_counts_on}
use Rattle.trie_levels.proofs.Totals.{valid_lists_have_tries}
use Rattle.trie_model.specs.Halves.{child_at, first_below, slot_at, whole}

more_below : (ns : List Node) (n : ℕ) → n < length (all ns) → first_below (whole ns) (n + 1) ≡ first_below (whole ns) n + cond (at ns n).1 1 0
more_below ns n l =
    let more : children_before ns (n + 1) ≡ children_before ns n + count_by (λ (b : Branch). b.1) (at ns n ∷ []) =
    ap (count_by (λ (b : Branch). b.1)) (take_more (all ns) n (0, false) l) ∙ sum_by-append (λ (b : Branch). cond b.1 1 0) (take n (all ns)) (at ns n ∷ [])
    in omega (arith, more, count-cons (λ (b : Branch). b.1) (at ns n) [])

module _ (i : Filter) where
  abbrev ds : List Node
  ds = upper i.cutoff i.leaves

  abbrev ss : List Node
  ss = lower i.cutoff i.leaves

  abbrev number : ℕ → ℕ
  number p = length (all ds) + p

  in_all : (p : ℕ) → p < length (all ss) → number p < length (all (trie_of i.leaves))
  in_all p l = omega (arith, l, ap (λ (ns : List Node). length (all ns)) (joined i), ap (λ (bs : List Branch). length bs) (flat_map-append (λ (n : Node). n) ds ss), length-append (all ds) (all ss))

  pub below_more : (p : ℕ) → p < length (all ss) → below_place i (p + 1) ≡ below_place i p + cond (is_some (child_at (trie_in i) (number p))) 1 0
  below_more p l =
      let next : number (p + 1) ≡ number p + 1 = omega arith in
      ap (first_below (trie_in i)) next ∙ more_below (trie_of i.leaves) (number p) (in_all p l)
      ∙ ap (λ (b : Bool). below_place i p + cond b 1 0) (sym (leads_bit (trie_in i) (number p)))

  below_half : (p : ℕ) → children_before ds (length (all ds)) + children_before ss p + 1 ≡ below_place i p
  below_half p = (second_half_counts_on ds ss p).below ∙ ap (λ (ns : List Node). first_below (whole ns) (number p)) (joined i)

  slot_half : (p : ℕ) → leaves_before ds (length (all ds)) + leaves_before ss p ≡ slot_at (trie_in i) (number p)
  slot_half p = (second_half_counts_on ds ss p).slot ∙ ap (λ (ns : List Node). slot_at (whole ns) (number p)) (joined i)

  -- how many of the places before lead on, and how many are leaves
  pub record AreCounts (p below children slots : ℕ) : Type 0 where
    pub above : children < below
    pub leading : below - children - 1 ≤ p
    pub slot : slots + (p - (below - children - 1)) ≡ slot_at (trie_in i) (number p)

  pub counts_are : (p below children slots : ℕ) → p < length (all ss) → below ≡ below_place i p → children ≡ children_before ds (length (all ds)) → slots ≡ leaves_before ds (length (all ds)) → AreCounts p below children slots
  counts_are p below children slots l e f g =
      let add = counts_add ss p (omega (arith, l)) in
      record {
        above = omega (arith, e, f, below_half p);
        leading = omega (arith, e, f, below_half p, add);
        slot = omega (arith, e, f, g, below_half p, slot_half p, add);
      }

  pub leads_to_node : (p below : ℕ) → below ≡ below_place i p → true ≡ is_some (child_at (trie_in i) (number p)) → IsLeadAt (trie_in i) (number p) (lead.Node below)
  leads_to_node p below e on = ap Some e ∙ child_if (trie_in i) (number p) on

  pub leads_to_leaf : (p slot : ℕ) → slot ≡ slot_at (trie_in i) (number p) → false ≡ is_some (child_at (trie_in i) (number p)) → IsLeadAt (trie_in i) (number p) (lead.Leaf slot)
  leads_to_leaf p slot e off = (no_child_if (trie_in i) (number p) off, e)

  -- all of it is small
  module _ (hash_bits real_bits : ℕ) (valid : IsLeafList hash_bits real_bits i.leaves) where
    pub slot_small : (p : ℕ) → slot_at (trie_in i) (number p) ≤ length i.leaves
    slot_small p = slots_within i.leaves (number p) (valid_lists_have_tries hash_bits real_bits i.leaves valid)

    pub below_small : (p : ℕ) → below_place i p < 2 ^ 63
    below_small p = omega (arith, nodes_within i.leaves (number p) (some_height hash_bits real_bits i.leaves valid), node_fits hash_bits real_bits i.leaves valid)
