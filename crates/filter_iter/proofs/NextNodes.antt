-- Where the next node of the sparse half begins: at the next set bit.
use Rattle.std.proofs.Common.{◌≡◌, ℕ, ◌+◌, ◌-◌, ◌<◌, ◌≤◌, Bool, List, length, length-append, get_or, ap, sym, ◌∙◌, arith, inl, inr}
use Rattle.std.specs.Prelude.{count_by}
use Rattle.std.specs.List.{All}
use Rattle.std.specs.Slice.Scan.{HoldsNowhere}
use Rattle.std.proofs.lemmas.Bool.{cases_lt, cases_order, false≢true}
use Rattle.std.proofs.lemmas.List.{take_all}
use Rattle.std.proofs.lemmas.List.Elements.{All-drop}
use Rattle.bit_select.specs.Place.{IsPlaceOfOne}
use Rattle.bit_words.specs.Counts.{is_set_at}
use Rattle.filter_iter.proofs.Siblings.{begins_at, some_branch}
use Rattle.filter_iter.specs.LeafPlace.{BeginsNode, IsMark}
use Rattle.filter_iter.specs.declared.parts.Mark.{Mark}
use Rattle.filter_model.specs.Image.{sparse_louds}
use Rattle.filter_model.specs.Leaves.{Filter}
use Rattle.filter_model.specs.Nodes.{Node, all, first_place, trie_of}
use Rattle.filter_model.specs.Trie.{nodes, nodes_to}
use Rattle.filter_model.specs.Valid.{IsLeafList}
use Rattle.filter_trie.proofs.Parts.{length-nodes}
use Rattle.filter_trie.specs.Parts.{lower, upper}
use Rattle.lane_scan.specs.Places.{IsFirstBetween}
use Rattle.louds_dense.proofs.Ranks.{node_within}
use Rattle.trie_laws.proofs.Forms.{forms_are_sparse, trie_nodes_have_form}
use Rattle.trie_laws.proofs.Louds.{first_by_None, louds_count, louds_first, nth_below, set_within}
use Rattle.trie_laws.specs.Louds.{IsNode}
use Rattle.trie_laws.specs.Nodes.{IsTrieNode}
use Rattle.trie_levels.proofs.Totals.{valid_lists_have_tries}

-- ---- by the bits that say where nodes begin

module _ (ns : List Node) (sparse : All IsNode ns) (w : ℕ) (l : w < length ns) (up : first_place ns w < first_place ns (w + 1)) where
  abbrev louds : List Bool
  louds = sparse_louds ns

  own_bit : IsPlaceOfOne louds w (first_place ns w)
  own_bit = louds_first ns w sparse l

  next_found : (p : ℕ) → IsFirstBetween (is_set_at louds) (first_place ns w + 1) (length louds) p → p ≡ first_place ns (w + 1)
  next_found p at =
      let low = nth_below louds (first_place ns w) p (omega (arith, at.from)) (omega (arith, at.below)) own_bit.is_set in
      let more = nth_below louds p (length louds) at.below (omega arith) at.passes in
      let all_of = ap (count_by (λ (b : Bool). b)) (take_all (length louds) louds (omega arith)) in
      let next = louds_first ns (w + 1) sparse (omega (arith, low, more, all_of, louds_count ns sparse, own_bit.before)) in
      elim (cases_order p (first_place ns (w + 1))) [
        | inl same ↦ same
        | inr apart ↦ elim apart [
          | inl before ↦ absurd (omega (arith, low, own_bit.before, next.before, nth_below louds p (first_place ns (w + 1)) before (omega (arith, set_within louds (first_place ns (w + 1)) next.is_set)) at.passes))
          | inr behind ↦ absurd (false≢true (sym (at.before (first_place ns (w + 1)) (omega (arith, up)) behind) ∙ next.is_set))
        ]
      ]

  next_end : HoldsNowhere (is_set_at louds) (first_place ns w + 1) (length louds) → length (all ns) ≡ first_place ns (w + 1)
  next_end none = elim (cases_lt (w + 1) (length ns)) [
    | inl more ↦
        let next = louds_first ns (w + 1) sparse more in
        absurd (false≢true (sym (none (first_place ns (w + 1)) (omega (arith, up)) (set_within louds (first_place ns (w + 1)) next.is_set)) ∙ next.is_set))
    | inr last ↦ first_by_None ns (w + 1) sparse (omega (arith, l)) (omega (arith, last, louds_count ns sparse))
  ]

-- ---- in a trie

module _ (hash_bits real_bits : ℕ) (i : Filter) (valid : IsLeafList hash_bits real_bits i.leaves) (m : Mark) (to : m.node < length (nodes i.leaves)) (is : IsMark i m) where
  abbrev ds : List Node
  ds = upper i.cutoff i.leaves

  abbrev ss : List Node
  ss = lower i.cutoff i.leaves

  abbrev w : ℕ
  w = m.node - length ds

  sparse_form : All IsNode ss
  sparse_form k d h = forms_are_sparse (get_or ss k d) (All-drop IsTrieNode (length (nodes_to i.leaves i.cutoff)) (trie_of i.leaves) (trie_nodes_have_form i.leaves (valid_lists_have_tries hash_bits real_bits i.leaves valid)) k d h)

  in_ss : w < length ss
  in_ss = omega (arith, is.sparse, to, length-nodes i, length-append ds ss)

  pub begins_here : m.place ≡ first_place ss w
  begins_here = omega (arith, is.begin, begins_at i m.node is.sparse)

  there : length (all ds) + first_place ss (w + 1) ≡ first_place (trie_of i.leaves) (m.node + 1)
  there =
      let e : w + 1 ≡ m.node + 1 - length ds = omega (arith, is.sparse) in
      ap (λ (k : ℕ). length (all ds) + first_place ss k) e ∙ begins_at i (m.node + 1) (omega (arith, is.sparse))

  up : first_place ss w < first_place ss (w + 1)
  up = omega (arith, begins_here, is.begin, there, some_branch hash_bits real_bits i.leaves valid m.node to)

  inside : first_place ss (w + 1) ≤ length (all ss)
  inside = node_within ss (w + 1) (omega (arith, in_ss))

  pub mark_within : m.place < length (all ss)
  mark_within = omega (arith, begins_here, up, inside)

  ended : (e : ℕ) → e ≡ first_place ss (w + 1) → BeginsNode i m.node (record { place = m.place; end = e; below = m.below })
  ended e f = record {
    sparse = is.sparse;
    begin = is.begin;
    end = omega (arith, f, there);
    spot = record { taken = omega (arith, f, begins_here, up); within = omega (arith, f, inside); below = is.below };
  }

  pub marked_found : (bits : List Bool) → bits ≡ sparse_louds ss → (p : ℕ) → IsFirstBetween (is_set_at bits) (m.place + 1) (length bits) p → BeginsNode i m.node (record { place = m.place; end = p; below = m.below })
  marked_found bits e p at = ended p (next_found ss sparse_form w in_ss up p (rw (e, begins_here) at at))

  pub marked_end : (bits : List Bool) → bits ≡ sparse_louds ss → HoldsNowhere (is_set_at bits) (m.place + 1) (length bits) → (p : ℕ) → p ≡ length (all ss) → BeginsNode i m.node (record { place = m.place; end = p; below = m.below })
  marked_end bits e none p f = ended p (f ∙ next_end ss sparse_form w in_ss up (rw (e, begins_here) at none))
