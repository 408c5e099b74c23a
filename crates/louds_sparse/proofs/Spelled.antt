-- What the sections say of the half that they spell.
use Rattle.std.proofs.Common.{◌≡◌, ℕ, suc, ◌+◌, ◌-◌, ◌<◌, ◌≤◌, ◌==◌, Bool, true, false, cond, List, [], ◌∷◌, length, get_or, take, refl, ap, subst, sym, ◌∙◌, arith, inl, inr, length-append, nat_lt}
use Rattle.std.specs.Prelude.{count_by, not, ◌&&◌}
use Rattle.std.specs.List.{All}
use Rattle.std.proofs.lemmas.Bool.{cases_lt, cases_order, false≢true}
use Rattle.std.proofs.lemmas.List.{append-nil, get_or-map, length-map, length-take-le, take-map, take_all, take_more}
use Rattle.std.proofs.lemmas.List.Concat.{flat_map-append, get_or-flat_map}
use Rattle.std.proofs.lemmas.List.Elements.{All-weaker}
use Rattle.std.proofs.lemmas.List.Folds.{length-flat_map-take}
use Rattle.std.proofs.lemmas.List.Sums.{sum_by-cons}
use Rattle.std.specs.Slice.Scan.{HoldsNowhere}
use Rattle.bit_select.specs.Place.{IsPlaceOfOne}
use Rattle.bit_words.specs.Counts.{is_set_at}
use Rattle.lane_scan.specs.Places.{IsFirstBetween}
use Rattle.filter_model.specs.Image.{has_letter, label_of}
use Rattle.filter_model.specs.Nodes.{Branch, Node, all, at, children_before, first_place, leaves_before}
use Rattle.filter_model.specs.Trie.{END}
use Rattle.louds_sparse.specs.Spelling.{IsSpelled}
use Rattle.louds_sparse.proofs.Branches.{nth, opens_is}
use Rattle.trie_laws.specs.Louds.{IsNode}
use Rattle.trie_laws.specs.Nodes.{IsTrieNode}
use Rattle.trie_laws.proofs.Forms.{forms_are_sparse}
use Rattle.trie_laws.proofs.Louds.{first_by_None, first_by_Some, length-le-all, louds_count, louds_first, nth_below, set_within}
use Rattle.trie_laws.proofs.Places.{count_by-map}
use Rattle.trie_model.specs.Halves.{Half, HasNode, begin_of, node_at, places_in}
use Rattle.trie_model.specs.declared.parts.Before.{Before}

both_counts : {X : Type 0} (p : X → Bool) (xs : List X) → count_by p xs + count_by (λ x. not (p x)) xs ≡ length xs
both_counts p [] = refl
both_counts p (x ∷ xs) =
    let a = sum_by-cons (λ y. cond (p y) 1 0) x xs in
    let b = sum_by-cons (λ y. cond (not (p y)) 1 0) x xs in
    let ih = both_counts p xs in
    rw (a, b) (both_step (p x) (count_by p xs) (count_by (λ y. not (p y)) xs) (length xs) ih)
  where
    both_step : (b : Bool) (m n k : ℕ) → m + n ≡ k → (cond b 1 0 + m) + (cond (not b) 1 0 + n) ≡ suc k
    both_step true m n k e = omega arith
    both_step false m n k e = omega arith

module _ {before : Before} {labels : List ℕ} {children louds : List Bool} {h : Half} (s : IsSpelled before labels children louds h) where
  pub length_labels : length labels ≡ places_in h
  length_labels = rw s.labels_are (length-map (all h.nodes) (λ (b : Branch). label_of b.0))

  -- a node's number in the half, by the counts that the sections keep
  pub number_is : (v : ℕ) → v - before.nodes ≡ v - h.before.nodes
  number_is v = ap (λ (b : Before). v - b.nodes) s.before_is

  pub length_children : length children ≡ places_in h
  length_children = rw s.children_are (length-map (all h.nodes) (λ (b : Branch). b.1))

  sparse : All IsNode h.nodes
  sparse = All-weaker IsTrieNode IsNode forms_are_sparse h.nodes s.nodes

  pub first_found : (v p : ℕ) → v ≤ length h.nodes → IsPlaceOfOne louds v p → p ≡ first_place h.nodes v
  first_found v p l w = first_by_Some h.nodes v p sparse l (rw s.louds_are at w)

  pub set_bits : count_by (λ (b : Bool). b) louds ≡ length h.nodes
  set_bits = ap (count_by (λ (b : Bool). b)) s.louds_are ∙ louds_count h.nodes sparse

  -- there is a set bit for each node
  pub first_there : (v : ℕ) → v < length h.nodes → IsPlaceOfOne louds v (first_place h.nodes v)
  first_there v l = rw s.louds_are (louds_first h.nodes v sparse l)

  -- behind the last of them the half ends
  pub behind_last : (v : ℕ) → v ≤ length h.nodes → count_by (λ (b : Bool). b) louds ≤ v → length labels ≡ first_place h.nodes v
  behind_last v l none = length_labels ∙ first_by_None h.nodes v sparse l (rw s.louds_are at none)

  pub few_nodes : length h.nodes ≤ length labels
  few_nodes = let l = length-le-all h.nodes sparse in omega (arith, l, length_labels)

  pub child_bit : (p : ℕ) (d : Bool) → p < places_in h → get_or children p d ≡ (at h.nodes p).1
  child_bit p d l = rw s.children_are (get_or-map (λ (b : Branch). b.1) (all h.nodes) p (0, false) d l)

  pub children_counted : (p : ℕ) → count_by (λ (b : Bool). b) (take p children) ≡ children_before h.nodes p
  children_counted p = rw s.children_are (ap (count_by (λ (b : Bool). b)) (take-map (λ (b : Branch). b.1) p (all h.nodes)) ∙ count_by-map (λ (b : Bool). b) (λ (b : Branch). b.1) (take p (all h.nodes)))

  pub counts_add : (p : ℕ) → p ≤ places_in h → children_before h.nodes p + leaves_before h.nodes p ≡ p
  counts_add p l = both_counts (λ (b : Branch). b.1) (take p (all h.nodes)) ∙ length-take-le p (all h.nodes) l

  pub label_at : (p d : ℕ) → p < places_in h → get_or labels p d ≡ label_of (at h.nodes p).0
  label_at p d l = rw s.labels_are (get_or-map (λ (b : Branch). label_of b.0) (all h.nodes) p (0, false) d l)

  -- ---- one node, by its number in the half

  first_next : (v : ℕ) → v < length h.nodes → first_place h.nodes (v + 1) ≡ first_place h.nodes v + length (get_or h.nodes v [])
  first_next v l =
      ap (λ ms. length (all ms)) (take_more h.nodes v [] l)
      ∙ ap length (flat_map-append (λ (n : Node). n) (take v h.nodes) (get_or h.nodes v [] ∷ []))
      ∙ length-append (all (take v h.nodes)) _
      ∙ ap (λ (n : Node). first_place h.nodes v + length n) (append-nil (get_or h.nodes v []))

  at_in : (v j : ℕ) → v < length h.nodes → j < length (get_or h.nodes v []) → at h.nodes (first_place h.nodes v + j) ≡ nth (get_or h.nodes v []) j
  at_in v j l m = get_or-flat_map (λ (n : Node). n) h.nodes v j [] (0, false) l m

  range_within : (v : ℕ) → v < length h.nodes → first_place h.nodes (v + 1) ≤ places_in h
  range_within v l = let w = length-flat_map-take (λ (n : Node). n) h.nodes v [] l in omega (arith, w, first_next v l)

  -- ---- one node, by its number in the trie

  module _ (v : ℕ) (in' : HasNode h v) where
    pub number_in : v - h.before.nodes < length h.nodes
    number_in = omega (arith, in'.0, in'.1)

    pub next_begin : v - before.nodes + 1 ≡ v + 1 - h.before.nodes
    next_begin = omega (arith, number_is v, in'.0)

    pub form : IsTrieNode (node_at h v)
    form = s.nodes (v - h.before.nodes) [] number_in

    next_number : v + 1 - h.before.nodes ≡ v - h.before.nodes + 1
    next_number = omega (arith, in'.0)

    pub range_is : begin_of h (v + 1) ≡ begin_of h v + length (node_at h v)
    range_is = ap (first_place h.nodes) next_number ∙ first_next (v - h.before.nodes) number_in

    pub node_within : begin_of h (v + 1) ≤ places_in h
    node_within = omega (arith, ap (first_place h.nodes) next_number, range_within (v - h.before.nodes) number_in)

    pub node_some : begin_of h v < begin_of h (v + 1)
    node_some = omega (arith, range_is, form.filled)

    pub label_in : (j : ℕ) → j < length (node_at h v) → get_or labels (begin_of h v + j) 0 ≡ label_of (nth (node_at h v) j).0
    label_in j l = label_at (begin_of h v + j) 0 (omega (arith, l, range_is, node_within)) ∙ ap (λ (b : Branch). label_of b.0) (at_in (v - h.before.nodes) j number_in l)

    -- the labels open with END where it is a branch
    pub end_opens : (nat_lt 1 (begin_of h (v + 1) - begin_of h v) && (get_or labels (begin_of h v) 0 == 255)) ≡ has_letter (node_at h v) END
    end_opens =
        (λ i. nat_lt 1 (long i) && (read i == 255)) ∙ opens_is (node_at h v) form
      where
        long : begin_of h (v + 1) - begin_of h v ≡ length (node_at h v)
        long = omega (arith, range_is)

        read : get_or labels (begin_of h v) 0 ≡ label_of (nth (node_at h v) 0).0
        read = ap (λ (p : ℕ). get_or labels p 0) (plus_zero (begin_of h v)) ∙ label_in 0 form.filled
          where
            plus_zero : (p : ℕ) → p ≡ p + 0
            plus_zero p = omega arith

    -- the next set bit is where the next node begins, and behind the last node's first bit none is set
    next_begin_is : begin_of h (v + 1) ≡ first_place h.nodes (v - h.before.nodes + 1)
    next_begin_is = ap (first_place h.nodes) next_number

    own_bit : IsPlaceOfOne louds (v - h.before.nodes) (begin_of h v)
    own_bit = first_there (v - h.before.nodes) number_in

    next_bit : v - h.before.nodes + 1 < length h.nodes → IsPlaceOfOne louds (v - h.before.nodes + 1) (begin_of h (v + 1))
    next_bit l = subst (IsPlaceOfOne louds (v - h.before.nodes + 1)) (sym next_begin_is) (first_there (v - h.before.nodes + 1) l)

    pub next_found : (p : ℕ) → IsFirstBetween (is_set_at louds) (begin_of h v + 1) (length louds) p → p ≡ begin_of h (v + 1)
    next_found p at =
        let up = nth_below louds (begin_of h v) p (omega (arith, at.from)) (omega (arith, at.below)) own_bit.is_set in
        let more = nth_below louds p (length louds) at.below (omega arith) at.passes in
        let all_of = ap (count_by (λ (b : Bool). b)) (take_all (length louds) louds (omega arith)) in
        let next = next_bit (omega (arith, up, more, all_of, set_bits, own_bit.before)) in
        elim (cases_order p (begin_of h (v + 1))) [
          | inl same ↦ same
          | inr apart ↦ elim apart [
            | inl before ↦ absurd (omega (arith, up, own_bit.before, next.before, nth_below louds p (begin_of h (v + 1)) before (omega (arith, set_within louds (begin_of h (v + 1)) next.is_set)) at.passes))
            | inr behind ↦ absurd (false≢true (sym (at.before (begin_of h (v + 1)) (omega (arith, node_some)) behind) ∙ next.is_set))
          ]
        ]

    pub next_end : HoldsNowhere (is_set_at louds) (begin_of h v + 1) (length louds) → length labels ≡ begin_of h (v + 1)
    next_end none = elim (cases_lt (v - h.before.nodes + 1) (length h.nodes)) [
      | inl more ↦
          let next = next_bit more in
          absurd (false≢true (sym (none (begin_of h (v + 1)) (omega (arith, node_some)) (set_within louds (begin_of h (v + 1)) next.is_set)) ∙ next.is_set))
      | inr last ↦
          length_labels
          ∙ first_by_None h.nodes (v - h.before.nodes + 1) sparse (omega (arith, number_in)) (omega (arith, last, louds_count h.nodes sparse))
          ∙ sym next_begin_is
    ]
