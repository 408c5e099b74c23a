-- The next opening bit behind a node's first label is where the next node begins.
use Rattle.std.proofs.Common.{◌≡◌, ℕ, ◌+◌, ◌<◌, ◌∙◌, sym, ap, subst, arith, length, Bool, List, inl, inr}
use Rattle.std.specs.Prelude.{count_by}
use Rattle.std.specs.Slice.Scan.{HoldsNowhere}
use Rattle.std.proofs.lemmas.Bool.{cases_lt, cases_order, false≢true}
use Rattle.std.proofs.lemmas.List.{take_all}
use Rattle.bit_select.specs.Place.{IsPlaceOfOne}
use Rattle.bit_words.specs.Counts.{is_set_at}
use Rattle.lane_scan.specs.Places.{IsFirstBetween}
use Rattle.filter_codec.proofs.Shapes.{next_place, some_branch}
use Rattle.filter_codec.proofs.Trees.{labels_count, openings}
use Rattle.filter_codec.specs.Tree.{AreSparse}
use Rattle.filter_model.specs.Nodes.{Node, all, first_place}
use Rattle.louds_dense.proofs.Ranks.{node_within}
use Rattle.trie_laws.proofs.Louds.{first_by_None, louds_first, nth_below, set_within}

module _ {labels : List ℕ} {children louds : List Bool} {ss : List Node} (s : AreSparse labels children louds ss) where
  first_there : (v : ℕ) → v < length ss → IsPlaceOfOne louds v (first_place ss v)
  first_there v lt = subst (λ (l : List Bool). IsPlaceOfOne l v (first_place ss v)) (sym s.louds_are) (louds_first ss v s.nodes lt)

  -- a node's labels are some, and within all
  pub begin_within : (v start : ℕ) → v < length ss → start ≡ first_place ss v → start < length (all ss)
  begin_within v start lt e = omega (arith, e, next_place ss v lt, some_branch s v lt, node_within ss (v + 1) (omega (arith, lt)))

  module _ (v : ℕ) (lt : v < length ss) where
    own_bit : IsPlaceOfOne louds v (first_place ss v)
    own_bit = first_there v lt

    some : first_place ss v < first_place ss (v + 1)
    some = omega (arith, next_place ss v lt, some_branch s v lt)

    pub next_found : (p : ℕ) → IsFirstBetween (is_set_at louds) (first_place ss v + 1) (length louds) p → p ≡ first_place ss (v + 1)
    next_found p at =
        let up = nth_below louds (first_place ss v) p (omega (arith, at.from)) (omega (arith, at.below)) own_bit.is_set in
        let more = nth_below louds p (length louds) at.below (omega arith) at.passes in
        let all_of = ap (count_by (λ (b : Bool). b)) (take_all (length louds) louds (omega arith)) in
        let next = first_there (v + 1) (omega (arith, up, more, all_of, openings s, own_bit.before)) in
        elim (cases_order p (first_place ss (v + 1))) [
          | inl same ↦ same
          | inr apart ↦ elim apart [
            | inl before ↦ absurd (omega (arith, up, own_bit.before, next.before, nth_below louds p (first_place ss (v + 1)) before (omega (arith, set_within louds (first_place ss (v + 1)) next.is_set)) at.passes))
            | inr behind ↦ absurd (false≢true (sym (at.before (first_place ss (v + 1)) (omega (arith, some)) behind) ∙ next.is_set))
          ]
        ]

    pub next_end : HoldsNowhere (is_set_at louds) (first_place ss v + 1) (length louds) → length labels ≡ first_place ss (v + 1)
    next_end none = elim (cases_lt (v + 1) (length ss)) [
      | inl more ↦
          let next = first_there (v + 1) more in
          absurd (false≢true (sym (none (first_place ss (v + 1)) (omega (arith, some)) (set_within louds (first_place ss (v + 1)) next.is_set)) ∙ next.is_set))
      | inr last ↦
          labels_count s ∙ first_by_None ss (v + 1) s.nodes (omega (arith, lt)) (omega (arith, last, ap (count_by (λ (b : Bool). b)) (sym s.louds_are), openings s))
    ]
