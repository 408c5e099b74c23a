-- Branches that lead to a node, counted by words along with the nodes.
use Rattle.std.proofs.Common.{◌≡◌, ℕ, suc, ◌+◌, ◌*◌, ◌/◌, ◌%◌, ◌<◌, ◌≤◌, ◌^◌, Bool, true, false, List, [], ◌∷◌, length, map, refl, ap, sym, ◌∙◌, arith, inl, inr, length-append}
use Rattle.std.proofs.lemmas.Bool.{cases_lt}
use Rattle.std.proofs.lemmas.List.{length-map, take_all}
use Rattle.std.proofs.lemmas.List.Folds.{length-flat_map-take}
use Rattle.bit_model.specs.Packed.{packed}
use Rattle.bit_select.specs.Place.{ones_to}
use Rattle.bit_words.proofs.Counting.{ones_in_word, ones_in_words, rank-add}
use Rattle.bit_words.proofs.Packing.{length-packed}
use Rattle.bit_words.specs.Counts.{rank_of}
use Rattle.filter_model.specs.Image.{opening, sparse_louds}
use Rattle.filter_model.specs.Nodes.{Branch, Node, all, first_place}
use Rattle.louds_sparse.proofs.Spelled.{length_children}
use Rattle.louds_sparse.specs.Spelling.{IsSpelled}
use Rattle.std.specs.Int.{div_ceil}
use Rattle.trie_model.specs.Halves.{Half, places_in}
use Rattle.trie_model.specs.declared.parts.Before.{Before}

-- the set bits of the words of a list before a place are those of the list
pub ones_are : (bits : List Bool) (words : List ℕ) (place : ℕ) → words ≡ packed 64 bits → ones_to words place ≡ rank_of bits place
ones_are bits words place held =
    let part : 64 * (place / 64) + place % 64 ≡ place = omega arith in
    omega (
      arith,
      ones_in_words bits words (place / 64) held,
      ones_in_word bits words (place / 64) (place % 64) held (omega arith),
      rank-add bits (64 * (place / 64)) (place % 64),
      ap (rank_of bits) part,
    )

opening_long : (n : Node) → length (opening n) ≡ length n
opening_long [] = refl
opening_long (b ∷ n) = ap suc (length-map n (λ (x : Branch). false))

louds_long : (ns : List Node) → length (sparse_louds ns) ≡ length (all ns)
louds_long [] = refl
louds_long (n ∷ ns) = omega (arith, length-append (opening n) (sparse_louds ns), length-append n (all ns), opening_long n, louds_long ns)

module _ {before : Before} {labels : List ℕ} {children louds : List Bool} {h : Half} (s : IsSpelled before labels children louds h) where
  pub length_louds : length louds ≡ places_in h
  length_louds = ap length s.louds_are ∙ louds_long h.nodes

  pub same_words : length (packed 64 children) ≡ length (packed 64 louds)
  same_words = length-packed 64 children ∙ ap (λ (n : ℕ). div_ceil n 64) (length_children s ∙ sym length_louds) ∙ sym (length-packed 64 louds)

  -- a node, or the end of all, begins at a place or behind the last
  pub place_within : (v : ℕ) → v ≤ length h.nodes → first_place h.nodes v ≤ places_in h
  place_within v l = elim (cases_lt v (length h.nodes)) [
    | inl less ↦ omega (arith, length-flat_map-take (λ (n : Node). n) h.nodes v [] less)
    | inr whole ↦ omega (arith, ap (λ (ns : List Node). length (all ns)) (take_all v h.nodes whole))
  ]
