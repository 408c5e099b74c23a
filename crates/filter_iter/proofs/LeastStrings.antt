-- The least string that fits the leaf of a number.
use Rattle.std.proofs.Common.{◌≡◌, ℕ, ◌-◌, ◌*◌, ◌^◌, ◌<◌, ◌≤◌, Bool, true, false, cond, Option, List, [], ◌∷◌, ◌++◌, length, get_or, nat_lt, lt-ltb, refl, ap, subst, sym, ◌∙◌, arith}
use Rattle.std.specs.Prelude.{IfSome, ◌==◌, filter, map, slice_get}
use Rattle.std.proofs.lemmas.Bool.{cond-false, cond-true, eq-eqb, ne_eqb}
use Rattle.std.proofs.lemmas.List.{append-nil, get_or-map, get_or_push, length-append}
use Rattle.std.proofs.lemmas.List.Elements.{filter-append}
use Rattle.std.proofs.lemmas.Option.{slice_get-get_or}
use Rattle.byte_fields.specs.Spelling.{IsBytes}
use Rattle.filter_image_model.proofs.Sizes.{low_height}
use Rattle.filter_iter.proofs.MetLeaves.{own_suffix}
use Rattle.filter_iter.proofs.WayLists.{length-letters}
use Rattle.filter_iter.specs.Borders.{real_at}
use Rattle.filter_iter.specs.CursorPath.{IsWayTo, letters_of, bytes_of_way}
use Rattle.filter_iter.specs.declared.parts.Pass.{Pass}
use Rattle.filter_model.proofs.Fronts.{IsBytes-tail}
use Rattle.filter_model.specs.Answers.{begins}
use Rattle.filter_model.specs.Image.{in_slots}
use Rattle.filter_model.specs.Leaves.{Leaf}
use Rattle.filter_model.specs.Nodes.{last_letter}
use Rattle.filter_model.specs.Strings.{shortest}
use Rattle.filter_model.specs.Trie.{END, path}
use Rattle.filter_model.specs.Valid.{IsLeaf, IsLeafList}
use Rattle.key_base.specs.Limits.{max_key_bytes}
use Rattle.suffix_bits.specs.Slots.{Suffix, leaf_suffix}
use Rattle.trie_laws.proofs.Paths.{any_leaf, path_high}
use Rattle.trie_levels.proofs.Totals.{valid_lists_have_tries}

-- the bytes among letters
bytes_all : (x : List ℕ) → IsBytes x → filter (λ c. nat_lt c 256) x ≡ x
bytes_all [] w = refl
bytes_all (a ∷ x) w =
    ap (λ (b : Bool). cond b (a ∷ filter (λ c. nat_lt c 256) x) (filter (λ c. nat_lt c 256) x)) (lt-ltb a 256 (w 0)) ∙ ap (λ (y : List ℕ). a ∷ y) (bytes_all x (IsBytes-tail a x w))

end_none : (e : Bool) → filter (λ c. nat_lt c 256) (cond e (END ∷ []) []) ≡ []
end_none true = refl
end_none false = refl

last_is : (stub : List ℕ) (ends : Bool) → IsBytes stub → (last_letter (stub ++ cond ends (END ∷ []) []) == END) ≡ ends
last_is stub true w =
    let many : length (stub ++ END ∷ []) - 1 ≡ length stub = omega (arith, length-append stub (END ∷ [])) in
    eq-eqb (last_letter (stub ++ END ∷ [])) END (ap (λ (k : ℕ). get_or (stub ++ END ∷ []) k 0) many ∙ get_or_push stub END 0 (length stub) refl)
last_is stub false w =
    ap (λ (q : List ℕ). last_letter q == END) (append-nil stub) ∙ ne_eqb (last_letter stub) END (λ e. omega (arith, e, w (length stub - 1)))

module _ (hash_bits n : ℕ) (ls : List Leaf) (valid : IsLeafList hash_bits n ls) (i slot : ℕ) (way : List Pass) (to : IsWayTo ls i slot way) where
  abbrev leaf : Leaf
  leaf = get_or ls i any_leaf

  is_leaf : IsLeaf hash_bits n leaf
  is_leaf = valid.leaves i any_leaf to.within

  own_path : path leaf ≡ letters_of way
  own_path = sym (get_or-map path ls i any_leaf [] to.within) ∙ to.path_is

  stub_is : bytes_of_way way ≡ leaf.stub
  unfolding path
  stub_is =
      ap (filter (λ c. nat_lt c 256)) (sym own_path) ∙ filter-append (λ c. nat_lt c 256) leaf.stub (cond leaf.ends (END ∷ []) []) ∙ (λ j. bytes_all leaf.stub is_leaf.stub.bytes j ++ end_none leaf.ends j)
      ∙ append-nil leaf.stub

  real_is : real_at ls slot ≡ leaf.real
  real_is = ap (λ (s : Suffix). s.1) (own_suffix ls slot i (valid_lists_have_tries hash_bits n ls valid) to.slot_is.within to.within (own_path ∙ sym to.slot_is.is))

  pub real_small : real_at ls slot < 2 ^ n
  real_small = omega (arith, real_is, is_leaf.real_fits)

  -- no more letters than a key has bytes
  pub way_short : length way ≤ max_key_bytes
  way_short =
      omega (arith, length-letters way, ap (λ (q : List ℕ). length q) own_path, path_high ls i any_leaf to.within, low_height hash_bits n ls valid)

  at_leaf : (P : Leaf → Type 0) → P leaf → IfSome (slice_get ls i) P
  at_leaf P a = subst (λ (o : Option Leaf). IfSome o P) (sym (slice_get-get_or ls i any_leaf to.within)) a

  pub own_stub : (x rest : List ℕ) → x ≡ bytes_of_way way ++ rest → IfSome (slice_get ls i) (λ o. x ≡ o.stub ++ rest)
  own_stub x rest e = at_leaf (λ o. x ≡ o.stub ++ rest) (e ∙ ap (λ (s : List ℕ). s ++ rest) stub_is)

  pub own_count : (k : ℕ) → k ≡ length (bytes_of_way way) → IfSome (slice_get ls i) (λ o. k ≡ length o.stub)
  own_count k e = at_leaf (λ o. k ≡ length o.stub) (e ∙ ap (λ (s : List ℕ). length s) stub_is)

  -- its last letter says whether the leaf ends
  pub own_end : (b : Bool) → b ≡ (last_letter (letters_of way) == END) → IfSome (slice_get ls i) (λ o. b ≡ o.ends)
  unfolding path
  own_end b e = at_leaf (λ o. b ≡ o.ends) (e ∙ ap (λ (q : List ℕ). last_letter q == END) (sym own_path) ∙ last_is leaf.stub leaf.ends is_leaf.stub.bytes)

  pub own_leaf_suffix : (s : Suffix) → s ≡ get_or (map leaf_suffix (in_slots ls)) slot (0, 0) → IfSome (slice_get ls i) (λ o. s ≡ leaf_suffix o)
  own_leaf_suffix s e = at_leaf (λ o. s ≡ leaf_suffix o) (e ∙ own_suffix ls slot i (valid_lists_have_tries hash_bits n ls valid) to.slot_is.within to.within (own_path ∙ sym to.slot_is.is))

  -- a leaf that ends has no real bits
  tail_is : (ends : Bool) → leaf.ends ≡ ends → cond leaf.ends [] (shortest 4 (leaf.real * 2 ^ (32 - n))) ≡ shortest 4 (leaf.real * 2 ^ (32 - n))
  tail_is true e =
      cond-true leaf.ends [] (shortest 4 (leaf.real * 2 ^ (32 - n))) e ∙ sym (ap (λ (r : ℕ). shortest 4 (r * 2 ^ (32 - n))) (is_leaf.end_without_real e) ∙ ap (shortest 4) (nothing (2 ^ (32 - n))))
    where
      nothing : (k : ℕ) → 0 * k ≡ 0
      nothing k = omega arith
  tail_is false e = cond-false leaf.ends [] (shortest 4 (leaf.real * 2 ^ (32 - n))) e

  pub least_is : (x : List ℕ) → x ≡ bytes_of_way way ++ shortest 4 (real_at ls slot * 2 ^ (32 - n)) → IfSome (slice_get ls i) (λ o. x ≡ begins n o)
  least_is x e =
      at_leaf (λ o. x ≡ begins n o) (e ∙ (λ j. stub_is j ++ shortest 4 (real_is j * 2 ^ (32 - n))) ∙ ap (λ (t : List ℕ). leaf.stub ++ t) (sym (tail_is leaf.ends refl)))
