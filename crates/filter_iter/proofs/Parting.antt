-- The bounds of a range together.
use Rattle.std.proofs.Common.{◌≡◌, ℕ, ◌+◌, ◌<◌, ◌≤◌, Bool, true, false, cond, Option, Some, None, List, [], ◌∷◌, ◌++◌, length, get_or, take, refl, ap, subst, sym, ◌∙◌, arith, inl, inr, nat_lt, le-ltb, lt-ltb}
use Rattle.std.specs.Prelude.{not, ◌&&◌, ◌||◌}
use Rattle.std.proofs.lemmas.Bool.{cases_lt}
use Rattle.std.proofs.lemmas.List.{take_all, take_more}
use Rattle.byte_fields.specs.Spelling.{IsBytes}
use Rattle.filter_iter.proofs.Branching.{by_letter, by_low, by_nought, by_up, first_end}
use Rattle.filter_iter.proofs.Cuts.{ranged_is}
use Rattle.filter_iter.proofs.Cutting.{begun_high, begun_low, begun_some, past_high, past_low, past_some, taken_up}
use Rattle.filter_iter.proofs.MetLeaves.{none_begun, none_past, some_begun, some_past}
use Rattle.filter_iter.proofs.Sides.{both_ones, end_none, end_past, end_some, met_at, slot_one}
use Rattle.filter_iter.specs.Between.{LeadsAlong, TellsFrom, TellsTo}
use Rattle.filter_iter.specs.Borders.{reached_begun, reached_past}
use Rattle.filter_iter.specs.Cuts.{FirstPass, has_begun}
use Rattle.filter_iter.specs.CursorPath.{leaves_before_byte, leaves_to}
use Rattle.filter_iter.specs.declared.parts.Lead.TheVariants as lead
use Rattle.filter_iter.specs.declared.parts.Reached.{Reached}
use Rattle.filter_model.specs.Answers.{is_past, ranged}
use Rattle.filter_model.specs.Leaves.{Leaf}
use Rattle.filter_model.specs.Nodes.{trie_of}
use Rattle.filter_model.specs.Trie.{END, nodes}
use Rattle.filter_model.specs.Valid.{IsLeafList}
use Rattle.filter_trie.proofs.Finding.{searches_find}
use Rattle.filter_trie.specs.Walks.{IsNodeAt}
use Rattle.trie_laws.proofs.Forms.{order-byte}
use Rattle.trie_levels.proofs.Totals.{valid_lists_have_tries}
use Rattle.trie_model.specs.Halves.{end_slot, whole}
use Rattle.trie_model.specs.Letters.{order_of}
use Rattle.trie_model.specs.Rests.{first_leaf}

either : (k m u : ℕ) (a b : Bool) → k ≤ m → m ≤ u → a ≡ nat_lt k m → b ≡ nat_lt m u → (a || b) ≡ nat_lt k u
either k m u a b l h e f = elim (cases_lt k m) [
  | inl less ↦ ap (λ (t : Bool). t || b) (e ∙ lt-ltb k m less) ∙ sym (lt-ltb k u (omega (arith, less, h)))
  | inr more ↦
      let is : k ≡ m = omega (arith, l, more) in
      ap (λ (t : Bool). t || b) (e ∙ le-ltb k m more) ∙ f ∙ ap (λ (x : ℕ). nat_lt x u) (sym is)
]

module _ (hash_bits n : ℕ) (ls : List Leaf) (valid : IsLeafList hash_bits n ls) (nh : n ≤ 32) (lo hi : List ℕ) (wl : IsBytes lo) (wh : IsBytes hi) where
  -- ---- where both lead alike

  pub shared_none : (d : ℕ) → take d lo ≡ take d hi → LeadsAlong ls lo d None → LeadsAlong ls hi d None → false ≡ ranged n ls lo hi
  shared_none d same a b =
      let here : first_leaf ls lo ≡ first_leaf ls hi = a.1 ∙ ap (first_leaf ls) same ∙ sym b.1 in
      sym (le-ltb (first_leaf ls lo) (first_leaf ls hi) (omega (arith, here)))
      ∙ sym (ranged_is n ls lo hi (first_leaf ls lo) (first_leaf ls hi) (none_past hash_bits n ls valid nh lo wl a.0) (none_begun hash_bits n ls valid nh hi wh b.0))

  pub shared_leaf : (d s : ℕ) → take d lo ≡ take d hi → LeadsAlong ls lo d (Some (lead.Leaf s)) → LeadsAlong ls hi d (Some (lead.Leaf s))
      → (not (reached_past n ls lo (record { slot = s; stub = d; ends = false })) && reached_begun n ls hi (record { slot = s; stub = d; ends = false })) ≡ ranged n ls lo hi
  shared_leaf d s same a b =
      let r : Reached = record { slot = s; stub = d; ends = false } in
      let past = reached_past n ls lo r in
      let begun = reached_begun n ls hi r in
      let here : first_leaf ls lo ≡ first_leaf ls hi = a.1 ∙ ap (first_leaf ls) same ∙ sym b.1 in
      both_ones (first_leaf ls lo) past begun ∙ ap (λ (k : ℕ). nat_lt (first_leaf ls lo + cond past 1 0) (k + cond begun 1 0)) here
      ∙ sym (
      ranged_is n ls lo hi (first_leaf ls lo + cond past 1 0) (first_leaf ls hi + cond begun 1 0)
      (some_past hash_bits n ls valid nh lo wl r a.0 (met_at hash_bits n ls valid nh lo wl d s a.2))
      (some_begun hash_bits n ls valid nh hi wh r b.0 (met_at hash_bits n ls valid nh hi wh d s b.2))
      )

  -- ---- where they part, at a node

  told : (answer : Bool) → ((k u : ℕ) → FirstPass (is_past n lo) ls k → FirstPass (has_begun n hi) ls u → answer ≡ nat_lt k u) → answer ≡ ranged n ls lo hi
  told answer t =
      let p = past_some hash_bits n ls valid nh lo wl in
      let b = begun_some hash_bits n ls valid nh hi wh in
      t p.0 b.0 p.1 b.1 ∙ sym (ranged_is n ls lo hi p.0 b.0 p.1 b.1)

  module _ (v d : ℕ) (a : IsNodeAt ls v (take d lo)) (same : take d lo ≡ take d hi) where
    abbrev p : List ℕ
    p = get_or (nodes ls) v []

    -- lo ends
    pub lo_ends : length lo ≤ d → d ≤ length lo → (answer : Bool) → TellsTo n ls hi (take d hi) answer → answer ≡ ranged n ls lo hi
    lo_ends l m answer t =
        told answer (λ k u f g. (t u g).1 ∙ ap (λ (x : ℕ). nat_lt x u) (ap (first_leaf ls) (sym same ∙ take_all d lo l) ∙ sym (end_past hash_bits n ls valid nh lo wl v d a l m k f)))

    next_of : (x : List ℕ) (c : ℕ) → take d x ≡ take d lo → d < length x → c ≡ get_or x d 0 → take (d + 1) x ≡ p ++ c ∷ []
    next_of x c e l is = take_more x d 0 l ∙ (λ j. (e ∙ sym a.is) j ++ sym is j ∷ [])

    -- hi ends, and lo goes on
    pub hi_ends : length hi ≤ d → d ≤ length hi → d < length lo → (c : ℕ) → c ≡ get_or lo d 0 → c < 256 → false ≡ ranged n ls lo hi
    hi_ends l m longer c is byte =
        told false (λ k u f g.
        let low : first_leaf ls lo ≤ k = past_low hash_bits n ls valid nh lo wl k f in
        let up = by_up hash_bits n ls valid v a.within 0 c (omega arith) (omega (arith, byte)) in
        let least : leaves_to ls (p ++ END ∷ []) ≤ k =
        omega (arith, low, taken_up ls (d + 1) lo, ap (first_leaf ls) (next_of lo c refl longer is), by_low hash_bits n ls valid v a.within c byte, up, by_nought hash_bits n ls valid v a.within) in
        sym (le-ltb k u (omega (arith, least, most u g))))
      where
        b : IsNodeAt ls v (take d hi)
        b = subst (IsNodeAt ls v) same a

        most : (u : ℕ) → FirstPass (has_begun n hi) ls u → u ≤ leaves_to ls (p ++ END ∷ [])
        most u g = go (end_slot (whole (trie_of ls)) v) refl
          where
            go : (o : Option ℕ) → end_slot (whole (trie_of ls)) v ≡ o → u ≤ leaves_to ls (p ++ END ∷ [])
            go None e = omega (arith, end_none hash_bits n ls valid nh hi wh v d b l m (sym e) u g, ap (first_leaf ls) b.is, first_end hash_bits n ls valid v a.within)
            go (Some s) e =
                let slot = (searches_find ls v (valid_lists_have_tries hash_bits n ls valid) a.within).end s (sym e) in
                omega (arith, end_some hash_bits n ls valid nh hi wh v d b l m s (sym e) u g, ap (first_leaf ls) b.is, first_end hash_bits n ls valid v a.within, slot_one hash_bits n ls valid nh s (p ++ END ∷ []) slot)

    -- both go on
    module _ (from to : ℕ) (l : d < length lo) (e : from ≡ get_or lo d 0) (m : d < length hi) (h : to ≡ get_or hi d 0) (from_byte : from < 256) (to_byte : to < 256) where
      order_to : order_of to ≡ to + 1
      order_to = omega (arith, order-byte to to_byte)

      from_high : (k : ℕ) → FirstPass (is_past n lo) ls k → k ≤ leaves_to ls (p ++ from ∷ [])
      from_high k f = omega (arith, past_high hash_bits n ls valid nh lo wl v d a l k f, ap (leaves_to ls) (next_of lo from refl l e))

      to_low : (u : ℕ) → FirstPass (has_begun n hi) ls u → first_leaf ls (p ++ to ∷ []) ≤ u
      to_low u g = omega (arith, begun_low hash_bits n ls valid nh hi wh u g, taken_up ls (d + 1) hi, ap (first_leaf ls) (next_of hi to (sym same) m h))

      -- hi is below lo
      pub part_back : to < from → false ≡ ranged n ls lo hi
      part_back less =
          told false (λ k u f g.
          let low : first_leaf ls (p ++ from ∷ []) ≤ k = omega (arith, past_low hash_bits n ls valid nh lo wl k f, taken_up ls (d + 1) lo, ap (first_leaf ls) (next_of lo from refl l e)) in
          let most : u ≤ leaves_to ls (p ++ to ∷ []) = omega (arith, begun_high hash_bits n ls valid nh hi wh v d (subst (IsNodeAt ls v) same a) m u g, ap (leaves_to ls) (next_of hi to (sym same) m h)) in
          let up = by_up hash_bits n ls valid v a.within (to + 1) from (omega (arith, less)) (omega (arith, from_byte)) in
          let here = by_letter hash_bits n ls valid v a.within to (omega (arith, to_byte)) ∙ ap (leaves_before_byte ls p) order_to in
          sym (le-ltb k u (omega (arith, low, most, up, here, by_low hash_bits n ls valid v a.within from from_byte))))

      -- a leaf between
      pub part_within : leaves_to ls (p ++ from ∷ []) < first_leaf ls (p ++ to ∷ []) → true ≡ ranged n ls lo hi
      part_within some = told true (λ k u f g. sym (lt-ltb k u (omega (arith, from_high k f, some, to_low u g))))

      -- none between
      module _ (none : leaves_to ls (p ++ from ∷ []) ≡ first_leaf ls (p ++ to ∷ [])) where
        at_from : leaves_to ls (take (d + 1) lo) ≡ first_leaf ls (p ++ to ∷ [])
        at_from = ap (leaves_to ls) (next_of lo from refl l e) ∙ none

        at_to : first_leaf ls (take (d + 1) hi) ≡ first_leaf ls (p ++ to ∷ [])
        at_to = ap (first_leaf ls) (next_of hi to (sym same) m h)

        pub part_from : TellsFrom n ls lo (take (d + 1) lo) true → true ≡ ranged n ls lo hi
        part_from t =
            told true (λ k u f g.
            let middle = first_leaf ls (p ++ to ∷ []) in
            either k middle u true (nat_lt middle u) (omega (arith, (t k f).0, at_from)) (to_low u g) ((t k f).1 ∙ ap (nat_lt k) at_from) refl)

        pub part_to : (answer : Bool) → TellsFrom n ls lo (take (d + 1) lo) false → TellsTo n ls hi (take (d + 1) hi) answer → answer ≡ ranged n ls lo hi
        part_to answer t s =
            told answer (λ k u f g.
            let middle = first_leaf ls (p ++ to ∷ []) in
            either k middle u false answer (omega (arith, (t k f).0, at_from)) (to_low u g) ((t k f).1 ∙ ap (nat_lt k) at_from) ((s u g).1 ∙ ap (λ (x : ℕ). nat_lt x u) at_to))
