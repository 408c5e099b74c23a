-- What each bound of a range says, at the node where its way ends.
use Rattle.std.proofs.Common.{◌≡◌, ℕ, ◌+◌, ◌<◌, ◌≤◌, Bool, true, false, cond, Option, Some, None, List, [], ◌∷◌, ◌++◌, length, get_or, take, refl, ap, subst, sym, ◌∙◌, arith, inl, inr, nat_lt, le-ltb, lt-ltb}
use Rattle.std.specs.Prelude.{is_some, not, ◌&&◌}
use Rattle.std.proofs.lemmas.Bool.{cases_lt}
use Rattle.std.proofs.lemmas.List.{append-nil, take_all, take_more}
use Rattle.byte_fields.specs.Spelling.{IsBytes}
use Rattle.filter_image_model.proofs.Sizes.{some_height}
use Rattle.filter_iter.proofs.Bounds.{end_leaf, end_nowhere, end_path, leaf_count, leaf_slot, nowhere_count, nowhere_slot}
use Rattle.filter_iter.proofs.Branching.{by_letter, by_low, by_up}
use Rattle.filter_iter.proofs.ByNumber.{none_below}
use Rattle.filter_iter.proofs.Cutting.{begun_low, first_up, none_reached, one_cut, past_high, room, some_reached, taken_up}
use Rattle.filter_iter.proofs.MetLeaves.{none_begun, none_past, some_begun, some_past}
use Rattle.filter_iter.specs.Between.{LeadsAlong, LeadsIf, TellsFrom, TellsTo}
use Rattle.filter_iter.specs.Borders.{reached_begun, reached_past, reached_path}
use Rattle.filter_iter.specs.Cuts.{FirstPass, has_begun}
use Rattle.filter_iter.specs.CursorPath.{HasBranch, IsNextAt, LeadGoesTo, leaves_before_byte, leaves_to}
use Rattle.filter_iter.specs.declared.parts.Branch.{Branch}
use Rattle.filter_iter.specs.declared.parts.Lead.{Lead}
use Rattle.filter_iter.specs.declared.parts.Lead.TheVariants as lead
use Rattle.filter_iter.specs.declared.parts.Reached.{Reached}
use Rattle.filter_model.specs.Answers.{is_past}
use Rattle.filter_model.specs.Leaves.{Leaf}
use Rattle.filter_model.specs.Nodes.{trie_of}
use Rattle.filter_model.specs.Trie.{END, height, is_node, is_reached, nodes}
use Rattle.filter_model.specs.Valid.{IsLeafList}
use Rattle.filter_trie.proofs.Down.{node_passes}
use Rattle.filter_trie.proofs.KeyOrder.{slots_are_leaves}
use Rattle.filter_trie.proofs.Reached.{node_is_reached}
use Rattle.filter_trie.specs.Walks.{IsNodeAt, IsSlotAt}
use Rattle.trie_laws.proofs.Forms.{order-byte}
use Rattle.trie_levels.proofs.Totals.{valid_lists_have_tries}
use Rattle.trie_levels.specs.Tries.{HasTrie}
use Rattle.trie_model.specs.Halves.{end_slot, whole}
use Rattle.trie_model.specs.Letters.{order_of}
use Rattle.trie_model.specs.Rests.{first_leaf, leaves_below}

-- ---- at most one more

last_one : (k : ℕ) (b : Bool) → not b ≡ nat_lt (k + cond b 1 0) (k + 1)
last_one k true = sym (le-ltb (k + 1) (k + 1) (omega arith))
last_one k false = sym (lt-ltb (k + 0) (k + 1) (omega arith))

one_more : (k : ℕ) (b : Bool) → b ≡ nat_lt k (k + cond b 1 0)
one_more k true = sym (lt-ltb k (k + 1) (omega arith))
one_more k false = sym (le-ltb k (k + 0) (omega arith))

pub both_ones : (k : ℕ) (a b : Bool) → (not a && b) ≡ nat_lt (k + cond a 1 0) (k + cond b 1 0)
both_ones k true true = sym (le-ltb (k + 1) (k + 1) (omega arith))
both_ones k true false = sym (le-ltb (k + 1) (k + 0) (omega arith))
both_ones k false true = sym (lt-ltb (k + 0) (k + 1) (omega arith))
both_ones k false false = sym (le-ltb (k + 0) (k + 0) (omega arith))

at_most : (b : Bool) → cond {A = ℕ} b 1 0 ≤ 1
at_most true = omega arith
at_most false = omega arith

plus_none : (m : ℕ) → m + 0 ≡ m
plus_none m = omega arith

pub some_lead : (ls : List Leaf) (q : List ℕ) (l : Lead) → LeadGoesTo ls q l → LeadsIf ls q (Some l)
some_lead ls q (lead.Node v) a = a
some_lead ls q (lead.Leaf s) a = a

module _ (hash_bits n : ℕ) (ls : List Leaf) (valid : IsLeafList hash_bits n ls) (nh : n ≤ 32) where
  has : HasTrie ls
  has = valid_lists_have_tries hash_bits n ls valid

  high : 0 < height ls
  high = some_height hash_bits n ls valid

  node_some : (v : ℕ) (q : List ℕ) → IsNodeAt ls v q → 0 < leaves_below ls q
  node_some v q a = some_reached ls q (node_is_reached ls q (ap (is_node ls) (sym a.is) ∙ node_passes ls high v a.within))

  pub slot_one : (s : ℕ) (q : List ℕ) → IsSlotAt ls s q → leaves_below ls q ≡ 1
  slot_one s q a = ap (leaves_below ls) (sym a.is) ∙ (slots_are_leaves hash_bits n ls s valid a.within).count

  pub lead_some : (q : List ℕ) (l : Lead) → LeadGoesTo ls q l → 0 < leaves_below ls q
  lead_some q (lead.Node v) a = node_some v q a
  lead_some q (lead.Leaf s) a = omega (arith, slot_one s q a)

  -- ---- between two bytes of a node

  module _ (v : ℕ) (l : v < length (nodes ls)) (from to : ℕ) (less : from < to) (byte : to < 256) where
    abbrev u : List ℕ
    u = get_or (nodes ls) v []

    behind_from : leaves_to ls (u ++ from ∷ []) ≡ leaves_before_byte ls u (from + 1)
    behind_from = by_letter hash_bits n ls valid v l from (omega (arith, less, byte)) ∙ ap (leaves_before_byte ls u) (order from (omega (arith, less, byte)))
      where
        order : (c : ℕ) → c < 256 → order_of c ≡ c + 1
        order c b = omega (arith, order-byte c b)

    pub between_order : leaves_to ls (u ++ from ∷ []) ≤ first_leaf ls (u ++ to ∷ [])
    between_order = omega (arith, behind_from, by_up hash_bits n ls valid v l (from + 1) to (omega (arith, less)) (omega (arith, byte)), by_low hash_bits n ls valid v l to byte)

    pub between_none : leaves_to ls u ≡ leaves_to ls (u ++ from ∷ []) → leaves_to ls (u ++ from ∷ []) ≡ first_leaf ls (u ++ to ∷ [])
    between_none none =
        let top : leaves_before_byte ls u to ≤ leaves_to ls u = by_up hash_bits n ls valid v l to 256 (omega (arith, byte)) (omega arith) in
        omega (arith, none, top, between_order, by_low hash_bits n ls valid v l to byte)

    pub none_is : leaves_to ls u ≡ leaves_to ls (u ++ from ∷ []) → false ≡ nat_lt (leaves_to ls (u ++ from ∷ [])) (first_leaf ls (u ++ to ∷ []))
    none_is none = sym (le-ltb (leaves_to ls (u ++ from ∷ [])) (first_leaf ls (u ++ to ∷ [])) (omega (arith, between_none none)))

    module _ (b : Branch) (has_b : HasBranch ls u b) (small : b.letter < 256) (next : first_leaf ls (u ++ b.letter ∷ []) ≡ leaves_to ls (u ++ from ∷ [])) where
      pub between_some : b.letter < to → leaves_to ls (u ++ from ∷ []) < first_leaf ls (u ++ to ∷ [])
      between_some below =
          let order : order_of b.letter ≡ b.letter + 1 = omega (arith, order-byte b.letter small) in
          let here = by_letter hash_bits n ls valid v l b.letter has_b.letter ∙ ap (leaves_before_byte ls u) order in
          let up = by_up hash_bits n ls valid v l (b.letter + 1) to (omega (arith, below)) (omega (arith, byte)) in
          omega (arith, next, lead_some (u ++ b.letter ∷ []) b.lead has_b.leads, here, up, by_low hash_bits n ls valid v l to byte)

      pub between_past : to ≤ b.letter → leaves_to ls (u ++ from ∷ []) ≡ first_leaf ls (u ++ to ∷ [])
      between_past past =
          omega (arith, next, between_order, by_up hash_bits n ls valid v l to b.letter past (omega (arith, small)), by_low hash_bits n ls valid v l b.letter small, by_low hash_bits n ls valid v l to byte)

      pub between_is : nat_lt b.letter to ≡ nat_lt (leaves_to ls (u ++ from ∷ [])) (first_leaf ls (u ++ to ∷ []))
      between_is = elim (cases_lt b.letter to) [
        | inl below ↦ lt-ltb b.letter to below ∙ sym (lt-ltb (leaves_to ls (u ++ from ∷ [])) (first_leaf ls (u ++ to ∷ [])) (between_some below))
        | inr past ↦ le-ltb b.letter to past ∙ sym (le-ltb (leaves_to ls (u ++ from ∷ [])) (first_leaf ls (u ++ to ∷ [])) (omega (arith, between_past past)))
      ]

  pub behind_is : (v c : ℕ) (found : Option Branch) → IsNextAt ls (get_or (nodes ls) v []) (leaves_to ls (get_or (nodes ls) v [] ++ c ∷ [])) found
      → (leaves_to ls (get_or (nodes ls) v [] ++ c ∷ []) ≤ leaves_to ls (get_or (nodes ls) v [])) × (is_some found ≡ nat_lt (leaves_to ls (get_or (nodes ls) v [] ++ c ∷ [])) (leaves_to ls (get_or (nodes ls) v [])))
  behind_is v c None e =
      let u = get_or (nodes ls) v [] in
      (omega (arith, e), sym (le-ltb (leaves_to ls (u ++ c ∷ [])) (leaves_to ls u) (omega (arith, e))))
  behind_is v c (Some b) e =
      let u = get_or (nodes ls) v [] in
      let less : leaves_to ls (u ++ c ∷ []) < leaves_to ls u = omega (arith, e.2, lead_some (u ++ b.letter ∷ []) b.lead e.0.leads, room ls u (b.letter ∷ [])) in
      (omega (arith, less), sym (lt-ltb (leaves_to ls (u ++ c ∷ [])) (leaves_to ls u) less))

  module _ (x : List ℕ) (w : IsBytes x) where
    -- ---- where the next byte leads

    taken : (v d c : ℕ) → IsNodeAt ls v (take d x) → d < length x → c ≡ get_or x d 0 → take (d + 1) x ≡ get_or (nodes ls) v [] ++ c ∷ []
    taken v d c a l e = take_more x d 0 l ∙ (λ j. sym a.is j ++ sym e j ∷ [])

    pub along : (v d c : ℕ) → IsNodeAt ls v (take d x) → d < length x → c ≡ get_or x d 0 → (o : Option Lead) → LeadsIf ls (get_or (nodes ls) v [] ++ c ∷ []) o → LeadsAlong ls x (d + 1) o
    along v d c a l e None off =
        let t = taken v d c a l e in
        (nowhere_slot hash_bits n ls valid x v d c a l e off, nowhere_count hash_bits n ls valid x v d c a l e off ∙ ap (first_leaf ls) (sym t), ap (is_reached ls) t ∙ off)
    along v d c a l e (Some (lead.Leaf s)) at =
        let t = taken v d c a l e in
        (leaf_slot hash_bits n ls valid x v d c a l e s at, leaf_count hash_bits n ls valid x v d c a l e s at ∙ ap (first_leaf ls) (sym t), subst (IsSlotAt ls s) (sym t) at)
    along v d c a l e (Some (lead.Node u)) at = subst (IsNodeAt ls u) (sym (taken v d c a l e)) at

    -- ---- leaves not past x

    pub from_none : (d : ℕ) → LeadsAlong ls x d None → TellsFrom n ls x (take d x) false
    from_none d a k f =
        let is = one_cut (is_past n x) ls k (first_leaf ls x) f (none_past hash_bits n ls valid nh x w a.0) in
        let all : leaves_to ls (take d x) ≡ k = omega (arith, is, a.1, none_below ls (take d x) a.2) in
        (omega (arith, all), sym (le-ltb k (leaves_to ls (take d x)) (omega (arith, all))))

    abbrev met : ℕ → ℕ → Reached
    met s d = record { slot = s; stub = d; ends = false }

    pub met_at : (d s : ℕ) → IsSlotAt ls s (take d x) → IsSlotAt ls s (reached_path x (met s d))
    met_at d s at = subst (IsSlotAt ls s) (sym (append-nil (take d x))) at

    pub from_leaf : (d s : ℕ) → LeadsAlong ls x d (Some (lead.Leaf s)) → TellsFrom n ls x (take d x) (not (reached_past n ls x (met s d)))
    from_leaf d s a k f =
        let b = reached_past n ls x (met s d) in
        let is = one_cut (is_past n x) ls k (first_leaf ls x + cond b 1 0) f (some_past hash_bits n ls valid nh x w (met s d) a.0 (met_at d s a.2)) in
        let all : leaves_to ls (take d x) ≡ first_leaf ls x + 1 = omega (arith, a.1, slot_one s (take d x) a.2) in
        (omega (arith, is, all, at_most b), last_one (first_leaf ls x) b ∙ (λ j. nat_lt (sym is j) (sym all j)))

    -- where x ends at a node, none below is past it
    pub end_past : (v d : ℕ) → IsNodeAt ls v (take d x) → length x ≤ d → d ≤ length x → (k : ℕ) → FirstPass (is_past n x) ls k → k ≡ first_leaf ls x
    end_past v d a l m k f = go (end_slot (whole (trie_of ls)) v) refl
      where
        go : (o : Option ℕ) → end_slot (whole (trie_of ls)) v ≡ o → k ≡ first_leaf ls x
        go None e = one_cut (is_past n x) ls k (first_leaf ls x) f (none_past hash_bits n ls valid nh x w (end_nowhere hash_bits n ls valid x v d a l m (sym e)))
        go (Some s) e =
            let r : Reached = record { slot = s; stub = length x; ends = true } in
            one_cut (is_past n x) ls k (first_leaf ls x + 0) f (some_past hash_bits n ls valid nh x w r (end_leaf hash_bits n ls valid x v d a l m s (sym e)) (end_path hash_bits n ls valid x v d a l m s (sym e)))
            ∙ plus_none (first_leaf ls x)

    pub from_end : (v d : ℕ) → IsNodeAt ls v (take d x) → length x ≤ d → d ≤ length x → TellsFrom n ls x (take d x) true
    from_end v d a l m k f =
        let is = end_past v d a l m k f in
        let whole_x = take_all d x l in
        let less : k < leaves_to ls (take d x) = omega (arith, is, ap (first_leaf ls) whole_x, node_some v (take d x) a) in
        (omega (arith, less), sym (lt-ltb k (leaves_to ls (take d x)) less))

    -- where leaves are behind that byte's
    pub from_more : (v d c : ℕ) → IsNodeAt ls v (take d x) → d < length x → c ≡ get_or x d 0 → leaves_to ls (get_or (nodes ls) v [] ++ c ∷ []) < leaves_to ls (get_or (nodes ls) v []) → TellsFrom n ls x (take d x) true
    from_more v d c a l e some k f =
        let few = past_high hash_bits n ls valid nh x w v d a l k f in
        let less : k < leaves_to ls (take d x) = omega (arith, few, ap (leaves_to ls) (taken v d c a l e), some, ap (leaves_to ls) a.is) in
        (omega (arith, less), sym (lt-ltb k (leaves_to ls (take d x)) less))

    -- where no branch is behind, the same leaves are to come
    pub from_on : (v d c : ℕ) → IsNodeAt ls v (take d x) → d < length x → c ≡ get_or x d 0 → leaves_to ls (get_or (nodes ls) v []) ≡ leaves_to ls (get_or (nodes ls) v [] ++ c ∷ [])
        → leaves_to ls (take (d + 1) x) ≡ leaves_to ls (take d x)
    from_on v d c a l e none = ap (leaves_to ls) (taken v d c a l e) ∙ sym none ∙ ap (leaves_to ls) a.is

    pub from_same : (p q : List ℕ) (answer : Bool) → leaves_to ls q ≡ leaves_to ls p → TellsFrom n ls x q answer → TellsFrom n ls x p answer
    from_same p q answer e t k f = (omega (arith, (t k f).0, e), (t k f).1 ∙ ap (nat_lt k) e)

    -- ---- leaves that begin at or below x

    pub to_none : (d : ℕ) → LeadsAlong ls x d None → TellsTo n ls x (take d x) false
    to_none d a k f =
        let is = one_cut (has_begun n x) ls k (first_leaf ls x) f (none_begun hash_bits n ls valid nh x w a.0) in
        (omega (arith, is, a.1), sym (le-ltb (first_leaf ls (take d x)) k (omega (arith, is, a.1))))

    pub to_leaf : (d s : ℕ) → LeadsAlong ls x d (Some (lead.Leaf s)) → TellsTo n ls x (take d x) (reached_begun n ls x (met s d))
    to_leaf d s a k f =
        let b = reached_begun n ls x (met s d) in
        let is = one_cut (has_begun n x) ls k (first_leaf ls x + cond b 1 0) f (some_begun hash_bits n ls valid nh x w (met s d) a.0 (met_at d s a.2)) in
        (omega (arith, is, a.1), one_more (first_leaf ls x) b ∙ (λ j. nat_lt (a.1 j) (sym is j)))

    module _ (v d : ℕ) (a : IsNodeAt ls v (take d x)) (l : length x ≤ d) (m : d ≤ length x) where
      pub end_none : None ≡ end_slot (whole (trie_of ls)) v → (k : ℕ) → FirstPass (has_begun n x) ls k → k ≡ first_leaf ls (take d x)
      end_none e k f =
          one_cut (has_begun n x) ls k (first_leaf ls x) f (none_begun hash_bits n ls valid nh x w (end_nowhere hash_bits n ls valid x v d a l m e)) ∙ ap (first_leaf ls) (sym (take_all d x l))

      pub end_some : (s : ℕ) → Some s ≡ end_slot (whole (trie_of ls)) v → (k : ℕ) → FirstPass (has_begun n x) ls k → k ≡ first_leaf ls (take d x) + 1
      end_some s e k f =
          let r : Reached = record { slot = s; stub = length x; ends = true } in
          one_cut (has_begun n x) ls k (first_leaf ls x + 1) f (some_begun hash_bits n ls valid nh x w r (end_leaf hash_bits n ls valid x v d a l m s e) (end_path hash_bits n ls valid x v d a l m s e))
          ∙ ap (λ (q : List ℕ). first_leaf ls q + 1) (sym (take_all d x l))

      pub to_end_none : None ≡ end_slot (whole (trie_of ls)) v → TellsTo n ls x (take d x) false
      to_end_none e k f = let is = end_none e k f in (omega (arith, is), sym (le-ltb (first_leaf ls (take d x)) k (omega (arith, is))))

      pub to_end_some : (s : ℕ) → Some s ≡ end_slot (whole (trie_of ls)) v → TellsTo n ls x (take d x) true
      to_end_some s e k f = let is = end_some s e k f in (omega (arith, is), sym (lt-ltb (first_leaf ls (take d x)) k (omega (arith, is))))

    pub to_end : (v d : ℕ) → IsNodeAt ls v (take d x) → length x ≤ d → d ≤ length x → (o : Option ℕ) → o ≡ end_slot (whole (trie_of ls)) v → TellsTo n ls x (take d x) (is_some o)
    to_end v d a l m None e = to_end_none v d a l m e
    to_end v d a l m (Some s) e = to_end_some v d a l m s e

    module _ (v d c : ℕ) (a : IsNodeAt ls v (take d x)) (l : d < length x) (e : c ≡ get_or x d 0) (byte : c < 256) (b : Branch) (has_b : HasBranch ls (get_or (nodes ls) v []) b)
        (first : first_leaf ls (get_or (nodes ls) v [] ++ b.letter ∷ []) ≡ first_leaf ls (get_or (nodes ls) v [])) where
      abbrev p : List ℕ
      p = get_or (nodes ls) v []

      -- the first branch comes before x
      pub to_less : order_of b.letter ≤ c → TellsTo n ls x (take d x) true
      to_less less k f =
          let low = begun_low hash_bits n ls valid nh x w k f in
          let up = by_up hash_bits n ls valid v a.within (order_of b.letter) c less (omega (arith, byte)) in
          let more : first_leaf ls (take d x) < k =
          omega (arith, low, taken_up ls (d + 1) x, ap (first_leaf ls) (taken v d c a l e), by_low hash_bits n ls valid v a.within c byte, up, by_letter hash_bits n ls valid v a.within b.letter has_b.letter, first, lead_some (p ++ b.letter ∷ []) b.lead has_b.leads, ap (first_leaf ls) a.is) in
          (omega (arith, more), sym (lt-ltb (first_leaf ls (take d x)) k more))

      -- or behind it
      pub to_more : b.letter < 256 → c < b.letter → TellsTo n ls x (take d x) false
      to_more small more k f =
          let here = by_letter hash_bits n ls valid v a.within c (omega (arith, byte)) in
          let order : order_of c ≡ c + 1 = omega (arith, order-byte c byte) in
          let up = by_up hash_bits n ls valid v a.within (c + 1) b.letter (omega (arith, more)) (omega (arith, small)) in
          let by_b = by_low hash_bits n ls valid v a.within b.letter small in
          let most : leaves_to ls (p ++ c ∷ []) ≤ first_leaf ls p = omega (arith, here, ap (leaves_before_byte ls p) order, up, by_b, first) in
          let least : first_leaf ls p ≤ first_leaf ls (p ++ c ∷ []) = first_up ls p (c ∷ []) in
          let off : is_reached ls (p ++ c ∷ []) ≡ false = none_reached ls (p ++ c ∷ []) (omega (arith, most, least)) in
          let nowhere = along v d c a l e None off in
          let same : first_leaf ls (take (d + 1) x) ≡ first_leaf ls (take d x) = omega (arith, ap (first_leaf ls) (taken v d c a l e), most, least, ap (first_leaf ls) a.is) in
          let t = to_none (d + 1) nowhere k f in
          (omega (arith, t.0, same), t.1 ∙ ap (λ (m : ℕ). nat_lt m k) same)

      -- whichever it is
      pub to_other : (b.letter ≡ END → ⊥) → (b.letter ≡ c → ⊥) → TellsTo n ls x (take d x) (nat_lt b.letter c)
      to_other no_end apart = elim (cases_lt b.letter c) [
        | inl below ↦
            let small : b.letter < 256 = omega (arith, below, byte) in
            subst (TellsTo n ls x (take d x)) (sym (lt-ltb b.letter c below)) (to_less (omega (arith, order-byte b.letter small, below)))
        | inr above ↦
            let small : b.letter < 256 = omega (arith, has_b.letter, no_end) in
            subst (TellsTo n ls x (take d x)) (sym (le-ltb b.letter c above)) (to_more small (omega (arith, above, apart)))
      ]

      pub to_ended : b.letter ≡ END → TellsTo n ls x (take d x) true
      to_ended is = to_less (omega (arith, ap order_of is))

      -- or goes on with it
      pub to_on : b.letter ≡ c → first_leaf ls (take (d + 1) x) ≡ first_leaf ls (take d x)
      to_on is = ap (first_leaf ls) (taken v d c a l e) ∙ ap (λ (m : ℕ). first_leaf ls (p ++ m ∷ [])) (sym is) ∙ first ∙ ap (first_leaf ls) a.is

    pub to_same : (p q : List ℕ) (answer : Bool) → first_leaf ls q ≡ first_leaf ls p → TellsTo n ls x q answer → TellsTo n ls x p answer
    to_same p q answer e t k f = (omega (arith, (t k f).0, e), (t k f).1 ∙ ap (λ (m : ℕ). nat_lt m k) e)
