-- Down by a bound, to where it leaves the trie.
use Rattle.std.proofs.Common.{◌≡◌, ℕ, ◌+◌, ◌<◌, ◌≤◌, Bool, true, false, Option, Some, None, List, [], ◌∷◌, ◌++◌, length, get_or, take, drop, map, refl, ap, subst, sym, ◌∙◌, arith}
use Rattle.std.specs.Prelude.{not}
use Rattle.std.proofs.lemmas.Bool.{false≢true, true≢false}
use Rattle.std.proofs.lemmas.List.{append-nil, length-take-le, take-append-drop, take_all, take_more}
use Rattle.filter_image_model.proofs.Link.{node-rests}
use Rattle.filter_image_model.proofs.Sizes.{some_height}
use Rattle.filter_iter.proofs.ByNumber.{none_ahead}
use Rattle.filter_iter.proofs.Groups.{start_ends}
use Rattle.filter_iter.proofs.Starts.{no_level}
use Rattle.filter_iter.proofs.Steps.{at_one_node, first_leaf_within, sum_small}
use Rattle.filter_iter.specs.Borders.{HasLeft, HaveMet, IsBorder, IsDescent, IsReached, IsStepBy, LeadsOn, leaves_at}
use Rattle.filter_iter.specs.Counts.{below_first}
use Rattle.filter_iter.specs.declared.parts.Border.{Border}
use Rattle.filter_iter.specs.declared.parts.Descent.{Descent}
use Rattle.filter_iter.specs.declared.parts.Reached.{Reached}
use Rattle.filter_model.specs.Leaves.{Leaf}
use Rattle.filter_model.specs.Nodes.{trie_of}
use Rattle.filter_model.specs.Trie.{END, height, is_node, is_reached, nodes, path}
use Rattle.filter_model.specs.Valid.{IsLeafList}
use Rattle.filter_trie.proofs.Down.{node_passes, root_first}
use Rattle.filter_trie.proofs.Finding.{searches_find}
use Rattle.filter_trie.proofs.Starts.{start-push}
use Rattle.filter_trie.proofs.Ways.{ended, ended_nowhere, last_met, last_stuck, met, stuck}
use Rattle.filter_trie.specs.Walks.{IsNodeAt, IsSlotAt}
use Rattle.trie_laws.proofs.NodeLists.{height_above}
use Rattle.trie_levels.proofs.Totals.{valid_lists_have_tries}
use Rattle.trie_levels.specs.Tries.{HasTrie}
use Rattle.trie_model.specs.Halves.{end_slot, whole}
use Rattle.trie_model.specs.Rests.{first_leaf, rests}
use Rattle.trie_model.specs.Walks.{slot_of_key}

-- what a test by `!` says
pub not_so : (b : Bool) → not b ≡ true → b ≡ false
not_so true e = absurd (false≢true e)
not_so false e = refl

module _ (hash_bits real_bits : ℕ) (ls : List Leaf) (valid : IsLeafList hash_bits real_bits ls) where
  has : HasTrie ls
  has = valid_lists_have_tries hash_bits real_bits ls valid

  high : 0 < height ls
  high = some_height hash_bits real_bits ls valid

  -- at the root nothing was counted
  pub root_is : (b : Border) → b.node ≡ 0 → b.sum ≡ 0 → IsNodeAt ls b.node [] × IsBorder ls 0 b × (leaves_at ls 0 b ≡ 0)
  root_is b n a =
      let root = root_first ls high in (
        subst (λ (v : ℕ). IsNodeAt ls v []) (sym n) root,
        record { high = omega arith; order = omega (arith, n, no_level ls); within = omega (arith, n, root.within); counted = omega arith },
        omega (arith, a, ap (below_first ls) n),
      )

  module _ (x : List ℕ) where
    -- the letters behind those that lead to no node change nothing
    pub beyond : (d : ℕ) → is_node ls (take d x) ≡ false → first_leaf ls x ≡ first_leaf ls (take d x)
    beyond d off = ap (first_leaf ls) (sym (take-append-drop d x)) ∙ start_ends (take d x) (drop d x) (map path ls) (sym (node-rests ls (take d x)) ∙ off)

    module _ (v d c : ℕ) (a : IsNodeAt ls v (take d x)) (l : d < length x) (e : c ≡ get_or x d 0) where
      taken : take (d + 1) x ≡ get_or (nodes ls) v [] ++ c ∷ []
      taken = take_more x d 0 l ∙ (λ j. sym a.is j ++ sym e j ∷ [])

      pub nowhere_count : is_reached ls (get_or (nodes ls) v [] ++ c ∷ []) ≡ false → first_leaf ls x ≡ first_leaf ls (get_or (nodes ls) v [] ++ c ∷ [])
      nowhere_count off = beyond (d + 1) (last_stuck ls has high x v d a c l e off) ∙ ap (first_leaf ls) taken

      pub leaf_count : (s : ℕ) → IsSlotAt ls s (get_or (nodes ls) v [] ++ c ∷ []) → first_leaf ls x ≡ first_leaf ls (get_or (nodes ls) v [] ++ c ∷ [])
      leaf_count s n = beyond (d + 1) (last_met ls has high x v d a s c l e n) ∙ ap (first_leaf ls) taken

      pub nowhere_slot : is_reached ls (get_or (nodes ls) v [] ++ c ∷ []) ≡ false → None ≡ slot_of_key ls x
      nowhere_slot off = stuck ls has high x v d a c l e off

      pub leaf_slot : (s : ℕ) → IsSlotAt ls s (get_or (nodes ls) v [] ++ c ∷ []) → Some s ≡ slot_of_key ls x
      leaf_slot s n = met ls has high x v d a s c l e n

    module _ (v d : ℕ) (a : IsNodeAt ls v (take d x)) (l : length x ≤ d) (m : d ≤ length x) where
      pub end_nowhere : None ≡ end_slot (whole (trie_of ls)) v → None ≡ slot_of_key ls x
      end_nowhere e = ended_nowhere ls has high x v d a l m ((searches_find ls v has a.within).no_end e)

      pub end_leaf : (s : ℕ) → Some s ≡ end_slot (whole (trie_of ls)) v → Some s ≡ slot_of_key ls x
      end_leaf s e = ended ls has high x v d a s l ((searches_find ls v has a.within).end s e)

      pub end_path : (s : ℕ) → Some s ≡ end_slot (whole (trie_of ls)) v → IsSlotAt ls s (take (length x) x ++ END ∷ [])
      end_path s e =
          subst (λ (p : List ℕ). IsSlotAt ls s (p ++ END ∷ [])) (a.is ∙ ap (λ (n : ℕ). take n x) (omega (arith, l, m))) ((searches_find ls v has a.within).end s e)

    -- ---- a bound at the root

    pub at_root : (d : Descent) → d.border.node ≡ 0 → d.border.sum ≡ 0 → d.leads ≡ true → IsDescent ls x 0 d
    at_root d n a t =
        let root = root_is d.border n a in
        record { border = root.1; on = λ _. record { read = omega arith; node = root.0; before = root.2 }; left = λ f. absurd (true≢false (sym t ∙ f)) }

    pub step_to_root : (d : Descent) → d.border.node ≡ 0 → d.border.sum ≡ 0 → d.leads ≡ true → IsStepBy ls [] 0 d
    step_to_root d n a t = record { before = (root_is d.border n a).2; left = λ f. absurd (true≢false (sym t ∙ f)) }

    -- ---- one level down, by a byte

    pub has_left : (d : ℕ) (b : Border) (leaf : Option Reached) → IsBorder ls d b → leaves_at ls d b ≡ first_leaf ls x → IsReached ls x leaf → IsDescent ls x d (record { border = b; leads = false; leaf = leaf })
    has_left d b leaf is before reached = record { border = is; on = λ e. absurd (false≢true e); left = λ _. record { before = before; reached = reached } }

    -- the node to which the bound leads
    pub own_length : (d : ℕ) (b : Border) → LeadsOn ls x d b → length (get_or (nodes ls) b.node []) ≡ d
    own_length d b on = ap (λ (p : List ℕ). length p) on.node.is ∙ length-take-le d x on.read

    pub own_border : (d : ℕ) (b : Border) → LeadsOn ls x d b → IsBorder ls d b → IsBorder ls (length (get_or (nodes ls) b.node [])) b
    own_border d b on is = subst (λ (n : ℕ). IsBorder ls n b) (sym (own_length d b on)) is

    pub own_before : (d : ℕ) (b : Border) → LeadsOn ls x d b → leaves_at ls (length (get_or (nodes ls) b.node [])) b ≡ first_leaf ls (get_or (nodes ls) b.node [])
    own_before d b on = ap (λ (n : ℕ). leaves_at ls n b) (own_length d b on) ∙ on.before ∙ ap (first_leaf ls) (sym on.node.is)

    pub some_level : (d : ℕ) (b : Border) → LeadsOn ls x d b → d < height ls
    some_level d b on = omega (arith, own_length d b on, height_above ls (get_or (nodes ls) b.node []) (node_passes ls high b.node on.node.within))

    module _ (d c : ℕ) (b b' : Border) (on : LeadsOn ls x d b) (l : d < length x) (e : c ≡ get_or x d 0) (is : IsBorder ls (length (get_or (nodes ls) b.node []) + 1) b')
        (before : leaves_at ls (length (get_or (nodes ls) b.node []) + 1) b' ≡ first_leaf ls (get_or (nodes ls) b.node [] ++ c ∷ [])) where
      next : IsBorder ls (d + 1) b'
      next = subst (λ (n : ℕ). IsBorder ls (n + 1) b') (own_length d b on) is

      next_before : leaves_at ls (d + 1) b' ≡ first_leaf ls (get_or (nodes ls) b.node [] ++ c ∷ [])
      next_before = ap (λ (n : ℕ). leaves_at ls (n + 1) b') (sym (own_length d b on)) ∙ before

      read_next : take (d + 1) x ≡ get_or (nodes ls) b.node [] ++ c ∷ []
      read_next = taken b.node d c on.node l e

      pub turned_on : IsNodeAt ls b'.node (get_or (nodes ls) b.node [] ++ c ∷ []) → IsDescent ls x (d + 1) (record { border = b'; leads = true; leaf = None })
      turned_on n = record {
        border = next;
        on = λ _. record { read = omega (arith, l); node = subst (IsNodeAt ls b'.node) (sym read_next) n; before = next_before ∙ ap (first_leaf ls) (sym read_next) };
        left = λ t. absurd (true≢false t);
      }

      pub turned_off : is_reached ls (get_or (nodes ls) b.node [] ++ c ∷ []) ≡ false → IsDescent ls x (d + 1) (record { border = b'; leads = false; leaf = None })
      turned_off off =
          has_left (d + 1) b' None next (next_before ∙ sym (nowhere_count b.node d c on.node l e off)) (record { slot = nowhere_slot b.node d c on.node l e off; path = tt })

      pub turned_to : (s : ℕ) → IsSlotAt ls s (get_or (nodes ls) b.node [] ++ c ∷ []) → IsDescent ls x (d + 1) (record { border = b'; leads = false; leaf = Some (record { slot = s; stub = d + 1; ends = false }) })
      turned_to s n =
          has_left (d + 1) b' (Some (record { slot = s; stub = d + 1; ends = false })) next (next_before ∙ sym (leaf_count b.node d c on.node l e s n))
          (record { slot = leaf_slot b.node d c on.node l e s n; path = subst (IsSlotAt ls s) (sym read_next ∙ sym (append-nil (take (d + 1) x))) n })

      -- and the letters of that step
      pub step_on_is : IsStepBy ls (take (d + 1) x) (d + 1) (record { border = b'; leads = true; leaf = None })
      step_on_is = record { before = next_before ∙ ap (first_leaf ls) (sym read_next); left = λ t. absurd (true≢false t) }

      pub step_off_is : is_reached ls (get_or (nodes ls) b.node [] ++ c ∷ []) ≡ false → IsStepBy ls (take (d + 1) x) (d + 1) (record { border = b'; leads = false; leaf = None })
      step_off_is off = record { before = next_before ∙ ap (first_leaf ls) (sym read_next); left = λ _. ap (is_reached ls) read_next ∙ off }

      pub step_to_is : (s : ℕ) → IsSlotAt ls s (get_or (nodes ls) b.node [] ++ c ∷ []) → IsStepBy ls (take (d + 1) x) (d + 1) (record { border = b'; leads = false; leaf = Some (record { slot = s; stub = d + 1; ends = false }) })
      step_to_is s n = record { before = next_before ∙ ap (first_leaf ls) (sym read_next); left = λ _. subst (IsSlotAt ls s) (sym read_next) n }

    -- or by END
    module _ (d : ℕ) (b b' : Border) (on : LeadsOn ls x d b) (l : d ≡ length x) (next : IsBorder ls (d + 1) b') (before : leaves_at ls (d + 1) b' ≡ leaves_at ls d b) where
      all_read : take d x ≡ x
      all_read = take_all d x (omega (arith, l))

      all_before : leaves_at ls (d + 1) b' ≡ first_leaf ls x
      all_before = before ∙ on.before ∙ ap (first_leaf ls) all_read

      pub ended_off : None ≡ end_slot (whole (trie_of ls)) b.node → IsDescent ls x (d + 1) (record { border = b'; leads = false; leaf = None })
      ended_off e = has_left (d + 1) b' None next all_before (record { slot = end_nowhere b.node d on.node (omega (arith, l)) on.read e; path = tt })

      pub ended_at : (s : ℕ) → Some s ≡ end_slot (whole (trie_of ls)) b.node → IsDescent ls x (d + 1) (record { border = b'; leads = false; leaf = Some (record { slot = s; stub = d; ends = true }) })
      ended_at s e =
          has_left (d + 1) b' (Some (record { slot = s; stub = d; ends = true })) next all_before
          (record { slot = end_leaf b.node d on.node (omega (arith, l)) on.read s e; path = subst (λ (n : ℕ). IsSlotAt ls s (take n x ++ END ∷ [])) (sym l) (end_path b.node d on.node (omega (arith, l)) on.read s e) })

      -- no letter comes before END
      end_before : leaves_at ls (d + 1) b' ≡ first_leaf ls (x ++ END ∷ [])
      end_before = omega (arith, all_before, start-push x END (map path ls), none_ahead (rests x (map path ls)))

      node_read : get_or (nodes ls) b.node [] ++ END ∷ [] ≡ x ++ END ∷ []
      node_read = ap (λ (p : List ℕ). p ++ END ∷ []) (on.node.is ∙ all_read)

      pub end_off_is : None ≡ end_slot (whole (trie_of ls)) b.node → IsStepBy ls (x ++ END ∷ []) (d + 1) (record { border = b'; leads = false; leaf = None })
      end_off_is e = record { before = end_before; left = λ _. ap (is_reached ls) (sym node_read) ∙ (searches_find ls b.node has on.node.within).no_end e }

      pub end_at_is : (s : ℕ) → Some s ≡ end_slot (whole (trie_of ls)) b.node → IsStepBy ls (x ++ END ∷ []) (d + 1) (record { border = b'; leads = false; leaf = Some (record { slot = s; stub = d; ends = true }) })
      end_at_is s e = record { before = end_before; left = λ _. subst (IsSlotAt ls s) node_read ((searches_find ls b.node has on.node.within).end s e) }

    -- behind the last level every bound has left
    pub leads_nowhere : (d : Descent) → IsDescent ls x (height ls) d → d.leads ≡ false
    leads_nowhere d is = go d.leads refl
      where
        go : (t : Bool) → d.leads ≡ t → d.leads ≡ false
        go true e = let deep = some_level (height ls) d.border (is.on e) in absurd (omega (arith, deep))
        go false e = e

    pub at_last : (d : Descent) → IsDescent ls x (height ls) d → HasLeft ls x (height ls) d
    at_last d is = is.left (leads_nowhere d is)

    pub few_before : (n : ℕ) (d : Descent) → HasLeft ls x n d → leaves_at ls n d.border ≤ length ls
    few_before n d left = omega (arith, left.before, first_leaf_within ls x)

  -- two bounds that have left at one node
  pub have_met : (n : ℕ) (lo hi : List ℕ) (low high' : Descent) → IsBorder ls n low.border → IsBorder ls n high'.border → low.border.node ≡ high'.border.node → HasLeft ls lo n low → HasLeft ls hi n high' → HaveMet ls lo hi low high'
  have_met n lo hi low high' is is' same a b =
      let few = valid.few in
      record {
        apart = at_one_node hash_bits real_bits ls valid n (first_leaf ls lo) (first_leaf ls hi) low.border high'.border is is' same a.before b.before;
        low_leaf = a.reached;
        high_leaf = b.reached;
        low_room = omega (arith, few, sum_small hash_bits real_bits ls valid n low.border is (few_before lo n low a));
        high_room = omega (arith, few, sum_small hash_bits real_bits ls valid n high'.border is' (few_before hi n high' b));
      }
