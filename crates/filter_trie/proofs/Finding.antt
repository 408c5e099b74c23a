-- What searches of a node find, by strings.
use Rattle.std.proofs.Common.{◌≡◌, ℕ, zero, suc, ◌+◌, ◌-◌, ◌<◌, ◌≤◌, ◌⊎◌, ◌==◌, Bool, true, false, cond, Option, Some, None, List, [], ◌∷◌, ◌++◌, length, get_or, refl, ap, subst, sym, ◌∙◌, arith, inl, inr, nat_lt, nat_le, lt-ltb}
use Rattle.std.specs.Prelude.{◌&&◌, position}
use Rattle.std.specs.Option.{option_map}
use Rattle.std.proofs.lemmas.Bool.{and_from, and_parts, cases_Bool, cases_lt, eq-eqb, eqb-true, false_from_ne_true, false≢true, le-leb, leb-true, ltb-true}
use Rattle.std.proofs.lemmas.List.Quantifiers.{position-Some}
use Rattle.filter_model.specs.Leaves.{Leaf}
use Rattle.filter_model.specs.Nodes.{Branch, Node, at, children_before, first_place, leaves_before, trie_of}
use Rattle.filter_model.specs.Trie.{END, height, is_node, is_reached, nodes, places, slots}
use Rattle.filter_trie.proofs.Down.{place_is, slot_within}
use Rattle.filter_trie.proofs.Halves.{begins_next, is_branch, none_given, some_given, stands}
use Rattle.filter_trie.proofs.Reached.{position_some}
use Rattle.filter_trie.specs.Laws.{BranchesLead, IsByteBranch, IsPlaceAt, NoneBetween, SearchesFind}
use Rattle.filter_trie.specs.Walks.{IsSlotAt}
use Rattle.louds_dense.proofs.Branches.{last-some}
use Rattle.trie_laws.proofs.Forms.{order-byte, trie_nodes_have_form}
use Rattle.trie_laws.proofs.Places.{at-trie_of, child-trie_of, child_within, length-trie_of, place_of, slot-counted}
use Rattle.trie_laws.specs.Nodes.{IsTrieNode}
use Rattle.trie_laws.proofs.Paths.{any_leaf, path_high}
use Rattle.trie_levels.proofs.Growth.{path_filled}
use Rattle.trie_levels.proofs.Totals.{in_order}
use Rattle.trie_levels.specs.Tries.{HasTrie}
use Rattle.trie_model.specs.Branching.{branch_at, last_position, later, next_at, prev_at}
use Rattle.trie_model.specs.Halves.{begin_of, branch_place, child_at, next_place, node_at, prev_place, slot_at, whole}

-- ---- positions

-- the first place that passes, if any
first_in : (test : Branch → Bool) (n : Node) → ((j : ℕ) × (j < length n) × (test (get_or n j (0, false)) ≡ true) × ((k : ℕ) → k < j → test (get_or n k (0, false)) ≡ false)) ⊎ ((k : ℕ) → k < length n → test (get_or n k (0, false)) ≡ false)
first_in test [] = inr (λ k l. absurd (omega (arith, l)))
first_in test (b ∷ n) = elim (cases_Bool (test b)) [
  | inl here ↦ inl (0, omega arith, here, λ k l. absurd (omega (arith, l)))
  | inr other ↦ elim (first_in test n) [
    | inl r ↦ inl (suc r.0, omega (arith, r.1), r.2, front other r.3)
    | inr none ↦ inr (front other none)
  ]
]
  where
    front : {end : ℕ} → test b ≡ false → ((k : ℕ) → k < end → test (get_or n k (0, false)) ≡ false) → (k : ℕ) → k < suc end → test (get_or (b ∷ n) k (0, false)) ≡ false
    front other rest zero l = other
    front other rest (suc k) l = rest k (omega (arith, l))

position-None : (test : Branch → Bool) (n : Node) → position test n ≡ None → (k : ℕ) → k < length n → test (get_or n k (0, false)) ≡ false
position-None test n e k l = elim (first_in test n) [
  | inl r ↦ let is : Some r.0 ≡ None = sym (position_some test n r.0 (0, false) r.1 r.2 r.3) ∙ e in absurd (cc)
  | inr none ↦ none k l
]

last-None : (test : Branch → Bool) (n : Node) → last_position test n ≡ None → (k : ℕ) → k < length n → test (get_or n k (0, false)) ≡ false
last-None test [] e k l = absurd (omega (arith, l))
last-None test (b ∷ n) e k l = go (last_position test n) (last-None test n) (test b) refl e k l
  where
    go : (q : Option ℕ) → (q ≡ None → (k : ℕ) → k < length n → test (get_or n k (0, false)) ≡ false) → (t : Bool) → test b ≡ t → later t q ≡ None → (k : ℕ) → k < length (b ∷ n) → test (get_or (b ∷ n) k (0, false)) ≡ false
    go (Some j) h t f x k m = absurd (cc)
    go None h true f x k m = absurd (cc)
    go None h false f x zero m = f
    go None h false f x (suc k) m = h refl k (omega (arith, m))

last-behind : (test : Branch → Bool) (n : Node) (i : ℕ) → last_position test n ≡ Some i → (k : ℕ) → i < k → k < length n → test (get_or n k (0, false)) ≡ false
last-behind test [] i e k up l = absurd (omega (arith, l))
last-behind test (b ∷ n) i e zero up l = absurd (omega (arith, up))
last-behind test (b ∷ n) i e (suc k) up l = go (last_position test n) (last-behind test n) (last-None test n) (test b) e
  where
    go : (q : Option ℕ) → ((j : ℕ) → q ≡ Some j → (m : ℕ) → j < m → m < length n → test (get_or n m (0, false)) ≡ false) → (q ≡ None → (m : ℕ) → m < length n → test (get_or n m (0, false)) ≡ false)
        → (t : Bool) → later t q ≡ Some i → test (get_or n k (0, false)) ≡ false
    go (Some j) h g t x = let is : suc j ≡ i = cc in h j refl k (omega (arith, up, is)) (omega (arith, l))
    go None h g t x = g refl k (omega (arith, l))

searched : (b : ℕ) (q : Option ℕ) (n : ℕ) → Some n ≡ option_map (λ i. b + i) q → (j : ℕ) × (q ≡ Some j) × (n ≡ b + j)
searched b None n e = absurd (cc)
searched b (Some j) n e = (j, refl, cc)

unsearched : (b : ℕ) (q : Option ℕ) → None ≡ option_map (λ i. b + i) q → q ≡ None
unsearched b None e = refl
unsearched b (Some j) e = absurd (cc)

module _ (ls : List Leaf) (v : ℕ) (t : HasTrie ls) (some : 0 < height ls) (l : v < length (nodes ls)) where
  abbrev ns : List Node
  ns = trie_of ls

  abbrev n : Node
  n = get_or (trie_of ls) v []

  in_list : v < length (trie_of ls)
  in_list = omega (arith, l, length-trie_of ls)

  form : IsTrieNode n
  form = trie_nodes_have_form ls t v [] in_list

  -- branch j of the node
  own : (j : ℕ) → j < length n → IsPlaceAt ls (first_place ns v + j) (get_or (nodes ls) v [] ++ (get_or n j (0, false)).0 ∷ [])
  own j m =
      let b = is_branch ns v in_list j (get_or n j (0, false)).0 (get_or n j (0, false)).1 m refl in
      let here = place_is ls some v (get_or n j (0, false)).0 (first_place ns v + j) l b.0 in
      record { within = here.0; is = here.1 }

  -- a letter by which a path goes on is that of a branch
  has : (e : ℕ) → e ≤ 256 → is_reached ls (get_or (nodes ls) v [] ++ e ∷ []) ≡ true → (k : ℕ) × (k < length n) × ((get_or n k (0, false)).0 ≡ e)
  has e small on =
      let p = place_of ls v e l small on in
      let k = p.0 - first_place ns v in
      let m : k < length n = omega (arith, p.1, p.2, begins_next ns v in_list) in
      let is : first_place ns v + k ≡ p.0 = omega (arith, p.1) in
      (k, m, ap (λ (b : Branch). b.0) (sym (stands ns v in_list k m) ∙ ap (at ns) is) ∙ p.3)

  none_by : (e : ℕ) → e ≤ 256 → ((k : ℕ) → k < length n → (get_or n k (0, false)).0 ≡ e → ⊥) → is_reached ls (get_or (nodes ls) v [] ++ e ∷ []) ≡ false
  none_by e small none = false_from_ne_true (is_reached ls (get_or (nodes ls) v [] ++ e ∷ [])) (λ on. let h = has e small on in none h.0 h.1 h.2)

  -- bytes rise
  rise : (i j : ℕ) → i < j → j < length n → (get_or n i (0, false)).0 < 256 → (get_or n j (0, false)).0 < 256 → (get_or n i (0, false)).0 < (get_or n j (0, false)).0
  rise i j up m x y = omega (arith, form.rising i j (0, false) up m, order-byte (get_or n i (0, false)).0 x, order-byte (get_or n j (0, false)).0 y)

  -- the list's words at this node
  here : (f : Node → Option ℕ) → option_map (λ i. begin_of (whole ns) v + i) (f (node_at (whole ns) v)) ≡ option_map (λ i. first_place ns v + i) (f n)
  here f = ap (λ (x : ℕ). option_map (λ i. first_place ns x + i) (f (get_or ns x []))) (zero_less v)
    where
      zero_less : (x : ℕ) → x - 0 ≡ x
      zero_less x = omega arith

  at_own : (j m : ℕ) (d : ℕ) → j < length n → (get_or n j (0, false)).0 ≡ d → m ≡ first_place ns v + j → IsPlaceAt ls m (get_or (nodes ls) v [] ++ d ∷ [])
  at_own j m d in' e is =
      let o = own j in' in
      record { within = omega (arith, o.within, is); is = ap (λ (k : ℕ). get_or (places ls) k []) is ∙ o.is ∙ ap (λ (x : ℕ). get_or (nodes ls) v [] ++ x ∷ []) e }

  found : (c m : ℕ) → Some m ≡ branch_place (whole ns) v c → IsPlaceAt ls m (get_or (nodes ls) v [] ++ c ∷ [])
  found c m e =
      let s = searched (first_place ns v) (branch_at n c) m (e ∙ here (λ x. branch_at x c)) in
      let r = position-Some (λ (b : Branch). b.0 == c) n s.0 (0, false) s.1 in
      at_own s.0 m c r.0 (eqb-true (get_or n s.0 (0, false)).0 c r.1) s.2

  not_found : (c : ℕ) → c ≤ 256 → None ≡ branch_place (whole ns) v c → is_reached ls (get_or (nodes ls) v [] ++ c ∷ []) ≡ false
  not_found c small e =
      let none = unsearched (first_place ns v) (branch_at n c) (e ∙ here (λ x. branch_at x c)) in
      none_by c small (λ k kl is. false≢true (sym (position-None (λ (b : Branch). b.0 == c) n none k kl) ∙ eq-eqb (get_or n k (0, false)).0 c is))

  next_passes : (c e : ℕ) (b : Branch) → b.0 ≡ e → c ≤ e → e < 256 → (nat_le c b.0 && nat_lt b.0 END) ≡ true
  next_passes c e b is low high = and_from (nat_le c b.0) (nat_lt b.0 END) (le-leb c b.0 (omega (arith, is, low))) (lt-ltb b.0 256 (omega (arith, is, high)))

  next_found : (c m : ℕ) → Some m ≡ next_place (whole ns) v c → (d : ℕ) × (c ≤ d) × IsByteBranch ls v d m × NoneBetween ls v c d
  next_found c m e =
      let s = searched (first_place ns v) (next_at n c) m (e ∙ here (λ x. next_at x c)) in
      let r = position-Some (λ (b : Branch). nat_le c b.0 && nat_lt b.0 END) n s.0 (0, false) s.1 in
      let d = (get_or n s.0 (0, false)).0 in
      let passes = and_parts (nat_le c d) (nat_lt d END) r.1 in
      let small : d < 256 = ltb-true d 256 passes.1 in (
        d,
        leb-true c d passes.0,
        record { byte = small; place = at_own s.0 m d r.0 refl s.2 },
        λ x low high. none_by x (omega (arith, high, small)) (λ k kl is. elim (cases_lt k s.0) [
          | inl before ↦ false≢true (sym (r.2 k before) ∙ next_passes c x (get_or n k (0, false)) is low (omega (arith, high, small)))
          | inr behind ↦ elim (cases_lt s.0 k) [
            | inl after ↦ omega (arith, rise s.0 k after kl small (omega (arith, is, high, small)), is, high)
            | inr same ↦ let k_is : k ≡ s.0 = omega (arith, behind, same) in omega (arith, high, is, ap (λ (y : ℕ). (get_or n y (0, false)).0) k_is)
          ]
        ]),
      )

  next_not : (c : ℕ) → None ≡ next_place (whole ns) v c → NoneBetween ls v c 256
  next_not c e x low high =
      let none = unsearched (first_place ns v) (next_at n c) (e ∙ here (λ y. next_at y c)) in
      none_by x (omega (arith, high)) (λ k kl is. false≢true (sym (position-None (λ (b : Branch). nat_le c b.0 && nat_lt b.0 END) n none k kl) ∙ next_passes c x (get_or n k (0, false)) is low high))

  prev_found : (c m : ℕ) → c ≤ 256 → Some m ≡ prev_place (whole ns) v c → (d : ℕ) × (d < c) × IsByteBranch ls v d m × NoneBetween ls v (d + 1) c
  prev_found c m to e =
      let s = searched (first_place ns v) (prev_at n c) m (e ∙ here (λ x. prev_at x c)) in
      let r = last-some (λ (b : Branch). nat_lt b.0 c) n s.0 s.1 in
      let d = (get_or n s.0 (0, false)).0 in
      let less : d < c = ltb-true d c r.1 in (
        d,
        less,
        record { byte = omega (arith, less, to); place = at_own s.0 m d r.0 refl s.2 },
        λ x low high. none_by x (omega (arith, high, to)) (λ k kl is. elim (cases_lt s.0 k) [
          | inl after ↦ false≢true (sym (last-behind (λ (b : Branch). nat_lt b.0 c) n s.0 s.1 k after kl) ∙ lt-ltb (get_or n k (0, false)).0 c (omega (arith, is, high)))
          | inr behind ↦ elim (cases_lt k s.0) [
            | inl before ↦ omega (arith, rise k s.0 before r.0 (omega (arith, is, high, to)) (omega (arith, less, to)), is, low)
            | inr same ↦ let k_is : k ≡ s.0 = omega (arith, behind, same) in omega (arith, low, is, ap (λ (y : ℕ). (get_or n y (0, false)).0) k_is)
          ]
        ]),
      )

  prev_not : (c : ℕ) → c ≤ 256 → None ≡ prev_place (whole ns) v c → NoneBetween ls v 0 c
  prev_not c to e x low high =
      let none = unsearched (first_place ns v) (prev_at n c) (e ∙ here (λ y. prev_at y c)) in
      none_by x (omega (arith, high, to)) (λ k kl is. false≢true (sym (last-None (λ (b : Branch). nat_lt b.0 c) n none k kl) ∙ lt-ltb (get_or n k (0, false)).0 c (omega (arith, is, high))))

  end_leads : (m : ℕ) → Some m ≡ branch_place (whole ns) v END → None ≡ child_at (whole ns) m
  end_leads m e =
      let s = searched (first_place ns v) (branch_at n END) m (e ∙ here (λ x. branch_at x END)) in
      let r = position-Some (λ (b : Branch). b.0 == END) n s.0 (0, false) s.1 in
      let off : (get_or n s.0 (0, false)).1 ≡ false = form.end_is_a_leaf s.0 (0, false) r.0 (eqb-true (get_or n s.0 (0, false)).0 END r.1) in
      let leaf : (at ns m).1 ≡ false = ap (λ (k : ℕ). (at ns k).1) s.2 ∙ ap (λ (b : Branch). b.1) (stands ns v in_list s.0 r.0) ∙ off in
      sym (ap (λ (t : Bool). cond t (Some (0 + children_before ns m + 1)) None) leaf)

-- ---- where a branch leads

tall_by : (ls : List Leaf) → HasTrie ls → 0 < height ls
tall_by ls t = omega (arith, path_filled (get_or ls 0 any_leaf) ((in_order ls t).filled 0 any_leaf t.some), path_high ls 0 any_leaf t.some)

pub branches_lead : BranchesLead
branches_lead ls m q t p =
    let some = tall_by ls t in
    record {
      child = λ w e.
          let on = some_given (at (trie_of ls) m).1 w (0 + children_before (trie_of ls) m + 1) e in
          let node : is_node ls (get_or (places ls) m []) ≡ true = ap (λ (x : Branch). x.1) (sym (at-trie_of ls m p.within)) ∙ on.0 in
          record {
            within = omega (arith, child_within ls m some p.within node, on.1);
            is = ap (λ (k : ℕ). get_or (nodes ls) k []) (omega (arith, on.1)) ∙ child-trie_of ls m some p.within node ∙ p.is;
          };
      leaf = λ e.
          let no_node = none_given (at (trie_of ls) m).1 (0 + children_before (trie_of ls) m + 1) e in
          let node : is_node ls (get_or (places ls) m []) ≡ false = ap (λ (x : Branch). x.1) (sym (at-trie_of ls m p.within)) ∙ no_node in
          record {
            within = omega (arith, slot_within ls some m p.within node);
            is = ap (λ (k : ℕ). get_or (slots ls) k []) (zero_plus (leaves_before (trie_of ls) m)) ∙ slot-counted ls m p.within node ∙ p.is;
          };
    }
  where
    zero_plus : (k : ℕ) → 0 + k ≡ k
    zero_plus k = omega arith

pub searches_find : SearchesFind
searches_find ls v t l =
    let some = tall_by ls t in
    record {
      branch = found ls v t some l;
      no_branch = not_found ls v t some l;
      next = next_found ls v t some l;
      no_next = next_not ls v t some l;
      prev = prev_found ls v t some l;
      no_prev = prev_not ls v t some l;
      end = λ s e.
          let r = searched_slot s (branch_place (whole (trie_of ls)) v END) e in
          let p = found ls v t some l END r.0 (sym r.1) in
          let leaf = branches_lead ls r.0 (get_or (nodes ls) v [] ++ END ∷ []) t p in
          subst (λ (x : ℕ). IsSlotAt ls x (get_or (nodes ls) v [] ++ END ∷ [])) (sym r.2) (leaf.leaf (end_leads ls v t some l r.0 (sym r.1)));
      no_end = λ e. not_found ls v t some l END (omega arith) (unslotted (branch_place (whole (trie_of ls)) v END) e);
    }
  where
    searched_slot : (s : ℕ) (q : Option ℕ) → Some s ≡ option_map (slot_at (whole (trie_of ls))) q → (m : ℕ) × (q ≡ Some m) × (s ≡ slot_at (whole (trie_of ls)) m)
    searched_slot s None e = absurd (cc)
    searched_slot s (Some m) e = (m, refl, cc)

    unslotted : (q : Option ℕ) → None ≡ option_map (slot_at (whole (trie_of ls))) q → None ≡ q
    unslotted None e = refl
    unslotted (Some m) e = absurd (cc)
