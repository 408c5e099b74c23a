-- Down by a byte of a bound.
use Rattle.std.proofs.Common.{◌≡◌, ℕ, suc, ◌+◌, ◌-◌, ◌*◌, ◌<◌, ◌≤◌, Bool, true, false, cond, Option, Some, None, List, [], ◌∷◌, ◌++◌, length, get_or, map, refl, ap, subst, sym, ◌∙◌, arith, inl, inr, eqb, nat_lt, le-ltb, lt-ltb}
use Rattle.std.specs.Prelude.{is_some}
use Rattle.std.specs.List.{AllByRecursion}
use Rattle.std.specs.Option.{option_map}
use Rattle.std.proofs.lemmas.Bool.{cases_eq, cases_lt, eqb-true, false≢true, ne_eqb, or_cases}
use Rattle.filter_image_model.proofs.GroupWords.{Group, among, heads, is_cons}
use Rattle.filter_image_model.proofs.Link.{node-rests, reached-rests, rests-push}
use Rattle.filter_image_model.proofs.Paths.{IsFine, Small, fine_paths, heads_some, own_group}
use Rattle.filter_image_model.proofs.Sizes.{some_height}
use Rattle.filter_image_model.proofs.Sorted.{HeadsIn}
use Rattle.filter_image_model.proofs.Unique.{IsOwn}
use Rattle.filter_iter.proofs.Counts.{by_nodes, by_place, more_nodes}
use Rattle.filter_iter.proofs.Starts.{begins}
use Rattle.filter_iter.proofs.Steps.{IsDown, one_more, step_counts}
use Rattle.filter_iter.specs.Borders.{IsBorder, IsTurn, IsTurnAt, leaves_at}
use Rattle.filter_iter.specs.Counts.{below_first}
use Rattle.filter_iter.specs.declared.parts.Border.{Border}
use Rattle.filter_iter.specs.declared.parts.Turn.{Turn}
use Rattle.filter_iter.specs.declared.parts.Turn.TheVariants as turn
use Rattle.filter_model.specs.Image.{label_of}
use Rattle.filter_model.specs.Leaves.{Leaf}
use Rattle.filter_model.specs.Nodes.{Branch, Node, at, first_place, last_letter, trie_of}
use Rattle.filter_model.specs.Trie.{height, is_reached, nodes, path}
use Rattle.filter_model.specs.Valid.{IsLeafList}
use Rattle.filter_trie.proofs.Down.{node_passes}
use Rattle.filter_trie.proofs.Finding.{branches_lead, searches_find}
use Rattle.filter_trie.proofs.Halves.{begins_next}
use Rattle.filter_trie.proofs.Numbers.{IsSearch, branch_search, found_in, next_search}
use Rattle.filter_trie.proofs.Starts.{rests_fine, start-push}
use Rattle.filter_trie.specs.Laws.{IsByteBranch, NoneBetween}
use Rattle.filter_trie.specs.Walks.{IsNodeAt, IsSlotAt}
use Rattle.trie_laws.proofs.Forms.{order-byte}
use Rattle.trie_laws.proofs.NodeLists.{height_above}
use Rattle.trie_laws.proofs.Places.{at-trie_of, last_letter-push, length-trie_of}
use Rattle.trie_levels.proofs.Totals.{valid_lists_have_tries}
use Rattle.trie_levels.specs.Tries.{HasTrie}
use Rattle.trie_model.specs.Branching.{branch_at, next_at}
use Rattle.trie_model.specs.Halves.{Half, begin_of, branch_place, byte_at, child_at, first_below, next_place, node_at, slot_at, whole}
use Rattle.trie_model.specs.Letters.{order_of}
use Rattle.trie_model.specs.Rests.{ahead, first_leaf, leaves_below, rests, tails}

-- ---- where a branch leads, by whether it leads on

some_if : (b : Bool) (k : ℕ) → is_some (cond b (Some k) None) ≡ b
some_if true k = refl
some_if false k = refl

pub leads_bit : (h : Half) (n : ℕ) → is_some (child_at h n) ≡ (at h.nodes n).1
leads_bit h n = some_if (at h.nodes n).1 (first_below h n)

pub child_if : (h : Half) (n : ℕ) → true ≡ is_some (child_at h n) → Some (first_below h n) ≡ child_at h n
child_if h n on = ap (λ (b : Bool). cond b (Some (first_below h n)) None) (on ∙ leads_bit h n)

pub no_child_if : (h : Half) (n : ℕ) → false ≡ is_some (child_at h n) → None ≡ child_at h n
no_child_if h n off = ap (λ (b : Bool). cond b (Some (first_below h n)) None) (off ∙ leads_bit h n)

-- ---- how many strings begin before a letter

by_among : (P : ℕ → Type 0) (a : ℕ) (cs : List ℕ) → AllByRecursion P cs → among a cs ≡ true → P a
by_among P a [] w e = absurd (false≢true e)
by_among P a (c ∷ cs) w e = elim (or_cases (eqb c a) (among a cs) e) [
  | inl same ↦ subst P (eqb-true c a same) w.0
  | inr later ↦ by_among P a cs w.1 later
]

ahead_same : (c d : ℕ) (cs : List ℕ) (g : Group) → ((a : ℕ) → among a cs ≡ true → nat_lt (order_of a) (order_of c) ≡ nat_lt (order_of a) (order_of d)) → HeadsIn cs g → ahead c g ≡ ahead d g
ahead_same c d cs [] w h = refl
ahead_same c d cs ([] ∷ g) w h = absurd h
ahead_same c d cs ((a ∷ x) ∷ g) w h = λ j. cond {A = ℕ} (w a h.0 j) 1 0 + ahead_same c d cs g w h.1 j

ahead_all : (c : ℕ) (cs : List ℕ) (g : Group) → ((a : ℕ) → a ≤ 256 → among a cs ≡ true → order_of a < order_of c) → HeadsIn cs g → Small g → ahead c g ≡ length g
ahead_all c cs [] w h s = refl
ahead_all c cs ([] ∷ g) w h s = absurd h
ahead_all c cs ((a ∷ x) ∷ g) w h s = omega (arith, ahead_all c cs g w h.1 s.1, ap (λ (t : Bool). cond {A = ℕ} t 1 0) (lt-ltb (order_of a) (order_of c) (w a s.0.0 h.0)))

both_less : (x y z : ℕ) → x < y → x < z → nat_lt x y ≡ nat_lt x z
both_less x y z l m = lt-ltb x y l ∙ sym (lt-ltb x z m)

none_less : (x y z : ℕ) → y ≤ x → z ≤ x → nat_lt x y ≡ nat_lt x z
none_less x y z l m = le-ltb x y l ∙ sym (le-ltb x z m)

order_high : (a : ℕ) → 256 < a → order_of a ≡ suc a
order_high a l = ap (λ (t : Bool). cond t 0 (suc a)) (ne_eqb a 256 (λ e. omega (arith, l, e)))

module _ (hash_bits real_bits : ℕ) (ls : List Leaf) (valid : IsLeafList hash_bits real_bits ls) (v c : ℕ) (l : v < length (nodes ls)) (byte : c < 256) where
  abbrev ns : List Node
  ns = trie_of ls

  abbrev p : List ℕ
  p = get_or (nodes ls) v []

  abbrev g : Group
  g = rests p (map path ls)

  has : HasTrie ls
  has = valid_lists_have_tries hash_bits real_bits ls valid

  high : 0 < height ls
  high = some_height hash_bits real_bits ls valid

  fine : IsFine (height ls) g
  fine = rests_fine p (height ls) (map path ls) (fine_paths hash_bits real_bits ls valid (height ls) (omega arith)) (sym (node-rests ls p) ∙ node_passes ls high v l)

  own : IsOwn g
  own = own_group (height ls) g fine

  reached : (a : ℕ) → among a (heads g) ≡ true → is_reached ls (p ++ a ∷ []) ≡ true
  reached a e =
      reached-rests ls (p ++ a ∷ []) ∙ ap is_cons (rests-push p a (map path ls)) ∙ by_among (λ b. is_cons (tails b g) ≡ true) a (heads g) (heads_some g) e

  not_between : (d a : ℕ) → NoneBetween ls v c d → c ≤ a → a < d → among a (heads g) ≡ true → ⊥
  not_between d a none from to e = false≢true (sym (none a from to) ∙ reached a e)

  same_side : (d : ℕ) → c ≤ d → d < 256 → NoneBetween ls v c d → (a : ℕ) → among a (heads g) ≡ true → nat_lt (order_of a) (order_of c) ≡ nat_lt (order_of a) (order_of d)
  same_side d up small none a e =
      let oc = order-byte c byte in
      let od = order-byte d small in
      elim (cases_lt a 256) [
        | inl is_byte ↦
            let oa = order-byte a is_byte in
            elim (cases_lt a c) [
              | inl less ↦ both_less (order_of a) (order_of c) (order_of d) (omega (arith, oa, oc, less)) (omega (arith, oa, od, less, up))
              | inr from ↦ elim (cases_lt a d) [
                | inl to ↦ absurd (not_between d a none from to e)
                | inr more ↦ none_less (order_of a) (order_of c) (order_of d) (omega (arith, oa, oc, from)) (omega (arith, oa, od, more))
              ]
            ]
        | inr other ↦ elim (cases_eq a 256) [
          | inl end ↦ both_less (order_of a) (order_of c) (order_of d) (omega (arith, ap order_of end, oc)) (omega (arith, ap order_of end, od))
          | inr apart ↦
              let oa = order_high a (omega (arith, other, apart)) in
              none_less (order_of a) (order_of c) (order_of d) (omega (arith, oa, oc, byte, other)) (omega (arith, oa, od, small, other))
        ]
      ]

  -- where no branch stands between, as many leaves come before
  pub first_same : (d : ℕ) → c ≤ d → d < 256 → NoneBetween ls v c d → first_leaf ls (p ++ c ∷ []) ≡ first_leaf ls (p ++ d ∷ [])
  first_same d up small none =
      start-push p c (map path ls) ∙ ap (λ (n : ℕ). first_leaf ls p + n) (ahead_same c d (heads g) g (same_side d up small none) own.within) ∙ sym (start-push p d (map path ls))

  all_before : NoneBetween ls v c 256 → (a : ℕ) → a ≤ 256 → among a (heads g) ≡ true → order_of a < order_of c
  all_before none a small e =
      let oc = order-byte c byte in
      elim (cases_lt a 256) [
        | inl is_byte ↦
            let oa = order-byte a is_byte in
            elim (cases_lt a c) [
              | inl less ↦ omega (arith, oa, oc, less)
              | inr from ↦ absurd (not_between 256 a none from is_byte e)
            ]
        | inr other ↦ let end : a ≡ 256 = omega (arith, small, other) in omega (arith, ap order_of end, oc)
      ]

  -- and where none stands behind, all of the node's do
  pub first_whole : NoneBetween ls v c 256 → first_leaf ls (p ++ c ∷ []) ≡ first_leaf ls p + leaves_below ls p
  first_whole none = start-push p c (map path ls) ∙ ap (λ (n : ℕ). first_leaf ls p + n) (ahead_all c (heads g) g (all_before none) own.within fine.small)

  -- ---- a branch of the node

  in_list : v < length ns
  in_list = omega (arith, l, length-trie_of ls)

  own_place : (f : Node → Option ℕ) → IsSearch f → (m : ℕ) → Some m ≡ found_in f (whole ns) v → (first_place ns v ≤ m) × (m < first_place ns (v + 1))
  own_place f search m e = go (f (node_at (whole ns) v)) refl e
    where
      go : (q : Option ℕ) → f (node_at (whole ns) v) ≡ q → Some m ≡ option_map (λ i. begin_of (whole ns) v + i) q → (first_place ns v ≤ m) × (m < first_place ns (v + 1))
      go None h x = absurd (cc)
      go (Some i) h x =
          let sum : m ≡ begin_of (whole ns) v + i = cc in
          let same : v - 0 ≡ v = omega arith in
          let within : i < length (get_or ns v []) = omega (arith, search (node_at (whole ns) v) i h, ap (λ (k : ℕ). length (get_or ns k [])) same) in
          (omega (arith, sum, begins ns v), omega (arith, sum, begins ns v, within, begins_next ns v in_list))

  -- the one at place m is the first from the byte on
  pub record StandsFrom (m : ℕ) : Type 0 where
    pub found : (d : ℕ) × (c ≤ d) × IsByteBranch ls v d m × NoneBetween ls v c d
    pub place : (first_place ns v ≤ m) × (m < first_place ns (v + 1))

  pub by_next : (m : ℕ) → Some m ≡ next_place (whole ns) v c → StandsFrom m
  by_next m e = record { found = (searches_find ls v has l).next c m e; place = own_place (λ n. next_at n c) (next_search c) m e }

  -- so is the byte's own
  pub by_branch : (m : ℕ) → Some m ≡ branch_place (whole ns) v c → StandsFrom m
  by_branch m e = record {
    found = (c, omega arith, record { byte = byte; place = (searches_find ls v has l).branch c m e }, λ a from to. absurd (omega (arith, from, to)));
    place = own_place (λ n. branch_at n c) (branch_search c) m e;
  }

  -- ---- the border below

  pub node_high : length p < height ls
  node_high = height_above ls p (node_passes ls high v l)

  module _ (b c' : Border) (is : IsBorder ls (length p) b) (at_node : b.node ≡ v) (before : leaves_at ls (length p) b ≡ first_leaf ls p) where
    here : b.sum + below_first ls v ≡ first_leaf ls p + length p * length ls
    here = omega (arith, before, is.counted, ap (below_first ls) at_node)

    -- the node has no branch from the byte on
    pub behind_node : None ≡ next_place (whole ns) v c → IsDown hash_bits real_bits ls valid (first_place ns (v + 1)) b c' → leaves_at ls (length p + 1) c' ≡ first_leaf ls (p ++ c ∷ [])
    behind_node e d =
        let none = (searches_find ls v has l).no_next c e in
        omega (
          arith,
          here,
          step_counts hash_bits real_bits ls valid (first_place ns (v + 1)) b c' d,
          by_nodes hash_bits real_bits ls valid (v + 1) (omega (arith, l)),
          more_nodes hash_bits real_bits ls valid v l,
          first_whole none,
          one_more (length p) (length ls),
        )

    pub turns_nowhere : None ≡ next_place (whole ns) v c → is_reached ls (p ++ c ∷ []) ≡ false
    turns_nowhere e = (searches_find ls v has l).no_next c e c (omega arith) byte

    -- or its first one stands at place m
    module _ (m : ℕ) (stand : StandsFrom m) where
      found : (d : ℕ) × (c ≤ d) × IsByteBranch ls v d m × NoneBetween ls v c d
      found = stand.found

      pub is_down : c'.node ≡ first_below (whole ns) m → c'.sum ≡ b.sum + slot_at (whole ns) m → IsDown hash_bits real_bits ls valid m b c'
      is_down node sum = record { place = let f = found in omega (arith, f.2.place.within); from = omega (arith, stand.place.0, ap (first_place ns) at_node); node = node; sum = sum }

      pub at_place : IsDown hash_bits real_bits ls valid m b c' → leaves_at ls (length p + 1) c' ≡ first_leaf ls (p ++ c ∷ [])
      at_place d =
          let f = found in
          omega (
            arith,
            here,
            step_counts hash_bits real_bits ls valid m b c' d,
            by_place hash_bits real_bits ls valid v m l stand.place.0 stand.place.1,
            first_same f.0 f.1 f.2.byte f.3,
            ap (first_leaf ls) f.2.place.is,
            one_more (length p) (length ls),
          )

      byte_is : byte_at (whole ns) m ≡ found.0
      byte_is =
          let f = found in
          let letter : (at ns m).0 ≡ f.0 = ap (λ (x : Branch). x.0) (at-trie_of ls m f.2.place.within) ∙ ap last_letter f.2.place.is ∙ last_letter-push p f.0 in
          ap label_of letter ∙ ap (λ (t : Bool). cond t 255 f.0) (ne_eqb f.0 256 (λ x. omega (arith, x, f.2.byte)))

      pub leads : (t : Turn) → c'.node ≡ first_below (whole ns) m → IsTurnAt (whole ns) m c t → IsTurn ls (p ++ c ∷ []) c' t
      leads turn.Nowhere node w = let f = found in f.3 c (omega arith) (omega (arith, f.1, apart))
        where
          apart : found.0 ≡ c → ⊥
          apart x = w (byte_is ∙ x)
      leads (turn.Leaf slot) node w =
          let f = found in
          let is_c : f.0 ≡ c = sym byte_is ∙ w.0 in
          subst (λ (s : ℕ). IsSlotAt ls s (p ++ c ∷ [])) (sym w.2)
          ((branches_lead ls m (p ++ c ∷ []) has (record { within = f.2.place.within; is = f.2.place.is ∙ ap (λ (d : ℕ). p ++ d ∷ []) is_c })).leaf w.1)
      leads turn.Node node w =
          let f = found in
          let is_c : f.0 ≡ c = sym byte_is ∙ w.0 in
          subst (λ (n : ℕ). IsNodeAt ls n (p ++ c ∷ [])) (sym node)
          ((branches_lead ls m (p ++ c ∷ []) has (record { within = f.2.place.within; is = f.2.place.is ∙ ap (λ (d : ℕ). p ++ d ∷ []) is_c })).child (first_below (whole ns) m) w.1)

    -- the byte's own branch leads on, or to the leaf of the next slot
    pub own_leads : (m : ℕ) → Some m ≡ branch_place (whole ns) v c → (on : Bool) (slots : ℕ) → on ≡ is_some (child_at (whole ns) m) → slots ≡ slot_at (whole ns) m → c'.node ≡ first_below (whole ns) m
        → IsTurn ls (p ++ c ∷ []) c' (cond on turn.Node (turn.Leaf slots))
    unfolding found by_branch
    own_leads m e true slots on is node = leads m (by_branch m e) turn.Node node (byte_is m (by_branch m e), child_if (whole ns) m on)
    own_leads m e false slots on is node = leads m (by_branch m e) (turn.Leaf slots) node (byte_is m (by_branch m e), no_child_if (whole ns) m on, is)
