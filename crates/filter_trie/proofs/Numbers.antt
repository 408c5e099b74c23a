-- A place of a half is the number of a branch in the one list of nodes.
use Rattle.std.proofs.Common.{◌≡◌, ℕ, ◌+◌, ◌-◌, ◌*◌, ◌/◌, ◌%◌, ◌<◌, ◌≤◌, ◌==◌, Bool, true, false, cond, Option, Some, None, List, [], ◌∷◌, ◌++◌, length, get_or, take, refl, ap, subst, sym, ◌∙◌, arith, inl, inr, length-append, nat_lt, nat_le, le-ltb}
use Rattle.std.specs.Prelude.{◌&&◌, count_by}
use Rattle.std.specs.Option.{option_map}
use Rattle.std.proofs.lemmas.Bool.{cases_lt, false≢true}
use Rattle.std.proofs.lemmas.List.{get_or_append_left, get_or-append-add, take_more}
use Rattle.std.proofs.lemmas.List.Sums.{sum_by-append}
use Rattle.std.proofs.lemmas.List.Quantifiers.{position-Some}
use Rattle.filter_image_model.proofs.Lists.{all_of}
use Rattle.filter_image_model.specs.Nodes.{IsDense}
use Rattle.filter_model.specs.Leaves.{Filter}
use Rattle.filter_model.specs.Image.{has_letter}
use Rattle.filter_model.specs.Nodes.{Branch, Node, all, at, children_before, first_place, leaves_before}
use Rattle.filter_model.specs.Trie.{END, nodes, places}
use Rattle.filter_trie.proofs.Halves.{begins_next, stands}
use Rattle.filter_trie.proofs.Parts.{dense_nodes, joined, length-nodes}
use Rattle.filter_trie.specs.Parts.{AreParts, lower, upper}
use Rattle.filter_trie.specs.Places.{BeginsAt, IsTaken, branch_number, trie}
use Rattle.filter_trie.specs.declared.place.Place.{Place}
use Rattle.filter_trie.specs.declared.place.Place.TheVariants as place
use Rattle.louds_dense.proofs.Branches.{first_end, last-some, places_are_of_branches}
use Rattle.louds_dense.proofs.Nodes.{count-cons}
use Rattle.louds_dense.proofs.Ranks.{before_within, node_within}
use Rattle.louds_dense.specs.Laws.{ArePlacesOf}
use Rattle.louds_dense.specs.Places as dense
use Rattle.suffix_bits.specs.Slots.{SuffixArray}
use Rattle.std.proofs.lemmas.List.Concat.{flat_map-append}
use Rattle.trie_laws.proofs.Places.{length-all}
use Rattle.trie_laws.proofs.Joining.{halves_join, second_half_counts_on}
use Rattle.trie_laws.specs.Halves.{second_half}
use Rattle.trie_model.specs.Branching.{branch_at, next_at, prev_at}
use Rattle.trie_model.specs.Halves.{Half, begin_of, branch_place, byte_at, child_at, end_slot, first_below, next_place, node_at, prev_place, slot_at, whole}

-- ---- what is searched for among a node's branches

-- what a search in node v of a half finds
abbrev pub found_in : (Node → Option ℕ) → Half → ℕ → Option ℕ
found_in f h v = option_map (λ i. begin_of h v + i) (f (node_at h v))

-- a search answers with a branch of the node
abbrev pub IsSearch : (Node → Option ℕ) → Type 0
IsSearch f = (n : Node) (i : ℕ) → f n ≡ Some i → i < length n

pub branch_search : (c : ℕ) → IsSearch (λ n. branch_at n c)
branch_search c n i e = (position-Some (λ (b : Branch). b.0 == c) n i (0, false) e).0

pub next_search : (c : ℕ) → IsSearch (λ n. next_at n c)
next_search c n i e = (position-Some (λ (b : Branch). nat_le c b.0 && nat_lt b.0 END) n i (0, false) e).0

pub prev_search : (c : ℕ) → IsSearch (λ n. prev_at n c)
prev_search c n i e = (last-some (λ (b : Branch). nat_lt b.0 c) n i e).0

-- ---- two halves

module _ (ds ss : List Node) (v : ℕ) where
  -- a node of the first half is searched as in the whole
  first_found : (f : Node → Option ℕ) → v < length ds → found_in f (whole ds) v ≡ found_in f (whole (ds ++ ss)) v
  first_found f l =
      let begins : first_place ds (v - 0) ≡ first_place (ds ++ ss) (v - 0) = sym ((halves_join ds ss).0.begins (v - 0) (omega (arith, l))) in
      let node : get_or ds (v - 0) [] ≡ get_or (ds ++ ss) (v - 0) [] = sym (get_or_append_left ds ss [] (v - 0) (omega (arith, l))) in
      λ j. option_map (λ i. begins j + i) (f (node j))

  -- and one of the second half, whose places stand behind those of the first
  second_node : length ds ≤ v → get_or ss (v - length ds) [] ≡ get_or (ds ++ ss) (v - 0) []
  second_node from = sym (ap (λ (k : ℕ). get_or (ds ++ ss) k []) (omega (arith, from)) ∙ get_or-append-add ds ss (v - length ds) [])

  second_begins : length ds ≤ v → length (all ds) + first_place ss (v - length ds) ≡ first_place (ds ++ ss) (v - 0)
  second_begins from = sym (ap (first_place (ds ++ ss)) (omega (arith, from)) ∙ (halves_join ds ss).1.begins (v - length ds))

  moved : (a b c : ℕ) (q : Option ℕ) → a + b ≡ c → option_map (λ p. a + p) (option_map (λ i. b + i) q) ≡ option_map (λ i. c + i) q
  moved a b c None e = refl
  moved a b c (Some i) e = ap (λ (k : ℕ). Some k) (omega (arith, e))

  second_found : (f : Node → Option ℕ) → length ds ≤ v → option_map (λ p. length (all ds) + p) (found_in f (second_half ds ss) v) ≡ found_in f (whole (ds ++ ss)) v
  second_found f from =
      moved (length (all ds)) (first_place ss (v - length ds)) (first_place (ds ++ ss) (v - 0)) (f (get_or ss (v - length ds) [])) (second_begins from)
      ∙ ap (λ (n : Node). option_map (λ i. first_place (ds ++ ss) (v - 0) + i) (f n)) (second_node from)

  second_taken : (f : Node → Option ℕ) → IsSearch f → length ds ≤ v → v < length (ds ++ ss) → (p : ℕ) → Some p ≡ found_in f (second_half ds ss) v → p < length (all ss)
  second_taken f s from to p = go (f (get_or ss (v - length ds) [])) refl
    where
      go : (q : Option ℕ) → f (get_or ss (v - length ds) []) ≡ q → Some p ≡ option_map (λ i. first_place ss (v - length ds) + i) q → p < length (all ss)
      go None h e = absurd (cc)
      go (Some i) h e =
          let is : p ≡ first_place ss (v - length ds) + i = cc in
          let l : v - length ds < length ss = omega (arith, from, to, length-append ds ss) in
          omega (arith, is, s (get_or ss (v - length ds) []) i h, begins_next ss (v - length ds) l, node_within ss (v - length ds + 1) (omega (arith, l)))

  -- END's slot
  whole_end : v < length ds → end_slot (whole ds) v ≡ end_slot (whole (ds ++ ss)) v
  whole_end l =
      slots (found_in (λ n. branch_at n END) (whole ds) v) (λ p e. within p e)
      ∙ ap (option_map (slot_at (whole (ds ++ ss)))) (first_found (λ n. branch_at n END) l)
    where
      slots : (q : Option ℕ) → ((p : ℕ) → q ≡ Some p → p ≤ length (all ds)) → option_map (slot_at (whole ds)) q ≡ option_map (slot_at (whole (ds ++ ss))) q
      slots None h = refl
      slots (Some p) h = ap (λ (k : ℕ). Some k) (omega (arith, (halves_join ds ss).0.leaves p (h p refl)))

      within : (p : ℕ) → found_in (λ n. branch_at n END) (whole ds) v ≡ Some p → p ≤ length (all ds)
      within p = go (branch_at (get_or ds (v - 0) []) END) refl
        where
          go : (q : Option ℕ) → branch_at (get_or ds (v - 0) []) END ≡ q → option_map (λ i. first_place ds (v - 0) + i) q ≡ Some p → p ≤ length (all ds)
          go None h e = absurd (cc)
          go (Some i) h e =
              let is : first_place ds (v - 0) + i ≡ p = cc in
              omega (arith, is, branch_search END (get_or ds (v - 0) []) i h, begins_next ds (v - 0) (omega (arith, l)), node_within ds (v - 0 + 1) (omega (arith, l)))

  second_end : length ds ≤ v → end_slot (second_half ds ss) v ≡ end_slot (whole (ds ++ ss)) v
  second_end from = slots (branch_place (second_half ds ss) v END) ∙ ap (option_map (slot_at (whole (ds ++ ss)))) (second_found (λ n. branch_at n END) from)
    where
      slots : (q : Option ℕ) → option_map (slot_at (second_half ds ss)) q ≡ option_map (slot_at (whole (ds ++ ss))) (option_map (λ p. length (all ds) + p) q)
      slots None = refl
      slots (Some p) = ap (λ (k : ℕ). Some k) (second_half_counts_on ds ss p).slot

-- ---- the trie

module _ {i : Filter} {cutoff levels : ℕ} {dense' : List Node} {sparse : Half} {array : SuffixArray} (s : AreParts i cutoff levels dense' sparse array) where
  abbrev ds : List Node
  ds = upper i.cutoff i.leaves

  abbrev ss : List Node
  ss = lower i.cutoff i.leaves

  law : ArePlacesOf ds
  law = places_are_of_branches ds (all_of IsDense ds (dense_nodes s))

  is_trie : whole (ds ++ ss) ≡ trie i
  is_trie = ap whole (joined i)

  pub both : (v : ℕ) → v < length (nodes i.leaves) → v < length (ds ++ ss)
  both v l = omega (arith, l, length-nodes i)

  pub inside : (v : ℕ) → v < length dense' → v < length ds
  inside v l = omega (arith, l, ap length s.dense_is)

  pub behind : (v : ℕ) → (v < length dense' → false ≡ true) → length ds ≤ v
  behind v out = elim (cases_lt v (length dense')) [
    | inl here ↦ absurd (false≢true (out here))
    | inr past ↦ omega (arith, past, ap length s.dense_is)
  ]

  -- what the dense half finds
  pub dense_branch_is : (r : Option ℕ) (v c : ℕ) → v < length ds → c < 256 → r ≡ dense.branch_place ds v c → option_map (dense.branches_before ds) r ≡ branch_place (trie i) v c
  dense_branch_is r v c l f e = ap (option_map (dense.branches_before ds)) e ∙ law.branch v c l f ∙ first_found ds ss v (λ n. branch_at n c) l ∙ ap (λ (h : Half). branch_place h v c) is_trie

  pub dense_next_is : (r : Option ℕ) (v c : ℕ) → v < length ds → c ≤ 256 → r ≡ dense.next_place ds v c → option_map (dense.branches_before ds) r ≡ next_place (trie i) v c
  dense_next_is r v c l f e = ap (option_map (dense.branches_before ds)) e ∙ law.next v c l f ∙ first_found ds ss v (λ n. next_at n c) l ∙ ap (λ (h : Half). next_place h v c) is_trie

  pub dense_prev_is : (r : Option ℕ) (v c : ℕ) → v < length ds → c ≤ 256 → r ≡ dense.prev_place ds v c → option_map (dense.branches_before ds) r ≡ prev_place (trie i) v c
  dense_prev_is r v c l f e = ap (option_map (dense.branches_before ds)) e ∙ law.prev v c l f ∙ first_found ds ss v (λ n. prev_at n c) l ∙ ap (λ (h : Half). prev_place h v c) is_trie

  pub dense_branch_taken : (v c p : ℕ) → v < length ds → c < 256 → Some p ≡ dense.branch_place ds v c → dense.IsTaken ds p
  dense_branch_taken = law.branch_taken

  pub dense_next_taken : (v c p : ℕ) → v < length ds → c ≤ 256 → Some p ≡ dense.next_place ds v c → dense.IsTaken ds p
  dense_next_taken = law.next_taken

  pub dense_prev_taken : (v c p : ℕ) → v < length ds → c ≤ 256 → Some p ≡ dense.prev_place ds v c → dense.IsTaken ds p
  dense_prev_taken = law.prev_taken

  -- and what the sparse half finds
  pub sparse_branch_is : (r : Option ℕ) (v c : ℕ) → length ds ≤ v → r ≡ branch_place (second_half ds ss) v c → option_map (λ p. length (all ds) + p) r ≡ branch_place (trie i) v c
  sparse_branch_is r v c from e = ap (option_map (λ p. length (all ds) + p)) e ∙ second_found ds ss v (λ n. branch_at n c) from ∙ ap (λ (h : Half). branch_place h v c) is_trie

  pub sparse_next_is : (r : Option ℕ) (v c : ℕ) → length ds ≤ v → r ≡ next_place (second_half ds ss) v c → option_map (λ p. length (all ds) + p) r ≡ next_place (trie i) v c
  sparse_next_is r v c from e = ap (option_map (λ p. length (all ds) + p)) e ∙ second_found ds ss v (λ n. next_at n c) from ∙ ap (λ (h : Half). next_place h v c) is_trie

  pub sparse_prev_is : (r : Option ℕ) (v c : ℕ) → length ds ≤ v → r ≡ prev_place (second_half ds ss) v c → option_map (λ p. length (all ds) + p) r ≡ prev_place (trie i) v c
  sparse_prev_is r v c from e = ap (option_map (λ p. length (all ds) + p)) e ∙ second_found ds ss v (λ n. prev_at n c) from ∙ ap (λ (h : Half). prev_place h v c) is_trie

  pub sparse_taken : (f : Node → Option ℕ) → IsSearch f → (v p : ℕ) → length ds ≤ v → v < length (nodes i.leaves) → Some p ≡ found_in f (second_half ds ss) v → p < length (all ss)
  sparse_taken f search v p from to e = second_taken ds ss v f search from (both v to) p e

  -- where they lead
  pub dense_child_is : (p : ℕ) → dense.IsTaken ds p → dense.child_at ds p ≡ child_at (trie i) (dense.branches_before ds p)
  dense_child_is p taken =
      let n = dense.branches_before ds p in
      let k = (halves_join ds ss).0 in
      law.child p taken
      ∙ (λ j. cond (sym (ap (λ (b : Branch). b.1) (k.branches n (law.number p taken))) j) (Some (0 + sym (k.children n (omega (arith, law.number p taken))) j + 1)) None)
      ∙ ap (λ (h : Half). child_at h n) is_trie

  pub dense_byte_is : (p : ℕ) → dense.IsTaken ds p → p % 256 ≡ byte_at (trie i) (dense.branches_before ds p)
  dense_byte_is p taken =
      let n = dense.branches_before ds p in
      law.byte p taken ∙ ap (λ (b : Branch). cond {A = ℕ} (b.0 == END) 255 b.0) (sym ((halves_join ds ss).0.branches n (law.number p taken))) ∙ ap (λ (h : Half). byte_at h n) is_trie

  pub sparse_child_is : (p : ℕ) → child_at (second_half ds ss) p ≡ child_at (trie i) (length (all ds) + p)
  sparse_child_is p = (second_half_counts_on ds ss p).child ∙ ap (λ (h : Half). child_at h (length (all ds) + p)) is_trie

  pub sparse_byte_is : (p : ℕ) → byte_at (second_half ds ss) p ≡ byte_at (trie i) (length (all ds) + p)
  sparse_byte_is p = ap (λ (b : Branch). cond {A = ℕ} (b.0 == END) 255 b.0) (sym ((halves_join ds ss).1.branches p)) ∙ ap (λ (h : Half). byte_at h (length (all ds) + p)) is_trie

  -- what stands before them
  pub dense_slot_is : (n : ℕ) → n ≤ length (all ds) → leaves_before ds n ≡ slot_at (trie i) n
  dense_slot_is n l = sym ((halves_join ds ss).0.leaves n l) ∙ plus (leaves_before (ds ++ ss) n) ∙ ap (λ (h : Half). slot_at h n) is_trie
    where
      plus : (k : ℕ) → k ≡ 0 + k
      plus k = omega arith

  pub dense_below_is : (n : ℕ) → n ≤ length (all ds) → children_before ds n + 1 ≡ first_below (trie i) n
  dense_below_is n l = ap (λ (k : ℕ). k + 1) (sym ((halves_join ds ss).0.children n l)) ∙ plus (children_before (ds ++ ss) n) ∙ ap (λ (h : Half). first_below h n) is_trie
    where
      plus : (k : ℕ) → k + 1 ≡ 0 + k + 1
      plus k = omega arith

  pub dense_number : (p : ℕ) → dense.branches_before ds p ≤ length (all ds)
  dense_number p = before_within ds p (dense_nodes s)

  pub sparse_slot_is : (p : ℕ) → slot_at (second_half ds ss) p ≡ slot_at (trie i) (length (all ds) + p)
  sparse_slot_is p = (second_half_counts_on ds ss p).slot ∙ ap (λ (h : Half). slot_at h (length (all ds) + p)) is_trie

  pub sparse_below_is : (p : ℕ) → first_below (second_half ds ss) p ≡ first_below (trie i) (length (all ds) + p)
  sparse_below_is p = (second_half_counts_on ds ss p).below ∙ ap (λ (h : Half). first_below h (length (all ds) + p)) is_trie

  pub dense_end_is : (v : ℕ) → v < length ds → dense.end_slot ds v ≡ end_slot (trie i) v
  dense_end_is v l = law.end v l ∙ whole_end ds ss v l ∙ ap (λ (h : Half). end_slot h v) is_trie

  pub sparse_end_is : (v : ℕ) → length ds ≤ v → end_slot (second_half ds ss) v ≡ end_slot (trie i) v
  sparse_end_is v from = second_end ds ss v from ∙ ap (λ (h : Half). end_slot h v) is_trie

  -- ---- where nodes begin

  zero_less : (v : ℕ) → v ≡ v - 0
  zero_less v = omega arith

  pub first_begins : (v : ℕ) → v ≤ length ds → first_place ds v ≡ begin_of (trie i) v
  first_begins v l = sym ((halves_join ds ss).0.begins v l) ∙ ap (first_place (ds ++ ss)) (zero_less v) ∙ ap (λ (h : Half). begin_of h v) is_trie

  pub dense_before : (v : ℕ) → v < length ds → dense.node_slot ds v ≡ slot_at (trie i) (begin_of (trie i) v)
  dense_before v l = dense_slot_is (first_place ds v) (node_within ds v (omega (arith, l))) ∙ ap (slot_at (trie i)) (first_begins v (omega (arith, l)))

  pub sparse_begins : (v : ℕ) → length ds ≤ v → length (all ds) + begin_of (second_half ds ss) v ≡ begin_of (trie i) v
  sparse_begins v from = second_begins ds ss v from ∙ ap (λ (h : Half). begin_of h v) is_trie

  pub sparse_node : (v : ℕ) → length ds ≤ v → node_at (trie i) v ≡ get_or ss (v - length ds) []
  sparse_node v from = sym (second_node ds ss v from ∙ ap (λ (h : Half). node_at h v) is_trie)

  pub sparse_before : (v : ℕ) → length ds ≤ v → slot_at (second_half ds ss) (begin_of (second_half ds ss) v) ≡ slot_at (trie i) (begin_of (trie i) v)
  sparse_before v from = sparse_slot_is (begin_of (second_half ds ss) v) ∙ ap (slot_at (trie i)) (sparse_begins v from)

  pub sparse_behind : (v : ℕ) → v ≤ length (nodes i.leaves) → v ≤ length ds + length ss
  sparse_behind v l = omega (arith, l, length-nodes i, length-append ds ss)

  pub sparse_within : (v p : ℕ) → length ds ≤ v → v ≤ length (nodes i.leaves) → p ≡ begin_of (second_half ds ss) v → p ≤ length (all ss)
  sparse_within v p from to e = omega (arith, e, node_within ss (v - length ds) (omega (arith, from, sparse_behind v to)))

  pub sparse_begins_at : (v p : ℕ) → length ds ≤ v → p ≡ begin_of (second_half ds ss) v → BeginsAt (trie i) v (length (all ds) + p)
  sparse_begins_at v p from e =
      let is : length (all ds) + p ≡ begin_of (trie i) v = ap (λ (k : ℕ). length (all ds) + k) e ∙ sparse_begins v from in
      record { number = inl is; below = ap (first_below (trie i)) is }

  -- a dense node's first place is behind its END
  dense_first : (v : ℕ) → dense.branches_before ds (256 * v) ≡ first_place ds v + dense.ahead_of 0 (dense.node_at ds v)
  dense_first v =
      let q : 256 * v / 256 ≡ v = omega arith in
      let r : 256 * v % 256 ≡ 0 = omega arith in
      λ j. first_place ds (q j) + dense.ahead_of (r j) (dense.node_at ds (q j))

  none_less : (n : Node) → count_by (λ (b : Branch). nat_lt b.0 0) n ≡ 0
  none_less [] = refl
  none_less (b ∷ n) = omega (arith, count-cons (λ (x : Branch). nat_lt x.0 0) b n, ap (λ (t : Bool). cond {A = ℕ} t 1 0) (le-ltb b.0 0 (omega arith)), none_less n)

  ends_first : (v : ℕ) (t : Bool) → has_letter (dense.node_at ds v) END ≡ t → dense.branches_before ds (256 * v) ≡ first_place ds v + cond t 1 0
  ends_first v t h = omega (arith, dense_first v, ap (λ (b : Bool). cond {A = ℕ} b 1 0) h, none_less (dense.node_at ds v))

  -- END leads to no node
  no_child : (p : ℕ) → p < length (all ds) → (at ds p).1 ≡ false → children_before ds (p + 1) ≡ children_before ds p
  no_child p l off =
      ap (count_by (λ (b : Branch). b.1)) (take_more (all ds) p (0, false) l)
      ∙ sum_by-append (λ (b : Branch). cond b.1 1 0) (take p (all ds)) (at ds p ∷ [])
      ∙ omega (arith, count-cons (λ (b : Branch). b.1) (at ds p) [], ap (λ (t : Bool). cond {A = ℕ} t 1 0) off)

  pub same_node : (v : ℕ) → v < length ds → dense.node_at ds v ≡ node_at (trie i) v
  same_node v l = sym (get_or_append_left ds ss [] v l) ∙ ap (λ (k : ℕ). get_or (ds ++ ss) k []) (zero_less v) ∙ ap (λ (h : Half). node_at h v) is_trie

  pub dense_begins_at : (v p : ℕ) → v < length ds → p ≡ 256 * v → BeginsAt (trie i) v (dense.branches_before ds p)
  dense_begins_at v p l e = subst (λ (x : ℕ). BeginsAt (trie i) v (dense.branches_before ds x)) (sym e) (go (has_letter (dense.node_at ds v) END) refl)
    where
      first : first_place ds v ≡ begin_of (trie i) v
      first = first_begins v (omega (arith, l))

      go : (t : Bool) → has_letter (dense.node_at ds v) END ≡ t → BeginsAt (trie i) v (dense.branches_before ds (256 * v))
      go true h =
          let n : dense.branches_before ds (256 * v) ≡ first_place ds v + 1 = ends_first v true h in
          let end = first_end (dense.node_at ds v) (all_of IsDense ds (dense_nodes s) v [] l) h in
          let in' : first_place ds v < length (all ds) = omega (arith, begins_next ds v l, end.0, node_within ds (v + 1) (omega (arith, l))) in
          let off : (at ds (first_place ds v)).1 ≡ false = ap (λ (k : ℕ). (at ds k).1) (plus (first_place ds v)) ∙ ap (λ (b : Branch). b.1) (stands ds v l 0 end.0 ∙ end.1) in
          record {
            number = inr (ap (λ (m : Node). has_letter m END) (sym (same_node v l)) ∙ h, omega (arith, n, first));
            below =
                ap (first_below (trie i)) n ∙ sym (dense_below_is (first_place ds v + 1) (omega (arith, in')))
                ∙ ap (λ (k : ℕ). k + 1) (no_child (first_place ds v) in' off)
                ∙ dense_below_is (first_place ds v) (omega (arith, in')) ∙ ap (first_below (trie i)) first;
          }
        where
          plus : (k : ℕ) → k ≡ k + 0
          plus k = omega arith
      go false h =
          let is : dense.branches_before ds (256 * v) ≡ begin_of (trie i) v = omega (arith, ends_first v false h, first) in
          record { number = inl is; below = ap (first_below (trie i)) is }

  -- ---- the number of a branch

  total : length (all ds) + length (all ss) ≡ length (places i.leaves)
  total =
      sym (length-append (all ds) (all ss)) ∙ ap (length {A = Branch}) (sym (flat_map-append (λ (n : Node). n) ds ss))
      ∙ ap (λ (ns : List Node). length (all ns)) (joined i) ∙ length-all i.leaves

  pub number_within : (p : Place) → IsTaken i p → branch_number i p < length (places i.leaves)
  number_within (place.Dense p) t = omega (arith, law.number p t, total)
  number_within (place.Sparse p) t = omega (arith, t, total)
