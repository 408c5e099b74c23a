-- The places of a dense half are numbers of branches in its nodes as one list.
use Rattle.std.proofs.Common.{◌≡◌, ℕ, suc, ◌+◌, ◌-◌, ◌*◌, ◌/◌, ◌%◌, ◌<◌, ◌≤◌, ◌==◌, Bool, true, false, cond, Option, Some, None, List, [], ◌∷◌, ◌++◌, length, get_or, refl, ap, subst, sym, ◌∙◌, arith, inl, inr, nat_lt, nat_le}
use Rattle.std.specs.Prelude.{◌&&◌, count_by, min, take}
use Rattle.std.specs.List.{AllByRecursion}
use Rattle.std.specs.Option.{option_map}
use Rattle.std.proofs.lemmas.Bool.{and_parts, cases_Bool, cases_order, eq-eqb, false≢true, ltb-true, ne_eqb}
use Rattle.std.proofs.lemmas.List.Folds.{length-flat_map-take}
use Rattle.std.proofs.lemmas.List.Sums.{sum_by-take-le}
use Rattle.std.proofs.lemmas.List.{take-take}
use Rattle.std.proofs.lemmas.List.Quantifiers.{position-Some}
use Rattle.bit_words.specs.Counts.{rank_of}
use Rattle.filter_image_model.proofs.Lists.{all_of, by_recursion}
use Rattle.filter_image_model.specs.Nodes.{IsDense}
use Rattle.filter_image_model.proofs.RisingBytes.{RisingBytes, rising_bytes}
use Rattle.filter_model.specs.Image.{dense_ends, dense_labels, has_child, has_letter, label_of}
use Rattle.filter_model.specs.Nodes.{Branch, Node, all, at, first_place, leaves_before}
use Rattle.filter_model.specs.Trie.{END}
use Rattle.louds_dense.specs.Laws.{PlacesAreOfBranches}
use Rattle.louds_dense.specs.Places.{IsTaken, ahead_of, branch_place, branch_place_of, branches_before, child_at, end_slot, first_below, next_place, node_at, places_in, prev_place}
use Rattle.louds_dense.proofs.Ranks.{AreRanked, ahead, branch_of_byte, no_end, ranks_at}
use Rattle.louds_dense.proofs.Searches.{bytes_rise, letter_there, position_none, position_some}
use Rattle.trie_model.specs.Branching.{branch_at, last_position, later, next_at, prev_at}
use Rattle.trie_model.specs.Halves as list

-- ---- options

mapped : (f g : ℕ → ℕ) (q : Option ℕ) → ((i : ℕ) → q ≡ Some i → f i ≡ g i) → option_map f q ≡ option_map g q
mapped f g None h = refl
mapped f g (Some i) h = ap (λ (k : ℕ). Some k) (h i refl)

twice : (f g : ℕ → ℕ) (q : Option ℕ) → option_map f (option_map g q) ≡ option_map (λ i. f (g i)) q
twice f g None = refl
twice f g (Some i) = refl

given : (f g : ℕ → ℕ) (x y : ℕ) (t : Bool) → (t ≡ true → f x ≡ g y) → option_map f (cond t (Some x) None) ≡ option_map g (cond t (Some y) None)
given f g x y true h = ap (λ (k : ℕ). Some k) (h refl)
given f g x y false h = refl

pub last-some : (test : Branch → Bool) (n : Node) (i : ℕ) → last_position test n ≡ Some i → (i < length n) × (test (get_or n i (0, false)) ≡ true)
last-some test [] i e = absurd (cc)
last-some test (b ∷ n) i e = go (last_position test n) (last-some test n) (test b) refl e
  where
    go : (q : Option ℕ) → ((j : ℕ) → q ≡ Some j → (j < length n) × (test (get_or n j (0, false)) ≡ true)) → (t : Bool) → test b ≡ t → later t q ≡ Some i
        → (i < length (b ∷ n)) × (test (get_or (b ∷ n) i (0, false)) ≡ true)
    go (Some j) h t f x =
        let r = h j refl in
        let is : suc j ≡ i = cc in
        subst (λ (k : ℕ). (k < length (b ∷ n)) × (test (get_or (b ∷ n) k (0, false)) ≡ true)) is (omega (arith, r.0), r.1)
    go None h true f x = let is : 0 ≡ i = cc in subst (λ (k : ℕ). (k < length (b ∷ n)) × (test (get_or (b ∷ n) k (0, false)) ≡ true)) is (omega arith, f)
    go None h false f x = absurd (cc)

-- ---- one node

-- END is the first branch
pub first_end : (n : Node) → IsDense n → has_letter n END ≡ true → (0 < length n) × (get_or n 0 (0, false) ≡ (END, false))
first_end n w on = go w.ends w.bytes (rising_bytes w.bytes w.letters w.rising) w.is
  where
    go : (e : Bool) (m : Node) → RisingBytes 0 m → n ≡ cond e ((END, false) ∷ []) [] ++ m → (0 < length n) × (get_or n 0 (0, false) ≡ (END, false))
    go true m r is = subst (λ (x : Node). (0 < length x) × (get_or x 0 (0, false) ≡ (END, false))) (sym is) (omega arith, refl)
    go false m r is = absurd (false≢true (sym (no_end 0 m r) ∙ ap (λ (x : Node). has_letter x END) (sym is) ∙ on))

module _ (n : Node) (w : IsDense n) where
  letter_is : (c i : ℕ) → i < length n → (get_or n i (0, false)).0 ≡ c → c < 256 → ahead_of c n ≡ i
  letter_is c i l e small =
      let on : has_letter n c ≡ true = ap (has_letter n) (sym e) ∙ letter_there n i l in
      let b = (ahead n w c (omega (arith, small))).branch small on in
      let same : (get_or n (ahead_of c n) (0, false)).0 ≡ c = ap (λ (x : Branch). x.0) b.is in
      elim (cases_order (ahead_of c n) i) [
        | inl is ↦ is
        | inr apart ↦ elim apart [
          | inl less ↦ absurd (omega (arith, same, e, bytes_rise n w (ahead_of c n) i less l (omega (arith, same, small))))
          | inr more ↦ absurd (omega (arith, same, e, bytes_rise n w i (ahead_of c n) more b.inside (omega (arith, e, small))))
        ]
      ]

  branch_is : (c : ℕ) → c < 256 → branch_at n c ≡ cond (has_letter n c) (Some (ahead_of c n)) None
  branch_is c small = elim (cases_Bool (has_letter n c)) [
    | inl on ↦
        let b = (ahead n w c (omega (arith, small))).branch small on in
        let same : (get_or n (ahead_of c n) (0, false)).0 ≡ c = ap (λ (x : Branch). x.0) b.is in
        position_some (λ x. x.0 == c) n (ahead_of c n) b.inside (eq-eqb (get_or n (ahead_of c n) (0, false)).0 c same)
        (λ k kl. ne_eqb (get_or n k (0, false)).0 c (λ e. let is = letter_is c k (omega (arith, kl, b.inside)) e small in omega (arith, kl, is)))
        ∙ ap (λ (t : Bool). cond t (Some (ahead_of c n)) None) (sym on)
    | inr off ↦
        position_none (λ x. x.0 == c) n (λ k kl. ne_eqb (get_or n k (0, false)).0 c (λ e. false≢true (sym off ∙ ap (has_letter n) (sym e) ∙ letter_there n k kl)))
        ∙ ap (λ (t : Bool). cond t (Some (ahead_of c n)) None) (sym off)
  ]

  end_is : branch_at n END ≡ cond (has_letter n END) (Some 0) None
  end_is = elim (cases_Bool (has_letter n END)) [
    | inl on ↦
        let f = first_end n w on in
        position_some (λ x. x.0 == END) n 0 f.0 (eq-eqb (get_or n 0 (0, false)).0 END (ap (λ (x : Branch). x.0) f.1)) (λ k kl. absurd (omega (arith, kl)))
        ∙ ap (λ (t : Bool). cond t (Some 0) None) (sym on)
    | inr off ↦
        position_none (λ x. x.0 == END) n (λ k kl. ne_eqb (get_or n k (0, false)).0 END (λ e. false≢true (sym off ∙ ap (has_letter n) (sym e) ∙ letter_there n k kl)))
        ∙ ap (λ (t : Bool). cond t (Some 0) None) (sym off)
  ]

  -- the branches that a search finds are by bytes
  next_byte : (c i : ℕ) → next_at n c ≡ Some i → (i < length n) × ((get_or n i (0, false)).0 < 256)
  next_byte c i e =
      let r = position-Some (λ (b : Branch). nat_le c b.0 && nat_lt b.0 END) n i (0, false) e in
      let passes = and_parts (nat_le c (get_or n i (0, false)).0) (nat_lt (get_or n i (0, false)).0 END) r.1 in
      (r.0, ltb-true (get_or n i (0, false)).0 256 passes.1)

  prev_byte : (c i : ℕ) → c ≤ 256 → prev_at n c ≡ Some i → (i < length n) × ((get_or n i (0, false)).0 < 256)
  prev_byte c i l e =
      let r = last-some (λ (b : Branch). nat_lt b.0 c) n i e in
      (r.0, omega (arith, l, ltb-true (get_or n i (0, false)).0 c r.1))

-- ---- in the list

before_at : (ns : List Node) (v c : ℕ) → c < 256 → branches_before ns (256 * v + c) ≡ first_place ns v + ahead_of c (node_at ns v)
before_at ns v c small =
    let q : (256 * v + c) / 256 ≡ v = omega (arith, small) in
    let r : (256 * v + c) % 256 ≡ c = omega (arith, small) in
    λ j. first_place ns (q j) + ahead_of (r j) (node_at ns (q j))

zero_less : (v : ℕ) → v - 0 ≡ v
zero_less v = omega arith

module _ (ns : List Node) (w : AllByRecursion IsDense ns) (v : ℕ) (l : v < length ns) where
  dense : IsDense (node_at ns v)
  dense = all_of IsDense ns w v [] l

  -- searches of the list, and of its node
  in_list : (f : Node → Option ℕ) → option_map (λ i. first_place ns v + i) (f (node_at ns v)) ≡ option_map (λ i. list.begin_of (list.whole ns) v + i) (f (list.node_at (list.whole ns) v))
  in_list f = ap (λ (x : ℕ). option_map (λ i. first_place ns x + i) (f (node_at ns x))) (sym (zero_less v))

  place_number : (i : ℕ) → i < length (node_at ns v) → (get_or (node_at ns v) i (0, false)).0 < 256 → branches_before ns (branch_place_of ns v i) ≡ first_place ns v + i
  place_number i il small =
      let c = (get_or (node_at ns v) i (0, false)).0 in
      before_at ns v c small ∙ ap (λ (k : ℕ). first_place ns v + k) (letter_is (node_at ns v) dense c i il refl small)

  branch_in : (c : ℕ) → c < 256 → option_map (branches_before ns) (branch_place ns v c) ≡ list.branch_place (list.whole ns) v c
  branch_in c small =
      given (branches_before ns) (λ i. first_place ns v + i) (256 * v + c) (ahead_of c (node_at ns v)) (has_letter (node_at ns v) c) (λ on. before_at ns v c small)
      ∙ ap (option_map (λ i. first_place ns v + i)) (sym (branch_is (node_at ns v) dense c small))
      ∙ in_list (λ n. branch_at n c)

  next_in : (c : ℕ) → c ≤ 256 → option_map (branches_before ns) (next_place ns v c) ≡ list.next_place (list.whole ns) v c
  next_in c to =
      twice (branches_before ns) (branch_place_of ns v) (next_at (node_at ns v) c)
      ∙ mapped (λ i. branches_before ns (branch_place_of ns v i)) (λ i. first_place ns v + i) (next_at (node_at ns v) c)
      (λ i e. let r = next_byte (node_at ns v) dense c i e in place_number i r.0 r.1)
      ∙ in_list (λ n. next_at n c)

  prev_in : (c : ℕ) → c ≤ 256 → option_map (branches_before ns) (prev_place ns v c) ≡ list.prev_place (list.whole ns) v c
  prev_in c to =
      twice (branches_before ns) (branch_place_of ns v) (prev_at (node_at ns v) c)
      ∙ mapped (λ i. branches_before ns (branch_place_of ns v i)) (λ i. first_place ns v + i) (prev_at (node_at ns v) c)
      (λ i e. let r = prev_byte (node_at ns v) dense c i to e in place_number i r.0 r.1)
      ∙ in_list (λ n. prev_at n c)

  end_in : end_slot ns v ≡ list.end_slot (list.whole ns) v
  end_in =
      from (has_letter (node_at ns v) END)
      ∙ ap (λ (q : Option ℕ). option_map (list.slot_at (list.whole ns)) (option_map (λ i. first_place ns v + i) q)) (sym (end_is (node_at ns v) dense))
      ∙ ap (option_map (list.slot_at (list.whole ns))) (in_list (λ n. branch_at n END))
    where
      from : (t : Bool) → cond t (Some (leaves_before ns (first_place ns v))) None ≡ option_map (list.slot_at (list.whole ns)) (option_map (λ i. first_place ns v + i) (cond t (Some 0) None))
      from true = ap (λ (k : ℕ). Some (leaves_before ns k)) (plus_zero (first_place ns v)) ∙ ap (λ (k : ℕ). Some k) (zero_plus (leaves_before ns (first_place ns v + 0)))
        where
          plus_zero : (k : ℕ) → k ≡ k + 0
          plus_zero k = omega arith

          zero_plus : (k : ℕ) → k ≡ 0 + k
          zero_plus k = omega arith
      from false = refl

  -- what is found is there
  taken_at : (c p : ℕ) → c < 256 → 256 * v + c ≡ p → has_letter (node_at ns v) c ≡ true → IsTaken ns p
  taken_at c p small e on =
      let q : v ≡ p / 256 = omega (arith, e, small) in
      let r : c ≡ p % 256 = omega (arith, e, small) in
      (omega (arith, e, small, l), (λ j. has_letter (node_at ns (sym q j)) (sym r j)) ∙ on)

  branch_found : (c p : ℕ) → c < 256 → Some p ≡ branch_place ns v c → IsTaken ns p
  branch_found c p small = go (has_letter (node_at ns v) c) refl
    where
      go : (t : Bool) → has_letter (node_at ns v) c ≡ t → Some p ≡ cond t (Some (256 * v + c)) None → IsTaken ns p
      go true on e = let is : p ≡ 256 * v + c = cc in taken_at c p small (sym is) on
      go false off e = absurd (cc)

  search_found : (q : Option ℕ) (p : ℕ) → ((i : ℕ) → q ≡ Some i → (i < length (node_at ns v)) × ((get_or (node_at ns v) i (0, false)).0 < 256)) → Some p ≡ option_map (branch_place_of ns v) q → IsTaken ns p
  search_found None p h e = absurd (cc)
  search_found (Some i) p h e =
      let r = h i refl in
      let is : p ≡ branch_place_of ns v i = cc in
      taken_at (get_or (node_at ns v) i (0, false)).0 p r.1 (sym is) (letter_there (node_at ns v) i r.0)

module _ (ns : List Node) (w : AllByRecursion IsDense ns) (p : ℕ) (taken : IsTaken ns p) where
  abbrev l : p < places_in ns
  l = taken.0

  abbrev on : has_letter (node_at ns (p / 256)) (p % 256) ≡ true
  on = taken.1

  number_in : branches_before ns p < length (all ns)
  number_in =
      let in' : p / 256 < length ns = omega (arith, l) in
      let b = (ahead (node_at ns (p / 256)) (all_of IsDense ns w (p / 256) [] in') (p % 256) (omega arith)).branch (omega arith) on in
      less (first_place ns (p / 256)) (ahead_of (p % 256) (node_at ns (p / 256))) (length (node_at ns (p / 256))) (length (all ns)) b.inside (length-flat_map-take (λ (n : Node). n) ns (p / 256) [] in')
    where
      less : (a b c d : ℕ) → b < c → a + c ≤ d → a + b < d
      less a b c d f g = omega (arith, f, g)

  here : at ns (branches_before ns p) ≡ (p % 256, has_child (node_at ns (p / 256)) (p % 256))
  here = branch_of_byte ns (p / 256) (p % 256) w (omega (arith, l)) (omega arith) on

  child_in : child_at ns p ≡ list.child_at (list.whole ns) (branches_before ns p)
  child_in =
      ap (λ (t : Bool). cond t (Some (first_below ns p)) None) (sym (ap (λ (b : Branch). b.1) here))
      ∙ ap (λ (k : ℕ). cond (at ns (branches_before ns p)).1 (Some k) None) (omega arith)

  byte_in : p % 256 ≡ list.byte_at (list.whole ns) (branches_before ns p)
  byte_in =
      sym (ap (λ (b : Branch). label_of b.0) here ∙ ap (λ (t : Bool). cond {A = ℕ} t 255 (p % 256)) (ne_eqb (p % 256) 256 (λ e. omega (arith, e))))

-- ---- in order

rank_up : (bits : List Bool) (p q : ℕ) → p ≤ q → rank_of bits p ≤ rank_of bits q
rank_up bits p q l = subst (λ (front : List Bool). count_by (λ (bit : Bool). bit) front ≤ rank_of bits q) (take-take p q bits l) (sum_by-take-le (λ (bit : Bool). cond bit 1 0) (take q bits) p)

ranked : (ns : List Node) (p : ℕ) → AllByRecursion IsDense ns → p ≤ places_in ns → AreRanked ns p (min (p / 256 + 1) (length ns)) (branches_before ns p)
ranked ns p w l = ranks_at ns p (min (p / 256 + 1) (length ns)) w l (λ inside. omega (arith, inside)) (λ past. omega (arith, past))

ordered : (ns : List Node) → AllByRecursion IsDense ns → (p q : ℕ) → p ≤ q → q ≤ places_in ns → branches_before ns p ≤ branches_before ns q
ordered ns w p q l m =
    let k = min (p / 256 + 1) (length ns) in
    let j = min (q / 256 + 1) (length ns) in
    sums (rank_of (dense_labels ns) p) (rank_of (dense_ends ns) k) (rank_of (dense_labels ns) q) (rank_of (dense_ends ns) j) (branches_before ns p) (branches_before ns q)
    (ranked ns p w (omega (arith, l, m))).letters (ranked ns q w m).letters (rank_up (dense_labels ns) p q l) (rank_up (dense_ends ns) k j (omega (arith, l)))
  where
    sums : (a b c d x y : ℕ) → a + b ≡ x → c + d ≡ y → a ≤ c → b ≤ d → x ≤ y
    sums a b c d x y e f g h = omega (arith, e, f, g, h)

pub places_are_of_branches : PlacesAreOfBranches
places_are_of_branches ns w =
    let r = by_recursion IsDense ns w in
    record {
      branch = λ v c l. branch_in ns r v l c;
      next = λ v c l. next_in ns r v l c;
      prev = λ v c l. prev_in ns r v l c;
      branch_taken = λ v c p l. branch_found ns r v l c p;
      next_taken = λ v c p l to e. search_found ns r v l (next_at (node_at ns v) c) p (next_byte (node_at ns v) (all_of IsDense ns r v [] l) c) e;
      prev_taken = λ v c p l to e. search_found ns r v l (prev_at (node_at ns v) c) p (λ i. prev_byte (node_at ns v) (all_of IsDense ns r v [] l) c i to) e;
      number = number_in ns r;
      child = child_in ns r;
      byte = byte_in ns r;
      end = end_in ns r;
      order = ordered ns r;
    }
