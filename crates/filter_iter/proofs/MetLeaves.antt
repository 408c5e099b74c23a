-- The leaf that a bound reaches, and which leaves pass.
use Rattle.std.proofs.Common.{◌≡◌, ℕ, zero, suc, ◌+◌, ◌-◌, ◌*◌, ◌<◌, ◌≤◌, ◌^◌, Bool, true, false, cond, Some, None, List, [], ◌∷◌, ◌++◌, length, get_or, take, drop, map, refl, ap, subst, sym, ◌∙◌, arith, inl, inr, nat_lt, nat_le, le-ltb, lt-ltb}
use Rattle.std.specs.Prelude.{filter, not, position, ◌&&◌, ◌||◌}
use Rattle.std.specs.List.{position_or_len}
use Rattle.std.proofs.lemmas.Bool.{cases_Bool, cases_lt, cases_order, false_from_ne_true, false≢true, le-leb, leb-true, true≢false}
use Rattle.std.proofs.lemmas.List.{get_or-map, length-map}
use Rattle.std.proofs.lemmas.List.Quantifiers.{position-Some}
use Rattle.std.proofs.lemmas.List.Sums.{fails_before_first}
use Rattle.std.proofs.lemmas.Nat.{pow-add}
use native.Mathlib.Nat.{mul-lt-mul_of_pos_right}
use mir.Val.{bool_byte}
use Rattle.byte_fields.specs.Spelling.{IsBytes}
use Rattle.filter_image_model.proofs.GroupWords.{Sorted}
use Rattle.filter_image_model.proofs.Lists.{all_filter, all_flat, all_of, by_recursion}
use Rattle.filter_image_model.proofs.Paths.{fine_paths}
use Rattle.filter_iter.proofs.Groups.{before_at, reached_number}
use Rattle.filter_iter.proofs.Leaves.{comes_first, comes_last, goes_on, is_met}
use Rattle.filter_iter.proofs.Steps.{first_leaf_within}
use Rattle.filter_iter.specs.Borders.{reached_begun, reached_past, reached_path, real_at}
use Rattle.filter_iter.specs.Cuts.{FirstPass, has_begun}
use Rattle.filter_iter.specs.declared.parts.Reached.{Reached}
use Rattle.filter_model.proofs.Fits.{after, unit}
use Rattle.filter_model.proofs.Fronts.{IsBytes-tail, pow_pos}
use Rattle.filter_model.specs.Answers.{is_past}
use Rattle.filter_model.specs.Image.{in_slots}
use Rattle.filter_model.specs.Leaves.{Leaf}
use Rattle.filter_model.specs.Strings.{bits, is_prefix, bytes_eq}
use Rattle.filter_model.specs.Trie.{END, height, path, slots}
use Rattle.filter_model.specs.Valid.{IsLeaf, IsLeafList}
use Rattle.filter_trie.proofs.Reached.{slot_is}
use Rattle.filter_trie.proofs.Suffixes.{leaf_count}
use Rattle.filter_trie.specs.Walks.{IsSlotAt}
use Rattle.suffix_bits.specs.Slots.{Suffix, leaf_suffix}
use Rattle.trie_laws.proofs.Paths.{any_leaf, one_begins, path_node, prefix_itself, reached_by}
use Rattle.trie_laws.proofs.Slots.{leaves_have_slots, prefix_whole}
use Rattle.trie_levels.proofs.Totals.{valid_lists_have_tries}
use Rattle.trie_levels.specs.Tries.{HasTrie}
use Rattle.trie_model.specs.Letters.{comes_before}
use Rattle.trie_model.specs.Rests.{first_leaf}
use Rattle.trie_model.specs.Walks.{reaches, slot_of_key}

-- ---- the first leaves pass, and at most one more

one_more : (k : ℕ) (b : Bool) → nat_lt k (k + cond b 1 0) ≡ b
one_more k true = lt-ltb k (k + 1) (omega arith)
one_more k false = le-ltb k (k + 0) (omega arith)

at_most_one : (b : Bool) → cond {A = ℕ} b 1 0 ≤ 1
at_most_one true = omega arith
at_most_one false = omega arith

pass_from : (test : Leaf → Bool) (ls : List Leaf) (k : ℕ) (b : Bool) → k ≤ length ls → (length ls ≤ k → b ≡ false) → ((i : ℕ) (d : Leaf) → i < length ls → i < k → test (get_or ls i d) ≡ true)
    → ((i : ℕ) (d : Leaf) → i < length ls → k < i → test (get_or ls i d) ≡ false) → ((d : Leaf) → k < length ls → test (get_or ls k d) ≡ b) → FirstPass test ls (k + cond b 1 0)
pass_from test ls k b l end before behind at = record {
  within = elim (cases_lt k (length ls)) [
    | inl inside ↦ omega (arith, inside, at_most_one b)
    | inr outside ↦ omega (arith, l, ap (λ (t : Bool). cond {A = ℕ} t 1 0) (end outside))
  ];
  pass = λ i d m. elim (cases_order i k) [
    | inl same ↦
        ap (λ (j : ℕ). test (get_or ls j d)) same ∙ at d (omega (arith, same, m)) ∙ sym (one_more k b) ∙ ap (λ (j : ℕ). nat_lt j (k + cond b 1 0)) (sym same)
    | inr apart ↦ elim apart [
      | inl less ↦ before i d m less ∙ sym (lt-ltb i (k + cond b 1 0) (omega (arith, less)))
      | inr more ↦ behind i d m more ∙ sym (le-ltb i (k + cond b 1 0) (omega (arith, more, at_most_one b)))
    ]
  ];
}

-- ---- which leaf

position_none : {X : Type 0} (test : X → Bool) (xs : List X) (d : X) (k : ℕ) → None ≡ position test xs → k < length xs → test (get_or xs k d) ≡ false
position_none {X} test xs d k e l = go (nat_lt (position_or_len test xs) (length xs)) refl e
  where
    go : (t : Bool) → nat_lt (position_or_len test xs) (length xs) ≡ t → None ≡ cond t (Some (position_or_len test xs)) None → test (get_or xs k d) ≡ false
    go true h f = absurd (cc)
    go false h f = elim (cases_lt (position_or_len test xs) (length xs)) [
      | inl less ↦ absurd (true≢false (sym (lt-ltb (position_or_len test xs) (length xs) less) ∙ h))
      | inr more ↦ fails_before_first test xs k d (omega (arith, l, more))
    ]

pub record IsLeafOf (ls : List Leaf) (slot : ℕ) : Type 0 where
  pub at : ℕ
  pub within : at < length ls
  pub is : path (get_or ls at any_leaf) ≡ get_or (slots ls) slot []

pub leaf_of : (ls : List Leaf) (slot : ℕ) → HasTrie ls → slot < length (slots ls) → IsLeafOf ls slot
leaf_of ls slot t l =
    let q = get_or (slots ls) slot [] in
    let is = slot_is ls t slot l in
    let by = reached_by ls any_leaf q is.0 in
    record {
      at = by.0;
      within = by.1;
      is = sym (prefix_whole q (path (get_or ls by.0 any_leaf)) by.2 (λ e. false≢true (sym is.1 ∙ path_node ls by.0 any_leaf q by.1 e)));
    }

-- the suffix of its slot is its own
pub own_suffix : (ls : List Leaf) (slot k : ℕ) → HasTrie ls → slot < length (slots ls) → k < length ls → path (get_or ls k any_leaf) ≡ get_or (slots ls) slot []
    → get_or (map leaf_suffix (in_slots ls)) slot (0, 0) ≡ leaf_suffix (get_or ls k any_leaf)
unfolding in_slots
own_suffix ls slot k t l kl e =
    let own = get_or ls k any_leaf in
    let P : Leaf → Type 0 = λ o. path o ≡ path own → leaf_suffix o ≡ leaf_suffix own in
    let each = by_recursion P ls (λ i d il same. ap (λ (j : ℕ). leaf_suffix (get_or ls j d)) (one_begins ls t i k d il kl (one d il same)) ∙ ap leaf_suffix (other k d kl)) in
    let all = all_flat P (λ (q : List ℕ). filter (λ o. bytes_eq (path o) q) ls) (slots ls) (λ q. all_filter P (λ o. bytes_eq (path o) q) ls each) in
    let h = leaves_have_slots ls t in
    let within : slot < length (in_slots ls) = omega (arith, l, h.as_many, leaf_count ls t) in
    let there : path (get_or (in_slots ls) slot any_leaf) ≡ get_or (slots ls) slot [] = sym (get_or-map path (in_slots ls) slot any_leaf [] within) ∙ ap (λ (qs : List (List ℕ)). get_or qs slot []) h.leaf_of_slot in
    get_or-map leaf_suffix (in_slots ls) slot any_leaf (0, 0) within ∙ all_of P (in_slots ls) all slot any_leaf within (there ∙ sym e)
  where
    other : (i : ℕ) (d : Leaf) → i < length ls → get_or ls i d ≡ get_or ls i any_leaf
    other i d il = get_or-any ls i d il
      where
        get_or-any : (xs : List Leaf) (i : ℕ) (d : Leaf) → i < length xs → get_or xs i d ≡ get_or xs i any_leaf
        get_or-any [] i d l = absurd (omega (arith, l))
        get_or-any (x ∷ xs) zero d l = refl
        get_or-any (x ∷ xs) (suc i) d l = get_or-any xs i d (omega (arith, l))

    one : {i : ℕ} (d : Leaf) → i < length ls → path (get_or ls i d) ≡ path (get_or ls k any_leaf) → is_prefix (path (get_or ls i d)) (path (get_or ls k d)) ≡ true
    one {i} d il same = ap (is_prefix (path (get_or ls i d))) (ap path (other k d kl) ∙ sym same) ∙ prefix_itself (path (get_or ls i d))

-- two stubs with END or without
pub ended_alike : (t u : List ℕ) (e f : Bool) → IsBytes t → IsBytes u → t ++ cond e (END ∷ []) [] ≡ u ++ cond f (END ∷ []) [] → (e ≡ f) × (t ≡ u)
ended_alike [] [] true true v w h = (refl, refl)
ended_alike [] [] false false v w h = (refl, refl)
ended_alike [] [] true false v w h = absurd (omega (arith, ap (λ (x : List ℕ). length x) h))
ended_alike [] [] false true v w h = absurd (omega (arith, ap (λ (x : List ℕ). length x) h))
ended_alike [] (b ∷ u) true f v w h = absurd (omega (arith, ap (λ (x : List ℕ). get_or x 0 0) h, w 0))
ended_alike [] (b ∷ u) false f v w h = absurd (omega (arith, ap (λ (x : List ℕ). length x) h))
ended_alike (a ∷ t) [] e true v w h = absurd (omega (arith, ap (λ (x : List ℕ). get_or x 0 0) h, v 0))
ended_alike (a ∷ t) [] e false v w h = absurd (omega (arith, ap (λ (x : List ℕ). length x) h))
ended_alike (a ∷ t) (b ∷ u) e f v w h =
    let rest = ended_alike t u e f (IsBytes-tail a t v) (IsBytes-tail b u w) (ap (drop 1) h) in
    (rest.0, λ j. ap (λ (x : List ℕ). get_or x 0 0) h j ∷ rest.1 j)

pub take_bytes : (n : ℕ) (x : List ℕ) → IsBytes x → IsBytes (take n x)
take_bytes zero x w = λ i. omega arith
take_bytes (suc n) [] w = w
take_bytes (suc n) (a ∷ x) w = both (w 0) (take_bytes n x (IsBytes-tail a x w))
  where
    both : a < 256 → IsBytes (take n x) → IsBytes (a ∷ take n x)
    both h k zero = h
    both h k (suc i) = k i

drop_taken : (n : ℕ) (x : List ℕ) → drop (length (take n x)) x ≡ drop n x
drop_taken zero x = refl
drop_taken (suc n) [] = refl
drop_taken (suc n) (a ∷ x) = drop_taken n x

-- a leaf's slot is one of as many as there are leaves
pub slot_fits : (hash_bits n : ℕ) (ls : List Leaf) (slot : ℕ) (q : List ℕ) → IsLeafList hash_bits n ls → IsSlotAt ls slot q → slot < length ls
slot_fits hash_bits n ls slot q valid at = omega (arith, at.within, (leaves_have_slots ls (valid_lists_have_tries hash_bits n ls valid)).as_many)

pub byte_of : (b : Bool) → bool_byte b ≡ cond b 1 0
byte_of true = refl
byte_of false = refl

-- ---- a valid list

module _ (hash_bits n : ℕ) (ls : List Leaf) (valid : IsLeafList hash_bits n ls) (nh : n ≤ 32) (x : List ℕ) (w : IsBytes x) where
  has : HasTrie ls
  has = valid_lists_have_tries hash_bits n ls valid

  sorted : Sorted (map path ls)
  sorted = (fine_paths hash_bits n ls valid (height ls) (omega arith)).sorted

  small : (l : Leaf) → IsLeaf hash_bits n l → l.real * unit n < 256 ^ 4
  small l leaf =
      let e : n + (32 - n) ≡ 32 = omega (arith, nh) in
      let whole : 2 ^ 32 ≡ 2 ^ n * unit n = ap (λ (m : ℕ). 2 ^ m) (sym e) ∙ pow-add 2 n (32 - n) in
      omega (arith, whole, mul-lt-mul_of_pos_right leaf.real_fits (pow_pos 2 (32 - n) (omega arith)))

  abbrev k : ℕ
  k = first_leaf ls x

  path_at : (i : ℕ) (d : Leaf) → i < length ls → get_or (map path ls) i [] ≡ path (get_or ls i d)
  path_at i d l = get_or-map path ls i d [] l

  is_before : (i : ℕ) (d : Leaf) → i < length ls → comes_before (path (get_or ls i d)) x ≡ nat_lt i k
  is_before i d l = ap (λ (q : List ℕ). comes_before q x) (sym (path_at i d l)) ∙ before_at x (map path ls) i sorted (omega (arith, l, length-map ls path))

  pub first_ones : (i : ℕ) (d : Leaf) → i < length ls → i < k → (is_past n x (get_or ls i d) ≡ true) × (has_begun n x (get_or ls i d) ≡ true)
  first_ones i d l m =
      let leaf = valid.leaves i d l in
      comes_first hash_bits n (get_or ls i d) x leaf (small (get_or ls i d) leaf) w (is_before i d l ∙ lt-ltb i k m)

  last_ones : (i : ℕ) (d : Leaf) → i < length ls → k ≤ i → is_prefix (path (get_or ls i d)) (x ++ END ∷ []) ≡ false → (is_past n x (get_or ls i d) ≡ false) × (has_begun n x (get_or ls i d) ≡ false)
  last_ones i d l m e =
      let leaf = valid.leaves i d l in
      comes_last hash_bits n (get_or ls i d) x leaf (small (get_or ls i d) leaf) w (is_before i d l ∙ le-ltb i k m) e

  pub number_is : (i : ℕ) (d : Leaf) → i < length ls → is_prefix (path (get_or ls i d)) (x ++ END ∷ []) ≡ true → k ≡ i
  number_is i d l e = reached_number x (map path ls) i sorted (omega (arith, l, length-map ls path)) (ap (λ (q : List ℕ). is_prefix q (x ++ END ∷ [])) (path_at i d l) ∙ e)

  behind : (i : ℕ) (d : Leaf) → i < length ls → k < i → (is_past n x (get_or ls i d) ≡ false) × (has_begun n x (get_or ls i d) ≡ false)
  behind i d l m = last_ones i d l (omega (arith, m)) (false_from_ne_true (is_prefix (path (get_or ls i d)) (x ++ END ∷ [])) (λ e. omega (arith, m, number_is i d l e)))

  module _ (none : None ≡ slot_of_key ls x) where
    not_reached : (i : ℕ) (d : Leaf) → i < length ls → is_prefix (path (get_or ls i d)) (x ++ END ∷ []) ≡ false
    unfolding slot_of_key
    not_reached i d l =
        let there = (leaves_have_slots ls has).slot_of_leaf i d l in
        ap (λ (q : List ℕ). is_prefix q (x ++ END ∷ [])) (sym there.2) ∙ position_none (reaches x) (slots ls) (path (get_or ls i d)) there.0 none there.1

    plus_none : (m : ℕ) → m + 0 ≡ m
    plus_none m = omega arith

    pub none_past : FirstPass (is_past n x) ls k
    none_past =
        subst (FirstPass (is_past n x) ls) (plus_none k)
        (pass_from (is_past n x) ls k false (first_leaf_within ls x) (λ _. refl) (λ i d l m. (first_ones i d l m).0) (λ i d l m. (behind i d l m).0) (λ d l. (last_ones k d l (omega arith) (not_reached k d l)).0))

    pub none_begun : FirstPass (has_begun n x) ls k
    none_begun =
        subst (FirstPass (has_begun n x) ls) (plus_none k)
        (pass_from (has_begun n x) ls k false (first_leaf_within ls x) (λ _. refl) (λ i d l m. (first_ones i d l m).1) (λ i d l m. (behind i d l m).1) (λ d l. (last_ones k d l (omega arith) (not_reached k d l)).1))

  module _ (r : Reached) (some : Some r.slot ≡ slot_of_key ls x) (at : IsSlotAt ls r.slot (reached_path x r)) where
    leaf_is : IsLeafOf ls r.slot
    leaf_is = leaf_of ls r.slot has at.within

    abbrev l : Leaf
    l = get_or ls leaf_is.at any_leaf

    begins : is_prefix (path l) (x ++ END ∷ []) ≡ true
    unfolding slot_of_key
    begins = ap (λ (q : List ℕ). is_prefix q (x ++ END ∷ [])) leaf_is.is ∙ (position-Some (reaches x) (slots ls) r.slot [] (sym some)).1

    number : k ≡ leaf_is.at
    number = number_is leaf_is.at any_leaf leaf_is.within begins

    alike : (l.ends ≡ r.ends) × (l.stub ≡ take r.stub x)
    unfolding path
    alike = ended_alike l.stub (take r.stub x) l.ends r.ends (valid.leaves leaf_is.at any_leaf leaf_is.within).stub.bytes (take_bytes r.stub x w) (leaf_is.is ∙ at.is)

    abbrev real : ℕ
    real = real_at ls r.slot

    real_is : l.real ≡ real
    real_is = sym (ap (λ (s : Suffix). s.1) (own_suffix ls r.slot leaf_is.at has at.within leaf_is.within leaf_is.is))

    after_is : after n l.stub x ≡ bits n (drop r.stub x)
    after_is = ap (bits n) (ap (λ (t : List ℕ). drop (length t) x) alike.1 ∙ drop_taken r.stub x)

    abbrev past : Bool
    past = reached_past n ls x r

    abbrev begun : Bool
    begun = reached_begun n ls x r

    not_less : (a b : ℕ) → not (nat_lt b a) ≡ nat_le a b
    not_less a b = elim (cases_lt b a) [
      | inl less ↦ ap not (lt-ltb b a less) ∙ sym (false_from_ne_true (nat_le a b) (λ e. omega (arith, less, leb-true a b e)))
      | inr more ↦ ap not (le-ltb b a more) ∙ sym (le-leb a b more)
    ]

    answers : (is_past n x l ≡ past) × (has_begun n x l ≡ begun)
    answers =
        let leaf = valid.leaves leaf_is.at any_leaf leaf_is.within in
        let after_r = bits n (drop r.stub x) in
        elim (cases_Bool l.ends) [
          | inl e ↦
              let ends : r.ends ≡ true = sym alike.0 ∙ e in
              let both = is_met hash_bits n l x leaf (small l leaf) w e begins in
              (both.0 ∙ sym (ap (λ (t : Bool). not t && nat_lt real after_r) ends), both.1 ∙ sym (ap (λ (t : Bool). t || nat_le real after_r) ends))
          | inr e ↦
              let open' : r.ends ≡ false = sym alike.0 ∙ e in
              let both = goes_on hash_bits n l x leaf (small l leaf) w e begins in (
                both.0 ∙ (λ j. nat_lt (real_is j) (after_is j)) ∙ sym (ap (λ (t : Bool). not t && nat_lt real after_r) open'),
                both.1 ∙ (λ j. not (nat_lt (after_is j) (real_is j))) ∙ not_less real after_r ∙ sym (ap (λ (t : Bool). t || nat_le real after_r) open'),
              )
        ]

    there : (d : Leaf) → k < length ls → get_or ls k d ≡ l
    there d m = ap (λ (j : ℕ). get_or ls j d) number ∙ get_or-any ls leaf_is.at d leaf_is.within
      where
        get_or-any : (xs : List Leaf) (i : ℕ) (d : Leaf) → i < length xs → get_or xs i d ≡ get_or xs i any_leaf
        get_or-any [] i d l = absurd (omega (arith, l))
        get_or-any (x ∷ xs) zero d l = refl
        get_or-any (x ∷ xs) (suc i) d l = get_or-any xs i d (omega (arith, l))

    inside : k < length ls
    inside = omega (arith, number, leaf_is.within)

    pub some_past : FirstPass (is_past n x) ls (k + cond past 1 0)
    some_past =
        pass_from (is_past n x) ls k past (first_leaf_within ls x) (λ out. absurd (omega (arith, out, inside))) (λ i d l m. (first_ones i d l m).0) (λ i d l m. (behind i d l m).0)
        (λ d m. ap (is_past n x) (there d m) ∙ answers.0)

    pub some_begun : FirstPass (has_begun n x) ls (k + cond begun 1 0)
    some_begun =
        pass_from (has_begun n x) ls k begun (first_leaf_within ls x) (λ out. absurd (omega (arith, out, inside))) (λ i d l m. (first_ones i d l m).1) (λ i d l m. (behind i d l m).1)
        (λ d m. ap (has_begun n x) (there d m) ∙ answers.1)
