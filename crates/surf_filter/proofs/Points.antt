-- A key fits a leaf only where it reaches it, and of the leaf that it reaches the suffix decides.
use Rattle.std.proofs.Common.{◌≡◌, ℕ, zero, suc, ◌-◌, ◌/◌, ◌<◌, ◌==◌, Bool, true, false, cond, Some, None, List, [], ◌∷◌, ◌++◌, length, get_or, take, drop, refl, ap, sym, ◌∙◌, arith, inl, inr, eqb, nat_lt, lt-ltb}
use Rattle.std.specs.Prelude.{◌&&◌, position}
use Rattle.std.specs.List.{list_any, position_or_len}
use Rattle.std.proofs.lemmas.Bool.{and_parts, cases_Bool, cases_lt, cond-false, cond-true, eq-eqb, eqb-true, false_from_ne_true, false≢true, true≢false}
use Rattle.std.proofs.lemmas.List.{append-nil}
use Rattle.std.proofs.lemmas.List.Folds.{list_any_at}
use Rattle.std.proofs.lemmas.List.Sums.{fails_before_first}
use native.Mathlib.Nat.{div-mul-le_self}
use Rattle.byte_fields.specs.Spelling.{IsBytes}
use Rattle.filter_model.proofs.Fits.{unit}
use Rattle.filter_model.proofs.Fronts.{IsBytes-tail, pow_pos, same-itself, same-true}
use Rattle.filter_model.specs.Answers.{fits, fits_point, point}
use Rattle.filter_model.specs.Leaves.{Leaf, hash_bits_of}
use Rattle.filter_model.specs.Strings.{bits, bytes_eq, is_prefix, prefix_number}
use Rattle.filter_model.specs.Trie.{END, path, slots}
use Rattle.filter_model.specs.Valid.{IsLeaf, IsLeafList}
use Rattle.filter_trie.proofs.Reached.{prefix_refl, prefix_take}
use Rattle.filter_trie.specs.Walks.{ReachesLeaf}
use Rattle.suffix_bits.specs.Slots.{leaf_suffix}
use Rattle.surf_filter.proofs.SlotLeaves.{IsLeafOf, ended_alike, leaf_of, one_reached, own_suffix, take_bytes}
use Rattle.surf_filter.specs.Reaching.{has_suffix, suffix_of_slot}
use Rattle.trie_laws.proofs.Paths.{any_leaf, some_at}
use Rattle.trie_laws.proofs.Slots.{leaves_have_slots}
use Rattle.trie_levels.proofs.Totals.{valid_lists_have_tries}
use Rattle.trie_levels.specs.Tries.{HasTrie}
use Rattle.trie_model.specs.Walks.{reaches, slot_of_key}

-- ---- strings

prefix_bytes : (t x : List ℕ) → IsBytes t → is_prefix t x ≡ is_prefix t (x ++ END ∷ [])
prefix_bytes [] x v = refl
prefix_bytes (a ∷ t) [] v = sym (ap (λ (k : Bool). k && is_prefix t []) (false_from_ne_true (eqb a END) (λ e. omega (arith, eqb-true a 256 e, v 0))))
prefix_bytes (a ∷ t) (b ∷ x) v = ap (λ (k : Bool). eqb a b && k) (prefix_bytes t x (IsBytes-tail a t v))

prefix_ended : (t x : List ℕ) → IsBytes t → IsBytes x → is_prefix (t ++ END ∷ []) (x ++ END ∷ []) ≡ true → t ≡ x
prefix_ended [] [] v w e = refl
prefix_ended [] (b ∷ x) v w e = absurd (omega (arith, eqb-true 256 b (and_parts (eqb END b) (is_prefix [] (x ++ END ∷ [])) e).0, w 0))
prefix_ended (a ∷ t) [] v w e = absurd (omega (arith, eqb-true a 256 (and_parts (eqb a END) (is_prefix (t ++ END ∷ []) []) e).0, v 0))
prefix_ended (a ∷ t) (b ∷ x) v w e =
    let parts = and_parts (eqb a b) (is_prefix (t ++ END ∷ []) (x ++ END ∷ [])) e in
    λ j. eqb-true a b parts.0 j ∷ prefix_ended t x (IsBytes-tail a t v) (IsBytes-tail b x w) parts.1 j

drop_whole : (t : List ℕ) → drop (length t) t ≡ []
drop_whole [] = refl
drop_whole (a ∷ t) = drop_whole t

drop_taken : (n : ℕ) (x : List ℕ) → drop (length (take n x)) x ≡ drop n x
drop_taken zero x = refl
drop_taken (suc n) [] = refl
drop_taken (suc n) (a ∷ x) = drop_taken n x

pub no_bits : (n : ℕ) → prefix_number 4 [] / unit n ≡ 0
no_bits n = omega (arith, div-mul-le_self 0 (unit n), pow_pos 2 (32 - n) (omega arith))

-- ---- lists

no_position : {X : Type 0} (test : X → Bool) (xs : List X) (d : X) (k : ℕ) → None ≡ position test xs → k < length xs → test (get_or xs k d) ≡ false
no_position {X} test xs d k e l = go (nat_lt (position_or_len test xs) (length xs)) refl e
  where
    go : (t : Bool) → nat_lt (position_or_len test xs) (length xs) ≡ t → None ≡ cond t (Some (position_or_len test xs)) None → test (get_or xs k d) ≡ false
    go true h f = absurd (cc)
    go false h f = elim (cases_lt (position_or_len test xs) (length xs)) [
      | inl less ↦ absurd (true≢false (sym (lt-ltb (position_or_len test xs) (length xs) less) ∙ h))
      | inr more ↦ fails_before_first test xs k d (omega (arith, l, more))
    ]

-- where one alone may pass, it decides
one_decides : {X : Type 0} (test : X → Bool) (xs : List X) (k : ℕ) (d : X) → k < length xs → ((i : ℕ) → i < length xs → test (get_or xs i d) ≡ true → i ≡ k) → list_any test xs ≡ test (get_or xs k d)
one_decides test xs k d l one = elim (cases_Bool (test (get_or xs k d))) [
  | inl passes ↦ list_any_at test xs k d l passes ∙ sym passes
  | inr fails ↦
      false_from_ne_true (list_any test xs) (λ e.
      let found = some_at test xs d e in
      false≢true (sym fails ∙ ap (λ (j : ℕ). test (get_or xs j d)) (sym (one found.0 found.1 found.2)) ∙ found.2))
      ∙ sym fails
]

-- ---- a leaf

module _ (hash_bits n : ℕ) (l : Leaf) (x : List ℕ) (leaf : IsLeaf hash_bits n l) (w : IsBytes x) where
  end_path : l.ends ≡ true → path l ≡ l.stub ++ END ∷ []
  unfolding path
  end_path e = ap (λ (u : List ℕ). l.stub ++ u) (cond-true l.ends (END ∷ []) [] e)

  open_path : l.ends ≡ false → path l ≡ l.stub
  unfolding path
  open_path e = ap (λ (u : List ℕ). l.stub ++ u) (cond-false l.ends (END ∷ []) [] e) ∙ append-nil l.stub

  abbrev after : ℕ
  after = bits n (drop (length l.stub) x)

  end_fits : l.ends ≡ true → fits n x l ≡ bytes_eq l.stub x
  end_fits e = cond-true l.ends (bytes_eq l.stub x) (is_prefix l.stub x && (after == l.real)) e

  open_fits : l.ends ≡ false → fits n x l ≡ (is_prefix (path l) (x ++ END ∷ []) && (after == l.real))
  open_fits e =
      cond-false l.ends (bytes_eq l.stub x) (is_prefix l.stub x && (after == l.real)) e
      ∙ ap (λ (b : Bool). b && (after == l.real)) (prefix_bytes l.stub x leaf.stub.bytes ∙ ap (λ (q : List ℕ). is_prefix q (x ++ END ∷ [])) (sym (open_path e)))

  -- of a leaf that the key reaches, the real bits decide
  reached_fits : reaches x (path l) ≡ true → fits n x l ≡ (after == l.real)
  reached_fits h = elim (cases_Bool l.ends) [
    | inl e ↦
        let same : l.stub ≡ x = prefix_ended l.stub x leaf.stub.bytes w (ap (λ (q : List ℕ). is_prefix q (x ++ END ∷ [])) (sym (end_path e)) ∙ h) in
        let none : after ≡ l.real = ap (bits n) (ap (λ (t : List ℕ). drop (length t) x) same ∙ drop_whole x) ∙ no_bits n ∙ sym (leaf.end_without_real e) in
        end_fits e ∙ ap (λ (t : List ℕ). bytes_eq t x) same ∙ same-itself x ∙ sym (eq-eqb after l.real none)
    | inr e ↦ open_fits e ∙ ap (λ (b : Bool). b && (after == l.real)) h
  ]

  -- another leaf does not fit
  fits_reached : fits n x l ≡ true → reaches x (path l) ≡ true
  fits_reached h = elim (cases_Bool l.ends) [
    | inl e ↦
        let same : l.stub ≡ x = same-true l.stub x (sym (end_fits e) ∙ h) in
        ap (λ (q : List ℕ). is_prefix q (x ++ END ∷ [])) (end_path e ∙ ap (λ (t : List ℕ). t ++ END ∷ []) same) ∙ prefix_refl (x ++ END ∷ [])
    | inr e ↦ (and_parts (is_prefix (path l) (x ++ END ∷ [])) (after == l.real) (sym (open_fits e) ∙ h)).0
  ]

-- ---- a list

module _ (hash_bits n : ℕ) (ls : List Leaf) (valid : IsLeafList hash_bits n ls) (x : List ℕ) (w : IsBytes x) where
  has : HasTrie ls
  has = valid_lists_have_tries hash_bits n ls valid

  -- a leaf that fits as a point is reached
  point_reached : (i : ℕ) → i < length ls → fits_point hash_bits n x (get_or ls i any_leaf) ≡ true → reaches x (path (get_or ls i any_leaf)) ≡ true
  point_reached i l e =
      let own = get_or ls i any_leaf in
      fits_reached hash_bits n own x (valid.leaves i any_leaf l) w (and_parts (fits n x own) (hash_bits_of hash_bits x == own.hash) e).0

  pub point_none : None ≡ slot_of_key ls x → false ≡ point hash_bits n ls x
  unfolding slot_of_key
  point_none none =
      sym (false_from_ne_true (point hash_bits n ls x) (λ e.
      let found = some_at (fits_point hash_bits n x) ls any_leaf e in
      let own = path (get_or ls found.0 any_leaf) in
      let slot = (leaves_have_slots ls has).slot_of_leaf found.0 any_leaf found.1 in
      let off = no_position (reaches x) (slots ls) own slot.0 none slot.1 in
      false≢true (sym off ∙ ap (reaches x) slot.2 ∙ point_reached found.0 found.1 found.2)))

  module _ (slot stub : ℕ) (at : ReachesLeaf ls x slot stub) where
    within : slot < length (slots ls)
    within = go at
      where
        go : ReachesLeaf ls x slot stub → slot < length (slots ls)
        go (inl a) = a.within
        go (inr a) = a.1.within

    -- a slot for each leaf
    pub slot_low : slot < length ls
    slot_low = omega (arith, within, (leaves_have_slots ls has).as_many)

    own : IsLeafOf ls slot
    own = leaf_of ls slot has within

    abbrev met : Leaf
    met = get_or ls own.at any_leaf

    reached : reaches x (path met) ≡ true
    reached = ap (reaches x) own.is ∙ go at
      where
        go : ReachesLeaf ls x slot stub → reaches x (get_or (slots ls) slot []) ≡ true
        go (inl a) = ap (reaches x) a.is ∙ prefix_take stub x (END ∷ [])
        go (inr a) = ap (reaches x) a.1.is ∙ prefix_refl (x ++ END ∷ [])

    stub_bytes : IsBytes met.stub
    stub_bytes = (valid.leaves own.at any_leaf own.within).stub.bytes

    parts : met.stub ++ cond met.ends (END ∷ []) [] ≡ get_or (slots ls) slot []
    unfolding path
    parts = own.is

    behind : drop (length met.stub) x ≡ drop stub x
    behind = go at
      where
        go : ReachesLeaf ls x slot stub → drop (length met.stub) x ≡ drop stub x
        go (inl a) =
            let same = ended_alike met.stub (take stub x) met.ends false stub_bytes (take_bytes stub x w) (parts ∙ a.is ∙ sym (append-nil (take stub x))) in
            ap (λ (t : List ℕ). drop (length t) x) same.1 ∙ drop_taken stub x
        go (inr a) =
            let same = ended_alike met.stub x met.ends true stub_bytes w (parts ∙ a.1.is) in
            ap (λ (t : List ℕ). drop (length t) x) same.1 ∙ ap (λ (k : ℕ). drop k x) (sym a.0)

    one : (i : ℕ) → i < length ls → fits_point hash_bits n x (get_or ls i any_leaf) ≡ true → i ≡ own.at
    one i l e = one_reached ls has (x ++ END ∷ []) i own.at l own.within (point_reached i l e) reached

    pub point_is : has_suffix hash_bits n ls x slot stub ≡ point hash_bits n ls x
    point_is =
        let suffix : suffix_of_slot ls slot ≡ leaf_suffix met = own_suffix ls slot own.at has within own.within own.is in
        sym (
        one_decides (fits_point hash_bits n x) ls own.at any_leaf own.within one
        ∙ ap (λ (b : Bool). b && (hash_bits_of hash_bits x == met.hash)) (reached_fits hash_bits n met x (valid.leaves own.at any_leaf own.within) w reached)
        ∙ (λ j. (bits n (behind j) == (sym suffix j).1) && (hash_bits_of hash_bits x == (sym suffix j).0))
        )
