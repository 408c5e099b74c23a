-- The keys in the order of their slots are the keys, each once.
use Rattle.std.proofs.Common.{◌≡◌, ◌==◌, ◌<◌, ◌≤◌, ℕ, zero, suc, List, [], ◌∷◌, ◌++◌, length, get_or, refl, sym, ap, subst, ◌∙◌, arith, inl, inr}
use Rattle.std.specs.Prelude.{filter, sum_by}
use Rattle.std.specs.List.{AllPairs, Contains}
use Rattle.std.proofs.lemmas.Bool.{cases_lt, eq-eqb}
use Rattle.std.proofs.lemmas.List.{get_or-map, length-map}
use Rattle.std.proofs.lemmas.List.Elements.{All-contains, Contains-append_cases, Contains-append_left, Contains-append_right, Contains-get_or}
use Rattle.std.proofs.lemmas.List.Sums.{sum_by-append, sum_by-cons}
use Rattle.filter_model.specs.Image.{in_slots}
use Rattle.filter_model.specs.Keys.{IsKey, IsKeyList}
use Rattle.filter_model.specs.Leaves.{Leaf}
use Rattle.filter_model.specs.Trie.{height, path}
use Rattle.filter_model.proofs.Counts.{AllPairs-head, AllPairs-tail}
use Rattle.filter_model.proofs.Order.{Lt-from}
use Rattle.filter_model.proofs.Pairs.{Contains-cases, Contains-filter, Contains-first, Contains-map, Contains-map_back, Contains-nil}
use Rattle.filter_model.proofs.Stubs.{Contains-more, different}
use Rattle.trie_levels.specs.Spans.{by_length}
use Rattle.trie_levels.specs.Tries.{HasTrie}
use Rattle.trie_levels.proofs.ByLength.{held_by_length, slots_by_length}
use Rattle.trie_levels.proofs.Distinct.{Apart}
use Rattle.trie_levels.proofs.Growth.{path_filled}
use Rattle.trie_levels.proofs.Totals.{valid_lists_have_tries}
use Rattle.trie_laws.proofs.Paths.{path_high}
use Rattle.trie_laws.proofs.Slots.{leaves_have_slots}
use Rattle.map_file_model.specs.Maps.{Bytes, slotted}
use Rattle.whole_keys.specs.Whole.{whole_leaf, whole_leaves}
use Rattle.whole_keys.proofs.Listed.{AllPairs-map, keys_are_leaf_list, stubs_are}

-- ---- sums over lists with the same elements

record Around {X : Type 0} (ys : List X) (x : X) : Type 0 where
  before : List X
  after : List X
  whole : ys ≡ before ++ x ∷ after

around : {X : Type 0} (ys : List X) (x : X) → Contains ys x → Around ys x
around [] x c = absurd (Contains-nil x c)
around {X} (y ∷ ys) x c = elim (Contains-cases y ys x c) [
  | inl here ↦ record { before = []; after = ys; whole = ap (λ (z : X). z ∷ ys) here }
  | inr there ↦ let r = around ys x there in record { before = y ∷ r.before; after = r.after; whole = ap (λ (l : List X). y ∷ l) r.whole }
]

kept_without : {X : Type 0} (before after : List X) (x y : X) → Contains (before ++ x ∷ after) y → Apart x y → Contains (before ++ after) y
kept_without before after x y c other = elim (Contains-append_cases before (x ∷ after) y c) [
  | inl left ↦ Contains-append_left before after y left
  | inr right ↦ elim (Contains-cases x after y right) [
    | inl here ↦ absurd (other here)
    | inr more ↦ Contains-append_right before after y more
  ]
]

-- each element of xs once, and in ys
pub sum_le : {X : Type 0} (f : X → ℕ) (xs ys : List X) → AllPairs Apart xs → ((x : X) → Contains xs x → Contains ys x) → sum_by f xs ≤ sum_by f ys
sum_le f [] ys h k = omega arith
sum_le {X} f (x ∷ xs) ys h k =
    let r = around ys x (k x (Contains-first x xs)) in
    let rest = sum_le f xs (r.before ++ r.after) (AllPairs-tail Apart x xs h)
    (λ y c. kept_without r.before r.after x y (subst (λ (l : List X). Contains l y) r.whole (k y (Contains-more x xs y c))) (AllPairs-head Apart x xs h y c)) in
    omega (arith, rest, sum_by-cons f x xs, ap (sum_by f) r.whole, sum_by-append f r.before (x ∷ r.after), sum_by-cons f x r.after, sum_by-append f r.before r.after)

-- ---- leaves by the length of their paths

in_by_length : (ls : List Leaf) (n k : ℕ) (l : Leaf) → length (path l) ≡ suc k → k < n → Contains ls l → Contains (by_length n ls) l
in_by_length ls zero k l long lt c = absurd (omega (arith, lt))
in_by_length ls (suc n) k l long lt c = elim (cases_lt k n) [
  | inl before ↦ Contains-append_left (by_length n ls) (filter (λ (x : Leaf). length (path x) == suc n) ls) l (in_by_length ls n k l long before c)
  | inr last ↦
      Contains-append_right (by_length n ls) (filter (λ (x : Leaf). length (path x) == suc n) ls) l
      (Contains-filter (λ (x : Leaf). length (path x) == suc n) ls l c (eq-eqb (length (path l)) (suc n) (omega (arith, long, lt, last))))
]

pred_of : (n : ℕ) → 0 < n → (k : ℕ) × (n ≡ suc k)
pred_of zero lt = absurd (omega (arith, lt))
pred_of (suc k) lt = (k, refl)

-- ---- of a list of keys

pub same_leaf : (keys : List Bytes) (l : Leaf) → Contains (whole_leaves keys) l → whole_leaf keys l.stub ≡ l
same_leaf keys l c = let r = Contains-map_back (whole_leaf keys) keys l c in ap (λ (o : Leaf). whole_leaf keys o.stub) (sym r.2) ∙ r.2

pub keys_once : (keys : List Bytes) → IsKeyList keys → AllPairs Apart keys
keys_once keys h i j d before within same =
    different (get_or keys i d) (get_or keys j d) (Lt-from (get_or keys i d) (get_or keys j d) (h.rising i j d before within)) same

pub tries : (keys : List Bytes) → IsKeyList keys → HasTrie (whole_leaves keys)
tries keys h = valid_lists_have_tries 0 0 (whole_leaves keys) (keys_are_leaf_list keys h)

module _ (keys : List Bytes) (h : IsKeyList keys) where
  abbrev leaves : List Leaf
  leaves = whole_leaves keys

  in_order : in_slots leaves ≡ by_length (height leaves) leaves
  in_order = slots_by_length leaves (tries keys h)

  pub held : (l : Leaf) → Contains (in_slots leaves) l → Contains leaves l
  held l c = held_by_length leaves (height leaves) l (subst (λ (ls : List Leaf). Contains ls l) in_order c)

  pub slotted_is_key : (k : Bytes) → Contains (slotted keys) k → Contains keys k
  unfolding slotted
  slotted_is_key k c =
      let r = Contains-map_back (λ (l : Leaf). l.stub) (in_slots leaves) k c in
      let own = Contains-map (λ (l : Leaf). l.stub) leaves r.0 (held r.0 r.1) in
      subst (λ (x : Bytes). Contains keys x) r.2 (subst (λ (ks : List Bytes). Contains ks r.0.stub) (stubs_are keys) own)

  pub key_is_slotted : (k : Bytes) → Contains keys k → Contains (slotted keys) k
  unfolding slotted
  key_is_slotted k c =
      let l = whole_leaf keys k in
      let filled = (All-contains IsKey keys k h.each c).filled in
      let cl = Contains-map (whole_leaf keys) keys k c in
      let high = subst (λ (o : Leaf). length (path o) ≤ height leaves) cl.2 (path_high leaves cl.0 l cl.1) in
      let p = pred_of (length (path l)) (path_filled l filled) in
      let there = in_by_length leaves (height leaves) p.0 l p.1 (omega (arith, high, p.1)) cl in
      Contains-map (λ (l : Leaf). l.stub) (in_slots leaves) l (subst (λ (ls : List Leaf). Contains ls l) (sym in_order) there)

  once_in_slots : AllPairs Apart (in_slots leaves)
  once_in_slots i j d before within same =
      let s = leaves_have_slots leaves (tries keys h) in
      let size = length-map (in_slots leaves) path in
      let once = subst (AllPairs (λ (p q : List ℕ). p ≡ q → ⊥)) (sym s.leaf_of_slot) s.once in
      once i j (path d) before (omega (arith, size, within))
      (get_or-map path (in_slots leaves) i d (path d) (omega (arith, before, within)) ∙ ap path same ∙ sym (get_or-map path (in_slots leaves) j d (path d) within))

  pub slotted_once : AllPairs Apart (slotted keys)
  unfolding slotted
  slotted_once = AllPairs-map Apart (λ (l : Leaf). l.stub) (in_slots leaves) (λ i j d before within same.
      let a = get_or (in_slots leaves) i d in
      let b = get_or (in_slots leaves) j d in
      once_in_slots i j d before within
      (sym (same_leaf keys a (held a (Contains-get_or (in_slots leaves) i d (omega (arith, before, within)))))
      ∙ ap (whole_leaf keys) same ∙ same_leaf keys b (held b (Contains-get_or (in_slots leaves) j d within))))

  pub slotted_size : length (slotted keys) ≡ length keys
  unfolding slotted
  slotted_size =
      let s = leaves_have_slots leaves (tries keys h) in
      length-map (in_slots leaves) (λ (l : Leaf). l.stub) ∙ sym (length-map (in_slots leaves) path) ∙ ap length s.leaf_of_slot ∙ s.as_many
      ∙ length-map keys (whole_leaf keys)

  -- sums over the keys are those over their slots
  pub sums_agree : (f : Bytes → ℕ) → sum_by f (slotted keys) ≡ sum_by f keys
  sums_agree f =
      let up = sum_le f (slotted keys) keys slotted_once slotted_is_key in
      let down = sum_le f keys (slotted keys) (keys_once keys h) key_is_slotted in
      omega (arith, up, down)
