-- The leaf of a slot, and that a key reaches no other.
use Rattle.std.proofs.Common.{◌≡◌, ℕ, zero, suc, ◌<◌, ◌≤◌, ◌==◌, Bool, true, false, cond, List, [], ◌∷◌, ◌++◌, length, get_or, take, drop, map, refl, ap, sym, ◌∙◌, arith, inl, inr}
use Rattle.std.specs.Prelude.{filter}
use Rattle.std.proofs.lemmas.Bool.{and_from, and_parts, cases_lt, eq-eqb, eqb-true, false≢true}
use Rattle.std.proofs.lemmas.List.{get_or-map}
use Rattle.byte_fields.specs.Spelling.{IsBytes}
use Rattle.filter_image_model.proofs.Lists.{all_filter, all_flat, all_of, by_recursion}
use Rattle.filter_model.proofs.Fronts.{IsBytes-tail}
use Rattle.filter_model.specs.Image.{in_slots}
use Rattle.filter_model.specs.Leaves.{Leaf}
use Rattle.filter_model.specs.Strings.{bytes_eq, is_prefix}
use Rattle.filter_model.specs.Trie.{END, path, slots}
use Rattle.filter_trie.proofs.Reached.{slot_is}
use Rattle.filter_trie.proofs.Suffixes.{leaf_count}
use Rattle.suffix_bits.specs.Slots.{leaf_suffix}
use Rattle.trie_laws.proofs.Paths.{any_leaf, one_begins, path_node, prefix_itself, reached_by}
use Rattle.trie_laws.proofs.Slots.{leaves_have_slots, prefix_whole}
use Rattle.trie_levels.specs.Tries.{HasTrie}

-- ---- strings

-- of two strings that begin a third the shorter begins the longer
prefix_pair : (p q x : List ℕ) → is_prefix p x ≡ true → is_prefix q x ≡ true → length p ≤ length q → is_prefix p q ≡ true
prefix_pair [] q x e h l = refl
prefix_pair (a ∷ p) [] x e h l = absurd (omega (arith, l))
prefix_pair (a ∷ p) (c ∷ q) [] e h l = absurd (false≢true e)
prefix_pair (a ∷ p) (c ∷ q) (b ∷ x) e h l =
    let here = and_parts (a == b) (is_prefix p x) e in
    let there = and_parts (c == b) (is_prefix q x) h in
    and_from (a == c) (is_prefix p q) (eq-eqb a c (eqb-true a b here.0 ∙ sym (eqb-true c b there.0))) (prefix_pair p q x here.1 there.1 (omega (arith, l)))

-- two stubs with END or without
pub ended_alike : (t u : List ℕ) (e f : Bool) → IsBytes t → IsBytes u → t ++ cond e (END ∷ []) [] ≡ u ++ cond f (END ∷ []) [] → (e ≡ f) × (t ≡ u)
ended_alike [] [] true true v w h = (refl, refl)
ended_alike [] [] false false v w h = (refl, refl)
ended_alike [] [] true false v w h = absurd (omega (arith, ap (λ (x : List ℕ). length x) h))
ended_alike [] [] false true v w h = absurd (omega (arith, ap (λ (x : List ℕ). length x) h))
ended_alike [] (b ∷ u) true f v w h = absurd (omega (arith, ap (λ (x : List ℕ). get_or x 0 0) h, w 0))
ended_alike [] (b ∷ u) false f v w h = absurd (omega (arith, ap (λ (x : List ℕ). length x) h))
ended_alike (a ∷ t) [] e true v w h = absurd (omega (arith, ap (λ (x : List ℕ). get_or x 0 0) h, v 0))
ended_alike (a ∷ t) [] e false v w h = absurd (omega (arith, ap (λ (x : List ℕ). length x) h))
ended_alike (a ∷ t) (b ∷ u) e f v w h =
    let rest = ended_alike t u e f (IsBytes-tail a t v) (IsBytes-tail b u w) (ap (drop 1) h) in
    (rest.0, λ j. ap (λ (x : List ℕ). get_or x 0 0) h j ∷ rest.1 j)

pub take_bytes : (n : ℕ) (x : List ℕ) → IsBytes x → IsBytes (take n x)
take_bytes zero x w = λ i. omega arith
take_bytes (suc n) [] w = w
take_bytes (suc n) (a ∷ x) w = both (w 0) (take_bytes n x (IsBytes-tail a x w))
  where
    both : a < 256 → IsBytes (take n x) → IsBytes (a ∷ take n x)
    both h k zero = h
    both h k (suc i) = k i

-- ---- the leaf of a slot

pub record IsLeafOf (ls : List Leaf) (slot : ℕ) : Type 0 where
  pub at : ℕ
  pub within : at < length ls
  pub is : path (get_or ls at any_leaf) ≡ get_or (slots ls) slot []

pub leaf_of : (ls : List Leaf) (slot : ℕ) → HasTrie ls → slot < length (slots ls) → IsLeafOf ls slot
leaf_of ls slot t l =
    let q = get_or (slots ls) slot [] in
    let is = slot_is ls t slot l in
    let by = reached_by ls any_leaf q is.0 in
    record {
      at = by.0;
      within = by.1;
      is = sym (prefix_whole q (path (get_or ls by.0 any_leaf)) by.2 (λ e. false≢true (sym is.1 ∙ path_node ls by.0 any_leaf q by.1 e)));
    }

-- a string begins with the path of one leaf at most
pub one_reached : (ls : List Leaf) → HasTrie ls → (w : List ℕ) (i k : ℕ) → i < length ls → k < length ls
    → is_prefix (path (get_or ls i any_leaf)) w ≡ true → is_prefix (path (get_or ls k any_leaf)) w ≡ true → i ≡ k
one_reached ls t w i k il kl e f =
    let p = path (get_or ls i any_leaf) in
    let q = path (get_or ls k any_leaf) in
    elim (cases_lt (length q) (length p)) [
      | inl less ↦ sym (one_begins ls t k i any_leaf kl il (prefix_pair q p w f e (omega (arith, less))))
      | inr more ↦ one_begins ls t i k any_leaf il kl (prefix_pair p q w e f more)
    ]

-- the suffix of its slot is its own
pub own_suffix : (ls : List Leaf) (slot k : ℕ) → HasTrie ls → slot < length (slots ls) → k < length ls → path (get_or ls k any_leaf) ≡ get_or (slots ls) slot []
    → get_or (map leaf_suffix (in_slots ls)) slot (0, 0) ≡ leaf_suffix (get_or ls k any_leaf)
unfolding in_slots
own_suffix ls slot k t l kl e =
    let own = get_or ls k any_leaf in
    let P : Leaf → Type 0 = λ o. path o ≡ path own → leaf_suffix o ≡ leaf_suffix own in
    let each = by_recursion P ls (λ i d il same. ap (λ (j : ℕ). leaf_suffix (get_or ls j d)) (one_begins ls t i k d il kl (one d il same)) ∙ ap leaf_suffix (other k d kl)) in
    let all = all_flat P (λ (q : List ℕ). filter (λ o. bytes_eq (path o) q) ls) (slots ls) (λ q. all_filter P (λ o. bytes_eq (path o) q) ls each) in
    let h = leaves_have_slots ls t in
    let within : slot < length (in_slots ls) = omega (arith, l, h.as_many, leaf_count ls t) in
    let there : path (get_or (in_slots ls) slot any_leaf) ≡ get_or (slots ls) slot [] = sym (get_or-map path (in_slots ls) slot any_leaf [] within) ∙ ap (λ (qs : List (List ℕ)). get_or qs slot []) h.leaf_of_slot in
    get_or-map leaf_suffix (in_slots ls) slot any_leaf (0, 0) within ∙ all_of P (in_slots ls) all slot any_leaf within (there ∙ sym e)
  where
    other : (i : ℕ) (d : Leaf) → i < length ls → get_or ls i d ≡ get_or ls i any_leaf
    other i d il = get_or-any ls i d il
      where
        get_or-any : (xs : List Leaf) (i : ℕ) (d : Leaf) → i < length xs → get_or xs i d ≡ get_or xs i any_leaf
        get_or-any [] i d l = absurd (omega (arith, l))
        get_or-any (x ∷ xs) zero d l = refl
        get_or-any (x ∷ xs) (suc i) d l = get_or-any xs i d (omega (arith, l))

    one : {i : ℕ} (d : Leaf) → i < length ls → path (get_or ls i d) ≡ path (get_or ls k any_leaf) → is_prefix (path (get_or ls i d)) (path (get_or ls k d)) ≡ true
    one {i} d il same = ap (is_prefix (path (get_or ls i d))) (ap path (other k d kl) ∙ sym same) ∙ prefix_itself (path (get_or ls i d))
