-- The leaves of a list of keys are valid.
use Rattle.std.proofs.Common.{◌≡◌, ◌<◌, ◌≤◌, ◌+◌, ℕ, zero, suc, List, [], ◌∷◌, true, length, get_or, map, refl, sym, ap, subst, ◌∙◌, arith, inl, inr}
use Rattle.std.specs.List.{All, AllPairs, Contains, list_any}
use Rattle.std.proofs.lemmas.Bool.{cases_lt, cases_Bool, cond-true, false_from_ne_true, false≢true}
use Rattle.std.proofs.lemmas.List.{length-map, get_or-map, length-take}
use Rattle.std.proofs.lemmas.List.Elements.{All-map, All-contains, Contains-get_or}
use Rattle.filter_model.specs.Strings.{is_before, extends, bytes_eq, shared}
use Rattle.filter_model.specs.Keys.{IsKey, IsKeyList}
use Rattle.filter_model.specs.Leaves.{Leaf, shared_most, stub_of, ends_of, leaf_of, leaves_of}
use Rattle.filter_model.specs.Valid.{IsLeaf, IsLeafList, EndsRightly, IsCrowded}
use Rattle.key_base.specs.Limits.{max_real_bits}
use Rattle.filter_model.specs.Laws.{LeavesAreValid, NodesBranch, ValidListsAreLeafLists}
use Rattle.filter_model.specs.Trie.{branches, parent}
use Rattle.filter_model.proofs.Order.{Lt-from, Lt-to}
use Rattle.filter_model.proofs.Fronts.{same-itself}
use Rattle.filter_model.proofs.Stubs.{any_at, passing_from_any, leaf_of_key, different, stubs_rise, ends_from_extends, extends_from_ends}
use Rattle.filter_model.proofs.Crowds.{crowded, two_at_node}

pub key_of : (keys : List (List ℕ)) → IsKeyList keys → (k : List ℕ) → Contains keys k → IsKey k
key_of keys h k c = All-contains IsKey keys k h.each c

-- two keys at different places are different
apart : (keys : List (List ℕ)) → IsKeyList keys → (i j : ℕ) (d : List ℕ) → i < length keys → j < length keys → (i ≡ j → ⊥) → get_or keys i d ≡ get_or keys j d → ⊥
apart keys h i j d l k ne e = elim (cases_lt i j) [
  | inl before ↦ different (get_or keys i d) (get_or keys j d) (Lt-from (get_or keys i d) (get_or keys j d) (h.rising i j d before k)) e
  | inr not_before ↦
      let after : j < i = smaller i j not_before ne in
      different (get_or keys j d) (get_or keys i d) (Lt-from (get_or keys j d) (get_or keys i d) (h.rising j i d after l)) (sym e)
]
  where
    smaller : (i j : ℕ) → j ≤ i → (i ≡ j → ⊥) → j < i
    smaller i j le ne = elim (cases_lt j i) [ inl less ↦ less | inr more ↦ absurd (ne (omega arith)) ]

rising : (hash_bits n : ℕ) (keys : List (List ℕ)) → IsKeyList keys → AllPairs (λ a b. is_before a.stub b.stub ≡ true) (leaves_of hash_bits n keys)
rising hash_bits n keys h i j d before within =
    let f = leaf_of hash_bits n keys in
    let size = length-map keys f in
    let i_in : i < length keys = omega (arith, size) in
    let j_in : j < length keys = omega (arith, size) in
    let x = get_or keys i [] in
    let y = get_or keys j [] in
    let lt = Lt-from x y (h.rising i j [] before j_in) in
    let up = Lt-to (stub_of keys x) (stub_of keys y) (stubs_rise keys x y (Contains-get_or keys i [] i_in) (Contains-get_or keys j [] j_in) lt) in
    subst (λ (a : Leaf). is_before a.stub (get_or (map f keys) j d).stub ≡ true) (sym (get_or-map f keys i [] d i_in))
    (subst (λ (b : Leaf). is_before (stub_of keys x) b.stub ≡ true) (sym (get_or-map f keys j [] d j_in)) up)

ends_rightly : (hash_bits n : ℕ) (keys : List (List ℕ)) → IsKeyList keys → (k : List ℕ) → Contains keys k → EndsRightly (leaves_of hash_bits n keys) (leaf_of hash_bits n keys k)
ends_rightly hash_bits n keys h k c =
    let f = leaf_of hash_bits n keys in
    let test = λ (o : Leaf). extends (stub_of keys k) o.stub in
    elim (cases_Bool (ends_of keys k)) [
      | inl e ↦
          let other = extends_from_ends keys k c (key_of keys h k c).filled e in
          e ∙ sym (any_at test f keys other.0 other.1 other.2)
      | inr e ↦
          e ∙ sym (false_from_ne_true (list_any test (map f keys))
          (λ some. let found = passing_from_any test f keys some in
          false≢true (sym e ∙ ends_from_extends keys k found.item found.here found.passes)))
    ]

-- one key alone shares nothing with another
alone : (keys : List (List ℕ)) (k : List ℕ) → length keys ≡ 1 → Contains keys k → shared_most keys k ≡ 0
alone [] k one c = refl
alone (x ∷ y ∷ keys) k one c = absurd (omega arith)
alone (x ∷ []) k one (zero, l, e) = omega (arith, cond-true (bytes_eq k x) 0 (shared k x) (ap (bytes_eq k) e ∙ same-itself k))
alone (x ∷ []) k one (suc i, l, e) = absurd (omega arith)

single : (hash_bits n : ℕ) (keys : List (List ℕ)) → IsKeyList keys → length keys ≡ 1 → (k : List ℕ) → Contains keys k → length (stub_of keys k) ≡ 1
single hash_bits n keys h one k c =
    omega (arith, length-take (shared_most keys k + 1) k, alone keys k one c, (key_of keys h k c).filled)

crowds : (hash_bits n : ℕ) (keys : List (List ℕ)) → IsKeyList keys → 1 < length keys → All (λ k. IsCrowded (leaves_of hash_bits n keys) (leaf_of hash_bits n keys k)) keys
crowds hash_bits n keys h more zero d l =
    crowded hash_bits n keys (get_or keys 0 d) (get_or keys 1 d) (Contains-get_or keys 0 d l) (Contains-get_or keys 1 d more)
    (apart keys h 0 1 d l more (λ e. omega arith))
crowds hash_bits n keys h more (suc i) d l =
    crowded hash_bits n keys (get_or keys (suc i) d) (get_or keys 0 d) (Contains-get_or keys (suc i) d l) (Contains-get_or keys 0 d (omega arith))
    (apart keys h (suc i) 0 d l (omega arith) (λ e. omega arith))

pub leaves_are_valid : LeavesAreValid
leaves_are_valid hash_bits n keys nh h =
    let f = leaf_of hash_bits n keys in
    let ls = leaves_of hash_bits n keys in
    let size = length-map keys f in
    record {
      some = omega (arith, size, h.some);
      few = omega (arith, size, h.few);
      leaves = All-map (IsLeaf hash_bits n) f keys (λ i d l. leaf_of_key hash_bits n keys (get_or keys i d) nh (h.each i d l));
      rising = rising hash_bits n keys h;
      ends = All-map (EndsRightly ls) f keys (λ i d l. ends_rightly hash_bits n keys h (get_or keys i d) (Contains-get_or keys i d l));
      single = λ one. All-map (λ (l : Leaf). length l.stub ≡ 1) f keys (λ i d l. single hash_bits n keys h (sym size ∙ one) (get_or keys i d) (Contains-get_or keys i d l));
      crowded = λ more. All-map (IsCrowded ls) f keys (crowds hash_bits n keys h (omega (arith, size)));
    }

-- at each place there is another key
other_key : (keys : List (List ℕ)) → IsKeyList keys → 1 < length keys → (i : ℕ) (d : List ℕ) → i < length keys → (x : List ℕ) × Contains keys x × (get_or keys i d ≡ x → ⊥)
other_key keys h more zero d l = (get_or keys 1 d, Contains-get_or keys 1 d more, apart keys h 0 1 d l more (λ e. omega arith))
other_key keys h more (suc i) d l = (get_or keys 0 d, Contains-get_or keys 0 d (omega arith), apart keys h (suc i) 0 d l (omega arith) (λ e. omega arith))

pub nodes_branch : NodesBranch
nodes_branch hash_bits n keys h more =
    All-map (λ (l : Leaf). 2 ≤ length (branches (leaves_of hash_bits n keys) (parent l))) (leaf_of hash_bits n keys) keys
    (λ i d l. let other = other_key keys h more i d l in two_at_node hash_bits n keys (get_or keys i d) other.0 (key_of keys h) (Contains-get_or keys i d l) other.1 other.2)

pub valid_lists_are_leaf_lists : ValidListsAreLeafLists
valid_lists_are_leaf_lists h r ls v = record { some = v.some; few = v.few; leaves = v.leaves; rising = v.rising; ends = v.ends }

-- the leaves of a list of keys are a leaf list
pub leaves_are_listed : (hash_bits n : ℕ) (keys : List (List ℕ)) → n ≤ max_real_bits → IsKeyList keys → IsLeafList hash_bits n (leaves_of hash_bits n keys)
leaves_are_listed hash_bits n keys nh h = valid_lists_are_leaf_lists hash_bits n (leaves_of hash_bits n keys) (leaves_are_valid hash_bits n keys nh h)
