-- A leaf list is valid exactly where each leaf stands rightly between its neighbours.
use Rattle.std.proofs.Common.{◌≡◌, ◌<◌, ◌≤◌, ◌+◌, ◌-◌, ◌==◌, nat_lt, ◌^◌, ℕ, zero, suc, List, [], ◌∷◌, Bool, true, false, not, ◌||◌, length, take, get_or, refl, sym, ap, subst, ◌∙◌, arith, inl, inr}
use Rattle.std.specs.List.{All, list_any}
use Rattle.std.proofs.lemmas.Bool.{cases_lt, cases_Bool, and_parts, and_from, or_cases, or_left, or_right, eqb-true, eqb-false, eq-eqb, ne_eqb, lt-ltb, ltb-true, not-true, not_from_false, false≢true, cond-true, cond-false}
use Rattle.std.proofs.lemmas.List.{get_or_default}
use Rattle.filter_model.specs.Leaves.{Leaf}
use Rattle.filter_model.specs.Strings.{extends, is_before, is_prefix, bytes_eq}
use Rattle.filter_model.specs.Trie.{parent}
use Rattle.filter_model.specs.Valid.{EndsRightly, IsCrowded, IsLeaf, IsValid, joins}
use Rattle.filter_model.proofs.Order.{Leq, Lt, Lt-from, Lt-to, Lt-trans, Lt-Leq, Lt-not_back}
use Rattle.filter_model.proofs.Fronts.{same-itself}
use Rattle.filter_model.proofs.Shared.{extends-itself, extends-prefix, is_prefix-take, is_prefix_Leq, prefixes_of_one}
use Rattle.filter_model.proofs.Stubs.{different, same-false}
use Rattle.plain_filter_model.specs.Neighbours.{StandsRightly, leaf_number, joins_before, joins_next, next_extends, none, rises_at}

bool_iff : (a b : Bool) → (a ≡ true → b ≡ true) → (b ≡ true → a ≡ true) → a ≡ b
bool_iff true b h k = sym (h refl)
bool_iff false true h k = k refl
bool_iff false false h k = refl

-- a place at which a test passes
record Place (p : Leaf → Bool) (ls : List Leaf) : Type 0 where
  place : ℕ
  within : place < length ls
  passes : p (leaf_number ls place) ≡ true

place_from_any : (p : Leaf → Bool) (ls : List Leaf) → list_any p ls ≡ true → Place p ls
place_from_any p [] e = absurd (false≢true e)
place_from_any p (l ∷ ls) e = elim (or_cases (p l) (list_any p ls) e) [
  | inl here ↦ record { place = 0; within = omega arith; passes = here }
  | inr there ↦ let r = place_from_any p ls there in record { place = suc r.place; within = omega (arith, r.within); passes = r.passes }
]

any_from_place : (p : Leaf → Bool) (ls : List Leaf) (i : ℕ) → i < length ls → p (leaf_number ls i) ≡ true → list_any p ls ≡ true
any_from_place p [] i h e = absurd (omega arith)
any_from_place p (l ∷ ls) zero h e = or_left (p l) (list_any p ls) e
any_from_place p (l ∷ ls) (suc i) h e = or_right (p l) (list_any p ls) (any_from_place p ls i (omega arith) e)

-- stubs rise, by places
abbrev Rising : List Leaf → Type 0
Rising ls = (i j : ℕ) → i < j → j < length ls → Lt (leaf_number ls i).stub (leaf_number ls j).stub

-- what begins two strings begins all between them
prefix_between : (p x y z : List ℕ) → is_prefix p x ≡ true → is_prefix p z ≡ true → Leq x y → Leq y z → is_prefix p y ≡ true
prefix_between [] x y z e f h k = refl
prefix_between (a ∷ p) [] y z e f h k = absurd (false≢true e)
prefix_between (a ∷ p) (b ∷ x) y [] e f h k = absurd (false≢true f)
prefix_between (a ∷ p) (b ∷ x) [] (c ∷ z) e f h k = absurd h
prefix_between (a ∷ p) (b ∷ x) (d ∷ y) (c ∷ z) e f (inl h) (inl k) =
    absurd (omega (arith, eqb-true a b (and_parts (a == b) (is_prefix p x) e).0, eqb-true a c (and_parts (a == c) (is_prefix p z) f).0))
prefix_between (a ∷ p) (b ∷ x) (d ∷ y) (c ∷ z) e f (inl h) (inr (k, l)) =
    absurd (omega (arith, eqb-true a b (and_parts (a == b) (is_prefix p x) e).0, eqb-true a c (and_parts (a == c) (is_prefix p z) f).0))
prefix_between (a ∷ p) (b ∷ x) (d ∷ y) (c ∷ z) e f (inr (h, i)) (inl k) =
    absurd (omega (arith, eqb-true a b (and_parts (a == b) (is_prefix p x) e).0, eqb-true a c (and_parts (a == c) (is_prefix p z) f).0))
prefix_between (a ∷ p) (b ∷ x) (d ∷ y) (c ∷ z) e f (inr (h, i)) (inr (k, l)) =
    let e' = and_parts (a == b) (is_prefix p x) e in
    let f' = and_parts (a == c) (is_prefix p z) f in
    and_from (a == d) (is_prefix p y) (eq-eqb a d (eqb-true a b e'.0 ∙ h)) (prefix_between p x y z e'.1 f'.1 i l)

itself : (x : List ℕ) → is_prefix x x ≡ true
itself [] = refl
itself (a ∷ x) = and_from (a == a) (is_prefix x x) (eq-eqb a a refl) (itself x)

node_begins : (l : Leaf) → is_prefix (parent l) l.stub ≡ true
node_begins l = elim (cases_Bool l.ends) [
  | inl e ↦ ap (λ (p : List ℕ). is_prefix p l.stub) (cond-true l.ends l.stub (take (length l.stub - 1) l.stub) e) ∙ itself l.stub
  | inr e ↦ ap (λ (p : List ℕ). is_prefix p l.stub) (cond-false l.ends l.stub (take (length l.stub - 1) l.stub) e) ∙ is_prefix-take (length l.stub - 1) l.stub
]

-- some stub goes on from the one at place i exactly where the next one does
any_extends : (ls : List Leaf) (i : ℕ) → Rising ls → i < length ls → list_any (λ o. extends (leaf_number ls i).stub o.stub) ls ≡ next_extends ls i
any_extends ls i rise h =
    let s = (leaf_number ls i).stub in
    bool_iff (list_any (λ o. extends s o.stub) ls) (next_extends ls i)
    (λ e. let found = place_from_any (λ o. extends s o.stub) ls e in
    later found.place found.within (extends-prefix s (leaf_number ls found.place).stub found.passes) (λ same. extends-itself s (ap (λ j. extends s (leaf_number ls j).stub) (sym same) ∙ found.passes)))
    (λ e. let parts = and_parts (nat_lt (i + 1) (length ls)) (extends s (leaf_number ls (i + 1)).stub) e in
    any_from_place (λ o. extends s o.stub) ls (i + 1) (ltb-true (i + 1) (length ls) parts.0) parts.1)
  where
    next : (j : ℕ) → j < length ls → i + 1 ≤ j → is_prefix (leaf_number ls i).stub (leaf_number ls j).stub ≡ true → is_prefix (leaf_number ls i).stub (leaf_number ls (i + 1)).stub ≡ true
    next j k le e = elim (cases_lt (i + 1) j) [
      | inl further ↦ prefix_between (leaf_number ls i).stub (leaf_number ls i).stub (leaf_number ls (i + 1)).stub (leaf_number ls j).stub (itself (leaf_number ls i).stub) e
          (Lt-Leq (leaf_number ls i).stub (leaf_number ls (i + 1)).stub (rise i (i + 1) (omega arith) (omega arith))) (Lt-Leq (leaf_number ls (i + 1)).stub (leaf_number ls j).stub (rise (i + 1) j further k))
      | inr near ↦ let one : j ≡ i + 1 = omega arith in ap (λ n. is_prefix (leaf_number ls i).stub (leaf_number ls n).stub) (sym one) ∙ e
    ]

    later : (j : ℕ) → j < length ls → is_prefix (leaf_number ls i).stub (leaf_number ls j).stub ≡ true → (j ≡ i → ⊥) → next_extends ls i ≡ true
    later j k e ne = elim (cases_lt i j) [
      | inl after ↦
          and_from (nat_lt (i + 1) (length ls)) (extends (leaf_number ls i).stub (leaf_number ls (i + 1)).stub) (lt-ltb (i + 1) (length ls) (omega arith))
          (prefixes_of_one (leaf_number ls i).stub (leaf_number ls (i + 1)).stub (leaf_number ls (i + 1)).stub (next j k (omega arith) e) (itself (leaf_number ls (i + 1)).stub) (rise i (i + 1) (omega arith) (omega arith)))
      | inr not_after ↦ elim (cases_lt j i) [
        | inl before ↦ absurd (Lt-not_back (leaf_number ls j).stub (leaf_number ls i).stub (rise j i before h) (is_prefix_Leq (leaf_number ls i).stub (leaf_number ls j).stub e))
        | inr not_before ↦ absurd (ne (omega arith))
      ]
    ]

joins_from : (l o : Leaf) → is_prefix (parent l) o.stub ≡ true → (o.stub ≡ l.stub → ⊥) → joins l o ≡ true
joins_from l o e ne = and_from (is_prefix (parent l) o.stub) (not (bytes_eq o.stub l.stub)) e (not_from_false (bytes_eq o.stub l.stub) (same-false o.stub l.stub ne))

-- another stub goes on from the node at place i exactly where a neighbour's does
any_joins : (ls : List Leaf) (i : ℕ) → Rising ls → i < length ls → list_any (joins (leaf_number ls i)) ls ≡ (joins_before ls i || joins_next ls i)
any_joins ls i rise h =
    let l = leaf_number ls i in
    bool_iff (list_any (joins l) ls) (joins_before ls i || joins_next ls i)
    (λ e. let found = place_from_any (joins l) ls e in
    let parts = and_parts (is_prefix (parent l) (leaf_number ls found.place).stub) (not (bytes_eq (leaf_number ls found.place).stub l.stub)) found.passes in
    beside found.place found.within parts.0
    (λ one. false≢true (sym (not-true (bytes_eq (leaf_number ls found.place).stub l.stub) parts.1) ∙ ap (λ j. bytes_eq (leaf_number ls j).stub l.stub) one ∙ same-itself l.stub)))
    (λ e. elim (or_cases (joins_before ls i) (joins_next ls i) e) [
      | inl before ↦ any_before ls i h before
      | inr after ↦
          let parts = and_parts (nat_lt (i + 1) (length ls)) (joins l (leaf_number ls (i + 1))) after in
          any_from_place (joins l) ls (i + 1) (ltb-true (i + 1) (length ls) parts.0) parts.1
    ])
  where
    any_before : (ls : List Leaf) (i : ℕ) → i < length ls → joins_before ls i ≡ true → list_any (joins (leaf_number ls i)) ls ≡ true
    any_before ls zero h e = absurd (false≢true e)
    any_before ls (suc i) h e = any_from_place (joins (leaf_number ls (suc i))) ls i (omega arith) e

    apart : (a b : ℕ) → a < b → b < length ls → (leaf_number ls a).stub ≡ (leaf_number ls b).stub → ⊥
    apart a b before within = different (leaf_number ls a).stub (leaf_number ls b).stub (rise a b before within)

    next : (j : ℕ) → j < length ls → i < j → is_prefix (parent (leaf_number ls i)) (leaf_number ls j).stub ≡ true → joins_next ls i ≡ true
    next j k after e =
        and_from (nat_lt (i + 1) (length ls)) (joins (leaf_number ls i) (leaf_number ls (i + 1))) (lt-ltb (i + 1) (length ls) (omega arith))
        (joins_from (leaf_number ls i) (leaf_number ls (i + 1))
        (elim (cases_lt (i + 1) j) [
          | inl further ↦ prefix_between (parent (leaf_number ls i)) (leaf_number ls i).stub (leaf_number ls (i + 1)).stub (leaf_number ls j).stub (node_begins (leaf_number ls i)) e
              (Lt-Leq (leaf_number ls i).stub (leaf_number ls (i + 1)).stub (rise i (i + 1) (omega arith) (omega arith))) (Lt-Leq (leaf_number ls (i + 1)).stub (leaf_number ls j).stub (rise (i + 1) j further k))
          | inr near ↦ let one : j ≡ i + 1 = omega arith in ap (λ n. is_prefix (parent (leaf_number ls i)) (leaf_number ls n).stub) (sym one) ∙ e
        ])
        (λ s. apart i (i + 1) (omega arith) (omega arith) (sym s)))

    previous : (i j : ℕ) → i < length ls → j < i → is_prefix (parent (leaf_number ls i)) (leaf_number ls j).stub ≡ true → joins_before ls i ≡ true
    previous zero j k before e = absurd (omega arith)
    previous (suc i) j k before e =
        joins_from (leaf_number ls (suc i)) (leaf_number ls i)
        (elim (cases_lt j i) [
          | inl further ↦ prefix_between (parent (leaf_number ls (suc i))) (leaf_number ls j).stub (leaf_number ls i).stub (leaf_number ls (suc i)).stub e (node_begins (leaf_number ls (suc i)))
              (Lt-Leq (leaf_number ls j).stub (leaf_number ls i).stub (rise j i further (omega arith))) (Lt-Leq (leaf_number ls i).stub (leaf_number ls (suc i)).stub (rise i (suc i) (omega arith) k))
          | inr near ↦ let one : j ≡ i = omega arith in ap (λ n. is_prefix (parent (leaf_number ls (suc i))) (leaf_number ls n).stub) (sym one) ∙ e
        ])
        (apart i (suc i) (omega arith) k)

    beside : (j : ℕ) → j < length ls → is_prefix (parent (leaf_number ls i)) (leaf_number ls j).stub ≡ true → (j ≡ i → ⊥) → (joins_before ls i || joins_next ls i) ≡ true
    beside j k e ne = elim (cases_lt i j) [
      | inl after ↦ or_right (joins_before ls i) (joins_next ls i) (next j k after e)
      | inr not_after ↦ elim (cases_lt j i) [
        | inl before ↦ or_left (joins_before ls i) (joins_next ls i) (previous i j h before e)
        | inr not_before ↦ absurd (ne (omega arith))
      ]
    ]

rising_valid : (hash_bits n : ℕ) (ls : List Leaf) → IsValid hash_bits n ls → Rising ls
rising_valid hash_bits n ls valid i j before within = Lt-from (leaf_number ls i).stub (leaf_number ls j).stub (valid.rising i j none before within)

rise_valid : (hash_bits n : ℕ) (ls : List Leaf) → IsValid hash_bits n ls → (i : ℕ) → i < length ls → rises_at ls i ≡ true
rise_valid hash_bits n ls valid zero h = refl
rise_valid hash_bits n ls valid (suc i) h = valid.rising i (suc i) none (omega arith) h

-- in a valid list each leaf stands rightly
pub stands_from_valid : (hash_bits n : ℕ) (ls : List Leaf) → IsValid hash_bits n ls → (i : ℕ) → i < length ls → StandsRightly hash_bits n ls i
stands_from_valid hash_bits n ls valid i h =
    let rise = rising_valid hash_bits n ls valid in
    record {
      leaf = valid.leaves i none h;
      rise = rise_valid hash_bits n ls valid i h;
      ends = valid.ends i none h ∙ any_extends ls i rise h;
      company = elim (cases_Bool (length ls == 1)) [
        | inl one ↦
            cond-true (length ls == 1) (length (leaf_number ls i).stub == 1) (joins_before ls i || joins_next ls i) one
            ∙ eq-eqb (length (leaf_number ls i).stub) 1 (valid.single (eqb-true (length ls) 1 one) i none h)
        | inr more ↦
            cond-false (length ls == 1) (length (leaf_number ls i).stub == 1) (joins_before ls i || joins_next ls i) more
            ∙ sym (any_joins ls i rise h) ∙ valid.crowded (above (length ls) (eqb-false (length ls) 1 more) valid.some) i none h
      ];
    }
  where
    above : (k : ℕ) → (k ≡ 1 → ⊥) → 0 < k → 1 < k
    above k ne pos = elim (cases_lt 1 k) [ inl more ↦ more | inr less ↦ absurd (ne (omega arith)) ]

-- each stub above the one before makes them rise
rising_stands : (hash_bits n : ℕ) (ls : List Leaf) → ((i : ℕ) → i < length ls → StandsRightly hash_bits n ls i) → (i j : ℕ) → i < j → j < length ls → Lt (leaf_number ls i).stub (leaf_number ls j).stub
rising_stands hash_bits n ls h i zero before within = absurd (omega arith)
rising_stands hash_bits n ls h i (suc j) before within =
    let step = Lt-from (leaf_number ls j).stub (leaf_number ls (suc j)).stub (h (suc j) within).rise in
    elim (cases_lt i j) [
      | inl further ↦ Lt-trans (leaf_number ls i).stub (leaf_number ls j).stub (leaf_number ls (suc j)).stub (rising_stands hash_bits n ls h i j further (omega arith)) step
      | inr near ↦ let one : i ≡ j = omega arith in subst (λ k. Lt (leaf_number ls k).stub (leaf_number ls (suc j)).stub) (sym one) step
    ]

-- what holds at each place holds of each leaf
All-at : (P : Leaf → Type 0) (ls : List Leaf) → ((i : ℕ) → i < length ls → P (leaf_number ls i)) → All P ls
All-at P ls h i d within = subst P (get_or_default ls i none d within) (h i within)

pub valid_from_stands : (hash_bits n : ℕ) (ls : List Leaf) → 0 < length ls → length ls < 2 ^ 32 → ((i : ℕ) → i < length ls → StandsRightly hash_bits n ls i) → IsValid hash_bits n ls
valid_from_stands hash_bits n ls some few h =
    let rise = rising_stands hash_bits n ls h in
    record {
      some = some;
      few = few;
      leaves = All-at (IsLeaf hash_bits n) ls (λ i k. (h i k).leaf);
      rising = λ i j d before within.
          subst (λ (a : Leaf). is_before a.stub (get_or ls j d).stub ≡ true) (get_or_default ls i none d (omega arith))
          (subst (λ (b : Leaf). is_before (leaf_number ls i).stub b.stub ≡ true) (get_or_default ls j none d within) (Lt-to (leaf_number ls i).stub (leaf_number ls j).stub (rise i j before within)));
      ends = All-at (EndsRightly ls) ls (λ i k. (h i k).ends ∙ sym (any_extends ls i rise k));
      single = λ one. All-at (λ l. length l.stub ≡ 1) ls
          (λ i k. eqb-true (length (leaf_number ls i).stub) 1 (sym (cond-true (length ls == 1) (length (leaf_number ls i).stub == 1) (joins_before ls i || joins_next ls i) (eq-eqb (length ls) 1 one)) ∙ (h i k).company));
      crowded = λ more. All-at (IsCrowded ls) ls
          (λ i k. any_joins ls i rise k
          ∙ sym (cond-false (length ls == 1) (length (leaf_number ls i).stub == 1) (joins_before ls i || joins_next ls i) (ne_eqb (length ls) 1 (λ e. omega arith))) ∙ (h i k).company);
    }
