-- Another stub goes on from a leaf's node exactly where that node has a second branch.
use Rattle.std.proofs.Common.{◌≡◌, ℕ, suc, ◌-◌, ◌<◌, ◌≤◌, ◌==◌, Bool, true, false, List, [], ◌∷◌, ◌++◌, length, get_or, refl, ap, subst, sym, ◌∙◌, arith, inl, inr}
use Rattle.std.specs.Prelude.{not}
use Rattle.std.proofs.lemmas.Bool.{and_from, and_parts, cases_eq, cases_order, eq-eqb, eqb-true, false_from_ne_true, false≢true, not-true, not_from_false, true≢false}
use Rattle.std.proofs.lemmas.List.{get_or_default}
use Rattle.std.proofs.lemmas.List.Folds.{list_any_at}
use Rattle.filter_model.specs.Leaves.{Leaf}
use Rattle.filter_model.specs.Nodes.{last_letter}
use Rattle.filter_model.specs.Strings.{extends, is_prefix, bytes_eq}
use Rattle.filter_model.specs.Trie.{END, branches, is_reached, parent, path}
use Rattle.filter_model.specs.Valid.{IsCrowded, joins}
use Rattle.filter_model.proofs.Crowds.{parent-path, two_branches}
use Rattle.filter_model.proofs.Fronts.{same-itself, same-true}
use Rattle.filter_model.proofs.Stubs.{different}
use Rattle.trie_levels.specs.Tries.{HasTrie}
use Rattle.trie_levels.proofs.Growth.{path_filled}
use Rattle.trie_levels.proofs.Parting.{tail}
use Rattle.trie_levels.proofs.Totals.{in_order}
use Rattle.trie_laws.specs.Leaves.{CompanyIsABranch}
use Rattle.trie_laws.proofs.Forms.{branches_differ, branches_reached, one_further, path_letter, prefix_more}
use Rattle.trie_laws.proofs.Paths.{any_leaf, one_begins, path_reached, prefix_itself, pushed, reached_by, some_at}
use Rattle.trie_laws.proofs.Places.{branches_form}
use Rattle.trie_laws.proofs.Slots.{prefix_whole}

-- a path that goes on from p goes on from it by its stub
stub_begins : (p x : List ℕ) (e : Bool) → extends p (x ++ tail e) ≡ true → is_prefix p x ≡ true
stub_begins [] x e h = refl
stub_begins (a ∷ p) [] true h = absurd (none p (and_parts (a == END) (extends p []) h).1)
  where
    none : (p : List ℕ) → extends p [] ≡ true → ⊥
    none [] k = false≢true k
    none (b ∷ p) k = false≢true k
stub_begins (a ∷ p) [] false h = absurd (false≢true h)
stub_begins (a ∷ p) (b ∷ x) e h =
    let parts = and_parts (a == b) (extends p (x ++ tail e)) h in and_from (a == b) (is_prefix p x) parts.0 (stub_begins p x e parts.1)

-- a leaf by its number, its path cut before the last letter
record IsCut (ls : List Leaf) (i : ℕ) : Type 0 where
  letter : ℕ
  small : letter ≤ 256
  whole : path (get_or ls i any_leaf) ≡ parent (get_or ls i any_leaf) ++ letter ∷ []
  reached : is_reached ls (parent (get_or ls i any_leaf) ++ letter ∷ []) ≡ true

cut : (ls : List Leaf) (i : ℕ) → HasTrie ls → i < length ls → IsCut ls i
unfolding path
cut ls i t il =
    let l = get_or ls i any_leaf in
    let n = length (path l) - 1 in
    let long : length (path l) ≡ suc n = omega (arith, path_filled l ((in_order ls t).filled i any_leaf il)) in
    let c = get_or (path l) n 0 in
    let w : path l ≡ parent l ++ c ∷ [] = pushed (path l) n long ∙ ap (λ (p : List ℕ). p ++ c ∷ []) (sym (parent-path l)) in
    record {
      letter = c;
      small = path_letter l.stub l.ends n ((in_order ls t).bytes i any_leaf il);
      whole = w;
      reached = path_reached ls i any_leaf (parent l ++ c ∷ []) il (ap (λ (q : List ℕ). is_prefix q (path l)) (sym w) ∙ prefix_itself (path l));
    }

prefix_push : (p : List ℕ) (c : ℕ) → is_prefix p (p ++ c ∷ []) ≡ true
prefix_push [] c = refl
prefix_push (a ∷ p) c = and_from (a == a) (is_prefix p (p ++ c ∷ [])) (eq-eqb a a refl) (prefix_push p c)

-- another stub is a second branch
second_branch : (ls : List Leaf) (i : ℕ) → HasTrie ls → i < length ls → IsCrowded ls (get_or ls i any_leaf) → 2 ≤ length (branches ls (parent (get_or ls i any_leaf)))
unfolding path
second_branch ls i t il h =
    let l = get_or ls i any_leaf in
    let p = parent l in
    let c = cut ls i t il in
    let found = some_at (joins l) ls any_leaf h in
    let k = found.0 in
    let o = get_or ls k any_leaf in
    let joined = and_parts (is_prefix (parent l) o.stub) (not (bytes_eq o.stub l.stub)) found.2 in
    let other : (i ≡ k) → ⊥ = λ e. true≢false (sym (same-itself l.stub) ∙ ap (λ (j : ℕ). bytes_eq (get_or ls j any_leaf).stub l.stub) e ∙ not-true (bytes_eq o.stub l.stub) joined.1) in
    let begun : is_prefix p (path o) ≡ true = prefix_more p o.stub (tail o.ends) joined.0 in
    let on : extends p (path o) ≡ true = true_from_not (extends p (path o)) (λ none.
    let same : p ≡ path o = prefix_whole p (path o) begun none in
    other (sym (one_begins ls t k i any_leaf found.1 il (ap (λ (q : List ℕ). is_prefix q (path l)) (sym same) ∙ ap (is_prefix p) c.whole ∙ prefix_push p c.letter)))) in
    let further = one_further p (path o) on in
    let d = get_or (path o) (length p) 0 in
    let apart : c.letter ≡ d → ⊥ = λ e. other (one_begins ls t i k any_leaf il found.1 (ap (λ (q : List ℕ). is_prefix q (path o)) (c.whole ∙ ap (λ (a : ℕ). p ++ a ∷ []) e) ∙ further.1)) in
    two_branches ls p c.letter d c.small (path_letter o.stub o.ends (length p) ((in_order ls t).bytes k any_leaf found.1)) apart c.reached
    (path_reached ls k any_leaf (p ++ d ∷ []) found.1 further.1)
  where
    true_from_not : (b : Bool) → ((b ≡ true → ⊥) → ⊥) → b ≡ true
    true_from_not true h = refl
    true_from_not false h = absurd (h false≢true)

-- a branch by another letter
record IsOther (ls : List Leaf) (p : List ℕ) (c : ℕ) : Type 0 where
  letter : ℕ
  apart : letter ≡ c → ⊥
  reached : is_reached ls (p ++ letter ∷ []) ≡ true

other_branch : (ls : List Leaf) (p : List ℕ) (c : ℕ) → 2 ≤ length (branches ls p) → IsOther ls p c
other_branch ls p c two =
    let a = get_or (branches ls p) 0 [] in
    let b = get_or (branches ls p) 1 [] in
    let reach : (j : ℕ) → j < 2 → is_reached ls (p ++ last_letter (get_or (branches ls p) j []) ∷ []) ≡ true =
    λ j jl. ap (is_reached ls) (sym (branches_form ls p j [] (omega (arith, jl, two)))) ∙ branches_reached ls p j [] (omega (arith, jl, two)) in
    elim (cases_eq (last_letter a) c) [
      | inl same ↦ record { letter = last_letter b; apart = λ e. branches_differ ls p 0 1 (omega arith) (omega (arith, two)) (same ∙ sym e); reached = reach 1 (omega arith) }
      | inr apart ↦ record { letter = last_letter a; apart = apart; reached = reach 0 (omega arith) }
    ]

last_same : (p : List ℕ) (c d : ℕ) → is_prefix (p ++ d ∷ []) (p ++ c ∷ []) ≡ true → d ≡ c
last_same [] c d e = eqb-true d c (and_parts (d == c) true e).0
last_same (a ∷ p) c d e = last_same p c d (and_parts (a == a) (is_prefix (p ++ d ∷ []) (p ++ c ∷ [])) e).1

extends_before : (p x : List ℕ) (d : ℕ) → is_prefix (p ++ d ∷ []) x ≡ true → extends p x ≡ true
extends_before [] [] d e = absurd (false≢true e)
extends_before [] (b ∷ x) d e = refl
extends_before (a ∷ p) [] d e = absurd (false≢true e)
extends_before (a ∷ p) (b ∷ x) d e = let parts = and_parts (a == b) (is_prefix (p ++ d ∷ []) x) e in and_from (a == b) (extends p x) parts.0 (extends_before p x d parts.1)

-- stubs of two leaves differ
stubs_apart : (ls : List Leaf) → HasTrie ls → (i k : ℕ) → i < length ls → k < length ls → (i ≡ k → ⊥) → bytes_eq (get_or ls k any_leaf).stub (get_or ls i any_leaf).stub ≡ false
stubs_apart ls t i k il kl apart =
    let x = (get_or ls i any_leaf).stub in
    let y = (get_or ls k any_leaf).stub in
    false_from_ne_true (bytes_eq y x) (λ e. elim (cases_order i k) [
      | inl same ↦ apart same
      | inr sides ↦ elim sides [
        | inl before ↦ different x y ((in_order ls t).pairs i k any_leaf before kl).before (sym (same-true y x e))
        | inr behind ↦ different y x ((in_order ls t).pairs k i any_leaf behind il).before (same-true y x e)
      ]
    ])

another_stub : (ls : List Leaf) (i : ℕ) → HasTrie ls → i < length ls → 2 ≤ length (branches ls (parent (get_or ls i any_leaf))) → IsCrowded ls (get_or ls i any_leaf)
unfolding path
another_stub ls i t il two =
    let l = get_or ls i any_leaf in
    let p = parent l in
    let c = cut ls i t il in
    let b = other_branch ls p c.letter two in
    let found = reached_by ls any_leaf (p ++ b.letter ∷ []) b.reached in
    let k = found.0 in
    let o = get_or ls k any_leaf in
    let other : i ≡ k → ⊥ = λ e. b.apart (last_same p c.letter b.letter (ap (is_prefix (p ++ b.letter ∷ [])) (sym c.whole) ∙ ap (λ (j : ℕ). is_prefix (p ++ b.letter ∷ []) (path (get_or ls j any_leaf))) e ∙ found.2)) in
    let begun : is_prefix (parent l) o.stub ≡ true = stub_begins p o.stub o.ends (extends_before p (path o) b.letter found.2) in
    list_any_at (joins l) ls k any_leaf found.1
    (and_from (is_prefix (parent l) o.stub) (not (bytes_eq o.stub l.stub)) begun (not_from_false (bytes_eq o.stub l.stub) (stubs_apart ls t i k il found.1 other)))

pub company_is_a_branch : CompanyIsABranch
company_is_a_branch ls t i d il =
    let P : Leaf → Type 0 = λ l. (IsCrowded ls l → 2 ≤ length (branches ls (parent l))) × (2 ≤ length (branches ls (parent l)) → IsCrowded ls l) in
    subst P (get_or_default ls i any_leaf d il) (second_branch ls i t il, another_stub ls i t il)
