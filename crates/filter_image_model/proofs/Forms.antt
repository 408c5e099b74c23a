-- The nodes of a leaf list's trie have the form of nodes that are read.
use Rattle.std.proofs.Common.{◌≡◌, ℕ, suc, ◌-◌, ◌<◌, ◌≤◌, Bool, true, false, List, [], ◌∷◌, ◌++◌, length, get_or, take, map, refl, sym, ap, ◌∙◌, arith, subst, inl, inr}
use Rattle.std.specs.Prelude.{not}
use Rattle.std.specs.List.{All, AllByRecursion, AllPairs}
use Rattle.std.proofs.lemmas.Bool.{cases_Bool, cases_eq, false≢true}
use Rattle.std.proofs.lemmas.List.Elements.{All-cons, All-map, All-tail}
use Rattle.filter_model.proofs.Counts.{AllPairs-tail}
use Rattle.filter_model.proofs.Crowds.{parent-path}
use Rattle.filter_model.specs.Leaves.{Leaf}
use Rattle.filter_model.specs.Nodes.{Branch, Node, last_letter, node_of, trie_of}
use Rattle.filter_model.specs.Trie.{END, branches, is_node, is_reached, nodes, parent, path}
use Rattle.filter_model.specs.Valid.{IsCrowded, IsLeafList, IsValid}
use Rattle.trie_levels.specs.Tries.{HasTrie}
use Rattle.trie_levels.proofs.Totals.{valid_lists_have_tries}
use Rattle.trie_model.specs.Letters.{order_of}
use Rattle.trie_laws.specs.Louds.{IsNode}
use Rattle.trie_laws.specs.Nodes.{IsTrieNode}
use Rattle.trie_laws.proofs.Company.{company_is_a_branch}
use Rattle.trie_laws.proofs.Forms.{branches_reached, forms_are_sparse, trie_nodes_have_form}
use Rattle.trie_laws.proofs.Paths.{any_leaf, path_node, reached_by}
use Rattle.trie_laws.proofs.Places.{branches_form}
use Rattle.trie_laws.proofs.Slots.{prefix_whole}
use Rattle.filter_image_model.specs.Kinds.{leaves_beside}
use Rattle.filter_image_model.specs.Nodes.{IsDense}
use Rattle.filter_image_model.specs.Reading.{is_lone_leaf}
use Rattle.filter_image_model.proofs.RisingBytes.{ComesFirst, IsByte, RisingBytes, are_bytes, byte_order}

-- dense or sparse, and of so many leaves no node is one leaf alone
pub record HasForm (leaves : ℕ) (n : Node) : Type 0 where
  pub dense : IsDense n
  pub sparse : IsNode n
  pub crowded : 1 < leaves → is_lone_leaf n ≡ false

-- ---- dense nodes

byte_after : (c : ℕ) → c ≤ 256 → 0 < order_of c → (c < 256) × (order_of c ≡ suc c)
byte_after c le pos = elim (cases_eq c 256) [
  | inl end ↦ absurd (omega (arith, pos, ap order_of end))
  | inr other ↦ let l : c < 256 = omega (arith, le, other) in (l, byte_order c l)
]

from_after : (b : Branch) (n : Node) → All (λ (x : Branch). x.0 ≤ END) n → AllPairs (λ (x y : Branch). order_of x.0 < order_of y.0) (b ∷ n) → RisingBytes (order_of b.0) n
from_after b [] l r = tt
from_after b (d ∷ n) l r =
    let up = r 0 1 b (omega arith) (omega arith) in
    let s = byte_after d.0 (l 0 d (omega arith)) (omega (arith, up)) in
    let rest = from_after d n (All-tail (λ (x : Branch). x.0 ≤ END) d n l) (AllPairs-tail (λ (x y : Branch). order_of x.0 < order_of y.0) b (d ∷ n) r) in
    (omega (arith, up, s.1), s.0, subst (λ k. RisingBytes k n) s.1 rest)

trie_is_dense : (n : Node) → IsTrieNode n → IsDense n
trie_is_dense [] t = absurd (omega (arith, t.filled))
trie_is_dense (b ∷ n) t =
    let rest = from_after b n (All-tail (λ (x : Branch). x.0 ≤ END) b n t.letters) t.rising in
    elim (cases_eq b.0 256) [
      | inl is ↦
          record { ends = true; bytes = n; letters = are_bytes (order_of b.0) n rest; rising = AllPairs-tail ComesFirst b n t.rising; is = (λ j. (is j, t.end_is_a_leaf 0 b (omega arith) is j) ∷ n) }
      | inr other ↦
          let small : b.0 < 256 = omega (arith, t.letters 0 b (omega arith), other) in
          record { ends = false; bytes = b ∷ n; letters = All-cons IsByte b n small (are_bytes (order_of b.0) n rest); rising = t.rising; is = refl }
    ]

-- ---- no leaf alone

take_pushed : (p : List ℕ) (c : ℕ) → take (length (p ++ c ∷ []) - 1) (p ++ c ∷ []) ≡ p
take_pushed [] c = refl
take_pushed (a ∷ []) c = refl
take_pushed (a ∷ b ∷ p) c = ap (λ k. take k (a ∷ b ∷ p ++ c ∷ [])) (less (length (p ++ c ∷ []))) ∙ ap (λ (x : List ℕ). a ∷ x) (take_pushed (b ∷ p) c)
  where
    less : (n : ℕ) → suc (suc n) - 1 ≡ suc (suc n - 1)
    less n = omega arith

not_alone : (ls : List Leaf) → HasTrie ls → All (IsCrowded ls) ls → (p : List ℕ) → is_lone_leaf (node_of ls p) ≡ false
unfolding node_of
not_alone ls t w p = go (branches ls p) refl
  where
    go : (bs : List (List ℕ)) → branches ls p ≡ bs → is_lone_leaf (map (λ (q : List ℕ). (last_letter q, is_node ls q)) bs) ≡ false
    go [] e = refl
    go (q ∷ r ∷ bs) e = refl
    go (q ∷ []) e = elim (cases_Bool (is_node ls q)) [
      | inl on ↦ ap not on
      | inr off ↦
          let by = reached_by ls any_leaf q (subst (All (λ x. is_reached ls x ≡ true)) e (branches_reached ls p) 0 [] (omega arith)) in
          let l = get_or ls by.0 any_leaf in
          let whole : path l ≡ p ++ last_letter q ∷ [] =
          sym (prefix_whole q (path l) by.2 (λ on. false≢true (sym off ∙ path_node ls by.0 any_leaf q by.1 on)))
          ∙ subst (All (λ x. x ≡ p ++ last_letter x ∷ [])) e (branches_form ls p) 0 [] (omega arith) in
          let from : parent l ≡ p = parent-path l ∙ (λ j. take (length (whole j) - 1) (whole j)) ∙ take_pushed p (last_letter q) in
          let two : 2 ≤ length (branches ls p) = subst (λ (x : List ℕ). 2 ≤ length (branches ls x)) from ((company_is_a_branch ls t by.0 any_leaf by.1).0 (w by.0 any_leaf by.1)) in
          absurd (omega (arith, two, ap length e))
    ]

-- ---- leaf lists

all_formed : (leaves : ℕ) (ns : List Node) → All IsTrieNode ns → (1 < leaves → All (λ n. is_lone_leaf n ≡ false) ns) → AllByRecursion (HasForm leaves) ns
all_formed leaves [] f w = tt
all_formed leaves (n ∷ ns) f w = (
  record { dense = trie_is_dense n (f 0 n (omega arith)); sparse = forms_are_sparse n (f 0 n (omega arith)); crowded = (λ m. w m 0 n (omega arith)) },
  all_formed leaves ns (All-tail IsTrieNode n ns f) (λ m. All-tail (λ k. is_lone_leaf k ≡ false) n ns (w m)),
)

-- **the nodes of a leaf list have the form of dense and of sparse nodes**
pub nodes_formed : (h r : ℕ) (ls : List Leaf) → IsLeafList h r ls → AllByRecursion (HasForm 1) (trie_of ls)
unfolding trie_of
nodes_formed h r ls v = all_formed 1 (trie_of ls) (trie_nodes_have_form ls (valid_lists_have_tries h r ls v)) (λ m. absurd (omega (arith, m)))

-- **and where a leaf may not be alone, and there are two, none is one leaf alone**
pub nodes_formed_by : (alone : Bool) (h r : ℕ) (ls : List Leaf) → IsLeafList h r ls → (alone ≡ false → IsValid h r ls) → AllByRecursion (HasForm (leaves_beside alone (length ls))) (trie_of ls)
unfolding trie_of
nodes_formed_by true h r ls v w = nodes_formed h r ls v
nodes_formed_by false h r ls v w =
    let t = valid_lists_have_tries h r ls v in
    all_formed (length ls) (trie_of ls) (trie_nodes_have_form ls t)
    (λ m. All-map (λ n. is_lone_leaf n ≡ false) (node_of ls) (nodes ls) (λ i d l. not_alone ls t ((w refl).crowded m) (get_or (nodes ls) i d)))
