-- What a level counts, by neighbours.
use Rattle.std.proofs.Common.{◌≡◌, ◌<◌, ◌≤◌, ◌+◌, ◌==◌, ◌⊎◌, ℕ, zero, suc, List, [], ◌∷◌, true, cond, length, get_or, refl, ap, ◌∙◌, arith, inl, inr}
use Rattle.std.specs.List.{Contains, list_any}
use Rattle.std.proofs.lemmas.Bool.{cases_eq, eq-eqb, ne_eqb, cond-true, cond-false, or_left, or_right}
use Rattle.std.proofs.lemmas.List.Elements.{All-head, All-weaker, Contains-get_or}
use Rattle.byte_fields.specs.Spelling.{IsBytes}
use Rattle.filter_model.specs.Leaves.{Leaf}
use Rattle.filter_model.specs.Strings.{extends, shared}
use Rattle.filter_model.specs.Trie.{branches, height, level, level_labels, level_nodes, path}
use Rattle.std.specs.Prelude.{flat_map}
use Rattle.std.proofs.lemmas.List.FromFn.{length-map-range_with_len}
use Rattle.filter_model.proofs.Counts.{count_by-cons}
use Rattle.filter_model.proofs.Order.{Lt-from}
use Rattle.filter_model.proofs.Pairs.{Contains-cases, Contains-nil}
use Rattle.trie_levels.specs.Neighbours.{BranchesAreNodesAndEndings, BranchesAreNodesAndPartings, endings, level_branches, partings}
use Rattle.trie_levels.specs.Tries.{HasTrie, ValidListsHaveTries}
use Rattle.filter_model.specs.Valid.{IsLeaf, IsStub}
use Rattle.trie_levels.proofs.Growth.{AreInOrder, branches_more, in_order-tail, leaves_rest, nodes_more, path_filled}
use Rattle.trie_levels.proofs.LevelSets.{level_branches-none, level-none}

-- one where two numbers are the same
pub one_if_same : (a b : ℕ) → ((a ≡ b) × (cond {A = ℕ} (a == b) 1 0 ≡ 1)) ⊎ ((a ≡ b → ⊥) × (cond {A = ℕ} (a == b) 1 0 ≡ 0))
one_if_same a b = elim (cases_eq a b) [
  | inl same ↦ inl (same, cond-true (a == b) 1 0 (eq-eqb a b same))
  | inr other ↦ inr (other, cond-false (a == b) 1 0 (ne_eqb a b other))
]

root_alone : (ls : List Leaf) → length (level ls 0) ≡ 1
unfolding level
root_alone ls = refl

-- a leaf alone
one_leaf : (l : Leaf) (n : ℕ) → AreInOrder (l ∷ []) → length (level_branches (l ∷ []) n) ≡ length (level (l ∷ []) n)
one_leaf l zero h =
    let long = path_filled l (All-head (λ l. 0 < length l.stub) l [] h.filled) in
    elim (branches_more l [] 0 h) [
      | inl (inl below, same) ↦ absurd (omega arith)
      | inl (inr past, same) ↦ absurd (omega (arith, long))
      | inr (from, within, more) ↦ omega (arith, more, level_branches-none 0, root_alone (l ∷ []))
    ]
one_leaf l (suc n) h =
    let no_branch = level_branches-none (suc n) in
    let no_node = level-none n in
    elim (branches_more l [] (suc n) h) [
      | inl (inl below, same) ↦ absurd (omega arith)
      | inl (inr past, same) ↦ elim (nodes_more l [] n h) [
        | inl (outside, kept) ↦ omega (arith, same, kept, no_branch, no_node)
        | inr (from, within, more) ↦ absurd (omega arith)
      ]
      | inr (from, within, more) ↦ elim (nodes_more l [] n h) [
        | inl (inl below, kept) ↦ absurd (omega arith)
        | inl (inr past, kept) ↦ absurd (omega arith)
        | inr (over, inside, grown) ↦ omega (arith, more, grown, no_branch, no_node)
      ]
    ]

-- a branch more for each two neighbours that part
pub branches_by_partings : (ls : List Leaf) (n : ℕ) → AreInOrder ls → 0 < length ls → length (level_branches ls n) ≡ length (level ls n) + partings ls n
branches_by_partings [] n h some = absurd (omega arith)
branches_by_partings (l ∷ []) n h some = omega (arith, one_leaf l n h)
branches_by_partings (l ∷ m ∷ ls) zero h some =
    let rest = branches_by_partings (m ∷ ls) 0 (in_order-tail l (m ∷ ls) h) (omega arith) in
    let long = path_filled l (All-head (λ l. 0 < length l.stub) l (m ∷ ls) h.filled) in
    let roots = root_alone (l ∷ m ∷ ls) in
    let root = root_alone (m ∷ ls) in
    elim (one_if_same (shared l.stub m.stub) 0) [
      | inl (here, one) ↦ elim (branches_more l (m ∷ ls) 0 h) [
        | inl (inl below, same) ↦ absurd (omega arith)
        | inl (inr past, same) ↦ absurd (omega arith)
        | inr (from, within, more) ↦ omega arith
      ]
      | inr (other, none) ↦ elim (branches_more l (m ∷ ls) 0 h) [
        | inl (outside, same) ↦ omega arith
        | inr (from, within, more) ↦ absurd (other (omega arith))
      ]
    ]
branches_by_partings (l ∷ m ∷ ls) (suc n) h some =
    let rest = branches_by_partings (m ∷ ls) (suc n) (in_order-tail l (m ∷ ls) h) (omega arith) in
    let within = (leaves_rest l (m ∷ ls) h).inside in
    elim (one_if_same (shared l.stub m.stub) (suc n)) [
      | inl (here, one) ↦ elim (branches_more l (m ∷ ls) (suc n) h) [
        | inl (inl below, same) ↦ absurd (omega arith)
        | inl (inr past, same) ↦ absurd (omega arith)
        | inr (from, inside, more) ↦ elim (nodes_more l (m ∷ ls) n h) [
          | inl (outside, kept) ↦ omega arith
          | inr (over, short, grown) ↦ absurd (omega arith)
        ]
      ]
      | inr (other, none) ↦ elim (branches_more l (m ∷ ls) (suc n) h) [
        | inl (outside, same) ↦ elim (nodes_more l (m ∷ ls) n h) [
          | inl (out, kept) ↦ omega arith
          | inr (over, short, grown) ↦ absurd (elim outside [ inl below ↦ omega arith | inr past ↦ omega arith ])
        ]
        | inr (from, inside, more) ↦ elim (nodes_more l (m ∷ ls) n h) [
          | inl (inl under, kept) ↦ absurd (other (omega arith))
          | inl (inr past, kept) ↦ absurd (omega arith)
          | inr (over, short, grown) ↦ omega arith
        ]
      ]
    ]

-- each branch leads to a node or is a leaf
pub branches_by_endings : (ls : List Leaf) (n : ℕ) → AreInOrder ls → length (level_branches ls n) ≡ length (level ls (suc n)) + endings ls n
branches_by_endings [] n h = omega (arith, level_branches-none n, level-none n)
branches_by_endings (l ∷ ls) n h =
    let rest = branches_by_endings ls n (in_order-tail l ls h) in
    let within = (leaves_rest l ls h).inside in
    let ends = count_by-cons (λ l. length (path l) == n + 1) l ls in
    elim (one_if_same (length (path l)) (n + 1)) [
      | inl (here, one) ↦ elim (branches_more l ls n h) [
        | inl (inl below, same) ↦ absurd (omega arith)
        | inl (inr past, same) ↦ absurd (omega arith)
        | inr (from, inside, more) ↦ elim (nodes_more l ls n h) [
          | inl (outside, kept) ↦ omega arith
          | inr (over, short, grown) ↦ absurd (omega arith)
        ]
      ]
      | inr (other, none) ↦ elim (branches_more l ls n h) [
        | inl (outside, same) ↦ elim (nodes_more l ls n h) [
          | inl (out, kept) ↦ omega arith
          | inr (over, short, grown) ↦ absurd (elim outside [ inl below ↦ omega arith | inr past ↦ omega arith ])
        ]
        | inr (from, inside, more) ↦ elim (nodes_more l ls n h) [
          | inl (inl under, kept) ↦ absurd (omega arith)
          | inl (inr past, kept) ↦ absurd (other (omega arith))
          | inr (over, short, grown) ↦ omega arith
        ]
      ]
    ]

-- a level has no more branches than there are leaves
pub branches-le : (ls : List Leaf) (n : ℕ) → AreInOrder ls → length (level_branches ls n) ≤ length ls
branches-le [] n h = omega (arith, level_branches-none n)
branches-le (l ∷ ls) n h =
    let rest = branches-le ls n (in_order-tail l ls h) in
    elim (branches_more l ls n h) [
      | inl (outside, same) ↦ omega arith
      | inr (from, inside, more) ↦ omega arith
    ]

any_extends : (p : List ℕ) (ls : List Leaf) (o : Leaf) → Contains ls o → extends p o.stub ≡ true → list_any (λ o. extends p o.stub) ls ≡ true
any_extends p [] o c e = absurd (Contains-nil o c)
any_extends p (l ∷ ls) o c e = elim (Contains-cases l ls o c) [
  | inl here ↦ or_left (extends p l.stub) (list_any (λ o. extends p o.stub) ls) (ap (λ (x : Leaf). extends p x.stub) here ∙ e)
  | inr there ↦ or_right (extends p l.stub) (list_any (λ o. extends p o.stub) ls) (any_extends p ls o there e)
]

-- the leaves of a trie are in order
pub in_order : (ls : List Leaf) → HasTrie ls → AreInOrder ls
in_order ls h = record {
  bytes = All-weaker IsStub (λ l. IsBytes l.stub) (λ l s. s.bytes) ls h.stubs;
  filled = All-weaker IsStub (λ l. 0 < length l.stub) (λ l s. s.filled) ls h.stubs;
  pairs = λ i j d before within.
      let b = get_or ls j d in
      record {
        before = Lt-from (get_or ls i d).stub b.stub (h.rising i j d before within);
        ends = λ e. h.ends i d (omega arith) ∙ any_extends (get_or ls i d).stub ls b (Contains-get_or ls j d within) e;
      };
}

pub partings_law : BranchesAreNodesAndPartings
partings_law ls n h = branches_by_partings ls n (in_order ls h) h.some

pub endings_law : BranchesAreNodesAndEndings
endings_law ls n h = branches_by_endings ls n (in_order ls h)

pub valid_lists_have_tries : ValidListsHaveTries
valid_lists_have_tries hash_bits real_bits ls h = record {
  some = h.some;
  few = h.few;
  stubs = All-weaker (IsLeaf hash_bits real_bits) IsStub (λ l leaf. leaf.stub) ls h.leaves;
  rising = h.rising;
  ends = h.ends;
}

-- there are as many counts as levels
pub level_nodes-long : (ls : List Leaf) → length (level_nodes ls) ≡ height ls
unfolding level_nodes
level_nodes-long ls = length-map-range_with_len (λ n. length (level ls n)) 0 (height ls)

pub level_labels-long : (ls : List Leaf) → length (level_labels ls) ≡ height ls
unfolding level_labels
level_labels-long ls = length-map-range_with_len (λ n. length (flat_map (branches ls) (level ls n))) 0 (height ls)
