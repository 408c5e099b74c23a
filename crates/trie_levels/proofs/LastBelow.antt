-- The nodes and branches of a level in their order, by the last leaf below each.
use Rattle.std.proofs.Common.{◌≡◌, ◌<◌, ◌≤◌, ℕ, zero, suc, ◌&&◌, nat_le, nat_lt, List, [], ◌∷◌, Bool, true, false, length, take, map, refl, sym, ap, ◌∙◌, arith, inl, inr}
use Rattle.std.proofs.lemmas.Bool.{cases_lt, and_from, cond-true, cond-false, false≢true, le-leb, lt-leb, lt-ltb, le-ltb}
use Rattle.filter_model.specs.Leaves.{Leaf}
use Rattle.filter_model.specs.Trie.{level, path}
use Rattle.trie_levels.specs.Neighbours.{level_branches}
use Rattle.trie_levels.specs.Spans.{BranchesAreLastBelow, NodesAreLastBelow, closes, last_below}
use Rattle.trie_levels.proofs.Closing.{level_steps, level-zero}
use Rattle.trie_levels.proofs.Growth.{AreInOrder, in_order-tail, leaves_rest, shared_first}
use Rattle.trie_levels.proofs.LevelSets.{level_branches-none, level-none}
use Rattle.trie_levels.proofs.Totals.{in_order}

both_no : (a b : Bool) → a ≡ false → (a && b) ≡ false
both_no true b e = absurd (false≢true (sym e))
both_no false b e = refl

second_no : (a b : Bool) → b ≡ false → (a && b) ≡ false
second_no true b e = e
second_no false b e = refl

pub last_yes : (n k : ℕ) (l : Leaf) (ls : List Leaf) → closes l ls ≤ n → k < length (path l) → last_below n k (l ∷ ls) ≡ l ∷ last_below n k ls
last_yes n k l ls a b =
    cond-true (nat_le (closes l ls) n && nat_lt k (length (path l))) (l ∷ last_below n k ls) (last_below n k ls) (and_from (nat_le (closes l ls) n) (nat_lt k (length (path l))) (le-leb (closes l ls) n a) (lt-ltb k (length (path l)) b))

pub last_open : (n k : ℕ) (l : Leaf) (ls : List Leaf) → n < closes l ls → last_below n k (l ∷ ls) ≡ last_below n k ls
last_open n k l ls a =
    cond-false (nat_le (closes l ls) n && nat_lt k (length (path l))) (l ∷ last_below n k ls) (last_below n k ls) (both_no (nat_le (closes l ls) n) (nat_lt k (length (path l))) (lt-leb (closes l ls) n a))

pub last_short : (n k : ℕ) (l : Leaf) (ls : List Leaf) → length (path l) ≤ k → last_below n k (l ∷ ls) ≡ last_below n k ls
last_short n k l ls b =
    cond-false (nat_le (closes l ls) n && nat_lt k (length (path l))) (l ∷ last_below n k ls) (last_below n k ls) (second_no (nat_le (closes l ls) n) (nat_lt k (length (path l))) (le-ltb k (length (path l)) b))

none : {X : Type 0} (xs : List X) → length xs ≡ 0 → xs ≡ []
none [] e = refl
none (x ∷ xs) e = absurd (omega arith)

pub no_level : (n : ℕ) → level [] (suc n) ≡ []
no_level n = none (level [] (suc n)) (level-none n)

pub no_branch : (n : ℕ) → level_branches [] n ≡ []
no_branch n = none (level_branches [] n) (level_branches-none n)

-- the nodes below the root
below_root : (ls : List Leaf) (n : ℕ) → AreInOrder ls → level ls (suc n) ≡ map (λ l. take (suc n) (path l)) (last_below (suc n) (suc n) ls)
below_root [] n h = no_level n
below_root (l ∷ ls) n h =
    let rest = below_root ls n (in_order-tail l ls h) in
    let step = (level_steps l ls (suc n) h).0 in
    elim (cases_lt (suc n) (length (path l))) [
      | inr past ↦ step.past past ∙ rest ∙ ap (map (λ l. take (suc n) (path l))) (sym (last_short (suc n) (suc n) l ls past))
      | inl within ↦ elim (cases_lt (shared_first l ls) (suc n)) [
        | inl new ↦
            step.new new within ∙ ap (λ (qs : List (List ℕ)). take (suc n) (path l) ∷ qs) rest
            ∙ ap (map (λ l. take (suc n) (path l))) (sym (last_yes (suc n) (suc n) l ls (closed l ls n new) within))
        | inr most ↦ step.shared most ∙ rest ∙ ap (map (λ l. take (suc n) (path l))) (sym (last_open (suc n) (suc n) l ls (open_still l ls n most)))
      ]
    ]
  where
    closed : (l : Leaf) (ls : List Leaf) (n : ℕ) → shared_first l ls < suc n → closes l ls ≤ suc n
    closed l [] n h = omega arith
    closed l (m ∷ ls) n h = omega (arith, h)

    open_still : (l : Leaf) (ls : List Leaf) (n : ℕ) → suc n ≤ shared_first l ls → suc n < closes l ls
    open_still l [] n h = absurd (omega (arith, h))
    open_still l (m ∷ ls) n h = omega (arith, h)

root_last : (l : Leaf) (ls : List Leaf) → AreInOrder (l ∷ ls) → [] ∷ [] ≡ map (λ l. take 0 (path l)) (last_below 0 0 (l ∷ ls))
root_last l [] h = ap (map (λ l. take 0 (path l))) (sym (last_yes 0 0 l [] (omega arith) (omega (arith, (leaves_rest l [] h).inside))))
root_last l (m ∷ ls) h =
    root_last m ls (in_order-tail l (m ∷ ls) h) ∙ ap (map (λ l. take 0 (path l))) (sym (last_open 0 0 l (m ∷ ls) (omega arith)))

pub nodes_are_last : NodesAreLastBelow
nodes_are_last [] n h = absurd (omega (arith, h.some))
nodes_are_last (l ∷ ls) zero h = level-zero (l ∷ ls) ∙ root_last l ls (in_order (l ∷ ls) h)
nodes_are_last (l ∷ ls) (suc n) h = below_root (l ∷ ls) n (in_order (l ∷ ls) h)

branches_last : (ls : List Leaf) (n : ℕ) → AreInOrder ls → level_branches ls n ≡ map (λ l. take (suc n) (path l)) (last_below (suc n) n ls)
branches_last [] n h = no_branch n
branches_last (l ∷ ls) n h =
    let rest = branches_last ls n (in_order-tail l ls h) in
    let step = (level_steps l ls n h).1 in
    elim (cases_lt n (length (path l))) [
      | inr past ↦ step.past past ∙ rest ∙ ap (map (λ l. take (suc n) (path l))) (sym (last_short (suc n) n l ls past))
      | inl within ↦ elim (cases_lt n (shared_first l ls)) [
        | inl less ↦ step.shared less ∙ rest ∙ ap (map (λ l. take (suc n) (path l))) (sym (last_open (suc n) n l ls (open_still l ls n less)))
        | inr from ↦
            step.new from within ∙ ap (λ (qs : List (List ℕ)). take (suc n) (path l) ∷ qs) rest
            ∙ ap (map (λ l. take (suc n) (path l))) (sym (last_yes (suc n) n l ls (closed l ls n from) within))
      ]
    ]
  where
    closed : (l : Leaf) (ls : List Leaf) (n : ℕ) → shared_first l ls ≤ n → closes l ls ≤ suc n
    closed l [] n h = omega arith
    closed l (m ∷ ls) n h = omega (arith, h)

    open_still : (l : Leaf) (ls : List Leaf) (n : ℕ) → n < shared_first l ls → suc n < closes l ls
    open_still l [] n h = absurd (omega (arith, h))
    open_still l (m ∷ ls) n h = omega (arith, h)

pub branches_are_last : BranchesAreLastBelow
branches_are_last ls n h = branches_last ls n (in_order ls h)
