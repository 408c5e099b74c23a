-- One pass over the longer paths gathers the nodes of a level.
use Rattle.std.proofs.Common.{◌≡◌, ◌<◌, ◌≤◌, ◌+◌, ℕ, zero, suc, nat_le, nat_lt, List, [], ◌∷◌, ◌++◌, Bool, true, false, cond, length, take, drop, get_or, map, refl, sym, ap, subst, ◌∙◌, arith, inl, inr}
use Rattle.std.specs.List.{Contains}
use Rattle.std.proofs.lemmas.Bool.{cases_lt, cond-true, cond-false, false≢true, le-leb, lt-leb, lt-ltb, le-ltb}
use Rattle.std.proofs.lemmas.List.{get_or-map, get_or-take, length-take-le, take_all}
use Rattle.filter_model.specs.Leaves.{Leaf}
use Rattle.filter_model.specs.Nodes.{Branch, Node, last_letter, node_of}
use Rattle.filter_model.specs.Strings.{extends, shared}
use Rattle.filter_model.specs.Trie.{branches, is_node, is_reached, level, path}
use Rattle.filter_model.proofs.Pairs.{Contains-first}
use Rattle.filter_model.proofs.Stubs.{Contains-more}
use Rattle.trie_levels.specs.declared.spans.Span.{Span}
use Rattle.trie_levels.specs.Gathering.{GatheredAreNodes, branch_by, gathered, longer, with_span}
use Rattle.trie_levels.specs.Spans.{closes, spans_from}
use Rattle.trie_levels.proofs.Closing.{begins_shared, branches_kept, branches_new, branches_shared, filter_no, filter_yes, flag_kept, goes_on_further, level_steps, level-zero, no_branches_there, node_elsewhere, none_by_height, none_held, path_is_no_node, rest_kept}
use Rattle.trie_levels.proofs.Growth.{AreInOrder, Leaves, in_order-tail, leaves_rest, shared_first}
use Rattle.trie_levels.proofs.LastBelow.{no_level}
use Rattle.trie_levels.proofs.LevelSets.{branch_is}
use Rattle.trie_levels.proofs.Totals.{in_order}

pub map_same : {X Y : Type 0} (f g : X → Y) (xs : List X) → ((x : X) → Contains xs x → f x ≡ g x) → map f xs ≡ map g xs
map_same f g [] h = refl
map_same f g (x ∷ xs) h = λ i. h x (Contains-first x xs) i ∷ map_same f g xs (λ y c. h y (Contains-more x xs y c)) i

append_none : (xs : Node) → xs ++ [] ≡ xs
append_none [] = refl
append_none (x ∷ xs) = λ i. x ∷ append_none xs i

append_twice : (xs ys zs : Node) → xs ++ (ys ++ zs) ≡ (xs ++ ys) ++ zs
append_twice [] ys zs = refl
append_twice (x ∷ xs) ys zs = λ i. x ∷ append_twice xs ys zs i

-- ---- what was begun before stands in the first node

pub with_more : (paths : List (List ℕ)) (n : ℕ) (a b : Node) (s : Span) → with_span paths n (a ++ b) s ≡ a ++ with_span paths n b s
with_more paths n a b s = go (nat_le s.closes (suc n))
  where
    go : (t : Bool) → cond t ((a ++ b) ++ branch_by paths n s ∷ []) (a ++ b) ≡ a ++ cond t (b ++ branch_by paths n s ∷ []) b
    go true = sym (append_twice a b (branch_by paths n s ∷ []))
    go false = refl

first_of : {X : Type 0} (a b : X) (xs ys : List X) → a ∷ xs ≡ b ∷ ys → a ≡ b
first_of {X} a b xs ys e = ap (λ (l : List X). get_or l 0 a) e

rest_of : {X : Type 0} (a b : X) (xs ys : List X) → a ∷ xs ≡ b ∷ ys → xs ≡ ys
rest_of {X} a b xs ys e = ap (drop {A = X} 1) e

pub begun_before : (paths : List (List ℕ)) (n : ℕ) (a b : Node) (ss : List Span) (g : Node) (gs : List Node) → gathered paths n b ss ≡ g ∷ gs → gathered paths n (a ++ b) ss ≡ (a ++ g) ∷ gs
begun_before paths n a b [] g gs e = absurd (omega (arith, ap (length {A = Node}) e))
begun_before paths n a b (s ∷ ss) g gs e = elim (cases_lt n s.closes) [
  | inr closed ↦
      let yes : nat_le s.closes n ≡ true = le-leb s.closes n closed in
      let now = sym (cond-true (nat_le s.closes n) (with_span paths n b s ∷ gathered paths n [] ss) (gathered paths n (with_span paths n b s) ss) yes) ∙ e in
      cond-true (nat_le s.closes n) (with_span paths n (a ++ b) s ∷ gathered paths n [] ss) (gathered paths n (with_span paths n (a ++ b) s) ss) yes
      ∙ (λ i. (with_more paths n a b s ∙ ap (λ (x : Node). a ++ x) (first_of (with_span paths n b s) g (gathered paths n [] ss) gs now)) i
      ∷ rest_of (with_span paths n b s) g (gathered paths n [] ss) gs now i)
  | inl still ↦
      let fails : nat_le s.closes n ≡ false = lt-leb s.closes n still in
      let now = sym (cond-false (nat_le s.closes n) (with_span paths n b s ∷ gathered paths n [] ss) (gathered paths n (with_span paths n b s) ss) fails) ∙ e in
      cond-false (nat_le s.closes n) (with_span paths n (a ++ b) s ∷ gathered paths n [] ss) (gathered paths n (with_span paths n (a ++ b) s) ss) fails
      ∙ ap (λ (x : Node). gathered paths n x ss) (with_more paths n a b s)
      ∙ begun_before paths n a (with_span paths n b s) ss g gs now
]

-- ---- the nodes, with a leaf more

abbrev branch_to : List Leaf → List ℕ → Branch
branch_to ls r = (last_letter r, is_node ls r)

-- the letters and children of branches that were there
flags : (l : Leaf) (ls : List Leaf) (s : ℕ) (q : List ℕ) → Leaves ls (path l) s → map (branch_to (l ∷ ls)) (branches ls q) ≡ map (branch_to ls) (branches ls q)
flags l ls s q v =
    map_same (branch_to (l ∷ ls)) (branch_to ls) (branches ls q) (λ r c.
    let b = branch_is ls q r c in
    λ i. (last_letter r, flag_kept l ls s r v (some q b.0 r b.1) b.2 i))
  where
    some : (q : List ℕ) (c : ℕ) (r : List ℕ) → q ++ c ∷ [] ≡ r → 0 < length r
    some [] c r e = subst (λ (x : List ℕ). 0 < length x) e (omega arith)
    some (a ∷ q) c r e = subst (λ (x : List ℕ). 0 < length x) e (omega arith)

-- elsewhere they stay
node_kept : (l : Leaf) (ls : List Leaf) (s : ℕ) (q : List ℕ) → Leaves ls (path l) s → extends q (path l) ≡ false → node_of (l ∷ ls) q ≡ node_of ls q
unfolding node_of
node_kept l ls s q v e =
    ap (map (branch_to (l ∷ ls))) (branches_kept l ls q e)
    ∙ flags l ls s q v

-- where its path goes on by a branch that was there, too
node_shared : (l : Leaf) (ls : List Leaf) (s n : ℕ) → Leaves ls (path l) s → n < s → node_of (l ∷ ls) (take n (path l)) ≡ node_of ls (take n (path l))
unfolding node_of
node_shared l ls s n v less =
    ap (map (branch_to (l ∷ ls))) (branches_shared l ls s n v less)
    ∙ flags l ls s (take n (path l)) v

-- else by its own, which comes first
own : Leaf → ℕ → Branch
own l n = (get_or (path l) n 0, nat_lt (suc n) (length (path l)))

own_is : (l : Leaf) (ls : List Leaf) (s n : ℕ) → AreInOrder (l ∷ ls) → Leaves ls (path l) s → n < length (path l)
    → branch_to (l ∷ ls) (take (suc n) (path l)) ≡ own l n
unfolding own
own_is l ls s n h v within = λ i. (letter i, child i)
  where
    letter : last_letter (take (suc n) (path l)) ≡ get_or (path l) n 0
    letter =
        let long = length-take-le (suc n) (path l) (omega (arith, within)) in
        ap (λ (k : ℕ). get_or (take (suc n) (path l)) k 0) (omega (arith, long)) ∙ get_or-take (suc n) (path l) n 0 (omega arith)

    child : is_node (l ∷ ls) (take (suc n) (path l)) ≡ nat_lt (suc n) (length (path l))
    child = elim (cases_lt (suc n) (length (path l))) [
      | inl on ↦ goes_on_further l ls (suc n) on ∙ sym (lt-ltb (suc n) (length (path l)) on)
      | inr last ↦
          ap (is_node (l ∷ ls)) (take_all (suc n) (path l) last) ∙ path_is_no_node l ls s h v ∙ sym (le-ltb (suc n) (length (path l)) last)
    ]

node_new : (l : Leaf) (ls : List Leaf) (s n : ℕ) → AreInOrder (l ∷ ls) → Leaves ls (path l) s → s ≤ n → n < length (path l)
    → node_of (l ∷ ls) (take n (path l)) ≡ own l n ∷ node_of ls (take n (path l))
unfolding node_of
node_new l ls s n h v from within =
    ap (map (branch_to (l ∷ ls))) (branches_new l ls s n h v from within)
    ∙ (λ i. own_is l ls s n h v within i ∷ flags l ls s (take n (path l)) v i)

node_none : (ls : List Leaf) (q : List ℕ) → branches ls q ≡ [] → node_of ls q ≡ []
unfolding node_of
node_none ls q e = ap (map (branch_to ls)) e

nodes_kept : (l : Leaf) (ls : List Leaf) (s : ℕ) (qs : List (List ℕ)) → Leaves ls (path l) s → ((q : List ℕ) → Contains qs q → extends q (path l) ≡ false) → map (node_of (l ∷ ls)) qs ≡ map (node_of ls) qs
nodes_kept l ls s qs v h = map_same (node_of (l ∷ ls)) (node_of ls) qs (λ q c. node_kept l ls s q v (h q c))

-- ---- the pass

-- a path of the list is found by the number of its leaf
abbrev pub ArePaths : List (List ℕ) → ℕ → List Leaf → Type 0
ArePaths paths k ls = (i : ℕ) (d : Leaf) → i < length ls → get_or paths (k + i) [] ≡ path (get_or ls i d)

pub paths-tail : (paths : List (List ℕ)) (k : ℕ) (l : Leaf) (ls : List Leaf) → ArePaths paths k (l ∷ ls) → ArePaths paths (suc k) ls
paths-tail paths k l ls h i d within = ap (λ (j : ℕ). get_or paths j []) (omega arith) ∙ h (suc i) d (omega arith)

pub paths-head : (paths : List (List ℕ)) (k : ℕ) (l : Leaf) (ls : List Leaf) → ArePaths paths k (l ∷ ls) → get_or paths k [] ≡ path l
paths-head paths k l ls h = ap (λ (j : ℕ). get_or paths j []) (omega arith) ∙ h 0 l (omega arith)

-- the span of the first leaf
abbrev span : ℕ → Leaf → List Leaf → Span
span k l ls = record { leaf = k; closes = closes l ls; len = length (path l) }

with_own : (paths : List (List ℕ)) (k n : ℕ) (l : Leaf) (ls : List Leaf) (b : Node) → get_or paths k [] ≡ path l → closes l ls ≤ suc n → with_span paths n b (span k l ls) ≡ b ++ own l n ∷ []
unfolding own
with_own paths k n l ls b e h =
    cond-true (nat_le (closes l ls) (suc n)) (b ++ branch_by paths n (span k l ls) ∷ []) b (le-leb (closes l ls) (suc n) h)
    ∙ ap (λ (p : List ℕ). b ++ (get_or p n 0, nat_lt (suc n) (length (path l))) ∷ []) e

with_none : (paths : List (List ℕ)) (k n : ℕ) (l : Leaf) (ls : List Leaf) (b : Node) → suc n < closes l ls → with_span paths n b (span k l ls) ≡ b
with_none paths k n l ls b h = cond-false (nat_le (closes l ls) (suc n)) (b ++ branch_by paths n (span k l ls) ∷ []) b (lt-leb (closes l ls) (suc n) h)

closes_here : (paths : List (List ℕ)) (k n : ℕ) (l : Leaf) (ls : List Leaf) (b : Node) (ss : List Span) → closes l ls ≤ n
    → gathered paths n b (span k l ls ∷ ss) ≡ with_span paths n b (span k l ls) ∷ gathered paths n [] ss
closes_here paths k n l ls b ss h =
    cond-true (nat_le (closes l ls) n) (with_span paths n b (span k l ls) ∷ gathered paths n [] ss) (gathered paths n (with_span paths n b (span k l ls)) ss) (le-leb (closes l ls) n h)

stays_open : (paths : List (List ℕ)) (k n : ℕ) (l : Leaf) (ls : List Leaf) (b : Node) (ss : List Span) → n < closes l ls
    → gathered paths n b (span k l ls ∷ ss) ≡ gathered paths n (with_span paths n b (span k l ls)) ss
stays_open paths k n l ls b ss h =
    cond-false (nat_le (closes l ls) n) (with_span paths n b (span k l ls) ∷ gathered paths n [] ss) (gathered paths n (with_span paths n b (span k l ls)) ss) (lt-leb (closes l ls) n h)

-- without leaves there is no branch
no_branches_at : (q : List ℕ) → branches [] q ≡ []
unfolding is_reached
no_branches_at q = none_held (branches [] q) (λ r c. false≢true (branch_is [] q r c).2)

-- a leaf that is the last of its node
closing : (paths : List (List ℕ)) (k n : ℕ) (l : Leaf) (ls : List Leaf) → AreInOrder (l ∷ ls) → get_or paths k [] ≡ path l → n < length (path l) → closes l ls ≤ n
    → (0 < length ls + n → gathered paths n [] (longer n (spans_from (suc k) ls)) ≡ map (node_of ls) (level ls n))
    → (own l n ∷ []) ∷ gathered paths n [] (longer n (spans_from (suc k) ls)) ≡ map (node_of (l ∷ ls)) (level (l ∷ ls) n)
closing paths k zero l [] h at within closed rest =
    let v = leaves_rest l [] h in
    (λ i. sym (node_new l [] 0 0 h v (omega arith) within ∙ ap (λ (x : Node). own l 0 ∷ x) (node_none [] (take 0 (path l)) (no_branches_at (take 0 (path l))))) i ∷ []) ∙ sym (ap (map (node_of (l ∷ []))) (level-zero (l ∷ [])))
closing paths k (suc n) l [] h at within closed rest =
    let v = leaves_rest l [] h in
    let step = (level_steps l [] (suc n) h).0 in
    (λ i. sym (node_new l [] 0 (suc n) h v (omega arith) within ∙ ap (λ (x : Node). own l (suc n) ∷ x) (node_none [] (take (suc n) (path l)) (no_branches_there l [] 0 (suc n) v (omega arith) within))) i
    ∷ (rest (omega arith) ∙ sym (nodes_kept l [] 0 (level [] (suc n)) v (λ q c. node_elsewhere l [] 0 (suc n) q h v (omega arith) c))) i)
    ∙ sym (ap (map (node_of (l ∷ []))) (step.new (omega arith) within))
closing paths k n l (m ∷ ls) h at within closed rest =
    let v = leaves_rest l (m ∷ ls) h in
    let s = shared_first l (m ∷ ls) in
    let below : s < n = omega (arith, closed) in
    let step = (level_steps l (m ∷ ls) n h).0 in
    (λ i. sym (node_new l (m ∷ ls) s n h v (omega (arith, below)) within ∙ ap (λ (x : Node). own l n ∷ x) (node_none (m ∷ ls) (take n (path l)) (no_branches_there l (m ∷ ls) s n v below within))) i
    ∷ (rest (omega arith) ∙ sym (nodes_kept l (m ∷ ls) s (level (m ∷ ls) n) v (λ q c. node_elsewhere l (m ∷ ls) s n q h v below c))) i)
    ∙ sym (ap (map (node_of (l ∷ m ∷ ls))) (step.new below within))

-- one that others follow
open_still : (paths : List (List ℕ)) (k n : ℕ) (l m : Leaf) (ls : List Leaf) → AreInOrder (l ∷ m ∷ ls) → get_or paths k [] ≡ path l → n < length (path l) → n ≤ shared l.stub m.stub
    → gathered paths n [] (longer n (spans_from (suc k) (m ∷ ls))) ≡ map (node_of (m ∷ ls)) (level (m ∷ ls) n)
    → gathered paths n (with_span paths n [] (span k l (m ∷ ls))) (longer n (spans_from (suc k) (m ∷ ls))) ≡ map (node_of (l ∷ m ∷ ls)) (level (l ∷ m ∷ ls) n)
open_still paths k n l m ls h at within most rest =
    let v = leaves_rest l (m ∷ ls) h in
    let s = shared l.stub m.stub in
    let q = take n (path l) in
    let a = with_span paths n [] (span k l (m ∷ ls)) in
    let b = begins_shared l (m ∷ ls) h n most in
    let step = (level_steps l (m ∷ ls) n h).0 in
    ap (λ (x : Node). gathered paths n x (longer n (spans_from (suc k) (m ∷ ls)))) (sym (append_none a))
    ∙ begun_before paths n a [] (longer n (spans_from (suc k) (m ∷ ls))) (node_of (m ∷ ls) q) (map (node_of (m ∷ ls)) b.rest) (rest ∙ ap (map (node_of (m ∷ ls))) b.whole)
    ∙ (λ i. first n within most i ∷ sym (nodes_kept l (m ∷ ls) s b.rest v (rest_kept l (m ∷ ls) n b.rest h within b.whole)) i)
    ∙ sym (ap (map (node_of (l ∷ m ∷ ls))) (step.shared most ∙ b.whole))
  where
    first : (n : ℕ) → n < length (path l) → n ≤ shared l.stub m.stub → with_span paths n [] (span k l (m ∷ ls)) ++ node_of (m ∷ ls) (take n (path l)) ≡ node_of (l ∷ m ∷ ls) (take n (path l))
    first n within most =
        let v = leaves_rest l (m ∷ ls) h in
        let s = shared l.stub m.stub in
        let q = take n (path l) in
        elim (cases_lt n s) [
          | inl less ↦
              ap (λ (x : Node). x ++ node_of (m ∷ ls) q) (with_none paths k n l (m ∷ ls) [] (omega (arith, less))) ∙ sym (node_shared l (m ∷ ls) s n v less)
          | inr from ↦
              ap (λ (x : Node). x ++ node_of (m ∷ ls) q) (with_own paths k n l (m ∷ ls) [] at (omega (arith, most))) ∙ sym (node_new l (m ∷ ls) s n h v from within)
        ]

pub gathers : (paths : List (List ℕ)) (k n : ℕ) (ls : List Leaf) → AreInOrder ls → ArePaths paths k ls → 0 < length ls + n → gathered paths n [] (longer n (spans_from k ls)) ≡ map (node_of ls) (level ls n)
gathers paths k zero [] h at some = absurd (omega arith)
gathers paths k (suc n) [] h at some = sym (ap (map (node_of [])) (no_level n))
gathers paths k n (l ∷ ls) h at some =
    elim (cases_lt n (length (path l))) [
      | inr past ↦
          let v = leaves_rest l ls h in
          let step = (level_steps l ls n h).0 in
          ap (gathered paths n []) (filter_no (λ s. nat_lt n s.len) (span k l ls) (spans_from (suc k) ls) (le-ltb n (length (path l)) past))
          ∙ gathers paths (suc k) n ls (in_order-tail l ls h) (paths-tail paths k l ls at) (omega (arith, past, v.inside))
          ∙ sym (nodes_kept l ls (shared_first l ls) (level ls n) v (λ q c. none_by_height l ls n q h past c))
          ∙ sym (ap (map (node_of (l ∷ ls))) (step.past past))
      | inl within ↦
          ap (gathered paths n []) (filter_yes (λ s. nat_lt n s.len) (span k l ls) (spans_from (suc k) ls) (lt-ltb n (length (path l)) within))
          ∙ here ls h at within (λ more. gathers paths (suc k) n ls (in_order-tail l ls h) (paths-tail paths k l ls at) more)
    ]
  where
    here : (ls : List Leaf) → AreInOrder (l ∷ ls) → ArePaths paths k (l ∷ ls) → n < length (path l)
        → (0 < length ls + n → gathered paths n [] (longer n (spans_from (suc k) ls)) ≡ map (node_of ls) (level ls n))
        → gathered paths n [] (span k l ls ∷ longer n (spans_from (suc k) ls)) ≡ map (node_of (l ∷ ls)) (level (l ∷ ls) n)
    here [] h at within rest =
        closes_here paths k n l [] [] (longer n (spans_from (suc k) [])) (omega arith)
        ∙ ap (λ (x : Node). x ∷ gathered paths n [] (longer n (spans_from (suc k) []))) (with_own paths k n l [] [] (paths-head paths k l [] at) (omega arith))
        ∙ closing paths k n l [] h (paths-head paths k l [] at) within (omega arith) rest
    here (m ∷ ls) h at within rest = elim (cases_lt (shared l.stub m.stub) n) [
      | inl below ↦
          closes_here paths k n l (m ∷ ls) [] (longer n (spans_from (suc k) (m ∷ ls))) (omega (arith, below))
          ∙ ap (λ (x : Node). x ∷ gathered paths n [] (longer n (spans_from (suc k) (m ∷ ls)))) (with_own paths k n l (m ∷ ls) [] (paths-head paths k l (m ∷ ls) at) (omega (arith, below)))
          ∙ closing paths k n l (m ∷ ls) h (paths-head paths k l (m ∷ ls) at) within (omega (arith, below)) rest
      | inr most ↦
          stays_open paths k n l (m ∷ ls) [] (longer n (spans_from (suc k) (m ∷ ls))) (omega (arith, most))
          ∙ open_still paths k n l m ls h (paths-head paths k l (m ∷ ls) at) within most (rest (omega arith))
    ]

pub gathered_are_nodes : GatheredAreNodes
gathered_are_nodes ls n h =
    gathers (map path ls) 0 n ls (in_order ls h) (λ i d within. ap (λ (j : ℕ). get_or (map path ls) j []) (omega arith) ∙ get_or-map path ls i d [] within) (omega (arith, h.some))
