-- The levels of one leaf more.
use Rattle.std.proofs.Common.{◌≡◌, ◌<◌, ◌≤◌, ◌⊎◌, ℕ, zero, suc, List, [], ◌∷◌, Bool, true, false, ◌==◌, length, take, refl, sym, ap, subst, ◌∙◌, arith, inl, inr}
use Rattle.std.specs.List.{All, AllPairs, Contains, list_any}
use Rattle.std.proofs.lemmas.Bool.{cases_lt, and_from, eq-eqb, or_cases, or_left, false≢true, false_from_ne_true}
use Rattle.std.proofs.lemmas.List.{length-append, length-take}
use Rattle.std.proofs.lemmas.List.Elements.{All-head, All-tail}
use Rattle.byte_fields.specs.Spelling.{IsBytes}
use Rattle.filter_model.specs.Laws.{AreByteStubs}
use Rattle.filter_model.specs.Leaves.{Leaf}
use Rattle.filter_model.specs.Strings.{extends, is_prefix, shared}
use Rattle.filter_model.specs.Trie.{height, is_node, is_reached, level, path}
use Rattle.filter_model.proofs.Counts.{AllPairs-head, AllPairs-tail}
use Rattle.filter_model.proofs.Levels.{node_is_reached}
use Rattle.filter_model.proofs.Order.{Lt}
use Rattle.filter_model.proofs.Pairs.{Contains-cases, Contains-first}
use Rattle.filter_model.proofs.Shared.{extends-prefix, extends_longer, is_prefix-take, shared_outer, shared_sym}
use Rattle.filter_model.proofs.Stubs.{Contains-more}
use Rattle.trie_levels.specs.Neighbours.{level_branches}
use Rattle.trie_levels.proofs.Distinct.{Lists, Widens, grows, stays}
use Rattle.trie_levels.proofs.LevelSets.{branches_listed, no_branches, no_nodes, nodes_listed}
use Rattle.trie_levels.proofs.Parting.{PartAt, extends_of_shared, paths_part, prefix_is_take, prefix_of_shared, shared_of_prefix, tail}

-- a stands before b, and ends where b goes on from it
pub record Stands (a b : Leaf) : Type 0 where
  pub before : Lt a.stub b.stub
  pub ends : extends a.stub b.stub ≡ true → a.ends ≡ true

-- leaves as a trie needs them, without mention of the whole list
pub record AreInOrder (ls : List Leaf) : Type 0 where
  pub bytes : AreByteStubs ls
  pub filled : All (λ l. 0 < length l.stub) ls
  pub pairs : AllPairs Stands ls

pub in_order-tail : (l : Leaf) (ls : List Leaf) → AreInOrder (l ∷ ls) → AreInOrder ls
in_order-tail l ls h = record {
  bytes = All-tail (λ l. IsBytes l.stub) l ls h.bytes;
  filled = All-tail (λ l. 0 < length l.stub) l ls h.filled;
  pairs = AllPairs-tail Stands l ls h.pairs;
}

-- p is no shorter than s letters and one; its first s letters begin a path of the list, and no more of them do
pub record Leaves (ls : List Leaf) (p : List ℕ) (s : ℕ) : Type 0 where
  pub inside : s < length p
  pub reached : (m : ℕ) → 0 < m → m ≤ s → is_reached ls (take m p) ≡ true
  pub goes_on : (m : ℕ) → 0 < m → m ≤ s → is_node ls (take m p) ≡ true
  pub apart : (m : ℕ) → s < m → m ≤ length p → is_reached ls (take m p) ≡ false

-- some path of the list begins with q
record Reaches (ls : List Leaf) (q : List ℕ) : Type 0 where
  leaf : Leaf
  held : Contains ls leaf
  begins : is_prefix q (path leaf) ≡ true

reaching : (ls : List Leaf) (q : List ℕ) → is_reached ls q ≡ true → Reaches ls q
unfolding is_reached
reaching [] q e = absurd (false≢true e)
reaching (l ∷ ls) q e = elim (or_cases (is_prefix q (path l)) (list_any (λ l. is_prefix q (path l)) ls) e) [
  | inl here ↦ record { leaf = l; held = Contains-first l ls; begins = here }
  | inr there ↦ let r = reaching ls q there in record { leaf = r.leaf; held = Contains-more l ls r.leaf r.held; begins = r.begins }
]

reached_first : (l : Leaf) (ls : List Leaf) (q : List ℕ) → is_prefix q (path l) ≡ true → is_reached (l ∷ ls) q ≡ true
unfolding is_reached
reached_first l ls q e = or_left (is_prefix q (path l)) (list_any (λ l. is_prefix q (path l)) ls) e

node_first : (l : Leaf) (ls : List Leaf) (q : List ℕ) → extends q (path l) ≡ true → is_node (l ∷ ls) q ≡ true
unfolding is_node
node_first l ls q e = or_left (extends q (path l)) (list_any (λ l. extends q (path l)) ls) e

pub leaves_part : (a b : Leaf) → IsBytes b.stub → Stands a b → PartAt (path a) (path b) (shared a.stub b.stub)
unfolding path
leaves_part a b bytes h = paths_part a.stub b.stub a.ends b.ends h.before bytes h.ends

-- the first leaf shares nothing
pub leaves_none : (p : List ℕ) → 0 < length p → Leaves [] p 0
unfolding is_reached
leaves_none p h = record {
  inside = h;
  reached = λ m pos none. absurd (omega arith);
  goes_on = λ m pos none. absurd (omega arith);
  apart = λ m more long. refl;
}

-- a leaf shares most with the next one
pub leaves_next : (l m : Leaf) (ls : List Leaf) → AreInOrder (l ∷ m ∷ ls) → Leaves (m ∷ ls) (path l) (shared l.stub m.stub)
leaves_next l m ls h = record {
  inside = near.first;
  reached = λ k pos most. reached_first m ls (take k (path l)) (prefix_of_shared k (path l) (path m) (turned k most));
  goes_on = λ k pos most. node_first m ls (take k (path l)) (extends_of_shared k (path l) (path m) (turned k most) (omega (arith, near.second)));
  apart = λ k more long. false_from_ne_true (is_reached (m ∷ ls) (take k (path l))) (λ e. too_far k more long (reaching (m ∷ ls) (take k (path l)) e));
}
  where
    bytes : AreByteStubs (m ∷ ls)
    bytes = All-tail (λ l. IsBytes l.stub) l (m ∷ ls) h.bytes

    near : PartAt (path l) (path m) (shared l.stub m.stub)
    near = leaves_part l m (All-head (λ l. IsBytes l.stub) m ls bytes) (AllPairs-head Stands l (m ∷ ls) h.pairs m (Contains-first m ls))

    turned : (k : ℕ) → k ≤ shared l.stub m.stub → k ≤ shared (path m) (path l)
    turned k most = omega (arith, shared_sym (path m) (path l), near.at)

    later_bytes : (o : Leaf) → Contains (m ∷ ls) o → IsBytes o.stub
    later_bytes o c = subst (λ (x : Leaf). IsBytes x.stub) c.2 (bytes c.0 o c.1)

    -- what a later leaf shares with l
    shares : (o : Leaf) → Contains (m ∷ ls) o → shared (path o) (path l) ≤ shared l.stub m.stub
    shares o c =
        let stands = AllPairs-head Stands l (m ∷ ls) h.pairs o c in
        let part = leaves_part l o (later_bytes o c) stands in
        elim (Contains-cases m ls o c) [
          | inl here ↦ omega (arith, shared_sym (path o) (path l), part.at, ap (λ (x : Leaf). shared l.stub x.stub) here)
          | inr there ↦
              let outer = shared_outer l.stub m.stub o.stub
              (AllPairs-head Stands l (m ∷ ls) h.pairs m (Contains-first m ls)).before
              (AllPairs-head Stands m ls (AllPairs-tail Stands l (m ∷ ls) h.pairs) o there).before in
              omega (arith, shared_sym (path o) (path l), part.at, outer.0)
        ]

    too_far : (k : ℕ) → shared l.stub m.stub < k → k ≤ length (path l) → Reaches (m ∷ ls) (take k (path l)) → ⊥
    too_far k more long r =
        omega (arith, shares r.leaf r.held, shared_of_prefix k (path l) (path r.leaf) long r.begins)

-- a count at n grows by one exactly from from to to
abbrev pub Step : ℕ → ℕ → ℕ → ℕ → ℕ → Type 0
Step from to n old new = (((n < from) ⊎ (to ≤ n)) × (new ≡ old)) ⊎ ((from ≤ n) × (n < to) × (new ≡ suc old))

-- a string that begins p
begins_is : (n : ℕ) (p q : List ℕ) → length q ≡ n → is_prefix q p ≡ true → (n ≤ length p) × (take n p ≡ q)
begins_is n p q long e =
    let r = prefix_is_take q p e in (omega (arith, r.0), ap (λ (k : ℕ). take k p) (sym long) ∙ r.1)

take_long : (n : ℕ) (p : List ℕ) → n ≤ length p → length (take n p) ≡ n
take_long n p h = omega (arith, length-take n p)

pub take_extends : (n : ℕ) (p : List ℕ) → n < length p → extends (take n p) p ≡ true
take_extends n [] h = absurd (omega arith)
take_extends zero (a ∷ p) h = refl
take_extends (suc n) (a ∷ p) h = and_from (a == a) (extends (take n p) p) (eq-eqb a a refl) (take_extends n p (omega arith))

reached_more : (l : Leaf) (ls : List Leaf) → Widens (is_reached ls) (λ q. is_prefix q (path l)) (is_reached (l ∷ ls))
unfolding is_reached
reached_more l ls q = refl

node_more : (l : Leaf) (ls : List Leaf) → Widens (is_node ls) (λ q. extends q (path l)) (is_node (l ∷ ls))
unfolding is_node
node_more l ls q = refl

-- the branches of level n, with a leaf that shares s letters more
branches_step : (l : Leaf) (ls : List Leaf) (s n : ℕ) → Leaves ls (path l) s → Lists (suc n) (is_reached ls) (level_branches ls n) → Lists (suc n) (is_reached (l ∷ ls)) (level_branches (l ∷ ls) n)
    → Step s (length (path l)) n (length (level_branches ls n)) (length (level_branches (l ∷ ls) n))
branches_step l ls s n h old new = elim (cases_lt n s) [
  | inl shares ↦ inl (
    inl shares,
    stays more (level_branches ls n) (level_branches (l ∷ ls) n) old new wider (λ q long e.
        let is = begins_is (suc n) (path l) q long e in
        subst (λ (p : List ℕ). is_reached ls p ≡ true) is.1 (h.reached (suc n) (omega arith) (omega arith))),
  )
  | inr apart ↦ elim (cases_lt n (length (path l))) [
    | inl within ↦ inr (
      apart,
      within,
      grows more (level_branches ls n) (level_branches (l ∷ ls) n) (take (suc n) (path l)) old new wider
          (take_long (suc n) (path l) (omega arith)) (is_prefix-take (suc n) (path l)) (h.apart (suc n) (omega arith) (omega arith)) (λ q long e. (begins_is (suc n) (path l) q long e).1),
    )
    | inr past ↦ inl (
      inr past,
      stays more (level_branches ls n) (level_branches (l ∷ ls) n) old new wider (λ q long e.
          absurd (omega (arith, (begins_is (suc n) (path l) q long e).0))),
    )
  ]
]
  where
    more : List ℕ → Bool
    more q = is_prefix q (path l)

    wider : Widens (is_reached ls) more (is_reached (l ∷ ls))
    wider = reached_more l ls

-- and the nodes of level n, the root apart
nodes_step : (l : Leaf) (ls : List Leaf) (s n : ℕ) → Leaves ls (path l) s → Lists (suc n) (is_node ls) (level ls (suc n)) → Lists (suc n) (is_node (l ∷ ls)) (level (l ∷ ls) (suc n))
    → Step (suc s) (length (path l)) (suc n) (length (level ls (suc n))) (length (level (l ∷ ls) (suc n)))
nodes_step l ls s n h old new = elim (cases_lt n s) [
  | inl shares ↦ inl (
    inl (omega arith),
    stays more (level ls (suc n)) (level (l ∷ ls) (suc n)) old new wider (λ q long e.
        let is = begins_is (suc n) (path l) q long (extends-prefix q (path l) e) in
        subst (λ (p : List ℕ). is_node ls p ≡ true) is.1 (h.goes_on (suc n) (omega arith) (omega arith))),
  )
  | inr apart ↦ elim (cases_lt (suc n) (length (path l))) [
    | inl within ↦ inr (
      omega arith,
      within,
      grows more (level ls (suc n)) (level (l ∷ ls) (suc n)) (take (suc n) (path l)) old new wider
          (take_long (suc n) (path l) (omega arith)) (take_extends (suc n) (path l) within)
          (false_from_ne_true (is_node ls (take (suc n) (path l))) (λ e.
          false≢true (sym (h.apart (suc n) (omega arith) (omega arith)) ∙ node_is_reached ls (take (suc n) (path l)) e)))
          (λ q long e. (begins_is (suc n) (path l) q long (extends-prefix q (path l) e)).1),
    )
    | inr past ↦ inl (
      inr past,
      stays more (level ls (suc n)) (level (l ∷ ls) (suc n)) old new wider (λ q long e.
          absurd (omega (arith, extends_longer q (path l) e))),
    )
  ]
]
  where
    more : List ℕ → Bool
    more q = extends q (path l)

    wider : Widens (is_node ls) more (is_node (l ∷ ls))
    wider = node_more l ls

-- the path of a leaf with bytes has letters, and so the trie has levels
pub path_filled : (l : Leaf) → 0 < length l.stub → 0 < length (path l)
unfolding path
path_filled l h = omega (arith, length-append l.stub (tail l.ends))

high : (l : Leaf) (ls : List Leaf) → AreInOrder (l ∷ ls) → 0 < height (l ∷ ls)
unfolding height
high l ls h = let here = path_filled l (All-head (λ l. 0 < length l.stub) l ls h.filled) in omega arith

-- each node and each branch of leaves in order
pub branches_once : (ls : List Leaf) (n : ℕ) → AreInOrder ls → Lists (suc n) (is_reached ls) (level_branches ls n)
branches_once [] n h = no_branches n
branches_once (l ∷ ls) n h = branches_listed (l ∷ ls) n h.bytes (high l ls h)

pub nodes_once : (ls : List Leaf) (n : ℕ) → AreInOrder ls → Lists (suc n) (is_node ls) (level ls (suc n))
nodes_once [] n h = no_nodes n
nodes_once (l ∷ ls) n h = nodes_listed (l ∷ ls) (suc n) h.bytes (high l ls h)

-- how many letters the first leaf shares with the next one
abbrev pub shared_first : Leaf → List Leaf → ℕ
shared_first l [] = 0
shared_first l (m ∷ ls) = shared l.stub m.stub

pub leaves_rest : (l : Leaf) (ls : List Leaf) → AreInOrder (l ∷ ls) → Leaves ls (path l) (shared_first l ls)
leaves_rest l [] h = leaves_none (path l) (path_filled l (All-head (λ l. 0 < length l.stub) l [] h.filled))
leaves_rest l (m ∷ ls) h = leaves_next l m ls h

pub branches_more : (l : Leaf) (ls : List Leaf) (n : ℕ) → AreInOrder (l ∷ ls) → Step (shared_first l ls) (length (path l)) n (length (level_branches ls n)) (length (level_branches (l ∷ ls) n))
branches_more l ls n h =
    branches_step l ls (shared_first l ls) n (leaves_rest l ls h) (branches_once ls n (in_order-tail l ls h)) (branches_once (l ∷ ls) n h)

pub nodes_more : (l : Leaf) (ls : List Leaf) (n : ℕ) → AreInOrder (l ∷ ls) → Step (suc (shared_first l ls)) (length (path l)) (suc n) (length (level ls (suc n))) (length (level (l ∷ ls) (suc n)))
nodes_more l ls n h =
    nodes_step l ls (shared_first l ls) n (leaves_rest l ls h) (nodes_once ls n (in_order-tail l ls h)) (nodes_once (l ∷ ls) n h)
