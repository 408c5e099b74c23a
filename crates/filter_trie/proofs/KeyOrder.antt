-- The leaves behind a node's branches, in key order.
use Rattle.std.proofs.Common.{◌≡◌, ℕ, zero, suc, ◌+◌, ◌-◌, ◌<◌, ◌≤◌, ◌⊎◌, Bool, true, false, cond, List, [], ◌∷◌, ◌++◌, length, get_or, map, refl, ap, sym, ◌∙◌, arith, inl, inr, eqb, nat_lt, le-ltb, lt-ltb}
use Rattle.std.specs.List.{AllByRecursion}
use Rattle.std.proofs.lemmas.Bool.{cases_lt, cases_order, eqb-true, eq-eqb, false≢true, ne_eqb, or_cases, true≢false}
use Rattle.std.proofs.lemmas.List.{get_or-map, length-map}
use Rattle.filter_image_model.proofs.GroupWords.{Group, Rising, Sorted, among, goes_on, heads, is_cons}
use Rattle.filter_image_model.proofs.Link.{branches-rests, node-rests, reached-rests, rests-push}
use Rattle.filter_image_model.proofs.Paths.{IsFine, fine_paths, own_group}
use Rattle.filter_image_model.proofs.Sizes.{some_height}
use Rattle.filter_image_model.proofs.Sorted.{HeadsIn, sorted_tails}
use Rattle.filter_model.specs.Leaves.{Leaf}
use Rattle.filter_model.specs.Nodes.{first_place, trie_of}
use Rattle.filter_model.specs.Trie.{branches, height, nodes, path, places, slots}
use Rattle.filter_model.specs.Valid.{IsLeafList}
use Rattle.filter_trie.proofs.Down.{node_passes}
use Rattle.filter_trie.proofs.Least.{first_branch}
use Rattle.filter_trie.proofs.Reached.{slot_is}
use Rattle.filter_trie.proofs.Starts.{first_letter, own_number, rests_fine, start-push}
use Rattle.filter_trie.specs.Laws.{CountsAt, IsOneLeaf, LeavesAreCounted, SlotsAreLeaves}
use Rattle.trie_laws.proofs.Places.{first-suc, place_at}
use Rattle.trie_levels.proofs.Totals.{valid_lists_have_tries}
use Rattle.trie_levels.specs.Tries.{HasTrie}
use Rattle.trie_model.specs.Letters.{order_of}
use Rattle.trie_model.specs.Rests.{ahead, first_leaf, leaves_below, rests, tails}

-- ---- letters that rise

all_at : (P : ℕ → Type 0) (cs : List ℕ) (j : ℕ) → AllByRecursion P cs → j < length cs → P (get_or cs j 0)
all_at P [] j w l = absurd (omega (arith, l))
all_at P (c ∷ cs) zero w l = w.0
all_at P (c ∷ cs) (suc j) w l = all_at P cs j w.1 (omega (arith, l))

rising_at : (cs : List ℕ) (i j : ℕ) → Rising cs → i < j → j < length cs → order_of (get_or cs i 0) < order_of (get_or cs j 0)
rising_at [] i j r up l = absurd (omega (arith, l))
rising_at (c ∷ cs) i zero r up l = absurd (omega (arith, up))
rising_at (c ∷ cs) zero (suc j) r up l = all_at (λ d. order_of c < order_of d) cs j r.0 (omega (arith, l))
rising_at (c ∷ cs) (suc i) (suc j) r up l = rising_at cs i j r.1 (omega (arith, up)) (omega (arith, l))

among_at : (a : ℕ) (cs : List ℕ) → among a cs ≡ true → (i : ℕ) × (i < length cs) × (get_or cs i 0 ≡ a)
among_at a [] e = absurd (false≢true e)
among_at a (c ∷ cs) e = elim (or_cases (eqb c a) (among a cs) e) [
  | inl same ↦ (0, omega arith, eqb-true c a same)
  | inr later ↦ let r = among_at a cs later in (suc r.0, omega (arith, r.1), r.2)
]

-- ---- how many strings begin before a letter

-- of each letter: it comes before c, it is c, or it comes at d or later
abbrev pub Splits : ℕ → ℕ → List ℕ → Type 0
Splits c m cs = (a : ℕ) → among a cs ≡ true → (order_of a < order_of c) ⊎ ((a ≡ c) ⊎ (m ≤ order_of a))

counted : (c m : ℕ) (cs : List ℕ) (r : Group) (f : Group → ℕ) → f [] ≡ 0 → ((a : ℕ) (x : List ℕ) (g : Group) → among a cs ≡ true → f ((a ∷ x) ∷ g) ≡ cond (nat_lt (order_of a) m) 1 0 + f g) → order_of c < m → Splits c m cs → HeadsIn cs r
    → f r ≡ ahead c r + length (tails c r)
counted c m cs [] f z s l w h = z
counted c m cs ([] ∷ r) f z s l w h = absurd h
counted c m cs ((a ∷ x) ∷ r) f z s l w h =
    let ih = counted c m cs r f z s l w h.1 in
    elim (w a h.0) [
      | inl less ↦
          let other : eqb a c ≡ false = ne_eqb a c (λ e. omega (arith, less, ap order_of e)) in
          step (f ((a ∷ x) ∷ r)) 1 (f r) 1 (ahead c r) (length (tails c r)) 0 (length (cond (eqb a c) (x ∷ tails c r) (tails c r)))
          (s a x r h.0 ∙ ap (λ (t : Bool). cond {A = ℕ} t 1 0 + f r) (lt-ltb (order_of a) m (omega (arith, less, l)))) ih
          (ap (λ (t : Bool). cond {A = ℕ} t 1 0) (lt-ltb (order_of a) (order_of c) less)) (omega (arith, ap (λ (t : Bool). length (cond t (x ∷ tails c r) (tails c r))) other)) refl
      | inr more ↦ elim more [
        | inl same ↦
            step (f ((a ∷ x) ∷ r)) 1 (f r) 0 (ahead c r) (length (tails c r)) 1 (length (cond (eqb a c) (x ∷ tails c r) (tails c r)))
            (s a x r h.0 ∙ ap (λ (t : Bool). cond {A = ℕ} t 1 0 + f r) (lt-ltb (order_of a) m (omega (arith, ap order_of same, l)))) ih
            (ap (λ (t : Bool). cond {A = ℕ} t 1 0) (le-ltb (order_of a) (order_of c) (omega (arith, ap order_of same)))) (omega (arith, ap (λ (t : Bool). length (cond t (x ∷ tails c r) (tails c r))) (eq-eqb a c same))) refl
        | inr high ↦
            let other : eqb a c ≡ false = ne_eqb a c (λ e. omega (arith, high, l, ap order_of e)) in
            step (f ((a ∷ x) ∷ r)) 0 (f r) 0 (ahead c r) (length (tails c r)) 0 (length (cond (eqb a c) (x ∷ tails c r) (tails c r)))
            (s a x r h.0 ∙ ap (λ (t : Bool). cond {A = ℕ} t 1 0 + f r) (le-ltb (order_of a) m high)) ih
            (ap (λ (t : Bool). cond {A = ℕ} t 1 0) (le-ltb (order_of a) (order_of c) (omega (arith, high, l)))) (omega (arith, ap (λ (t : Bool). length (cond t (x ∷ tails c r) (tails c r))) other)) refl
      ]
    ]
  where
    step : (whole i rest k a t j long : ℕ) → whole ≡ i + rest → rest ≡ a + t → {head : ℕ} → head ≡ k → long ≡ j + t → i ≡ k + j → whole ≡ (head + a) + long
    step whole i rest k a t j long e ih {head} f g h = omega (arith, e, ih, f, g, h)

ahead_next : (c d : ℕ) (cs : List ℕ) (r : Group) → order_of c < order_of d → Splits c (order_of d) cs → HeadsIn cs r → ahead d r ≡ ahead c r + length (tails c r)
ahead_next c d cs r l w h = counted c (order_of d) cs r (ahead d) refl (λ a x g e. refl) l w h

all_of_them : (c : ℕ) (cs : List ℕ) (r : Group) → ((a : ℕ) → among a cs ≡ true → (order_of a < order_of c) ⊎ (a ≡ c)) → HeadsIn cs r → length r ≡ ahead c r + length (tails c r)
all_of_them c cs r w h =
    counted c (suc (order_of c)) cs r (λ (g : Group). length g) refl
    (λ a x g e. one (length g) (nat_lt (order_of a) (suc (order_of c))) (lt-ltb (order_of a) (suc (order_of c)) (below a (w a e)))) (omega arith)
    (λ a e. elim (w a e) [
      | inl less ↦ inl less
      | inr same ↦ inr (inl same)
    ]) h
  where
    one : (k : ℕ) (t : Bool) → t ≡ true → suc k ≡ cond t 1 0 + k
    one k true e = omega arith
    one k false e = absurd (false≢true e)

    below : (a : ℕ) → (order_of a < order_of c) ⊎ (a ≡ c) → order_of a < suc (order_of c)
    below a (inl less) = omega (arith, less)
    below a (inr same) = omega (arith, ap order_of same)

-- ---- one after the other

module _ (cs : List ℕ) (rise : Rising cs) (r : Group) (within : HeadsIn cs r) where
  pub next_ahead : (j : ℕ) → j + 1 < length cs → ahead (get_or cs (j + 1) 0) r ≡ ahead (get_or cs j 0) r + length (tails (get_or cs j 0) r)
  next_ahead j l =
      ahead_next (get_or cs j 0) (get_or cs (j + 1) 0) cs r (rising_at cs j (j + 1) rise (omega arith) l)
      (λ a e. let at = among_at a cs e in elim (cases_order at.0 j) [
        | inl same ↦ inr (inl (sym at.2 ∙ ap (λ (k : ℕ). get_or cs k 0) same))
        | inr apart ↦ elim apart [
          | inl before ↦ inl (omega (arith, ap order_of at.2, rising_at cs at.0 j rise before (omega (arith, l))))
          | inr behind ↦ inr (inr (up a at.0 at.2 at.1 behind))
        ]
      ]) within
    where
      up : (a i : ℕ) → get_or cs i 0 ≡ a → i < length cs → j < i → order_of (get_or cs (j + 1) 0) ≤ order_of a
      up a i e m b = elim (cases_lt (j + 1) i) [
        | inl further ↦ omega (arith, ap order_of e, rising_at cs (j + 1) i rise further m)
        | inr here ↦ let is : j + 1 ≡ i = omega (arith, b, here) in omega (arith, ap order_of e, ap (λ (k : ℕ). order_of (get_or cs k 0)) is)
      ]

  pub last_ahead : (j : ℕ) → j + 1 ≡ length cs → length r ≡ ahead (get_or cs j 0) r + length (tails (get_or cs j 0) r)
  last_ahead j l =
      all_of_them (get_or cs j 0) cs r
      (λ a e. let at = among_at a cs e in elim (cases_lt at.0 j) [
        | inl before ↦ inl (omega (arith, ap order_of at.2, rising_at cs at.0 j rise before (omega (arith, l))))
        | inr same ↦ let is : at.0 ≡ j = omega (arith, at.1, same, l) in inr (sym at.2 ∙ ap (λ (k : ℕ). get_or cs k 0) is)
      ]) within

plain_group : (g : Group) → Sorted g → is_cons g ≡ true → goes_on g ≡ false → g ≡ [] ∷ []
plain_group [] s i e = absurd (false≢true i)
plain_group ([] ∷ []) s i e = refl
plain_group ([] ∷ y ∷ g) s i e = absurd (false≢true s.0.0)
plain_group ((a ∷ x) ∷ g) s i e = absurd (true≢false e)

sorted_rests : (p : List ℕ) (g : Group) → Sorted g → Sorted (rests p g)
sorted_rests [] g s = s
sorted_rests (c ∷ p) g s = sorted_rests p (tails c g) (sorted_tails c g s)

-- ---- in the trie

module _ (hash_bits real_bits : ℕ) (ls : List Leaf) (valid : IsLeafList hash_bits real_bits ls) where
  has : HasTrie ls
  has = valid_lists_have_tries hash_bits real_bits ls valid

  high : 0 < height ls
  high = some_height hash_bits real_bits ls valid

  fine : IsFine (height ls) (map path ls)
  fine = fine_paths hash_bits real_bits ls valid (height ls) (omega arith)

  pub one_leaf : (s : ℕ) → s < length (slots ls) → IsOneLeaf ls (get_or (slots ls) s [])
  one_leaf s l =
      let q = get_or (slots ls) s [] in
      let is = slot_is ls has s l in
      let some = sym (reached-rests ls q) ∙ is.0 in
      let off = sym (node-rests ls q) ∙ is.1 in
      record {
        count = ap (λ (g : Group). length g) (plain_group (rests q (map path ls)) (sorted_rests q (map path ls) fine.sorted) some off);
        path_is = own_number q (map path ls) fine.sorted some off;
      }

  module _ (v : ℕ) (l : v < length (nodes ls)) where
    abbrev p : List ℕ
    p = get_or (nodes ls) v []

    abbrev group : Group
    group = rests p (map path ls)

    node_fine : IsFine (height ls) group
    node_fine = rests_fine p (height ls) (map path ls) fine (sym (node-rests ls p) ∙ node_passes ls high v l)

    same_branches : branches ls p ≡ map (λ (c : ℕ). p ++ c ∷ []) (heads group)
    same_branches = branches-rests ls p

    count : first_place (trie_of ls) (v + 1) ≡ first_place (trie_of ls) v + length (heads group)
    count = first-suc ls v l ∙ ap (λ (qs : List (List ℕ)). first_place (trie_of ls) v + length qs) same_branches ∙ ap (λ (k : ℕ). first_place (trie_of ls) v + k) (length-map (heads group) (λ (c : ℕ). p ++ c ∷ []))

    at_head : (j : ℕ) → j < length (heads group) → get_or (places ls) (first_place (trie_of ls) v + j) [] ≡ p ++ get_or (heads group) j 0 ∷ []
    at_head j m =
        place_at ls v j l (omega (arith, m, count, first-suc ls v l))
        ∙ ap (λ (qs : List (List ℕ)). get_or qs j []) same_branches
        ∙ get_or-map (λ (c : ℕ). p ++ c ∷ []) (heads group) j 0 [] m

    starts : (j n : ℕ) → first_place (trie_of ls) v + j ≡ n → j < length (heads group) → first_leaf ls (get_or (places ls) n []) ≡ first_leaf ls p + ahead (get_or (heads group) j 0) group
    starts j n e m = ap (λ (k : ℕ). first_leaf ls (get_or (places ls) k [])) (sym e) ∙ ap (first_leaf ls) (at_head j m) ∙ start-push p (get_or (heads group) j 0) (map path ls)

    below : (j n : ℕ) → first_place (trie_of ls) v + j ≡ n → j < length (heads group) → leaves_below ls (get_or (places ls) n []) ≡ length (tails (get_or (heads group) j 0) group)
    below j n e m =
        ap (λ (k : ℕ). leaves_below ls (get_or (places ls) k [])) (sym e) ∙ ap (leaves_below ls) (at_head j m) ∙ ap (λ (g : Group). length g) (rests-push p (get_or (heads group) j 0) (map path ls))

    pub counts : CountsAt ls v
    counts =
        let o = own_group (height ls) group node_fine in
        record {
          first = (first_branch ls has high fine v l).1;
          next = λ n from to.
              let j = n - first_place (trie_of ls) v in
              let e : first_place (trie_of ls) v + j ≡ n = omega (arith, from) in
              let m : j + 1 < length (heads group) = omega (arith, e, to, count) in
              omega (arith, starts (j + 1) (n + 1) (omega (arith, e)) m, starts j n e (omega (arith, m)), below j n e (omega (arith, m)), next_ahead (heads group) o.rising group o.within j m);
          last = λ n is.
              let j = n - first_place (trie_of ls) v in
              let some : 0 < length (heads group) = (first_letter (height ls) group node_fine).0 in
              let e : first_place (trie_of ls) v + j ≡ n = omega (arith, is, count, some) in
              let m : j + 1 ≡ length (heads group) = omega (arith, e, is, count) in
              omega (arith, starts j n e (omega (arith, m)), below j n e (omega (arith, m)), last_ahead (heads group) o.rising group o.within j m);
        }

pub leaves_are_counted : LeavesAreCounted
leaves_are_counted hash_bits real_bits ls v valid l = counts hash_bits real_bits ls valid v l

pub slots_are_leaves : SlotsAreLeaves
slots_are_leaves hash_bits real_bits ls s valid l = one_leaf hash_bits real_bits ls valid s l
