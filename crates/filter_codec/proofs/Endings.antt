-- The first leaf that ends and has real bits, among the leaves of dense nodes and then of sparse ones.
use Rattle.std.proofs.Common.{◌≡◌, ℕ, zero, suc, ◌+◌, ◌*◌, ◌-◌, ◌/◌, ◌<◌, ◌≤◌, ◌∙◌, lt-ltb, le-ltb, refl, sym, ap, subst, arith, length, length-append, get_or, take, drop, Bool, true, false, cond, List, [], ◌∷◌, ◌++◌, map, inl, inr}
use Rattle.std.specs.Prelude.{◌==◌, ◌&&◌, ◌||◌, not, nat_lt, count_by, filter, slice_index, Option, Some, None}
use Rattle.std.specs.List.{All, AllByRecursion}
use Rattle.std.specs.Option.{option_map, option_or, IfSome}
use Rattle.std.proofs.Math.Seq.{take-suc}
use Rattle.std.proofs.lemmas.Bool.{cases_Bool, cases_lt, eq-eqb, false≢true, ne_eqb}
use Rattle.std.proofs.lemmas.List.{get_or-append-add, get_or-map, get_or_append_left, length-map, length-take, map-append, take-append-drop, take-map}
use Rattle.std.proofs.lemmas.List.Elements.{All-head, All-tail, filter-append}
use Rattle.std.proofs.lemmas.List.Sums.{count_by-le-length, length-filter}
use Rattle.byte_fields.specs.Faults.{Fault, fault, refuse}
use Rattle.bit_words.specs.Counts.{rank_of}
use Rattle.filter_codec.proofs.Trees.{all_parts, before_node, total}
use Rattle.filter_codec.specs.Ends.{is_mark, leaf_letters, wrong_end}
use Rattle.filter_codec.specs.Rules.{ends_rule, real_in_slot}
use Rattle.filter_codec.specs.Tree.{AreSparse}
use Rattle.filter_image_model.specs.Levels.{children_of, leaf_count_of}
use Rattle.filter_image_model.specs.Nodes.{IsDense}
use Rattle.filter_image_model.specs.Reading.{slot_letters}
use Rattle.filter_model.specs.Image.{has_letter, label_of, opening, sparse_labels, sparse_louds}
use Rattle.filter_model.specs.Nodes.{Branch, Node, all, at, children_before, first_place}
use Rattle.filter_model.specs.Trie.{END}
use Rattle.louds_dense.proofs.Ranks.{ranks_of_node}
use Rattle.louds_dense.proofs.Spelled.{counts_add}
use Rattle.louds_dense.specs.Places.{node_at}
use Rattle.louds_dense.specs.Spelling.{IsSpelled}
use Rattle.suffix_bits.specs.Slots.{SuffixArray}
use Rattle.trie_laws.proofs.Places.{count_by-map}
use Rattle.trie_laws.specs.Louds.{IsNode}

-- ---- leaves in parts

pub letters-append : (a b : List Branch) → leaf_letters (a ++ b) ≡ leaf_letters a ++ leaf_letters b
letters-append a b =
    ap (map (λ (b : Branch). b.0)) (filter-append (λ (b : Branch). not b.1) a b)
    ∙ map-append (λ (b : Branch). b.0) (filter (λ (b : Branch). not b.1) a) (filter (λ (b : Branch). not b.1) b)

pub letters-parts : (a b : List Node) → slot_letters (a ++ b) ≡ slot_letters a ++ slot_letters b
letters-parts a b = ap leaf_letters (all_parts a b) ∙ letters-append (all a) (all b)

pub length-letters : (bs : List Branch) → length (leaf_letters bs) ≡ count_by (λ (b : Branch). not b.1) bs
length-letters bs = length-map (filter (λ (b : Branch). not b.1) bs) (λ (b : Branch). b.0) ∙ length-filter (λ (b : Branch). not b.1) bs

no_mark : (m : Node) → All (λ (b : Branch). b.0 < END) m → has_letter m END ≡ false
no_mark [] w = refl
no_mark (b ∷ m) w =
    let byte : b.0 < 256 = All-head (λ (b : Branch). b.0 < END) b m w in
    ap (λ (t : Bool). t || has_letter m END) (ne_eqb b.0 256 (λ e. omega (arith, byte, e))) ∙ no_mark m (All-tail (λ (b : Branch). b.0 < END) b m w)

at_node : (ns : List Node) (v : ℕ) → AllByRecursion IsDense ns → v < length ns → IsDense (node_at ns v)
at_node [] v w l = absurd (omega (arith, l))
at_node (n ∷ ns) zero w l = w.0
at_node (n ∷ ns) (suc v) w l = at_node ns v w.1 (omega (arith, l))

pub letters-node : (ns : List Node) (v : ℕ) → v < length ns → slot_letters (take (suc v) ns) ≡ slot_letters (take v ns) ++ leaf_letters (node_at ns v)
letters-node ns v l =
    ap slot_letters (take-suc ns v [] l)
    ∙ ap leaf_letters (all_parts (take v ns) (node_at ns v ∷ []) ∙ ap (λ (bs : List Branch). all (take v ns) ++ bs) (one_node (node_at ns v)))
    ∙ letters-append (all (take v ns)) (node_at ns v)
  where
    one_node : (n : Node) → all (n ∷ []) ≡ n
    one_node [] = refl
    one_node (b ∷ n) = ap (λ (m : Node). b ∷ m) (one_node n)

plus_one : (k : ℕ) → k + 1 ≡ suc k
plus_one k = omega arith

no_plus : (k : ℕ) → 0 + k ≡ k
no_plus k = omega arith

module _ (array : SuffixArray) where
  -- the one that is found
  abbrev found : Bool → ℕ → Option ℕ → Option ℕ
  found wrong slot later = cond wrong (Some slot) later

  abbrev has_real : ℕ → Bool
  has_real slot = not (real_in_slot array slot == 0)

  found_or : (wrong : Bool) (slot : ℕ) (a b c : Option ℕ) → a ≡ option_or b c → found wrong slot a ≡ option_or (found wrong slot b) c
  found_or true slot a b c e = refl
  found_or false slot a b c e = e

  pub wrong-append : (slot : ℕ) (xs ys : List ℕ) → wrong_end array slot (xs ++ ys) ≡ option_or (wrong_end array slot xs) (wrong_end array (slot + length xs) ys)
  wrong-append slot [] ys = ap (λ k. wrong_end array k ys) (none_more slot)
    where
      none_more : (k : ℕ) → k ≡ k + 0
      none_more k = omega arith
  wrong-append slot (x ∷ xs) ys =
      found_or ((x == END) && has_real slot) slot _ _ _ (wrong-append (suc slot) xs ys ∙ ap (λ k. option_or (wrong_end array (suc slot) xs) (wrong_end array k ys)) (one_more slot (length xs)))
    where
      one_more : (k n : ℕ) → suc k + n ≡ k + suc n
      one_more k n = omega arith

  within_one : (wrong : Bool) (slot n : ℕ) (later : Option ℕ) → IfSome later (λ s. s < suc slot + n) → IfSome (found wrong slot later) (λ s. s < slot + suc n)
  within_one true slot n later h = omega arith
  within_one false slot n None h = tt
  within_one false slot n (Some s) h = omega (arith, h)

  pub wrong-within : (slot : ℕ) (cs : List ℕ) → IfSome (wrong_end array slot cs) (λ s. s < slot + length cs)
  wrong-within slot [] = tt
  wrong-within slot (c ∷ cs) = within_one ((c == END) && has_real slot) slot (length cs) (wrong_end array (suc slot) cs) (wrong-within (suc slot) cs)

  -- ---- the rule

  module _ (place : ℕ) where
    abbrev end_fault : ℕ → Fault
    end_fault slot = fault (place + slot * (array.hash_bits + array.real_bits) / 8) 10

    choose : (wrong : Bool) (slot : ℕ) (o : Option ℕ) (later : Option Fault) → later ≡ option_map end_fault o
        → refuse wrong (place + slot * (array.hash_bits + array.real_bits) / 8) 10 later ≡ option_map end_fault (found wrong slot o)
    choose true slot o later e = refl
    choose false slot o later e = e

    pub rule_is : (slot : ℕ) (cs : List ℕ) → ends_rule place array slot cs ≡ option_map end_fault (wrong_end array slot cs)
    rule_is slot [] = refl
    rule_is slot (c ∷ cs) = choose ((c == END) && has_real slot) slot (wrong_end array (suc slot) cs) (ends_rule place array (suc slot) cs) (rule_is (suc slot) cs)

  -- ---- one branch more

  -- no end, where all letters are bytes
  pub no_end : (slot : ℕ) (bs : List Branch) → All (λ (b : Branch). b.0 < END) bs → wrong_end array slot (leaf_letters bs) ≡ None
  no_end slot [] w = refl
  no_end slot ((c, true) ∷ bs) w = no_end slot bs (All-tail (λ (b : Branch). b.0 < END) (c, true) bs w)
  no_end slot ((c, false) ∷ bs) w =
      let byte : c < 256 = All-head (λ (b : Branch). b.0 < END) (c, false) bs w in
      ap (λ (t : Bool). found (t && has_real slot) slot (wrong_end array (suc slot) (leaf_letters bs))) (ne_eqb c 256 (λ e. omega (arith, byte, e)))
      ∙ no_end (suc slot) bs (All-tail (λ (b : Branch). b.0 < END) (c, false) bs w)

  in_form : (slot : ℕ) (e : Bool) (m : Node) → All (λ (b : Branch). b.0 < END) m
      → wrong_end array slot (leaf_letters (cond e ((END, false) ∷ []) [] ++ m)) ≡ found (has_letter (cond e ((END, false) ∷ []) [] ++ m) END && has_real slot) slot None
  in_form slot true m w = ap (λ (o : Option ℕ). found (has_real slot) slot o) (no_end (suc slot) m w)
  in_form slot false m w = no_end slot m w ∙ sym (ap (λ (t : Bool). found (t && has_real slot) slot None) (no_mark m w))

  -- a dense node has its first leaf at END
  pub in_node : (slot : ℕ) (n : Node) → IsDense n → wrong_end array slot (leaf_letters n) ≡ found (has_letter n END && has_real slot) slot None
  in_node slot n d =
      subst (λ (x : Node). wrong_end array slot (leaf_letters x) ≡ found (has_letter x END && has_real slot) slot None) (sym d.is) (in_form slot d.ends d.bytes d.letters)

  -- ---- dense nodes, one after the other

  pub next_node : (ns : List Node) (v : ℕ) → AllByRecursion IsDense ns → v < length ns → wrong_end array 0 (slot_letters (take v ns)) ≡ None
      → wrong_end array 0 (slot_letters (take (suc v) ns)) ≡ found (has_letter (node_at ns v) END && has_real (leaf_count_of (take v ns))) (leaf_count_of (take v ns)) None
  next_node ns v w l none =
      ap (wrong_end array 0) (letters-node ns v l)
      ∙ wrong-append 0 (slot_letters (take v ns)) (leaf_letters (node_at ns v))
      ∙ (λ j. option_or (none j) (wrong_end array ((no_plus (length (slot_letters (take v ns))) ∙ length-letters (all (take v ns))) j) (leaf_letters (node_at ns v))))
      ∙ in_node (leaf_count_of (take v ns)) (node_at ns v) (at_node ns v w l)

  -- what is found among the first nodes is found
  pub found_in : (ns : List Node) (k slot : ℕ) → wrong_end array 0 (slot_letters (take k ns)) ≡ Some slot → wrong_end array 0 (slot_letters ns) ≡ Some slot
  found_in ns k slot e =
      ap (wrong_end array 0) (ap slot_letters (sym (take-append-drop k ns)) ∙ letters-parts (take k ns) (drop k ns))
      ∙ wrong-append 0 (slot_letters (take k ns)) (slot_letters (drop k ns))
      ∙ ap (λ (o : Option ℕ). option_or o (wrong_end array (0 + length (slot_letters (take k ns))) (slot_letters (drop k ns)))) e

  -- both halves
  pub in_both : (ds ss : List Node) → wrong_end array 0 (slot_letters (ds ++ ss)) ≡ option_or (wrong_end array 0 (slot_letters ds)) (wrong_end array (leaf_count_of ds) (slot_letters ss))
  in_both ds ss =
      ap (wrong_end array 0) (letters-parts ds ss)
      ∙ wrong-append 0 (slot_letters ds) (slot_letters ss)
      ∙ ap (λ k. option_or (wrong_end array 0 (slot_letters ds)) (wrong_end array k (slot_letters ss))) (no_plus (length (slot_letters ds)) ∙ length-letters (all ds))

  -- ---- sparse branches, one after the other

  one_child : (slot c : ℕ) (t : Bool) → t ≡ true → wrong_end array slot (leaf_letters ((c, t) ∷ [])) ≡ None
  one_child slot c true e = refl
  one_child slot c false e = absurd (false≢true e)

  one_leaf : (slot c : ℕ) (t : Bool) → t ≡ false → wrong_end array slot (leaf_letters ((c, t) ∷ [])) ≡ found ((c == END) && has_real slot) slot None
  one_leaf slot c true e = absurd (false≢true (sym e))
  one_leaf slot c false e = refl

  module _ (base p : ℕ) (bs : List Branch) (l : p < length bs) (none : wrong_end array base (leaf_letters (take p bs)) ≡ None) where
    abbrev branch : Branch
    branch = get_or bs p (0, false)

    abbrev slot_here : ℕ
    slot_here = base + length (leaf_letters (take p bs))

    further : wrong_end array base (leaf_letters (take (suc p) bs)) ≡ wrong_end array slot_here (leaf_letters (branch ∷ []))
    further =
        ap (λ (xs : List Branch). wrong_end array base (leaf_letters xs)) (take-suc bs p (0, false) l)
        ∙ ap (wrong_end array base) (letters-append (take p bs) (branch ∷ []))
        ∙ wrong-append base (leaf_letters (take p bs)) (leaf_letters (branch ∷ []))
        ∙ ap (λ (o : Option ℕ). option_or o (wrong_end array slot_here (leaf_letters (branch ∷ [])))) none

    pub next_child : branch.1 ≡ true → wrong_end array base (leaf_letters (take (suc p) bs)) ≡ None
    next_child e = further ∙ one_child slot_here branch.0 branch.1 e

    pub next_leaf : branch.1 ≡ false → wrong_end array base (leaf_letters (take (suc p) bs)) ≡ found ((branch.0 == END) && has_real slot_here) slot_here None
    next_leaf e = further ∙ one_leaf slot_here branch.0 branch.1 e

  pub found_at : (base k slot : ℕ) (bs : List Branch) → wrong_end array base (leaf_letters (take k bs)) ≡ Some slot → wrong_end array base (leaf_letters bs) ≡ Some slot
  found_at base k slot bs e =
      ap (λ (xs : List Branch). wrong_end array base (leaf_letters xs)) (sym (take-append-drop k bs))
      ∙ ap (wrong_end array base) (letters-append (take k bs) (drop k bs))
      ∙ wrong-append base (leaf_letters (take k bs)) (leaf_letters (drop k bs))
      ∙ ap (λ (o : Option ℕ). option_or o (wrong_end array (base + length (leaf_letters (take k bs))) (leaf_letters (drop k bs)))) e

-- how many leaves there are with one branch more
one_letter : (c : ℕ) (t : Bool) → length (leaf_letters ((c, t) ∷ [])) ≡ cond t 0 1
one_letter c true = refl
one_letter c false = refl

pub more_letters : (p : ℕ) (bs : List Branch) → p < length bs → length (leaf_letters (take (suc p) bs)) ≡ length (leaf_letters (take p bs)) + cond (get_or bs p (0, false)).1 0 1
more_letters p bs l =
    let b : Branch = get_or bs p (0, false) in
    ap (λ (xs : List Branch). length (leaf_letters xs)) (take-suc bs p (0, false) l)
    ∙ ap length (letters-append (take p bs) (b ∷ []))
    ∙ length-append (leaf_letters (take p bs)) (leaf_letters (b ∷ []))
    ∙ ap (λ k. length (leaf_letters (take p bs)) + k) (one_letter b.0 b.1)

pub few_letters : (p : ℕ) (bs : List Branch) → length (leaf_letters (take p bs)) ≤ p
few_letters p bs =
    omega (arith, length-letters (take p bs), count_by-le-length (λ (b : Branch). not b.1) (take p bs), length-take p bs)

-- ---- END among sparse labels

lt_behind : (k a b : ℕ) → nat_lt (k + a) (k + b) ≡ nat_lt a b
lt_behind k a b = elim (cases_lt a b) [
  | inl less ↦ lt-ltb (k + a) (k + b) (omega (arith, less)) ∙ sym (lt-ltb a b less)
  | inr most ↦ le-ltb (k + a) (k + b) (omega (arith, most)) ∙ sym (le-ltb a b most)
]

next_behind : (k q : ℕ) → k + q + 1 ≡ k + (q + 1)
next_behind k q = omega arith

-- labels and opening bits behind as many others
mark_behind : (a b : List ℕ) (l m : List Bool) (q : ℕ) → length l ≡ length a → is_mark (a ++ b) (l ++ m) (length a + q) ≡ is_mark b m q
mark_behind a b l m q e =
    let k = length a in
    let here : get_or (l ++ m) (k + q) false ≡ get_or m q false = ap (λ (i : ℕ). get_or (l ++ m) (i + q) false) (sym e) ∙ get_or-append-add l m q false in
    let next : get_or (l ++ m) (k + q + 1) false ≡ get_or m (q + 1) false =
    ap (λ (i : ℕ). get_or (l ++ m) i false) (next_behind k q) ∙ ap (λ (i : ℕ). get_or (l ++ m) (i + (q + 1)) false) (sym e) ∙ get_or-append-add l m (q + 1) false in
    let more : nat_lt (k + q + 1) (length (l ++ m)) ≡ nat_lt (q + 1) (length m) =
    (λ j. nat_lt (next_behind k q j) ((length-append l m ∙ ap (λ i. i + length m) e) j)) ∙ lt_behind k (q + 1) (length m) in
    λ j. (get_or-append-add a b q 0 j == 255) && here j && more j && not (next j)

no_opening : (x a b : Bool) → x && false && a && b ≡ false
no_opening true a b = refl
no_opening false a b = refl

no_next : (x a : Bool) → x && true && false && a ≡ false
no_next true a = refl
no_next false a = refl

next_opens : (x a : Bool) → x && true && a && false ≡ false
next_opens true true = refl
next_opens true false = refl
next_opens false a = refl

next_shuts : (x : Bool) → x && true && true && true ≡ x
next_shuts true = refl
next_shuts false = refl

-- a label that opens no node
no_mark_at : (labels : List ℕ) (louds : List Bool) (p : ℕ) → get_or louds p false ≡ false → is_mark labels louds p ≡ false
no_mark_at labels louds p e =
    ap (λ (t : Bool). (slice_index labels p == 255) && t && nat_lt (p + 1) (length louds) && not (get_or louds (p + 1) false)) e
    ∙ no_opening (slice_index labels p == 255) (nat_lt (p + 1) (length louds)) (not (get_or louds (p + 1) false))

label_is : (c : ℕ) → (c ≡ 255 → ⊥) → (t : Bool) → (cond t 255 c == 255) ≡ t
label_is c other true = refl
label_is c other false = ne_eqb c 255 other

is_byte : (c : ℕ) → c < 256 → (c == END) ≡ false
is_byte c l = ne_eqb c 256 (λ e. omega (arith, l, e))

mark_first : (a : Branch) (m : Node) (ns : List Node) → All IsNode ((a ∷ m) ∷ ns) → is_mark (sparse_labels ((a ∷ m) ∷ ns)) (sparse_louds ((a ∷ m) ∷ ns)) 0 ≡ (a.0 == END)
mark_first a [] [] w = no_next (label_of a.0 == 255) true ∙ sym (is_byte a.0 (All-head IsNode (a ∷ []) [] w))
mark_first a [] ([] ∷ ns) w = absurd (All-head IsNode [] ns (All-tail IsNode (a ∷ []) ([] ∷ ns) w))
mark_first a [] ((x ∷ m) ∷ ns) w = next_opens (label_of a.0 == 255) (nat_lt 1 (length (sparse_louds ((a ∷ []) ∷ (x ∷ m) ∷ ns)))) ∙ sym (is_byte a.0 (All-head IsNode (a ∷ []) ((x ∷ m) ∷ ns) w))
mark_first a (x ∷ m) ns w =
    let h = All-head IsNode (a ∷ x ∷ m) ns w in
    ap (λ (t : Bool). (label_of a.0 == 255) && true && t && true) (lt-ltb 1 (length (sparse_louds ((a ∷ x ∷ m) ∷ ns))) (omega arith)) ∙ next_shuts (label_of a.0 == 255) ∙ label_is a.0 h.1 (a.0 == END)

clear_behind : (m : Node) (rest : List Bool) (p : ℕ) → p < length m → get_or (map (λ (x : Branch). false) m ++ rest) p false ≡ false
clear_behind [] rest p l = absurd (omega (arith, l))
clear_behind (x ∷ m) rest zero l = refl
clear_behind (x ∷ m) rest (suc p) l = clear_behind m rest p (omega (arith, l))

all_at : (m : Node) (p : ℕ) → All (λ (x : Branch). x.0 < 256) m → p < length m → (get_or m p (0, false)).0 < 256
all_at [] p w l = absurd (omega (arith, l))
all_at (x ∷ m) zero w l = All-head (λ (x : Branch). x.0 < 256) x m w
all_at (x ∷ m) (suc p) w l = all_at m p (All-tail (λ (x : Branch). x.0 < 256) x m w) (omega (arith, l))

byte_behind : (a : Branch) (m : Node) (p : ℕ) → IsNode (a ∷ m) → p < length m → (get_or m p (0, false)).0 < 256
byte_behind a [] p w l = absurd (omega (arith, l))
byte_behind a (x ∷ m) p w l = all_at (x ∷ m) p w.2 l

mark_behind_first : (a : Branch) (m : Node) (ns : List Node) (p : ℕ) → All IsNode ((a ∷ m) ∷ ns) → p < length m
    → is_mark (sparse_labels ((a ∷ m) ∷ ns)) (sparse_louds ((a ∷ m) ∷ ns)) (suc p) ≡ ((at ((a ∷ m) ∷ ns) (suc p)).0 == END)
mark_behind_first a m ns p w l =
    let byte = byte_behind a m p (All-head IsNode (a ∷ m) ns w) l in
    no_mark_at (sparse_labels ((a ∷ m) ∷ ns)) (sparse_louds ((a ∷ m) ∷ ns)) (suc p) (clear_behind m (sparse_louds ns) p l)
    ∙ sym (ap (λ (b : Branch). b.0 == END) (get_or_append_left m (all ns) (0, false) p l) ∙ is_byte (get_or m p (0, false)).0 byte)

-- END is the first of several labels of a node, and written as 255
pub mark : (ns : List Node) (p : ℕ) → All IsNode ns → p < length (all ns) → is_mark (sparse_labels ns) (sparse_louds ns) p ≡ ((at ns p).0 == END)
mark [] p w l = absurd (omega (arith, l))
mark ([] ∷ ns) p w l = absurd (All-head IsNode [] ns w)
mark ((a ∷ m) ∷ ns) zero w l = mark_first a m ns w
mark ((a ∷ m) ∷ ns) (suc p) w l = elim (cases_lt p (length m)) [
  | inl inside ↦ mark_behind_first a m ns p w inside
  | inr past ↦
      let n : Node = a ∷ m in
      let q = p - length m in
      let place : suc p ≡ length n + q = omega (arith, past) in
      let f : Branch → ℕ = λ b. label_of b.0 in
      let long : length (map f n) ≡ length n = length-map n f in
      let ih = mark ns q (All-tail IsNode n ns w) (omega (arith, l, past, length-append n (all ns))) in
      ap (is_mark (sparse_labels (n ∷ ns)) (sparse_louds (n ∷ ns))) (place ∙ ap (λ k. k + q) (sym long))
      ∙ ap (λ (labels : List ℕ). is_mark labels (sparse_louds (n ∷ ns)) (length (map f n) + q)) (map-append f n (all ns))
      ∙ mark_behind (map f n) (sparse_labels ns) (opening n) (sparse_louds ns) q (ap suc (length-map m (λ (x : Branch). false)) ∙ sym long)
      ∙ ih
      ∙ ap (λ (b : Branch). b.0 == END) (sym (get_or-append-add n (all ns) q (0, false)) ∙ ap (at (n ∷ ns)) (sym place))
]

-- ---- slots are within the leaves

ends_first : (e : Bool) (m : Node) → All (λ (b : Branch). b.0 < END) m → has_letter (cond e ((END, false) ∷ []) [] ++ m) END ≡ true → 0 < length (leaf_letters (cond e ((END, false) ∷ []) [] ++ m))
ends_first true m w here = omega arith
ends_first false m w here = absurd (false≢true (sym (no_mark m w) ∙ here))

a_leaf_ends : (n : Node) → IsDense n → has_letter n END ≡ true → 0 < length (leaf_letters n)
a_leaf_ends n d = subst (λ (x : Node). has_letter x END ≡ true → 0 < length (leaf_letters x)) (sym d.is) (ends_first d.ends d.bytes d.letters)

leaves_in_parts : (a b : List Node) → leaf_count_of (a ++ b) ≡ leaf_count_of a + leaf_count_of b
leaves_in_parts a b =
    sym (length-letters (all (a ++ b))) ∙ ap length (letters-parts a b) ∙ length-append (slot_letters a) (slot_letters b)
    ∙ (λ j. length-letters (all a) j + length-letters (all b) j)

pub dense_within : (ds ss : List Node) → leaf_count_of ds ≤ leaf_count_of (ds ++ ss)
dense_within ds ss = omega (arith, leaves_in_parts ds ss)

pub end_within : (ns : List Node) (v : ℕ) → AllByRecursion IsDense ns → v < length ns → has_letter (node_at ns v) END ≡ true → leaf_count_of (take v ns) < leaf_count_of ns
end_within ns v w l here =
    let whole = ap leaf_count_of (sym (take-append-drop (suc v) ns)) ∙ leaves_in_parts (take (suc v) ns) (drop (suc v) ns) in
    let next = sym (length-letters (all (take (suc v) ns))) ∙ ap length (letters-node ns v l) ∙ length-append (slot_letters (take v ns)) (leaf_letters (node_at ns v)) in
    omega (arith, whole, next, length-letters (all (take v ns)), a_leaf_ends (node_at ns v) (at_node ns v w l) here)

pub leaf_within : (ds ss : List Node) (p : ℕ) → p < length (all ss) → (at ss p).1 ≡ false → leaf_count_of ds + length (leaf_letters (take p (all ss))) < leaf_count_of (ds ++ ss)
leaf_within ds ss p l e =
    let bs = all ss in
    let whole : length (leaf_letters bs) ≡ length (leaf_letters (take (suc p) bs)) + length (leaf_letters (drop (suc p) bs)) =
    ap (λ (xs : List Branch). length (leaf_letters xs)) (sym (take-append-drop (suc p) bs)) ∙ ap length (letters-append (take (suc p) bs) (drop (suc p) bs))
    ∙ length-append (leaf_letters (take (suc p) bs)) (leaf_letters (drop (suc p) bs)) in
    omega (arith, leaves_in_parts ds ss, length-letters bs, whole, more_letters p bs l, ap (λ (t : Bool). cond {A = ℕ} t 0 1) e)

-- ---- what packed sections count

module _ {dl dc de : List Bool} {ds : List Node} (d : IsSpelled dl dc de ds) where
  pub leaves_at : (v a b e : ℕ) → v ≤ length ds → a ≡ rank_of dl (256 * v) → b ≡ rank_of de v → e ≡ rank_of dc (256 * v) → leaf_count_of (take v ds) + e ≡ a + b
  leaves_at v a b e le a_is b_is e_is =
      let r = ranks_of_node ds v d.nodes le in
      let letters : a + b ≡ first_place ds v = (λ j. a_is j + b_is j) ∙ (λ j. rank_of (d.labels_are j) (256 * v) + rank_of (d.ends_are j) v) ∙ r.letters in
      let below : e ≡ children_of (take v ds) = e_is ∙ ap (λ (bits : List Bool). rank_of bits (256 * v)) d.children_are ∙ r.below ∙ before_node ds v in
      omega (arith, letters, below, total (take v ds))

pub length-louds : (ns : List Node) → length (sparse_louds ns) ≡ length (all ns)
length-louds [] = refl
length-louds ([] ∷ ns) = length-louds ns
length-louds ((x ∷ m) ∷ ns) =
    ap suc (length-append (map (λ (y : Branch). false) m) (sparse_louds ns) ∙ (λ j. length-map m (λ (y : Branch). false) j + length-louds ns j) ∙ sym (length-append m (all ns)))

-- ---- what the loops meet

module _ (array : SuffixArray) (ns : List Node) (v slot : ℕ) (w : AllByRecursion IsDense ns) (l : v < length ns) (none : wrong_end array 0 (slot_letters (take v ns)) ≡ None) (is : slot ≡ leaf_count_of (take v ns)) where
  at_slot : (real : Bool) → not (real_in_slot array slot == 0) ≡ real
      → wrong_end array 0 (slot_letters (take (suc v) ns)) ≡ cond (has_letter (node_at ns v) END && real) (Some slot) None
  at_slot real e =
      next_node array ns v w l none
      ∙ (λ j. cond (has_letter (node_at ns v) END && not (real_in_slot array (sym is j) == 0)) (Some (sym is j)) None)
      ∙ ap (λ (t : Bool). cond (has_letter (node_at ns v) END && t) (Some slot) None) e

  pub end_found : has_letter (node_at ns v) END ≡ true → (real_in_slot array slot ≡ 0 → ⊥) → Some slot ≡ wrong_end array 0 (slot_letters ns)
  end_found mark_here real =
      sym (found_in array ns (suc v) slot (at_slot true (ap not (ne_eqb (real_in_slot array slot) 0 real)) ∙ ap (λ (t : Bool). cond (t && true) (Some slot) None) mark_here))

  pub end_passed : real_in_slot array slot ≡ 0 → wrong_end array 0 (slot_letters (take (v + 1) ns)) ≡ None
  end_passed zero_real = ap (λ k. wrong_end array 0 (slot_letters (take k ns))) (plus_one v) ∙ at_slot false (ap not (eq-eqb (real_in_slot array slot) 0 zero_real)) ∙ none_found (has_letter (node_at ns v) END)
    where
      none_found : (t : Bool) → cond (t && false) (Some slot) None ≡ None
      none_found true = refl
      none_found false = refl

module _ (array : SuffixArray) (ns : List Node) (v : ℕ) (w : AllByRecursion IsDense ns) (l : v < length ns) (none : wrong_end array 0 (slot_letters (take v ns)) ≡ None) where
  pub no_end_passed : has_letter (node_at ns v) END ≡ false → wrong_end array 0 (slot_letters (take (v + 1) ns)) ≡ None
  no_end_passed here =
      ap (λ k. wrong_end array 0 (slot_letters (take k ns))) (plus_one v)
      ∙ next_node array ns v w l none ∙ ap (λ (t : Bool). cond (t && not (real_in_slot array (leaf_count_of (take v ns)) == 0)) (Some (leaf_count_of (take v ns))) None) here

module _ (array : SuffixArray) (base p slot : ℕ) (bs : List Branch) (l : p < length bs) (none : wrong_end array base (leaf_letters (take p bs)) ≡ None) (is : slot ≡ base + length (leaf_letters (take p bs))) (leaf : (get_or bs p (0, false)).1 ≡ false) where
  at_leaf : (end real : Bool) → ((get_or bs p (0, false)).0 == END) ≡ end → not (real_in_slot array slot == 0) ≡ real
      → wrong_end array base (leaf_letters (take (suc p) bs)) ≡ cond (end && real) (Some slot) None
  at_leaf end real e r =
      next_leaf array base p bs l none leaf
      ∙ (λ j. cond (((get_or bs p (0, false)).0 == END) && not (real_in_slot array (sym is j) == 0)) (Some (sym is j)) None)
      ∙ (λ j. cond (e j && r j) (Some slot) None)

  pub mark_found : ((get_or bs p (0, false)).0 == END) ≡ true → (real_in_slot array slot ≡ 0 → ⊥) → Some slot ≡ wrong_end array base (leaf_letters bs)
  mark_found here real = sym (found_at array base (suc p) slot bs (at_leaf true true here (ap not (ne_eqb (real_in_slot array slot) 0 real))))

  pub mark_passed : ((get_or bs p (0, false)).0 == END) ≡ true → real_in_slot array slot ≡ 0 → wrong_end array base (leaf_letters (take (p + 1) bs)) ≡ None
  mark_passed here zero_real = ap (λ k. wrong_end array base (leaf_letters (take k bs))) (plus_one p) ∙ at_leaf true false here (ap not (eq-eqb (real_in_slot array slot) 0 zero_real))

  pub byte_passed : ((get_or bs p (0, false)).0 == END) ≡ false → wrong_end array base (leaf_letters (take (p + 1) bs)) ≡ None
  byte_passed here = ap (λ k. wrong_end array base (leaf_letters (take k bs))) (plus_one p) ∙ at_leaf false (not (real_in_slot array slot == 0)) here refl

pub child_passed : (array : SuffixArray) (base p : ℕ) (bs : List Branch) → p < length bs → wrong_end array base (leaf_letters (take p bs)) ≡ None → (get_or bs p (0, false)).1 ≡ true
    → wrong_end array base (leaf_letters (take (p + 1) bs)) ≡ None
child_passed array base p bs l none e = ap (λ k. wrong_end array base (leaf_letters (take k bs))) (plus_one p) ∙ next_child array base p bs l none e

-- a byte, whether or not it is a leaf
pub no_mark_passed : (array : SuffixArray) (base p : ℕ) (bs : List Branch) → p < length bs → wrong_end array base (leaf_letters (take p bs)) ≡ None → ((get_or bs p (0, false)).0 == END) ≡ false
    → wrong_end array base (leaf_letters (take (p + 1) bs)) ≡ None
no_mark_passed array base p bs l none e = elim (cases_Bool (get_or bs p (0, false)).1) [
  | inl child ↦ child_passed array base p bs l none child
  | inr leaf ↦ byte_passed array base p (base + length (leaf_letters (take p bs))) bs l none refl leaf e
]

module _ {labels : List ℕ} {children louds : List Bool} {ss : List Node} (s : AreSparse labels children louds ss) where
  pub child_at : (p : ℕ) → p < length (all ss) → get_or children p false ≡ (get_or (all ss) p (0, false)).1
  child_at p l = ap (λ (bits : List Bool). get_or bits p false) s.children_are ∙ get_or-map (λ (b : Branch). b.1) (all ss) p (0, false) false l

  -- the leaves before a place are what stands there and leads to no node
  pub leaves_to : (p n : ℕ) → p < length (all ss) → n ≡ rank_of children p → n + length (leaf_letters (take p (all ss))) ≡ p
  leaves_to p n l e =
      let below : n ≡ children_before ss p =
      e ∙ ap (λ (bits : List Bool). rank_of bits p) s.children_are
      ∙ ap (count_by (λ (b : Bool). b)) (take-map (λ (b : Branch). b.1) p (all ss)) ∙ count_by-map (λ (b : Bool). b) (λ (b : Branch). b.1) (take p (all ss)) in
      omega (arith, below, length-letters (take p (all ss)), counts_add ss p (omega (arith, l)))

-- ---- the rule

pub slot_within : (array : SuffixArray) (ns : List Node) (slot : ℕ) → Some slot ≡ wrong_end array 0 (slot_letters ns) → slot < leaf_count_of ns
slot_within array ns slot e =
    let within : slot < 0 + length (slot_letters ns) = subst (λ (o : Option ℕ). IfSome o (λ s. s < 0 + length (slot_letters ns))) (sym e) (wrong-within array 0 (slot_letters ns)) in
    omega (arith, within, length-letters (all ns))

pub less_wide : (slot n width : ℕ) → slot < n → slot * width ≤ n * width
less_wide slot n width less = grind arith

pub rule_found : (array : SuffixArray) (place slot width : ℕ) (cs : List ℕ) → Some slot ≡ wrong_end array 0 cs → width ≡ array.hash_bits + array.real_bits
    → Some (fault (place + slot * width / 8) 10) ≡ ends_rule place array 0 cs
rule_found array place slot width cs e w = (λ j. Some (fault (place + slot * w j / 8) 10)) ∙ ap (option_map (end_fault array place)) e ∙ sym (rule_is array place 0 cs)

pub rule_none : (array : SuffixArray) (place : ℕ) (cs : List ℕ) → None ≡ wrong_end array 0 cs → None ≡ ends_rule place array 0 cs
rule_none array place cs e = ap (option_map (end_fault array place)) e ∙ sym (rule_is array place 0 cs)
