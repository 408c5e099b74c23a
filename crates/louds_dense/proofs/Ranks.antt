-- The bits of dense nodes, and how they count the branches before a place.
use Rattle.std.proofs.Common.{◌≡◌, ℕ, zero, suc, ◌+◌, ◌*◌, ◌/◌, ◌%◌, ◌<◌, ◌≤◌, Bool, true, false, cond, List, [], ◌∷◌, ◌++◌, length, get_or, take, map, refl, ap, subst, sym, ◌∙◌, arith, inl, inr, length-append, nat_lt, lt-ltb, le-ltb}
use Rattle.std.specs.Prelude.{count_by, flat_map, ◌||◌}
use Rattle.std.specs.List.{AllByRecursion, range_with_len}
use Rattle.std.proofs.Math.Seq.{take-append-add}
use Rattle.std.proofs.lemmas.Bool.{cases_lt, ne_eqb}
use Rattle.std.proofs.lemmas.List.{get_or_append_left, get_or-append-add, get_or_past, take-append-le, take_all}
use Rattle.std.proofs.lemmas.List.FromFn.{get_or-map-range_with_len, length-map-range_with_len, take-map-range_with_len}
use Rattle.std.proofs.lemmas.List.Folds.{length-flat_map-take}
use Rattle.std.proofs.lemmas.List.Sums.{sum_by-append}
use Rattle.bit_words.specs.Counts.{rank_of}
use Rattle.filter_image_model.specs.Nodes.{IsDense}
use Rattle.filter_image_model.proofs.RisingBytes.{RisingBytes, rising_bytes}
use Rattle.filter_model.specs.Image.{dense_children, dense_ends, dense_labels, has_child, has_letter, row}
use Rattle.filter_model.specs.Nodes.{Branch, Node, all, at, children_before, first_place}
use Rattle.filter_model.specs.Trie.{END}
use Rattle.filter_image_model.proofs.Lists.{all_of}
use Rattle.louds_dense.specs.Places.{ahead_of, branches_before, node_at}
use Rattle.louds_dense.proofs.Nodes.{below, branch_first, child_bits, count-cons, count_in, count_out, counted, letter_bits, letters_first, other_child, other_letter, same_bits, set_in}

-- ---- one node, with END

pub no_end : (d : ℕ) (m : Node) → RisingBytes d m → has_letter m END ≡ false
no_end d [] w = refl
no_end d (b ∷ m) w = ap (λ (t : Bool). t || has_letter m END) (ne_eqb b.0 256 (λ e. omega (arith, w.1, e))) ∙ no_end (suc b.0) m w.2

below_all : (d : ℕ) (m : Node) → RisingBytes d m → below 256 m ≡ length m
below_all d [] w = refl
below_all d (b ∷ m) w =
    count_in (λ (x : Branch). nat_lt x.0 256) b m (lt-ltb b.0 256 w.1) ∙ ap suc (below_all (suc b.0) m w.2)

-- byte c's branch has those before it that come before c
pub record IsBranchOf (c : ℕ) (n : Node) : Type 0 where
  pub inside : ahead_of c n < length n
  pub is : get_or n (ahead_of c n) (0, false) ≡ (c, has_child n c)

pub record AreAhead (c : ℕ) (n : Node) : Type 0 where
  pub letters : set_in (letter_bits n 0 c) + cond (has_letter n END) 1 0 ≡ ahead_of c n
  pub children : set_in (child_bits n 0 c) ≡ count_by (λ (b : Branch). b.1) (take (ahead_of c n) n)
  pub within : ahead_of c n ≤ length n
  pub branch : c < 256 → has_letter n c ≡ true → IsBranchOf c n

with_end : (e : Bool) (m : Node) → RisingBytes 0 m → (c : ℕ) → c ≤ 256 → AreAhead c (cond e ((END, false) ∷ []) [] ++ m)
with_end true m w c l =
    let n : Node = (END, false) ∷ m in
    let r = counted 0 c m w in
    let same_l : letter_bits n 0 c ≡ letter_bits m 0 c = same_bits (has_letter n) (has_letter m) 0 c (λ x le lt. other_letter (END, false) m x (λ e. omega (arith, e, lt, l))) in
    let same_c : child_bits n 0 c ≡ child_bits m 0 c = same_bits (has_child n) (has_child m) 0 c (λ x le lt. other_child (END, false) m x (λ e. omega (arith, e, lt, l))) in
    let ahead : ahead_of c n ≡ suc (set_in (letter_bits m 0 c)) =
    omega (arith, count_out (λ (x : Branch). nat_lt x.0 c) (END, false) m (le-ltb 256 c l), letters_first c m w) in
    record {
      letters = omega (arith, ahead, ap set_in same_l);
      children =
          ap set_in same_c ∙ r.children
          ∙ sym (ap (λ (q : ℕ). count_by (λ (b : Branch). b.1) (take q n)) ahead ∙ count_out (λ (b : Branch). b.1) (END, false) (take (set_in (letter_bits m 0 c)) m) refl);
      within = omega (arith, ahead, r.within);
      branch = λ s on.
          let b = branch_first c m w (sym (other_letter (END, false) m c (λ e. omega (arith, e, s))) ∙ on) in
          record {
            inside = omega (arith, ahead, b.0);
            is = ap (λ (q : ℕ). get_or n q (0, false)) ahead ∙ b.1 ∙ ap (λ (t : Bool). (c, t)) (sym (other_child (END, false) m c (λ e. omega (arith, e, s))));
          };
    }
with_end false m w c l =
    let r = counted 0 c m w in
    let none = no_end 0 m w in
    let ahead : ahead_of c m ≡ set_in (letter_bits m 0 c) = omega (arith, ap (λ (t : Bool). cond {A = ℕ} t 1 0) none, letters_first c m w) in
    record {
      letters = omega (arith, ahead, ap (λ (t : Bool). cond {A = ℕ} t 1 0) none);
      children = r.children ∙ sym (ap (λ (q : ℕ). count_by (λ (b : Branch). b.1) (take q m)) ahead);
      within = omega (arith, ahead, r.within);
      branch = λ s on. let b = branch_first c m w on in record { inside = omega (arith, ahead, b.0); is = ap (λ (q : ℕ). get_or m q (0, false)) ahead ∙ b.1 };
    }

ahead_all : (e : Bool) (m : Node) → RisingBytes 0 m → ahead_of 256 (cond e ((END, false) ∷ []) [] ++ m) ≡ length (cond e ((END, false) ∷ []) [] ++ m)
ahead_all true m w = omega (arith, count_out (λ (x : Branch). nat_lt x.0 256) (END, false) m refl, below_all 0 m w)
ahead_all false m w = omega (arith, ap (λ (t : Bool). cond {A = ℕ} t 1 0) (no_end 0 m w), below_all 0 m w)

pub ahead : (n : Node) → IsDense n → (c : ℕ) → c ≤ 256 → AreAhead c n
ahead n w c l = subst (AreAhead c) (sym w.is) (with_end w.ends w.bytes (rising_bytes w.bytes w.letters w.rising) c l)

pub all_ahead : (n : Node) → IsDense n → ahead_of 256 n ≡ length n
all_ahead n w = subst (λ (x : Node). ahead_of 256 x ≡ length x) (sym w.is) (ahead_all w.ends w.bytes (rising_bytes w.bytes w.letters w.rising))

-- ---- a row and what is behind it

pub length-row : (f : ℕ → Bool) → length (row f) ≡ 256
unfolding row
length-row f = length-map-range_with_len f 0 256

take-row : (f : ℕ → Bool) (c : ℕ) → c ≤ 256 → take c (row f) ≡ map f (range_with_len 0 c)
unfolding row
take-row f c l = take-map-range_with_len f 0 256 c l

rank_front : (f : ℕ → Bool) (rest : List Bool) (c : ℕ) → c ≤ 256 → rank_of (row f ++ rest) c ≡ set_in (map f (range_with_len 0 c))
rank_front f rest c l = ap set_in (take-append-le c (row f) rest (omega (arith, l, length-row f)) ∙ take-row f c l)

rank_behind : (f : ℕ → Bool) (rest : List Bool) (p : ℕ) → rank_of (row f ++ rest) (256 + p) ≡ set_in (map f (range_with_len 0 256)) + rank_of rest p
rank_behind f rest p =
    ap (λ (k : ℕ). rank_of (row f ++ rest) (k + p)) (sym (length-row f))
    ∙ ap set_in (take-append-add (row f) rest p)
    ∙ sum_by-append (λ (bit : Bool). cond bit 1 0) (row f) (take p rest)
    ∙ ap (λ (bits : List Bool). set_in bits + rank_of rest p) (sym (take_all 256 (row f) (omega (arith, length-row f))) ∙ take-row f 256 (omega arith))

count_front : (test : Branch → Bool) (n : Node) (ns : List Node) (q : ℕ) → q ≤ length n → count_by test (take q (all (n ∷ ns))) ≡ count_by test (take q n)
count_front test n ns q l = ap (count_by test) (take-append-le q n (all ns) l)

count_behind : (test : Branch → Bool) (n : Node) (ns : List Node) (q : ℕ) → count_by test (take (length n + q) (all (n ∷ ns))) ≡ count_by test n + count_by test (take q (all ns))
count_behind test n ns q = ap (count_by test) (take-append-add n (all ns) q) ∙ sum_by-append (λ (b : Branch). cond (test b) 1 0) n (take q (all ns))

-- all bits of a node
record IsWhole (n : Node) : Type 0 where
  letters : set_in (letter_bits n 0 256) + cond (has_letter n END) 1 0 ≡ length n
  children : set_in (child_bits n 0 256) ≡ count_by (λ (b : Branch). b.1) n

whole : (n : Node) → IsDense n → IsWhole n
whole n w =
    let r = ahead n w 256 (omega arith) in
    let e = all_ahead n w in
    record {
      letters = r.letters ∙ e;
      children = r.children ∙ ap (λ (q : ℕ). count_by (λ (b : Branch). b.1) (take q n)) e ∙ ap (count_by (λ (b : Branch). b.1)) (take_all (length n) n (omega arith));
    }

-- ---- the bits before a place

-- the set bits before place p and the first k bits for END make q branches, and of these the children are counted too
pub record AreRanked (ns : List Node) (p k q : ℕ) : Type 0 where
  pub letters : rank_of (dense_labels ns) p + rank_of (dense_ends ns) k ≡ q
  pub below : rank_of (dense_children ns) p ≡ children_before ns q

pub ranked-at : (ns : List Node) (p p' k q q' : ℕ) → p ≡ p' → q ≡ q' → AreRanked ns p k q → AreRanked ns p' k q'
ranked-at ns p p' k q q' e f r = subst (λ (x : ℕ). AreRanked ns x k q') e (subst (AreRanked ns p k) f r)

sums_add : (x y a b c d m q : ℕ) → x ≡ a + b → y ≡ c + d → a + c ≡ m → b + d ≡ q → x + y ≡ m + q
sums_add x y a b c d m q e f g h = omega (arith, e, f, g, h)

zero_plus : (k : ℕ) → 0 + k ≡ k
zero_plus k = omega arith

-- behind a further node at the front
pushed : (n : Node) (ns : List Node) (p k q : ℕ) → IsDense n → AreRanked ns p k q → AreRanked (n ∷ ns) (256 + p) (suc k) (length n + q)
pushed n ns p k q w r =
    let h = whole n w in
    let ends = count-cons (λ (bit : Bool). bit) (has_letter n END) (take k (dense_ends ns)) in
    record {
      letters = sums_add _ _ _ _ _ _ _ _ (rank_behind (has_letter n) (dense_labels ns) p) ends h.letters r.letters;
      below = rank_behind (has_child n) (dense_children ns) p ∙ (λ j. h.children j + r.below j) ∙ sym (count_behind (λ (b : Branch). b.1) n ns q);
    }

-- before a node
pub ranks_of_node : (ns : List Node) (v : ℕ) → AllByRecursion IsDense ns → v ≤ length ns → AreRanked ns (256 * v) v (first_place ns v)
ranks_of_node ns zero w l = ranked-at ns 0 (256 * 0) 0 0 0 (omega arith) refl (record { letters = refl; below = refl })
ranks_of_node [] (suc v) w l = absurd (omega (arith, l))
ranks_of_node (n ∷ ns) (suc v) w l =
    ranked-at (n ∷ ns) (256 + 256 * v) (256 * suc v) (suc v) (length n + first_place ns v) (first_place (n ∷ ns) (suc v)) (omega arith) (sym (length-append n (all (take v ns))))
    (pushed n ns (256 * v) v (first_place ns v) w.0 (ranks_of_node ns v w.1 (omega (arith, l))))

-- before a byte of a node
pub ranks_of_byte : (ns : List Node) (v c : ℕ) → AllByRecursion IsDense ns → v < length ns → c ≤ 256
    → AreRanked ns (256 * v + c) (suc v) (first_place ns v + ahead_of c (node_at ns v))
ranks_of_byte [] v c w l s = absurd (omega (arith, l))
ranks_of_byte (n ∷ ns) zero c w l s =
    let r = ahead n w.0 c s in
    let ends = count-cons (λ (bit : Bool). bit) (has_letter n END) [] in
    ranked-at (n ∷ ns) c (256 * 0 + c) 1 (ahead_of c n) (first_place (n ∷ ns) 0 + ahead_of c n) (omega arith) (sym (zero_plus (ahead_of c n)))
    (record {
      letters = omega (arith, rank_front (has_letter n) (dense_labels ns) c s, ends, r.letters);
      below = rank_front (has_child n) (dense_children ns) c s ∙ r.children ∙ sym (count_front (λ (b : Branch). b.1) n ns (ahead_of c n) r.within);
    })
ranks_of_byte (n ∷ ns) (suc v) c w l s =
    ranked-at (n ∷ ns) (256 + (256 * v + c)) (256 * suc v + c) (suc (suc v)) (length n + (first_place ns v + ahead_of c (node_at ns v))) (first_place (n ∷ ns) (suc v) + ahead_of c (node_at ns v))
    (omega arith) (omega (arith, length-append n (all (take v ns))))
    (pushed n ns (256 * v + c) (suc v) (first_place ns v + ahead_of c (node_at ns v)) w.0 (ranks_of_byte ns v c w.1 (omega (arith, l)) s))

-- before any place: the bits for END of its own node count too
pub ranks_at : (ns : List Node) (p k : ℕ) → AllByRecursion IsDense ns → p ≤ 256 * length ns → (p / 256 < length ns → k ≡ p / 256 + 1) → (length ns ≤ p / 256 → k ≡ length ns)
    → AreRanked ns p k (branches_before ns p)
ranks_at ns p k w l inner last = elim (cases_lt (p / 256) (length ns)) [
  | inl inside ↦
      let e : suc (p / 256) ≡ k = omega (arith, inner inside) in
      subst (λ (x : ℕ). AreRanked ns p x (branches_before ns p)) e
      (ranked-at ns (256 * (p / 256) + p % 256) p (suc (p / 256)) (branches_before ns p) (branches_before ns p) (omega arith) refl (ranks_of_byte ns (p / 256) (p % 256) w inside (omega arith)))
  | inr past ↦
      let v : length ns ≡ p / 256 = omega (arith, past, l) in
      let z : p % 256 ≡ 0 = omega (arith, past, l) in
      let none : node_at ns (p / 256) ≡ [] = get_or_past ns (p / 256) [] past in
      let q : first_place ns (length ns) ≡ branches_before ns p =
      ap (first_place ns) v ∙ omega arith ∙ (λ j. first_place ns (p / 256) + ahead_of (p % 256) (sym none j)) in
      subst (λ (x : ℕ). AreRanked ns p x (branches_before ns p)) (sym (last past))
      (ranked-at ns (256 * length ns) p (length ns) (first_place ns (length ns)) (branches_before ns p) (omega (arith, v, z)) q (ranks_of_node ns (length ns) w (omega arith)))
]

-- ---- bits

letter_bit : (n : Node) (rest : List Bool) (f : ℕ → Bool) (c : ℕ) → c < 256 → get_or (row f ++ rest) c false ≡ f c
unfolding row
letter_bit n rest f c l =
    get_or_append_left (map f (range_with_len 0 256)) rest false c (omega (arith, l, length-map-range_with_len f 0 256))
    ∙ get_or-map-range_with_len f 0 256 c c false l (omega arith)

pub rows_at : (f : Node → ℕ → Bool) (ns : List Node) (v c p : ℕ) → v < length ns → c < 256 → 256 * v + c ≡ p → get_or (flat_map (λ (n : Node). row (f n)) ns) p false ≡ f (node_at ns v) c
rows_at f [] v c p l s e = absurd (omega (arith, l))
rows_at f (n ∷ ns) zero c p l s e = ap (λ (k : ℕ). get_or (row (f n) ++ flat_map (λ (m : Node). row (f m)) ns) k false) (omega (arith, e)) ∙ letter_bit n (flat_map (λ (m : Node). row (f m)) ns) (f n) c s
rows_at f (n ∷ ns) (suc v) c p l s e =
    ap (λ (k : ℕ). get_or (row (f n) ++ flat_map (λ (m : Node). row (f m)) ns) k false) (omega (arith, e, length-row (f n)))
    ∙ get_or-append-add (row (f n)) (flat_map (λ (m : Node). row (f m)) ns) (256 * v + c) false
    ∙ rows_at f ns v c (256 * v + c) (omega (arith, l)) s refl

pub length-rows : (f : Node → ℕ → Bool) (ns : List Node) → length (flat_map (λ (n : Node). row (f n)) ns) ≡ 256 * length ns
length-rows f [] = omega arith
length-rows f (n ∷ ns) = omega (arith, length-append (row (f n)) (flat_map (λ (m : Node). row (f m)) ns), length-row (f n), length-rows f ns)

-- ---- branches

pub branch_of_byte : (ns : List Node) (v c : ℕ) → AllByRecursion IsDense ns → v < length ns → c < 256 → has_letter (node_at ns v) c ≡ true
    → at ns (first_place ns v + ahead_of c (node_at ns v)) ≡ (c, has_child (node_at ns v) c)
branch_of_byte [] v c w l s on = absurd (omega (arith, l))
branch_of_byte (n ∷ ns) zero c w l s on =
    let r = ahead n w.0 c (omega (arith, s)) in
    let b = r.branch s on in
    ap (λ (k : ℕ). get_or (n ++ all ns) k (0, false)) (zero_plus (ahead_of c n))
    ∙ get_or_append_left n (all ns) (0, false) (ahead_of c n) b.inside ∙ b.is
branch_of_byte (n ∷ ns) (suc v) c w l s on =
    let q = first_place ns v + ahead_of c (node_at ns v) in
    ap (λ (k : ℕ). get_or (n ++ all ns) k (0, false)) (omega (arith, length-append n (all (take v ns))))
    ∙ get_or-append-add n (all ns) q (0, false)
    ∙ branch_of_byte ns v c w.1 (omega (arith, l)) s on

-- ---- there are as many branches

pub node_within : (ns : List Node) (v : ℕ) → v ≤ length ns → first_place ns v ≤ length (all ns)
node_within ns v l = elim (cases_lt v (length ns)) [
  | inl inside ↦ omega (arith, length-flat_map-take (λ (n : Node). n) ns v [] inside)
  | inr past ↦ omega (arith, ap (λ (ms : List Node). length (all ms)) (take_all v ns past))
]

pub before_within : (ns : List Node) (p : ℕ) → AllByRecursion IsDense ns → branches_before ns p ≤ length (all ns)
before_within ns p w = elim (cases_lt (p / 256) (length ns)) [
  | inl inside ↦
      let r = ahead (node_at ns (p / 256)) (all_of IsDense ns w (p / 256) [] inside) (p % 256) (omega arith) in
      sum_le (first_place ns (p / 256)) (ahead_of (p % 256) (node_at ns (p / 256))) (length (node_at ns (p / 256))) (length (all ns)) r.within (length-flat_map-take (λ (n : Node). n) ns (p / 256) [] inside)
  | inr past ↦
      let none : node_at ns (p / 256) ≡ [] = get_or_past ns (p / 256) [] past in
      let zero_ahead : ahead_of (p % 256) (node_at ns (p / 256)) ≡ 0 = ap (ahead_of (p % 256)) none ∙ omega arith in
      sum_le (first_place ns (p / 256)) (ahead_of (p % 256) (node_at ns (p / 256))) 0 (length (all ns)) (omega (arith, zero_ahead)) (omega (arith, ap (λ (ms : List Node). length (all ms)) (take_all (p / 256) ns past)))
]
  where
    sum_le : (a b c d : ℕ) → b ≤ c → a + c ≤ d → a + b ≤ d
    sum_le a b c d l m = omega (arith, l, m)
