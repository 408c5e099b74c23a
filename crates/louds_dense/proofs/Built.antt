-- Sections that grow by bytes and nodes, and the nodes that they spell then.
use Rattle.std.proofs.Common.{◌≡◌, ℕ, zero, suc, ◌+◌, ◌-◌, ◌<◌, ◌≤◌, ◌==◌, ◌^◌, Bool, true, false, List, [], ◌∷◌, ◌++◌, length, get_or, take, map, refl, ap, subst, sym, ◌∙◌, arith, inl, inr, length-append}
use Rattle.std.specs.Prelude.{◌&&◌, ◌||◌, flat_map}
use Rattle.std.specs.List.{All, AllByRecursion, AllPairs, range_with_len}
use Rattle.std.proofs.lemmas.Bool.{cases_lt, eq-eqb}
use Rattle.std.proofs.lemmas.List.{append-nil, append_assoc, get_or_default, map-append, take_more}
use Rattle.std.proofs.lemmas.List.Concat.{flat_map-append}
use Rattle.std.proofs.lemmas.List.Elements.{All-append, All-cons, All-nil}
use Rattle.std.proofs.lemmas.List.FromFn.{length-map-range_with_len, map-range_with_len_more}
use Rattle.filter_image_model.proofs.DenseNodes.{dense_again}
use Rattle.filter_image_model.proofs.Lists.{all_append}
use Rattle.filter_image_model.specs.Nodes.{IsDense}
use Rattle.filter_image_model.proofs.RisingBytes.{RisingBytes, are_bytes, in_order_of}
use Rattle.filter_model.specs.Image.{dense_children, dense_ends, dense_labels, has_child, has_letter, row}
use Rattle.filter_model.specs.Nodes.{Branch, Node}
use Rattle.filter_model.specs.Trie.{END}
use Rattle.louds_dense.specs.Building.{SectionsInRoom, no_branches, with_byte, with_byte_bits, with_end, with_gap}
use Rattle.louds_dense.specs.Spelling.{IsSpelled, nodes_in}
use Rattle.louds_dense.proofs.Nodes.{other_child, other_letter, same_bits}
use Rattle.louds_dense.proofs.Ranks.{no_end}
use Rattle.trie_model.specs.Given.{AreRising, node_given}
use Rattle.trie_model.specs.declared.parts.Branch.{Branch as ByteBranch}

-- ---- the branches that are given

abbrev pub by_byte : ByteBranch → Branch
by_byte b = (b.byte, b.child)

abbrev pub any : ByteBranch
any = record { byte = 0; child = false }

no_letter : (bs : List ByteBranch) (c : ℕ) → ((j : ℕ) → j < length bs → (get_or bs j any).byte ≡ c → ⊥) → has_letter (map by_byte bs) c ≡ false
no_letter [] c ne = refl
no_letter (b ∷ bs) c ne = other_letter (by_byte b) (map by_byte bs) c (ne 0 (omega arith)) ∙ no_letter bs c (λ j l. ne (suc j) (omega (arith, l)))

no_child : (bs : List ByteBranch) (c : ℕ) → ((j : ℕ) → j < length bs → (get_or bs j any).byte ≡ c → ⊥) → has_child (map by_byte bs) c ≡ false
no_child [] c ne = refl
no_child (b ∷ bs) c ne = other_child (by_byte b) (map by_byte bs) c (ne 0 (omega arith)) ∙ no_child bs c (λ j l. ne (suc j) (omega (arith, l)))

AreUp : List ByteBranch → Type 0
AreUp bs = AllPairs (λ (a b : ByteBranch). a.byte < b.byte) bs

up-tail : (b : ByteBranch) (bs : List ByteBranch) → AllPairs (λ (x y : ByteBranch). x.byte < y.byte) (b ∷ bs) → AllPairs (λ (x y : ByteBranch). x.byte < y.byte) bs
up-tail b bs r i j d up l = r (suc i) (suc j) d (omega (arith, up)) (omega (arith, l))

letter_given : (bs : List ByteBranch) (j : ℕ) → j < length bs → has_letter (map by_byte bs) (get_or bs j any).byte ≡ true
letter_given [] j l = absurd (omega (arith, l))
letter_given (b ∷ bs) zero l = ap (λ (t : Bool). t || has_letter (map by_byte bs) b.byte) (eq-eqb b.byte b.byte refl)
letter_given (b ∷ bs) (suc j) l = or_true ((by_byte b).0 == (get_or bs j any).byte) (letter_given bs j (omega (arith, l)))
  where
    or_true : (t : Bool) {u : Bool} → u ≡ true → (t || u) ≡ true
    or_true true e = refl
    or_true false e = e

child_given : (bs : List ByteBranch) (j : ℕ) → AllPairs (λ (x y : ByteBranch). x.byte < y.byte) bs → j < length bs → has_child (map by_byte bs) (get_or bs j any).byte ≡ (get_or bs j any).child
child_given [] j r l = absurd (omega (arith, l))
child_given (b ∷ bs) zero r l =
    ap (λ (t : Bool). (t && b.child) || has_child (map by_byte bs) b.byte) (eq-eqb b.byte b.byte refl)
    ∙ ap (λ (t : Bool). b.child || t) (no_child bs b.byte (λ j jl e. omega (arith, e, r 0 (suc j) any (omega arith) (omega (arith, jl)))))
    ∙ or_false b.child
  where
    or_false : (x : Bool) → (x || false) ≡ x
    or_false true = refl
    or_false false = refl
child_given (b ∷ bs) (suc j) r l =
    other_child (by_byte b) (map by_byte bs) (get_or bs j any).byte (λ e. omega (arith, e, r 0 (suc j) any (omega arith) l))
    ∙ child_given bs j (up-tail b bs r) (omega (arith, l))

-- ---- bits more

add_one : (k : ℕ) → suc k ≡ k + 1
add_one k = omega arith

-- the bits of the first `count` bytes, and as many more as are no branches
gap_more : (f : ℕ → Bool) (count k : ℕ) → ((c : ℕ) → count ≤ c → c < count + k → f c ≡ false)
    → map f (range_with_len 0 count) ++ no_branches k ≡ map f (range_with_len 0 (count + k))
gap_more f count zero off = append-nil (map f (range_with_len 0 count)) ∙ ap (λ (x : ℕ). map f (range_with_len 0 x)) (plus_zero count)
  where
    plus_zero : (k : ℕ) → k ≡ k + 0
    plus_zero k = omega arith
gap_more f count (suc k) off =
    ap (λ (bits : List Bool). map f (range_with_len 0 count) ++ bits) (ap no_branches (add_one k) ∙ map-range_with_len_more (λ (c : ℕ). false) 0 k k (omega arith))
    ∙ sym (append_assoc (map f (range_with_len 0 count)) (no_branches k) (false ∷ []))
    ∙ ap (λ (bits : List Bool). bits ++ false ∷ []) (gap_more f count k (λ c le lt. off c le (omega (arith, lt))))
    ∙ ap (λ (t : Bool). map f (range_with_len 0 (count + k)) ++ t ∷ []) (sym (off (count + k) (omega arith) (omega arith)))
    ∙ sym (map-range_with_len_more f 0 (count + k) (count + k) (omega arith))
    ∙ ap (λ (x : ℕ). map f (range_with_len 0 x)) (behind count k)
  where
    behind : (count k : ℕ) → count + k + 1 ≡ count + suc k
    behind count k = omega arith

pub with_gap_more : (k : ℕ) (s : SectionsInRoom) → with_byte false false (with_gap k s) ≡ with_gap (k + 1) s
with_gap_more k s = λ j. record {
  labels = (append_assoc s.labels (no_branches k) (false ∷ []) ∙ ap (λ (bits : List Bool). s.labels ++ bits) (sym (map-range_with_len_more (λ (c : ℕ). false) 0 k k (omega arith)))) j;
  children = (append_assoc s.children (no_branches k) (false ∷ []) ∙ ap (λ (bits : List Bool). s.children ++ bits) (sym (map-range_with_len_more (λ (c : ℕ). false) 0 k k (omega arith)))) j;
  ends = s.ends;
  limit = s.limit;
}

pub no_gap : (s : SectionsInRoom) → s ≡ with_gap 0 s
no_gap s = λ j. record { labels = sym (append-nil s.labels) j; children = sym (append-nil s.children) j; ends = s.ends; limit = s.limit }

pub no_bytes : (n : Node) (s : SectionsInRoom) → s ≡ with_byte_bits 0 n s
no_bytes n s = λ j. record { labels = sym (append-nil s.labels) j; children = sym (append-nil s.children) j; ends = s.ends; limit = s.limit }

pub length-gap : (k : ℕ) (s t : SectionsInRoom) → t ≡ with_gap k s → length t.labels ≡ length s.labels + k
length-gap k s t e = ap (λ (x : SectionsInRoom). length x.labels) e ∙ length-append s.labels (no_branches k) ∙ ap (λ (x : ℕ). length s.labels + x) (length-map-range_with_len (λ (c : ℕ). false) 0 k)

pub length-bytes : (k : ℕ) (n : Node) (s t : SectionsInRoom) → t ≡ with_byte_bits k n s → length t.labels ≡ length s.labels + k
length-bytes k n s t e = ap (λ (x : SectionsInRoom). length x.labels) e ∙ length-append s.labels (map (has_letter n) (range_with_len 0 k)) ∙ ap (λ (x : ℕ). length s.labels + x) (length-map-range_with_len (has_letter n) 0 k)

gap_behind : (n : Node) (count k : ℕ) (s : SectionsInRoom) → ((c : ℕ) → count ≤ c → c < count + k → has_letter n c ≡ false) → ((c : ℕ) → count ≤ c → c < count + k → has_child n c ≡ false)
    → with_gap k (with_byte_bits count n s) ≡ with_byte_bits (count + k) n s
gap_behind n count k s l c = λ j. record {
  labels = (append_assoc s.labels (map (has_letter n) (range_with_len 0 count)) (no_branches k) ∙ ap (λ (bits : List Bool). s.labels ++ bits) (gap_more (has_letter n) count k l)) j;
  children = (append_assoc s.children (map (has_child n) (range_with_len 0 count)) (no_branches k) ∙ ap (λ (bits : List Bool). s.children ++ bits) (gap_more (has_child n) count k c)) j;
  ends = s.ends;
  limit = s.limit;
}

byte_behind : (n : Node) (count : ℕ) (label child : Bool) (s : SectionsInRoom) → has_letter n count ≡ label → has_child n count ≡ child
    → with_byte label child (with_byte_bits count n s) ≡ with_byte_bits (count + 1) n s
byte_behind n count label child s l c = λ j. record {
  labels =
      (append_assoc s.labels (map (has_letter n) (range_with_len 0 count)) (label ∷ [])
      ∙ ap (λ (t : Bool). s.labels ++ (map (has_letter n) (range_with_len 0 count) ++ t ∷ [])) (sym l)
      ∙ ap (λ (bits : List Bool). s.labels ++ bits) (sym (map-range_with_len_more (has_letter n) 0 count count (omega arith)))) j;
  children =
      (append_assoc s.children (map (has_child n) (range_with_len 0 count)) (child ∷ [])
      ∙ ap (λ (t : Bool). s.children ++ (map (has_child n) (range_with_len 0 count) ++ t ∷ [])) (sym c)
      ∙ ap (λ (bits : List Bool). s.children ++ bits) (sym (map-range_with_len_more (has_child n) 0 count count (omega arith)))) j;
  ends = s.ends;
  limit = s.limit;
}

-- ---- a node's bytes, branch by branch

-- the first i branches are by bytes below `next`, and the others are not
pub record AreBytesTo (bs : List ByteBranch) (i next : ℕ) : Type 0 where
  pub to : next ≤ 256
  pub bytes : All (λ (b : ByteBranch). b.byte < 256) (take i bs)
  pub below : (j : ℕ) → j < i → (get_or bs j any).byte < next
  pub above : (j : ℕ) → i ≤ j → j < length bs → next ≤ (get_or bs j any).byte

pub none_yet : (bs : List ByteBranch) → AreBytesTo bs 0 0
none_yet bs = record { to = omega arith; bytes = All-nil (λ (b : ByteBranch). b.byte < 256); below = λ j l. absurd (omega (arith, l)); above = λ j le l. omega arith }

module _ (bs : List ByteBranch) (r : AreRising bs) (i next : ℕ) (w : AreBytesTo bs i next) where
  -- no branch is by a byte from `next` on and before the branch that comes next
  apart : (c : ℕ) → next ≤ c → ((j : ℕ) → i ≤ j → j < length bs → c < (get_or bs j any).byte) → (j : ℕ) → j < length bs → (get_or bs j any).byte ≡ c → ⊥
  apart c le later j l e = elim (cases_lt j i) [
    | inl before ↦ omega (arith, w.below j before, le, e)
    | inr behind ↦ omega (arith, later j behind l, e)
  ]

  pub gap_added : (k : ℕ) (s : SectionsInRoom) → ((j : ℕ) → i ≤ j → j < length bs → next + k ≤ (get_or bs j any).byte)
      → with_gap k (with_byte_bits next (node_given false bs) s) ≡ with_byte_bits (next + k) (node_given false bs) s
  gap_added k s later =
      gap_behind (map by_byte bs) next k s
      (λ c le lt. no_letter bs c (apart c le (λ j up l. omega (arith, later j up l, lt))))
      (λ c le lt. no_child bs c (apart c le (λ j up l. omega (arith, later j up l, lt))))

  pub branch_added : (s t : SectionsInRoom) (d : ByteBranch) → i < length bs → t ≡ with_gap ((get_or bs i d).byte - next) (with_byte_bits next (node_given false bs) s)
      → with_byte true (get_or bs i d).child t ≡ with_byte_bits ((get_or bs i d).byte + 1) (node_given false bs) s
  branch_added s t d l e =
      let b = get_or bs i any in
      let same : get_or bs i d ≡ b = get_or_default bs i d any l in
      let up = w.above i (omega arith) l in
      let later : (j : ℕ) → i ≤ j → j < length bs → next + (b.byte - next) ≤ (get_or bs j any).byte =
      (λ j le jl. elim (cases_lt i j) [
        | inl behind ↦ omega (arith, up, r.rising i j any behind jl)
        | inr here ↦ let is : i ≡ j = omega (arith, le, here) in omega (arith, up, ap (λ (k : ℕ). (get_or bs k any).byte) is)
      ]) in
      let sum : next + (b.byte - next) ≡ b.byte = omega (arith, up) in
      ap (with_byte true (get_or bs i d).child) (e ∙ ap (λ (x : ByteBranch). with_gap (x.byte - next) (with_byte_bits next (node_given false bs) s)) same ∙ gap_added (b.byte - next) s later ∙ ap (λ (k : ℕ). with_byte_bits k (node_given false bs) s) sum)
      ∙ ap (λ (x : ByteBranch). with_byte true x.child (with_byte_bits b.byte (node_given false bs) s)) same
      ∙ byte_behind (map by_byte bs) b.byte true b.child s (letter_given bs i l) (child_given bs i r.rising l)
      ∙ ap (λ (x : ByteBranch). with_byte_bits (x.byte + 1) (node_given false bs) s) (sym same)

  pub bytes_more : (d : ByteBranch) → i < length bs → (get_or bs i d).byte < 256 → AreBytesTo bs (i + 1) ((get_or bs i d).byte + 1)
  bytes_more d l small =
      let same : (get_or bs i d).byte ≡ (get_or bs i any).byte = ap (λ (x : ByteBranch). x.byte) (get_or_default bs i d any l) in
      record {
        to = omega (arith, small);
        bytes =
            subst (All (λ (b : ByteBranch). b.byte < 256)) (sym (take_more bs i d l))
            (All-append (λ (b : ByteBranch). b.byte < 256) (take i bs) (get_or bs i d ∷ []) w.bytes (All-cons (λ (b : ByteBranch). b.byte < 256) (get_or bs i d) [] small (All-nil (λ (b : ByteBranch). b.byte < 256))));
        below = λ j jl. elim (cases_lt j i) [
          | inl before ↦ omega (arith, same, r.rising j i any before l)
          | inr here ↦ let is : j ≡ i = omega (arith, jl, here) in omega (arith, same, ap (λ (k : ℕ). (get_or bs k any).byte) is)
        ];
        above = λ j le jl. omega (arith, same, r.rising i j any (omega (arith, le)) jl);
      }

-- ---- a node more

pub rising_given : (bs : List ByteBranch) (c : ℕ) → AllPairs (λ (x y : ByteBranch). x.byte < y.byte) bs → All (λ (b : ByteBranch). b.byte < 256) bs
    → ((j : ℕ) → j < length bs → c ≤ (get_or bs j any).byte) → RisingBytes c (map by_byte bs)
rising_given [] c r w low = tt
rising_given (b ∷ bs) c r w low = (
  low 0 (omega arith),
  w 0 any (omega arith),
  rising_given bs (suc b.byte) (up-tail b bs r) (λ j d l. w (suc j) d (omega (arith, l))) (λ j l. omega (arith, r 0 (suc j) any (omega arith) (omega (arith, l)))),
)

pub dense_given : (end : Bool) (bs : List ByteBranch) → AreRising bs → All (λ (b : ByteBranch). b.byte < 256) bs → IsDense (node_given end bs)
dense_given end bs r w = record { ends = end; bytes = map by_byte bs; letters = are_bytes 0 (map by_byte bs) (rising_given bs 0 r.rising w (λ j l. omega arith)); rising = in_order_of 0 (map by_byte bs) (rising_given bs 0 r.rising w (λ j l. omega arith)); is = refl }

-- END says nothing of bytes, and is there as it is given
end_given : (end : Bool) (bs : List ByteBranch) → AreRising bs → All (λ (b : ByteBranch). b.byte < 256) bs → has_letter (node_given end bs) END ≡ end
end_given true bs r w = refl
end_given false bs r w = no_end 0 (map by_byte bs) (rising_given bs 0 r.rising w (λ j l. omega arith))

row_letters : (end : Bool) (bs : List ByteBranch) → map (has_letter (node_given false bs)) (range_with_len 0 256) ≡ row (has_letter (node_given end bs))
unfolding row
row_letters true bs = sym (same_bits (has_letter (node_given true bs)) (has_letter (map by_byte bs)) 0 256 (λ c le lt. other_letter (END, false) (map by_byte bs) c (λ e. omega (arith, e, lt))))
row_letters false bs = refl

row_children : (end : Bool) (bs : List ByteBranch) → map (has_child (node_given false bs)) (range_with_len 0 256) ≡ row (has_child (node_given end bs))
unfolding row
row_children true bs = sym (same_bits (has_child (node_given true bs)) (has_child (map by_byte bs)) 0 256 (λ c le lt. other_child (END, false) (map by_byte bs) c (λ e. omega (arith, e, lt))))
row_children false bs = refl

one_more : (f : Node → List Bool) (ns : List Node) (n : Node) → flat_map f ns ++ f n ≡ flat_map f (ns ++ n ∷ [])
one_more f ns n = ap (λ (bits : List Bool). flat_map f ns ++ bits) (sym (append-nil (f n))) ∙ sym (flat_map-append f ns (n ∷ []))

-- sections of dense nodes are read as these nodes
spelled_again : (ns : List Node) → AllByRecursion IsDense ns → nodes_in (dense_labels ns) (dense_children ns) (dense_ends ns) ≡ ns
unfolding nodes_in
spelled_again ns w = dense_again ns w

pub record IsAdded (labels children ends : List Bool) (ns : List Node) : Type 0 where
  pub nodes : nodes_in labels children ends ≡ ns
  pub spelled : IsSpelled labels children ends ns

pub node_added : (s t : SectionsInRoom) (ns : List Node) (end : Bool) (bs : List ByteBranch) → AreRising bs → All (λ (b : ByteBranch). b.byte < 256) bs
    → IsSpelled s.labels s.children s.ends ns → length ns < 2 ^ 53 → t ≡ with_end end (with_byte_bits 256 (node_given false bs) s)
    → IsAdded t.labels t.children t.ends (ns ++ node_given end bs ∷ [])
node_added s t ns end bs r small w few e =
    let n = node_given end bs in
    let l : t.labels ≡ dense_labels (ns ++ n ∷ []) =
    ap (λ (x : SectionsInRoom). x.labels) e ∙ (λ j. w.labels_are j ++ row_letters end bs j) ∙ one_more (λ m. row (has_letter m)) ns n in
    let c : t.children ≡ dense_children (ns ++ n ∷ []) =
    ap (λ (x : SectionsInRoom). x.children) e ∙ (λ j. w.children_are j ++ row_children end bs j) ∙ one_more (λ m. row (has_child m)) ns n in
    let o : t.ends ≡ dense_ends (ns ++ n ∷ []) =
    ap (λ (x : SectionsInRoom). x.ends) e ∙ (λ j. w.ends_are j ++ sym (end_given end bs r small) j ∷ []) ∙ sym (map-append (λ (m : Node). has_letter m END) ns (n ∷ [])) in
    let a : AllByRecursion IsDense (ns ++ n ∷ []) = all_append IsDense ns (n ∷ []) w.nodes (dense_given end bs r small, tt) in
    record {
      nodes = (λ j. nodes_in (l j) (c j) (o j)) ∙ spelled_again (ns ++ n ∷ []) a;
      spelled = record { labels_are = l; children_are = c; ends_are = o; nodes = a; few = omega (arith, few, length-append ns (n ∷ [])) };
    }

pub none_spelled : IsSpelled [] [] [] []
none_spelled = record { labels_are = refl; children_are = refl; ends_are = refl; nodes = tt; few = omega arith }

pub none_in : nodes_in [] [] [] ≡ []
unfolding nodes_in
none_in = refl

pub ends_more : (end : Bool) (s t : SectionsInRoom) → t ≡ with_end end s → length t.ends ≡ length s.ends + 1
ends_more end s t e = ap (λ (x : SectionsInRoom). length x.ends) e ∙ length-append s.ends (end ∷ [])
