-- Which nodes no trie has, by what the sections say of them.
use Rattle.std.proofs.Common.{◌≡◌, ℕ, zero, suc, ◌+◌, ◌-◌, ◌*◌, ◌<◌, ◌≤◌, ◌∙◌, refl, sym, ap, arith, length, length-append, get_or, take, drop, Bool, true, false, cond, List, [], ◌∷◌, ◌++◌, map, inl, inr, lt-ltb, le-ltb}
use Rattle.std.specs.Prelude.{◌==◌, ◌&&◌, ◌||◌, nat_lt, not, Option, Some, None}
use Rattle.std.specs.List.{AllByRecursion, list_any}
use Rattle.std.proofs.lemmas.Bool.{and_from, cases_eq, cases_lt, eq-eqb, ne_eqb}
use Rattle.std.proofs.lemmas.List.Concat.{get_or-flat_map}
use Rattle.std.proofs.lemmas.List.{append-nil, at_drop_more, at_drop_all, drop-map, drop_at, drop_more, get_or-map, get_or_append_left, length-map, take-append-drop, take-map, take_at, take_more}
use Rattle.bit_words.specs.Counts.{rank_of}
use Rattle.byte_fields.specs.Faults.{Fault, fault, refuse}
use Rattle.filter_codec.proofs.Trees.{all_parts, before_node, children_add, children_count, labels_count}
use Rattle.filter_codec.specs.Rules.{is_wrong, rise}
use Rattle.filter_codec.specs.Tree.{AreSparse}
use Rattle.filter_image_model.proofs.Lists.{by_recursion}
use Rattle.filter_image_model.proofs.RisingBytes.{RisingBytes, rising_bytes}
use Rattle.filter_image_model.proofs.SparseNodes.{AreBytes}
use Rattle.filter_image_model.specs.Levels.{children_of}
use Rattle.filter_image_model.specs.Nodes.{IsDense}
use Rattle.filter_image_model.specs.Reading.{is_no_node, is_no_root, nodes_fault, rises}
use Rattle.filter_model.proofs.Counts.{count_by-cons}
use Rattle.filter_model.specs.Image.{has_letter, label_of}
use Rattle.filter_model.specs.Nodes.{Branch, Node, all, first_place}
use Rattle.filter_model.specs.Trie.{END}
use Rattle.louds_dense.proofs.Ranks.{node_within, ranks_of_node}
use Rattle.louds_dense.specs.Spelling.{IsSpelled}
use Rattle.trie_laws.proofs.Forms.{order-byte}
use Rattle.trie_laws.specs.Louds.{IsNode}
use Rattle.trie_model.specs.Letters.{order_of}

-- ---- node by node

module _ (width : Node → ℕ) (leaves : ℕ) (ns : List Node) where
  abbrev from : ℕ → ℕ → Option Fault
  from place v = nodes_fault width leaves place (drop v ns)

  -- a node that a trie may have
  pub passed : (place v : ℕ) → v < length ns → is_no_node leaves (get_or ns v []) ≡ false → from place v ≡ from (place + width (get_or ns v [])) (v + 1)
  passed place v lt fine =
      at_drop_more (nodes_fault width leaves place) ns v [] lt
      ∙ ap (λ (t : Bool). refuse t place 9 (from (place + width (get_or ns v [])) (v + 1))) fine

  pub stopped : (place v : ℕ) → v < length ns → is_no_node leaves (get_or ns v []) ≡ true → from place v ≡ Some (fault place 9)
  stopped place v lt wrong =
      at_drop_more (nodes_fault width leaves place) ns v [] lt
      ∙ ap (λ (t : Bool). refuse t place 9 (from (place + width (get_or ns v [])) (v + 1))) wrong

  pub ended : (place v : ℕ) → length ns ≤ v → from place v ≡ None
  ended place v le = at_drop_all (nodes_fault width leaves place) ns v le

-- ---- the branches of one node among all

pub next_place : (ns : List Node) (v : ℕ) → v < length ns → first_place ns (v + 1) ≡ first_place ns v + length (get_or ns v [])
next_place ns v lt =
    ap (λ (ms : List Node). length (all ms)) (take_more ns v [] lt)
    ∙ ap length (all_parts (take v ns) (get_or ns v [] ∷ []))
    ∙ length-append (all (take v ns)) (all (get_or ns v [] ∷ []))
    ∙ ap (λ (n : Node). first_place ns v + length n) (append-nil (get_or ns v []))

pub next_children : (ns : List Node) (v : ℕ) → v < length ns → children_of (take (v + 1) ns) ≡ children_of (take v ns) + children_of (get_or ns v [] ∷ [])
next_children ns v lt = ap children_of (take_more ns v [] lt) ∙ children_add (take v ns) (get_or ns v [] ∷ [])

-- ---- dense nodes

module _ {dl dc de : List Bool} {ds : List Node} (d : IsSpelled dl dc de ds) where
  pub branches_to : (v : ℕ) → v ≤ length ds → rank_of dl (256 * v) + rank_of de v ≡ first_place ds v
  branches_to v le = (λ j. rank_of (d.labels_are j) (256 * v) + rank_of (d.ends_are j) v) ∙ (ranks_of_node ds v d.nodes le).letters

  pub children_to : (v : ℕ) → v ≤ length ds → rank_of dc (256 * v) ≡ children_of (take v ds)
  children_to v le = ap (λ (bits : List Bool). rank_of bits (256 * v)) d.children_are ∙ (ranks_of_node ds v d.nodes le).below ∙ before_node ds v

  pub end_at : (v : ℕ) → v < length ds → get_or de v false ≡ has_letter (get_or ds v []) END
  end_at v lt = ap (λ (bits : List Bool). get_or bits v false) d.ends_are ∙ get_or-map (λ (n : Node). has_letter n END) ds v [] false lt

  pub node_dense : (v : ℕ) → v < length ds → IsDense (get_or ds v [])
  node_dense v lt = at ds v d.nodes lt
    where
      at : (ns : List Node) (v : ℕ) → AllByRecursion IsDense ns → v < length ns → IsDense (get_or ns v [])
      at [] v w lt = absurd (omega (arith, lt))
      at (n ∷ ns) zero w lt = w.0
      at (n ∷ ns) (suc v) w lt = at ns v w.1 (omega (arith, lt))

byte_order : (c : ℕ) → c < 256 → order_of c ≡ suc c
byte_order c lt = order-byte c lt

bytes_rise : (c : ℕ) (n : Node) → RisingBytes c n → rises n ≡ true
bytes_rise c [] w = refl
bytes_rise c (b ∷ []) w = refl
bytes_rise c (b ∷ d ∷ n) w =
    and_from (nat_lt (order_of b.0) (order_of d.0)) (rises (d ∷ n)) (lt-ltb (order_of b.0) (order_of d.0) (omega (arith, byte_order b.0 w.1, byte_order d.0 w.2.1, w.2.0))) (bytes_rise (suc b.0) (d ∷ n) w.2)

dense_rises : (n : Node) → IsDense n → rises n ≡ true
dense_rises n w = ap rises w.is ∙ go w.ends w.bytes (rising_bytes w.bytes w.letters w.rising)
  where
    go : (e : Bool) (m : Node) → RisingBytes 0 m → rises (cond e ((END, false) ∷ []) [] ++ m) ≡ true
    go true [] b = refl
    go true (x ∷ m) b = and_from (nat_lt (order_of 256) (order_of x.0)) (rises (x ∷ m)) (lt-ltb (order_of 256) (order_of x.0) (omega (arith, byte_order x.0 b.1))) (bytes_rise 0 (x ∷ m) b)
    go false m b = bytes_rise 0 m b

abbrev has_mark : Node → Bool
has_mark n = list_any (λ (b : Branch). (b.0 == END) && b.1) n

no_mark : (n : Node) → AreBytes n → has_mark n ≡ false
no_mark [] w = refl
no_mark (b ∷ n) w = (λ j. (ne_eqb b.0 256 (λ e. omega (arith, e, w.0)) j && b.1) || no_mark n w.1 j)

rising_are_bytes : (c : ℕ) (n : Node) → RisingBytes c n → AreBytes n
rising_are_bytes c [] w = tt
rising_are_bytes c (b ∷ n) w = (w.1, rising_are_bytes (suc b.0) n w.2)

dense_mark : (n : Node) → IsDense n → has_mark n ≡ false
dense_mark n w = ap has_mark w.is ∙ go w.ends w.bytes (rising_are_bytes 0 w.bytes (rising_bytes w.bytes w.letters w.rising))
  where
    go : (e : Bool) (m : Node) → AreBytes m → has_mark (cond e ((END, false) ∷ []) [] ++ m) ≡ false
    go true m b = no_mark m b
    go false m b = no_mark m b

not_none : (b : Branch) (n : Node) → (length (b ∷ n) == 0) ≡ false
not_none b n = ne_eqb (length (b ∷ n)) 0 (λ e. omega (arith, e))

pub none_is_wrong : (leaves : ℕ) (n : Node) → length n ≡ 0 → true ≡ is_no_node leaves n
none_is_wrong leaves [] e = refl
none_is_wrong leaves (b ∷ n) e = absurd (omega (arith, e))

pub many_are_right : (leaves : ℕ) (n : Node) → IsDense n → 1 < length n → false ≡ is_no_node leaves n
many_are_right leaves [] w more = absurd (omega (arith, more))
many_are_right leaves (b ∷ []) w more = absurd (omega (arith, more))
many_are_right leaves (b ∷ c ∷ n) w more =
    λ j. sym (not_none b (c ∷ n)) j || not (sym (dense_rises (b ∷ c ∷ n) w) j) || sym (dense_mark (b ∷ c ∷ n) w) j || false || (false && nat_lt 1 leaves)

-- a node of one branch
one_by : (leaves k : ℕ) (end child : Bool) → k ≡ cond child 1 0 → ((end && child) || false) ≡ false
    → ((end || false) || ((k == 0) && nat_lt 1 leaves)) ≡ (false || false || ((end && child) || false) || end || (not child && nat_lt 1 leaves))
one_by leaves k true true c e = absurd cc
one_by leaves k true false c e = refl
one_by leaves k false true c e = ap (λ k. (k == 0) && nat_lt 1 leaves) c
one_by leaves k false false c e = ap (λ k. (k == 0) && nat_lt 1 leaves) c

pub one_is : (leaves : ℕ) (n : Node) → IsDense n → length n ≡ 1 → (has_letter n END || ((children_of (n ∷ []) == 0) && nat_lt 1 leaves)) ≡ is_no_node leaves n
one_is leaves [] w e = absurd (omega (arith, e))
one_is leaves (b ∷ []) w e =
    one_by leaves (children_of ((b ∷ []) ∷ [])) (b.0 == END) b.1 (omega (arith, count_by-cons (λ (x : Branch). x.1) b [])) (dense_mark (b ∷ []) w)
one_is leaves (b ∷ c ∷ n) w e = absurd (omega (arith, e))

-- ---- sparse nodes

abbrev labels_of : Node → List ℕ
labels_of n = map (λ (b : Branch). label_of b.0) n

byte_label : (c : ℕ) → c < 256 → label_of c ≡ c
byte_label c lt = ap (λ (t : Bool). cond {A = ℕ} t 255 c) (ne_eqb c 256 (λ e. omega (arith, e, lt)))

next_both : (a b : ℕ) → nat_lt (suc a) (suc b) ≡ nat_lt a b
next_both a b = elim (cases_lt a b) [
  | inl lt ↦ lt-ltb (suc a) (suc b) (omega (arith, lt)) ∙ sym (lt-ltb a b lt)
  | inr ge ↦ le-ltb (suc a) (suc b) (omega (arith, ge)) ∙ sym (le-ltb a b ge)
]

bytes_by_labels : (n : Node) → AreBytes n → rises n ≡ rise (labels_of n)
bytes_by_labels [] w = refl
bytes_by_labels (a ∷ []) w = refl
bytes_by_labels (a ∷ b ∷ n) w =
    (λ j. nat_lt (byte_order a.0 w.0 j) (byte_order b.0 w.1.0 j) && bytes_by_labels (b ∷ n) w.1 j)
    ∙ (λ j. next_both a.0 b.0 j && rise (labels_of (b ∷ n)))
    ∙ (λ j. nat_lt (sym (byte_label a.0 w.0) j) (sym (byte_label b.0 w.1.0) j) && rise (labels_of (b ∷ n)))

-- where END is first, and where a byte is
end_first : (child falls : Bool) → (child || falls) ≡ (falls || (child || false) || false || false)
end_first true true = refl
end_first true false = refl
end_first false true = refl
end_first false false = refl

byte_first : (falls : Bool) → falls ≡ (falls || false || false || false)
byte_first true = refl
byte_first false = refl

end_rises : (a b : Branch) (n : Node) → a.0 ≡ 256 → b.0 < 256 → rises (a ∷ b ∷ n) ≡ rises (b ∷ n)
end_rises a b n e lt = ap (λ (t : Bool). t && rises (b ∷ n)) (lt-ltb (order_of a.0) (order_of b.0) (omega (arith, ap order_of e, byte_order b.0 lt)))

pub wrong_is : (leaves : ℕ) (n : Node) → IsNode n → is_wrong leaves (get_or n 0 (0, false)).1 (labels_of n) ≡ is_no_node leaves n
wrong_is leaves [] w = absurd w
wrong_is leaves (a ∷ []) w =
    ap (λ (t : Bool). false || false || ((t && a.1) || false) || t || (not a.1 && nat_lt 1 leaves)) (sym (ne_eqb a.0 256 (λ e. omega (arith, e, w))))
wrong_is leaves (a ∷ b ∷ n) w =
    let bytes = by_recursion (λ (x : Branch). x.0 < 256) (b ∷ n) w.2 in
    let low = bytes_by_labels (b ∷ n) bytes in
    elim (cases_eq a.0 256) [
      | inl end ↦
          let label : label_of a.0 ≡ 255 = ap (λ (t : Bool). cond {A = ℕ} t 255 a.0) (eq-eqb a.0 256 end) in
          ap (λ c. cond {A = Bool} (c == 255) (a.1 || not (rise (labels_of (b ∷ n)))) (not (nat_lt c (label_of b.0) && rise (labels_of (b ∷ n))))) label
          ∙ end_first a.1 (not (rise (labels_of (b ∷ n))))
          ∙ (λ j. sym (not_none a (b ∷ n)) j || not ((sym low ∙ sym (end_rises a b n end bytes.0)) j) || ((sym (eq-eqb a.0 256 end) j && a.1) || sym (no_mark (b ∷ n) bytes) j) || false || (false && nat_lt 1 leaves))
      | inr byte ↦
          let small : a.0 < 256 = omega (arith, w.0, byte) in
          let label : label_of a.0 ≡ a.0 = byte_label a.0 small in
          let plain : (label_of a.0 == 255) ≡ false = ne_eqb (label_of a.0) 255 (λ e. w.1 (sym label ∙ e)) in
          ap (λ (t : Bool). cond {A = Bool} t (a.1 || not (rise (labels_of (b ∷ n)))) (not (rise (labels_of (a ∷ b ∷ n))))) plain
          ∙ byte_first (not (rise (labels_of (a ∷ b ∷ n))))
          ∙ (λ j. sym (not_none a (b ∷ n)) j || not (sym (bytes_by_labels (a ∷ b ∷ n) (small, bytes)) j) || ((sym (ne_eqb a.0 256 byte) j && a.1) || sym (no_mark (b ∷ n) bytes) j) || false || (false && nat_lt 1 leaves))
    ]

module _ {labels : List ℕ} {children louds : List Bool} {ss : List Node} (s : AreSparse labels children louds ss) where
  pub node_at : (v : ℕ) → v < length ss → IsNode (get_or ss v [])
  node_at v lt = s.nodes v [] lt

  pub some_branch : (v : ℕ) → v < length ss → 0 < length (get_or ss v [])
  some_branch v lt = filled (get_or ss v []) (node_at v lt)
    where
      filled : (n : Node) → IsNode n → 0 < length n
      filled [] w = absurd w
      filled (b ∷ n) w = omega arith

  -- the labels of a node
  pub labels_at : (v : ℕ) → v < length ss → take (first_place ss (v + 1) - first_place ss v) (drop (first_place ss v) labels) ≡ labels_of (get_or ss v [])
  labels_at v lt =
      let n = get_or ss v [] in
      let p = first_place ss v in
      let size : first_place ss (v + 1) - p ≡ length n = omega (arith, next_place ss v lt) in
      let whole : all ss ≡ all (take v ss) ++ (n ++ all (drop (v + 1) ss)) =
      ap all (sym (take-append-drop v ss)) ∙ all_parts (take v ss) (drop v ss) ∙ ap (λ (ms : List Node). all (take v ss) ++ all ms) (drop_more ss v [] lt) in
      let behind : drop p (all ss) ≡ n ++ all (drop (v + 1) ss) = ap (drop p) whole ∙ drop_at (all (take v ss)) (n ++ all (drop (v + 1) ss)) p refl in
      (λ j. take (size j) (drop p (s.labels_are j)))
      ∙ ap (take (length n)) (drop-map (λ (b : Branch). label_of b.0) p (all ss))
      ∙ take-map (λ (b : Branch). label_of b.0) (length n) (drop p (all ss))
      ∙ ap labels_of (ap (take (length n)) behind ∙ take_at n (all (drop (v + 1) ss)) (length n) refl)

  pub child_at : (v : ℕ) → v < length ss → get_or children (first_place ss v) false ≡ (get_or (get_or ss v []) 0 (0, false)).1
  child_at v lt =
      ap (λ (bits : List Bool). get_or bits (first_place ss v) false) s.children_are
      ∙ get_or-map (λ (b : Branch). b.1) (all ss) (first_place ss v) (0, false) false (omega (arith, next_place ss v lt, node_within ss (v + 1) (omega (arith, lt)), some_branch v lt))
      ∙ ap (λ k. (get_or (all ss) k (0, false)).1) (plus_zero (first_place ss v))
      ∙ ap (λ (b : Branch). b.1) (get_or-flat_map (λ (n : Node). n) ss v 0 [] (0, false) lt (some_branch v lt))
    where
      plus_zero : (p : ℕ) → p ≡ p + 0
      plus_zero p = omega arith

-- ---- the root

no_end : (n : Node) → AreBytes n → has_letter n END ≡ false
no_end [] w = refl
no_end (b ∷ n) w = (λ j. ne_eqb b.0 256 (λ e. omega (arith, e, w.0)) j || no_end n w.1 j)

or_none : (t : Bool) → t ≡ (t || false)
or_none true = refl
or_none false = refl

opens_with_end : (n : Node) → IsNode n → (nat_lt 1 (length n) && (label_of (get_or n 0 (0, false)).0 == 255)) ≡ has_letter n END
opens_with_end [] w = absurd w
opens_with_end (a ∷ []) w = sym (no_end (a ∷ []) (w, tt))
opens_with_end (a ∷ b ∷ n) w = elim (cases_eq a.0 256) [
  | inl end ↦
      let is : (a.0 == 256) ≡ true = eq-eqb a.0 256 end in
      (λ j. lt-ltb 1 (length (a ∷ b ∷ n)) (omega arith) j && (cond {A = ℕ} (is j) 255 a.0 == 255)) ∙ (λ j. sym is j || has_letter (b ∷ n) END)
  | inr byte ↦
      let small : a.0 < 256 = omega (arith, w.0, byte) in
      let bytes = by_recursion (λ (x : Branch). x.0 < 256) (b ∷ n) w.2 in
      (λ j. lt-ltb 1 (length (a ∷ b ∷ n)) (omega arith) j && ne_eqb (label_of a.0) 255 (λ e. w.1 (sym (byte_label a.0 small) ∙ e)) j) ∙ sym (no_end (a ∷ b ∷ n) (small, bytes))
]

module _ {labels : List ℕ} {children louds : List Bool} {ss : List Node} (s : AreSparse labels children louds ss) where
  pub sparse_root : (second : ℕ) → second ≡ first_place ss 1 → 0 < length ss → (nat_lt 1 second && (get_or labels 0 0 == 255)) ≡ has_letter (get_or ss 0 []) END
  sparse_root second e some =
      let n = get_or ss 0 [] in
      let size : second ≡ length n = omega (arith, e, next_place ss 0 some) in
      let first : get_or labels 0 0 ≡ label_of (get_or n 0 (0, false)).0 = first_label ss s.labels_are some (some_branch s 0 some) in
      (λ j. nat_lt 1 (size j) && (first j == 255)) ∙ opens_with_end n (node_at s 0 some)
    where
      first_label : (ss : List Node) → labels ≡ map (λ (b : Branch). label_of b.0) (all ss) → 0 < length ss → 0 < length (get_or ss 0 []) → get_or labels 0 0 ≡ label_of (get_or (get_or ss 0 []) 0 (0, false)).0
      first_label [] e some filled = absurd (omega (arith, some))
      first_label ([] ∷ ss) e some filled = absurd (omega (arith, filled))
      first_label ((b ∷ n) ∷ ss) e some filled = ap (λ (ls : List ℕ). get_or ls 0 0) e

-- ---- labels one by one

pub rise_next : (ls : List ℕ) (j : ℕ) → j + 1 < length ls → rise (drop j ls) ≡ (nat_lt (get_or ls j 0) (get_or ls (j + 1) 0) && rise (drop (j + 1) ls))
rise_next ls j lt =
    let rest : drop (j + 1) ls ≡ get_or ls (j + 1) 0 ∷ drop (j + 1 + 1) ls = drop_more ls (j + 1) 0 lt in
    at_drop_more rise ls j 0 (omega (arith, lt))
    ∙ ap (λ (xs : List ℕ). rise (get_or ls j 0 ∷ xs)) rest
    ∙ ap (λ (xs : List ℕ). nat_lt (get_or ls j 0) (get_or ls (j + 1) 0) && rise xs) (sym rest)

pub rise_last : (ls : List ℕ) → length ls ≤ 1 → rise ls ≡ true
rise_last [] le = refl
rise_last (a ∷ []) le = refl
rise_last (a ∷ b ∷ ls) le = absurd (omega (arith, le))

pub rise_step : (ls : List ℕ) (i : ℕ) → 1 ≤ i → i < length ls → rise (drop (i - 1) ls) ≡ (nat_lt (get_or ls (i - 1) 0) (get_or ls i 0) && rise (drop i ls))
rise_step ls i some lt =
    let e : i - 1 + 1 ≡ i = omega (arith, some) in
    rise_next ls (i - 1) (omega (arith, some, lt)) ∙ ap (λ k. nat_lt (get_or ls (i - 1) 0) (get_or ls k 0) && rise (drop k ls)) e

-- ---- tests, by what they look at

pub wrong_one : (leaves : ℕ) (leads_on : Bool) (ls : List ℕ) → length ls ≡ 1 → is_wrong leaves leads_on ls ≡ (not leads_on && nat_lt 1 leaves)
wrong_one leaves leads_on [] e = absurd (omega (arith, e))
wrong_one leaves leads_on (a ∷ []) e = refl
wrong_one leaves leads_on (a ∷ b ∷ ls) e = absurd (omega (arith, e))

pub wrong_more : (leaves : ℕ) (leads_on : Bool) (ls : List ℕ) → 1 < length ls → is_wrong leaves leads_on ls ≡ cond (get_or ls 0 0 == 255) (leads_on || not (rise (drop 1 ls))) (not (rise ls))
wrong_more leaves leads_on [] more = absurd (omega (arith, more))
wrong_more leaves leads_on (a ∷ []) more = absurd (omega (arith, more))
wrong_more leaves leads_on (a ∷ b ∷ ls) more = refl

pub not_one : (leaves : ℕ) (n : Node) (k : ℕ) → IsDense n → k ≡ length n → (k ≡ 1 → ⊥) → (k == 0) ≡ is_no_node leaves n
not_one leaves [] k w e ne = ap (λ k. k == 0) e
not_one leaves (b ∷ []) k w e ne = absurd (ne e)
not_one leaves (b ∷ c ∷ n) k w e ne = ne_eqb k 0 (λ z. omega (arith, z, e)) ∙ many_are_right leaves (b ∷ c ∷ n) w (omega arith)

pub root_is : (height leaves : ℕ) (ns : List Node) → 0 < length ns → is_no_root height leaves ns ≡ (has_letter (get_or ns 0 []) END || (nat_lt 1 height && (leaves == 1)))
root_is height leaves [] some = absurd (omega (arith, some))
root_is height leaves (n ∷ ns) some = refl

pub root_of_first : (ds ss : List Node) → 0 < length ds → get_or (ds ++ ss) 0 [] ≡ get_or ds 0 []
root_of_first ds ss some = get_or_append_left ds ss [] 0 some

pub root_of_second : (ds ss : List Node) → length ds ≡ 0 → ds ++ ss ≡ ss
root_of_second [] ss e = refl
root_of_second (d ∷ ds) ss e = absurd (omega (arith, e))

-- ---- one sparse node, by its place among the labels

module _ {labels : List ℕ} {children louds : List Bool} {ss : List Node} (s : AreSparse labels children louds ss)
    (v start end : ℕ) (ls : List ℕ) (lt : v < length ss) (start_is : start ≡ first_place ss v) (end_is : end ≡ first_place ss (v + 1)) (ls_are : ls ≡ labels) where
  part : take (end - start) (drop start ls) ≡ labels_of (get_or ss v [])
  part = (λ j. take (end_is j - start_is j) (drop (start_is j) (ls_are j))) ∙ labels_at s v lt

  pub part_some : 0 < length (take (end - start) (drop start ls))
  part_some = omega (arith, ap length part, length-map (get_or ss v []) (λ (b : Branch). label_of b.0), some_branch s v lt)

  pub part_order : start < end
  part_order = omega (arith, start_is, end_is, next_place ss v lt, some_branch s v lt)

  pub part_within : end ≤ length ls
  part_within = omega (arith, end_is, ap length ls_are, labels_count s, node_within ss (v + 1) (omega (arith, lt)))

  pub children_within : start < length children
  children_within = omega (arith, part_order, part_within, ap length ls_are, labels_count s, children_count s)

  pub judged : (leaves : ℕ) (leads_on : Bool) (cs : List Bool) → cs ≡ children → leads_on ≡ get_or cs start false
      → is_wrong leaves leads_on (take (end - start) (drop start ls)) ≡ is_no_node leaves (get_or ss v [])
  judged leaves leads_on cs cs_are leads =
      let first : leads_on ≡ (get_or (get_or ss v []) 0 (0, false)).1 = leads ∙ (λ j. get_or (cs_are j) (start_is j) false) ∙ child_at s v lt in
      (λ j. is_wrong leaves (first j) (part j)) ∙ wrong_is leaves (get_or ss v []) (node_at s v lt)
