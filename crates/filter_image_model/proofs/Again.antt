-- The image of nodes and suffixes keeps the rules on the bytes alone, and is read as it was written.
use Rattle.std.proofs.Common.{◌≡◌, ℕ, zero, suc, ◌+◌, ◌*◌, ◌<◌, ◌≤◌, ◌/◌, ◌^◌, Bool, true, false, cond, List, [], ◌∷◌, ◌++◌, length, map, refl, sym, ap, ◌∙◌, arith, lit<}
use Rattle.std.specs.Prelude.{not, ◌&&◌, ◌||◌, ◌==◌, None, Some, Option, zip, position, flat_map}
use Rattle.std.specs.List.{AllByRecursion, position_or_len, range_with_len}
use Rattle.std.specs.Int.{bytes_low_first, byte_at}
use Rattle.std.proofs.Math.Nat.{mod-lt}
use Rattle.std.proofs.lemmas.List.{length-append, map-append}
use Rattle.std.proofs.lemmas.Bool.{eq-eqb, le-ltb, ne_eqb}
use Rattle.bit_model.specs.Packed.{packed}
use Rattle.bit_words.proofs.Packing.{packed-lt}
use Rattle.byteorder.specs.Endian.{little_bytes}
use Rattle.byte_fields.specs.Spelling.{IsBytes}
use Rattle.byte_fields.proofs.NumberLemmas.{number_again}
use Rattle.filter_model.proofs.Fronts.{IsBytes-nil, IsBytes-cons, IsBytes-append}
use Rattle.filter_model.specs.Image.{row, has_letter, has_child, label_of, opening, dense_labels, dense_children, sparse_labels, sparse_louds}
use Rattle.filter_model.specs.Nodes.{Branch, Node, all}
use Rattle.filter_image_model.specs.Header.{Bytes, hash_bits_in, real_bits_in, cutoff_in, height_in, leaf_count_in, dense_count_in, sparse_count_in, label_count_in}
use Rattle.filter_image_model.proofs.Lists.{by_recursion, length-map}
use Rattle.filter_image_model.proofs.SparseNodes.{AreBytes}
use Rattle.trie_laws.specs.Louds.{IsNode}
use Rattle.filter_image_model.specs.Reading.{is_stray, begins_clear}
use Rattle.filter_image_model.specs.Sections.{image_head}

-- ---- bytes

low_bytes : (i k n : ℕ) → IsBytes (bytes_low_first i k n)
low_bytes i zero n = IsBytes-nil
low_bytes i (suc k) n = IsBytes-cons (byte_at i n) (bytes_low_first (suc i) k n) (low i n) (low_bytes (suc i) k n)
  where
    low : (i n : ℕ) → byte_at i n < 256
    low zero n = mod-lt n (lit< tt)
    low (suc i) n = mod-lt (n / 256 ^ suc i) (lit< tt)

pub little-IsBytes : (w n : ℕ) → IsBytes (little_bytes w n)
little-IsBytes w n = low_bytes 0 w n

pub packed-IsBytes : (bits : List Bool) → IsBytes (packed 8 bits)
packed-IsBytes bits k = packed-lt 8 bits k (lit< tt)

-- ---- lengths of the sections

length-row : (f : ℕ → Bool) → length (row f) ≡ 256
unfolding row
length-row f = length-map f (range_with_len 0 256)

pub length-rows : (f : Node → ℕ → Bool) (ns : List Node) → length (flat_map (λ (n : Node). row (f n)) ns) ≡ 256 * length ns
length-rows f [] = refl
length-rows f (n ∷ ns) = length-append (row (f n)) (flat_map (λ (m : Node). row (f m)) ns) ∙ omega (arith, length-row (f n), length-rows f ns)

length-opening : (n : Node) → length (opening n) ≡ length n
length-opening [] = refl
length-opening (b ∷ n) = omega (arith, length-map (λ (x : Branch). false) n)

pub length-louds : (ns : List Node) → length (sparse_louds ns) ≡ length (all ns)
length-louds [] = refl
length-louds (n ∷ ns) =
    length-append (opening n) (sparse_louds ns) ∙ omega (arith, length-opening n, length-louds ns, length-append n (all ns))

-- ---- labels of sparse nodes

label_bytes : (n : Node) → AreBytes n → IsBytes (map (λ (b : Branch). label_of b.0) n)
label_bytes [] w = IsBytes-nil
label_bytes (b ∷ n) w = IsBytes-cons (label_of b.0) (map (λ (x : Branch). label_of x.0) n) (small b.0 w.0) (label_bytes n w.1)
  where
    small : (c : ℕ) → c < 256 → label_of c < 256
    small c l = rw (ne_eqb c 256 (λ e. omega (arith, l, e))) l

first_label : (c : ℕ) → c ≤ 256 → label_of c < 256
first_label c l = elim (c == 256) as (λ t. (c == 256) ≡ t → cond {A = ℕ} t 255 c < 256) [
  | true ↦ λ e. lit< tt
  | false ↦ λ e. below c l e
] refl
  where
    below : (c : ℕ) → c ≤ 256 → (c == 256) ≡ false → c < 256
    below c l e = omega (arith, l, (λ (x : c ≡ 256). differs (sym e ∙ eq-eqb c 256 x)))
      where
        differs : false ≡ true → ⊥
        differs x = cc

node_labels : (n : Node) → IsNode n → IsBytes (map (λ (b : Branch). label_of b.0) n)
node_labels [] w = IsBytes-nil
node_labels (a ∷ []) w = label_bytes (a ∷ []) (w, tt)
node_labels (a ∷ b ∷ n) w = IsBytes-cons (label_of a.0) (map (λ (x : Branch). label_of x.0) (b ∷ n)) (first_label a.0 w.0) (label_bytes (b ∷ n) (by_recursion (λ (x : Branch). x.0 < 256) (b ∷ n) w.2))

pub labels-IsBytes : (ns : List Node) → AllByRecursion IsNode ns → IsBytes (sparse_labels ns)
labels-IsBytes [] w = IsBytes-nil
labels-IsBytes (n ∷ ns) w = rw (map-append (λ (b : Branch). label_of b.0) n (all ns)) (IsBytes-append (map (λ (b : Branch). label_of b.0) n) (sparse_labels ns) (node_labels n w.0) (labels-IsBytes ns w.1))

-- ---- the header

module _ (hash_bits real_bits cutoff height leaves dense sparse labels : ℕ) (rest : Bytes) where
  abbrev pub framed : Bytes
  framed = image_head hash_bits real_bits cutoff height leaves dense sparse labels ++ rest

  abbrev pub after_dense : Bytes
  after_dense = little_bytes 8 sparse ++ (little_bytes 8 labels ++ rest)

  abbrev pub after_cutoff : Bytes
  after_cutoff = little_bytes 2 height ++ (little_bytes 4 leaves ++ (little_bytes 8 dense ++ after_dense))

  pub hash_again : hash_bits_in framed ≡ hash_bits
  hash_again = refl

  pub real_again : real_bits_in framed ≡ real_bits
  real_again = refl

  pub cutoff_again : cutoff < 2 ^ 16 → cutoff_in framed ≡ cutoff
  cutoff_again lt = number_again 2 cutoff after_cutoff lt

  pub height_again : height < 2 ^ 16 → height_in framed ≡ height
  height_again lt = number_again 2 height (little_bytes 4 leaves ++ (little_bytes 8 dense ++ after_dense)) lt

  pub leaves_again : leaves < 2 ^ 32 → leaf_count_in framed ≡ leaves
  leaves_again lt = number_again 4 leaves (little_bytes 8 dense ++ after_dense) lt

  pub dense_again_is : dense < 2 ^ 64 → dense_count_in framed ≡ dense
  dense_again_is lt = number_again 8 dense after_dense lt

  pub sparse_again_is : sparse < 2 ^ 64 → sparse_count_in framed ≡ sparse
  sparse_again_is lt = number_again 8 sparse (little_bytes 8 labels ++ rest) lt

  pub labels_again : labels < 2 ^ 64 → label_count_in framed ≡ labels
  labels_again lt = number_again 8 labels rest lt

-- ---- strays

letter_of_child : (n : Node) (c : ℕ) → (not (has_letter n c) && has_child n c) ≡ false
letter_of_child [] c = refl
letter_of_child (b ∷ n) c = elim (b.0 == c) as (λ t. (not (t || has_letter n c) && ((t && b.1) || has_child n c)) ≡ false) [
  | true ↦ refl
  | false ↦ letter_of_child n c
]

abbrev NoneStray : List Bool → List Bool → Type 0
NoneStray ls cs = AllByRecursion (λ (b : Bool × Bool). is_stray b ≡ false) (zip ls cs)

row_strays : (n : Node) (xs : List ℕ) → NoneStray (map (has_letter n) xs) (map (has_child n) xs)
row_strays n [] = tt
row_strays n (c ∷ xs) = (letter_of_child n c, row_strays n xs)

strays_append : (a b c d : List Bool) → length a ≡ length b → NoneStray a b → NoneStray c d → NoneStray (a ++ c) (b ++ d)
strays_append [] [] c d e v w = w
strays_append [] (y ∷ b) c d e v w = absurd (omega (arith, e))
strays_append (x ∷ a) [] c d e v w = absurd (omega (arith, e))
strays_append (x ∷ a) (y ∷ b) c d e v w = (v.0, strays_append a b c d (omega (arith, e)) v.1 w)

pub dense_strays : (ns : List Node) → NoneStray (dense_labels ns) (dense_children ns)
unfolding row
dense_strays [] = tt
dense_strays (n ∷ ns) =
    strays_append (map (has_letter n) (range_with_len 0 256)) (map (has_child n) (range_with_len 0 256)) (dense_labels ns) (dense_children ns)
    (length-map (has_letter n) (range_with_len 0 256) ∙ sym (length-map (has_child n) (range_with_len 0 256))) (row_strays n (range_with_len 0 256)) (dense_strays ns)

all_pass : {X : Type 0} (p : X → Bool) (xs : List X) → AllByRecursion (λ x. p x ≡ false) xs → position_or_len p xs ≡ length xs
all_pass p [] w = refl
all_pass p (x ∷ xs) w = ap (λ (t : Bool). cond {A = ℕ} (not t) (1 + position_or_len p xs) 0) w.0 ∙ omega (arith, all_pass p xs w.1)

pub nowhere_found : {X : Type 0} (p : X → Bool) (xs : List X) → AllByRecursion (λ x. p x ≡ false) xs → position p xs ≡ None
nowhere_found p xs w =
    ap (λ (t : Bool). cond {A = Option ℕ} t (Some (position_or_len p xs)) None) (le-ltb (position_or_len p xs) (length xs) (omega (arith, all_pass p xs w)))

-- ---- opening bits

pub begins_set : (ns : List Node) → AllByRecursion IsNode ns → begins_clear (sparse_louds ns) ≡ false
begins_set [] w = refl
begins_set ([] ∷ ns) w = absurd w.0
begins_set ((b ∷ n) ∷ ns) w = refl
