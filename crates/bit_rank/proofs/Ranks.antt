-- Ranks by words and blocks.
use Rattle.std.proofs.Common.{◌≡◌, ℕ, ◌+◌, ◌*◌, ◌/◌, ◌%◌, ◌^◌, ◌<◌, ◌≤◌, Bool, List, length, get_or, take, drop, cond, ◌==◌, count_by, slice_range, ap, sym, ◌∙◌, arith, lit<, inl, inr, le_refl, refl, false}
use Rattle.std.specs.Int.{bit_at}
use Rattle.std.specs.Int.RustNames.{count_ones}
use Rattle.std.specs.List.{sum_by}
use Rattle.std.proofs.Math.Nat.{mod-eq_of_lt}
use Rattle.std.proofs.lemmas.Bool.{cases_eq, eq-eqb, ne_eqb}
use Rattle.std.proofs.lemmas.List.{get_or_read, take_all}
use Rattle.std.proofs.lemmas.List.FromFn.{get_or-map-range_with_len, length-map-range_with_len}
use Rattle.bit_words.specs.Counts.{rank_of}
use Rattle.bit_model.specs.Packed.{packed}
use Rattle.bit_words.proofs.Counting.{rank-add, ones_range, ones_in_words, ones_in_word, words_cover}
use Rattle.bit_words.proofs.Packing.{packed-lt, packed_bit-packed}
use Rattle.bit_rank.specs.Blocks.{block_ranks}
use Rattle.bit_rank.specs.Words.{IsWordOf}
use Rattle.bit_rank.specs.declared.word.RankedWord.{RankedWord}

-- all of a word
ones_of_word : (bits : List Bool) (words : List ℕ) (k : ℕ) → words ≡ packed 64 bits → count_ones (get_or words k 0) ≡ rank_of (drop (64 * k) bits) 64
ones_of_word bits words k held =
    let fits : get_or words k 0 < 2 ^ 64 = rw held (packed-lt 64 bits k (lit< tt)) in
    ap count_ones (sym (mod-eq_of_lt fits)) ∙ ones_in_word bits words k 64 held (le_refl 64)

-- a kept count and the word of the block before that of the place
pub first_word : (bits : List Bool) (words : List ℕ) (i : ℕ) → words ≡ packed 64 bits
    → rank_of bits (128 * (i / 128)) + cond (i / 64 % 2 == 1) (count_ones (get_or words (2 * (i / 128)) 0)) 0 ≡ rank_of bits (64 * (i / 64))
first_word bits words i held = elim (cases_eq (i / 64 % 2) 1) [
  | inl odd ↦
      let first : 64 * (2 * (i / 128)) ≡ 128 * (i / 128) = omega arith in
      let here : 64 * (2 * (i / 128)) + 64 ≡ 64 * (i / 64) = omega (arith, odd) in
      omega (
        arith,
        ap (λ (t : Bool). cond t (count_ones (get_or words (2 * (i / 128)) 0)) 0) (eq-eqb _ _ odd),
        ones_of_word bits words (2 * (i / 128)) held,
        rank-add bits (64 * (2 * (i / 128))) 64,
        ap (rank_of bits) first,
        ap (rank_of bits) here,
      )
  | inr even ↦
      let here : 128 * (i / 128) ≡ 64 * (i / 64) = omega (arith, even) in
      omega (arith, ap (λ (t : Bool). cond t (count_ones (get_or words (2 * (i / 128)) 0)) 0) (ne_eqb _ _ even), ap (rank_of bits) here)
]

-- the set bits before a place and the bit itself, by the word that holds it
pub word_rank : (bits : List Bool) (w : RankedWord) (i : ℕ) → IsWordOf bits w → w.number ≡ i / 64
    → w.before + count_ones (w.word % 2 ^ (i % 64)) ≡ rank_of bits i
word_rank bits w i of number =
    let part : 64 * (i / 64) + i % 64 ≡ i = omega arith in
    let within : i % 64 ≤ 64 = omega arith in
    omega (
      arith,
      of.before,
      ap (λ (k : ℕ). rank_of bits (64 * k)) number,
      ap (λ (n : ℕ). count_ones (n % 2 ^ (i % 64))) (of.word ∙ ap (λ (k : ℕ). get_or (packed 64 bits) k 0) number),
      ones_in_word bits (packed 64 bits) (i / 64) (i % 64) refl within,
      rank-add bits (64 * (i / 64)) (i % 64),
      ap (rank_of bits) part,
    )

pub word_bit : (bits : List Bool) (w : RankedWord) (i : ℕ) → IsWordOf bits w → w.number ≡ i / 64
    → (bit_at w.word (i % 64) == 1) ≡ get_or bits i false
word_bit bits w i of number =
    ap (λ (n : ℕ). bit_at n (i % 64) == 1) (of.word ∙ ap (λ (k : ℕ). get_or (packed 64 bits) k 0) number)
    ∙ packed_bit-packed 64 bits i (lit< tt)

-- a kept count and all words after it
pub ones_behind : (bits : List Bool) (words : List ℕ) (i : ℕ) → words ≡ packed 64 bits → 2 * (i / 128) ≤ length words
    → rank_of bits (128 * (i / 128)) + sum_by count_ones (slice_range words (2 * (i / 128)) (length words)) ≡ count_by (λ (bit : Bool). bit) bits
ones_behind bits words i held ordered =
    let first : 64 * (2 * (i / 128)) ≡ 128 * (i / 128) = omega arith in
    let cover : length bits ≤ 64 * length words = words_cover bits words (length bits) held (le_refl (length bits)) in
    omega (
      arith,
      ap (rank_of bits) first,
      ones_in_words bits words (2 * (i / 128)) held,
      ones_range words (2 * (i / 128)) (length words) ordered,
      ones_in_words bits words (length words) held,
      ap (count_by (λ (bit : Bool). bit)) (take_all (64 * length words) bits cover),
    )

pub length-block_ranks : (size : ℕ) (bits : List Bool) → length (block_ranks size bits) ≡ length bits / size + 1
unfolding block_ranks
length-block_ranks size bits = length-map-range_with_len (λ k. rank_of bits (size * k)) 0 (length bits / size + 1)

pub get_or-block_ranks : (size : ℕ) (bits : List Bool) (k : ℕ) → k < length bits / size + 1 → get_or (block_ranks size bits) k 0 ≡ rank_of bits (size * k)
unfolding block_ranks
get_or-block_ranks size bits k h = get_or-map-range_with_len (λ k. rank_of bits (size * k)) 0 (length bits / size + 1) k k 0 h (omega arith)

-- what a read of the counts gives
pub kept_count : (bits : List Bool) (counts : List ℕ) (i x : ℕ) → counts ≡ block_ranks 128 bits → i ≤ length bits
    → x ≡ get_or counts (i / 128) x → x ≡ rank_of bits (128 * (i / 128))
kept_count bits counts i x held within read =
    let place : i / 128 < length bits / 128 + 1 = omega arith in
    get_or_read counts (i / 128) x (omega (arith, ap length held, length-block_ranks 128 bits)) read 0
    ∙ ap (λ (ns : List ℕ). get_or ns (i / 128) 0) held ∙ get_or-block_ranks 128 bits (i / 128) place

-- one more block
pub block_added : (bits : List Bool) (words : List ℕ) (k count block : ℕ) → words ≡ packed 64 bits → count ≡ rank_of bits (128 * k)
    → sum_by count_ones (take (2 * k) words) + block ≡ sum_by count_ones (take (2 * k + 2) words) → count + block ≡ rank_of bits (128 * (k + 1))
block_added bits words k count block held counted added =
    let here : 64 * (2 * k) ≡ 128 * k = omega arith in
    let next : 64 * (2 * k + 2) ≡ 128 * (k + 1) = omega arith in
    omega (arith, ones_in_words bits words (2 * k) held, ones_in_words bits words (2 * k + 2) held, ap (rank_of bits) here, ap (rank_of bits) next)
