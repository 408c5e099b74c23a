-- From a kept place to the wanted one.
use Rattle.std.proofs.Common.{◌≡◌, ℕ, ◌+◌, ◌*◌, ◌/◌, ◌%◌, ◌^◌, ◌<◌, ◌≤◌, Bool, true, false, eqb, List, length, get_or, take, drop, sym, ap, ◌∙◌, arith, inl, inr, lit<, add-zero}
use Rattle.std.proofs.Math.Nat.{le_refl}
use Rattle.std.proofs.Math.Seq.{take-add}
use Rattle.std.specs.Int.{bit_at}
use Rattle.std.specs.Int.RustNames.{count_ones}
use Rattle.std.specs.List.{sum_by, count_by}
use Rattle.std.proofs.lemmas.List.{get_or_past, get_or_read, get_or-drop, take_all}
use Rattle.std.proofs.lemmas.List.Sums.{sum_by-append, sum_by-take-drop}
use Rattle.std.proofs.lemmas.Bool.{cases_lt, false≢true}
use Rattle.lane_scan.specs.Ones.{IsWordOfOne, ones_before}
use Rattle.bit_words.specs.Counts.{rank_of}
use Rattle.bit_model.specs.Packed.{packed, packed_bit}
use Rattle.bit_words.proofs.Packing.{packed_bit-packed, word_place-lt}
use Rattle.bit_words.proofs.Counting.{rank-add, ones_in_words, ones_in_word, words_cover}
use Rattle.bit_select.specs.Place.{IsPlaceOfOne, IsSampled, IsStart, ones_to}
use Rattle.bit_select.specs.declared.selected.Start.{Start}

-- a set bit is one of the bits
pub set-lt : (bits : List Bool) (place : ℕ) → get_or bits place false ≡ true → place < length bits
set-lt bits place set =
    elim (cases_lt place (length bits)) [
      | inl below ↦ below
      | inr past ↦ absurd (false≢true (sym (get_or_past bits place false past) ∙ set))
    ]

-- the search may begin at the word of a kept place
pub start : (bits : List Bool) (words : List ℕ) (n sample number : ℕ) → words ≡ packed 64 bits → IsPlaceOfOne bits (64 * (n / 64)) sample
    → number ≡ n % 64 + count_ones (get_or words (sample / 64) 0 % 2 ^ (sample % 64)) → IsStart bits n (record { word = sample / 64; number = number })
start bits words n sample number held place is =
    let inside = set-lt bits sample place.is_set in
    let part : 64 * (sample / 64) + sample % 64 ≡ sample = omega arith in
    record {
      there = omega (arith, inside);
      rank =
          omega (
            arith,
            is,
            place.before,
            ones_in_word bits words (sample / 64) (sample % 64) held (omega arith),
            rank-add bits (64 * (sample / 64)) (sample % 64),
            ap (rank_of bits) part,
          );
    }

-- a word of the bits is one of the words
pub word_there : (bits : List Bool) (words : List ℕ) (first : ℕ) → words ≡ packed 64 bits → 64 * first < length bits → first < length words
word_there bits words first held l = let is : 64 * first / 64 ≡ first = omega arith in omega (arith, word_place-lt bits words (64 * first) held l, is)

pub ones_all : (bits : List Bool) (words : List ℕ) → words ≡ packed 64 bits → sum_by count_ones words ≡ count_by (λ bit. bit) bits
ones_all bits words held =
    let cover = words_cover bits words (length bits) held (le_refl (length bits)) in
    sym (ap (sum_by count_ones) (take_all (length words) words (le_refl (length words))))
    ∙ ones_in_words bits words (length words) held ∙ ap (count_by (λ (bit : Bool). bit)) (take_all (64 * length words) bits cover)

pub absent : (bits : List Bool) (words : List ℕ) (n : ℕ) (s : Start) → words ≡ packed 64 bits → IsStart bits n s
    → sum_by count_ones (drop s.word words) ≤ s.number → count_by (λ bit. bit) bits ≤ n
absent bits words n s held start few =
    omega (arith, start.rank, ones_all bits words held, ones_in_words bits words s.word held, sum_by-take-drop count_ones words s.word)

-- the set bits of the words before one are those before an earlier one and those behind
pub ones_behind : (words : List ℕ) (first word : ℕ) → ones_before words (first + word) ≡ ones_before words first + ones_before (drop first words) word
ones_behind words first word = ap (sum_by count_ones) (take-add first word words) ∙ sum_by-append count_ones (take first words) (take word (drop first words))

-- a set bit of a word is a set bit of the list
pub placed : (bits : List Bool) (words : List ℕ) (n i q : ℕ) → words ≡ packed 64 bits → q < 64 → bit_at (get_or words i 0) q ≡ 1
    → rank_of bits (64 * i) + count_ones (get_or words i 0 % 2 ^ q) ≡ n → IsPlaceOfOne bits n (64 * i + q)
placed bits words n i q held low set before =
    let number : (64 * i + q) / 64 ≡ i = omega arith in
    let place : (64 * i + q) % 64 ≡ q = omega arith in
    let here : packed_bit 64 words (64 * i + q) ≡ true =
    ap (λ (k : ℕ). eqb (bit_at (get_or words k 0) ((64 * i + q) % 64)) 1) number
    ∙ ap (λ (k : ℕ). eqb (bit_at (get_or words i 0) k) 1) place ∙ ap (λ (k : ℕ). eqb k 1) set in
    record {
      is_set = sym (packed_bit-packed 64 bits (64 * i + q) (lit< tt)) ∙ ap (λ (ns : List ℕ). packed_bit 64 ns (64 * i + q)) (sym held) ∙ here;
      before = omega (arith, rank-add bits (64 * i) q, ones_in_word bits words i q held (omega arith), before);
    }

pub found : (bits : List Bool) (words : List ℕ) (n first number word left q : ℕ) → words ≡ packed 64 bits → rank_of bits (64 * first) + number ≡ n
    → IsWordOfOne (drop first words) number word left → q < 64
    → bit_at (get_or (drop first words) word 0) q ≡ 1 → count_ones (get_or (drop first words) word 0 % 2 ^ q) ≡ left
    → IsPlaceOfOne bits n (64 * (first + word) + q)
found bits words n first number word left q held rank at low set before =
    let there : get_or (drop first words) word 0 ≡ get_or words (first + word) 0 = get_or-drop first words word 0 in
    placed bits words n (first + word) q held low (ap (λ (k : ℕ). bit_at k q) (sym there) ∙ set)
    (omega (
      arith,
      ap (λ (k : ℕ). count_ones (k % 2 ^ q)) there,
      before,
      ones_in_words bits words (first + word) held,
      ones_in_words bits words first held,
      ones_behind words first word,
      at.before,
      rank,
    ))

-- what is set in other words before the same place
pub along_to : (along : List ℕ) (first word q b c : ℕ) → q < 64 → b ≡ ones_before (drop first along) word → c ≡ count_ones (get_or (drop first along) word 0 % 2 ^ q)
    → ones_before along first + (b + c) ≡ ones_to along (64 * (first + word) + q)
along_to along first word q b c low before inside =
    let number : (64 * (first + word) + q) / 64 ≡ first + word = omega (arith, low) in
    let place : (64 * (first + word) + q) % 64 ≡ q = omega (arith, low) in
    let here : ones_to along (64 * (first + word) + q) ≡ ones_before along (first + word) + count_ones (get_or along (first + word) 0 % 2 ^ q) =
    λ i. ones_before along (number i) + count_ones (get_or along (number i) 0 % 2 ^ place i) in
    omega (arith, here, before, inside, ones_behind along first word, ap (λ (n : ℕ). count_ones (n % 2 ^ q)) (get_or-drop first along word 0))

-- what a read of the kept places gives
pub sampled : (bits : List Bool) (end : ℕ) (samples : List ℕ) (k x : ℕ) → IsSampled 64 bits end samples → k < length samples
    → x ≡ get_or samples k x → IsPlaceOfOne bits (64 * k) x
sampled bits end samples k x kept below read =
    let same : x ≡ get_or samples k 0 = get_or_read samples k x below read 0 in
    rw same (kept.each k below)

pub rest_read : (words : List ℕ) (first : ℕ) → get_or (drop first words) 0 0 ≡ get_or words first 0
rest_read words first = get_or-drop first words 0 0 ∙ ap (λ (k : ℕ). get_or words k 0) (add-zero first)
