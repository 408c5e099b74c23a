-- The places kept, word by word.
use Rattle.std.proofs.Common.{◌≡◌, ℕ, ◌+◌, ◌*◌, ◌%◌, ◌^◌, ◌<◌, ◌≤◌, Bool, List, [], ◌∷◌, ◌++◌, length, get_or, take, sym, ap, ◌∙◌, arith, inl, inr}
use Rattle.std.proofs.Math.Nat.{le_refl}
use Rattle.std.specs.Int.{bit_at, div_ceil}
use Rattle.std.specs.Int.RustNames.{count_ones}
use Rattle.std.specs.List.{count_by}
use Rattle.std.proofs.lemmas.List.{get_or_append_left, get_or_push, length_push, take_all}
use Rattle.std.proofs.lemmas.List.Sums.{sum_by_more}
use Rattle.std.proofs.lemmas.Bool.{cases_lt}
use Rattle.bit_words.specs.Counts.{rank_of}
use Rattle.bit_model.specs.Packed.{packed}
use Rattle.bit_words.proofs.Counting.{ones_in_words, words_cover}
use Rattle.bit_select.specs.Place.{IsSampled}
use Rattle.bit_select.proofs.Selecting.{placed}

-- the set bits of one word more
pub rank_more : (bits : List Bool) (words : List ℕ) (i : ℕ) → words ≡ packed 64 bits → i < length words
    → rank_of bits (64 * (i + 1)) ≡ rank_of bits (64 * i) + count_ones (get_or words i 0)
rank_more bits words i held below =
    omega (arith, ones_in_words bits words i held, ones_in_words bits words (i + 1) held, sum_by_more count_ones words i 0 below)

pub sampled_none : (bits : List Bool) → IsSampled 64 bits (64 * 0) []
sampled_none bits = record {
  all = omega arith;
  each = λ k below. absurd (omega arith);
}

pub sampled_push : (bits : List Bool) (words : List ℕ) (samples : List ℕ) (i q : ℕ) → words ≡ packed 64 bits → i < length words
    → IsSampled 64 bits (64 * i) samples → count_ones (get_or words i 0) ≤ 64
    → 64 * length samples < rank_of bits (64 * i) + count_ones (get_or words i 0) → q < 64 → bit_at (get_or words i 0) q ≡ 1
    → rank_of bits (64 * i) + count_ones (get_or words i 0 % 2 ^ q) ≡ 64 * length samples
    → IsSampled 64 bits (64 * (i + 1)) (samples ++ (64 * i + q) ∷ [])
sampled_push bits words samples i q held below kept few due low set before = record {
  all = omega (arith, kept.all, rank_more bits words i held below, length_push samples (64 * i + q));
  each = λ k there. elim (cases_lt k (length samples)) [
    | inl old ↦ rw (get_or_append_left samples ((64 * i + q) ∷ []) 0 k old) (kept.each k old)
    | inr new ↦
        let last : length samples ≡ k = omega (arith, length_push samples (64 * i + q)) in
        rw (get_or_push samples (64 * i + q) 0 k last, ← last) (placed bits words (64 * length samples) i q held low set before)
  ];
}

pub sampled_pass : (bits : List Bool) (words : List ℕ) (samples : List ℕ) (i : ℕ) → words ≡ packed 64 bits → i < length words
    → IsSampled 64 bits (64 * i) samples → rank_of bits (64 * i) + count_ones (get_or words i 0) ≤ 64 * length samples
    → IsSampled 64 bits (64 * (i + 1)) samples
sampled_pass bits words samples i held below kept early = record {
  all = omega (arith, kept.all, rank_more bits words i held below);
  each = kept.each;
}

pub sampled_all : (bits : List Bool) (words : List ℕ) (samples : List ℕ) (i : ℕ) → words ≡ packed 64 bits → length words ≤ i
    → IsSampled 64 bits (64 * i) samples → IsSampled 64 bits (length bits) samples
sampled_all bits words samples i held end kept =
    let cover = words_cover bits words (length bits) held (le_refl (length bits)) in
    let whole : take (length bits) bits ≡ take (64 * i) bits = take_all (length bits) bits (le_refl (length bits)) ∙ sym (take_all (64 * i) bits (omega arith)) in
    record {
      all = kept.all ∙ ap (λ (bs : List Bool). div_ceil (count_by (λ (bit : Bool). bit) bs) 64) (sym whole);
      each = kept.each;
    }
