-- Searches of words as searches of the bits that they hold.
use Rattle.std.proofs.Common.{◌≡◌, ℕ, ◌+◌, ◌*◌, ◌<◌, ◌≤◌, Bool, true, false, List, Option, Some, None, MatchOption, length, get_or, sym, ap, ◌∙◌, arith, inl, inr, lit<}
use Rattle.std.proofs.Math.Nat.{le_refl}
use Rattle.std.specs.Slice.Scan.{HoldsNowhere}
use Rattle.std.proofs.lemmas.List.{get_or_past}
use Rattle.std.proofs.lemmas.Bool.{cases_lt, false≢true}
use Rattle.lane_scan.specs.Places.{is_one_at, IsFirstBetween, IsLastBetween}
use Rattle.bit_words.specs.Counts.{is_set_at}
use Rattle.bit_model.specs.Packed.{packed, packed_bit}
use Rattle.bit_words.proofs.Packing.{packed_bit-packed}
use Rattle.bit_words.proofs.Counting.{words_cover}

same_place : (bits : List Bool) (words : List ℕ) (i : ℕ) → words ≡ packed 64 bits → is_one_at words i ≡ is_set_at bits i
same_place bits words i held = ap (λ (ns : List ℕ). packed_bit 64 ns i) held ∙ packed_bit-packed 64 bits i (lit< tt)

set-lt : (bits : List Bool) (place : ℕ) → is_set_at bits place ≡ true → place < length bits
set-lt bits place set =
    elim (cases_lt place (length bits)) [
      | inl below ↦ below
      | inr past ↦ absurd (false≢true (sym (get_or_past bits place false past) ∙ set))
    ]

pub first_of_bits : (bits : List Bool) (words : List ℕ) (start : ℕ) (found : Option ℕ) → words ≡ packed 64 bits
    → MatchOption found (HoldsNowhere (is_one_at words) start (64 * length words)) (IsFirstBetween (is_one_at words) start (64 * length words))
    → MatchOption found (HoldsNowhere (is_set_at bits) start (length bits)) (IsFirstBetween (is_set_at bits) start (length bits))
first_of_bits bits words start None held none = λ k from below.
    let cover = words_cover bits words (length bits) held (le_refl (length bits)) in
    sym (same_place bits words k held) ∙ none k from (omega arith)
first_of_bits bits words start (Some place) held first =
    let set = sym (same_place bits words place held) ∙ first.passes in
    record {
      from = first.from;
      below = set-lt bits place set;
      passes = set;
      before = λ k from below. sym (same_place bits words k held) ∙ first.before k from below;
    }

pub last_of_bits : (bits : List Bool) (words : List ℕ) (end : ℕ) (found : Option ℕ) → words ≡ packed 64 bits
    → MatchOption found (HoldsNowhere (is_one_at words) 0 end) (IsLastBetween (is_one_at words) 0 end)
    → MatchOption found (HoldsNowhere (is_set_at bits) 0 end) (IsLastBetween (is_set_at bits) 0 end)
last_of_bits bits words end None held none = λ k from below. sym (same_place bits words k held) ∙ none k from below
last_of_bits bits words end (Some place) held last = record {
  from = last.from;
  below = last.below;
  passes = sym (same_place bits words place held) ∙ last.passes;
  behind = λ k from below. sym (same_place bits words k held) ∙ last.behind k from below;
}
