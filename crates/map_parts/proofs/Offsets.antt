-- The rule on offsets, one offset after the other.
use Rattle.std.proofs.Common.{◌≡◌, ◌<◌, ◌≤◌, ◌+◌, ◌-◌, ◌*◌, ◌==◌, ℕ, zero, suc, List, [], ◌∷◌, Bool, true, false, drop, refl, sym, ap, ◌∙◌, arith, subst}
use Rattle.std.specs.Prelude.{nat_lt, not, if◌then◌else◌, None, Option, Some}
use Rattle.std.proofs.lemmas.Bool.{eq-eqb, le-ltb, lt-ltb, ne_eqb}
use Rattle.std.proofs.lemmas.List.{drop-drop}
use Rattle.byteorder.specs.Endian.{little_number}
use Rattle.byte_fields.specs.Faults.{Fault, fault, refuse}
use Rattle.map_file_model.specs.Maps.{Bytes}
use Rattle.map_file_model.specs.Reading.{falls, offset_at, offsets_fault, offsets_in, offsets_place, pair_count_in, words_in}

refused : (bad : Bool) (place rule : ℕ) (later : Option Fault) → bad ≡ true → refuse bad place rule later ≡ Some (fault place rule)
refused bad place rule later e = ap (λ (t : Bool). refuse t place rule later) e

allowed : (bad : Bool) (place rule : ℕ) (later : Option Fault) → bad ≡ false → refuse bad place rule later ≡ later
allowed bad place rule later e = ap (λ (t : Bool). refuse t place rule later) e

-- where the offset behind that of a slot stands
abbrev pub place_behind : Bytes → ℕ → ℕ
place_behind bytes slot = offsets_place bytes + 8 * slot + 8

-- what the offsets behind that of a slot break
abbrev pub falls_behind : Bytes → ℕ → ℕ → Option Fault
falls_behind bytes slot before = falls (place_behind bytes slot) before (words_in (pair_count_in bytes - slot) (drop (place_behind bytes slot) bytes))

next_words : (k at : ℕ) (bytes : Bytes) → words_in (suc k) (drop at bytes) ≡ little_number 8 (drop at bytes) ∷ words_in k (drop (at + 8) bytes)
next_words k at bytes = ap (λ (l : Bytes). little_number 8 (drop at bytes) ∷ words_in k l) (drop-drop 8 at bytes)

-- the first offset is no 0
pub first_broken : (bytes : Bytes) (n : ℕ) → n ≡ little_number 8 (drop (offsets_place bytes) bytes) → (n ≡ 0 → ⊥) → offsets_fault bytes ≡ Some (fault (offsets_place bytes) 7)
unfolding offsets_fault
first_broken bytes n e other =
    let there : offsets_place bytes ≡ offsets_place bytes + 8 * 0 = omega arith in
    let same : n ≡ offset_at bytes 0 = e ∙ ap (λ (p : ℕ). little_number 8 (drop p bytes)) there in
    refused (not (offset_at bytes 0 == 0)) (offsets_place bytes) 7 _ (ap not (ne_eqb (offset_at bytes 0) 0 (λ none. other (same ∙ none))))

pub begun : (bytes : Bytes) (n : ℕ) → n ≡ little_number 8 (drop (offsets_place bytes) bytes) → n ≡ 0 → offsets_fault bytes ≡ falls_behind bytes 0 0
unfolding offsets_fault offsets_in
begun bytes n e none =
    let p = offsets_place bytes in
    let there : p ≡ p + 8 * 0 = omega arith in
    let behind : p + 8 ≡ p + 8 * 0 + 8 = omega arith in
    let all : pair_count_in bytes ≡ pair_count_in bytes - 0 = omega arith in
    let first : little_number 8 (drop p bytes) ≡ 0 = sym e ∙ none in
    let zeroth : offset_at bytes 0 ≡ 0 = ap (λ (q : ℕ). little_number 8 (drop q bytes)) (sym there) ∙ first in
    allowed (not (offset_at bytes 0 == 0)) p 7 _ (ap not (eq-eqb (offset_at bytes 0) 0 zeroth))
    ∙ ap (falls p 0) (next_words (pair_count_in bytes) p bytes)
    ∙ allowed (nat_lt (little_number 8 (drop p bytes)) 0) p 7 _ (le-ltb (little_number 8 (drop p bytes)) 0 (omega arith))
    ∙ (λ i. falls (behind i) (first i) (words_in (all i) (drop (behind i) bytes)))

one_fewer : (n slot : ℕ) → slot < n → n - slot ≡ suc (n - (slot + 1))
one_fewer n slot lt = omega (arith, lt)

pub broken : (bytes : Bytes) (slot before o : ℕ) → slot < pair_count_in bytes → o ≡ little_number 8 (drop (place_behind bytes slot) bytes) → o < before
    → falls_behind bytes slot before ≡ Some (fault (place_behind bytes slot) 7)
broken bytes slot before o lt e less =
    let at = place_behind bytes slot in
    let k = pair_count_in bytes - (slot + 1) in
    ap (λ (n : ℕ). falls at before (words_in n (drop at bytes))) (one_fewer (pair_count_in bytes) slot lt)
    ∙ ap (falls at before) (next_words k at bytes)
    ∙ refused (nat_lt (little_number 8 (drop at bytes)) before) at 7 _ (ap (λ (n : ℕ). nat_lt n before) (sym e) ∙ lt-ltb o before less)

pub kept_on : (bytes : Bytes) (slot before o : ℕ) → slot < pair_count_in bytes → o ≡ little_number 8 (drop (place_behind bytes slot) bytes) → before ≤ o
    → falls_behind bytes slot before ≡ falls_behind bytes (slot + 1) o
kept_on bytes slot before o lt e le =
    let at = place_behind bytes slot in
    let k = pair_count_in bytes - (slot + 1) in
    let behind : at + 8 ≡ place_behind bytes (slot + 1) = omega arith in
    ap (λ (n : ℕ). falls at before (words_in n (drop at bytes))) (one_fewer (pair_count_in bytes) slot lt)
    ∙ ap (falls at before) (next_words k at bytes)
    ∙ allowed (nat_lt (little_number 8 (drop at bytes)) before) at 7 _ (ap (λ (n : ℕ). nat_lt n before) (sym e) ∙ le-ltb o before le)
    ∙ (λ i. falls (behind i) (sym e i) (words_in k (drop (behind i) bytes)))

pub ended : (bytes : Bytes) (slot before : ℕ) → pair_count_in bytes ≤ slot → falls_behind bytes slot before ≡ None
ended bytes slot before le =
    let none : pair_count_in bytes - slot ≡ 0 = omega (arith, le) in
    ap (λ (n : ℕ). falls (place_behind bytes slot) before (words_in n (drop (place_behind bytes slot) bytes))) none
