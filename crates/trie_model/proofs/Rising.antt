-- Bytes that rise step by step rise.
use Rattle.std.proofs.Common.{◌≡◌, ℕ, ◌+◌, ◌-◌, ◌<◌, ◌≤◌, ◌∙◌, List, length, get_or, take, ap, arith, inl, inr}
use Rattle.std.specs.List.{AllPairs}
use Rattle.std.proofs.lemmas.Bool.{cases_eq, cases_lt}
use Rattle.std.proofs.lemmas.List.{get_or-take, get_or_default, length-take-le}
use Rattle.trie_model.specs.declared.parts.Branch.{Branch}

abbrev pub Rising : List Branch → Type 0
Rising bs = AllPairs (λ (a b : Branch). a.byte < b.byte) bs

byte_in : (bs : List Branch) (n k : ℕ) (d e : Branch) → k < n → n ≤ length bs → (get_or (take n bs) k d).byte ≡ (get_or bs k e).byte
byte_in bs n k d e l within = ap (λ (b : Branch). b.byte) (get_or-take n bs k d l ∙ get_or_default bs k d e (omega (arith, l, within)))

pub rising_more : (bs : List Branch) (i : ℕ) (e : Branch) → 0 < i → i < length bs → (get_or bs (i - 1) e).byte < (get_or bs i e).byte → Rising (take i bs) → Rising (take (i + 1) bs)
rising_more bs i e some l step w a b d up within =
    let long = length-take-le (i + 1) bs (omega (arith, l)) in
    let old = length-take-le i bs (omega (arith, l)) in
    let at_a = byte_in bs (i + 1) a d e (omega (arith, up, within, long)) (omega (arith, l)) in
    let at_b = byte_in bs (i + 1) b d e (omega (arith, within, long)) (omega (arith, l)) in
    elim (cases_lt b i) [
      | inl before ↦
          omega (arith, at_a, at_b, w a b d up (omega (arith, before, old)), byte_in bs i a d e (omega (arith, up, before)) (omega (arith, l)), byte_in bs i b d e before (omega (arith, l)))
      | inr last ↦
          let is : (get_or bs b e).byte ≡ (get_or bs i e).byte = ap (λ (k : ℕ). (get_or bs k e).byte) (omega (arith, last, within, long)) in
          elim (cases_eq a (i - 1)) [
            | inl same ↦ omega (arith, at_a, at_b, is, step, ap (λ (k : ℕ). (get_or bs k e).byte) same)
            | inr other ↦
                omega (
                  arith,
                  at_a,
                  at_b,
                  is,
                  step,
                  w a (i - 1) d (omega (arith, up, other, last, within, long)) (omega (arith, some, old)),
                  byte_in bs i a d e (omega (arith, up, within, long)) (omega (arith, l)),
                  byte_in bs i (i - 1) d e (omega (arith, some)) (omega (arith, l)),
                )
          ]
    ]
