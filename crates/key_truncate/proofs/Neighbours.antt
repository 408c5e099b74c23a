-- Of a rising list, a key shares most with one of its neighbours.
use Rattle.std.proofs.Common.{◌≡◌, ◌<◌, ◌≤◌, ◌+◌, ◌==◌, nat_lt, ℕ, zero, suc, max, List, [], ◌∷◌, ◌++◌, length, get_or, take, map, min, sym, ap, ◌∙◌, arith, inl, inr}
use Rattle.std.proofs.lemmas.Bool.{cases_lt, cond-true, cond-false, lt-ltb, le-ltb}
use Rattle.std.proofs.lemmas.List.{get_or_default, map-append, take_more}
use Rattle.std.proofs.lemmas.List.Elements.{Contains-get_or}
use Rattle.filter_model.specs.Keys.{IsKeyList}
use Rattle.filter_model.specs.Leaves.{shared_most}
use Rattle.filter_model.specs.Strings.{shared}
use Rattle.filter_model.proofs.Order.{Lt, Lt-from}
use Rattle.filter_model.proofs.Shared.{shared_outer, shared_sym}
use Rattle.filter_model.proofs.Stubs.{nearest_or_none, shared_most-ge, shared_most-le, different}
use Rattle.key_truncate.specs.declared.stubs.Stub.{Stub}
use Rattle.key_truncate.specs.Stubs.{shared_next, stub_in}

-- what the key at place i shares with the one before
abbrev pub shared_before : List (List ℕ) → ℕ → ℕ
shared_before keys zero = 0
shared_before keys (suc i) = shared_next keys i

abbrev at : List (List ℕ) → ℕ → List ℕ
at keys i = get_or keys i []

key_Lt : (keys : List (List ℕ)) → IsKeyList keys → (i j : ℕ) → i < j → j < length keys → Lt (at keys i) (at keys j)
key_Lt keys h i j before within = Lt-from (at keys i) (at keys j) (h.rising i j [] before within)

-- a later key shares no more than the next one
shared_later : (keys : List (List ℕ)) → IsKeyList keys → (i j : ℕ) → i < j → j < length keys → shared (at keys i) (at keys j) ≤ shared_next keys i
shared_later keys h i j before within =
    let next = cond-true (nat_lt (i + 1) (length keys)) (shared (at keys i) (at keys (i + 1))) 0 (lt-ltb (i + 1) (length keys) (omega arith)) in
    elim (cases_lt (i + 1) j) [
      | inl further ↦ omega (arith, next, (shared_outer (at keys i) (at keys (i + 1)) (at keys j) (key_Lt keys h i (i + 1) (omega arith) (omega arith)) (key_Lt keys h (i + 1) j further within)).0)
      | inr near ↦
          let e : i + 1 ≡ j = omega arith in
          omega (arith, next, ap (λ n. shared (at keys i) (at keys n)) e)
    ]

-- an earlier key shares no more than the one before
shared_earlier : (keys : List (List ℕ)) → IsKeyList keys → (i j : ℕ) → j < i → i < length keys → shared (at keys i) (at keys j) ≤ shared_before keys i
shared_earlier keys h zero j before within = absurd (omega arith)
shared_earlier keys h (suc i) j before within =
    let more : i + 1 ≡ suc i = omega arith in
    let next : shared_next keys i ≡ shared (at keys i) (at keys (suc i)) =
    cond-true (nat_lt (i + 1) (length keys)) (shared (at keys i) (at keys (i + 1))) 0 (lt-ltb (i + 1) (length keys) (omega arith))
    ∙ ap (λ n. shared (at keys i) (at keys n)) more in
    let is : shared_before keys (suc i) ≡ shared (at keys i) (at keys (suc i)) = next in
    let turned = shared_sym (at keys (suc i)) (at keys j) in
    elim (cases_lt j i) [
      | inl further ↦ omega (arith, is, turned, (shared_outer (at keys j) (at keys i) (at keys (suc i)) (key_Lt keys h j i further (omega arith)) (key_Lt keys h i (suc i) (omega arith) within)).1)
      | inr near ↦
          let e : j ≡ i = omega arith in
          omega (arith, is, turned, ap (λ n. shared (at keys n) (at keys (suc i))) e)
    ]

most_at_most : (keys : List (List ℕ)) → IsKeyList keys → (i : ℕ) → i < length keys → shared_most keys (at keys i) ≤ max (shared_before keys i) (shared_next keys i)
most_at_most keys h i within = elim (nearest_or_none keys (at keys i)) [
  | inl none ↦ omega (arith, none)
  | inr near ↦
      let j = near.here.0 in
      let j_in = near.here.1 in
      let j_is : at keys j ≡ near.key = get_or_default keys j [] near.key j_in ∙ near.here.2 in
      let shares : shared (at keys i) (at keys j) ≡ shared_most keys (at keys i) = ap (shared (at keys i)) j_is ∙ near.most in
      elim (cases_lt i j) [
        | inl later ↦ omega (arith, shares, shared_later keys h i j later j_in)
        | inr not_later ↦ elim (cases_lt j i) [
          | inl earlier ↦ omega (arith, shares, shared_earlier keys h i j earlier within)
          | inr not_earlier ↦
              let e : i ≡ j = omega arith in
              absurd (near.other (ap (at keys) e ∙ j_is))
        ]
      ]
]

next_at_least : (keys : List (List ℕ)) → IsKeyList keys → (i : ℕ) → i < length keys → shared_next keys i ≤ shared_most keys (at keys i)
next_at_least keys h i within = elim (cases_lt (i + 1) (length keys)) [
  | inl more ↦
      let next = cond-true (nat_lt (i + 1) (length keys)) (shared (at keys i) (at keys (i + 1))) 0 (lt-ltb (i + 1) (length keys) more) in
      let ne = different (at keys i) (at keys (i + 1)) (key_Lt keys h i (i + 1) (omega arith) more) in
      omega (arith, next, shared_most-ge keys (at keys i) (at keys (i + 1)) (Contains-get_or keys (i + 1) [] more) ne)
  | inr last ↦ omega (arith, cond-false (nat_lt (i + 1) (length keys)) (shared (at keys i) (at keys (i + 1))) 0 (le-ltb (i + 1) (length keys) last))
]

before_at_least : (keys : List (List ℕ)) → IsKeyList keys → (i : ℕ) → i < length keys → shared_before keys i ≤ shared_most keys (at keys i)
before_at_least keys h zero within = omega arith
before_at_least keys h (suc i) within =
    let more : i + 1 ≡ suc i = omega arith in
    let next : shared_next keys i ≡ shared (at keys i) (at keys (suc i)) =
    cond-true (nat_lt (i + 1) (length keys)) (shared (at keys i) (at keys (i + 1))) 0 (lt-ltb (i + 1) (length keys) (omega arith))
    ∙ ap (λ n. shared (at keys i) (at keys n)) more in
    let is : shared_before keys (suc i) ≡ shared (at keys i) (at keys (suc i)) = next in
    let ne = different (at keys i) (at keys (suc i)) (key_Lt keys h i (suc i) (omega arith) within) in
    omega (arith, is, shared_sym (at keys i) (at keys (suc i)), shared_most-ge keys (at keys (suc i)) (at keys i) (Contains-get_or keys i [] (omega arith)) (λ e. ne (sym e)))

-- what a key shares most is what it shares with a neighbour
pub most_of_neighbours : (keys : List (List ℕ)) → IsKeyList keys → (i : ℕ) → i < length keys → shared_most keys (at keys i) ≡ max (shared_before keys i) (shared_next keys i)
most_of_neighbours keys h i within =
    omega (arith, most_at_most keys h i within, next_at_least keys h i within, before_at_least keys h i within)

-- the greater of what it shares with its neighbours is no longer than the key
pub neighbours-le : (keys : List (List ℕ)) → IsKeyList keys → (i : ℕ) → i < length keys → max (shared_before keys i) (shared_next keys i) ≤ length (at keys i)
neighbours-le keys h i within = omega (arith, most_of_neighbours keys h i within, shared_most-le keys (at keys i))

-- the stub after the key at place i
pub stub_next : (keys : List (List ℕ)) → IsKeyList keys → (i : ℕ) → i < length keys → (stub : Stub)
    → stub ≡ record { len = min (max (shared_before keys i) (shared_next keys i) + 1) (length (at keys i)); ends = length (at keys i) == max (shared_before keys i) (shared_next keys i) }
    → map (stub_in keys) (take i keys) ++ stub ∷ [] ≡ map (stub_in keys) (take (i + 1) keys)
stub_next keys h i within stub e =
    let most = most_of_neighbours keys h i within in
    let one : stub ≡ stub_in keys (at keys i) =
    e ∙ (λ j. record { len = min (sym most j + 1) (length (at keys i)); ends = length (at keys i) == sym most j }) in
    ap (λ (s : Stub). map (stub_in keys) (take i keys) ++ s ∷ []) one
    ∙ sym (map-append (stub_in keys) (take i keys) (at keys i ∷ [])) ∙ ap (map (stub_in keys)) (sym (take_more keys i [] within))
