-- The branch by a letter, found among the branches of its node.
use Rattle.std.proofs.Common.{◌≡◌, ℕ, zero, suc, ◌+◌, ◌-◌, ◌<◌, ◌⊎◌, ◌==◌, Bool, true, false, cond, Option, Some, None, MatchOption, List, [], ◌∷◌, length, get_or, take, ap, subst, sym, ◌∙◌, arith, inl, inr, length-append, lt-ltb, le-ltb}
use Rattle.std.specs.Prelude.{position}
use Rattle.std.specs.List.{position_or_len}
use Rattle.std.specs.Option.{option_map}
use Rattle.std.proofs.lemmas.Bool.{cases_Bool, eq-eqb, eqb-true, false≢true}
use Rattle.std.proofs.lemmas.List.{append-nil, take_more}
use Rattle.std.proofs.lemmas.List.Concat.{flat_map-append, get_or-flat_map}
use Rattle.std.proofs.lemmas.List.Sums.{position_or_len_is}
use Rattle.filter_model.specs.Nodes.{Branch, IsBranch, Node, all, at, first_place}
use Rattle.trie_laws.specs.Halves.{BranchIsFound}

-- the first place that passes
record IsFirst (test : Branch → Bool) (n : Node) : Type 0 where
  place : ℕ
  within : place < length n
  passes : test (get_or n place (0, false)) ≡ true
  before : (k : ℕ) → k < place → test (get_or n k (0, false)) ≡ false

search_in : (test : Branch → Bool) (n : Node) → IsFirst test n ⊎ ((k : ℕ) → k < length n → test (get_or n k (0, false)) ≡ false)
search_in test [] = inr (λ k l. absurd (omega (arith, l)))
search_in test (b ∷ n) = elim (cases_Bool (test b)) [
  | inl here ↦ inl (record { place = 0; within = omega arith; passes = here; before = λ k l. absurd (omega (arith, l)) })
  | inr other ↦ elim (search_in test n) [
    | inl later ↦ inl (record { place = suc later.place; within = omega (arith, later.within); passes = later.passes; before = front other later.before })
    | inr none ↦ inr (front other none)
  ]
]
  where
    front : {end : ℕ} → test b ≡ false → ((k : ℕ) → k < end → test (get_or n k (0, false)) ≡ false) → (k : ℕ) → k < suc end → test (get_or (b ∷ n) k (0, false)) ≡ false
    front other rest zero l = other
    front other rest (suc k) l = rest k (omega (arith, l))

position_is : (test : Branch → Bool) (n : Node) (f : IsFirst test n) → position test n ≡ Some f.place
position_is test n f =
    let is : position_or_len test n ≡ f.place = position_or_len_is test n f.place (0, false) (omega (arith, f.within)) f.before (λ _. f.passes) in
    ap (λ (b : Bool). cond b (Some (position_or_len test n)) None) (lt-ltb (position_or_len test n) (length n) (omega (arith, is, f.within))) ∙ ap (λ (k : ℕ). Some k) is

position_none : (test : Branch → Bool) (n : Node) → ((k : ℕ) → k < length n → test (get_or n k (0, false)) ≡ false) → position test n ≡ None
position_none test n h =
    let is : position_or_len test n ≡ length n = position_or_len_is test n (length n) (0, false) (omega arith) h (λ l. absurd (omega (arith, l))) in
    ap (λ (b : Bool). cond b (Some (position_or_len test n)) None) (le-ltb (position_or_len test n) (length n) (omega (arith, is)))

module _ (ns : List Node) (v : ℕ) (l : v < length ns) where
  begins_next : first_place ns (v + 1) ≡ first_place ns v + length (get_or ns v [])
  begins_next =
      ap (λ ms. length (all ms)) (take_more ns v [] l)
      ∙ ap length (flat_map-append (λ (n : Node). n) (take v ns) (get_or ns v [] ∷ []))
      ∙ length-append (all (take v ns)) _
      ∙ ap (λ (n : Node). first_place ns v + length n) (append-nil (get_or ns v []))

  stands : (j : ℕ) → j < length (get_or ns v []) → at ns (first_place ns v + j) ≡ get_or (get_or ns v []) j (0, false)
  stands j m = get_or-flat_map (λ (n : Node). n) ns v j [] (0, false) l m

  found : (c : ℕ) → MatchOption (option_map (λ i. first_place ns v + i) (position (λ (b : Branch). b.0 == c) (get_or ns v []))) ((p : ℕ) → IsBranch ns v c p → ⊥) (IsBranch ns v c)
  found c =
      let n = get_or ns v [] in
      let test : Branch → Bool = λ b. b.0 == c in
      let P : Option ℕ → Type 0 = λ q. MatchOption (option_map (λ i. first_place ns v + i) q) ((p : ℕ) → IsBranch ns v c p → ⊥) (IsBranch ns v c) in
      elim (search_in test n) [
        | inl first ↦
            subst P (sym (position_is test n first))
            (omega arith, omega (arith, begins_next, first.within), ap (λ (b : Branch). b.0) (stands first.place first.within) ∙ eqb-true (get_or n first.place (0, false)).0 c first.passes)
        | inr none ↦
            subst P (sym (position_none test n none))
            (λ p b.
            let j = p - first_place ns v in
            let in' : j < length n = omega (arith, b.0, b.1, begins_next) in
            let here : (get_or n j (0, false)).0 ≡ c = ap (λ (b : Branch). b.0) (sym (stands j in')) ∙ ap (λ (k : ℕ). (at ns k).0) (omega (arith, b.0)) ∙ b.2 in
            false≢true (sym (none j in') ∙ eq-eqb (get_or n j (0, false)).0 c here))
      ]

pub branch_is_found : BranchIsFound
branch_is_found h v c within = found h.nodes (v - h.before.nodes) (omega (arith, within.0, within.1)) c
