use Rattle.std.proofs.Common.{◌≡◌, ◌<◌, ◌^◌, ℕ, length, refl, arith, sym, subst, inl, inr, ◌∙◌}
use Rattle.std.proofs.lemmas.Bool.{cases_lt, eqb-false, false≢true}
use Rattle.plain_filter_model.specs.Neighbours.{StandsRightly}
use Rattle.plain_filter_model.proofs.ValidLaws.{stands_from_valid, valid_from_stands}
use Rattle.plain_filter.proofs.valid.is_valid.Goals as goal

pub loop-i-preserved : goal.loop-i-preserved
loop-i-preserved c k h =
    elim (cases_lt k c.loop-i.i) [
      | inl before ↦ c.loop-i.invariant k before
      | inr here ↦
          let one : c.loop-i.i ≡ k = omega arith in
          subst (StandsRightly c.args.hash_bits c.args.real_bits c.args.leaves.now) one (c.stands.ensures.0 c.if-not-stands.false)
    ]

pub returns-then-not-stands : goal.returns-then-not-stands
returns-then-not-stands c =
    let within : c.loop-i.i < length c.args.leaves.now = omega arith in (
      λ e. absurd (false≢true e),
      λ valid. absurd (false≢true (sym c.if-not-stands.true ∙ c.stands.ensures.1 (stands_from_valid c.args.hash_bits c.args.real_bits c.args.leaves.now valid c.loop-i.i within))),
    )

pub returns : goal.returns
returns c =
    let leaves = c.args.leaves.now in
    let some : 0 < length leaves = filled (length leaves) (eqb-false (length leaves) 0 (sym c.is_empty.ensures ∙ c.if-is_empty.false)) in
    let few : length leaves < 2 ^ 32 = omega arith in
    (λ e. valid_from_stands c.args.hash_bits c.args.real_bits leaves some few (λ i k. c.loop-i.invariant i (omega arith)), λ valid. refl)
  where
    filled : (k : ℕ) → (k ≡ 0 → ⊥) → 0 < k
    filled k ne = elim (cases_lt 0 k) [ inl more ↦ more | inr none ↦ absurd (ne (omega arith)) ]
