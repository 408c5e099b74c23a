-- A range that is added to those from a place on.
use Rattle.std.proofs.Common.{◌≡◌, ℕ, zero, suc, ◌<◌, ◌≤◌, List, [], ◌∷◌, ◌++◌, length, take, drop, get_or, refl, sym, ap, ◌∙◌, subst, Bool, true, false, cond, not, arith}
use Rattle.std.specs.Prelude.{◌&&◌}
use Rattle.std.proofs.lemmas.Bool.{false≢true}
use Rattle.key_base.specs.ByteOrder.{is_before}
use Rattle.range_model.specs.Ranges.{DeletedRange, joined_range, with_range}

abbrev pub added_from : ℕ → List DeletedRange → DeletedRange → List DeletedRange
added_from at ranges new = take at ranges ++ with_range (drop at ranges) new

-- what the range at hand makes of a new one, by the two tests
by_tests : (r : DeletedRange) (rs : List DeletedRange) (new : DeletedRange) (ends begins : Bool) → is_before r.hi new.lo ≡ ends → is_before new.hi r.lo ≡ begins
    → with_range (r ∷ rs) new ≡ cond ends (r ∷ with_range rs new) (cond begins (new ∷ r ∷ rs) (with_range rs (joined_range r new)))
by_tests r rs new ends begins one two =
    ap (λ (t : Bool). cond t (r ∷ with_range rs new) (cond (is_before new.hi r.lo) (new ∷ r ∷ rs) (with_range rs (joined_range r new)))) one
    ∙ ap (λ (t : Bool). cond ends (r ∷ with_range rs new) (cond t (new ∷ r ∷ rs) (with_range rs (joined_range r new)))) two

pub passed : (ranges : List DeletedRange) (at : ℕ) (new here : DeletedRange) → at < length ranges → here ≡ get_or ranges at here → is_before here.hi new.lo ≡ true → added_from (suc at) ranges new ≡ added_from at ranges new
passed [] at new here within is e = absurd (omega (arith, within))
passed (r ∷ rs) zero new here within is e = sym (by_tests r rs new true (is_before new.hi r.lo) (subst (λ (x : DeletedRange). is_before x.hi new.lo ≡ true) is e) refl)
passed (r ∷ rs) (suc at) new here within is e = ap (λ (l : List DeletedRange). r ∷ l) (passed rs at new here (omega arith) is e)

pub met : (ranges : List DeletedRange) (at : ℕ) (new here : DeletedRange) → at < length ranges → here ≡ get_or ranges at here → is_before here.hi new.lo ≡ false → is_before new.hi here.lo ≡ false
    → added_from at (take at ranges ++ drop (suc at) ranges) (joined_range here new) ≡ added_from at ranges new
met [] at new here within is one two = absurd (omega (arith, within))
met (r ∷ rs) zero new here within is one two =
    ap (λ (x : DeletedRange). with_range rs (joined_range x new)) is
    ∙ sym (by_tests r rs new false false (subst (λ (x : DeletedRange). is_before x.hi new.lo ≡ false) is one) (subst (λ (x : DeletedRange). is_before new.hi x.lo ≡ false) is two))
met (r ∷ rs) (suc at) new here within is one two = ap (λ (l : List DeletedRange). r ∷ l) (met rs at new here (omega arith) is one two)

both : (x y : Bool) → (not x && y) ≡ true → (x ≡ false) × (y ≡ true)
both true y e = absurd (false≢true e)
both false true e = (refl, refl)
both false false e = absurd (false≢true e)

pub goes : (ranges : List DeletedRange) (at : ℕ) (new here : DeletedRange) → at < length ranges → here ≡ get_or ranges at here → (not (is_before here.hi new.lo) && is_before new.hi here.lo) ≡ true
    → take at ranges ++ new ∷ drop at ranges ≡ added_from at ranges new
goes [] at new here within is e = absurd (omega (arith, within))
goes (r ∷ rs) zero new here within is e =
    let tests = both (is_before r.hi new.lo) (is_before new.hi r.lo) (subst (λ (x : DeletedRange). (not (is_before x.hi new.lo) && is_before new.hi x.lo) ≡ true) is e) in
    sym (by_tests r rs new false true tests.0 tests.1)
goes (r ∷ rs) (suc at) new here within is e = ap (λ (l : List DeletedRange). r ∷ l) (goes rs at new here (omega arith) is e)

pub goes_last : (ranges : List DeletedRange) (at : ℕ) (new : DeletedRange) → length ranges ≤ at → take at ranges ++ new ∷ drop at ranges ≡ added_from at ranges new
goes_last [] zero new past = refl
goes_last [] (suc at) new past = refl
goes_last (r ∷ rs) zero new past = absurd (omega (arith, past))
goes_last (r ∷ rs) (suc at) new past = ap (λ (l : List DeletedRange). r ∷ l) (goes_last rs at new (omega arith))

-- the range does not go there, and the one at hand does not end below it
pub not_apart : (x y : Bool) → (not x && y) ≡ false → x ≡ false → y ≡ false
not_apart true y e f = absurd (false≢true (sym f))
not_apart false y e f = e
