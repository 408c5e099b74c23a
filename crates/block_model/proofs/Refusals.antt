-- That no rule is broken says of each that it is kept; and bytes that are all 0.
use Rattle.std.proofs.Common.{◌≡◌, ◌≤◌, ◌+◌, ℕ, zero, suc, Bool, true, false, cond, List, [], ◌∷◌, length, replicate, refl, ap, ap₂, arith}
use Rattle.std.specs.Prelude.{Option, Some, None, ◌==◌, nat_lt, not, position}
use Rattle.std.specs.List.{position_or_len}
use Rattle.std.specs.Option.{option_map, option_or}
use Rattle.std.proofs.lemmas.List.{length-replicate}
use Rattle.std.proofs.lemmas.Bool.{eqb-true, ltb-false, le-ltb}
use Rattle.byte_fields.specs.Faults.{Fault, refuse}

pub kept : (bad : Bool) (place rule : ℕ) (later : Option Fault) → refuse bad place rule later ≡ None → (bad ≡ false) × (later ≡ None)
kept true place rule later e = absurd cc
kept false place rule later e = (refl, e)

pub passed : (bad : Bool) (place rule : ℕ) (later : Option Fault) → bad ≡ false → later ≡ None → refuse bad place rule later ≡ None
passed true place rule later bad none = absurd cc
passed false place rule later bad none = none

pub neither : (a b : Option Fault) → option_or a b ≡ None → (a ≡ None) × (b ≡ None)
neither None b e = (refl, e)
neither (Some f) b e = absurd cc

pub none_of : (a b : Option Fault) → a ≡ None → b ≡ None → option_or a b ≡ None
none_of None b none e = e
none_of (Some f) b none e = absurd cc

pub not_false : (b : Bool) → not b ≡ false → b ≡ true
not_false true e = refl
not_false false e = absurd cc

pub not_true : (b : Bool) → b ≡ true → not b ≡ false
not_true true e = refl
not_true false e = absurd cc

pub nowhere : (f : ℕ → Fault) (o : Option ℕ) → option_map f o ≡ None → o ≡ None
nowhere f None e = refl
nowhere f (Some k) e = absurd cc

-- ---- bytes that are all 0

abbrev pub is_other : ℕ → Bool
is_other b = not (b == 0)

zeros_pass : (n : ℕ) → position_or_len is_other (replicate n 0) ≡ n
zeros_pass zero = refl
zeros_pass (suc n) = omega (arith, zeros_pass n)

pub zeros_kept : (n : ℕ) → position is_other (replicate n 0) ≡ None
zeros_kept n =
    let all = zeros_pass n in
    let lt : nat_lt (position_or_len is_other (replicate n 0)) (length (replicate n 0)) ≡ false = le-ltb _ _ (omega (arith, all, length-replicate {A = ℕ} n 0)) in
    ap (λ (t : Bool). cond t (Some (position_or_len is_other (replicate n 0))) None) lt

some_not : (t : Bool) (k : ℕ) → cond {A = Option ℕ} t (Some k) None ≡ None → t ≡ false
some_not true k e = absurd cc
some_not false k e = refl

all_pass : (xs : List ℕ) → length xs ≤ position_or_len is_other xs → xs ≡ replicate (length xs) 0
all_pass [] le = refl
all_pass (x ∷ xs) le = elim (x == 0) as (λ t. (x == 0) ≡ t → length (x ∷ xs) ≤ cond (not (not t)) (1 + position_or_len is_other xs) 0 → x ∷ xs ≡ replicate (length (x ∷ xs)) 0) [
  | true ↦ λ is le. ap₂ (λ (a : ℕ) (l : List ℕ). a ∷ l) (eqb-true x 0 is) (all_pass xs (omega (arith, le)))
  | false ↦ λ is le. absurd (omega (arith, le))
] refl le

pub zeros_are : (xs : List ℕ) → position is_other xs ≡ None → xs ≡ replicate (length xs) 0
zeros_are xs none = all_pass xs (ltb-false _ _ (some_not _ _ none))
