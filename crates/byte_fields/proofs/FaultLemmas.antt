-- That no rule is broken says of each that it is kept.
use Rattle.std.proofs.Common.{◌≡◌, ℕ, Bool, true, false, refl}
use Rattle.std.specs.Prelude.{Option, Some, None, not}
use Rattle.std.specs.Option.{option_map, option_or}
use Rattle.byte_fields.specs.Faults.{Fault, refuse}

pub kept : (bad : Bool) (place rule : ℕ) (later : Option Fault) → refuse bad place rule later ≡ None → (bad ≡ false) × (later ≡ None)
kept true place rule later e = absurd cc
kept false place rule later e = (refl, e)

pub passed : (bad : Bool) (place rule : ℕ) (later : Option Fault) → bad ≡ false → later ≡ None → refuse bad place rule later ≡ None
passed true place rule later bad none = absurd cc
passed false place rule later bad none = none

pub neither : (a b : Option Fault) → option_or a b ≡ None → (a ≡ None) × (b ≡ None)
neither None b e = (refl, e)
neither (Some f) b e = absurd cc

pub none_of : (a b : Option Fault) → a ≡ None → b ≡ None → option_or a b ≡ None
none_of None b none e = e
none_of (Some f) b none e = absurd cc

pub not_false : (b : Bool) → not b ≡ false → b ≡ true
not_false true e = refl
not_false false e = absurd cc

pub not_true : (b : Bool) → b ≡ true → not b ≡ false
not_true true e = refl
not_true false e = absurd cc

pub nowhere : (f : ℕ → Fault) (o : Option ℕ) → option_map f o ≡ None → o ≡ None
nowhere f None e = refl
nowhere f (Some k) e = absurd cc
