-- A rule of a format that bytes break, and the place where they do.
use Rattle.std.specs.Prelude.{ℕ, Bool, Option, Some, None, if◌then◌else◌}

pub record Fault : Type 0 where
  pub place : ℕ
  pub rule : ℕ

abbrev pub fault : ℕ → ℕ → Fault
fault place rule = record { place = place; rule = rule }

-- the rule at the place where it is broken, else what later rules say
abbrev pub refuse : Bool → ℕ → ℕ → Option Fault → Option Fault
refuse bad place rule later = if bad then Some (fault place rule) else later
