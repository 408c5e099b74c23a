-- Bytes spell changes or break a rule: reading ends at a gate that is not open, or at a rule.
use Rattle.std.proofs.Common.{◌≡◌, ◌⊎◌, inl, inr, ◌+◌, ◌≤◌, ℕ, zero, suc, List, [], ◌∷◌, ◌++◌, length, drop, get_or, refl, arith}
use Rattle.std.specs.Prelude.{Option, Some, None}
use Rattle.std.proofs.lemmas.Bool.{cases_eq}
use Rattle.byte_fields.specs.Spelling.{IsBytes}
use Rattle.map_model.specs.SortedMap.{Bytes}
use Rattle.log_model.specs.Laws.{SpellsOrBreaks}
use Rattle.range_model.specs.Sources.{Change}
use Rattle.log_model.specs.Changes.{change_in, filled_by}
use Rattle.log_model.specs.Records.{BeginsWith, Breaks, Spells, broken_rule}
use Rattle.log_model.proofs.Walks.{begins_next, begins_with_none, filled_next}

abbrev Ends : Bytes → Type 0
Ends bytes = ((changes : List Change) × Spells changes bytes) ⊎ ((place : ℕ) × (rule : ℕ) × Breaks place rule bytes)

none_or_one : (o : Option ℕ) → (o ≡ None) ⊎ ((rule : ℕ) × (o ≡ Some rule))
none_or_one None = inl refl
none_or_one (Some rule) = inr (rule, refl)

module _ (bytes : Bytes) (is_bytes : IsBytes bytes) where
  -- behind some whole records, with so many bytes to go at most
  ends : (n : ℕ) (changes : List Change) → BeginsWith changes bytes → length bytes ≤ filled_by changes + n → Ends bytes
  ends zero changes begins room = absurd (omega (arith, begins.within, room))
  ends (suc n) changes begins room = elim (cases_eq (get_or bytes (filled_by changes) 0) 1) [
    | inr closed ↦ inl (changes, record { begins = begins; closed = closed })
    | inl opened ↦ elim (none_or_one (broken_rule (drop (filled_by changes + 1) bytes))) [
      | inr broken ↦ inr (filled_by changes, broken.0, record { before = changes; begins = begins; here = refl; opened = opened; broken = broken.1 })
      | inl whole ↦ ends n (changes ++ change_in (drop (filled_by changes + 1) bytes) ∷ []) (begins_next bytes is_bytes changes (filled_by changes) begins refl opened whole)
          (omega (arith, room, filled_next bytes is_bytes changes (filled_by changes) begins refl opened whole))
    ]
  ]

pub spells_or_breaks : SpellsOrBreaks
spells_or_breaks bytes is_bytes some = ends bytes is_bytes (length bytes) [] (begins_with_none bytes some) (omega arith)
