-- Entries from a bound on.
use Rattle.std.proofs.Common.{◌≡◌, List, [], ◌∷◌, true, false, cond, refl}
use Rattle.std.specs.Prelude.{Option, Some, None, not}
use Rattle.std.specs.List.{AllByRecursion}
use Rattle.map_model.specs.SortedMap.{Bytes}
use Rattle.key_base.specs.ByteOrder.{is_before}
use Rattle.entry_model.specs.Entries.{Entry}
use Rattle.entry_model.specs.Newest.{entries_from}
use Rattle.block_format.specs.Walking.{kept_from}

pub kept_sound : (P : Entry → Type 0) (low : Bytes) (es : List Entry) → AllByRecursion P es → AllByRecursion P (entries_from es low)
kept_sound P low [] all = tt
kept_sound P low (e ∷ es) all =
    elim (not (is_before e.key low)) as (λ t. AllByRecursion P (cond t (e ∷ entries_from es low) (entries_from es low))) [
      | true ↦ (all.0, kept_sound P low es all.1)
      | false ↦ kept_sound P low es all.1
    ]

pub all_kept : (low : Option Bytes) (es : List Entry) → low ≡ None → kept_from low es ≡ es
all_kept None es none = refl
all_kept (Some low) es none = absurd cc
