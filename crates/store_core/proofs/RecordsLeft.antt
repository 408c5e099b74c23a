-- What an entry that is written leaves as it was: all but its own record, and what a flush before it writes.
use Rattle.std.proofs.Common.{◌≡◌, ◌≢◌, inl, inr, ◌∙◌, ◌<◌, ◌≤◌, ◌+◌, ◌*◌, ℕ, [], sym, subst, arith}
use Rattle.std.proofs.lemmas.Bool.{cases_lt}
use Rattle.disk_trait.specs.World.{World, WriteMoves}
use Rattle.entry_model.proofs.Bodies.{body_size}
use Rattle.entry_model.specs.Entries.{Entry, IsLogged, need}
use Rattle.log_model.specs.Area.{start_of}
use Rattle.manifest_model.specs.Version.{log_page_of}
use Rattle.mem_table.specs.Table.{MemoryTable}
use Rattle.store_core.specs.Flushing.{other_log_page}
use Rattle.store_core.specs.Framing.{IsBesideRecord, IsInUse, LeavesPlaces}
use Rattle.store_core.specs.StoreValue.{IsConsistent, StoreValue}
use Rattle.store_core.proofs.Framing.{IsOutside, leaves_fewer, leaves_then, leaves_write, less_in_use, log_outside, other_page, record_outside}
use Rattle.store_core.proofs.Wholes.{begun_where_none}

-- the record of an entry fits an empty area
pub small_need : (e : Entry) → IsLogged e → need e ≤ 262144
small_need e is = omega (arith, body_size e, is.sound.short_key, is.short)

module _ (store : StoreValue) (whole : IsConsistent store) where
  within : store.log.filled ≤ 262144
  within = omega (arith, whole.changes.filled_is, whole.changes.fits)

  -- after those of the log
  pub record_left : (n : ℕ) → store.log.filled + n ≤ 262144 → (a b : World) → WriteMoves (start_of store.log.area + store.log.filled) n a b → LeavesPlaces (IsInUse store.manifest store.log.filled) a b
  record_left n fits a b moves =
      let place : start_of store.log.area + store.log.filled ≡ 4096 * store.manifest.version.log_page + store.log.filled = omega (arith, whole.area) in
      leaves_write (IsInUse store.manifest store.log.filled) (4096 * store.manifest.version.log_page + store.log.filled) n a b (record_outside store.manifest whole.version whole.slot store.log.filled n fits)
      (subst (λ (at : ℕ). WriteMoves at n a b) place moves)

  pub flush_left : (a b : World) → LeavesPlaces (IsInUse store.manifest 262144) a b → LeavesPlaces (IsInUse store.manifest store.log.filled) a b
  flush_left a b left = leaves_fewer (IsInUse store.manifest 262144) (IsInUse store.manifest store.log.filled) a b (less_in_use store.manifest store.log.filled 262144 within) left

  -- after a flush, in the other area
  pub flush_then_record_left : (m : MemoryTable) → m.entries ≡ store.memory.entries → (area filled n : ℕ) → 262144 < store.log.filled + n → n ≤ 262144 → filled ≡ 0
      → (m.entries ≢ [] → other_log_page store.manifest.version ≡ log_page_of area) → (a b d : World) → LeavesPlaces (IsInUse store.manifest 262144) a b → WriteMoves (start_of area + filled) n b d
      → LeavesPlaces (IsInUse store.manifest store.log.filled) a d
  flush_then_record_left m kept area filled n wide small begun other a b d first own =
      let some : m.entries ≢ [] = λ none. let empty = begun_where_none store whole (sym kept ∙ none) in absurd (omega (arith, wide, small, empty)) in
      let at = other_page store.manifest.version whole.version area (other some) in
      let P = IsInUse store.manifest store.log.filled in
      leaves_then P a b d (flush_left a b first)
      (leaves_write P (start_of area + filled) n b d (log_outside store.manifest whole.version whole.slot store.log.filled area (start_of area + filled) n within at.0 at.1 (omega arith) (omega (arith, begun, small))) own)

  -- ---- and all but the record itself

  record_at : start_of store.log.area + store.log.filled ≡ 4096 * store.manifest.version.log_page + store.log.filled
  record_at = omega (arith, whole.area)

  beside_outside : (n : ℕ) → store.log.filled + n ≤ 262144 → IsOutside (IsBesideRecord store.manifest store.log.filled n) (4096 * store.manifest.version.log_page + store.log.filled) n
  beside_outside n fits place is = elim (cases_lt place (4096 * store.manifest.version.log_page + store.log.filled)) [
    | inl before ↦ inl before
    | inr from ↦ elim (cases_lt place (4096 * store.manifest.version.log_page + store.log.filled + n)) [
      | inl within ↦ absurd (is.1 fits (from, within))
      | inr behind ↦ inr behind
    ]
  ]

  pub own_left : (n : ℕ) → store.log.filled + n ≤ 262144 → (a b : World) → WriteMoves (start_of store.log.area + store.log.filled) n a b → LeavesPlaces (IsBesideRecord store.manifest store.log.filled n) a b
  own_left n fits a b moves =
      leaves_write (IsBesideRecord store.manifest store.log.filled n) (4096 * store.manifest.version.log_page + store.log.filled) n a b (beside_outside n fits)
      (subst (λ (at : ℕ). WriteMoves at n a b) record_at moves)

  pub flush_own_left : (n : ℕ) (a b : World) → LeavesPlaces (IsInUse store.manifest 262144) a b → LeavesPlaces (IsBesideRecord store.manifest store.log.filled n) a b
  flush_own_left n a b left = leaves_fewer (IsInUse store.manifest 262144) (IsBesideRecord store.manifest store.log.filled n) a b (λ place is. is.0) left

  -- after a flush the record is in the other area
  pub flush_then_own_left : (m : MemoryTable) → m.entries ≡ store.memory.entries → (area filled n : ℕ) → 262144 < store.log.filled + n → n ≤ 262144 → filled ≡ 0
      → (m.entries ≢ [] → other_log_page store.manifest.version ≡ log_page_of area) → (a b d : World) → LeavesPlaces (IsInUse store.manifest 262144) a b → WriteMoves (start_of area + filled) n b d
      → LeavesPlaces (IsBesideRecord store.manifest store.log.filled n) a d
  flush_then_own_left m kept area filled n wide small begun other a b d first own =
      let some : m.entries ≢ [] = λ none. let empty = begun_where_none store whole (sym kept ∙ none) in absurd (omega (arith, wide, small, empty)) in
      let at = other_page store.manifest.version whole.version area (other some) in
      let P = IsInUse store.manifest 262144 in
      flush_own_left n a d
      (leaves_then P a b d first
      (leaves_write P (start_of area + filled) n b d (log_outside store.manifest whole.version whole.slot 262144 area (start_of area + filled) n (omega arith) at.0 at.1 (omega arith) (omega (arith, begun, small))) own))
