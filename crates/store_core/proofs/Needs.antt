-- The pages that the table of the memory needs, as they are known once its flush found no room.
use Rattle.std.proofs.Common.{◌≡◌, ◌<◌, ◌∙◌, ℕ, List, length, false, refl, sym, ap, subst}
use Rattle.std.specs.Prelude.{Option, Some, None, IfErr, IfSome, Result, Ok, Err}
use Rattle.byte_fields.specs.declared.parts.Row.{Row}
use Rattle.disk_trait.specs.World.{World}
use Rattle.entry_model.specs.Entries.{Entry}
use Rattle.extent_model.specs.Gaps.{largest_gap}
use Rattle.key_base.specs.Limits.{max_tables}
use Rattle.manifest_model.specs.Version.{Version}
use Rattle.table_model.specs.Tables.{FilterBytes}
use Rattle.store_core.specs.Answers.{stops}
use Rattle.store_core.specs.Flushing.{IsFullFor, IsNoRoomFor, IsPlanRefusal, need_under}
use Rattle.store_core.specs.Refusing.{IsFlushDue}
use Rattle.store_core.specs.Running.{extents_with}
use Rattle.store_core.specs.Staying.{IsAsItWas, Stays}
use Rattle.store_core.specs.StoreValue.{StoreValue}
use Rattle.store_core.specs.declared.error.StoreError.{StoreError}
use Rattle.store_core.specs.declared.error.StoreError.TheVariants as error

-- ---- known before a table is built

-- a refusal by them is one of the plan
module _ (bytes : FilterBytes) (v : Version) (outputs : List Row) (entries : List Entry) (few : length v.rows < max_tables) where
  room_refused : (need : ℕ) (why : StoreError) → need ≡ need_under bytes v entries → IsNoRoomFor (Some need) (largest_gap v.pages (extents_with v outputs)) why → IsPlanRefusal bytes v outputs entries why
  room_refused need error.Memory same is = tt
  room_refused need (error.Device cause) same is = is
  room_refused need error.Stopped same is = is
  room_refused need (error.Limit limit) same is = absurd is
  room_refused need (error.Full wanted gap) same is = (few, (is.0 ∙ same, is.1, subst (λ (n : ℕ). largest_gap v.pages (extents_with v outputs) < n) same is.2))
  room_refused need (error.Damaged damage) same is = is
  room_refused need error.NotAStore same is = is
  room_refused need error.AlreadyAStore same is = is
  room_refused need (error.BadSettings field) same is = is

  pub known_refused : (need : Option ℕ) (why : StoreError) → IfSome need (λ pages. pages ≡ need_under bytes v entries) → IsNoRoomFor need (largest_gap v.pages (extents_with v outputs)) why
      → IsPlanRefusal bytes v outputs entries why
  known_refused None why same is = absurd is
  known_refused (Some need) why same is = room_refused need why same is

-- ---- known after a flush

module _ (bytes : FilterBytes) (old new : StoreValue) (a b : World) where
  full_why : (why : StoreError) → IsFlushDue bytes old old.memory.entries a b why → (stops why ≡ false → IsAsItWas old new)
      → IsFullFor (need_under bytes new.manifest.version new.memory.entries) why
  full_why error.Memory due stays = tt
  full_why (error.Device cause) due stays = tt
  full_why error.Stopped due stays = tt
  full_why (error.Limit limit) due stays = tt
  full_why (error.Full need gap) due stays = due.planned.1.0 ∙ sym (ap (λ (k : StoreValue). need_under bytes k.manifest.version k.memory.entries) (stays refl))
  full_why (error.Damaged damage) due stays = tt
  full_why error.NotAStore due stays = tt
  full_why error.AlreadyAStore due stays = tt
  full_why (error.BadSettings field) due stays = tt

  pub full_for : {T : Type 0} (r : Result T StoreError) → IfErr r (IsFlushDue bytes old old.memory.entries a b) → Stays r old new
      → IfErr r (λ why. IsFullFor (need_under bytes new.manifest.version new.memory.entries) why)
  full_for (Ok x) due stays = tt
  full_for (Err why) due stays = full_why why due stays
