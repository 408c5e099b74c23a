-- What a call that is refused leaves of a store, whatever its device holds.
use Rattle.std.specs.Prelude.{◌≡◌, false, IsOk, Result, Ok, Err}
use Rattle.disk_trait.specs.World.{ReadMoves, World}
use Rattle.store_core.specs.Answers.{stops}
use Rattle.store_core.specs.StoreValue.{StoreValue}
use Rattle.store_core.specs.declared.error.StoreError.{StoreError}

-- the store as it was, but for the bytes that were read or built last, and the spare places of its memory table
abbrev pub IsAsItWas : StoreValue → StoreValue → Type 0
IsAsItWas before after = after ≡ record before { memory = record before.memory { spare = after.memory.spare }; buffer = after.buffer }

-- where a call is refused, and does not stop the store, it is as it was
abbrev pub Stays : {T : Type 0} → Result T StoreError → StoreValue → StoreValue → Type 0
Stays (Ok done) before after = Unit {0}
Stays (Err why) before after = stops why ≡ false → IsAsItWas before after

-- it is done where there was nothing to do: by no call of the device, and all is as it was
pub record DoesNothing {T : Type 0} (result : Result T StoreError) (before after : StoreValue) (old new : World) : Type 0 where
  pub done : IsOk result
  pub same : after ≡ before
  pub no_call : ReadMoves 0 old new
