-- What the device and what a crash may leave are while a map is written.
use Rattle.std.specs.Prelude.{◌≡◌, ◌≢◌, ◌∷◌, [], Result, OnOk}
use Rattle.disk_trait.specs.World.{IsDurable, Meanwhile, Now, Passes, Same, World}
use Rattle.disk_trait.specs.Image.{overwritten}
use Rattle.lines_in.specs.Causes.{NoFall}
use Rattle.map_model.specs.SortedMap.{Bytes, Map}
use Rattle.map_run_model.specs.Files.{HasNoneOrAll, built_body}

-- it was synced, and read, and nothing else
pub record IsAsked (old new : World) : Type 0 where
  pub held : new.seen.held ≡ old.seen.held
  pub beside : new.beside ≡ old.beside
  pub counts : NoFall old new
  pub time : Passes Same old new

-- The body was written and synced, and then the gate, or a call of these failed. Where no image of the start has a map, each one
-- meanwhile has none, or the map of the body.
pub record MapWritten {T E : Type 0} (Tells : Type 0) (body : Bytes) (result : Result T E) (old new : World) : Type 0 where
  pub written : Tells → OnOk result (new.seen.held ≡ overwritten (overwritten old.seen.held 8 body) 0 (1 ∷ []))
  pub durable : OnOk result (IsDurable new)
  pub meanwhile : Tells → (pairs : Map) → body ≡ built_body pairs → Now (λ image. image 0 ≢ 1) old → Meanwhile (HasNoneOrAll pairs) old new
  pub beside : new.beside ≡ old.beside
