-- What an outside shows that tells no content: its counts of faults alone.
use Rattle.std.specs.Prelude.{◌≡◌, ℕ, []}
use Rattle.disk_trait.specs.World.{World}

abbrev pub untold_world : ℕ → ℕ → ℕ → ℕ → World
untold_world read_faults write_faults take_faults say_faults = record {
  seen = record { held = λ place. 0; reads = 0; read_faults = read_faults; write_faults = write_faults };
  moment = 0;
  leaves = λ moment image. ⊥;
  beside = record { to_take = []; said = []; said_by = λ moment. 0; take_faults = take_faults; say_faults = say_faults };
}

-- each count is as it was
abbrev pub CountsStay : World → World → Type 0
CountsStay old new = (new.seen ≡ old.seen) × (new.beside ≡ old.beside)

-- no call has failed yet
abbrev pub IsUntouched : World → Type 0
IsUntouched w = CountsStay (untold_world 0 0 0 0) w
