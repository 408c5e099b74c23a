-- What taking and saying do to a disk and to what stands beside it.
use Rattle.std.specs.Prelude.{◌<◌, ◌≡◌, ℕ, ◌≤◌, List, [], ◌++◌, length, take}
use Rattle.disk_trait.specs.World.{World, Streams, Passes, Same}

-- so many bytes were taken off the start of what was to take, and none only at its end
pub record Takes (n : ℕ) (into : List ℕ) (old new : Streams) : Type 0 where
  pub bytes : old.to_take ≡ take n into ++ new.to_take
  pub end : n ≡ 0 → old.to_take ≡ []

-- a prefix of a text was said
pub record SaysPrefix (text old new : List ℕ) : Type 0 where
  pub done : List ℕ
  pub rest : List ℕ
  pub split : text ≡ done ++ rest
  pub said : new ≡ old ++ done

-- How many bytes had been said by each moment, after calls that say something and began at this one.
pub record Tells (began : ℕ) (old new : Streams) : Type 0 where
  pub before : (m : ℕ) → m ≤ began → new.said_by m ≡ old.said_by m
  pub most : (m : ℕ) → began < m → new.said_by m ≤ length new.said
  pub least : (m : ℕ) → began < m → length old.said ≤ new.said_by m
  pub longer : length old.said ≤ length new.said

-- by now, all that was said had been said
abbrev pub SaidByNow : World → Type 0
SaidByNow w = (m : ℕ) → w.moment ≤ m → w.beside.said_by m ≡ length w.beside.said

-- ---- what a kind of call does, done or failed

pub record TakeMoves (old new : World) : Type 0 where
  pub seen : new.seen ≡ old.seen
  pub said : new.beside.said ≡ old.beside.said
  pub said_by : new.beside.said_by ≡ old.beside.said_by
  pub say_faults : new.beside.say_faults ≡ old.beside.say_faults
  pub take_faults : old.beside.take_faults ≤ new.beside.take_faults
  pub time : Passes Same old new

pub record SayMoves (old new : World) : Type 0 where
  pub seen : new.seen ≡ old.seen
  pub to_take : new.beside.to_take ≡ old.beside.to_take
  pub take_faults : new.beside.take_faults ≡ old.beside.take_faults
  pub say_faults : old.beside.say_faults ≤ new.beside.say_faults
  pub told : Tells old.moment old.beside new.beside
  pub time : Passes Same old new
