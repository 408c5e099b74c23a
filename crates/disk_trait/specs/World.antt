-- What a disk and what stands beside it are at a moment, what a call does to them, and the words in which the layers
-- above say what a crash may leave.
use Rattle.std.specs.Prelude.{◌<◌, ◌≡◌, ℕ, ◌+◌, ◌-◌, ◌^◌, ◌≤◌, min, List, Result, OnOk}
pub use Rattle.disk_trait.specs.Image.{Image, window, overwritten, Torn, Same}

-- what a disk shows: what it reads as, how many reads came, and how many calls failed (a sync counts as a write)
pub record Seen : Type 0 where
  pub held : Image
  pub reads : ℕ
  pub read_faults : ℕ
  pub write_faults : ℕ

-- what stands beside a disk: an input and an output, and how many bytes had been said by each moment of the disk's
-- clock (past the present, all that was said)
pub record Streams : Type 0 where
  pub to_take : List ℕ
  pub said : List ℕ
  pub said_by : ℕ → ℕ
  pub take_faults : ℕ
  pub say_faults : ℕ

-- all of it, with the present moment, and whether a crash at a moment may leave an image
pub record World : Type 1 where
  pub seen : Seen
  pub moment : ℕ
  pub leaves : ℕ → Image → Type 0
  pub beside : Streams

-- a count of faults rose in a call, or is at the last value that it can have
abbrev pub Rose : ℕ → ℕ → Type 0
Rose before now = min (before + 1) (2 ^ 64 - 1) ≤ now

-- Moments passed: what could be left at an earlier one stays as it was, and what may be left since comes by one step
-- from what could be left at the start.
pub record Passes (step : Image → Image → Type 0) (old new : World) : Type 0 where
  pub later : old.moment ≤ new.moment
  pub kept : (m : ℕ) (image : Image) → m ≤ old.moment → new.leaves m image → old.leaves m image
  pub steps : (m : ℕ) (image : Image) → old.moment < m → m ≤ new.moment → new.leaves m image → (was : Image) × old.leaves old.moment was × step was image

-- a crash now leaves what a read gives
abbrev pub IsDurable : World → Type 0
IsDurable w = (image : Image) → w.leaves w.moment image → image ≡ w.seen.held

-- ---- what a kind of call does, done or failed

-- so many reads at most
pub record ReadMoves (most : ℕ) (old new : World) : Type 0 where
  pub held : new.seen.held ≡ old.seen.held
  pub reads : new.seen.reads ≤ old.seen.reads + most
  pub reads_later : old.seen.reads ≤ new.seen.reads
  pub read_faults : old.seen.read_faults ≤ new.seen.read_faults
  pub write_faults : new.seen.write_faults ≡ old.seen.write_faults
  pub time : Passes Same old new
  pub beside : new.beside ≡ old.beside

-- writes in the range of n bytes from a place on, and syncs
pub record WriteMoves (at n : ℕ) (old new : World) : Type 0 where
  pub torn : Torn at n old.seen.held new.seen.held
  pub reads : new.seen.reads ≡ old.seen.reads
  pub read_faults : new.seen.read_faults ≡ old.seen.read_faults
  pub write_faults : old.seen.write_faults ≤ new.seen.write_faults
  pub time : Passes (Torn at n) old new
  pub beside : new.beside ≡ old.beside

-- syncs alone
pub record SyncMoves (old new : World) : Type 0 where
  pub held : new.seen.held ≡ old.seen.held
  pub reads : new.seen.reads ≡ old.seen.reads
  pub read_faults : new.seen.read_faults ≡ old.seen.read_faults
  pub write_faults : old.seen.write_faults ≤ new.seen.write_faults
  pub time : Passes Same old new
  pub beside : new.beside ≡ old.beside

-- so many reads at most, and writes in the range of n bytes from a place on
pub record Moves (at n most : ℕ) (old new : World) : Type 0 where
  pub torn : Torn at n old.seen.held new.seen.held
  pub reads : new.seen.reads ≤ old.seen.reads + most
  pub reads_later : old.seen.reads ≤ new.seen.reads
  pub read_faults : old.seen.read_faults ≤ new.seen.read_faults
  pub write_faults : old.seen.write_faults ≤ new.seen.write_faults
  pub time : Passes (Torn at n) old new
  pub beside : new.beside ≡ old.beside

-- ---- what a crash may leave, now and meanwhile

-- each image that a crash may leave now has P
abbrev pub Now : (Image → Type 0) → World → Type 0
Now P w = (image : Image) → w.leaves w.moment image → P image

-- At each moment from one to another, what a crash may leave has P; and what it might have left before is as it was.
pub record Meanwhile (P : Image → Type 0) (old new : World) : Type 0 where
  pub later : old.moment ≤ new.moment
  pub kept : (m : ℕ) (image : Image) → m ≤ old.moment → new.leaves m image → old.leaves m image
  pub each : (m : ℕ) (image : Image) → old.moment ≤ m → m ≤ new.moment → new.leaves m image → P image

-- Where each image of the start had P, each one meanwhile has Q, and at Ok each one has R.
pub record Leads {T E : Type 0} (P Q R : Image → Type 0) (result : Result T E) (old new : World) : Type 0 where
  pub meanwhile : Now P old → Meanwhile Q old new
  pub after : Now P old → OnOk result (Now R new)
