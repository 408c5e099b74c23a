-- What each kind of call does to a disk in memory, as a disk.
use Rattle.std.proofs.Common.{◌≡◌, ◌≤◌, ◌-◌, Bool, true, false, ℕ, suc, List, ◌∷◌, length, drop, refl, sym, ap, ◌∙◌, subst, arith, inl, inr}
use Rattle.disk_trait.specs.World.{Image, Torn, Same, Passes, ReadMoves, WriteMoves, SyncMoves, IsDurable}
use Rattle.disk_trait.proofs.Images.{torn_same, whole}
use Rattle.disk_mem.specs.Bytes.{image_of, with_write}
use Rattle.disk_mem.specs.Calls.{Call, Left, Becomes, bytes_after, calls_by}
use Rattle.disk_mem.specs.History.{LeftImage, world_of, counted_on, read_call, failed_read_call, write_call, sync_call}
use Rattle.disk_mem.specs.CurrentLaws.{read_is_left}
use Rattle.disk_mem.proofs.Written.{image_of-written}

-- ---- calls by moments

pub calls_by-earlier : (m : ℕ) (call : Call) (calls : List Call) → m ≤ length calls → calls_by m (call ∷ calls) ≡ calls_by m calls
calls_by-earlier m call calls le =
    let e : length (call ∷ calls) - m ≡ suc (length calls - m) = omega (arith, le) in
    ap (λ (k : ℕ). drop k (call ∷ calls)) e

pub calls_by-now : (m : ℕ) (calls : List Call) → length calls ≤ m → calls_by m calls ≡ calls
calls_by-now m calls le =
    let e : length calls - m ≡ 0 = omega (arith, le) in
    ap (λ (k : ℕ). drop k calls) e

-- ---- a moment more

-- a call that came last, where what it may leave comes by one step from what could be left before
passes_call : (step : Image → Image → Type 0) (first : List ℕ) (call : Call) (calls : List Call) (sr sw : ℕ)
    → ((now : List ℕ) → Left first (call ∷ calls) now → (was : List ℕ) × Left first calls was × step (image_of was) (image_of now))
    → Passes step (world_of first calls sr sw) (world_of first (call ∷ calls) sr sw)
passes_call step first call calls sr sw steps = record {
  later = omega arith;
  kept = λ m image le left. subst (λ (l : List Call). LeftImage first l image) (calls_by-earlier m call calls le) left;
  steps = λ m image after high left.
      let last = subst (λ (l : List Call). LeftImage first l image) (calls_by-now m (call ∷ calls) (omega (arith, after))) left in
      let from = steps last.0 last.1 in
      (image_of from.0, (from.0, subst (λ (l : List Call). Left first l from.0) (sym (calls_by-now (length calls) calls (omega arith))) from.1, refl), subst (λ (i : Image). step (image_of from.0) i) (sym last.2) from.2);
}

-- ---- reads

pub read_done : (first : List ℕ) (calls : List Call) (sr sw at : ℕ) (bytes : List ℕ) → ReadMoves 1 (world_of first calls sr sw) (world_of first (read_call at bytes ∷ calls) sr sw)
read_done first calls sr sw at bytes = record {
  held = refl;
  reads = omega arith;
  reads_later = omega arith;
  read_faults = omega arith;
  write_faults = omega arith;
  time = passes_call Same first (read_call at bytes) calls sr sw (λ now left. (now, left, refl));
  beside = refl;
}

pub read_failed : (first : List ℕ) (calls : List Call) (sr sw at : ℕ) → ReadMoves 1 (world_of first calls sr sw) (world_of first (failed_read_call at ∷ calls) sr sw)
read_failed first calls sr sw at = record {
  held = refl;
  reads = omega arith;
  reads_later = omega arith;
  read_faults = omega arith;
  write_faults = omega arith;
  time = passes_call Same first (failed_read_call at) calls sr sw (λ now left. (now, left, refl));
  beside = refl;
}

-- a call without memory: no moment passes
still : (step : Image → Image → Type 0) (first : List ℕ) (calls : List Call) (sr sw tr tw : ℕ) → Passes step (world_of first calls sr sw) (world_of first calls tr tw)
still step first calls sr sw tr tw = record { later = omega arith; kept = λ m image le left. left; steps = λ m image low high left. absurd (omega arith) }

pub read_starved : (first : List ℕ) (calls : List Call) (sr sw : ℕ) → ReadMoves 1 (world_of first calls sr sw) (world_of first calls (counted_on sr) sw)
read_starved first calls sr sw = record {
  held = refl;
  reads = omega arith;
  reads_later = omega arith;
  read_faults = omega arith;
  write_faults = refl;
  time = still Same first calls sr sw (counted_on sr) sw;
  beside = refl;
}

-- ---- writes

-- what a write becomes is torn in its range
becomes_torn : (at : ℕ) (bytes was now : List ℕ) → Becomes at bytes was now → Torn at (length bytes) (image_of was) (image_of now)
becomes_torn at bytes was now (inl is) = whole (image_of was) (image_of now) at bytes (ap image_of is ∙ image_of-written was at bytes)
becomes_torn at bytes was now (inr (inl is)) = subst (λ (l : List ℕ). Torn at (length bytes) (image_of was) (image_of l)) (sym is) (torn_same (image_of was) at (length bytes))
becomes_torn at bytes was now (inr (inr some)) =
    subst (λ (n : ℕ). Torn at n (image_of was) (image_of now)) some.2 (whole (image_of was) (image_of now) at some.0 (ap image_of some.3 ∙ image_of-written was at some.0))

write_passes : (first : List ℕ) (calls : List Call) (sr sw at : ℕ) (bytes : List ℕ) (done : Bool)
    → Passes (Torn at (length bytes)) (world_of first calls sr sw) (world_of first (write_call at bytes done ∷ calls) sr sw)
write_passes first calls sr sw at bytes done =
    passes_call (Torn at (length bytes)) first (write_call at bytes done) calls sr sw (λ now left. (left.0, left.1, becomes_torn at bytes left.0 now left.2))

pub write_done : (first : List ℕ) (calls : List Call) (sr sw at : ℕ) (bytes : List ℕ)
    → WriteMoves at (length bytes) (world_of first calls sr sw) (world_of first (write_call at bytes true ∷ calls) sr sw)
write_done first calls sr sw at bytes = record {
  torn = becomes_torn at bytes (bytes_after first calls) (with_write (bytes_after first calls) at bytes) (inl refl);
  reads = omega arith;
  read_faults = omega arith;
  write_faults = omega arith;
  time = write_passes first calls sr sw at bytes true;
  beside = refl;
}

pub write_failed : (first : List ℕ) (calls : List Call) (sr sw at : ℕ) (bytes : List ℕ)
    → WriteMoves at (length bytes) (world_of first calls sr sw) (world_of first (write_call at bytes false ∷ calls) sr sw)
write_failed first calls sr sw at bytes = record {
  torn = torn_same (image_of (bytes_after first calls)) at (length bytes);
  reads = omega arith;
  read_faults = omega arith;
  write_faults = omega arith;
  time = write_passes first calls sr sw at bytes false;
  beside = refl;
}

pub write_starved : (first : List ℕ) (calls : List Call) (sr sw at n : ℕ) → WriteMoves at n (world_of first calls sr sw) (world_of first calls sr (counted_on sw))
write_starved first calls sr sw at n = record {
  torn = torn_same (image_of (bytes_after first calls)) at n;
  reads = refl;
  read_faults = refl;
  write_faults = omega arith;
  time = still (Torn at n) first calls sr sw sr (counted_on sw);
  beside = refl;
}

-- ---- syncs

pub sync_done : (first : List ℕ) (calls : List Call) (sr sw : ℕ) → SyncMoves (world_of first calls sr sw) (world_of first (sync_call true ∷ calls) sr sw)
sync_done first calls sr sw = record {
  held = refl;
  reads = omega arith;
  read_faults = omega arith;
  write_faults = omega arith;
  time = passes_call Same first (sync_call true) calls sr sw (λ now left. (bytes_after first calls, read_is_left first calls, ap image_of left));
  beside = refl;
}

pub sync_failed : (first : List ℕ) (calls : List Call) (sr sw : ℕ) → SyncMoves (world_of first calls sr sw) (world_of first (sync_call false ∷ calls) sr sw)
sync_failed first calls sr sw = record {
  held = refl;
  reads = omega arith;
  read_faults = omega arith;
  write_faults = omega arith;
  time = passes_call Same first (sync_call false) calls sr sw (λ now left. (now, left, refl));
  beside = refl;
}

pub sync_starved : (first : List ℕ) (calls : List Call) (sr sw : ℕ) → SyncMoves (world_of first calls sr sw) (world_of first calls sr (counted_on sw))
sync_starved first calls sr sw = record {
  held = refl;
  reads = refl;
  read_faults = refl;
  write_faults = omega arith;
  time = still Same first calls sr sw sr (counted_on sw);
  beside = refl;
}

pub sync_lasts : (first : List ℕ) (calls : List Call) (sr sw : ℕ) → IsDurable (world_of first (sync_call true ∷ calls) sr sw)
sync_lasts first calls sr sw image left =
    let last = subst (λ (l : List Call). LeftImage first l image) (calls_by-now (length (sync_call true ∷ calls)) (sync_call true ∷ calls) (omega arith)) left in
    last.2 ∙ ap image_of last.1
