-- How a call ends, as what any disk promises.
use Rattle.std.proofs.Common.{◌≡◌, ◌⊎◌, ◌↔◌, ℕ, List, ◌∷◌, length, subst, refl, sym, ap, ◌∙◌, arith, inl, inr}
use Rattle.std.specs.Prelude.{Result, Ok, Err, OnOk, IsErr}
use Rattle.disk_trait.specs.World.{World, ReadMoves, WriteMoves, SyncMoves, IsDurable, overwritten}
use Rattle.disk_mem.specs.Calls.{Call, bytes_after}
use Rattle.disk_mem.specs.History.{History, Adds, StarvesRead, StarvesWrite, ReadEnds, WriteEnds, SyncEnds, IsListed, disk_world, world_of, counted_on}
use Rattle.disk_mem.proofs.Worlds.{read_done, read_failed, read_starved, write_done, write_failed, write_starved, sync_done, sync_failed, sync_starved, sync_lasts}
use Rattle.disk_mem.proofs.Written.{image_of-written}

-- the disk after a call that has a number, and after one without memory
added : (call : Call) (old new : History) → Adds call old new → disk_world new ≡ world_of old.first (call ∷ old.calls) old.starved_reads old.starved_writes
added call old new a = λ i. world_of (a.first i) (a.calls i) (a.starved_reads i) (a.starved_writes i)

starved_read : (old new : History) → StarvesRead old new → disk_world new ≡ world_of old.first old.calls (counted_on old.starved_reads) old.starved_writes
starved_read old new s = λ i. world_of (s.first i) (s.calls i) (s.starved_reads i) (s.starved_writes i)

starved_write : (old new : History) → StarvesWrite old new → disk_world new ≡ world_of old.first old.calls old.starved_reads (counted_on old.starved_writes)
starved_write old new s = λ i. world_of (s.first i) (s.calls i) (s.starved_reads i) (s.starved_writes i)

-- ---- reads

pub read_moves : {T E : Type 0} (at : ℕ) (bytes : List ℕ) (result : Result T E) (old new : History) → ReadEnds at bytes result old new → ReadMoves 1 (disk_world old) (disk_world new)
read_moves at bytes (Ok v) old new ends =
    subst (λ (w : World). ReadMoves 1 (disk_world old) w) (sym (added _ old new ends.1)) (read_done old.first old.calls old.starved_reads old.starved_writes at bytes)
read_moves at bytes (Err e) old new (inl listed) =
    subst (λ (w : World). ReadMoves 1 (disk_world old) w) (sym (added _ old new listed.1)) (read_failed old.first old.calls old.starved_reads old.starved_writes at)
read_moves at bytes (Err e) old new (inr starved) =
    subst (λ (w : World). ReadMoves 1 (disk_world old) w) (sym (starved_read old new starved)) (read_starved old.first old.calls old.starved_reads old.starved_writes)

-- ---- writes

pub write_moves : {T E : Type 0} (at : ℕ) (bytes : List ℕ) (result : Result T E) (old new : History) → WriteEnds at bytes result old new → WriteMoves at (length bytes) (disk_world old) (disk_world new)
write_moves at bytes (Ok v) old new ends =
    subst (λ (w : World). WriteMoves at (length bytes) (disk_world old) w) (sym (added _ old new ends.1)) (write_done old.first old.calls old.starved_reads old.starved_writes at bytes)
write_moves at bytes (Err e) old new (inl listed) =
    subst (λ (w : World). WriteMoves at (length bytes) (disk_world old) w) (sym (added _ old new listed.1)) (write_failed old.first old.calls old.starved_reads old.starved_writes at bytes)
write_moves at bytes (Err e) old new (inr starved) =
    subst (λ (w : World). WriteMoves at (length bytes) (disk_world old) w) (sym (starved_write old new starved)) (write_starved old.first old.calls old.starved_reads old.starved_writes at (length bytes))

pub write_holds : {T E : Type 0} (at : ℕ) (bytes : List ℕ) (result : Result T E) (old new : History) → WriteEnds at bytes result old new → OnOk result ((disk_world new).seen.held ≡ overwritten (disk_world old).seen.held at bytes)
write_holds at bytes (Ok v) old new ends = (λ i. (added _ old new ends.1 i).seen.held) ∙ image_of-written (bytes_after old.first old.calls) at bytes
write_holds at bytes (Err e) old new ends = tt

-- ---- syncs

pub sync_moves : {T E : Type 0} (result : Result T E) (old new : History) → SyncEnds result old new → SyncMoves (disk_world old) (disk_world new)
sync_moves (Ok v) old new ends =
    subst (λ (w : World). SyncMoves (disk_world old) w) (sym (added _ old new ends.1)) (sync_done old.first old.calls old.starved_reads old.starved_writes)
sync_moves (Err e) old new (inl listed) =
    subst (λ (w : World). SyncMoves (disk_world old) w) (sym (added _ old new listed.1)) (sync_failed old.first old.calls old.starved_reads old.starved_writes)
sync_moves (Err e) old new (inr starved) =
    subst (λ (w : World). SyncMoves (disk_world old) w) (sym (starved_write old new starved)) (sync_starved old.first old.calls old.starved_reads old.starved_writes)

pub sync_is_durable : {T E : Type 0} (result : Result T E) (old new : History) → SyncEnds result old new → OnOk result (IsDurable (disk_world new))
sync_is_durable (Ok v) old new ends = subst IsDurable (sym (added _ old new ends.1)) (sync_lasts old.first old.calls old.starved_reads old.starved_writes)
sync_is_durable (Err e) old new ends = tt

-- ---- a call fails exactly where its number is listed, or it was without memory

one_more : (call : Call) (calls : List Call) → call ∷ calls ≡ calls → ⊥
one_more call calls same = let longer = ap length same in absurd (omega (arith, longer))

pub read_fails : {T E : Type 0} (at : ℕ) (bytes : List ℕ) (result : Result T E) (old new : History) → ReadEnds at bytes result old new → IsErr result ↔ (IsListed old ⊎ StarvesRead old new)
read_fails at bytes (Ok v) old new ends = (λ failed. absurd cc, elim [ inl listed ↦ absurd (ends.0 listed) | inr starved ↦ absurd (one_more _ old.calls (sym ends.1.calls ∙ starved.calls)) ])
read_fails at bytes (Err e) old new (inl listed) = (λ failed. inl listed.0, λ cause. refl)
read_fails at bytes (Err e) old new (inr starved) = (λ failed. inr starved, λ cause. refl)

pub write_fails : {T E : Type 0} (at : ℕ) (bytes : List ℕ) (result : Result T E) (old new : History) → WriteEnds at bytes result old new → IsErr result ↔ (IsListed old ⊎ StarvesWrite old new)
write_fails at bytes (Ok v) old new ends = (λ failed. absurd cc, elim [ inl listed ↦ absurd (ends.0 listed) | inr starved ↦ absurd (one_more _ old.calls (sym ends.1.calls ∙ starved.calls)) ])
write_fails at bytes (Err e) old new (inl listed) = (λ failed. inl listed.0, λ cause. refl)
write_fails at bytes (Err e) old new (inr starved) = (λ failed. inr starved, λ cause. refl)

pub sync_fails : {T E : Type 0} (result : Result T E) (old new : History) → SyncEnds result old new → IsErr result ↔ (IsListed old ⊎ StarvesWrite old new)
sync_fails (Ok v) old new ends = (λ failed. absurd cc, elim [ inl listed ↦ absurd (ends.0 listed) | inr starved ↦ absurd (one_more _ old.calls (sym ends.1.calls ∙ starved.calls)) ])
sync_fails (Err e) old new (inl listed) = (λ failed. inl listed.0, λ cause. refl)
sync_fails (Err e) old new (inr starved) = (λ failed. inr starved, λ cause. refl)
