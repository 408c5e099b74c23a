-- Writes, and crashes after them, at small values.
use Rattle.std.proofs.Common.{◌≡◌, true, false, List, ℕ, [], ◌∷◌, refl, inl}
use Rattle.disk_mem.specs.Bytes.{with_write}
use Rattle.disk_mem.specs.Calls.{Call, Left, bytes_after}
use Rattle.disk_mem.specs.Choices.{whole, lost, other, crash_bytes}
use Rattle.disk_mem.specs.History.{write_call, sync_call}

within : with_write (1 ∷ 2 ∷ 3 ∷ 4 ∷ []) 1 (8 ∷ 9 ∷ []) ≡ 1 ∷ 8 ∷ 9 ∷ 4 ∷ []
unfolding with_write
within = refl

past_the_end : with_write (1 ∷ []) 3 (9 ∷ []) ≡ 1 ∷ 0 ∷ 0 ∷ 9 ∷ []
unfolding with_write
past_the_end = refl

-- two writes that overlap, the latest first
abbrev overlapping : List Call
overlapping = write_call 2 (5 ∷ 6 ∷ []) true ∷ write_call 1 (3 ∷ 4 ∷ []) true ∷ []

both_read : bytes_after (0 ∷ 0 ∷ 0 ∷ 0 ∷ []) overlapping ≡ 0 ∷ 3 ∷ 5 ∷ 6 ∷ []
unfolding with_write
both_read = refl

first_alone : crash_bytes (0 ∷ 0 ∷ 0 ∷ 0 ∷ []) overlapping (whole ∷ []) ≡ 0 ∷ 3 ∷ 4 ∷ 0 ∷ []
unfolding with_write
first_alone = refl

second_torn : crash_bytes (0 ∷ 0 ∷ 0 ∷ 0 ∷ []) overlapping (lost ∷ other (7 ∷ 6 ∷ []) ∷ []) ≡ 0 ∷ 0 ∷ 7 ∷ 6 ∷ []
unfolding with_write
second_torn = refl

-- a write that failed may stand, until a sync that succeeds
failed_stands : Left (0 ∷ []) (write_call 0 (5 ∷ []) false ∷ []) (5 ∷ [])
unfolding with_write
failed_stands = (0 ∷ [], refl, inl refl)

synced : (now : List ℕ) → Left (0 ∷ []) (sync_call true ∷ write_call 0 (5 ∷ []) false ∷ []) now → now ≡ 0 ∷ []
synced now left = left
