-- What calls do to a disk, taken together.
use Rattle.std.proofs.Common.{◌≡◌, ◌≤◌, ◌+◌, ◌*◌, ℕ, arith, subst}
use Rattle.disk_trait.specs.World.{Moves, ReadMoves, SyncMoves, World, WriteMoves}
use Rattle.disk_trait.proofs.Calls.{moves_joined, moves_none, moves_of_read, moves_of_write, moves_sync, moves_wider, reads_more, reads_then}
use Rattle.disk_trait.proofs.Images.{torn_wider}
use Rattle.disk_trait.proofs.Moments.{passes_wider}

pub moves_widened : (at n low size m most : ℕ) (a b : World) → low ≤ at → at + n ≤ low + size → m ≤ most → Moves at n m a b → Moves low size most a b
moves_widened at n low size m most a b from to le p = record {
  torn = torn_wider at n low size a.seen.held b.seen.held from to p.torn;
  reads = omega (arith, p.reads, le);
  reads_later = p.reads_later;
  read_faults = p.read_faults;
  write_faults = p.write_faults;
  time = passes_wider at n low size a b from to p.time;
  beside = p.beside;
}

-- no call
pub none_moved : (at n most : ℕ) (a : World) → Moves at n most a a
none_moved at n most a = moves_of_write at n most a a (moves_none at n a)

-- a sync, and then reads
pub sync_moved : (most : ℕ) (a b : World) → SyncMoves a b → Moves 0 0 most a b
sync_moved most a b sync = moves_of_write 0 0 most a b (moves_sync 0 0 a b sync)

pub sync_then_reads : (n most : ℕ) (a b c : World) → n ≤ most → SyncMoves a b → ReadMoves n b c → Moves 0 0 most a c
sync_then_reads n most a b c le sync reads =
    moves_widened 0 0 0 0 (0 + n) most a c (omega arith) (omega arith) (omega (arith, le)) (moves_joined 0 0 0 n a b c (sync_moved 0 a b sync) (moves_of_read 0 0 n b c reads))

-- the first page of the log is begun, within all that a format writes
pub log_begun : (most : ℕ) (a b : World) → WriteMoves 262144 1 a b → Moves 0 262145 most a b
log_begun most a b begun = moves_of_write 0 262145 most a b (moves_wider 262144 1 0 262145 a b (omega arith) (omega arith) begun)

-- and then the manifest is written
pub log_then_moved : (a b c : World) → WriteMoves 262144 1 a b → Moves 0 131072 2 b c → Moves 0 262145 2 a c
log_then_moved a b c begun made = moves_joined 0 262145 0 2 a b c (log_begun 0 a b begun) (moves_widened 0 131072 0 262145 2 2 b c (omega arith) (omega arith) (omega arith) made)

-- a look before it
pub looked_then_moved : (a b c : World) → Moves 0 0 2 a b → Moves 0 262145 2 b c → Moves 0 262145 4 a c
looked_then_moved a b c look made = moves_joined 0 262145 2 2 a b c (moves_widened 0 0 0 262145 2 2 a b (omega arith) (omega arith) (omega arith) look) made

-- the two reads of one table more
pub two_more : (i : ℕ) (a b c : World) → ReadMoves (2 * i) a b → ReadMoves 2 b c → ReadMoves (2 * (i + 1)) a c
two_more i a b c before here =
    let count : 2 * i + 2 ≡ 2 * (i + 1) = omega arith in
    subst (λ (n : ℕ). ReadMoves n a c) count (reads_then (2 * i) 2 a b c before here)

-- the manifest, and two reads of each table
pub loaded_then_opened : (n : ℕ) (a b c : World) → n ≤ 1024 → ReadMoves 6 a b → ReadMoves (2 * n) b c → ReadMoves 2054 a c
loaded_then_opened n a b c few load tables = reads_more (6 + 2 * n) 2054 a c (omega (arith, few)) (reads_then 6 (2 * n) a b c load tables)
