-- Blocks with shared prefixes by which the definitions are shown.
use Rattle.std.specs.Prelude.{ℕ, ◌+◌, ◌/◌, ◌%◌, ◌-◌, suc, zero, List, [], ◌∷◌, ◌++◌, length, replicate, set, codes}
use Rattle.byteorder.specs.Endian.{little_bytes}
use Rattle.map_model.specs.SortedMap.{Bytes}
use Rattle.entry_model.specs.Entries.{Entry, del_entry}
use Rattle.block_model.specs.OldBlock.{old_block_bytes}
use Rattle.block_model.specs.Examples.{a_b}
use Rattle.block_model.specs.Block.{block_bytes}

-- the block of a with b, with another byte at a place, and at two places
unfoldable pub changed_once : ℕ → ℕ → Bytes
changed_once place byte = set (block_bytes (a_b ∷ [])) place byte

unfoldable pub changed_twice : ℕ → ℕ → ℕ → ℕ → Bytes
changed_twice place byte next other = set (changed_once place byte) next other

-- the old block of a with b, which names the new format
unfoldable pub old_as_new : Bytes
old_as_new = set (old_block_bytes (a_b ∷ [])) 5 2

-- a page of k000, of which nothing is there, and of another tombstone at 23, which shares so many bytes and has a rest
unfoldable pub after_k000 : ℕ → Bytes → Bytes
after_k000 shared rest =
    let used = 32 + length rest in
    little_bytes 4 used ++ ((2 ∷ 2 ∷ 0 ∷ 0 ∷ 10 ∷ 0 ∷ []) ++ ((2 ∷ 0 ∷ 0 ∷ 4 ∷ 0 ∷ 0 ∷ 0 ∷ 0 ∷ 0 ∷ []) ++ (codes "k000" ++ ((2 ∷ shared ∷ 0 ∷ length rest ∷ 0 ∷ 0 ∷ 0 ∷ 0 ∷ 0 ∷ []) ++ (rest ++ replicate (4064 - length rest) 0)))))

-- tombstones of k000, k001 and so on, so many of them from a number on
unfoldable pub tombstones : ℕ → ℕ → List Entry
tombstones from zero = []
tombstones from (suc more) = del_entry (codes "k0" ++ ((48 + from / 10) ∷ (48 + from % 10) ∷ [])) ∷ tombstones (suc from) more

-- the block of seventeen of them, k000 to k016, with another byte at a place
unfoldable pub changed_seventeen : ℕ → ℕ → Bytes
changed_seventeen place byte = set (block_bytes (tombstones 0 17)) place byte
