-- Laws of both formats of a block: how many pages it takes, how the old one is read, and what the list of a block says.
use Rattle.std.specs.Prelude.{◌≡◌, ◌<◌, ℕ, ◌-◌, ◌*◌, List, [], length, drop, take, None}
use Rattle.key_base.specs.ByteOrder.{IsBefore}
use Rattle.key_base.specs.Limits.{restart_entries}
use Rattle.map_model.specs.SortedMap.{Bytes}
use Rattle.entry_model.specs.Entries.{Entry}
use Rattle.block_model.specs.Block.{length_by, spelled_by}
use Rattle.block_model.specs.BlockReading.{block_fault, block_in, count_in, entries_fault_by, used_in}
use Rattle.block_model.specs.Formats.{Format, Old, Prefixed, entries_by, format_in, key_by, listed_in}
use Rattle.block_model.specs.OldReading.{old_block_fault, old_block_in}
use Rattle.block_model.specs.Pages.{page_bytes, pages_for}

-- a block of either format takes the pages that its length takes
abbrev pub EitherFillsItsPages : Type 0
EitherFillsItsPages = (f : Format) (block : List Entry) → length (spelled_by f block) ≡ page_bytes * pages_for (length_by f block)

-- bytes that name the old format are judged and read as before
abbrev pub OldIsReadAsBefore : Type 0
OldIsReadAsBefore = (bytes : Bytes) → format_in bytes ≡ Old → (block_fault bytes ≡ old_block_fault bytes) × (block_in bytes ≡ old_block_in bytes)

-- where bytes break no rule, the entries from a listed place on are those from that one on, whatever key is before
abbrev pub ListedEntriesAreTheLater : Type 0
ListedEntriesAreTheLater =
    (bytes : Bytes) → format_in bytes ≡ Prefixed → block_fault bytes ≡ None
    → (j : ℕ) → restart_entries * j < count_in bytes → (other : Bytes)
    → entries_by Prefixed (count_in bytes - restart_entries * j) other (drop (listed_in bytes j) (take (used_in bytes) bytes))
    ≡ drop (restart_entries * j) (block_in bytes)

-- and with no key before them they break no rule: whatever a walk from a listed place reads lies in the bytes
abbrev pub ListedEntriesBreakNoRule : Type 0
ListedEntriesBreakNoRule =
    (bytes : Bytes) → format_in bytes ≡ Prefixed → block_fault bytes ≡ None
    → (j : ℕ) → restart_entries * j < count_in bytes
    → entries_fault_by Prefixed bytes (restart_entries * j) (count_in bytes - restart_entries * j) (listed_in bytes j) [] (drop (listed_in bytes j) (take (used_in bytes) bytes)) ≡ None

-- the key of a listed entry, which shares nothing
abbrev pub listed_key : Bytes → ℕ → Bytes
listed_key bytes j = key_by Prefixed [] (drop (listed_in bytes j) (take (used_in bytes) bytes))

-- the listed keys rise
abbrev pub ListedKeysRise : Type 0
ListedKeysRise =
    (bytes : Bytes) → format_in bytes ≡ Prefixed → block_fault bytes ≡ None
    → (j k : ℕ) → j < k → restart_entries * k < count_in bytes → IsBefore (listed_key bytes j) (listed_key bytes k)
