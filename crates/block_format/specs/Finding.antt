-- How a key is sought in a block with shared prefixes: by halves over the listed entries, then from entry to entry.
use Rattle.std.specs.Prelude.{◌≡◌, ◌≤◌, ◌<◌, ◌+◌, ◌*◌, ◌==◌, ℕ, zero, suc, true, false, length, drop, Option, Some, None, if◌then◌else◌}
use Rattle.key_base.specs.ByteOrder.{is_before}
use Rattle.key_base.specs.Limits.{restart_entries}
use Rattle.key_base.specs.Prefixes.{alike}
use Rattle.map_model.specs.SortedMap.{Bytes}
use Rattle.block_model.specs.BlockReading.{block_fault, count_in, entries_place, used_in}
use Rattle.block_model.specs.FormatLaws.{listed_key}
use Rattle.block_model.specs.Formats.{Prefixed, format_in, key_by, shared_in, width_by}
use Rattle.block_format.specs.Walking.{format_of}
use Rattle.block_format.specs.declared.header.BlockHead.{BlockHead}

-- the bytes break no rule, and this is what their header says
pub record IsHeadOf (head : BlockHead) (bytes : Bytes) : Type 0 where
  pub whole : block_fault bytes ≡ None
  pub format : format_of head.format ≡ format_in bytes
  pub used : head.used ≡ used_in bytes
  pub count : head.count ≡ count_in bytes
  pub from : head.from ≡ entries_place (format_in bytes) bytes
  pub many : 1 ≤ head.count
  pub within : head.from ≤ head.used
  pub inside : head.used ≤ length bytes

-- The group of sixteen entries in which a key is where the block has it. The first key of the group is not above it, unless no
-- group is before this one; the first key of the next group is.
pub record IsGroupOf (bytes key : Bytes) (group : ℕ) : Type 0 where
  pub inside : restart_entries * group < count_in bytes
  pub from : 0 < group → is_before key (listed_key bytes group) ≡ false
  pub to : restart_entries * (group + 1) < count_in bytes → is_before key (listed_key bytes (group + 1)) ≡ true

-- so many entries the group has: sixteen, or as many as are left
pub record IsGroupSize (count group size : ℕ) : Type 0 where
  pub within : restart_entries * group + size ≤ count
  pub most : size ≤ restart_entries
  pub full : size < restart_entries → restart_entries * group + size ≡ count

-- an entry that begins some bytes lies in them, is above the key before, and shares with it all that both have alike
pub record IsClose (before rest : Bytes) : Type 0 where
  pub within : width_by Prefixed rest ≤ length rest
  pub shares : shared_in Prefixed rest ≡ alike before (key_by Prefixed before rest)
  pub above : is_before before (key_by Prefixed before rest) ≡ true

abbrev pub StandClose : ℕ → Bytes → Bytes → Type 0
StandClose zero before rest = Unit {0}
StandClose (suc more) before rest = IsClose before rest × StandClose more (key_by Prefixed before rest) (drop (width_by Prefixed rest) rest)

-- Of a key sought that is above the one before and has some bytes alike with it: how many it has alike with an entry's key that
-- shares as many or more, where that is below it too; by what the entry shares and the rest of its key.
abbrev pub alike_after : ℕ → Bytes → Bytes → ℕ → Option ℕ
alike_after shared own key common =
    if shared == common then (if is_before own (drop common key) then Some (common + alike own (drop common key)) else None) else Some common
