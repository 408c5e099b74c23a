-- What an estimate and an explanation tell, by the filters and the indexes of open tables.
use Rattle.std.specs.Prelude.{◌≡◌, ℕ, Bool, true, false, is_some, Option, Some, None}
use Rattle.byte_fields.specs.Spelling.{IsBytes}
use Rattle.filter_model.specs.Answers.{point, tally}
use Rattle.key_base.specs.ByteOrder.{is_before}
use Rattle.line_model.specs.Replies.{Reply}
use Rattle.map_model.specs.SortedMap.{Bytes}
use Rattle.store_core.specs.Answers.{told_limit}
use Rattle.store_core.specs.declared.error.StoreError.{StoreError}
use Rattle.store_core.specs.declared.error.StoreError.TheVariants as error
use Rattle.table_file.specs.Opened.{Opened}
use Rattle.table_file.specs.Search.{block_for}

-- the upper bound, where there is one, is below the lower one
abbrev pub are_crossed : Bytes → Option Bytes → Bool
are_crossed low None = false
are_crossed low (Some high) = is_before high low

-- an upper bound, where there is one, is of bytes
abbrev pub IsHighOfBytes : Option Bytes → Type 0
IsHighOfBytes None = Unit {0}
IsHighOfBytes (Some high) = IsBytes high

-- the table's filter admits the key
abbrev pub is_admitting : Bytes → Opened → Bool
is_admitting key t = point t.filter.hash_bits t.filter.real_bits t.filter.leaves key

-- a block of the table is read for the key
abbrev pub is_read_for : Bytes → Opened → Bool
is_read_for key t = is_some (block_for t key)

-- how many keys between two bounds its filter counts
abbrev pub tally_of : Bytes → Bytes → Opened → ℕ
tally_of low high t = tally t.filter.real_bits t.filter.leaves low high

-- why nothing is told, by a store that was stopped or not, where this limit was broken
abbrev pub IsAskRefusal : Bool → Option Reply → StoreError → Type 0
IsAskRefusal stopped broken error.Stopped = stopped ≡ true
IsAskRefusal stopped broken (error.Limit limit) = (stopped ≡ false) × (broken ≡ Some (told_limit limit))
IsAskRefusal stopped broken error.Memory = ⊥
IsAskRefusal stopped broken (error.Device cause) = ⊥
IsAskRefusal stopped broken (error.Full need gap) = ⊥
IsAskRefusal stopped broken (error.Damaged damage) = ⊥
IsAskRefusal stopped broken error.NotAStore = ⊥
IsAskRefusal stopped broken error.AlreadyAStore = ⊥
IsAskRefusal stopped broken (error.BadSettings field) = ⊥
