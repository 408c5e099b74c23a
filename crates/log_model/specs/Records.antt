-- The bytes of a log: records of changes, each behind an open gate, and then a gate that is not open.
use Rattle.std.specs.Prelude.{◌≡◌, ◌≢◌, ℕ, ◌+◌, ◌<◌, List, length, take, drop, slice_index, flat_map, Bool, ◌==◌, ◌&&◌, ◌||◌, not, nat_lt, nat_le, if◌then◌else◌, Option, Some, None}
use Rattle.std.specs.List.{AllByRecursion}
use Rattle.key_base.specs.ByteOrder.{is_before}
use Rattle.key_base.specs.Limits.{is_no_key_length, max_logged_value_bytes}
use Rattle.map_model.specs.SortedMap.{Bytes}
use Rattle.entry_model.specs.Entries.{entry_head_bytes}
use Rattle.entry_model.specs.Reading.{kind_in, key_length_in, value_length_in, width_in}
use Rattle.range_model.specs.Ranges.{DeletedRange}
use Rattle.range_model.specs.Sources.{Change}
use Rattle.log_model.specs.Changes.{IsLoggedChange, change_record, filled_by, range_in, range_kind}

-- the bytes begin with the records of these changes, and stand on behind them
pub record BeginsWith (changes : List Change) (bytes : Bytes) : Type 0 where
  pub sound : AllByRecursion IsLoggedChange changes
  pub within : filled_by changes < length bytes
  pub records : take (filled_by changes) bytes ≡ flat_map change_record changes

-- these changes and no more: the gate behind them is not open
pub record Spells (changes : List Change) (bytes : Bytes) : Type 0 where
  pub begins : BeginsWith changes bytes
  pub closed : slice_index bytes (filled_by changes) ≢ 1

-- ---- what may be wrong behind an open gate

abbrev pub is_no_kind : ℕ → Bool
is_no_kind kind = not (kind == 1) && not (kind == 2) && not (kind == range_kind)

-- a key of no byte or of too many, a value of too many, a delete with one, or a range whose upper bound is no key
abbrev pub breaks_a_limit : ℕ → ℕ → ℕ → Bool
breaks_a_limit kind key value =
    is_no_key_length key || nat_lt max_logged_value_bytes value || (kind == 2 && not (value == 0)) || (kind == range_kind && is_no_key_length value)

-- the lower bound does not come before the upper one
abbrev pub is_crossed_range : DeletedRange → Bool
is_crossed_range range = not (is_before range.lo range.hi)

-- a range whose bounds are crossed, or one key
abbrev pub is_crossed : Bytes → Bool
is_crossed body = kind_in body == range_kind && is_crossed_range (range_in body)

-- this rule where it is broken, else what later rules say
abbrev pub rule_if : Bool → ℕ → Option ℕ → Option ℕ
rule_if bad rule later = if bad then Some rule else later

-- The first rule that the bytes behind an open gate break. 1: the body or the gate behind it runs past them, tried on the
-- first seven bytes, and on the whole later; 2: the kind; 3: the lengths, and at last whether the bounds of a range rise.
abbrev pub broken_rule : Bytes → Option ℕ
broken_rule body =
    rule_if (nat_lt (length body) entry_head_bytes) 1
    (rule_if (is_no_kind (kind_in body)) 2
    (rule_if (breaks_a_limit (kind_in body) (key_length_in body) (value_length_in body)) 3
    (rule_if (nat_le (length body) (width_in body)) 1
    (rule_if (is_crossed body) 3
    None))))

-- behind some whole records an open gate stands at this place, and what is behind it breaks this rule first
pub record Breaks (place rule : ℕ) (bytes : Bytes) : Type 0 where
  pub before : List Change
  pub begins : BeginsWith before bytes
  pub here : place ≡ filled_by before
  pub opened : slice_index bytes place ≡ 1
  pub broken : broken_rule (drop (place + 1) bytes) ≡ Some rule
