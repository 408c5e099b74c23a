-- What the rules say of two slots, and of the keys of the tables of a version.
use Rattle.std.specs.Prelude.{ℕ, ◌+◌, nat_lt, ◌==◌, Bool, not, ◌&&◌, ◌||◌, List, [], ◌∷◌, Option, None}
use Rattle.map_model.specs.SortedMap.{Bytes}
use Rattle.byte_fields.specs.Faults.{Fault, refuse}
use Rattle.key_base.specs.ByteOrder.{is_before}
use Rattle.manifest_model.specs.Version.{Version}

-- 11: both slots are open, with one epoch; it is a fault of slot B
abbrev pub epochs_fault : Version → Version → Option Fault
epochs_fault in_a in_b = refuse (in_a.epoch == in_b.epoch) 8 11 None

-- of two open slots the one of the greater epoch holds
abbrev pub is_newer : Version → Version → Bool
is_newer v other = nat_lt other.epoch v.epoch

-- the level of a table, its least and its greatest key, and the end of its last deleted range, no bytes where it has none
pub record KeyRange : Type 0 where
  pub level : ℕ
  pub least : Bytes
  pub greatest : Bytes
  pub reach : Bytes

-- in a deeper level a table's keys are above those of the table before it, and not below the end of its ranges
abbrev pub follows : KeyRange → KeyRange → Bool
follows before range =
    not (before.level == range.level) || range.level == 0 || (is_before before.greatest range.least && not (is_before range.least before.reach))

-- 12: the tables of a deeper level do not rise without overlap; the ranges are in the order of the rows, and the place is
-- the second row's
unfoldable pub ranges_after : ℕ → KeyRange → List KeyRange → Option Fault
ranges_after place before [] = None
ranges_after place before (range ∷ later) = refuse (not (follows before range)) place 12 (ranges_after (place + 64) range later)

unfoldable pub ranges_fault : List KeyRange → Option Fault
ranges_fault [] = None
ranges_fault (range ∷ later) = ranges_after 128 range later
