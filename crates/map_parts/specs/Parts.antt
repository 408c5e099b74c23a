-- Faults and places of a body as the code has them.
use Rattle.std.specs.Prelude.{ℕ, ◌≤◌, length, Option}
use Rattle.std.specs.Option.{option_or}
use Rattle.byte_fields.specs.Faults.{Fault}
use Rattle.map_file_model.specs.Maps.{Bytes}
use Rattle.map_file_model.specs.Reading.{body_end, end_fault, head_fault, offsets_fault, offsets_place, pair_count_in, short_fault, sum_place, values_place}
use Rattle.map_parts.specs.declared.fault.MapFault.{MapFault}
use Rattle.map_parts.specs.declared.parts.Parts.{Parts}

abbrev pub seen : MapFault → Fault
seen f = record { place = f.place; rule = f.rule }

-- the parts of a body
abbrev pub parts_in : Bytes → Parts
parts_in bytes = record { pairs = pair_count_in bytes; offsets = offsets_place bytes; values = values_place bytes; sum = sum_place bytes }

-- rule 1 is kept: there are as many bytes as the head and the last offset ask for
pub record HasParts (bytes : Bytes) : Type 0 where
  pub long : 24 ≤ length bytes
  pub values_within : values_place bytes ≤ length bytes
  pub end_within : body_end bytes ≤ length bytes

-- the rules before the image, and those behind it
abbrev pub front_rules : Bytes → Option Fault
front_rules bytes = option_or (short_fault bytes) (head_fault bytes)

abbrev pub rest_rules : Bytes → Option Fault
rest_rules bytes = option_or (offsets_fault bytes) (end_fault bytes)
