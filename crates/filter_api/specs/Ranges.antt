-- Settings that are in range, and those of a table.
use Rattle.std.specs.Prelude.{◌≤◌}
use Rattle.byte_fields.specs.declared.parts.Row.{Row}
use Rattle.key_base.specs.Limits.{max_hash_bits, max_ratio, max_real_bits}
use Rattle.filter_api.specs.declared.settings.Settings.{Settings}

pub record InRange (s : Settings) : Type 0 where
  pub hash_bits : s.hash_bits ≤ max_hash_bits
  pub real_bits : s.real_bits ≤ max_real_bits

-- the settings with which the filter of a table was built
abbrev pub row_settings : Row → Settings
row_settings row = record { hash_bits = row.hash_bits; real_bits = row.real_bits; ratio = row.ratio }

-- they are in range; any ratio is
pub record IsRowInRange (row : Row) : Type 0 where
  pub settings : InRange (row_settings row)
  pub ratio : row.ratio ≤ max_ratio
