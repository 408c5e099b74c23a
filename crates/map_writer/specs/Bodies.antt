-- Pairs that are written, and why they are not.
use Rattle.std.specs.Prelude.{◌≡◌, ℕ, ◌<◌, ◌≤◌, ◌^◌, true, List, ◌++◌, length}
use Rattle.std.specs.List.{All, AllPairs}
use Rattle.byte_fields.specs.Spelling.{IsBytes}
use Rattle.filter_model.specs.Keys.{IsKey}
use Rattle.filter_model.specs.Strings.{is_before}
use Rattle.map_file_model.specs.Body.{body_head, body_of}
use Rattle.map_file_model.specs.Laws.{IsBody}
use Rattle.map_file_model.specs.Maps.{Bytes, Map, keys_of, max_map_pairs}
use Rattle.map_writer.specs.Plans.{whole_cutoff}
use Rattle.map_writer.specs.declared.error.FinishError.{FinishError}
use Rattle.map_writer.specs.declared.error.FinishError.TheVariants as error

-- keys that rise and as many values, a million at most, no value longer than 65,536 bytes; all are of bytes
pub record ArePairs (keys values : List Bytes) : Type 0 where
  pub as_many : length keys ≡ length values
  pub few : length keys ≤ max_map_pairs
  pub each : All IsKey keys
  pub rising : AllPairs (λ a b. is_before a b ≡ true) keys
  pub short : All (λ value. length value ≤ 65536) values
  pub bytes : All IsBytes values

-- the body by the rule for how many levels are dense
abbrev pub body_by : ℕ → Map → Bytes
body_by ratio pairs = body_of (whole_cutoff ratio (keys_of pairs)) pairs

-- it is a body of these pairs
abbrev pub IsBodyBy : ℕ → Map → Type 0
IsBodyBy ratio pairs = IsBody (whole_cutoff ratio (keys_of pairs)) pairs (body_by ratio pairs)

-- the most bytes of a body
abbrev pub max_body_bytes : ℕ
max_body_bytes = 2 ^ 31

-- no pair, or a body of so many bytes, or want of memory, of any body
abbrev pub IsCause : ℕ → Map → FinishError → Type 0
IsCause ratio pairs error.Memory = 0 < length pairs
IsCause ratio pairs error.NoKeys = length pairs ≡ 0
IsCause ratio pairs (error.Large n) = (length (body_by ratio pairs) ≡ n) × (max_body_bytes < n)

-- a head of so many pairs, and the image
abbrev pub headed : ℕ → Bytes → Bytes
headed pairs img = body_head pairs (length img) ++ img
