-- The lists of keys from which a filter is built.
use Rattle.std.specs.Prelude.{◌≡◌, ℕ, ◌<◌, ◌≤◌, ◌^◌, true, List, length}
use Rattle.std.specs.List.{All, AllPairs}
use Rattle.key_base.specs.Limits.{max_key_bytes}
use Rattle.byte_fields.specs.Spelling.{IsBytes}
use Rattle.filter_model.specs.Strings.{is_before}

-- a key: one byte or more, within its limit
pub record IsKey (k : List ℕ) : Type 0 where
  pub bytes : IsBytes k
  pub filled : 0 < length k
  pub short : length k ≤ max_key_bytes

-- one key or more, fewer than 2^32, strictly rising
pub record IsKeyList (keys : List (List ℕ)) : Type 0 where
  pub some : 0 < length keys
  pub few : length keys < 2 ^ 32
  pub each : All IsKey keys
  pub rising : AllPairs (λ a b. is_before a b ≡ true) keys
