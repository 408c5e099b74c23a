-- What a waking key says of the keys of a table, and of its filter.
use Rattle.std.specs.Prelude.{◌≡◌, ◌≤◌, ℕ, true, false, List, Some, None}
use Rattle.std.specs.List.{Contains}
use Rattle.byte_fields.specs.Spelling.{IsBytes}
use Rattle.filter_model.specs.Answers.{ranged}
use Rattle.filter_model.specs.Keys.{IsKeyList}
use Rattle.filter_model.specs.Leaves.{leaves_of}
use Rattle.filter_model.specs.Strings.{is_before}
use Rattle.key_base.specs.Limits.{max_real_bits}
use Rattle.waking_keys.specs.Waking.{waking_key}

-- the least and the greatest of some keys
pub record AreEnds (keys : List (List ℕ)) (least greatest : List ℕ) : Type 0 where
  pub there : Contains keys least
  pub none_below : (k : List ℕ) → Contains keys k → is_before k least ≡ false
  pub none_above : (k : List ℕ) → Contains keys k → is_before greatest k ≡ false

-- no key from the bound on is below the waking key
abbrev pub NothingBeforeWaking : Type 0
NothingBeforeWaking =
    (hash_bits real_bits : ℕ) (keys : List (List ℕ)) (least greatest lo k waking : List ℕ) → real_bits ≤ max_real_bits → IsKeyList keys → AreEnds keys least greatest → IsBytes lo
    → waking_key real_bits (leaves_of hash_bits real_bits keys) least greatest lo ≡ Some waking → Contains keys k → is_before k lo ≡ false → is_before k waking ≡ false

-- where there is none, each key is below the bound
abbrev pub NothingWithoutWaking : Type 0
NothingWithoutWaking =
    (hash_bits real_bits : ℕ) (keys : List (List ℕ)) (least greatest lo k : List ℕ) → real_bits ≤ max_real_bits → IsKeyList keys → AreEnds keys least greatest → IsBytes lo
    → waking_key real_bits (leaves_of hash_bits real_bits keys) least greatest lo ≡ None → Contains keys k → is_before k lo ≡ true

-- the filter admits each range from the bound to a string that is not below the waking key
abbrev pub WakingIsAdmitted : Type 0
WakingIsAdmitted =
    (hash_bits real_bits : ℕ) (keys : List (List ℕ)) (least greatest lo hi waking : List ℕ) → real_bits ≤ max_real_bits → IsKeyList keys → AreEnds keys least greatest → IsBytes lo → IsBytes hi
    → waking_key real_bits (leaves_of hash_bits real_bits keys) least greatest lo ≡ Some waking → is_before hi lo ≡ false → is_before hi waking ≡ false
    → ranged real_bits (leaves_of hash_bits real_bits keys) lo hi ≡ true
