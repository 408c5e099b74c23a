-- A walk over the entries of a block comes by each of their keys.
use Rattle.std.proofs.Common.{◌≡◌, ◌<◌, ◌≤◌, ◌+◌, ℕ, zero, suc, [], ◌∷◌, length, drop, ap, arith}
use Rattle.std.specs.Prelude.{MatchOption, Option, Some, None}
use Rattle.map_model.specs.SortedMap.{Bytes}
use Rattle.entry_model.specs.Entries.{entry_of, keys_of}
use Rattle.block_model.specs.Formats.{Format, entries_by, key_by, width_by}
use Rattle.block_format.specs.Walking.{format_of, key_held, part_walked, value_at, walked}
use Rattle.block_format.specs.declared.walk.EntryWalk.{EntryWalk}
use Rattle.block_format.specs.declared.walk.ValuePlace.{ValuePlace}
use Rattle.store_check.specs.Values.{value_at_hand, values_in}

many_by : (f : Format) (n : ℕ) (before rest : Bytes) → length (entries_by f n before rest) ≡ n
unfolding entries_by
many_by f zero before rest = omega arith
many_by f (suc n) before rest = omega (arith, many_by f n (key_by f before rest) (drop (width_by f rest) rest))

many_walked : (walk : EntryWalk) (buffer bytes : Bytes) → length (walked walk buffer bytes) ≡ walk.left
many_walked walk buffer bytes = many_by (format_of walk.format) walk.left (key_held walk buffer) (part_walked walk bytes)

-- one step: its key, and those that are still to come
pub one_walked : (walk : EntryWalk) (buffer bytes : Bytes) (new : EntryWalk) (after : Bytes) (r : Option (Option ValuePlace)) → 0 < walk.left
    → MatchOption r ((walked walk buffer bytes ≡ []) × (walked new after bytes ≡ [])) (λ v. walked walk buffer bytes ≡ entry_of (key_held new after) (value_at v bytes) ∷ walked new after bytes)
    → (keys_of (walked walk buffer bytes) ≡ key_held new after ∷ keys_of (walked new after bytes)) × (walk.left ≡ new.left + 1)
one_walked walk buffer bytes new after None some both = absurd (omega (arith, some, many_walked walk buffer bytes, ap length both.0))
one_walked walk buffer bytes new after (Some v) some e = (ap keys_of e, omega (arith, ap length e, many_walked walk buffer bytes, many_walked new after bytes))

-- and its value
pub value_walked : (walk : EntryWalk) (buffer bytes : Bytes) (new : EntryWalk) (after : Bytes) (r : Option (Option ValuePlace)) → 0 < walk.left
    → MatchOption r ((walked walk buffer bytes ≡ []) × (walked new after bytes ≡ [])) (λ v. walked walk buffer bytes ≡ entry_of (key_held new after) (value_at v bytes) ∷ walked new after bytes)
    → values_in (walked walk buffer bytes) ≡ value_at_hand r + values_in (walked new after bytes)
value_walked walk buffer bytes new after None some both = absurd (omega (arith, some, many_walked walk buffer bytes, ap length both.0))
value_walked walk buffer bytes new after (Some None) some e = omega (arith, ap values_in e)
value_walked walk buffer bytes new after (Some (Some v)) some e = omega (arith, ap values_in e)

pub one_at_most : (r : Option (Option ValuePlace)) → value_at_hand r ≤ 1
one_at_most None = omega arith
one_at_most (Some None) = omega arith
one_at_most (Some (Some v)) = omega arith
