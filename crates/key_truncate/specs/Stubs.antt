-- The stub of a key, as its length and whether the key ends with it.
use Rattle.std.specs.Prelude.{ℕ, ◌+◌, nat_lt, min, cond, List, [], map, length, slice_index_or}
use Rattle.key_truncate.specs.declared.stubs.Stub.{Stub}
use Rattle.filter_model.specs.Leaves.{shared_most, ends_of}
use Rattle.filter_model.specs.Strings.{shared}

-- from the longest prefix that the key shares with another: one byte more, where the key has one
abbrev pub stub_in : List (List ℕ) → List ℕ → Stub
stub_in keys k = record { len = min (shared_most keys k + 1) (length k); ends = ends_of keys k }

abbrev pub stubs_in : List (List ℕ) → List Stub
stubs_in keys = map (stub_in keys) keys

-- what the key at place i shares with the next one
abbrev pub shared_next : List (List ℕ) → ℕ → ℕ
shared_next keys i = cond (nat_lt (i + 1) (length keys)) (shared (slice_index_or keys i []) (slice_index_or keys (i + 1) [])) 0
