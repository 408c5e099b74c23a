-- The leaves that bytes spell.
use Rattle.std.specs.Prelude.{ℕ, zero, suc, ◌+◌, ◌==◌, nat_le, cond, ◌&&◌, List, [], ◌∷◌, length, take, drop, slice_index, Option, Some, None}
use Rattle.std.specs.Option.{option_map, option_and_then}
use Rattle.byteorder.specs.Endian.{little_number}
use Rattle.filter_model.specs.Leaves.{Leaf}

-- the length of the stub of the leaf with which the bytes begin
abbrev pub stub_len : List ℕ → ℕ
stub_len bytes = little_number 2 bytes

-- the leaf with which the bytes begin, its stub so long, where they are enough and its byte for the end is 0 or 1
abbrev pub leaf_at : ℕ → List ℕ → Option Leaf
leaf_at len bytes =
    cond (nat_le (11 + len) (length bytes) && nat_le (slice_index bytes (2 + len)) 1)
    (Some (record {
      stub = take len (drop 2 bytes);
      ends = slice_index bytes (2 + len) == 1;
      hash = little_number 4 (drop (3 + len) bytes);
      real = little_number 4 (drop (7 + len) bytes);
    }))
    None

abbrev pub leaf_in : List ℕ → Option Leaf
leaf_in bytes = leaf_at (stub_len bytes) bytes

-- what is left after a leaf
abbrev pub after_leaf : Leaf → List ℕ → List ℕ
after_leaf l bytes = drop (11 + length l.stub) bytes

-- so many leaves, and nothing after them
abbrev pub leaf_list_in : ℕ → List ℕ → Option (List Leaf)
leaf_list_in zero bytes = cond (length bytes == 0) (Some []) None
leaf_list_in (suc n) bytes = option_and_then (λ l. option_map (λ ls. l ∷ ls) (leaf_list_in n (after_leaf l bytes))) (leaf_in bytes)
