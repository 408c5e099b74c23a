-- Set bits of a list of truth values.
use Rattle.std.specs.Prelude.{ℕ, Bool, false, List, take, slice_index_or}
use Rattle.std.specs.List.{count_by}

-- the set bits at places below i
abbrev pub rank_of : List Bool → ℕ → ℕ
rank_of bits i = count_by (λ bit. bit) (take i bits)

-- the bit at a place is set, which none is past the end
abbrev pub is_set_at : List Bool → ℕ → Bool
is_set_at bits place = slice_index_or bits place false
