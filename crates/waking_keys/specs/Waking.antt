-- The least key that a table may have from a bound on, as its filter and its least and its greatest key say it.
use Rattle.std.specs.Prelude.{ℕ, true, List, [], get_or, Option, Some, None, if◌then◌else◌}
use Rattle.std.specs.Option.{option_map}
use Rattle.filter_model.specs.Answers.{begins, first}
use Rattle.filter_model.specs.Leaves.{Leaf}
use Rattle.filter_model.specs.Strings.{is_before}

-- the greater of two keys
abbrev pub greater : List ℕ → List ℕ → List ℕ
greater key other = if is_before key other then other else key

-- a leaf, for a number that is none of the list's
abbrev pub no_leaf : Leaf
no_leaf = record { stub = []; ends = true; hash = 0; real = 0 }

-- the least string of the leaf of a number
abbrev pub begins_at : ℕ → List Leaf → ℕ → List ℕ
begins_at real_bits leaves n = begins real_bits (get_or leaves n no_leaf)

-- Where the least key is not below the bound, that key. Else the least string of the first leaf that is not past the bound, or
-- the least key, which is greater. None where there is no such leaf, or where the greatest key is below the bound.
abbrev pub waking_key : ℕ → List Leaf → List ℕ → List ℕ → List ℕ → Option (List ℕ)
waking_key real_bits leaves least greatest lo =
    if is_before greatest lo then None
    else if is_before least lo then option_map (λ (n : ℕ). greater least (begins_at real_bits leaves n)) (first real_bits leaves lo)
    else Some least
