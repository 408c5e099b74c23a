-- Keys by which the definition is shown: far, fast, s, top and toy; farther and fast.
use Rattle.std.specs.Prelude.{ℕ, List, [], ◌∷◌, Option, codes}
use Rattle.filter_model.specs.Examples.{far_to_toy, real_leaves}
use Rattle.filter_model.specs.Leaves.{base_leaves}
use Rattle.waking_keys.specs.Waking.{waking_key}

-- from a bound on, without real bits and with eight of them
abbrev pub far_to_toy_from : List ℕ → Option (List ℕ)
far_to_toy_from lo = waking_key 0 (base_leaves far_to_toy) (codes "far") (codes "toy") lo

abbrev pub far_to_toy_by_real_bits : List ℕ → Option (List ℕ)
far_to_toy_by_real_bits lo = waking_key 8 (real_leaves far_to_toy) (codes "far") (codes "toy") lo

-- two keys of which the filter knows less than the least key says
abbrev pub farther_and_fast_from : List ℕ → Option (List ℕ)
farther_and_fast_from lo = waking_key 0 (base_leaves (codes "farther" ∷ codes "fast" ∷ [])) (codes "farther") (codes "fast") lo
