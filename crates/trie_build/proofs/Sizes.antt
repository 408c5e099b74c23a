-- How much room nodes take.
use Rattle.std.proofs.Common.{◌≡◌, ◌+◌, ◌≤◌, ℕ, List, [], ◌∷◌, ◌++◌, length, refl, arith}
use Rattle.std.specs.Prelude.{sum_by}
use Rattle.std.proofs.lemmas.List.Concat.{length-flat_map}
use Rattle.std.proofs.lemmas.List.Sums.{sum_by-append, sum_by-cons}
use Rattle.filter_model.specs.Nodes.{Node, all}

pub one_each : (ns : List Node) → sum_by (λ (n : Node). 1) ns ≡ length ns
one_each [] = refl
one_each (n ∷ ns) = omega (arith, one_each ns, sum_by-cons (λ (n : Node). 1) n ns)

-- room for nodes and one more is room for that one
pub room_for_one : (size : Node → ℕ) (ns : List Node) (n : Node) (limit : ℕ) → sum_by size (ns ++ n ∷ []) ≤ limit → sum_by size ns + size n ≤ limit
room_for_one size ns n limit h = omega (arith, h, sum_by-append size ns (n ∷ []))

pub branches_of : (ns : List Node) → length (all ns) ≡ sum_by (λ (n : Node). length n) ns
branches_of ns = length-flat_map (λ (n : Node). n) ns
