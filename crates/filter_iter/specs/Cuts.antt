-- What divides a list of leaves in two: the first ones, and the others.
use Rattle.std.specs.Prelude.{◌≡◌, ℕ, ◌<◌, ◌≤◌, nat_lt, not, Bool, List, length, get_or}
use Rattle.filter_model.specs.Answers.{begins}
use Rattle.filter_model.specs.Leaves.{Leaf}
use Rattle.filter_model.specs.Strings.{is_before}

-- the first k leaves pass, and no others
pub record FirstPass (test : Leaf → Bool) (ls : List Leaf) (k : ℕ) : Type 0 where
  pub within : k ≤ length ls
  pub pass : (i : ℕ) (d : Leaf) → i < length ls → test (get_or ls i d) ≡ nat_lt i k

-- the least string that fits is at or below hi
abbrev pub has_begun : ℕ → List ℕ → Leaf → Bool
has_begun real_bits hi l = not (is_before hi (begins real_bits l))
