-- The leaves of whole keys: nothing of a key is left out, and nothing is kept beside it.
use Rattle.std.specs.Prelude.{ℕ, Bool, not, ◌&&◌, List, map}
use Rattle.std.specs.List.{list_any}
use Rattle.filter_model.specs.Leaves.{Leaf}
use Rattle.filter_model.specs.Strings.{extends}

-- the leaf of a key: all of the key, which ends there where another key goes on from it
abbrev pub whole_leaf : List (List ℕ) → List ℕ → Leaf
whole_leaf keys k = record { stub = k; ends = list_any (extends k) keys; hash = 0; real = 0 }

-- the leaves of a list of keys, in its order
abbrev pub whole_leaves : List (List ℕ) → List Leaf
whole_leaves keys = map (whole_leaf keys) keys

-- and the keys of such leaves
abbrev pub stubs : List Leaf → List (List ℕ)
stubs ls = map (λ (l : Leaf). l.stub) ls

-- x runs past the key k: it goes on from k, from which no key does, so that a walk by x ends at the leaf of k
abbrev pub runs_past : List (List ℕ) → List ℕ → List ℕ → Bool
runs_past keys x k = not (list_any (extends k) keys) && extends k x
