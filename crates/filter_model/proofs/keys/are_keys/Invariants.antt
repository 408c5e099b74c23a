use Rattle.std.proofs.Common.{◌≡◌, ◌<◌, ℕ, List, true, slice_index_or}
use Rattle.filter_model.specs.Keys.{IsKey}
use Rattle.filter_model.specs.Strings.{is_before}
use Rattle.filter_model.proofs.keys.are_keys.Given as goal

-- the keys passed are keys, and rise
abbrev pub invariant-loop-i : goal.invariant-loop-i
invariant-loop-i l =
    ((k : ℕ) (d : List ℕ) → k < l.i → IsKey (slice_index_or l.keys k d))
    × ((j k : ℕ) (d : List ℕ) → j < k → k < l.i → is_before (slice_index_or l.keys j d) (slice_index_or l.keys k d) ≡ true)
