-- Replies that depend on the map alone.
use Rattle.std.proofs.Common.{◌≡◌, ap, refl}
use Rattle.std.specs.Prelude.{Option, Some, None}
use Rattle.line_model.specs.Limits.{limit_of}
use Rattle.line_model.specs.Replies.{BadLine, Bye, Counted, Reply, found, got}
use Rattle.line_model.specs.Requests.{Bad, Compact, Count, Del, Estimate, Explain, Flush, Get, Put, Quit, Range, Seek}
use Rattle.map_model.specs.Slices.{count, seek, slice}
use Rattle.map_model.specs.SortedMap.{Map, get}
use Rattle.state_model.specs.State.{State}
use Rattle.state_model.specs.Steps.{pairs, unless_limit}
use Rattle.surf_run.specs.Independence.{RepliesAreOfTheMap}

-- a limit comes first in both states
by_limit : (limit : Option Reply) (s t : State) (r q : Reply) → r ≡ q → (unless_limit limit s (r, s)).0 ≡ (unless_limit limit t (q, t)).0
by_limit (Some limit) s t r q same = refl
by_limit None s t r q same = same

pub of_the_map : RepliesAreOfTheMap
of_the_map filter_bytes s t (Get key) asks same = by_limit (limit_of (Get key)) s t _ _ (ap (λ (m : Map). got (get m key)) same)
of_the_map filter_bytes s t (Seek lo hi) asks same = by_limit (limit_of (Seek lo hi)) s t _ _ (ap (λ (m : Map). found (seek m lo hi)) same)
of_the_map filter_bytes s t (Range lo hi n) asks same = by_limit (limit_of (Range lo hi n)) s t _ _ (ap (λ (m : Map). pairs (slice m lo (Some hi) n)) same)
of_the_map filter_bytes s t (Count lo hi) asks same = by_limit (limit_of (Count lo hi)) s t _ _ (ap (λ (m : Map). Counted (count m lo (Some hi))) same)
of_the_map filter_bytes s t Quit asks same = by_limit (limit_of Quit) s t Bye Bye refl
of_the_map filter_bytes s t (Bad code) asks same = by_limit (limit_of (Bad code)) s t (BadLine code) (BadLine code) refl
of_the_map filter_bytes s t (Put key value) asks same = absurd asks
of_the_map filter_bytes s t (Del key) asks same = absurd asks
of_the_map filter_bytes s t (Estimate lo hi) asks same = absurd asks
of_the_map filter_bytes s t (Explain key) asks same = absurd asks
of_the_map filter_bytes s t Flush asks same = absurd asks
of_the_map filter_bytes s t Compact asks same = absurd asks
