-- Windows, writes and counts at small values.
use Rattle.std.proofs.Common.{◌≡◌, ◌-◌, ◌^◌, [], ◌∷◌, refl, lit≤}
use Rattle.disk_trait.specs.World.{window, overwritten, Rose}

empty_window : window (λ place. place) 5 0 ≡ []
empty_window = refl

three_bytes : window (λ place. place) 5 3 ≡ 5 ∷ 6 ∷ 7 ∷ []
three_bytes = refl

two_written : window (overwritten (λ place. 9) 3 (7 ∷ 8 ∷ [])) 2 4 ≡ 9 ∷ 7 ∷ 8 ∷ 9 ∷ []
two_written = refl

-- the second write covers the end of the first
overlapping : window (overwritten (overwritten (λ place. 0) 0 (1 ∷ 2 ∷ 3 ∷ [])) 2 (4 ∷ 5 ∷ [])) 0 5 ≡ 1 ∷ 2 ∷ 4 ∷ 5 ∷ 0 ∷ []
overlapping = refl

once : Rose 0 1
once = lit≤ tt

-- a count that is at its last value rose too
at_the_last : Rose (2 ^ 64 - 1) (2 ^ 64 - 1)
at_the_last = lit≤ tt
