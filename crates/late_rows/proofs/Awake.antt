-- Walks that are awake among all, and one that wakes.
use Rattle.std.proofs.Common.{◌≡◌, ◌+◌, ◌<◌, ℕ, zero, suc, List, [], ◌∷◌, length, slice_set, refl, sym, ap, ◌∙◌, arith}
use Rattle.std.specs.Prelude.{Option, Some, None}
use Rattle.std.specs.List.{sum_by}
use Rattle.std.proofs.lemmas.List.Sums.{sum_by-cons, sum_by-set}
use Rattle.map_model.specs.SortedMap.{Bytes}
use Rattle.merge_rows.specs.Merges.{TableWalk}
use Rattle.late_rows.specs.Late.{awake_of, no_walk, waking_at, walk_in}

pub no_key : {P : Type 0} (key : Bytes) → None ≡ Some key → P
no_key key is = absurd (cc)

pub some_key : {P : Type 0} (key : Bytes) → Some key ≡ None → P
some_key key is = absurd (cc)

-- where none sleeps, all are awake
pub all_awake : (asleep : List (Option Bytes)) (walks : List TableWalk) → ((at : ℕ) → waking_at asleep at ≡ None) → awake_of asleep walks ≡ walks
all_awake [] walks none = refl
all_awake (o ∷ asleep) [] none = refl
all_awake (None ∷ asleep) (w ∷ walks) none = ap (λ (ws : List TableWalk). w ∷ ws) (all_awake asleep walks (λ at. none (suc at)))
all_awake (Some key ∷ asleep) (w ∷ walks) none = some_key key (none 0)

-- one that is awake becomes another
pub awake_set : (f : TableWalk → ℕ) (asleep : List (Option Bytes)) (walks : List TableWalk) (at : ℕ) (x : TableWalk) → at < length walks → waking_at asleep at ≡ None
    → sum_by f (awake_of asleep (slice_set walks at x)) + f (walk_in walks at) ≡ sum_by f (awake_of asleep walks) + f x
awake_set f asleep [] at x lt none = absurd (omega (arith, lt))
awake_set f [] (w ∷ walks) at x lt none = sum_by-set f (w ∷ walks) at x no_walk lt
awake_set f (None ∷ asleep) (w ∷ walks) zero x lt none =
    let old = sum_by-cons f w (awake_of asleep walks) in
    let new = sum_by-cons f x (awake_of asleep walks) in
    omega (arith, old, new)
awake_set f (Some key ∷ asleep) (w ∷ walks) zero x lt none = some_key key none
awake_set f (None ∷ asleep) (w ∷ walks) (suc at) x lt none =
    let old = sum_by-cons f w (awake_of asleep walks) in
    let new = sum_by-cons f w (awake_of asleep (slice_set walks at x)) in
    let rest = awake_set f asleep walks at x (omega (arith, lt)) none in
    omega (arith, old, new, rest)
awake_set f (Some key ∷ asleep) (w ∷ walks) (suc at) x lt none = awake_set f asleep walks at x (omega (arith, lt)) none

-- one that sleeps wakes
pub awake_woken : (f : TableWalk → ℕ) (asleep : List (Option Bytes)) (walks : List TableWalk) (at : ℕ) (key : Bytes) → at < length walks → waking_at asleep at ≡ Some key
    → sum_by f (awake_of (slice_set asleep at None) walks) ≡ sum_by f (awake_of asleep walks) + f (walk_in walks at)
awake_woken f [] walks at key lt is = no_key key is
awake_woken f (o ∷ asleep) [] at key lt is = absurd (omega (arith, lt))
awake_woken f (None ∷ asleep) (w ∷ walks) zero key lt is = no_key key is
awake_woken f (Some other ∷ asleep) (w ∷ walks) zero key lt is =
    let new = sum_by-cons f w (awake_of asleep walks) in
    omega (arith, new)
awake_woken f (None ∷ asleep) (w ∷ walks) (suc at) key lt is =
    let old = sum_by-cons f w (awake_of asleep walks) in
    let new = sum_by-cons f w (awake_of (slice_set asleep at None) walks) in
    let rest = awake_woken f asleep walks at key (omega (arith, lt)) is in
    omega (arith, old, new, rest)
awake_woken f (Some other ∷ asleep) (w ∷ walks) (suc at) key lt is = awake_woken f asleep walks at key (omega (arith, lt)) is

-- ---- who still sleeps, once one woke

pub sleeps_yet : (asleep : List (Option Bytes)) (at k : ℕ) (key : Bytes) → waking_at (slice_set asleep at None) k ≡ Some key → waking_at asleep k ≡ Some key
sleeps_yet [] at k key is = is
sleeps_yet (o ∷ asleep) zero zero key is = no_key key is
sleeps_yet (o ∷ asleep) zero (suc k) key is = is
sleeps_yet (o ∷ asleep) (suc at) zero key is = is
sleeps_yet (o ∷ asleep) (suc at) (suc k) key is = sleeps_yet asleep at k key is

pub woke_now : (asleep : List (Option Bytes)) (at k : ℕ) (key : Bytes) → waking_at asleep k ≡ Some key → waking_at (slice_set asleep at None) k ≡ None → k ≡ at
woke_now [] at k key is none = no_key key is
woke_now (o ∷ asleep) zero zero key is none = refl
woke_now (o ∷ asleep) zero (suc k) key is none = some_key key (sym is ∙ none)
woke_now (o ∷ asleep) (suc at) zero key is none = some_key key (sym is ∙ none)
woke_now (o ∷ asleep) (suc at) (suc k) key is none = ap suc (woke_now asleep at k key is none)

-- a sleeper has a place
pub sleeps_within : (asleep : List (Option Bytes)) (at : ℕ) (key : Bytes) → waking_at asleep at ≡ Some key → at < length asleep
sleeps_within [] at key is = no_key key is
sleeps_within (o ∷ asleep) zero key is = omega arith
sleeps_within (o ∷ asleep) (suc at) key is = let rest = sleeps_within asleep at key is in omega (arith, rest)

-- how many sleep: fewer, once one woke
abbrev pub sleepers : List (Option Bytes) → ℕ
sleepers [] = 0
sleepers (None ∷ asleep) = sleepers asleep
sleepers (Some key ∷ asleep) = suc (sleepers asleep)

pub fewer_sleep : (asleep : List (Option Bytes)) (at : ℕ) (key : Bytes) → waking_at asleep at ≡ Some key → sleepers (slice_set asleep at None) < sleepers asleep
fewer_sleep [] at key is = no_key key is
fewer_sleep (None ∷ asleep) zero key is = no_key key is
fewer_sleep (Some other ∷ asleep) zero key is = omega arith
fewer_sleep (None ∷ asleep) (suc at) key is = fewer_sleep asleep at key is
fewer_sleep (Some other ∷ asleep) (suc at) key is = let rest = fewer_sleep asleep at key is in omega (arith, rest)

-- ---- a walk of another place

pub walk_other : (walks : List TableWalk) (at k : ℕ) (x : TableWalk) → (k ≡ at → ⊥) → walk_in (slice_set walks at x) k ≡ walk_in walks k
walk_other [] at k x other = refl
walk_other (w ∷ walks) zero zero x other = absurd (other refl)
walk_other (w ∷ walks) zero (suc k) x other = refl
walk_other (w ∷ walks) (suc at) zero x other = refl
walk_other (w ∷ walks) (suc at) (suc k) x other = walk_other walks at k x (λ same. other (ap suc same))

pub walk_here : (walks : List TableWalk) (at : ℕ) (x : TableWalk) → at < length walks → walk_in (slice_set walks at x) at ≡ x
walk_here [] at x lt = absurd (omega (arith, lt))
walk_here (w ∷ walks) zero x lt = refl
walk_here (w ∷ walks) (suc at) x lt = walk_here walks at x (omega (arith, lt))
