-- What a crash may leave, and what its choices make: the same.
use Rattle.std.proofs.Common.{◌≡◌, ◌⊎◌, ◌≤◌, ◌<◌, ◌+◌, Bool, true, false, ℕ, zero, suc, List, [], ◌∷◌, ◌++◌, length, refl, sym, ap, ◌∙◌, arith, inl, inr, length-append}
use Rattle.std.proofs.lemmas.Bool.{cases_lt}
use Rattle.disk_trait.specs.declared.fault.Op.{Op}
use Rattle.disk_trait.specs.declared.fault.Op.TheVariants.{Read, Write, Sync}
use Rattle.byte_fields.specs.Spelling.{IsBytes}
use Rattle.disk_mem.specs.Calls.{Call, Left, LeftBy, Becomes, bytes_after}
use Rattle.disk_mem.specs.Choices.{Pick, whole, lost, other, AreBytePicks, crash_bytes, crashed_by, pending, pending_by, picked, pick_at}
use Rattle.disk_mem.proofs.Picks.{picked-other, picked-short}

-- ---- a pick of a list of them

abbrev IsBytePick : Pick → Type 0
IsBytePick whole = Unit {0}
IsBytePick lost = Unit {0}
IsBytePick (other bytes) = IsBytes bytes

length_decides : (a b : List ℕ) → (length a ≡ length b) ⊎ (length a ≡ length b → ⊥)
length_decides a b = elim (cases_lt (length a) (length b)) [
  | inl less ↦ inr (λ same. absurd (omega (arith, less, same)))
  | inr le ↦ elim (cases_lt (length b) (length a)) [ inl more ↦ inr (λ same. absurd (omega (arith, more, same))) | inr ge ↦ inl (omega (arith, le, ge)) ]
]

-- what a pick makes is one of what a write may have become
picked_becomes : (pick : Pick) (at : ℕ) (bytes was : List ℕ) → IsBytePick pick → Becomes at bytes was (picked pick at bytes was)
picked_becomes whole at bytes was fits = inl refl
picked_becomes lost at bytes was fits = inr (inl refl)
picked_becomes (other list) at bytes was fits = elim (length_decides list bytes) [
  | inl same ↦ inr (inr (list, fits, same, picked-other at list bytes was same))
  | inr apart ↦ inr (inl (picked-short at list bytes was apart))
]

pick_fits : (picks : List Pick) (n : ℕ) → AreBytePicks picks → IsBytePick (pick_at picks n)
pick_fits [] n fit = tt
pick_fits (whole ∷ more) zero fit = tt
pick_fits (lost ∷ more) zero fit = tt
pick_fits (other bytes ∷ more) zero fit = fit.0
pick_fits (whole ∷ more) (suc n) fit = pick_fits more n fit
pick_fits (lost ∷ more) (suc n) fit = pick_fits more n fit
pick_fits (other bytes ∷ more) (suc n) fit = pick_fits more n fit.1

crash_left_by : (op : Op) (done : Bool) (at : ℕ) (bytes read was : List ℕ) (pick : Pick) (Before : List ℕ → Type 0) → IsBytePick pick → Before was
    → LeftBy op done at bytes read Before (crashed_by op done at bytes read was pick)
crash_left_by Sync true at bytes read was pick Before fits here = refl
crash_left_by Sync false at bytes read was pick Before fits here = here
crash_left_by Read done at bytes read was pick Before fits here = here
crash_left_by Write done at bytes read was pick Before fits here = (was, here, picked_becomes pick at bytes was fits)

pub crash_is_left : (first : List ℕ) (calls : List Call) (picks : List Pick) → AreBytePicks picks → Left first calls (crash_bytes first calls picks)
crash_is_left first [] picks fit = refl
crash_is_left first (call ∷ earlier) picks fit =
    crash_left_by call.op call.done call.at call.bytes (bytes_after first earlier) (crash_bytes first earlier picks) (pick_at picks (pending earlier)) (Left first earlier)
    (pick_fits picks (pending earlier) fit) (crash_is_left first earlier picks fit)

-- ---- picks past the last write

pick_at-more : (picks more : List Pick) (n : ℕ) → n < length picks → pick_at (picks ++ more) n ≡ pick_at picks n
pick_at-more [] more n lt = absurd (omega (arith, lt))
pick_at-more (p ∷ picks) more zero lt = refl
pick_at-more (p ∷ picks) more (suc n) lt = pick_at-more picks more n (omega (arith, lt))

pick_at-next : (picks more : List Pick) (p : Pick) → pick_at (picks ++ p ∷ more) (length picks) ≡ p
pick_at-next [] more p = refl
pick_at-next (q ∷ picks) more p = pick_at-next picks more p

-- a call's own pick, where it has one, stays with more of them behind
past_by : (op : Op) (done : Bool) (at : ℕ) (bytes read was was2 : List ℕ) (picks more : List Pick) (n : ℕ)
    → pending_by op done n ≤ length picks → (n ≤ length picks → was2 ≡ was)
    → crashed_by op done at bytes read was2 (pick_at (picks ++ more) n) ≡ crashed_by op done at bytes read was (pick_at picks n)
past_by Sync true at bytes read was was2 picks more n few same = refl
past_by Sync false at bytes read was was2 picks more n few same = same few
past_by Read done at bytes read was was2 picks more n few same = same few
past_by Write done at bytes read was was2 picks more n few same =
    λ i. picked (pick_at-more picks more n (omega (arith, few)) i) at bytes (same (omega (arith, few)) i)

pub past_are_not_read : (first : List ℕ) (calls : List Call) (picks more : List Pick) → pending calls ≤ length picks → crash_bytes first calls (picks ++ more) ≡ crash_bytes first calls picks
past_are_not_read first [] picks more few = refl
past_are_not_read first (call ∷ earlier) picks more few =
    past_by call.op call.done call.at call.bytes (bytes_after first earlier) (crash_bytes first earlier picks) (crash_bytes first earlier (picks ++ more)) picks more (pending earlier) few
    (past_are_not_read first earlier picks more)

-- ---- some picks make each one

-- these picks, one for each pending write, leave these bytes by a crash after these calls
record Makes (first : List ℕ) (calls : List Call) (now : List ℕ) (picks : List Pick) : Type 0 where
  fit : AreBytePicks picks
  size : length picks ≡ pending calls
  made : now ≡ crash_bytes first calls picks

fit-more : (picks : List Pick) (p : Pick) → AreBytePicks picks → IsBytePick p → AreBytePicks (picks ++ p ∷ [])
fit-more [] whole fit one = tt
fit-more [] lost fit one = tt
fit-more [] (other bytes) fit one = (one, tt)
fit-more (whole ∷ picks) p fit one = fit-more picks p fit one
fit-more (lost ∷ picks) p fit one = fit-more picks p fit one
fit-more (other bytes ∷ picks) p fit one = (fit.0, fit-more picks p fit.1 one)

-- the pick that makes what a write became
becomes_picked : (at : ℕ) (bytes was now : List ℕ) → Becomes at bytes was now → (p : Pick) × IsBytePick p × (now ≡ picked p at bytes was)
becomes_picked at bytes was now (inl is) = (whole, tt, is)
becomes_picked at bytes was now (inr (inl is)) = (lost, tt, is)
becomes_picked at bytes was now (inr (inr some)) = (other some.0, some.1, some.3 ∙ sym (picked-other at some.0 bytes was some.2))

some_by : (first : List ℕ) (earlier : List Call) (op : Op) (done : Bool) (at : ℕ) (bytes now : List ℕ)
    → LeftBy op done at bytes (bytes_after first earlier) (Left first earlier) now → ((was : List ℕ) → Left first earlier was → (picks : List Pick) × Makes first earlier was picks)
    → (picks : List Pick) × AreBytePicks picks × (length picks ≡ pending_by op done (pending earlier))
    × (now ≡ crashed_by op done at bytes (bytes_after first earlier) (crash_bytes first earlier picks) (pick_at picks (pending earlier)))
some_by first earlier Sync true at bytes now left before = ([], tt, refl, left)
some_by first earlier Sync false at bytes now left before = let was = before now left in (was.0, was.1.fit, was.1.size, was.1.made)
some_by first earlier Read done at bytes now left before = let was = before now left in (was.0, was.1.fit, was.1.size, was.1.made)
some_by first earlier Write done at bytes now left before =
    let was = before left.0 left.1 in
    let one = becomes_picked at bytes left.0 now left.2 in
    let stays = past_are_not_read first earlier was.0 (one.0 ∷ []) (omega (arith, was.1.size)) in
    let its : pick_at (was.0 ++ one.0 ∷ []) (pending earlier) ≡ one.0 = ap (λ (n : ℕ). pick_at (was.0 ++ one.0 ∷ []) n) (sym was.1.size) ∙ pick_at-next was.0 [] one.0 in (
      was.0 ++ one.0 ∷ [],
      fit-more was.0 one.0 was.1.fit one.1,
      length-append was.0 (one.0 ∷ []) ∙ ap (λ (n : ℕ). n + 1) was.1.size,
      one.2 ∙ (λ i. picked (sym its i) at bytes ((was.1.made ∙ sym stays) i)),
    )

each_is_of_a_choice : (first : List ℕ) (calls : List Call) (now : List ℕ) → Left first calls now → (picks : List Pick) × Makes first calls now picks
each_is_of_a_choice first [] now left = ([], record { fit = tt; size = refl; made = left })
each_is_of_a_choice first (call ∷ earlier) now left =
    let some = some_by first earlier call.op call.done call.at call.bytes now left (each_is_of_a_choice first earlier) in
    (some.0, record { fit = some.1; size = some.2; made = some.3 })

pub each_is_made : (first : List ℕ) (calls : List Call) (now : List ℕ) → Left first calls now → (picks : List Pick) × AreBytePicks picks × (now ≡ crash_bytes first calls picks)
each_is_made first calls now left = let some = each_is_of_a_choice first calls now left in (some.0, some.1.fit, some.1.made)
