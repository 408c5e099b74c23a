-- The ranges of tables are looked at two by two, from a place on.
use Rattle.std.proofs.Common.{◌≡◌, ◌≤◌, ◌<◌, ◌+◌, ◌*◌, ◌-◌, ℕ, suc, Bool, true, false, List, [], ◌∷◌, length, drop, get_or, refl, sym, ap, ◌∙◌, arith, length-drop}
use Rattle.std.specs.Prelude.{map, not, Option, Some, None}
use Rattle.std.proofs.Math.Seq.{drop-cons}
use Rattle.byte_fields.specs.Faults.{Fault, fault, refuse}
use Rattle.byte_fields.specs.declared.parts.Damage.TheVariants as damage
use Rattle.byte_fields.specs.declared.parts.Part.TheVariants as part
use Rattle.manifest.specs.Manifest.{place_of}
use Rattle.manifest_model.specs.Tables.{KeyRange, follows, ranges_after, ranges_fault}
use Rattle.table_file.specs.Opened.{Opened}
use Rattle.store_core.specs.Opening.{IsRangesDamage, opened_range}

-- of ranges whose first has none before it, where the second one's row is at this place
abbrev pub fault_from : ℕ → List KeyRange → Option Fault
fault_from place [] = None
fault_from place (range ∷ later) = ranges_after place range later

pub from_first : (rs : List KeyRange) → ranges_fault rs ≡ fault_from 128 rs
unfolding ranges_fault
from_first [] = refl
from_first (r ∷ rs) = refl

next_refused : (place : ℕ) (a b : KeyRange) (later : List KeyRange) → ranges_after place a (b ∷ later) ≡ refuse (not (follows a b)) place 12 (ranges_after (place + 64) b later)
unfolding ranges_after
next_refused place a b later = refl

-- where the second is after the first, it is the first of those that are left
pub from_next : (place : ℕ) (a b : KeyRange) (later : List KeyRange) → follows a b ≡ true → fault_from place (a ∷ b ∷ later) ≡ fault_from (place + 64) (b ∷ later)
from_next place a b later behind = next_refused place a b later ∙ ap (λ (t : Bool). refuse (not t) place 12 (ranges_after (place + 64) b later)) behind

-- else it is the fault
pub from_broken : (place : ℕ) (a b : KeyRange) (later : List KeyRange) → follows a b ≡ false → fault_from place (a ∷ b ∷ later) ≡ Some (fault place 12)
from_broken place a b later never = next_refused place a b later ∙ ap (λ (t : Bool). refuse (not t) place 12 (ranges_after (place + 64) b later)) never

after_none : (place : ℕ) (a : KeyRange) → ranges_after place a [] ≡ None
unfolding ranges_after
after_none place a = refl

-- one range alone has no fault
pub from_last : (place : ℕ) (ts : List Opened) → length ts ≤ 1 → fault_from place (map opened_range ts) ≡ None
from_last place [] few = refl
from_last place (t ∷ []) few = after_none place (opened_range t)
from_last place (t ∷ u ∷ more) few = absurd (omega (arith, few))

-- ---- at a place of the list

-- the fault of all is that of those from one place before on
abbrev pub StoodTo : List Opened → ℕ → Type 0
StoodTo ts i = ranges_fault (map opened_range ts) ≡ fault_from (64 + 64 * i) (map opened_range (drop (i - 1) ts))

pub stood_first : (ts : List Opened) → StoodTo ts 1
stood_first ts = from_first (map opened_range ts)

pub stood_end : (ts : List Opened) (i : ℕ) → length ts ≤ i → StoodTo ts i → ranges_fault (map opened_range ts) ≡ None
stood_end ts i all stood = stood ∙ from_last (64 + 64 * i) (drop (i - 1) ts) (omega (arith, all, length-drop (i - 1) ts))

module _ (ts : List Opened) (i : ℕ) (a b : Opened) (some : 1 ≤ i) (within : i < length ts) (a_is : a ≡ get_or ts (i - 1) a) (b_is : b ≡ get_or ts i b) where
  here : drop i ts ≡ b ∷ drop (suc i) ts
  here = drop-cons ts i b within ∙ ap (λ (t : Opened). t ∷ drop (suc i) ts) (sym b_is)

  two : drop (i - 1) ts ≡ a ∷ b ∷ drop (suc i) ts
  two =
      let next : suc (i - 1) ≡ i = omega (arith, some) in
      drop-cons ts (i - 1) a (omega (arith, within))
      ∙ ap (λ (t : Opened). t ∷ drop (suc (i - 1)) ts) (sym a_is)
      ∙ ap (λ (n : ℕ). a ∷ drop n ts) next
      ∙ ap (λ (xs : List Opened). a ∷ xs) here

  pub stood_next : follows (opened_range a) (opened_range b) ≡ true → StoodTo ts i → StoodTo ts (i + 1)
  stood_next behind stood =
      let place : 64 + 64 * i + 64 ≡ 64 + 64 * (i + 1) = omega arith in
      let index : i ≡ i + 1 - 1 = omega arith in
      stood
      ∙ ap (λ (xs : List Opened). fault_from (64 + 64 * i) (map opened_range xs)) two
      ∙ from_next (64 + 64 * i) (opened_range a) (opened_range b) (map opened_range (drop (suc i) ts)) behind
      ∙ ap (λ (n : ℕ). fault_from n (map opened_range (b ∷ drop (suc i) ts))) place
      ∙ ap (λ (xs : List Opened). fault_from (64 + 64 * (i + 1)) (map opened_range xs)) (sym here)
      ∙ ap (λ (n : ℕ). fault_from (64 + 64 * (i + 1)) (map opened_range (drop n ts))) index

  pub stood_broken : (slot at : ℕ) → follows (opened_range a) (opened_range b) ≡ false → StoodTo ts i → at ≡ place_of slot + 8 + (64 + 64 * i)
      → IsRangesDamage slot (ranges_fault (map opened_range ts)) (damage.Shape part.Manifest at 12)
  stood_broken slot at never stood at_is = (
    fault (64 + 64 * i) 12,
    stood ∙ ap (λ (xs : List Opened). fault_from (64 + 64 * i) (map opened_range xs)) two ∙ from_broken (64 + 64 * i) (opened_range a) (opened_range b) (map opened_range (drop (suc i) ts)) never,
    ap (λ (n : ℕ). damage.Shape part.Manifest n 12) at_is,
  )
