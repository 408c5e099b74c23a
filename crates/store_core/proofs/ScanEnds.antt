-- What a scan passed, and that it left no block out where it has given all its pairs.
use Rattle.std.proofs.Common.{◌≡◌, ◌∙◌, ◌<◌, ◌-◌, ℕ, Bool, true, false, not, List, [], ◌∷◌, refl, sym, ap, subst, arith}
use Rattle.std.specs.Prelude.{IfSome, Option, Some, None}
use Rattle.std.specs.List.{AllByRecursion}
use Rattle.std.proofs.lemmas.Bool.{eqb-true, false≢true}
use Rattle.disk_trait.specs.Image.{Image}
use Rattle.entry_model.specs.Entries.{Entry}
use Rattle.map_model.specs.Slices.{is_before, is_up_to}
use Rattle.map_model.specs.SortedMap.{Bytes}
use Rattle.late_rows.specs.Late.{IsNext, waking_at}
use Rattle.late_rows.specs.Opening.{SleepAbove}
use Rattle.merge_rows.proofs.Keys.{before_of, before_then, is_before_of}
use Rattle.merge_rows.proofs.SoundPasses.{pass_then}
use Rattle.merge_rows.specs.Choosing.{IsHeadFrom}
use Rattle.merge_rows.specs.Merges.{TableWalk}
use Rattle.merge_rows.specs.Reads.{AreAtEnd, HaveReadAll, PassSound}
use Rattle.store_core.proofs.ScanPairs.{from_then_after}
use Rattle.store_core.specs.Scans.{AreDoneUpTo, AreUpTo, is_ended}
use Rattle.table_file.specs.Opened.{Opened}

-- ---- the end

not_false : (b : Bool) → not b ≡ false → b ≡ true
not_false true e = refl
not_false false e = absurd (false≢true (sym e))

none_above : (high : Option Bytes) (now : Option Entry) → now ≡ None → IfSome now (λ e. is_up_to high e.key ≡ false)
none_above high None none = tt
none_above high (Some e) none = absurd cc

-- an entry that is not before one above the bound is above it
from_above : (high : Option Bytes) (low : Bytes) (now : Option Entry) → is_up_to high low ≡ false → IsHeadFrom low now → IfSome now (λ e. is_up_to high e.key ≡ false)
from_above high low None above from = tt
from_above None low (Some e) above from = absurd (false≢true (sym above))
from_above (Some hi) low (Some e) above from = ap not (from_then_after e.key low hi from (not_false (is_before hi low) above))

-- the rows have ended
pub ended_done : (high : Option Bytes) (tables : List Opened) (walks : List TableWalk) → AreAtEnd tables walks → AreDoneUpTo high tables walks
ended_done high tables [] ends = tt
ended_done high tables (w ∷ more) ends = (record { above = none_above high w.walk.now ends.0.none; whole = λ none. ends.0.whole }, ended_done high tables more ends.1)

-- or the row at hand, which is the least, is above the bound
pub bound_done : (high : Option Bytes) (tables : List Opened) (walks : List TableWalk) (now : Option Entry) (row : Entry) → now ≡ Some row → is_up_to high row.key ≡ false → HaveReadAll tables walks
    → IfSome now (λ r. AllByRecursion (λ (w : TableWalk). IsHeadFrom r.key w.walk.now) walks) → AreDoneUpTo high tables walks
bound_done high tables walks now row some above read least =
    all_done walks read (subst (λ (o : Option Entry). IfSome o (λ r. AllByRecursion (λ (w : TableWalk). IsHeadFrom r.key w.walk.now) walks)) some least)
  where
    all_done : (walks : List TableWalk) → HaveReadAll tables walks → AllByRecursion (λ (w : TableWalk). IsHeadFrom row.key w.walk.now) walks → AreDoneUpTo high tables walks
    all_done [] read from = tt
    all_done (w ∷ more) read from = (record { above = from_above high row.key w.walk.now above from.0; whole = read.0 }, all_done more read.1 from.1)

-- and then none sleeps: its key would be above the row's, and so above the bound
pub none_sleeps : (high : Option Bytes) (asleep : List (Option Bytes)) (key : Bytes) → is_up_to high key ≡ false → AreUpTo high asleep → SleepAbove key asleep → IsNext asleep None
none_sleeps high asleep key over up_to above = λ at. by_key at (waking_at asleep at) refl
  where
    before_too : (a b c : Bytes) → is_before a b ≡ true → is_before b c ≡ true → is_before a c ≡ true
    before_too a b c one two = is_before_of a c (before_then a b c (before_of a b one) (before_of b c two))

    no_key : (high : Option Bytes) (other : Bytes) → is_up_to high key ≡ false → is_up_to high other ≡ true → is_before key other ≡ true → ⊥
    no_key None other over up less = false≢true (sym over)
    no_key (Some hi) other over up less = false≢true (sym (ap not (before_too hi key other (not_false (is_before hi key) over) less)) ∙ up)

    by_key : (at : ℕ) (o : Option Bytes) → waking_at asleep at ≡ o → o ≡ None
    by_key at None is = refl
    by_key at (Some other) is = absurd (no_key high other over (up_to at other is) (is_before_of key other (above at other is)))

-- ---- what was passed

-- some blocks more, as they are said of the device and of the tables at first
pub passed_on : (tables first : List Opened) (here image : Image) (old mid new : List TableWalk) → tables ≡ first → here ≡ image → PassSound first image old mid → PassSound tables here mid new → PassSound first image old new
passed_on tables first here image old mid new same held one two =
    pass_then first image old mid new one (subst (λ (ts : List Opened). PassSound ts image mid new) same (subst (λ (h : Image). PassSound tables h mid new) held two))

-- ---- how many pairs more

-- where it has ended no pair more is wanted
pub ended_none : (left : Option ℕ) → is_ended left ≡ true → left ≡ Some 0
ended_none None ended = absurd (false≢true ended)
ended_none (Some n) ended = ap Some (eqb-true n 0 ended)

-- where fewer pairs were given than a number counts, more are wanted
pub more_left : (left : Option ℕ) (n : ℕ) → left ≡ Some (18446744073709551615 - n) → n < 18446744073709551615 → left ≡ Some 0 → ⊥
more_left left n is few none =
    let both : Some (18446744073709551615 - n) ≡ Some 0 = sym is ∙ none in
    let spent : 18446744073709551615 - n ≡ 0 = cc in
    absurd (omega (arith, spent, few))
