-- A scan of all pairs goes along each table, over sound blocks alone, and leaves none out.
use Rattle.std.proofs.Common.{◌≡◌, ◌⊎◌, ◌∙◌, ◌≤◌, ◌<◌, ◌+◌, ◌-◌, ◌++◌, ℕ, Bool, List, [], ◌∷◌, true, false, cond, inl, inr, refl, sym, ap, ap₂, subst, arith, length, length-append, map}
use Rattle.std.specs.Prelude.{IfSome, Option, Some, None, is_some}
use Rattle.std.specs.List.{AllByRecursion}
use Rattle.std.specs.Option.{option_map}
use Rattle.std.proofs.lemmas.Bool.{cases_lt, false≢true}
use Rattle.disk_trait.specs.Image.{Image}
use Rattle.disk_trait.specs.World.{World}
use Rattle.entry_model.specs.Entries.{Entry}
use Rattle.filter_model.specs.Answers.{first}
use Rattle.filter_model.specs.Strings.{is_before}
use Rattle.level_merge.specs.JobValue.{all_numbers}
use Rattle.lines_in.specs.Causes.{SayFailed}
use Rattle.map_model.specs.Slices.{is_up_to}
use Rattle.map_model.specs.SortedMap.{Bytes}
use Rattle.merge_rows.specs.Merges.{TableWalk, numbered}
use Rattle.merge_rows.specs.Reads.{AreAtEnd, AreSoundFrom, PassSound}
use Rattle.merge_rows.specs.Steps.{numbers}
use Rattle.store_core.proofs.CompactSound.{SoundBefore, all_passed, begun_before, begun_numbers}
use Rattle.store_core.specs.Scans.{AreAllSound, AreDoneUpTo, IsStepFault, admits_keys, key_up_to, numbers_admitting, walks_between}
use Rattle.store_core.specs.declared.error.StoreError.{StoreError}
use Rattle.store_core.specs.declared.error.StoreError.TheVariants as error
use Rattle.surf_run.specs.Open.{opening_status}
use Rattle.table_file.specs.Opened.{Opened}
use Rattle.table_file.specs.Search.{row_at}
use Rattle.waking_keys.specs.Waking.{begins_at, greater}

-- ---- each table is admitted

nothing_before : (key : Bytes) → is_before key [] ≡ false
nothing_before [] = refl
nothing_before (b ∷ key) = refl

admitted : (t : Opened) → admits_keys [] None t ≡ true
admitted t =
    let bits = t.filter.real_bits in
    let leaves = t.filter.leaves in
    let least = t.index.least in
    ap₂ (λ (x y : Bool). is_some (key_up_to None (cond x None (cond y (option_map (λ (n : ℕ). greater least (begins_at bits leaves n)) (first bits leaves [])) (Some least)))))
    (nothing_before (row_at t.index.rows (length t.index.rows - 1)).last) (nothing_before least)

all_admitted : (tables : List Opened) → numbers_admitting [] None tables ≡ all_numbers (length tables)
all_admitted [] = refl
all_admitted (t ∷ older) =
    ap (λ (b : Bool). cond b (length older ∷ numbers_admitting [] None older) (numbers_admitting [] None older)) (admitted t) ∙ ap (λ (l : List ℕ). length older ∷ l) (all_admitted older)

-- ---- its walks, when it has given all its pairs

module _ (tables : List Opened) (image : Image) where
  numbers_stay : (old new : List TableWalk) → PassSound tables image old new → numbers new ≡ numbers old
  numbers_stay [] [] passes = refl
  numbers_stay [] (y ∷ new) passes = absurd passes
  numbers_stay (x ∷ old) [] passes = absurd passes
  numbers_stay (x ∷ old) (y ∷ new) passes = ap₂ (λ (n : ℕ) (l : List ℕ). n ∷ l) passes.0.number (numbers_stay old new passes.1)

  one_before : (old new : TableWalk) → SoundBefore tables image old → new.number ≡ old.number → AreSoundFrom (numbered tables old.number) image old.walk.block new.walk.block → SoundBefore tables image new
  one_before old new before number passed = λ t n is less lt.
      let here : numbered tables old.number ≡ Some t = ap (numbered tables) (sym number) ∙ is in
      elim (cases_lt n old.walk.block) [
        | inl earlier ↦ before t n here earlier lt
        | inr later ↦ (subst (λ (o : Option Opened). AreSoundFrom o image old.walk.block new.walk.block) here passed) n later less
      ]

  all_before : (old new : List TableWalk) → PassSound tables image old new → AllByRecursion (SoundBefore tables image) old → AllByRecursion (SoundBefore tables image) new
  all_before [] [] passes all = tt
  all_before [] (y ∷ new) passes all = absurd passes
  all_before (x ∷ old) [] passes all = absurd passes
  all_before (x ∷ old) (y ∷ new) passes all = (one_before x y all.0 passes.0.number passes.0.sound, all_before old new passes.1 all.1)

  none_at_hand : (now : Option Entry) → IfSome now (λ e. is_up_to None e.key ≡ false) → now ≡ None
  none_at_hand None above = refl
  none_at_hand (Some e) above = absurd (false≢true (sym above))

  all_at_end : (walks : List TableWalk) → AreDoneUpTo None tables walks → AreAtEnd tables walks
  all_at_end [] done = tt
  all_at_end (w ∷ more) done = let none = none_at_hand w.walk.now done.0.above in (record { none = none; whole = done.0.whole none }, all_at_end more done.1)

  pub whole_scan : (walks : List TableWalk) → PassSound tables image (walks_between [] None tables) walks → AreDoneUpTo None tables walks → AreAllSound tables image
  whole_scan walks passes done =
      let which = numbers_admitting [] None tables in
      let begun = walks_between [] None tables in
      all_passed tables image walks (numbers_stay begun walks passes ∙ begun_numbers tables which ∙ all_admitted tables) (all_at_end walks done) (all_before begun walks passes (begun_before tables image which))

-- ---- how many lines were said

-- a line more, whatever of it waits
pub line_more : (n : ℕ) (first now mid waits line total : Bytes) → mid ≡ now → total ≡ mid ++ (waits ++ (line ++ 10 ∷ [])) → n + length first ≤ length (now ++ waits) → n + 1 + length first ≤ length total
line_more n first now mid waits line total same is le =
    omega (
      arith,
      ap length is,
      length-append mid (waits ++ (line ++ 10 ∷ [])),
      length-append waits (line ++ 10 ∷ []),
      length-append line (10 ∷ []),
      length-append now waits,
      ap length same,
      le,
    )

-- ---- other endings

pub not_done : (meant status : ℕ) (a b : World) → (meant ≡ 0 → ⊥) → (status ≡ meant) ⊎ ((status ≡ 6) × SayFailed a b) → status ≡ 0 → ⊥
not_done meant status a b never (inl same) zero = never (sym same ∙ zero)
not_done meant status a b never (inr six) zero = let e : 6 ≡ 0 = sym six.0 ∙ zero in cc

pub step_not_done : (old new : World) (why : StoreError) → IsStepFault old new why → opening_status why ≡ 0 → ⊥
step_not_done old new (error.Device cause) is zero = let e : 4 ≡ 0 = zero in cc
step_not_done old new (error.Damaged damage) is zero = let e : 5 ≡ 0 = zero in cc
step_not_done old new error.Memory is zero = absurd is
step_not_done old new error.Stopped is zero = absurd is
step_not_done old new (error.Limit limit) is zero = absurd is
step_not_done old new (error.Full need gap) is zero = absurd is
step_not_done old new error.NotAStore is zero = absurd is
step_not_done old new error.AlreadyAStore is zero = absurd is
step_not_done old new (error.BadSettings field) is zero = absurd is

pub memory_not_done : (why : StoreError) → why ≡ error.Memory → opening_status why ≡ 0 → ⊥
memory_not_done why memory zero = let e : 7 ≡ 0 = sym (ap opening_status memory) ∙ zero in cc
