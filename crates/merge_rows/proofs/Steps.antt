-- What a step of a walk, and a floor that was passed, make of what is left.
use Rattle.std.proofs.Common.{◌≡◌, ◌≤◌, ◌<◌, ◌+◌, ◌⊎◌, inl, inr, ℕ, zero, suc, List, [], ◌∷◌, ◌++◌, length, drop, get_or, refl, sym, ap, ◌∙◌, subst, Bool, true, false, cond, not, arith}
use Rattle.std.specs.Prelude.{Option, Some, None, MatchOption, is_some}
use Rattle.std.specs.List.{AllByRecursion}
use Rattle.std.proofs.lemmas.Bool.{false≢true}
use Rattle.block_format.specs.Walking.{kept_from}
use Rattle.entry_model.specs.Entries.{Entry}
use Rattle.entry_model.specs.Newest.{ComesBehind, KeysRise}
use Rattle.map_model.specs.SortedMap.{Bytes}
use Rattle.merge_rows.specs.Merges.{TableWalk, with_hand}
use Rattle.merge_rows.specs.Reads.{is_used_up}
use Rattle.merge_rows.specs.Rows.{KeyFloor, above_floor, clears}
use Rattle.merge_rows.specs.Steps.{FloorRises, IsCaughtUp, IsSoundWalk, passed_at}
use Rattle.entry_model.proofs.Newest.{above_lower}
use Rattle.merge_rows.specs.Choosing.{IsHeadFrom}
use Rattle.merge_rows.proofs.Keys.{at_or_after, before_of, clears_later, is_before_of}
use Rattle.table_file.specs.Walks.{BeginsWell, HandsOut, CursorWalk, WalkGoesOn, blocks_on, blocks_there, first_of, is_due, joined_from, to_come}
use Rattle.table_file.specs.Opened.{Opened}
use Rattle.disk_trait.specs.Image.{Image}
use Rattle.block_model.specs.Index.{IndexRow}

-- ---- what is at hand

pub caught_first : (floor : KeyFloor) (now : Option Entry) (later : List Entry) → IsCaughtUp floor now (with_hand now later) → first_of (with_hand now later) ≡ now
caught_first floor None later none = ap first_of none
caught_first floor (Some e) later caught = refl

-- an entry at hand that is not above the floor is no row
pub used_up : (floor : KeyFloor) (now : Option Entry) (later : List Entry) → is_used_up floor now ≡ true → above_floor floor (with_hand now later) ≡ above_floor floor later
used_up floor None later used = refl
used_up floor (Some e) later used = elim (clears floor e.key) as (λ t. not t ≡ true → cond t (e ∷ above_floor floor later) (above_floor floor later) ≡ above_floor floor later) [
  | true ↦ λ not_so. absurd (false≢true not_so)
  | false ↦ λ _. refl
] used

-- ---- a step of a walk

pub handed : (old new : CursorWalk) (blocks : List (List Entry)) → is_some new.now ≡ true → HandsOut old new blocks → with_hand new.now (to_come new blocks) ≡ to_come old blocks
handed old new blocks some out = of_now new.now some out
  where
    of_now : (now : Option Entry) → is_some now ≡ true → MatchOption now (to_come old blocks ≡ []) (λ entry. to_come old blocks ≡ entry ∷ to_come new blocks)
        → with_hand now (to_come new blocks) ≡ to_come old blocks
    of_now None some out = absurd (false≢true some)
    of_now (Some e) some out = sym out

pub stepped_same : (floor : KeyFloor) (old new : CursorWalk) (blocks : List (List Entry)) → is_used_up floor old.now ≡ true → is_some new.now ≡ true → HandsOut old new blocks
    → above_floor floor (with_hand new.now (to_come new blocks)) ≡ above_floor floor (with_hand old.now (to_come old blocks))
stepped_same floor old new blocks used some out = ap (above_floor floor) (handed old new blocks some out) ∙ sym (used_up floor old.now (to_come old blocks) used)

-- of a list whose keys rise, what comes after the entry at hand
pub rises_behind : (now : Option Entry) (later : List Entry) → KeysRise (with_hand now later) → KeysRise later
rises_behind None later rises = rises
rises_behind (Some e) later rises = rises.1

all_at : (P : List Entry → Type 0) (blocks : List (List Entry)) (n : ℕ) → AllByRecursion P blocks → n < length blocks → P (get_or blocks n [])
all_at P [] n all lt = absurd (omega (arith, lt))
all_at P (b ∷ blocks) zero all lt = all.0
all_at P (b ∷ blocks) (suc n) all lt = all_at P blocks n all.1 (omega (arith, lt))

pub begins_on : (old new : CursorWalk) (blocks : List (List Entry)) → AllByRecursion (λ (block : List Entry). 1 ≤ length block) blocks → WalkGoesOn old new → BeginsWell old blocks → BeginsWell new blocks
begins_on old new blocks each (inl none) well lt =
    subst (λ (bound : Option Bytes). 1 ≤ length (kept_from bound (get_or blocks new.block []))) (sym none) (all_at (λ b. 1 ≤ length b) blocks new.block each lt)
begins_on old new blocks each (inr same) well lt =
    subst (λ (bound : Option Bytes). 1 ≤ length (kept_from bound (get_or blocks new.block []))) (sym same.0)
    (subst (λ (n : ℕ). 1 ≤ length (kept_from old.bound (get_or blocks n []))) (sym same.1) (well (subst (λ (n : ℕ). n < length blocks) same.1 lt)))

abbrev Clear : KeyFloor → List Entry → Type 0
Clear floor entries = AllByRecursion (λ (e : Entry). clears floor e.key ≡ true) entries

-- what is at hand is then above the floor
pub handed_clear : (floor : KeyFloor) (old new : CursorWalk) (blocks : List (List Entry)) → is_some new.now ≡ true → HandsOut old new blocks → Clear floor (to_come old blocks)
    → (is_used_up floor new.now ≡ false) × Clear floor (to_come new blocks)
handed_clear floor old new blocks some out clear = of_now new.now some (handed old new blocks some out)
  where
    of_now : (now : Option Entry) → is_some now ≡ true → with_hand now (to_come new blocks) ≡ to_come old blocks → (is_used_up floor now ≡ false) × Clear floor (to_come new blocks)
    of_now None some is = absurd (false≢true some)
    of_now (Some e) some is = let all : Clear floor (e ∷ to_come new blocks) = subst (Clear floor) (sym is) clear in (ap not all.0, all.1)

pub sound_step : (floor : KeyFloor) (old new : CursorWalk) (blocks : List (List Entry)) → is_some new.now ≡ true → HandsOut old new blocks → WalkGoesOn old new
    → IsSoundWalk floor old blocks → IsSoundWalk floor new blocks
sound_step floor old new blocks some out on sound = record {
  rises = subst KeysRise (sym (handed old new blocks some out)) (rises_behind old.now (to_come old blocks) sound.rises);
  clear = (handed_clear floor old new blocks some out sound.clear).1;
  some = sound.some;
  begins = begins_on old new blocks sound.some on sound.begins;
}

-- where nothing comes to hand, and what is to come is the same
pub sound_still : (floor : KeyFloor) (old new : CursorWalk) (blocks : List (List Entry)) → new.now ≡ None → to_come new blocks ≡ to_come old blocks → WalkGoesOn old new
    → IsSoundWalk floor old blocks → IsSoundWalk floor new blocks
sound_still floor old new blocks none same on sound = record {
  rises = subst (λ (o : Option Entry). KeysRise (with_hand o (to_come new blocks))) (sym none) (subst KeysRise (sym same) (rises_behind old.now (to_come old blocks) sound.rises));
  clear = subst (Clear floor) (sym same) sound.clear;
  some = sound.some;
  begins = begins_on old new blocks sound.some on sound.begins;
}

-- where a walk is at its end: nothing is in memory, and no block is left
past_all : (n : ℕ) (blocks : List (List Entry)) → length blocks ≤ n → drop n blocks ≡ []
past_all zero [] le = refl
past_all (suc n) [] le = refl
past_all zero (b ∷ blocks) le = absurd (omega (arith, le))
past_all (suc n) (b ∷ blocks) le = past_all n blocks (omega (arith, le))

pub ended : (walk : CursorWalk) (blocks : List (List Entry)) → walk.later ≡ [] → length blocks ≤ walk.block → to_come walk blocks ≡ []
ended walk blocks none le =
    ap (λ (l : List Entry). l ++ joined_from walk.bound (drop walk.block blocks)) none ∙ ap (joined_from walk.bound) (past_all walk.block blocks le)

-- ---- a floor is passed

-- the keys after a row are above its key
clear_above : (low : Bytes) (entries : List Entry) → AllByRecursion (ComesBehind low) entries → Clear (passed_at low) entries
clear_above low [] above = tt
clear_above low (e ∷ later) above = (is_before_of low e.key above.0, clear_above low later above.1)

-- what is to come after an entry at hand that is not before the row is above the row's key
behind_row : (floor : KeyFloor) (low : Bytes) (now : Option Entry) (later : List Entry) → IsCaughtUp floor now (with_hand now later) → IsHeadFrom low now → KeysRise (with_hand now later)
    → Clear (passed_at low) later
behind_row floor low None later none from rises = subst (Clear (passed_at low)) (sym none) tt
behind_row floor low (Some e) later caught from rises = at_or_after (Clear (passed_at low) later) e.key low from
    (λ same. clear_above low later (subst (λ (k : Bytes). AllByRecursion (ComesBehind k) later) same rises.0))
    (λ after. clear_above low later (above_lower low e.key later after rises.0))

pub sound_passed : (floor : KeyFloor) (low : Bytes) (walk : CursorWalk) (blocks : List (List Entry)) → IsCaughtUp floor walk.now (with_hand walk.now (to_come walk blocks)) → IsHeadFrom low walk.now
    → IsSoundWalk floor walk blocks → IsSoundWalk (passed_at low) walk blocks
sound_passed floor low walk blocks caught from sound = record {
  rises = sound.rises;
  clear = behind_row floor low walk.now (to_come walk blocks) caught from sound.rises;
  some = sound.some;
  begins = sound.begins;
}

pub rises_same : (floor : KeyFloor) → FloorRises floor floor
rises_same floor key clear = clear

pub rises_then : (a b c : KeyFloor) → FloorRises a b → FloorRises b c → FloorRises a c
rises_then a b c one two key clear = one key (two key clear)

-- a row that was passed
pub rises_passed : (old new : KeyFloor) (low : Bytes) → clears old low ≡ true → new ≡ passed_at low → FloorRises old new
rises_passed old new low clear is key later =
    clears_later old low key clear (before_of low key (subst (λ (f : KeyFloor). clears f key ≡ true) is later))

-- ---- whole steps of a walk, by what `advance` ensures

-- at Ok of an entry, or of none
pub advanced_same : (floor : KeyFloor) (old new : CursorWalk) (blocks : List (List Entry)) → is_used_up floor old.now ≡ true → HandsOut old new blocks
    → (new.now ≡ None → to_come new blocks ≡ []) → above_floor floor (with_hand new.now (to_come new blocks)) ≡ above_floor floor (with_hand old.now (to_come old blocks))
advanced_same floor old new blocks used out ends = of_now new.now refl out ∙ sym (used_up floor old.now (to_come old blocks) used)
  where
    of_now : (now : Option Entry) → new.now ≡ now → MatchOption now (to_come old blocks ≡ []) (λ entry. to_come old blocks ≡ entry ∷ to_come new blocks)
        → above_floor floor (with_hand now (to_come new blocks)) ≡ above_floor floor (to_come old blocks)
    of_now None is none = ap (above_floor floor) (ends is ∙ sym none)
    of_now (Some e) is some = ap (above_floor floor) (sym some)

-- at Err
pub failed_same : (floor : KeyFloor) (old new : CursorWalk) (blocks : List (List Entry)) → is_used_up floor old.now ≡ true → new.now ≡ None → to_come new blocks ≡ to_come old blocks
    → above_floor floor (with_hand new.now (to_come new blocks)) ≡ above_floor floor (with_hand old.now (to_come old blocks))
failed_same floor old new blocks used none same =
    ap (λ (o : Option Entry). above_floor floor (with_hand o (to_come new blocks))) none
    ∙ ap (above_floor floor) same
    ∙ sym (used_up floor old.now (to_come old blocks) used)

-- ---- a walk that passes over entries in memory

pub none_of : (o : Option Entry) → is_some o ≡ false → o ≡ None
none_of None none = refl
none_of (Some e) none = absurd (false≢true (sym none))

module _ (floor : KeyFloor) (rows : ℕ) (blocks : List (List Entry)) (old mid new : CursorWalk) (used : is_used_up floor mid.now ≡ true) where
  abbrev Left : CursorWalk → List Entry
  Left walk = above_floor floor (with_hand walk.now (to_come walk blocks))

  pub passed_same : Left mid ≡ Left old → is_some new.now ≡ true → HandsOut mid new blocks → Left new ≡ Left old
  passed_same same some out = stepped_same floor mid new blocks used some out ∙ same

  pub passed_sound : is_some new.now ≡ true → HandsOut mid new blocks → WalkGoesOn mid new → IsSoundWalk floor mid blocks → IsSoundWalk floor new blocks
  passed_sound some out on sound = sound_step floor mid new blocks some out on sound

  pub passed_moved : {T : Type 0} → (T → IsSoundWalk floor old blocks → IsSoundWalk floor mid blocks) → is_due mid rows ≡ false → is_some new.now ≡ true → (T → HandsOut mid new blocks)
      → (mid ≡ old) ⊎ ((is_used_up floor old.now ≡ true) × (is_due old rows ≡ false) × (T → IsSoundWalk floor old blocks → is_used_up floor mid.now ≡ false))
      → (is_used_up floor old.now ≡ true) × (is_due old rows ≡ false) × (T → IsSoundWalk floor old blocks → is_used_up floor new.now ≡ false)
  passed_moved sounds idle some out (inl same) = (
    subst (λ (w : CursorWalk). is_used_up floor w.now ≡ true) same used,
    subst (λ (w : CursorWalk). is_due w rows ≡ false) same idle,
    λ t sound. (handed_clear floor mid new blocks some (out t) (sounds t sound).clear).0,
  )
  passed_moved sounds idle some out (inr moved) = (moved.0, moved.1, λ t sound. (handed_clear floor mid new blocks some (out t) (sounds t sound).clear).0)

-- none is left, and none was
pub passed_all : (floor : KeyFloor) (old new : CursorWalk) (blocks : List (List Entry)) → is_used_up floor old.now ≡ true → new.now ≡ None → to_come new blocks ≡ [] → HandsOut old new blocks
    → above_floor floor (with_hand new.now (to_come new blocks)) ≡ above_floor floor (with_hand old.now (to_come old blocks))
passed_all floor old new blocks used none ends out = advanced_same floor old new blocks used out (λ _. ends)

pub caught_none : (floor : KeyFloor) (now : Option Entry) (later : List Entry) → now ≡ None → later ≡ [] → IsCaughtUp floor now (with_hand now later)
caught_none floor now later none ends = subst (λ (o : Option Entry). IsCaughtUp floor o (with_hand o later)) (sym none) ends

pub used_of : (used : Bool) → false ≡ not used → used ≡ true
used_of true is = refl
used_of false is = absurd (false≢true is)

pub moved_walk : {T A B : Type 0} (floor : KeyFloor) (blocks : List (List Entry)) (now old : TableWalk) (mid : CursorWalk) → now.walk ≡ mid
    → (now ≡ old) ⊎ (A × B × (T → IsSoundWalk floor old.walk blocks → is_used_up floor now.walk.now ≡ false))
    → (mid ≡ old.walk) ⊎ (A × B × (T → IsSoundWalk floor old.walk blocks → is_used_up floor mid.now ≡ false))
moved_walk floor blocks now old mid is (inl same) = inl (sym is ∙ ap (λ (w : TableWalk). w.walk) same)
moved_walk floor blocks now old mid is (inr moved) = inr (moved.0, moved.1, λ t s. subst (λ (w : CursorWalk). is_used_up floor w.now ≡ false) is (moved.2 t s))

-- the blocks of a table are as many as its index has rows
blocks_many : (page : ℕ) (rows : List IndexRow) (image : Image) → length (blocks_there page rows image) ≡ length rows
blocks_many page [] image = refl
blocks_many page (row ∷ later) image = ap suc (blocks_many (page + row.pages) later image)

pub all_blocks : (t : Opened) (image : Image) → length (blocks_on t image) ≡ length t.index.rows
all_blocks t image = blocks_many t.row.first_page t.index.rows image

-- a walk that says that it is at its end
pub walk_ended : (t : Opened) (image : Image) (walk : CursorWalk) → (length t.index.rows ≤ walk.block) × (walk.later ≡ []) → to_come walk (blocks_on t image) ≡ []
walk_ended t image walk ends = ended walk (blocks_on t image) ends.1 (omega (arith, ends.0, all_blocks t image))
