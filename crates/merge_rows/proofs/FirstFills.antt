-- Walks that are asked one after the other whether they need a block.
use Rattle.std.proofs.Common.{◌≡◌, ◌+◌, ◌≤◌, ◌<◌, ℕ, zero, suc, List, [], ◌∷◌, length, map, get_or, slice_set, refl, sym, ap, ap₂, ◌∙◌, subst, Bool, true, false, not, arith}
use Rattle.std.specs.List.{AllByRecursion, sum_by}
use Rattle.std.proofs.lemmas.Bool.{false≢true}
use Rattle.std.proofs.lemmas.List.Sums.{sum_by-cons, sum_by-set}
use Rattle.std.specs.Prelude.{Contains, Result, Ok, Err, Option, Some, None, ◌&&◌}
use Rattle.disk_trait.specs.Image.{Image}
use Rattle.entry_model.specs.Entries.{Entry}
use Rattle.merge_rows.specs.Merges.{TableWalk, blocks_in, left_above, numbered, row_count, walk_left}
use Rattle.merge_rows.specs.Reads.{HasReadAll, HaveReadAll, IsFewer, IsRead, PassSound, PassesSound, blocks_left, blocks_left_in, is_used_up, next_blocks, next_block_of, next_numbers, ones, wanted_by, wanted_block_of}
use Rattle.merge_rows.specs.Rows.{KeyFloor, clears}
use Rattle.merge_rows.specs.Steps.{AreCaughtUp, AreHeadsClear, AreSoundWalks, AreWalksIn, HasRoomFor, IsCaughtUp, IsHeadClear, IsSoundWalk, number_of_walk, numbers, stand_of_walk, stands}
use Rattle.table_file.specs.Opened.{Opened}
use Rattle.table_file.specs.Walks.{is_due}
use Rattle.merge_rows.proofs.SoundPasses.{pass_same, pass_set, pass_still, pass_then}

abbrev pub IsSoundHere : KeyFloor → List Opened → Image → TableWalk → Type 0
IsSoundHere floor tables image w = IsSoundWalk floor w.walk (blocks_in (numbered tables w.number) image)

-- a walk that needed none
pub record Passed (tells : Type 0) (floor : KeyFloor) (tables : List Opened) (image : Image) (old new : TableWalk) : Type 0 where
  pub number : new.number ≡ old.number
  pub room : new.walk.room ≡ old.walk.room
  pub same : tells → left_above floor tables image new ≡ left_above floor tables image old
  pub caught_up : tells → IsCaughtUp floor new.walk.now (walk_left tables image new)
  pub heads_pass : IsHeadClear floor new.walk.now
  pub sound : tells → IsSoundHere floor tables image old → IsSoundHere floor tables image new
  pub block : tells → new.walk.block ≡ old.walk.block
  pub left : blocks_left_in tables new ≡ blocks_left_in tables old
  pub none : wanted_block_of floor tables new ≡ 0
  pub whole : HasReadAll tables new
  pub fewer : tells → IsSoundHere floor tables image old → (wanted_block_of floor tables new ≡ 0) × (wanted_block_of floor tables old ≡ 0)

-- the first n needed none, and the others are where they stood
abbrev pub Went : (tells : Type 0) → KeyFloor → List Opened → Image → ℕ → List TableWalk → List TableWalk → Type 0
Went tells floor tables image zero old new = new ≡ old
Went tells floor tables image (suc i) [] new = ⊥
Went tells floor tables image (suc i) (w ∷ old) [] = ⊥
Went tells floor tables image (suc i) (w ∷ old) (x ∷ new) = Passed tells floor tables image w x × Went tells floor tables image i old new

-- ---- a list of which one item is another

pub map_set : {A : Type 0} (f : TableWalk → A) (walks : List TableWalk) (i : ℕ) (x d : TableWalk) → i < length walks → f x ≡ f (get_or walks i d) → map f (slice_set walks i x) ≡ map f walks
map_set f [] i x d lt same = absurd (omega (arith, lt))
map_set f (w ∷ more) zero x d lt same = ap (λ a. a ∷ map f more) same
map_set f (w ∷ more) (suc i) x d lt same = ap (λ l. f w ∷ l) (map_set f more i x d (omega (arith, lt)) same)

pub all_set : (P : TableWalk → Type 0) (walks : List TableWalk) (i : ℕ) (x d : TableWalk) → i < length walks → (P (get_or walks i d) → P x) → AllByRecursion P walks → AllByRecursion P (slice_set walks i x)
all_set P [] i x d lt then_x all = absurd (omega (arith, lt))
all_set P (w ∷ more) zero x d lt then_x all = (then_x all.0, all.1)
all_set P (w ∷ more) (suc i) x d lt then_x all = (all.0, all_set P more i x d (omega (arith, lt)) then_x all.1)

pub all_here : (P : TableWalk → Type 0) (walks : List TableWalk) (i : ℕ) (d : TableWalk) → i < length walks → AllByRecursion P walks → P (get_or walks i d)
all_here P [] i d lt all = absurd (omega (arith, lt))
all_here P (w ∷ more) zero d lt all = all.0
all_here P (w ∷ more) (suc i) d lt all = all_here P more i d (omega (arith, lt)) all.1

pub at_most : (f : TableWalk → ℕ) (walks : List TableWalk) (i : ℕ) (d : TableWalk) → i < length walks → f (get_or walks i d) ≤ sum_by f walks
at_most f [] i d lt = absurd (omega (arith, lt))
at_most f (w ∷ more) zero d lt = let sum = sum_by-cons f w more in omega (arith, sum)
at_most f (w ∷ more) (suc i) d lt = let sum = sum_by-cons f w more in let rest = at_most f more i d (omega (arith, lt)) in omega (arith, sum, rest)

-- an item that is one in their sum
pub set_some : (f : TableWalk → ℕ) (walks : List TableWalk) (i : ℕ) (x : TableWalk) → i < length walks → f x ≡ 1 → 1 ≤ sum_by f (slice_set walks i x)
set_some f [] i x lt one = absurd (omega (arith, lt))
set_some f (w ∷ more) zero x lt one = let sum = sum_by-cons f x more in omega (arith, sum, one)
set_some f (w ∷ more) (suc i) x lt one =
    let sum = sum_by-cons f w (slice_set more i x) in
    let rest = set_some f more i x (omega (arith, lt)) one in
    omega (arith, sum, rest)

-- its number is one of theirs
pub number_among : (walks : List TableWalk) (i : ℕ) (d : TableWalk) → i < length walks → Contains (numbers walks) (get_or walks i d).number
number_among [] i d lt = absurd (omega (arith, lt))
number_among (w ∷ more) zero d lt = (0, omega arith, refl)
number_among (w ∷ more) (suc i) d lt = let rest = number_among more i d (omega (arith, lt)) in (suc rest.0, omega (arith, rest.1), rest.2)

-- an item in its own place
set_again : (walks : List TableWalk) (i : ℕ) (d : TableWalk) → i < length walks → slice_set walks i (get_or walks i d) ≡ walks
set_again [] i d lt = absurd (omega (arith, lt))
set_again (w ∷ more) zero d lt = refl
set_again (w ∷ more) (suc i) d lt = ap (λ l. w ∷ l) (set_again more i d (omega (arith, lt)))

-- ---- a walk that is above the floor

above_clear : (floor : KeyFloor) (now : Option Entry) → is_used_up floor now ≡ false → IsHeadClear floor now
above_clear floor None above = tt
above_clear floor (Some e) above = of_not (clears floor e.key) above
  where
    of_not : (b : Bool) → not b ≡ false → b ≡ true
    of_not true is = refl
    of_not false is = absurd (false≢true (sym is))

above_caught : (floor : KeyFloor) (now : Option Entry) (left : List Entry) → is_used_up floor now ≡ false → IsCaughtUp floor now left
above_caught floor None left above = absurd (false≢true (sym above))
above_caught floor (Some e) left above = above_clear floor (Some e) above

-- it needs none, and stays where it is
pub passed_above : (tells : Type 0) (floor : KeyFloor) (tables : List Opened) (image : Image) (w : TableWalk) → is_used_up floor w.walk.now ≡ false → Passed tells floor tables image w w
passed_above tells floor tables image w above =
    let none : wanted_block_of floor tables w ≡ 0 = ap (λ (b : Bool). ones (b && is_due w.walk (row_count (numbered tables w.number)))) above in
    record {
      number = refl;
      room = refl;
      same = λ t. refl;
      caught_up = λ t. above_caught floor w.walk.now (walk_left tables image w) above;
      heads_pass = above_clear floor w.walk.now above;
      sound = λ t s. s;
      block = λ t. refl;
      left = refl;
      none = none;
      whole = λ ends. absurd (false≢true (sym above ∙ ap (is_used_up floor) ends));
      fewer = λ t s. (none, none);
    }

-- ---- as far as they went

module _ (tells : Type 0) (floor : KeyFloor) (tables : List Opened) (image : Image) where
  abbrev Gone : ℕ → List TableWalk → List TableWalk → Type 0
  Gone i old new = Went tells floor tables image i old new

  pub went_length : (i : ℕ) (old new : List TableWalk) → Gone i old new → length new ≡ length old
  went_length zero old new went = ap length went
  went_length (suc i) [] new went = absurd went
  went_length (suc i) (w ∷ old) [] went = absurd went
  went_length (suc i) (w ∷ old) (x ∷ new) went = ap suc (went_length i old new went.1)

  pub went_here : (i : ℕ) (old new : List TableWalk) (d : TableWalk) → Gone i old new → get_or new i d ≡ get_or old i d
  went_here zero old new d went = ap (λ (l : List TableWalk). get_or l 0 d) went
  went_here (suc i) [] new d went = absurd went
  went_here (suc i) (w ∷ old) [] d went = absurd went
  went_here (suc i) (w ∷ old) (x ∷ new) d went = went_here i old new d went.1

  pub went_on : (i : ℕ) (old new : List TableWalk) (x d : TableWalk) → i < length new → Gone i old new → Passed tells floor tables image (get_or new i d) x → Gone (suc i) old (slice_set new i x)
  went_on zero old [] x d lt went passed = absurd (omega (arith, lt))
  went_on zero [] (y ∷ new) x d lt went passed = let none : y ∷ new ≡ [] = went in absurd cc
  went_on zero (w ∷ old) (y ∷ new) x d lt went passed = let head : y ≡ w = cc in let tail : new ≡ old = cc in (subst (λ (v : TableWalk). Passed tells floor tables image v x) head passed, tail)
  went_on (suc i) [] new x d lt went passed = absurd went
  went_on (suc i) (w ∷ old) [] x d lt went passed = absurd went
  went_on (suc i) (w ∷ old) (y ∷ new) x d lt went passed = (went.0, went_on i old new x d (omega (arith, lt)) went.1 passed)

  -- one more that stays where it is
  pub went_by : (i : ℕ) (old new : List TableWalk) (d : TableWalk) → i < length new → Gone i old new → is_used_up floor (get_or new i d).walk.now ≡ false → Gone (suc i) old new
  went_by i old new d lt went above =
      subst (Gone (suc i) old) (set_again new i d lt) (went_on i old new (get_or new i d) d lt went (passed_above tells floor tables image (get_or new i d) above))

  pub went_map : {A : Type 0} (f : TableWalk → A) → ((w x : TableWalk) → Passed tells floor tables image w x → f x ≡ f w) → (i : ℕ) (old new : List TableWalk) → Gone i old new → map f new ≡ map f old
  went_map f keeps zero old new went = ap (map f) went
  went_map f keeps (suc i) [] new went = absurd went
  went_map f keeps (suc i) (w ∷ old) [] went = absurd went
  went_map f keeps (suc i) (w ∷ old) (x ∷ new) went = ap₂ (λ a l. a ∷ l) (keeps w x went.0) (went_map f keeps i old new went.1)

  pub went_sum : (f : TableWalk → ℕ) → (i : ℕ) (old new : List TableWalk) → Gone i old new → map f new ≡ map f old → sum_by f new ≡ sum_by f old
  went_sum f i old new went same = sums f new old same
    where
      sums : (f : TableWalk → ℕ) (xs ys : List TableWalk) → map f xs ≡ map f ys → sum_by f xs ≡ sum_by f ys
      sums f [] [] same = refl
      sums f [] (y ∷ ys) same = absurd cc
      sums f (x ∷ xs) [] same = absurd cc
      sums f (x ∷ xs) (y ∷ ys) same =
          let head : f x ≡ f y = cc in
          let tail : map f xs ≡ map f ys = cc in
          sum_by-cons f x xs ∙ ap₂ (λ (a b : ℕ). a + b) head (sums f xs ys tail) ∙ sym (sum_by-cons f y ys)

  pub went_sound : (i : ℕ) (old new : List TableWalk) → tells → Gone i old new → AreSoundWalks floor tables image old → AreSoundWalks floor tables image new
  went_sound zero old new t went sound = subst (AreSoundWalks floor tables image) (sym went) sound
  went_sound (suc i) [] new t went sound = absurd went
  went_sound (suc i) (w ∷ old) [] t went sound = absurd went
  went_sound (suc i) (w ∷ old) (x ∷ new) t went sound = (went.0.sound t sound.0, went_sound i old new t went.1 sound.1)

  pub went_wanted : (i : ℕ) (old new : List TableWalk) → tells → Gone i old new → AreSoundWalks floor tables image old → map (wanted_block_of floor tables) new ≡ map (wanted_block_of floor tables) old
  went_wanted zero old new t went sound = ap (map (wanted_block_of floor tables)) went
  went_wanted (suc i) [] new t went sound = absurd went
  went_wanted (suc i) (w ∷ old) [] t went sound = absurd went
  went_wanted (suc i) (w ∷ old) (x ∷ new) t went sound =
      let none = went.0.fewer t sound.0 in
      ap₂ (λ a l. a ∷ l) (none.0 ∙ sym none.1) (went_wanted i old new t went.1 sound.1)

  -- once all were asked
  pub all_ready : (i : ℕ) (old new : List TableWalk) → length old ≤ i → tells → Gone i old new → AreCaughtUp floor tables image new
  all_ready i [] [] le t went = tt
  all_ready zero [] (x ∷ new) le t went = let none : x ∷ new ≡ [] = went in absurd cc
  all_ready (suc i) [] (x ∷ new) le t went = absurd went
  all_ready zero (w ∷ old) new le t went = absurd (omega (arith, le))
  all_ready (suc i) (w ∷ old) [] le t went = absurd went
  all_ready (suc i) (w ∷ old) (x ∷ new) le t went = (went.0.caught_up t, all_ready i old new (omega (arith, le)) t went.1)

  pub all_clear : (i : ℕ) (old new : List TableWalk) → length old ≤ i → Gone i old new → AreHeadsClear floor new
  all_clear i [] [] le went = tt
  all_clear zero [] (x ∷ new) le went = let none : x ∷ new ≡ [] = went in absurd cc
  all_clear (suc i) [] (x ∷ new) le went = absurd went
  all_clear zero (w ∷ old) new le went = absurd (omega (arith, le))
  all_clear (suc i) (w ∷ old) [] le went = absurd went
  all_clear (suc i) (w ∷ old) (x ∷ new) le went = (went.0.heads_pass, all_clear i old new (omega (arith, le)) went.1)

  pub none_wanted : (i : ℕ) (old new : List TableWalk) → length old ≤ i → tells → Gone i old new → AreSoundWalks floor tables image old → sum_by (wanted_block_of floor tables) old ≡ 0
  none_wanted i [] new le t went sound = refl
  none_wanted zero (w ∷ old) new le t went sound = absurd (omega (arith, le))
  none_wanted (suc i) (w ∷ old) [] le t went sound = absurd went
  none_wanted (suc i) (w ∷ old) (x ∷ new) le t went sound =
      let sum = sum_by-cons (wanted_block_of floor tables) w old in
      let rest = none_wanted i old new (omega (arith, le)) t went.1 sound.1 in
      let none = (went.0.fewer t sound.0).1 in
      omega (arith, sum, rest, none)

  pub all_none : (i : ℕ) (old new : List TableWalk) → length old ≤ i → Gone i old new → wanted_by floor tables new ≡ 0
  all_none i [] [] le went = refl
  all_none zero [] (x ∷ new) le went = let none : x ∷ new ≡ [] = went in absurd cc
  all_none (suc i) [] (x ∷ new) le went = absurd went
  all_none zero (w ∷ old) new le went = absurd (omega (arith, le))
  all_none (suc i) (w ∷ old) [] le went = absurd went
  all_none (suc i) (w ∷ old) (x ∷ new) le went =
      let sum = sum_by-cons (wanted_block_of floor tables) x new in
      let rest = all_none i old new (omega (arith, le)) went.1 in
      omega (arith, sum, rest, went.0.none)

  pub all_whole : (i : ℕ) (old new : List TableWalk) → length old ≤ i → Gone i old new → HaveReadAll tables new
  all_whole i [] [] le went = tt
  all_whole zero [] (x ∷ new) le went = let none : x ∷ new ≡ [] = went in absurd cc
  all_whole (suc i) [] (x ∷ new) le went = absurd went
  all_whole zero (w ∷ old) new le went = absurd (omega (arith, le))
  all_whole (suc i) (w ∷ old) [] le went = absurd went
  all_whole (suc i) (w ∷ old) (x ∷ new) le went = (went.0.whole, all_whole i old new (omega (arith, le)) went.1)

  -- no block was passed
  pub went_passes : (i : ℕ) (old new : List TableWalk) → tells → Gone i old new → PassSound tables image old new
  went_passes zero old new t went = subst (PassSound tables image old) (sym went) (pass_same tables image old)
  went_passes (suc i) [] new t went = absurd went
  went_passes (suc i) (w ∷ old) [] t went = absurd went
  went_passes (suc i) (w ∷ old) (x ∷ new) t went = (pass_still tables image w x went.0.number (went.0.block t), went_passes i old new t went.1)

  -- ---- one more of them became another

  module _ (i : ℕ) (old now : List TableWalk) (d x : TableWalk) (went : Gone i old now) (lt : i < length now) where
    abbrev here : TableWalk
    here = get_or now i d

    abbrev set : List TableWalk
    set = slice_set now i x

    pub set_stands : x.number ≡ here.number → x.walk.room ≡ here.walk.room → stands set ≡ stands old
    set_stands same room = map_set stand_of_walk now i x d lt (ap₂ (λ (n r : ℕ). (n, r)) same room) ∙ went_map stand_of_walk (λ w y p. ap₂ (λ (n r : ℕ). (n, r)) p.number p.room) i old now went

    pub set_numbers : x.number ≡ here.number → numbers set ≡ numbers old
    set_numbers same = map_set number_of_walk now i x d lt same ∙ went_map number_of_walk (λ w y p. p.number) i old now went

    pub set_same : tells → left_above floor tables image x ≡ left_above floor tables image here → map (left_above floor tables image) set ≡ map (left_above floor tables image) old
    set_same t same = map_set (left_above floor tables image) now i x d lt same ∙ went_map (left_above floor tables image) (λ w y p. p.same t) i old now went

    pub sound_here : tells → AreSoundWalks floor tables image old → IsSoundHere floor tables image here
    sound_here t sound = all_here (IsSoundHere floor tables image) now i d lt (went_sound i old now t went sound)

    pub set_sound : tells → (IsSoundHere floor tables image here → IsSoundHere floor tables image x) → AreSoundWalks floor tables image old → AreSoundWalks floor tables image set
    set_sound t then_x sound = all_set (IsSoundHere floor tables image) now i x d lt then_x (went_sound i old now t went sound)

    pub set_next : tells → next_blocks set + here.walk.block ≡ next_blocks old + x.walk.block
    set_next t =
        let sum = sum_by-set next_block_of now i x d lt in
        let before = went_sum next_block_of i old now went (went_map next_block_of (λ w y p. p.block t) i old now went) in
        omega (arith, sum, before)

    pub set_places : tells → x.walk.block ≡ here.walk.block → next_numbers set ≡ next_numbers old
    set_places t same = map_set next_block_of now i x d lt same ∙ went_map next_block_of (λ w y p. p.block t) i old now went

    pub set_left : blocks_left tables set + blocks_left_in tables here ≡ blocks_left tables old + blocks_left_in tables x
    set_left =
        let sum = sum_by-set (blocks_left_in tables) now i x d lt in
        let before = went_sum (blocks_left_in tables) i old now went (went_map (blocks_left_in tables) (λ w y p. p.left) i old now went) in
        omega (arith, sum, before)

    pub set_passes : tells → PassesSound tables image here x → PassSound tables image old set
    set_passes t one = pass_then tables image old now set (went_passes i old now t went) (pass_set tables image now i x d lt one)

    same_wanted : tells → AreSoundWalks floor tables image old → wanted_by floor tables now ≡ wanted_by floor tables old
    same_wanted t sound = went_sum (wanted_block_of floor tables) i old now went (went_wanted i old now t went sound)

    pub set_wanted : tells → AreSoundWalks floor tables image old → wanted_by floor tables set + wanted_block_of floor tables here ≡ wanted_by floor tables old + wanted_block_of floor tables x
    set_wanted t sound =
        let sum = sum_by-set (wanted_block_of floor tables) now i x d lt in
        let before = same_wanted t sound in
        omega (arith, sum, before)

    pub wanted_here : tells → AreSoundWalks floor tables image old → wanted_block_of floor tables here ≤ wanted_by floor tables old
    wanted_here t sound =
        let most = at_most (wanted_block_of floor tables) now i d lt in
        let before = same_wanted t sound in
        omega (arith, most, before)

pub number_here : (tables : List Opened) (walks : List TableWalk) (i : ℕ) (d : TableWalk) → i < length walks → AreWalksIn tables (stands walks)
    → ((get_or walks i d).number < length tables) × HasRoomFor (numbered tables (get_or walks i d).number) (get_or walks i d).walk.room
number_here tables [] i d lt all = absurd (omega (arith, lt))
number_here tables (w ∷ more) zero d lt all = all.0
number_here tables (w ∷ more) (suc i) d lt all = number_here tables more i d (omega (arith, lt)) all.1

-- ---- what a result says

pub read_none : {E : Type 0} (result : Result Bool E) (old new : ℕ) → result ≡ Ok false → IsRead result old new → new ≡ old
read_none result old new is read = subst (λ r. IsRead r old new) is read

pub read_one : {E : Type 0} (result : Result Bool E) (old new : ℕ) → result ≡ Ok true → IsRead result old new → new < old
read_one result old new is read = subst (λ r. IsRead r old new) is read

pub fewer_none : {E : Type 0} (result : Result Bool E) (old new : ℕ) → result ≡ Ok false → IsFewer result old new → (new ≡ 0) × (old ≡ 0)
fewer_none result old new is fewer = subst (λ r. IsFewer r old new) is fewer

pub fewer_one : {E : Type 0} (result : Result Bool E) (old new : ℕ) → result ≡ Ok true → IsFewer result old new → new + 1 ≡ old
fewer_one result old new is fewer = subst (λ r. IsFewer r old new) is fewer

pub fewer_err : {E : Type 0} (result : Result Bool E) (why : E) (old new : ℕ) → result ≡ Err why → IsFewer result old new → 1 ≤ old
fewer_err result why old new is fewer = subst (λ r. IsFewer r old new) is fewer
