-- A step to the next row, once each source has caught up with the floor.
use Rattle.std.proofs.Common.{◌≡◌, ℕ, zero, suc, List, [], ◌∷◌, refl, sym, ap, ap₂, ◌∙◌, subst, Bool, true, false, cond, map}
use Rattle.std.specs.Prelude.{IfSome, IsTrue, Option, Some, None, filter, is_some, not, ◌||◌}
use Rattle.std.specs.List.{AllByRecursion}
use Rattle.std.proofs.lemmas.Bool.{false≢true}
use Rattle.disk_trait.specs.Image.{Image}
use Rattle.entry_model.specs.Entries.{Entry}
use Rattle.entry_model.specs.Newest.{KeysRise}
use Rattle.map_model.specs.SortedMap.{Bytes}
use Rattle.merge_rows.specs.Choosing.{IsHeadFrom, IsLeastAt, IsNone, heads_of}
use Rattle.merge_rows.specs.Merges.{Merge, TableWalk, blocks_in, left_above, merged_left, numbered, rows_left, sources_above, walk_left}
use Rattle.merge_rows.specs.Rows.{KeyFloor, above_floor, clears, merged_rows, rows_shown}
use Rattle.merge_rows.specs.Steps.{AreCaughtUp, AreHeadsClear, AreSoundWalks, FloorRises, HandsOutRow, IsCaughtUp, IsChosen, IsFaultStep, IsHeadClear, IsRowStep, IsSoundMerge, RowPasses, SourcesStay, StaysAt, passed_at}
use Rattle.merge_rows.proofs.Least.{least_from_low}
use Rattle.merge_rows.proofs.Keys.{not_before_itself}
use Rattle.merge_rows.proofs.Merged.{AllRise, cut, first_row, no_rows}
use Rattle.merge_rows.proofs.Steps.{caught_first, rises_passed, rises_same, rises_then, sound_passed}
use Rattle.table_file.specs.Opened.{Opened}
use Rattle.table_file.specs.Walks.{first_of, to_come}

-- the row that is chosen is above the floor, where each entry at hand is
pub least_clears : (floor : KeyFloor) (heads : List (Option Entry)) (place : ℕ) (e : Entry) → AllByRecursion (IsHeadClear floor) heads → IsLeastAt heads place e → clears floor e.key ≡ true
least_clears floor [] place e clear least = absurd least
least_clears floor (head ∷ older) zero e clear least = subst (IsHeadClear floor) least.0 clear.0
least_clears floor (head ∷ older) (suc place) e clear least = least_clears floor older place e clear.1 least.1

memory_clear : (floor : KeyFloor) (memory : List Entry) → IsCaughtUp floor (first_of memory) memory → IsHeadClear floor (first_of memory)
memory_clear floor [] caught = tt
memory_clear floor (e ∷ later) caught = caught

walks_clear : (floor : KeyFloor) (walks : List TableWalk) → AreHeadsClear floor walks → AllByRecursion (IsHeadClear floor) (map (λ (w : TableWalk). w.walk.now) walks)
walks_clear floor [] clear = tt
walks_clear floor (w ∷ more) clear = (clear.0, walks_clear floor more clear.1)

-- a row that was chosen passes the floor
pub chosen_passes : (floor next : KeyFloor) (memory : List Entry) (walks : List TableWalk) (now : Option Entry) → IsChosen (heads_of memory walks) now floor next
    → IsCaughtUp floor (first_of memory) memory → AreHeadsClear floor walks → RowPasses now floor next
chosen_passes floor next memory walks None chosen caught clear = subst (FloorRises floor) (sym chosen.1) (rises_same floor)
chosen_passes floor next memory walks (Some e) chosen caught clear =
    (least_clears floor (heads_of memory walks) chosen.0.0 e (memory_clear floor memory caught, walks_clear floor walks clear) chosen.0.1, chosen.2)

-- none of the entries at hand is before it
walks_from : (low : Bytes) (walks : List TableWalk) → AllByRecursion (IsHeadFrom low) (map (λ (w : TableWalk). w.walk.now) walks) → AllByRecursion (λ (w : TableWalk). IsHeadFrom low w.walk.now) walks
walks_from low [] from = tt
walks_from low (w ∷ more) from = (from.0, walks_from low more from.1)

pub chosen_least : (floor next : KeyFloor) (memory : List Entry) (walks : List TableWalk) (now : Option Entry) → IsChosen (heads_of memory walks) now floor next
    → IfSome now (λ row. AllByRecursion (λ (w : TableWalk). IsHeadFrom row.key w.walk.now) walks)
chosen_least floor next memory walks None chosen = tt
chosen_least floor next memory walks (Some e) chosen =
    walks_from e.key walks (least_from_low e.key (heads_of memory walks) chosen.0.0 e (not_before_itself e.key) chosen.0.1).1

-- where no entry is at hand, nothing is left
nothing_left : (floor : KeyFloor) (now : Option Entry) (left : List Entry) → IsCaughtUp floor now left → now ≡ None → left ≡ []
nothing_left floor now left caught none = subst (λ (o : Option Entry). IsCaughtUp floor o left) none caught

memory_ends : (memory : List Entry) → first_of memory ≡ None → memory ≡ []
memory_ends [] none = refl
memory_ends (e ∷ later) none = let some : Some e ≡ None = none in absurd cc

module _ (tables : List Opened) (image : Image) where
  fused : (floor : KeyFloor) (walks : List TableWalk) → map (left_above floor tables image) walks ≡ cut floor (map (walk_left tables image) walks)
  fused floor [] = refl
  fused floor (w ∷ more) = ap (λ (ls : List (List Entry)). left_above floor tables image w ∷ ls) (fused floor more)

  pub sources_cut : (floor : KeyFloor) (memory : List Entry) (walks : List TableWalk) → sources_above floor tables image memory walks ≡ cut floor (memory ∷ map (walk_left tables image) walks)
  sources_cut floor memory walks = ap (λ (ls : List (List Entry)). above_floor floor memory ∷ ls) (fused floor walks)

  heads_are : (floor : KeyFloor) (walks : List TableWalk) → AreCaughtUp floor tables image walks → map first_of (map (walk_left tables image) walks) ≡ map (λ (w : TableWalk). w.walk.now) walks
  heads_are floor [] caught = refl
  heads_are floor (w ∷ more) caught = ap₂ (λ (h : Option Entry) (hs : List (Option Entry)). h ∷ hs)
      (caught_first floor w.walk.now (to_come w.walk (blocks_in (numbered tables w.number) image)) caught.0) (heads_are floor more caught.1)

  walks_rise : (floor : KeyFloor) (walks : List TableWalk) → AreSoundWalks floor tables image walks → AllRise (map (walk_left tables image) walks)
  walks_rise floor [] sound = tt
  walks_rise floor (w ∷ more) sound = (sound.0.rises, walks_rise floor more sound.1)

  walks_end : (floor : KeyFloor) (walks : List TableWalk) → AreCaughtUp floor tables image walks → AllByRecursion IsNone (map (λ (w : TableWalk). w.walk.now) walks)
      → AllByRecursion (λ (s : List Entry). s ≡ []) (map (walk_left tables image) walks)
  walks_end floor [] caught none = tt
  walks_end floor (w ∷ more) caught none = (nothing_left floor w.walk.now (walk_left tables image w) caught.0 none.0, walks_end floor more caught.1 none.1)

  walks_pass : (floor : KeyFloor) (low : Bytes) (walks : List TableWalk) → AreCaughtUp floor tables image walks → AllByRecursion (IsHeadFrom low) (map (λ (w : TableWalk). w.walk.now) walks)
      → AreSoundWalks floor tables image walks → AreSoundWalks (passed_at low) tables image walks
  walks_pass floor low [] caught from sound = tt
  walks_pass floor low (w ∷ more) caught from sound =
      (sound_passed floor low w.walk (blocks_in (numbered tables w.number) image) caught.0 from.0 sound.0, walks_pass floor low more caught.1 from.1 sound.1)

  module _ (floor next : KeyFloor) (memory : List Entry) (walks : List TableWalk) (caught : AreCaughtUp floor tables image walks) (rises : KeysRise memory)
      (sound : AreSoundWalks floor tables image walks) where
    abbrev sources : List (List Entry)
    sources = memory ∷ map (walk_left tables image) walks

    heads : map first_of sources ≡ heads_of memory walks
    heads = ap (λ (hs : List (Option Entry)). first_of memory ∷ hs) (heads_are floor walks caught)

    the_row : (place : ℕ) (e : Entry) → IsLeastAt (heads_of memory walks) place e → clears floor e.key ≡ true → next ≡ passed_at e.key
        → merged_rows (sources_above floor tables image memory walks) ≡ e ∷ merged_rows (sources_above next tables image memory walks)
    the_row place e least clear is =
        ap merged_rows (sources_cut floor memory walks)
        ∙ first_row sources place e floor next (rises, walks_rise floor walks sound) (subst (λ (hs : List (Option Entry)). IsLeastAt hs place e) (sym heads) least) clear is
        ∙ sym (ap (λ (ls : List (List Entry)). e ∷ merged_rows ls) (sources_cut next memory walks))

    no_row : (any : KeyFloor) → AllByRecursion IsNone (heads_of memory walks) → merged_rows (sources_above any tables image memory walks) ≡ []
    no_row any none = ap merged_rows (sources_cut any memory walks) ∙ no_rows any sources (memory_ends memory none.0, walks_end floor walks caught none.1)

    pub chosen_rows : (now : Option Entry) → IsChosen (heads_of memory walks) now floor next → RowPasses now floor next
        → HandsOutRow now (merged_rows (sources_above floor tables image memory walks)) (merged_rows (sources_above next tables image memory walks))
    chosen_rows None chosen passes = (no_row floor chosen.0, no_row next chosen.0)
    chosen_rows (Some e) chosen passes = the_row chosen.0.0 e chosen.0.1 passes.0 passes.1

    pub chosen_sound : (now : Option Entry) → IsChosen (heads_of memory walks) now floor next → AreSoundWalks next tables image walks
    chosen_sound None chosen = subst (λ (f : KeyFloor). AreSoundWalks f tables image walks) (sym chosen.1) sound
    chosen_sound (Some e) chosen = subst (λ (f : KeyFloor). AreSoundWalks f tables image walks) (sym chosen.2)
        (walks_pass floor e.key walks caught (least_from_low e.key (heads_of memory walks) chosen.0.0 e (not_before_itself e.key) chosen.0.1).1 sound)

-- Of merges: from the one that has caught up to the one with a row at hand.
module _ (tables : List Opened) (image : Image) (mid new : Merge) (memory_is : new.memory ≡ mid.memory) (walks_are : new.walks ≡ mid.walks)
    (chosen : IsChosen (heads_of mid.memory mid.walks) new.now mid.floor new.floor) (ready : AreCaughtUp mid.floor tables image mid.walks)
    (passes : RowPasses new.now mid.floor new.floor) (sound : IsSoundMerge mid tables image) where
  pub step_rows : HandsOutRow new.now (merged_left mid tables image) (merged_left new tables image)
  step_rows = subst (HandsOutRow new.now (merged_left mid tables image))
      (sym (ap₂ (λ (es : List Entry) (ws : List TableWalk). merged_rows (sources_above new.floor tables image es ws)) memory_is walks_are))
      (chosen_rows tables image mid.floor new.floor mid.memory mid.walks ready sound.memory sound.walks new.now chosen passes)

  pub step_sound : IsSoundMerge new tables image
  step_sound = record {
    memory = subst KeysRise (sym memory_is) sound.memory;
    walks = subst (AreSoundWalks new.floor tables image) (sym walks_are)
        (chosen_sound tables image mid.floor new.floor mid.memory mid.walks ready sound.memory sound.walks new.now chosen);
  }

-- ---- tombstones that are dropped

shown_row : (e : Entry) (rows : List Entry) (drops : Bool) → (not drops || is_some e.value) ≡ true → rows_shown drops (e ∷ rows) ≡ e ∷ rows_shown drops rows
shown_row e rows false some = refl
shown_row e rows true some = ap (λ (t : Bool). cond t (e ∷ filter (λ (x : Entry). is_some x.value) rows) (filter (λ (x : Entry). is_some x.value) rows)) some

dropped_row : (e : Entry) (rows : List Entry) (drops : Bool) → (not drops || is_some e.value) ≡ false → rows_shown drops (e ∷ rows) ≡ rows_shown drops rows
dropped_row e rows false none = absurd (false≢true (sym none))
dropped_row e rows true none = ap (λ (t : Bool). cond t (e ∷ filter (λ (x : Entry). is_some x.value) rows) (filter (λ (x : Entry). is_some x.value) rows)) none

shown_none : (drops : Bool) → rows_shown drops [] ≡ []
shown_none true = refl
shown_none false = refl

-- the row at hand is handed out, or not
abbrev pub IsShown : Bool → Bool → Option Entry → Type 0
IsShown shown drops now = IfSome now (λ e. shown ≡ (not drops || is_some e.value))

shown_rows : (drops : Bool) (now : Option Entry) (olds news : List Entry) → HandsOutRow now olds news → is_some now ≡ true → IsShown true drops now → HandsOutRow now (rows_shown drops olds) (rows_shown drops news)
shown_rows drops None olds news hands some shown = absurd (false≢true some)
shown_rows drops (Some row) olds news hands some shown = ap (rows_shown drops) hands ∙ shown_row row news drops (sym shown)

hidden_rows : (drops : Bool) (now : Option Entry) (olds news : List Entry) → HandsOutRow now olds news → is_some now ≡ true → IsShown false drops now → rows_shown drops news ≡ rows_shown drops olds
hidden_rows drops None olds news hands some hidden = absurd (false≢true some)
hidden_rows drops (Some row) olds news hands some hidden = sym (ap (rows_shown drops) hands ∙ dropped_row row news drops (sym hidden))

none_rows : (drops : Bool) (now : Option Entry) (olds news : List Entry) → HandsOutRow now olds news → is_some now ≡ false → HandsOutRow now (rows_shown drops olds) (rows_shown drops news)
none_rows drops None olds news hands none = (ap (rows_shown drops) hands.0 ∙ shown_none drops, ap (rows_shown drops) hands.1 ∙ shown_none drops)
none_rows drops (Some row) olds news hands none = absurd (false≢true (sym none))

-- where a row is hidden, tombstones are dropped
pub hidden_drops : (drops : Bool) (now : Option Entry) → is_some now ≡ true → IsShown false drops now → drops ≡ true
hidden_drops drops None some hidden = absurd (false≢true some)
hidden_drops true (Some row) some hidden = refl
hidden_drops false (Some row) some hidden = absurd (false≢true hidden)

pub passes_on : (now : Option Entry) (first old new : KeyFloor) → FloorRises first old → RowPasses now old new → RowPasses now first new
passes_on None first old new rises passes = rises_then first old new rises passes
passes_on (Some row) first old new rises passes = (rises row.key passes.0, passes.1)

pub rises_on : (now : Option Entry) (old new : KeyFloor) → RowPasses now old new → FloorRises old new
rises_on None old new passes = passes
rises_on (Some row) old new passes = rises_passed old new row.key passes.0 passes.1

pub sources_then : (tells : Bool) (tables : List Opened) (image : Image) (a b c : Merge) → SourcesStay tells tables image a b → SourcesStay tells tables image b c → SourcesStay tells tables image a c
sources_then tells tables image a b c one two = record {
  numbers_are = two.numbers_are ∙ one.numbers_are;
  stands_are = two.stands_are ∙ one.stands_are;
  drops_are = two.drops_are ∙ one.drops_are;
  sound = λ t s. two.sound t (one.sound t s);
}

-- Of merges: after some hidden rows, one row more, or none.
module _ (tells : Bool) (tables : List Opened) (image : Image) (first old new : Merge) (stay : SourcesStay tells tables image first old)
    (rows : IsTrue tells → IsSoundMerge first tables image → rows_left old tables image ≡ rows_left first tables image) (rises : FloorRises first.floor old.floor)
    (kept : SourcesStay tells tables image old new)
    (hands : IsTrue tells → IsSoundMerge old tables image → HandsOutRow new.now (merged_left old tables image) (merged_left new tables image))
    (passes : RowPasses new.now old.floor new.floor) where
  -- the rows of the last step, by what the new merge drops
  abbrev olds : List Entry
  olds = rows_shown new.drops (merged_left old tables image)

  olds_are : IsTrue tells → IsSoundMerge first tables image → olds ≡ rows_left first tables image
  olds_are t sound = ap (λ (d : Bool). rows_shown d (merged_left old tables image)) kept.drops_are ∙ rows t sound

  pub row_step : is_some new.now ≡ true → IsShown true new.drops new.now → IsRowStep tells tables image first new
  row_step some shown = record {
    rows = λ t sound. subst (λ (l : List Entry). HandsOutRow new.now l (rows_left new tables image)) (olds_are t sound)
        (shown_rows new.drops new.now (merged_left old tables image) (merged_left new tables image) (hands t (stay.sound t sound)) some shown);
    passes = passes_on new.now first.floor old.floor new.floor rises passes;
  }

  pub none_step : is_some new.now ≡ false → IsRowStep tells tables image first new
  none_step none = record {
    rows = λ t sound. subst (λ (l : List Entry). HandsOutRow new.now l (rows_left new tables image)) (olds_are t sound)
        (none_rows new.drops new.now (merged_left old tables image) (merged_left new tables image) (hands t (stay.sound t sound)) none);
    passes = passes_on new.now first.floor old.floor new.floor rises passes;
  }

  pub hidden_step : is_some new.now ≡ true → IsShown false new.drops new.now → IsTrue tells → IsSoundMerge first tables image → rows_left new tables image ≡ rows_left first tables image
  hidden_step some hidden t sound =
      hidden_rows new.drops new.now (merged_left old tables image) (merged_left new tables image) (hands t (stay.sound t sound)) some hidden ∙ olds_are t sound

-- a fault leaves the rows
pub fault_step : (tells : Bool) (tables : List Opened) (image : Image) (first old new : Merge)
    → (IsTrue tells → IsSoundMerge first tables image → rows_left old tables image ≡ rows_left first tables image) → FloorRises first.floor old.floor
    → StaysAt tells tables image old new → IsFaultStep tells tables image first new
fault_step tells tables image first old new rows rises stays = record {
  rows = λ t sound. ap (λ (d : Bool). rows_shown d (merged_left new tables image)) stays.sources.drops_are ∙ ap (rows_shown old.drops) (stays.left t) ∙ rows t sound;
  rises = subst (FloorRises first.floor) (sym stays.floor_is) rises;
  none = stays.none;
}
