-- Blocks that walks passed are sound, and where no walk needs one and none has an entry each is at its end.
use Rattle.std.proofs.Common.{◌≡◌, ◌∙◌, ◌≤◌, ◌<◌, ℕ, zero, suc, List, [], ◌∷◌, length, map, get_or, slice_set, refl, sym, ap, subst, Bool, true, false, not, inl, inr, arith}
use Rattle.std.specs.Prelude.{Option, Some, None, ◌&&◌, is_some}
use Rattle.std.specs.List.{AllByRecursion}
use Rattle.std.proofs.lemmas.Bool.{cases_lt, false≢true}
use Rattle.std.proofs.lemmas.List.Sums.{sum_by-cons}
use Rattle.disk_trait.specs.Image.{Image}
use Rattle.entry_model.specs.Entries.{Entry}
use Rattle.merge_rows.specs.Choosing.{IsNone, heads_of}
use Rattle.merge_rows.specs.Merges.{TableWalk, numbered, row_count}
use Rattle.merge_rows.specs.Reads.{AreAtEnd, AreSoundFrom, HaveReadAll, PassSound, PassesSound, is_used_up, next_numbers, ones, wanted_block_of, wanted_by}
use Rattle.merge_rows.specs.Rows.{KeyFloor, clears}
use Rattle.merge_rows.specs.Steps.{FloorRises, IsChosen, numbers}
use Rattle.table_file.specs.Opened.{Opened}
use Rattle.table_file.specs.Search.{IsSoundBlock}
use Rattle.table_file.specs.Walks.{is_due}

-- ---- blocks of one table

no_block : (t : Option Opened) (image : Image) (from to : ℕ) → to ≤ from → AreSoundFrom t image from to
no_block None image from to le = tt
no_block (Some t) image from to le = λ n low high. absurd (omega (arith, low, high, le))

blocks_then : (t : Option Opened) (image : Image) (a b c : ℕ) → AreSoundFrom t image a b → AreSoundFrom t image b c → AreSoundFrom t image a c
blocks_then None image a b c one two = tt
blocks_then (Some t) image a b c one two = λ n low high. elim (cases_lt n b) [
  | inl before ↦ one n low before
  | inr behind ↦ two n behind high
]

pub blocks_of : (o : Option Opened) (t : Opened) (image : Image) (from to : ℕ) → o ≡ Some t → ((n : ℕ) → from ≤ n → n < to → IsSoundBlock t n image) → AreSoundFrom o image from to
blocks_of o t image from to is each = subst (λ (p : Option Opened). AreSoundFrom p image from to) (sym is) each

module _ (tables : List Opened) (image : Image) where
  -- ---- one walk

  -- it passed no block
  pub pass_still : (old new : TableWalk) → new.number ≡ old.number → new.walk.block ≡ old.walk.block → PassesSound tables image old new
  pass_still old new number block = record {
    number = number;
    onward = omega (arith, block);
    sound = no_block (numbered tables old.number) image old.walk.block new.walk.block (omega (arith, block));
  }

  one_then : (a b c : TableWalk) → PassesSound tables image a b → PassesSound tables image b c → PassesSound tables image a c
  one_then a b c one two = record {
    number = two.number ∙ one.number;
    onward = omega (arith, one.onward, two.onward);
    sound = blocks_then (numbered tables a.number) image a.walk.block b.walk.block c.walk.block one.sound
        (subst (λ (n : ℕ). AreSoundFrom (numbered tables n) image b.walk.block c.walk.block) one.number two.sound);
  }

  -- ---- all of them

  pub pass_same : (walks : List TableWalk) → PassSound tables image walks walks
  pass_same [] = tt
  pass_same (w ∷ more) = (pass_still w w refl refl, pass_same more)

  pub pass_then : (old mid new : List TableWalk) → PassSound tables image old mid → PassSound tables image mid new → PassSound tables image old new
  pass_then [] [] new one two = two
  pass_then [] (y ∷ mid) new one two = absurd one
  pass_then (x ∷ old) [] new one two = absurd one
  pass_then (x ∷ old) (y ∷ mid) [] one two = absurd two
  pass_then (x ∷ old) (y ∷ mid) (z ∷ new) one two = (one_then x y z one.0 two.0, pass_then old mid new one.1 two.1)

  -- none of them passed any
  pub pass_alike : (old new : List TableWalk) → numbers new ≡ numbers old → next_numbers new ≡ next_numbers old → PassSound tables image old new
  pass_alike [] [] same blocks = tt
  pass_alike [] (y ∷ new) same blocks = absurd cc
  pass_alike (x ∷ old) [] same blocks = absurd cc
  pass_alike (x ∷ old) (y ∷ new) same blocks =
      let number : y.number ≡ x.number = cc in
      let block : y.walk.block ≡ x.walk.block = cc in
      let same_later : numbers new ≡ numbers old = cc in
      let blocks_later : next_numbers new ≡ next_numbers old = cc in
      (pass_still x y number block, pass_alike old new same_later blocks_later)

  -- one of them passed some
  pub pass_set : (walks : List TableWalk) (i : ℕ) (x d : TableWalk) → i < length walks → PassesSound tables image (get_or walks i d) x → PassSound tables image walks (slice_set walks i x)
  pass_set [] i x d lt one = absurd (omega (arith, lt))
  pass_set (w ∷ more) zero x d lt one = (one, pass_same more)
  pass_set (w ∷ more) (suc i) x d lt one = (pass_still w w refl refl, pass_set more i x d (omega (arith, lt)) one)

-- ---- walks at their end

-- where an entry above the floor is at hand, one is
pub above_has : (floor : KeyFloor) (now : Option Entry) → true ≡ not (is_used_up floor now) → now ≡ None → ⊥
above_has floor now above none = absurd (false≢true (sym (above ∙ ap (λ (o : Option Entry). not (is_used_up floor o)) none)))

pub all_at_end : (tables : List Opened) (walks : List TableWalk) → AllByRecursion IsNone (map (λ (w : TableWalk). w.walk.now) walks) → HaveReadAll tables walks → AreAtEnd tables walks
all_at_end tables [] none read = tt
all_at_end tables (w ∷ more) none read = (record { none = none.0; whole = read.0 none.0 }, all_at_end tables more none.1 read.1)

-- where no row is chosen
pub chosen_ended : (floor next : KeyFloor) (tables : List Opened) (memory : List Entry) (walks : List TableWalk) (now : Option Entry)
    → IsChosen (heads_of memory walks) now floor next → is_some now ≡ false → HaveReadAll tables walks → AreAtEnd tables walks
chosen_ended floor next tables memory walks None chosen none read = all_at_end tables walks chosen.0.1 read
chosen_ended floor next tables memory walks (Some e) chosen none read = absurd (false≢true (sym none))

-- ---- a floor that rises

used_falls : (low high : KeyFloor) (now : Option Entry) → FloorRises low high → is_used_up high now ≡ false → is_used_up low now ≡ false
used_falls low high None rises above = absurd (false≢true (sym above))
used_falls low high (Some e) rises above = ap not (rises e.key (of_not (clears high e.key) above))
  where
    of_not : (b : Bool) → not b ≡ false → b ≡ true
    of_not true is = refl
    of_not false is = absurd (false≢true (sym is))

ones_fall : (a b due : Bool) → (a ≡ false → b ≡ false) → ones (a && due) ≡ 0 → ones (b && due) ≡ 0
ones_fall true true due falls none = none
ones_fall true false due falls none = refl
ones_fall false b due falls none = ap (λ (x : Bool). ones (x && due)) (falls refl)

-- what is not wanted above it is not wanted above a lower one
pub wanted_falls : (low high : KeyFloor) (tables : List Opened) (walks : List TableWalk) → FloorRises low high → wanted_by high tables walks ≡ 0 → wanted_by low tables walks ≡ 0
wanted_falls low high tables [] rises none = refl
wanted_falls low high tables (w ∷ more) rises none =
    let over = sum_by-cons (wanted_block_of high tables) w more in
    let under = sum_by-cons (wanted_block_of low tables) w more in
    let here = ones_fall (is_used_up high w.walk.now) (is_used_up low w.walk.now) (is_due w.walk (row_count (numbered tables w.number))) (used_falls low high w.walk.now rises) (omega (arith, over, none)) in
    let rest = wanted_falls low high tables more rises (omega (arith, over, none)) in
    omega (arith, under, here, rest)
