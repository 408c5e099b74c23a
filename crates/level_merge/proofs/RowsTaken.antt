-- Rows that are taken, one after the other, and the outputs that are still made.
use Rattle.std.proofs.Common.{◌≡◌, ◌∙◌, ◌≤◌, ℕ, List, [], ◌∷◌, ◌++◌, Bool, true, false, cond, refl, sym, ap, ap₂, subst, arith}
use Rattle.std.specs.Prelude.{IfSome, IsTrue, Option, Some, None, is_some}
use Rattle.std.specs.List.{AllByRecursion}
use Rattle.std.proofs.lemmas.Bool.{false≢true}
use Rattle.std.proofs.lemmas.List.{append-nil}
use Rattle.block_model.specs.Order.{Follow, is_any}
use Rattle.disk_trait.specs.Image.{Image}
use Rattle.entry_model.specs.Entries.{Entry, IsEntry, keys_of}
use Rattle.level_merge.specs.JobValue.{IsBuilding, at_hand, is_full, outputs_with}
use Rattle.level_merge.specs.SliceSteps.{FillsOutput, KeepsRows}
use Rattle.level_merge.proofs.Floors.{below_added, below_rises}
use Rattle.level_merge.proofs.OutputLists.{with_lasting}
use Rattle.merge_rows.specs.Merges.{Merge, rows_left}
use Rattle.merge_rows.specs.Reads.{blocks_left}
use Rattle.merge_rows.specs.Rows.{KeyFloor, rows_shown}
use Rattle.merge_rows.specs.Steps.{FloorRises, HandsOutRow, IsRowStep, IsSoundMerge, RowPasses, SourcesStay}
use Rattle.merge_rows.proofs.RowSteps.{rises_on}
use Rattle.state_model.specs.Merges.{has_value, lasting}
use Rattle.table_file.specs.Opened.{Opened}

-- ---- the output that is built

all_back : {X : Type 0} (P : X → Type 0) (xs ys : List X) → AllByRecursion P xs → AllByRecursion P ys → AllByRecursion P (xs ++ ys)
all_back P [] ys first second = second
all_back P (x ∷ xs) ys first second = (first.0, all_back P xs ys first.1 second)

pub building_none : (floor : KeyFloor) → IsBuilding floor []
building_none floor = record { each = tt; rising = tt; below = λ e clear. (refl, tt) }

pub building_rises : (old new : KeyFloor) (built : List Entry) → FloorRises old new → IsBuilding old built → IsBuilding new built
building_rises old new built rises is = record { each = is.each; rising = is.rising; below = below_rises old new built rises is.below }

-- a row that comes may be added
pub row_follows : (now : Option Entry) (old new : KeyFloor) (built : List Entry) → RowPasses now old new → IsBuilding old built → IfSome now (λ e. Follow is_any (keys_of (built ++ e ∷ [])))
row_follows None old new built passes is = tt
row_follows (Some e) old new built passes is = is.below e passes.0

building_with : (e : Entry) (old new : KeyFloor) (built : List Entry) → RowPasses (Some e) old new → IsEntry e → IsBuilding old built → IsBuilding new (built ++ e ∷ [])
building_with e old new built passes entry is =
    let follow = is.below e passes.0 in
    record {
      each = all_back IsEntry built (e ∷ []) is.each (entry, tt);
      rising = follow;
      below = subst (λ (f : KeyFloor). Rattle.level_merge.specs.JobValue.AreBelow f (built ++ e ∷ [])) (sym passes.1) (below_added built e follow);
    }

building_same : (floor : KeyFloor) (built : List Entry) → IsBuilding floor built → IsBuilding floor (built ++ [])
building_same floor built is = subst (IsBuilding floor) (sym (append-nil built)) is

pub building_more : (now : Option Entry) (drops : Bool) (old new : KeyFloor) (built : List Entry) → RowPasses now old new → IfSome now IsEntry → IsBuilding old built
    → IsBuilding new (built ++ lasting drops (at_hand now))
building_more None true old new built passes entry is = building_same new built (building_rises old new built passes is)
building_more None false old new built passes entry is = building_same new built (building_rises old new built passes is)
building_more (Some e) false old new built passes entry is = building_with e old new built passes entry is
building_more (Some e) true old new built passes entry is = by_value (has_value e.value)
  where
    by_value : (some : Bool) → IsBuilding new (built ++ cond some (e ∷ []) [])
    by_value true = building_with e old new built passes entry is
    by_value false = building_same new built (building_rises old new built (rises_on (Some e) old new passes) is)

-- ---- the outputs that are still made

pub fills_none : (tells : Bool) (tables : List Opened) (image : Image) (beside : ℕ) (drops : Bool) (m : Merge) (built : List Entry) → FillsOutput tells tables image beside drops m m built built
fills_none tells tables image beside drops m built = record { left = λ t s. refl; fewer = omega arith }

-- a row that is taken or left out, where the output is not full
with_taken : (beside : ℕ) (built : List Entry) (drops : Bool) (now : Option Entry) (old new : List Entry) → is_some now ≡ true → is_full beside built ≡ false → HandsOutRow now old new
    → outputs_with beside (built ++ lasting drops (at_hand now)) (lasting drops new) ≡ outputs_with beside built (lasting drops old)
with_taken beside built drops None old new some short hands = absurd (false≢true some)
with_taken beside built drops (Some e) old new some short hands = sym (ap (λ (l : List Entry). outputs_with beside built (lasting drops l)) hands ∙ with_lasting beside built drops e new short)

no_rows : (now : Option Entry) (old new : List Entry) → is_some now ≡ false → HandsOutRow now old new → (old ≡ []) × (new ≡ [])
no_rows None old new none hands = hands
no_rows (Some e) old new none hands = absurd (false≢true (sym none))

-- after rows that were taken: blocks were read, and then a row came or none
module _ (tells : Bool) (tables : List Opened) (image : Image) (beside : ℕ) (drops : Bool) (first old mid : Merge) (begun built : List Entry)
    (stay : SourcesStay tells tables image first old) (from : FillsOutput tells tables image beside drops first old begun built)
    (kept : KeepsRows tells tables image old mid) (read : blocks_left tables mid.walks ≤ blocks_left tables old.walks) where
  pub stays_kept : SourcesStay tells tables image first mid
  stays_kept = record {
    numbers_are = kept.sources.numbers_are ∙ stay.numbers_are;
    stands_are = kept.sources.stands_are ∙ stay.stands_are;
    drops_are = kept.sources.drops_are ∙ stay.drops_are;
    sound = λ t sound. kept.sources.sound t (stay.sound t sound);
  }

  -- the same rows are left
  same_left : IsTrue tells → IsSoundMerge first tables image
      → outputs_with beside built (lasting drops (rows_left mid tables image)) ≡ outputs_with beside begun (lasting drops (rows_left first tables image))
  same_left t sound = ap (λ (l : List Entry). outputs_with beside built (lasting drops l)) (ap₂ rows_shown kept.sources.drops_are (kept.left t)) ∙ from.left t sound

  pub fills_kept : FillsOutput tells tables image beside drops first mid begun built
  fills_kept = record { left = same_left; fewer = (let two = from.fewer in omega (arith, read, two)) }

  module _ (m : Merge) (goes : SourcesStay tells tables image mid m) (step : IsRowStep tells tables image mid m) (fewer : blocks_left tables m.walks ≤ blocks_left tables mid.walks) where
    pub stays_on : SourcesStay tells tables image first m
    stays_on = record {
      numbers_are = goes.numbers_are ∙ kept.sources.numbers_are ∙ stay.numbers_are;
      stands_are = goes.stands_are ∙ kept.sources.stands_are ∙ stay.stands_are;
      drops_are = goes.drops_are ∙ kept.sources.drops_are ∙ stay.drops_are;
      sound = λ t sound. goes.sound t (kept.sources.sound t (stay.sound t sound));
    }

    no_more : blocks_left tables m.walks ≤ blocks_left tables first.walks
    no_more = let two = from.fewer in omega (arith, fewer, read, two)

    hands : IsTrue tells → IsSoundMerge first tables image → HandsOutRow m.now (rows_left mid tables image) (rows_left m tables image)
    hands t sound = step.rows t (kept.sources.sound t (stay.sound t sound))

    -- none is left
    pub none_left : is_some m.now ≡ false → IsTrue tells → IsSoundMerge first tables image → rows_left m tables image ≡ []
    none_left none t sound = (no_rows m.now (rows_left mid tables image) (rows_left m tables image) none (hands t sound)).1

    pub fills_last : is_some m.now ≡ false → FillsOutput tells tables image beside drops first m begun built
    fills_last none = record {
      left = λ t sound.
          let rows = no_rows m.now (rows_left mid tables image) (rows_left m tables image) none (hands t sound) in
          ap (λ (l : List Entry). outputs_with beside built (lasting drops l)) (rows.1 ∙ sym rows.0) ∙ same_left t sound;
      fewer = no_more;
    }

    -- one is taken
    pub fills_one : is_some m.now ≡ true → is_full beside built ≡ false → FillsOutput tells tables image beside drops first m begun (built ++ lasting drops (at_hand m.now))
    fills_one some short = record {
      left = λ t sound. with_taken beside built drops m.now (rows_left mid tables image) (rows_left m tables image) some short (hands t sound) ∙ same_left t sound;
      fewer = no_more;
    }
