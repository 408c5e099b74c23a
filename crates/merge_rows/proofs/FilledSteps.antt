-- A step to the next row where no block is wanted.
use Rattle.std.proofs.Common.{◌≡◌, List, ◌∷◌, Bool, false, sym, ap, ◌∙◌, subst, map}
use Rattle.std.specs.Prelude.{IsTrue}
use Rattle.disk_trait.specs.Image.{Image}
use Rattle.entry_model.specs.Entries.{Entry}
use Rattle.entry_model.specs.Newest.{KeysRise}
use Rattle.merge_rows.specs.Choosing.{heads_of}
use Rattle.merge_rows.specs.Merges.{Merge, TableWalk, left_above, merged_left, rows_left, sources_above}
use Rattle.merge_rows.specs.Rows.{KeyFloor, above_floor, merged_rows, rows_shown}
use Rattle.merge_rows.specs.Steps.{AreCaughtUp, AreHeadsClear, AreSoundWalks, HandsOutRow, IsCaughtUp, IsChosen, IsRowStep, IsSoundMerge, RowPasses, SourcesStay, numbers, stands}
use Rattle.merge_rows.proofs.RowSteps.{chosen_passes, step_rows, step_sound}
use Rattle.table_file.specs.Opened.{Opened}
use Rattle.table_file.specs.Walks.{first_of}

-- Of merges: from the one whose walks have caught up, by the one whose memory has too, to the one with a row at hand.
module _ (old mid new : Merge) (floor_is : mid.floor ≡ old.floor) (drops_are : mid.drops ≡ old.drops) (walks_are : mid.walks ≡ old.walks)
    (same : above_floor old.floor mid.memory ≡ above_floor old.floor old.memory) (rises : KeysRise old.memory → KeysRise mid.memory)
    (ready : IsCaughtUp old.floor (first_of mid.memory) mid.memory) (clear : AreHeadsClear old.floor old.walks)
    (memory_stays : new.memory ≡ mid.memory) (walks_stay : new.walks ≡ mid.walks) (drops_stay : new.drops ≡ mid.drops)
    (chosen : IsChosen (heads_of mid.memory mid.walks) new.now mid.floor new.floor) where
  passes : RowPasses new.now mid.floor new.floor
  passes = chosen_passes mid.floor new.floor mid.memory mid.walks new.now chosen
      (subst (λ (f : KeyFloor). IsCaughtUp f (first_of mid.memory) mid.memory) (sym floor_is) ready)
      (subst (λ (f : KeyFloor). AreHeadsClear f mid.walks) (sym floor_is) (subst (AreHeadsClear old.floor) (sym walks_are) clear))

  module _ (tells : Bool) (tables : List Opened) (image : Image) (caught : IsTrue tells → AreCaughtUp old.floor tables image old.walks) where
    caught_mid : IsTrue tells → AreCaughtUp mid.floor tables image mid.walks
    caught_mid t = subst (λ (f : KeyFloor). AreCaughtUp f tables image mid.walks) (sym floor_is) (subst (AreCaughtUp old.floor tables image) (sym walks_are) (caught t))

    sound_mid : IsSoundMerge old tables image → IsSoundMerge mid tables image
    sound_mid sound = record {
      memory = rises sound.memory;
      walks = subst (λ (f : KeyFloor). AreSoundWalks f tables image mid.walks) (sym floor_is) (subst (AreSoundWalks old.floor tables image) (sym walks_are) sound.walks);
    }

    left_mid : merged_left mid tables image ≡ merged_left old tables image
    left_mid =
        ap (λ (f : KeyFloor). merged_rows (sources_above f tables image mid.memory mid.walks)) floor_is
        ∙ ap (λ (ws : List TableWalk). merged_rows (sources_above old.floor tables image mid.memory ws)) walks_are
        ∙ ap (λ (es : List Entry). merged_rows (es ∷ map (left_above old.floor tables image) old.walks)) same

    hands : IsTrue tells → IsSoundMerge old tables image → HandsOutRow new.now (merged_left old tables image) (merged_left new tables image)
    hands t sound = subst (λ (l : List Entry). HandsOutRow new.now l (merged_left new tables image)) left_mid
        (step_rows tables image mid new memory_stays walks_stay chosen (caught_mid t) passes (sound_mid sound))

    pub filled_sources : SourcesStay tells tables image old new
    filled_sources = record {
      numbers_are = ap numbers (walks_stay ∙ walks_are);
      stands_are = ap stands (walks_stay ∙ walks_are);
      drops_are = drops_stay ∙ drops_are;
      sound = λ t sound. step_sound tables image mid new memory_stays walks_stay chosen (caught_mid t) passes (sound_mid sound);
    }

    pub filled_row : old.drops ≡ false → IsRowStep tells tables image old new
    filled_row whole = record {
      rows = λ t sound. subst (λ (d : Bool). HandsOutRow new.now (rows_shown d (merged_left old tables image)) (rows_left new tables image)) (sym whole)
          (subst (λ (d : Bool). HandsOutRow new.now (merged_left old tables image) (rows_shown d (merged_left new tables image))) (sym (drops_stay ∙ drops_are ∙ whole)) (hands t sound));
      passes = subst (λ (f : KeyFloor). RowPasses new.now f new.floor) floor_is passes;
    }
