-- A merge that goes on: above a floor, to which its rows had come, the same is left of each walk.
use Rattle.std.proofs.Common.{◌≡◌, ◌∙◌, Bool, true, false, cond, List, [], ◌∷◌, map, refl, sym, ap, subst}
use Rattle.std.proofs.lemmas.Bool.{false≢true}
use Rattle.disk_trait.specs.Image.{Image}
use Rattle.entry_model.specs.Entries.{Entry}
use Rattle.late_rows.specs.Going.{IsLatePaced}
use Rattle.late_rows.specs.Late.{LateMerge}
use Rattle.merge_rows.proofs.RowSteps.{rises_on}
use Rattle.merge_rows.proofs.Steps.{rises_same, rises_then}
use Rattle.merge_rows.specs.Merges.{Merge, TableWalk, left_above, walk_left}
use Rattle.merge_rows.specs.Rows.{KeyFloor, above_floor, clears}
use Rattle.merge_rows.specs.Steps.{FloorRises, RowPasses}
use Rattle.store_core.specs.Scans.{GoesOn, HasGivenAll, IsScanDone, ScanWalk, StepsOn}
use Rattle.table_file.specs.Opened.{Opened}

-- what is above the higher of two floors is above the lower one too
above_again : (low high : KeyFloor) → FloorRises low high → (entries : List Entry) → above_floor high (above_floor low entries) ≡ above_floor high entries
above_again low high rises [] = refl
above_again low high rises (e ∷ later) =
    let rest = above_again low high rises later in
    elim (clears low e.key) as (λ t. clears low e.key ≡ t → above_floor high (cond t (e ∷ above_floor low later) (above_floor low later)) ≡ cond (clears high e.key) (e ∷ above_floor high later) (above_floor high later)) [
      | true ↦ λ _. ap (λ (l : List Entry). cond (clears high e.key) (e ∷ l) l) rest
      | false ↦ λ below. rest ∙ elim (clears high e.key) as (λ t. clears high e.key ≡ t → above_floor high later ≡ cond t (e ∷ above_floor high later) (above_floor high later)) [
        | true ↦ λ above. absurd (false≢true (sym below ∙ rises e.key above))
        | false ↦ λ _. refl
      ] refl
    ] refl

above_all : (low high : KeyFloor) → FloorRises low high → (tables : List Opened) (image : Image) (walks : List TableWalk)
    → map (above_floor high) (map (left_above low tables image) walks) ≡ map (left_above high tables image) walks
above_all low high rises tables image [] = refl
above_all low high rises tables image (w ∷ more) =
    ap (λ (l : List Entry). l ∷ map (above_floor high) (map (left_above low tables image) more)) (above_again low high rises (walk_left tables image w))
    ∙ ap (λ (ls : List (List Entry)). left_above high tables image w ∷ ls) (above_all low high rises tables image more)

same_above : (low high : KeyFloor) → FloorRises low high → (tables : List Opened) (image : Image) (old new : List TableWalk)
    → map (left_above low tables image) new ≡ map (left_above low tables image) old → map (left_above high tables image) new ≡ map (left_above high tables image) old
same_above low high rises tables image old new same =
    sym (above_all low high rises tables image new) ∙ ap (map (above_floor high)) same ∙ above_all low high rises tables image old

module _ (tables : List Opened) (image : Image) where
  pub goes_same : (m : Merge) → GoesOn tables image m m
  goes_same m = record { floor = m.floor; rises = rises_same m.floor; onward = rises_same m.floor; same = refl }

  pub goes_then : (a b c : Merge) → GoesOn tables image a b → GoesOn tables image b c → GoesOn tables image a c
  goes_then a b c one two =
      let later = rises_then one.floor b.floor two.floor one.onward two.rises in
      record {
        floor = two.floor;
        rises = rises_then a.floor one.floor two.floor one.rises later;
        onward = two.onward;
        same = two.same ∙ same_above one.floor two.floor later tables image a.walks b.walks one.same;
      }

  pub steps_then : (a b c : Merge) → GoesOn tables image a b → StepsOn tables image b c → StepsOn tables image a c
  unfolding goes_then
  steps_then a b c one two = record { on = goes_then a b c one two.on; clear = two.clear }

-- a step after others, as it is said of the device at that time
pub next_steps : (tables : List Opened) (here image : Image) (first : Merge) (mid new : LateMerge) → here ≡ image → GoesOn tables image first mid.merge → IsLatePaced tables here mid new
    → RowPasses new.merge.now mid.merge.floor new.merge.floor → StepsOn tables image first new.merge
next_steps tables here image first mid new same on paced passes =
    let there = subst (λ (i : Image). IsLatePaced tables i mid new) same paced in
    steps_then tables image first mid.merge new.merge on (record {
      on = record { floor = mid.merge.floor; rises = rises_same mid.merge.floor; onward = rises_on new.merge.now mid.merge.floor new.merge.floor passes; same = there.same };
      clear = there.clear;
    })

-- a step of a scan after others, as it is said of the device and of the tables at that time
pub later_steps : (tables first : List Opened) (here image : Image) (old mid new : Merge) → tables ≡ first → here ≡ image → GoesOn first image old mid → StepsOn tables here mid new → StepsOn first image old new
later_steps tables first here image old mid new same held on step =
    steps_then first image old mid new on (subst (λ (ts : List Opened). StepsOn ts image mid new) same (subst (λ (i : Image). StepsOn tables i mid new) held step))

-- a scan that has given all its pairs
pub all_given : (walks begun : List TableWalk) (tables : List Opened) (image : Image) (first : Merge) (scan : ScanWalk) → walks ≡ begun → first.walks ≡ walks → scan.tables ≡ tables → IsScanDone scan
    → StepsOn tables image first scan.merge → HasGivenAll begun image scan
all_given walks begun tables image first scan are own same done steps = record {
  done = done;
  floor = steps.on.floor;
  same = subst (λ (ts : List Opened). map (left_above steps.on.floor ts image) scan.merge.walks ≡ map (left_above steps.on.floor ts image) begun) (sym same)
      (steps.on.same ∙ ap (map (left_above steps.on.floor tables image)) (own ∙ are));
  clear = steps.clear;
}
