-- Walks that are awake keep pace with the rows.
use Rattle.std.proofs.Common.{◌≡◌, ◌∙◌, ◌<◌, ℕ, zero, suc, List, [], ◌∷◌, length, map, sym, ap, subst, arith}
use Rattle.std.specs.Prelude.{Bool, IsTrue, Option, Some, None}
use Rattle.disk_trait.specs.Image.{Image}
use Rattle.disk_trait.specs.World.{World}
use Rattle.entry_model.specs.Entries.{Entry}
use Rattle.map_model.specs.SortedMap.{Bytes}
use Rattle.merge_rows.specs.Merges.{Merge, TableWalk, left_above, walk_left}
use Rattle.merge_rows.specs.Rows.{KeyFloor}
use Rattle.merge_rows.specs.Steps.{AreCaughtUp, AreHeadsClear, IsCaughtUp, IsHeadClear, IsPaced}
use Rattle.table_file.specs.Opened.{Opened}
use Rattle.late_rows.specs.Going.{AwakeCaughtUp, GoesOn, IsLatePaced}
use Rattle.late_rows.specs.Late.{LateMerge, walk_in}

-- ---- all have caught up

head_clear : (floor : KeyFloor) (now : Option Entry) (left : List Entry) → IsCaughtUp floor now left → IsHeadClear floor now
head_clear floor None left caught = tt
head_clear floor (Some e) left caught = caught

module _ (floor : KeyFloor) (tables : List Opened) (image : Image) where
  heads_clear : (walks : List TableWalk) → AreCaughtUp floor tables image walks → AreHeadsClear floor walks
  heads_clear [] caught = tt
  heads_clear (w ∷ more) caught = (head_clear floor w.walk.now (walk_left tables image w) caught.0, heads_clear more caught.1)

  each_caught : (walks : List TableWalk) → AreCaughtUp floor tables image walks → (at : ℕ) → at < length walks
      → IsCaughtUp floor (walk_in walks at).walk.now (walk_left tables image (walk_in walks at))
  each_caught [] caught at lt = absurd (omega (arith, lt))
  each_caught (w ∷ more) caught zero lt = caught.0
  each_caught (w ∷ more) caught (suc at) lt = each_caught more caught.1 at (omega (arith, lt))

-- ---- a step

-- by the least entry at hand of those that are awake
pub paced_before : (tells : Bool) (tables : List Opened) (first old new : LateMerge) (before after : World) → GoesOn tells tables first old before after → new.asleep ≡ old.asleep → new.merge.walks ≡ old.merge.walks
    → AwakeCaughtUp first.merge.floor tables before.seen.held old.asleep old.merge.walks → AreHeadsClear old.merge.floor old.merge.walks → IsTrue tells → IsLatePaced tables before.seen.held first new
paced_before tells tables first old new before after goes asleep walks ready clear t = record {
  same = ap (map (left_above first.merge.floor tables before.seen.held)) walks ∙ goes.each t;
  caught_up = subst (AwakeCaughtUp first.merge.floor tables before.seen.held new.asleep) (sym walks)
      (subst (λ (os : List (Option Bytes)). AwakeCaughtUp first.merge.floor tables before.seen.held os old.merge.walks) (sym asleep) ready);
  clear = subst (AreHeadsClear first.merge.floor) (sym walks) (subst (λ (f : KeyFloor). AreHeadsClear f old.merge.walks) goes.floor clear);
}

-- by the merge, where all are awake
pub all_paced : (tells : Bool) (tables : List Opened) (first now : LateMerge) (next : Merge) (before mid : World) → GoesOn tells tables first now before mid → IsPaced tables mid.seen.held now.merge next → IsTrue tells
    → IsLatePaced tables before.seen.held first (record { merge = next; asleep = now.asleep })
all_paced tells tables first now next before mid goes paced t =
    let image = before.seen.held in
    let here = subst (λ (h : Image). IsPaced tables h now.merge next) goes.moves.1.held paced in
    record {
      same = subst (λ (f : KeyFloor). map (left_above f tables image) next.walks ≡ map (left_above f tables image) now.merge.walks) goes.floor here.same ∙ goes.each t;
      caught_up = subst (λ (f : KeyFloor). AwakeCaughtUp f tables image now.asleep next.walks) goes.floor (λ at lt none. each_caught now.merge.floor tables image next.walks here.caught_up at lt);
      clear = subst (λ (f : KeyFloor). AreHeadsClear f next.walks) goes.floor (heads_clear now.merge.floor tables image next.walks here.caught_up);
    }
