-- Merges of four tables.
use Rattle.std.proofs.Common.{◌≡◌, Bool, List, [], ◌∷◌, length, sym, subst, arith}
use Rattle.std.specs.Prelude.{Option}
use Rattle.entry_model.specs.Entries.{Entry}
use Rattle.late_rows.specs.Late.{LateMerge, late_from}
use Rattle.map_model.specs.SortedMap.{Bytes}
use Rattle.merge_rows.specs.Merges.{Merge, merge_from}
use Rattle.merge_rows.specs.Steps.{AreWalksIn, stands}
use Rattle.merge_rows.proofs.Begins.{walks_known}
use Rattle.table_file.specs.Opened.{Opened}

-- their walks are those of tables
pub all_walks : (m : Merge) (tables : List Opened) (memory : Option (List Entry)) (low : Bytes) (drops : Bool) → m ≡ merge_from (3 ∷ 2 ∷ 1 ∷ 0 ∷ []) tables memory low drops → length tables ≡ 4
    → AreWalksIn tables (stands m.walks)
all_walks m tables memory low drops is many =
    subst (λ (m : Merge). AreWalksIn tables (stands m.walks)) (sym is)
    (walks_known (3 ∷ 2 ∷ 1 ∷ 0 ∷ []) tables low (omega (arith, many), (omega (arith, many), (omega (arith, many), (omega (arith, many), tt)))))

pub late_walks : (l : LateMerge) (asleep : List (Option Bytes)) (tables : List Opened) (memory : Option (List Entry)) (low : Bytes) → l ≡ late_from (3 ∷ 2 ∷ 1 ∷ 0 ∷ []) asleep tables memory low
    → length tables ≡ 4 → AreWalksIn tables (stands l.merge.walks)
late_walks l asleep tables memory low is many =
    subst (λ (l : LateMerge). AreWalksIn tables (stands l.merge.walks)) (sym is)
    (walks_known (3 ∷ 2 ∷ 1 ∷ 0 ∷ []) tables low (omega (arith, many), (omega (arith, many), (omega (arith, many), (omega (arith, many), tt)))))
