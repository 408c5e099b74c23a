-- Entries in memory that a log may hold, and merges of four tables.
use Rattle.std.proofs.Common.{◌≡◌, Bool, List, [], ◌∷◌, length, sym, subst, arith}
use Rattle.std.specs.Prelude.{Option}
use Rattle.std.specs.List.{AllByRecursion}
use Rattle.map_model.specs.SortedMap.{Bytes, in_place}
use Rattle.map_model.proofs.Maps.{by_order}
use Rattle.entry_model.specs.Entries.{Entry, IsEntry}
use Rattle.entry_model.specs.Newest.{with_entry}
use Rattle.merge_rows.specs.Merges.{Merge, merge_from}
use Rattle.merge_rows.specs.Steps.{AreWalksIn, stands}
use Rattle.merge_rows.proofs.Begins.{walks_known}
use Rattle.table_file.specs.Opened.{Opened}

pub all_with : (entries : List Entry) (new : Entry) → AllByRecursion IsEntry entries → IsEntry new → AllByRecursion IsEntry (with_entry entries new)
all_with [] new all entry = (entry, tt)
all_with (e ∷ more) new all entry = by_order (λ o. AllByRecursion IsEntry (in_place o new e more (with_entry more new))) new.key e.key
    (λ _. (entry, all)) (λ _. (entry, all.1)) (λ _. (all.0, all_with more new all.1 entry))

-- the walks of a merge of four tables are those of tables
pub four_walks : (m : Merge) (tables : List Opened) (memory : Option (List Entry)) (low : Bytes) (drops : Bool) → m ≡ merge_from (3 ∷ 2 ∷ 1 ∷ 0 ∷ []) tables memory low drops → length tables ≡ 4
    → AreWalksIn tables (stands m.walks)
four_walks m tables memory low drops is many =
    subst (λ (m : Merge). AreWalksIn tables (stands m.walks)) (sym is)
    (walks_known (3 ∷ 2 ∷ 1 ∷ 0 ∷ []) tables low (omega (arith, many), (omega (arith, many), (omega (arith, many), (omega (arith, many), tt)))))
