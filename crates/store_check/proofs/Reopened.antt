-- The tables of a state are opened once more, row by row.
use Rattle.std.proofs.Common.{◌≡◌, ◌∙◌, ◌<◌, ◌≤◌, ℕ, zero, suc, inl, inr, List, [], ◌∷◌, ◌++◌, get_or, length, take, refl, ap, arith}
use Rattle.std.proofs.lemmas.List.Sums.{sum_by-cons}
use Rattle.std.specs.List.{AllByRecursion, sum_by}
use Rattle.byte_fields.specs.Faults.{Fault}
use Rattle.byte_fields.specs.declared.parts.Row.{Row}
use Rattle.disk_trait.specs.Image.{Image}
use Rattle.filter_api.specs.Spellings.{Spelling, SpellsOne}
use Rattle.image_model.proofs.Opening.{all_opened, none_of_opened}
use Rattle.image_model.specs.Tables.{AreTablesOf}
use Rattle.map_model.specs.SortedMap.{Bytes}
use Rattle.state_model.specs.WithoutRanges.{HasNoRange}
use Rattle.store_check.specs.Summaries.{AreTablesThere, IsTableThere, entries_in, row_entries}
use Rattle.table_file.proofs.Stands.{opened_stands}
use Rattle.table_file.specs.Faults.{IsDamagedTable, IsNoDamage, filter_fault_of}
use Rattle.table_file.specs.Opened.{IsOpen, Opened}
use Rattle.table_file.specs.declared.fault.TableFault.{TableFault}
use Rattle.table_file.specs.declared.fault.TableFault.TheVariants as table
use Rattle.table_model.specs.Images.{IsTableOf}
use Rattle.table_model.specs.Tables.{Table}

module _ (spelling : Spelling) (image : Image) where
  -- the table of the row at a place, after those before it
  pub record NextTable (rows : List Row) (tables : List Table) (i : ℕ) (no_row : Row) : Type 0 where
    pub t : Table
    pub taken : take (suc i) tables ≡ take i tables ++ t ∷ []
    pub is : IsTableOf spelling (get_or rows i no_row) t image
    pub bare : AllByRecursion HasNoRange tables → HasNoRange t

  pub next_table : (rows : List Row) (tables : List Table) (i : ℕ) (no_row : Row) → i < length rows → AreTablesOf spelling rows tables image → NextTable rows tables i no_row
  next_table [] tables i no_row lt are = absurd (omega (arith, lt))
  next_table (row ∷ rows) [] i no_row lt are = elim are [ ]
  next_table (row ∷ rows) (t ∷ tables) zero no_row lt are = record { t = t; taken = refl; is = are.0; bare = λ all. all.0 }
  next_table (row ∷ rows) (t ∷ tables) (suc i) no_row lt are =
      let rest = next_table rows tables i no_row (omega (arith, lt)) are.1 in
      record { t = rest.t; taken = ap (λ (ts : List Table). t ∷ ts) rest.taken; is = rest.is; bare = λ all. rest.bare all.1 }

  pub all_taken : (rows : List Row) (tables : List Table) (n : ℕ) → length rows ≤ n → AreTablesOf spelling rows tables image → take n tables ≡ tables
  all_taken [] [] zero le are = refl
  all_taken [] [] (suc n) le are = refl
  all_taken [] (t ∷ tables) n le are = elim are [ ]
  all_taken (row ∷ rows) [] n le are = elim are [ ]
  all_taken (row ∷ rows) (t ∷ tables) zero le are = absurd (omega (arith, le))
  all_taken (row ∷ rows) (t ∷ tables) (suc n) le are = ap (λ (ts : List Table). t ∷ ts) (all_taken rows tables n (omega (arith, le)) are.1)

  pub there_more : (opened : List Opened) (tables : List Table) (o : Opened) (t : Table) → AreTablesThere spelling opened tables image → IsTableThere spelling o t image
      → AreTablesThere spelling (opened ++ o ∷ []) (tables ++ t ∷ []) image
  there_more [] [] o t are is = (is, tt)
  there_more [] (u ∷ tables) o t are is = elim are [ ]
  there_more (p ∷ opened) [] o t are is = elim are [ ]
  there_more (p ∷ opened) (u ∷ tables) o t are is = (are.0, there_more opened tables o t are.1 is)

  module _ (one : SpellsOne spelling) where
    -- an open table is the one that its row's pages spell
    pub table_there : (o : Opened) (t : Table) → IsOpen spelling o image → IsTableOf spelling o.row t image → IsTableThere spelling o t image
    table_there o t is of = record { blocks = of.0; there = opened_stands spelling o of.0 image one is of.1; entries_are = ap (λ (u : Table). u.entries) of.2 }

    -- and where they spell one there is no damage
    pub opened_undamaged : (first : Bytes → Fault) (row : Row) (t : Table) (fault : TableFault) → IsTableOf spelling row t image → IsDamagedTable spelling first row image fault → IsNoDamage fault
    opened_undamaged first row t table.Memory of is = tt
    opened_undamaged first row t (table.Device cause) of is = tt
    opened_undamaged first row t (table.Damaged d) of (inl index) =
        none_of_opened spelling (filter_fault_of first) image one d (row ∷ []) (all_opened spelling (row ∷ []) (t ∷ []) image (of, tt)) (inl index)
    opened_undamaged first row t (table.Damaged d) of (inr filter) =
        none_of_opened spelling (filter_fault_of first) image one d (row ∷ []) (all_opened spelling (row ∷ []) (t ∷ []) image (of, tt)) (inr (filter.0, inl filter.1))

  -- ---- as many as the rows say

  pub rows_many : (rows : List Row) (tables : List Table) → AreTablesOf spelling rows tables image → length rows ≡ length tables
  rows_many [] [] are = refl
  rows_many [] (t ∷ tables) are = elim are [ ]
  rows_many (row ∷ rows) [] are = elim are [ ]
  rows_many (row ∷ rows) (t ∷ tables) are = ap suc (rows_many rows tables are.1)

  pub entries_many : (rows : List Row) (tables : List Table) → AreTablesOf spelling rows tables image → sum_by row_entries rows ≡ sum_by entries_in tables
  entries_many [] [] are = refl
  entries_many [] (t ∷ tables) are = elim are [ ]
  entries_many (row ∷ rows) [] are = elim are [ ]
  entries_many (row ∷ rows) (t ∷ tables) are =
      let here : length t.entries ≡ row.entries = ap (λ (u : Table). length u.entries) are.0.2 ∙ are.0.1.entries in
      omega (arith, here, entries_many rows tables are.1, sum_by-cons row_entries row rows, sum_by-cons entries_in t tables)
