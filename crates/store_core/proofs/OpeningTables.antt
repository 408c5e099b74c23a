-- Tables that are opened, row by row, and the first damage of some rows.
use Rattle.std.proofs.Common.{◌≡◌, inl, inr, ◌+◌, ◌-◌, ℕ, suc, List, [], ◌∷◌, ◌++◌, length, refl, sym, ap, subst, ◌∙◌, arith}
use Rattle.std.specs.Prelude.{◌==◌, map, None, Some}
use Rattle.std.specs.Option.{option_map}
use Rattle.std.proofs.lemmas.Bool.{cond-true, eq-eqb}
use Rattle.byte_fields.specs.Sums.{fnv_of}
use Rattle.std.specs.List.{AllByRecursion}
use Rattle.byte_fields.specs.Faults.{Fault}
use Rattle.byte_fields.specs.declared.parts.Damage.{Damage}
use Rattle.byte_fields.specs.declared.parts.Damage.TheVariants as damage
use Rattle.byte_fields.specs.declared.parts.Part.TheVariants as part
use Rattle.byte_fields.specs.declared.parts.Row.{Row}
use Rattle.disk_trait.specs.Image.{Image}
use Rattle.filter_api.specs.Spellings.{IsSpelling, Spelling, SpellsOne}
use Rattle.map_model.specs.SortedMap.{Bytes}
use Rattle.block_model.specs.Index.{Index, IndexRow}
use Rattle.block_model.specs.IndexReading.{index_fault}
use Rattle.block_model.specs.Places.{byte_of_page, index_page}
use Rattle.table_model.proofs.OneTable.{one_table}
use Rattle.table_model.specs.Damage.{filter_part, index_damage, index_part}
use Rattle.table_model.specs.Tables.{Table}
use Rattle.table_file.specs.Faults.{IsDamagedTable, filter_fault_of}
use Rattle.table_file.specs.Opened.{IsOpen, Opened}
use Rattle.table_file.specs.Search.{row_at}
use Rattle.table_file.specs.declared.fault.TableFault.{TableFault}
use Rattle.table_file.specs.declared.fault.TableFault.TheVariants as table
use Rattle.table_file.proofs.Stands.{opened_stands}
use Rattle.image_model.specs.Opening.{IsOpened, TablesBreak, greatest_in, key_range_of}
use Rattle.image_model.specs.Tables.{AreTablesOf}
use Rattle.manifest_model.specs.Tables.{KeyRange}
use Rattle.store_core.specs.Faults.{of_table_fault}
use Rattle.store_core.specs.StoreValue.{rows_of}
use Rattle.store_core.specs.Opening.{AreOpened, IsTableAnswer, IsTablesAnswer, opened_range}
use Rattle.store_search.specs.TablesAgree.{TablesAgree}
use Rattle.store_core.specs.declared.error.StoreError.{StoreError}
use Rattle.store_core.specs.declared.error.StoreError.TheVariants as error

-- ---- one table

none_of_index : (spelling : Spelling) (image : Image) (t : Opened) → IsOpen spelling t image → index_damage t.row image ≡ None
none_of_index spelling image t is =
    let bytes = index_part t.row image in
    let at = byte_of_page (index_page t.row) in
    let found = option_map (λ (f : Fault). damage.Shape part.Index (at + f.place) f.rule) in
    cond-true (t.row.index_sum == fnv_of bytes) (found (index_fault t.row.data_pages bytes)) (Some (damage.Sum part.Index at t.row.index_sum (fnv_of bytes))) (eq-eqb t.row.index_sum (fnv_of bytes) is.index_sum)
    ∙ ap found is.index_kept

module _ (spelling : Spelling) (image : Image) where
  open_is_opened : (t : Opened) → IsOpen spelling t image → IsOpened spelling image t.row
  open_is_opened t is = record {
    index = none_of_index spelling image t is;
    filter = record {
      sum = is.filter_sum;
      cutoff = t.filter.cutoff;
      leaves = t.filter.leaves;
      spelled =
          subst (λ (real : ℕ). IsSpelling spelling t.row.hash_bits real t.filter.cutoff t.filter.leaves (filter_part t.row image)) is.wide.real
          (subst (λ (hash : ℕ). IsSpelling spelling hash t.filter.real_bits t.filter.cutoff t.filter.leaves (filter_part t.row image)) is.wide.hash is.filter_is);
      many = is.many;
    };
  }

  pub all_opened : (ts : List Opened) → AreOpened spelling ts image → AllByRecursion (IsOpened spelling image) (rows_of ts)
  all_opened [] are = tt
  all_opened (t ∷ ts) are = (open_is_opened t are.0, all_opened ts are.1)

  pub opened_more : (ts : List Opened) (t : Opened) → AreOpened spelling ts image → IsOpen spelling t image → AreOpened spelling (ts ++ t ∷ []) image
  opened_more [] t are is = (is, tt)
  opened_more (x ∷ ts) t are is = (are.0, opened_more ts t are.1 is)

-- ---- why a row's table is not opened

module _ (spelling : Spelling) (first : Bytes → Fault) (image : Image) where
  pub table_answer : (row : Row) (fault : TableFault) → IsDamagedTable spelling first row image fault → IsTableAnswer spelling first row image (of_table_fault fault)
  table_answer row table.Memory is = tt
  table_answer row (table.Device cause) is = tt
  table_answer row (table.Damaged d) (inl index) = inl index
  table_answer row (table.Damaged d) (inr filter) = inr (filter.0, inl filter.1)

  -- ---- after rows that are opened, the damage of one is that of all

  breaks_first : (d : Damage) (row : Row) (later : List Row) → TablesBreak spelling (filter_fault_of first) image d (row ∷ [])
      → TablesBreak spelling (filter_fault_of first) image d (row ∷ later)
  breaks_first d row later (inl index) = inl index
  breaks_first d row later (inr filter) = inr (filter.0, elim filter.1 [ inl here ↦ inl here | inr never ↦ absurd never.1 ])

  breaks_behind : (d : Damage) (before later : List Row) → AllByRecursion (IsOpened spelling image) before
      → TablesBreak spelling (filter_fault_of first) image d later → TablesBreak spelling (filter_fault_of first) image d (before ++ later)
  breaks_behind d [] later are breaks = breaks
  breaks_behind d (row ∷ before) later are breaks = inr (are.0.index, inr (are.0.filter, breaks_behind d before later are.1 breaks))

  pub answer_behind : (before later : List Row) (row : Row) (why : StoreError) → AllByRecursion (IsOpened spelling image) before
      → IsTableAnswer spelling first row image why → IsTablesAnswer spelling first (before ++ (row ∷ later)) image why
  answer_behind before later row error.Memory are is = tt
  answer_behind before later row (error.Device cause) are is = tt
  answer_behind before later row error.Stopped are is = is
  answer_behind before later row (error.Limit limit) are is = is
  answer_behind before later row (error.Full need gap) are is = is
  answer_behind before later row (error.Damaged d) are is = breaks_behind d before (row ∷ later) are (breaks_first d row later is)
  answer_behind before later row error.NotAStore are is = is
  answer_behind before later row error.AlreadyAStore are is = is
  answer_behind before later row (error.BadSettings field) are is = is

-- ---- their ranges

greatest_row : (rows : List IndexRow) → greatest_in rows ≡ (row_at rows (length rows - 1)).last
greatest_row [] = refl
greatest_row (row ∷ []) = refl
greatest_row (row ∷ next ∷ later) =
    let one : suc (length (next ∷ later) - 1) ≡ length (row ∷ next ∷ later) - 1 = omega arith in
    greatest_row (next ∷ later) ∙ ap (λ (k : ℕ). (row_at (row ∷ next ∷ later) k).last) one

range_is : (spelling : Spelling) (image : Image) (t : Opened) → IsOpen spelling t image → key_range_of image t.row ≡ opened_range t
range_is spelling image t is =
    ap (λ (x : Index). record { level = t.row.level; least = x.least; greatest = greatest_in x.rows; reach = [] }) (sym is.index_is)
    ∙ ap (λ (key : Bytes). record { level = t.row.level; least = t.index.least; greatest = key; reach = [] }) (greatest_row t.index.rows)

pub ranges_are : (spelling : Spelling) (image : Image) (ts : List Opened) → AreOpened spelling ts image
    → map (key_range_of image) (rows_of ts) ≡ map opened_range ts
ranges_are spelling image [] are = refl
ranges_are spelling image (t ∷ ts) are =
    ap (λ (r : KeyRange). r ∷ map (key_range_of image) (rows_of ts)) (range_is spelling image t are.0)
    ∙ ap (λ (rs : List KeyRange). opened_range t ∷ rs) (ranges_are spelling image ts are.1)

-- ---- the tables of a state

-- where the rows' pages spell tables, these are the open ones
pub held_of : (spelling : Spelling) (image : Image) → SpellsOne spelling → (ts : List Opened) (tables : List Table)
    → AreOpened spelling ts image → AreTablesOf spelling (rows_of ts) tables image → TablesAgree spelling ts tables image
held_of spelling image one [] [] opened are = tt
held_of spelling image one [] (t ∷ tables) opened are = elim are [ ]
held_of spelling image one (o ∷ ts) [] opened are = elim are [ ]
held_of spelling image one (o ∷ ts) (t ∷ tables) opened are =
    let stands = opened_stands spelling o are.0.0 image one opened.0 are.0.1 in (
      record { blocks = are.0.0; stands = stands; table_is = one_table spelling o.row t _ image are.0 (are.0.0, stands.at, refl) },
      held_of spelling image one ts tables opened.1 are.1,
    )

pub as_many : (spelling : Spelling) (image : Image) (rows : List Row) (tables : List Table) → AreTablesOf spelling rows tables image → length rows ≡ length tables
as_many spelling image [] [] are = refl
as_many spelling image [] (t ∷ tables) are = elim are [ ]
as_many spelling image (row ∷ rows) [] are = elim are [ ]
as_many spelling image (row ∷ rows) (t ∷ tables) are = ap suc (as_many spelling image rows tables are.1)
