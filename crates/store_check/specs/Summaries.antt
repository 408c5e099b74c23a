-- What is said of a store of which nothing is wrong.
use Rattle.std.specs.Prelude.{◌≡◌, ℕ, zero, suc, List, [], ◌∷◌, length}
use Rattle.std.specs.List.{sum_by}
use Rattle.byte_fields.specs.declared.parts.Row.{Row}
use Rattle.disk_trait.specs.Image.{Image}
use Rattle.disk_trait.specs.World.{Rose, World}
use Rattle.filter_api.specs.Spellings.{Spelling}
use Rattle.entry_model.specs.Entries.{Entry}
use Rattle.block_model.specs.Laws.{joined}
use Rattle.table_model.specs.Tables.{Table}
use Rattle.table_file.specs.Opened.{Opened}
use Rattle.table_file.specs.Search.{StandsThere}
use Rattle.table_file.specs.declared.fault.TableFault.{TableFault}
use Rattle.table_file.specs.declared.fault.TableFault.TheVariants as table
use Rattle.image_model.specs.Findings.{Finding}
use Rattle.image_model.specs.Stands.{IsStateOf}
use Rattle.range_model.specs.Sources.{Change}
use Rattle.state_model.specs.State.{State}
use Rattle.state_model.specs.View.{state_map}
use Rattle.store_check.specs.declared.error.CheckError.{CheckError}
use Rattle.store_check.specs.declared.error.CheckError.TheVariants as check
use Rattle.store_check.specs.declared.summary.Summary.{Summary}
use Rattle.store_check.specs.declared.summary.SummaryError.{SummaryError}
use Rattle.store_check.specs.declared.summary.SummaryError.TheVariants as summary

abbrev pub entries_in : Table → ℕ
entries_in t = length t.entries

-- the tables of a state, all their entries, its pairs, and the records of its log
pub record IsSummaryOf (s : State) (said : Summary) : Type 0 where
  pub tables : said.tables ≡ length s.tables
  pub entries : said.entries ≡ sum_by entries_in s.tables
  pub live : said.live ≡ length (state_map s)
  pub log : said.log ≡ length s.log

-- ---- why there is none

-- memory or the device, and not what was read
abbrev pub IsUndamaged : SummaryError → Type 0
IsUndamaged summary.Memory = Unit {0}
IsUndamaged (summary.Device cause) = Unit {0}
IsUndamaged summary.NotAStore = ⊥
IsUndamaged (summary.Damaged f) = ⊥

-- what was read, and neither memory nor the device
abbrev pub IsDamage : SummaryError → Type 0
IsDamage summary.Memory = ⊥
IsDamage (summary.Device cause) = ⊥
IsDamage summary.NotAStore = ⊥
IsDamage (summary.Damaged f) = Unit {0}

-- the device fails only where the count of failed reads rose
abbrev pub HasSummaryCause : World → World → SummaryError → Type 0
HasSummaryCause old new summary.Memory = Unit {0}
HasSummaryCause old new (summary.Device cause) = Rose old.seen.read_faults new.seen.read_faults
HasSummaryCause old new summary.NotAStore = Unit {0}
HasSummaryCause old new (summary.Damaged f) = Unit {0}

abbrev pub IsSummaryErrorOf : TableFault → SummaryError → Type 0
IsSummaryErrorOf table.Memory error = error ≡ summary.Memory
IsSummaryErrorOf (table.Device cause) error = error ≡ summary.Device cause
IsSummaryErrorOf (table.Damaged d) error = (f : Finding) × (error ≡ summary.Damaged f)

-- the same as it ends a check
abbrev pub IsSummaryErrorBy : CheckError → SummaryError → Type 0
IsSummaryErrorBy check.Memory error = error ≡ summary.Memory
IsSummaryErrorBy (check.Device cause) error = error ≡ summary.Device cause
IsSummaryErrorBy check.NotAStore error = error ≡ summary.NotAStore

-- ---- the second reading

-- these rows and these records are those of the state of an image
pub record AreOfState (spelling : Spelling) (s : State) (rows : List Row) (records : List Change) (image : Image) : Type 0 where
  pub is : IsStateOf spelling s image
  pub rows_are : rows ≡ is.0.rows
  pub records_are : records ≡ s.log

abbrev pub row_entries : Row → ℕ
row_entries row = row.entries

-- an open table is that of a state, whose blocks are on the device
pub record IsTableThere (spelling : Spelling) (opened : Opened) (t : Table) (image : Image) : Type 0 where
  pub blocks : List (List Entry)
  pub there : StandsThere spelling opened blocks image
  pub entries_are : t.entries ≡ joined blocks

-- one after the other
abbrev pub AreTablesThere : Spelling → List Opened → List Table → Image → Type 0
AreTablesThere spelling [] [] image = Unit {0}
AreTablesThere spelling (opened ∷ more) (t ∷ tables) image = IsTableThere spelling opened t image × AreTablesThere spelling more tables image
AreTablesThere spelling opened tables image = ⊥

-- the numbers of a given number of tables, the greatest first
abbrev pub numbers_below : ℕ → List ℕ
numbers_below zero = []
numbers_below (suc n) = n ∷ numbers_below n
