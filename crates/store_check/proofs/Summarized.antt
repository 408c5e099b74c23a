-- What a summary says of a state, and why there is none.
use Rattle.std.proofs.Common.{◌≡◌, ◌≤◌, ◌+◌, ℕ, true, List, [], length, sym, ap, subst, arith}
use Rattle.std.specs.Prelude.{Err, IsErrAnd, MatchResult, Ok, Some}
use Rattle.std.specs.declared.result.Result.{Result}
use Rattle.std.specs.List.{AllByRecursion, sum_by}
use Rattle.disk_trait.specs.Image.{Image}
use Rattle.entry_model.specs.Entries.{Entry, IsEntry}
use Rattle.filter_api.specs.Spellings.{Spelling}
use Rattle.image_model.proofs.OnlyEntries.{state_has_entries}
use Rattle.image_model.proofs.Sound.{state_sound}
use Rattle.byte_fields.specs.declared.parts.Row.{Row}
use Rattle.image_model.specs.Stands.{IsStateBy, IsStateOf}
use Rattle.image_model.specs.Tables.{AreTablesOf}
use Rattle.log_model.specs.Area.{LogIs}
use Rattle.manifest.specs.Manifest.{Manifest}
use Rattle.manifest_model.specs.Version.{Version, log_page_of}
use Rattle.merge_rows.specs.Laws.{StandingMerges}
use Rattle.merge_rows.specs.Merges.{Merge, merge_from, rows_left}
use Rattle.merge_rows.specs.Steps.{IsSoundMerge}
use Rattle.log_model.specs.Changes.{IsLoggedChange}
use Rattle.range_model.specs.Sources.{Change, Source, source_of}
use Rattle.state_model.proofs.SoundLogs.{changes_entries, logged_changes}
use Rattle.state_model.specs.Sound.{IsSound}
use Rattle.state_model.specs.State.{State}
use Rattle.state_model.specs.View.{memory, state_map}
use Rattle.state_model.specs.WithoutRanges.{HasOnlyEntries}
use Rattle.store_check.proofs.Lives.{merge_is_sound, rows_few, rows_many}
use Rattle.store_check.specs.Summaries.{AreOfState, AreTablesThere, IsSummaryErrorOf, IsUndamaged, entries_in, numbers_below}
use Rattle.store_check.specs.declared.summary.SummaryError.{SummaryError}
use Rattle.table_file.specs.Faults.{IsNoDamage}
use Rattle.table_file.specs.Opened.{Opened}
use Rattle.table_file.specs.declared.fault.TableFault.{TableFault}
use Rattle.table_file.specs.declared.fault.TableFault.TheVariants as table
use Rattle.table_model.specs.Tables.{FilterBytes}

-- ---- why there is none

pub undamaged_of : (fault : TableFault) (error : SummaryError) → IsNoDamage fault → IsSummaryErrorOf fault error → IsUndamaged error
undamaged_of table.Memory error none is = subst IsUndamaged (sym is) tt
undamaged_of (table.Device cause) error none is = subst IsUndamaged (sym is) tt
undamaged_of (table.Damaged d) error none is = absurd none

pub undamaged_given : {T : Type 0} (r : Result T SummaryError) (P : T → Type 0) (fault : TableFault) → IsErrAnd r (λ e. IsSummaryErrorOf fault e) → IsNoDamage fault → MatchResult r P IsUndamaged
undamaged_given (Ok x) P fault is none = absurd is
undamaged_given (Err e) P fault is none = undamaged_of fault e none is

-- ---- what is read again of a state

module _ (spelling : Spelling) (s : State) (image there : Image) (held : there ≡ image) (is : IsStateOf spelling s image) where
  abbrev pub state_again : IsStateOf spelling s there
  state_again = (is.0, subst (λ (f : Image). IsStateBy spelling is.0 s f) (sym held) is.1)

  pub of_state_again : (rows : List Row) (records : List Change) → rows ≡ is.0.rows → records ≡ s.log → AreOfState spelling s rows records there
  of_state_again rows records rows_are records_are = record { is = state_again; rows_are = rows_are; records_are = records_are }

  pub tables_again : (rows : List Row) → rows ≡ is.0.rows → AreTablesOf spelling rows s.tables there
  tables_again rows same = subst (λ (rs : List Row). AreTablesOf spelling rs s.tables there) (sym same) (subst (AreTablesOf spelling is.0.rows s.tables) (sym held) is.1.named.tables)

  module _ (m : Manifest) (same : m.version ≡ is.0) where
    pub log_again : (area : ℕ) → log_page_of area ≡ m.version.log_page → LogIs area s.log there
    log_again area page =
        let same_area : is.1.named.area ≡ area = omega (arith, page, is.1.named.area_is, ap (λ (v : Version). v.log_page) same) in
        subst (LogIs area s.log) (sym held) (subst (λ (n : ℕ). LogIs n s.log image) same_area is.1.named.log)

  -- it has no deleted range
  only_again : HasOnlyEntries s is.1.named.entries
  only_again = state_has_entries spelling is.0 s image is.1.named

  abbrev pub no_bytes : FilterBytes
  no_bytes settings keys = []

  pub sound_again : IsSound no_bytes s
  sound_again = state_sound spelling no_bytes s image is

  module _ (merges : StandingMerges) (opened : List Opened) (are : AreTablesThere spelling opened s.tables image) (entries : List Entry) (memory_is : entries ≡ memory s) where
    abbrev merge_with : List Entry → Merge
    merge_with es = merge_from (numbers_below (length opened)) opened (Some es) [] true

    again : (P : List Entry → Image → Type 0) → P (memory s) image → P entries there
    again P here = subst (P entries) (sym held) (subst (λ (es : List Entry). P es image) (sym memory_is) here)

    pub merge_again : IsSoundMerge (merge_with entries) opened there
    merge_again = again (λ es f. IsSoundMerge (merge_with es) opened f) (merge_is_sound no_bytes s sound_again is.1.named.entries only_again merges spelling image opened are)

    pub many_again : length (rows_left (merge_with entries) opened there) ≡ length (state_map s)
    many_again = again (λ es f. length (rows_left (merge_with es) opened f) ≡ length (state_map s)) (rows_many no_bytes s sound_again is.1.named.entries only_again merges spelling image opened are)

    pub few_again : length (rows_left (merge_with entries) opened there) ≤ sum_by entries_in s.tables + length s.log
    few_again = again (λ es f. length (rows_left (merge_with es) opened f) ≤ sum_by entries_in s.tables + length s.log) (rows_few no_bytes s sound_again is.1.named.entries only_again merges spelling image opened are)

-- the entries in memory are those of a log
pub memory_sound : (log : List Change) (memory : Source) → AllByRecursion IsLoggedChange log → memory ≡ source_of log → AllByRecursion IsEntry memory.entries
memory_sound log memory each is = subst (λ (source : Source). AllByRecursion IsEntry source.entries) (sym is) (changes_entries log (logged_changes log each))
