-- Nothing is found exactly where an image stands for a state.
use Rattle.std.proofs.Common.{◌≡◌, ◌≤◌, ◌+◌, ◌*◌, ◌==◌, ℕ, Bool, true, not, List, [], ◌∷◌, ◌++◌, length, refl, inl, inr, sym, ap, ap₂, ◌∙◌, subst, arith}
use Rattle.std.proofs.lemmas.Bool.{and_from, eq-eqb, eqb-true, or_right}
use Rattle.std.proofs.lemmas.List.{length-map}
use Rattle.std.specs.Prelude.{is_none, map, nat_lt, Option, Some, None, ◌&&◌}
use Rattle.std.specs.List.{AllByRecursion}
use Rattle.byte_fields.specs.Faults.{Fault, refuse}
use Rattle.byte_fields.specs.declared.parts.Damage.{Damage}
use Rattle.byte_fields.specs.declared.parts.Part.TheVariants as part
use Rattle.byte_fields.specs.declared.parts.Row.{Row}
use Rattle.disk_trait.specs.Image.{Image, Shows}
use Rattle.filter_api.specs.Spellings.{Spelling}
use Rattle.filter_api.specs.declared.errors.FilterFault.{FilterFault}
use Rattle.filter_model.proofs.Differences.{no_difference}
use Rattle.filter_model.proofs.Fronts.{same-itself}
use Rattle.filter_model.specs.Leaves.{leaves_of}
use Rattle.filter_model.specs.Strings.{bytes_eq}
use Rattle.key_base.specs.ByteOrder.{is_before}
use Rattle.map_model.specs.SortedMap.{Bytes}
use Rattle.entry_model.specs.Entries.{Entry, keys_of}
use Rattle.block_model.specs.BlockReading.{block_in}
use Rattle.block_model.specs.Index.{Index, IndexRow}
use Rattle.block_model.specs.IndexReading.{index_in}
use Rattle.block_model.specs.Laws.{joined}
use Rattle.block_model.specs.Order.{Follow, is_any}
use Rattle.block_model.specs.Pages.{first_key, last_key, pages_for}
use Rattle.block_model.specs.Places.{byte_of_page, index_page}
use Rattle.block_model.proofs.Refusals.{kept, neither, not_false}
use Rattle.log_model.specs.Area.{LogIs, area_in}
use Rattle.log_model.proofs.Ends.{one_list}
use Rattle.manifest_model.specs.Laws.{IsVersion}
use Rattle.manifest_model.specs.Reading.{table_row_fault, table_rows_fault}
use Rattle.manifest_model.specs.Slots.{AreSlots, IsCurrent, IsVersionOf}
use Rattle.manifest_model.specs.Tables.{follows, ranges_after, ranges_fault}
use Rattle.manifest_model.specs.Version.{Version, log_page_of, slot_a, slot_b}
use Rattle.manifest_model.proofs.Versions.{in_use, one_version}
use Rattle.range_model.specs.Sources.{Change, Sets}
use Rattle.state_model.specs.State.{State}
use Rattle.state_model.specs.WithoutRanges.{HasNoRange}
use Rattle.table_model.specs.Damage.{AreSoundBlocks, IsOfBytes, IsSoundFilter, block_damage, index_damage, index_part}
use Rattle.table_model.specs.Images.{IsTableAt, table_with}
use Rattle.table_model.specs.Pieces.{IsPiece, blocks_in, end_to_end, index_of_pieces, row_of_piece}
use Rattle.table_model.specs.Tables.{Table}
use Rattle.table_model.proofs.Pieces.{least_of_index, piece_fills, ranges_of_index, row_last, row_pages_are, rows_of_index}
use Rattle.table_model.proofs.Shown.{shown_is, shown_parts}
use Rattle.table_model.proofs.Sound.{blocks_have_none, filter_has_none, filter_of_keys, index_has_none, index_read}
use Rattle.image_model.specs.Findings.{AreFindings, AtLeast, Before, Behind, FilterFindings, Finding, HasNoIndexRange, LogFindings, NamesOnlyEntries, NoFindingIsState, RowsFindings, ShowsOnlyEntries, WrongCount, WrongKeys, are_sound_blocks, block_at, block_findings, blocks_at, blocks_of_row, broken, compared, count_findings, fault_after, finding, findings_at, findings_behind, findings_of_blocks, has_its_keys, index_findings, index_rows, known_behind, known_keys, leaf_findings, may_follow, neighbours_fault, of_slots, of_version, ranges_findings, spelled, unless}
use Rattle.image_model.specs.Opening.{IsOpened, key_range_of, opened_state}
use Rattle.image_model.specs.Stands.{IsStateBy, IsStateOf}
use Rattle.image_model.specs.Tables.{AreTablesOf}
use Rattle.image_model.proofs.CheckedBlocks.{a_damage_is_found, none_of_both}
use Rattle.image_model.proofs.CheckedTables.{keys_known, row_without_finding_is_table}
use Rattle.image_model.proofs.Opened.{opened_is_state}
use Rattle.image_model.proofs.Opening.{all_opened, same_area}
use Rattle.image_model.proofs.Ranges.{ranges_keep}
use Rattle.image_model.proofs.Sound.{version_sound}

-- ---- rows have the pages that their lengths want

pub record HasPages (row : Row) : Type 0 where
  pub index : row.index_pages ≡ pages_for row.index_len
  pub filter : row.filter_pages ≡ pages_for row.filter_len

row_paged : (place : ℕ) (row : Row) → table_row_fault place row ≡ None → HasPages row
unfolding table_row_fault
row_paged place row none =
    let a = kept (nat_lt 6 row.level) place 8 _ none in
    let b = kept (row.data_pages == 0) (place + 8) 8 _ a.1 in
    let d = kept (not (row.index_pages == pages_for row.index_len)) (place + 12) 8 _ b.1 in
    let e = kept (not (row.filter_pages == pages_for row.filter_len)) (place + 16) 8 _ d.1 in
    record { index = eqb-true row.index_pages (pages_for row.index_len) (not_false _ d.0); filter = eqb-true row.filter_pages (pages_for row.filter_len) (not_false _ e.0) }

rows_paged : (place : ℕ) (rows : List Row) → table_rows_fault place rows ≡ None → AllByRecursion HasPages rows
unfolding table_rows_fault
rows_paged place [] none = tt
rows_paged place (row ∷ later) none = let both = neither _ _ none in (row_paged place row both.0, rows_paged (place + 64) later both.1)

version_paged : (v : Version) → IsVersion v → AllByRecursion HasPages v.rows
version_paged v is = rows_paged 64 v.rows (neither (table_rows_fault 64 v.rows) _ is.placed).0

-- ---- rule 12, where all indexes are sound

fault_is : (image : Image) (place : ℕ) (before : Row) (rows : List Row) → index_damage before image ≡ None → AllByRecursion (λ (row : Row). index_damage row image ≡ None) rows
    → fault_after place before rows image ≡ ranges_after place (key_range_of image before) (map (key_range_of image) rows)
unfolding ranges_after
fault_is image place before [] sound all = refl
fault_is image place before (row ∷ later) sound all =
    λ j. refuse (ap is_none sound j && (ap is_none all.0 j && not (follows (key_range_of image before) (key_range_of image row)))) place 12 (fault_is image (place + 64) row later all.0 all.1 j)

pub neighbours_are : (image : Image) (rows : List Row) → AllByRecursion (λ (row : Row). index_damage row image ≡ None) rows → neighbours_fault rows image ≡ ranges_fault (map (key_range_of image) rows)
unfolding ranges_fault
neighbours_are image [] all = refl
neighbours_are image (row ∷ later) all = fault_is image 128 row later all.0 all.1

pub indexes_of_opened : (spelling : Spelling) (image : Image) (rows : List Row) → AllByRecursion (IsOpened spelling image) rows → AllByRecursion (λ (row : Row). index_damage row image ≡ None) rows
indexes_of_opened spelling image [] all = tt
indexes_of_opened spelling image (row ∷ later) all = (all.0.index, indexes_of_opened spelling image later all.1)

no_range : (slot : ℕ) (o : Option Fault) → ranges_findings slot o ≡ [] → o ≡ None
no_range slot None e = refl
no_range slot (Some f) e = absurd cc

-- ---- without a finding

-- the ranges of a table are those of its index
ranges_of_row : (spelling : Spelling) (row : Row) (blocks : List (List Entry)) (image : Image) (t : IsTableAt spelling row blocks image) → (index_in (index_part row image)).ranges ≡ t.ranges
ranges_of_row spelling row blocks image t = ap (λ (x : Index). x.ranges) (index_read spelling row blocks image t) ∙ ranges_of_index t.pieces t.ranges

module _ (spelling : Spelling) (first_fault : Bytes → FilterFault) (image : Image) (bytes : IsOfBytes image) where
  rows_without : (rows : List Row) (xs : List Finding) → AllByRecursion HasPages rows → AllByRecursion (HasNoIndexRange image) rows
      → RowsFindings spelling first_fault image rows xs → xs ≡ [] → (tables : List Table) × AreTablesOf spelling rows tables image × AllByRecursion HasNoRange tables
  rows_without [] xs paged alone findings none = ([], tt, tt)
  rows_without (row ∷ rows) xs paged alone findings none =
      let a = none_of_both (index_findings row image) (findings.0 ++ findings.1) (sym findings.4 ∙ none) in
      let b = none_of_both findings.0 findings.1 a.1 in
      let t = row_without_finding_is_table spelling first_fault row image bytes paged.0.index paged.0.filter a.0
      (subst (λ (f : List Finding). FilterFindings spelling first_fault row (known_keys row image) image f) b.0 findings.2) in
      let more = rows_without rows findings.1 paged.1 alone.1 findings.3 b.1 in (
        table_with row (blocks_of_row row image) t.ranges ∷ more.0,
        ((blocks_of_row row image, t, refl), more.1),
        (sym (ranges_of_row spelling row (blocks_of_row row image) image t) ∙ alone.0, more.2),
      )

  log_without : (v : Version) (xs : List Finding) → LogFindings v image xs → xs ≡ [] → (area : ℕ) × (changes : List Change) × (v.log_page ≡ log_page_of area) × LogIs area changes image
  log_without v _ (spelled area changes is log) none = (area, changes, is, log)
  log_without v _ (broken area at rule is breaks) none = absurd cc

  -- the log that is spelled sets the entries
  sets_them : (v : Version) (area : ℕ) (changes : List Change) (names : NamesOnlyEntries v image) → v.log_page ≡ log_page_of area → LogIs area changes image → changes ≡ map Sets names.entries
  sets_them v area changes names is log =
      one_list changes (map Sets names.entries) (area_in area image) log
      (subst (λ (k : ℕ). LogIs k (map Sets names.entries) image) (same_area v.log_page names.area area names.area_is is) names.log)

  none_is_state : (xs : List Finding) → ShowsOnlyEntries image → AreFindings spelling first_fault image xs → xs ≡ [] → (s : State) × IsStateOf spelling s image
  none_is_state _ shows (of_slots d is) none = absurd (a_damage_is_found d none)
  none_is_state _ shows (of_version slot other v of_rows of_log slots current rows log) none =
      let a = none_of_both of_rows (ranges_findings slot (neighbours_fault v.rows image) ++ of_log) none in
      let b = none_of_both (ranges_findings slot (neighbours_fault v.rows image)) of_log a.1 in
      let is = in_use slot other v image slots current in
      let names = subst (λ (u : Version). NamesOnlyEntries u image) (one_version image shows.0 v shows.1 is) shows.2 in
      let tables = rows_without v.rows of_rows (version_paged v (version_sound v image is)) names.indexes rows a.0 in
      let opened = all_opened spelling v.rows tables.0 image tables.1 in
      let spelled = log_without v of_log log b.1 in
      let ranges : ranges_fault (map (key_range_of image) v.rows) ≡ None =
      sym (neighbours_are image v.rows (indexes_of_opened spelling image v.rows opened)) ∙ no_range slot (neighbours_fault v.rows image) b.0 in (
        opened_state v spelled.1 tables.0,
        opened_is_state spelling v spelled.1 names.entries tables.0 image
            (record { version_is = is; tables = opened; ranges = ranges; area = spelled.0; area_is = spelled.2; log = spelled.3 }) tables.1
            (record { log = sets_them v spelled.0 spelled.1 names spelled.2 spelled.3; tables = tables.2 }),
      )

-- ---- of a table

follow_cut : (test : Bytes → Bool) (block more : List Entry) → 1 ≤ length block → Follow test (keys_of (block ++ more)) → (test (first_key block) ≡ true) × Follow (is_before (last_key block)) (keys_of more)
follow_cut test [] more some f = absurd (omega (arith, some))
follow_cut test (e ∷ []) more some f = f
follow_cut test (e ∷ next ∷ later) more some f = (f.0, (follow_cut (is_before e.key) (next ∷ later) more (omega arith) f.1).1)

from_least : (entries : List Entry) → Follow is_any (keys_of entries) → Follow (may_follow (AtLeast (first_key entries))) (keys_of entries)
from_least [] f = tt
from_least (e ∷ later) f = (same-itself e.key, f.1)

read_piece : (page : ℕ) (piece : Bytes) (image : Image) → IsPiece piece → Shows (byte_of_page page) piece image → block_at page (row_of_piece piece) image ≡ block_in piece
read_piece page piece image is shown =
    ap block_in (shown_is (byte_of_page page) (4096 * (row_of_piece piece).pages) piece image (piece_fills piece is.whole ∙ ap (λ (n : ℕ). 4096 * n) (sym (row_pages_are piece))) shown)

none_of_pieces : (page : ℕ) (before : Before) (pieces : List Bytes) (image : Image) → AllByRecursion IsPiece pieces → AreSoundBlocks page (map row_of_piece pieces) image
    → Shows (byte_of_page page) (end_to_end pieces) image → Follow (may_follow before) (keys_of (joined (blocks_in pieces)))
    → (block_findings page before (map row_of_piece pieces) image ≡ []) × (blocks_at page (map row_of_piece pieces) image ≡ blocks_in pieces)
none_of_pieces page before [] image each sound shown follow = (refl, refl)
none_of_pieces page before (piece ∷ later) image each sound shown follow =
    let row = row_of_piece piece in
    let block = block_in piece in
    let parts = shown_parts (byte_of_page page) piece (end_to_end later) image shown in
    let read = read_piece page piece image each.0 parts.0 in
    let cut = follow_cut (may_follow before) block (joined (blocks_in later)) each.0.sound.some follow in
    let next : byte_of_page page + length piece ≡ byte_of_page (page + row.pages) = omega (arith, piece_fills piece each.0.whole, row_pages_are piece) in
    let rest = none_of_pieces (page + row.pages) (Behind (last_key block)) later image each.1 sound.1 (subst (λ (at : ℕ). Shows at (end_to_end later) image) next parts.1) cut.1 in
    let keys : has_its_keys before row (block_at page row image) ≡ true =
    ap (has_its_keys before row) read
    ∙ and_from (bytes_eq row.last (last_key block)) (may_follow before (first_key block)) (ap (λ (k : Bytes). bytes_eq k (last_key block)) (row_last piece) ∙ same-itself (last_key block)) cut.0 in
    let here : findings_at page before row (block_damage page row image) image ≡ [] =
    ap (λ (o : Option Damage). findings_at page before row o image) sound.0 ∙ ap (λ (b : Bool). unless b (finding part.Block (byte_of_page page) WrongKeys)) keys in
    let behind : known_behind page row (block_damage page row image) image ≡ Behind (last_key block) =
    ap (λ (o : Option Damage). known_behind page row o image) sound.0 ∙ ap (λ (b : List Entry). Behind (last_key b)) read in (
      (λ j. here j ++ block_findings (page + row.pages) (behind j) (map row_of_piece later) image) ∙ rest.0,
      ap₂ (λ (b : List Entry) (bs : List (List Entry)). b ∷ bs) read rest.1,
    )

module _ (spelling : Spelling) (first_fault : Bytes → FilterFault) (row : Row) (blocks : List (List Entry)) (image : Image) (t : IsTableAt spelling row blocks image) where
  read : index_in (index_part row image) ≡ index_of_pieces t.pieces t.ranges
  read = index_read spelling row blocks image t

  rows_are : index_rows row image ≡ map row_of_piece t.pieces
  rows_are = ap (λ (x : Index). x.rows) read ∙ rows_of_index t.pieces t.ranges

  least_is : (index_in (index_part row image)).least ≡ first_key (joined blocks)
  least_is = ap (λ (x : Index). x.least) read ∙ least_of_index t.pieces t.ranges ∙ ap (λ (bs : List (List Entry)). first_key (joined bs)) t.read

  none : (block_findings row.first_page (AtLeast (first_key (joined blocks))) (map row_of_piece t.pieces) image ≡ []) × (blocks_at row.first_page (map row_of_piece t.pieces) image ≡ blocks_in t.pieces)
  none = none_of_pieces row.first_page (AtLeast (first_key (joined blocks))) t.pieces image t.each
      (subst (λ (rows : List IndexRow). AreSoundBlocks row.first_page rows image) rows_are (blocks_have_none spelling row blocks image t)) t.blocks_shown
      (subst (λ (bs : List (List Entry)). Follow (may_follow (AtLeast (first_key (joined blocks)))) (keys_of (joined bs))) (sym t.read) (from_least (joined blocks) t.table.rising))

  none_of_all : findings_of_blocks row image ≡ []
  none_of_all = (λ j. block_findings row.first_page (AtLeast (least_is j)) (rows_are j) image) ∙ none.0

  blocks_are : blocks_of_row row image ≡ blocks
  blocks_are = ap (λ (rows : List IndexRow). blocks_at row.first_page rows image) rows_are ∙ none.1 ∙ t.read

  count_is : length (joined (blocks_of_row row image)) ≡ row.entries
  count_is = ap (λ (bs : List (List Entry)). length (joined bs)) blocks_are ∙ t.entries

  none_of_count : count_findings row image ≡ []
  none_of_count =
      ap (λ (b : Bool). unless b (finding part.Index (byte_of_page (index_page row)) WrongCount))
      (or_right (not (are_sound_blocks row.first_page (index_rows row image) image)) (length (joined (blocks_of_row row image)) == row.entries) (eq-eqb (length (joined (blocks_of_row row image))) row.entries count_is))

  none_of_index : index_findings row image ≡ []
  none_of_index = ap (λ (o : Option Damage). findings_behind row o image) (index_has_none spelling row blocks image t) ∙ (λ j. none_of_all j ++ none_of_count j)

  of_the_keys : leaves_of row.hash_bits row.real_bits (keys_of (joined blocks)) ≡ leaves_of row.hash_bits row.real_bits (keys_of (joined (blocks_of_row row image)))
  of_the_keys = ap (λ (bs : List (List Entry)). leaves_of row.hash_bits row.real_bits (keys_of (joined bs))) (sym blocks_are)

  filter_sound : IsSoundFilter spelling row image
  filter_sound =
      let is = filter_of_keys spelling row blocks image t in
      record {
        sum = (filter_has_none spelling row blocks image t).sum;
        cutoff = is.cutoff;
        leaves = leaves_of row.hash_bits row.real_bits (keys_of (joined blocks));
        spelled = is.spelled;
        many = length-map (keys_of (joined blocks)) _ ∙ length-map (joined blocks) _ ∙ t.entries;
      }

  none_of_filter : FilterFindings spelling first_fault row (known_keys row image) image []
  unfolding filter_sound
  none_of_filter =
      let known = keys_known row image (index_has_none spelling row blocks image t) none_of_all in
      subst (λ (f : List Finding). FilterFindings spelling first_fault row (known_keys row image) image f)
      (ap (leaf_findings row) (no_difference filter_sound.leaves (leaves_of row.hash_bits row.real_bits (keys_of (joined (blocks_of_row row image)))) of_the_keys))
      (compared (keys_of (joined (blocks_of_row row image))) filter_sound known)

-- ---- of a state

rows_of_state : (spelling : Spelling) (first_fault : Bytes → FilterFault) (image : Image) (rows : List Row) (tables : List Table) → AreTablesOf spelling rows tables image
    → RowsFindings spelling first_fault image rows []
rows_of_state spelling first_fault image [] [] are = refl
rows_of_state spelling first_fault image [] (t ∷ ts) are = elim are [ ]
rows_of_state spelling first_fault image (row ∷ rows) [] are = elim are [ ]
rows_of_state spelling first_fault image (row ∷ rows) (t ∷ ts) are = (
  [],
  [],
  none_of_filter spelling first_fault row are.0.0 image are.0.1,
  rows_of_state spelling first_fault image rows ts are.1,
  sym (ap (λ (f : List Finding). f ++ []) (none_of_index spelling first_fault row are.0.0 image are.0.1)),
)

state_has_none : (spelling : Spelling) (first_fault : Bytes → FilterFault) (image : Image) (slot other : ℕ) (v : Version) (s : State) → AreSlots slot other → IsCurrent slot other v image → IsStateBy spelling v s image
    → AreFindings spelling first_fault image []
state_has_none spelling first_fault image slot other v s slots current is =
    let named = is.named in
    let opened = all_opened spelling v.rows s.tables image named.tables in
    let ranges : neighbours_fault v.rows image ≡ None = neighbours_are image v.rows (indexes_of_opened spelling image v.rows opened) ∙ ranges_keep spelling v.rows s.tables image named.tables named.no_ranges named.order in
    subst (AreFindings spelling first_fault image) (ap (λ (o : Option Fault). ranges_findings slot o ++ []) ranges)
    (of_version slot other v [] [] slots current (rows_of_state spelling first_fault image v.rows s.tables named.tables) (spelled named.area s.log named.area_is named.log))

pub of_state : (spelling : Spelling) (first_fault : Bytes → FilterFault) (image : Image) → (s : State) × IsStateOf spelling s image → AreFindings spelling first_fault image []
of_state spelling first_fault image (s, (v, is)) = go is.version_is
  where
    go : IsVersionOf v image → AreFindings spelling first_fault image []
    go (inl current) = state_has_none spelling first_fault image slot_a slot_b v s (inl (refl, refl)) current is
    go (inr current) = state_has_none spelling first_fault image slot_b slot_a v s (inr (refl, refl)) current is

-- its indexes have no range either
indexes_alone : (spelling : Spelling) (rows : List Row) (tables : List Table) (image : Image) → AreTablesOf spelling rows tables image → AllByRecursion HasNoRange tables
    → AllByRecursion (HasNoIndexRange image) rows
indexes_alone spelling [] tables image are alone = tt
indexes_alone spelling (row ∷ rows) [] image are alone = elim are [ ]
indexes_alone spelling (row ∷ rows) (t ∷ ts) image are alone = (
  ranges_of_row spelling row are.0.0 image are.0.1 ∙ sym (ap (λ (u : Table). u.ranges) are.0.2) ∙ alone.0,
  indexes_alone spelling rows ts image are.1 alone.1,
)

state_shows : (spelling : Spelling) (image : Image) → (s : State) × IsStateOf spelling s image → ShowsOnlyEntries image
state_shows spelling image (s, (v, is)) =
    let named = is.named in (
      v,
      is.version_is,
      record {
        area = named.area;
        area_is = named.area_is;
        entries = named.entries;
        log = subst (λ (changes : List Change). LogIs named.area changes image) named.sets named.log;
        indexes = indexes_alone spelling v.rows s.tables image named.tables named.no_ranges;
      },
    )

pub no_finding_is_state : NoFindingIsState
no_finding_is_state spelling first_fault image bytes = (
  λ are. none_is_state spelling first_fault image bytes [] are.1 are.0 refl,
  λ state. (of_state spelling first_fault image state, state_shows spelling image state),
)
