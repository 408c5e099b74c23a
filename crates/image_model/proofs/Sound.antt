-- A state that an image stands for is sound.
use Rattle.std.proofs.Common.{◌≡◌, ◌<◌, ◌≤◌, ◌++◌, ℕ, List, [], ◌∷◌, length, refl, inl, inr, sym, ap, ap₂, ◌∙◌, subst, arith}
use Rattle.std.proofs.lemmas.List.{append-nil, length-map}
use Rattle.std.proofs.lemmas.List.Sums.{sum_by-cons}
use Rattle.std.specs.Prelude.{map, Option, None, sum_by}
use Rattle.std.specs.List.{AllByRecursion, AllPairs}
use Rattle.byte_fields.specs.declared.parts.Row.{Row}
use Rattle.disk_trait.specs.Image.{Image}
use Rattle.disk_trait.proofs.Images.{window_size}
use Rattle.filter_api.specs.Ranges.{InRange}
use Rattle.filter_api.specs.Spellings.{Spelling}
use Rattle.filter_api.specs.declared.settings.Settings.{Settings}
use Rattle.entry_model.specs.Entries.{Entry}
use Rattle.key_base.specs.Limits.{last_epoch}
use Rattle.log_model.specs.Area.{area_size, start_of}
use Rattle.log_model.proofs.Logs.{size_is}
use Rattle.block_model.specs.BlockReading.{block_in}
use Rattle.block_model.specs.Index.{IsIndexRow}
use Rattle.block_model.specs.Laws.{joined}
use Rattle.block_model.specs.Order.{is_any}
use Rattle.block_model.specs.Pages.{pages_for}
use Rattle.block_model.specs.Places.{pages_of}
use Rattle.extent_model.specs.Extents.{AreApart, Extent, IsOnDevice}
use Rattle.extent_model.proofs.Lists.{Pairs, all_pairs}
use Rattle.manifest_model.specs.Laws.{IsVersion}
use Rattle.manifest_model.specs.Slots.{IsVersionOf}
use Rattle.manifest_model.specs.Version.{Version}
use Rattle.state_model.specs.Sound.{IsSound, IsSoundTable, MayRun}
use Rattle.state_model.specs.State.{Job, State, written_by}
use Rattle.state_model.specs.Taken.{extent_of, taken}
use Rattle.state_model.specs.WithoutRanges.{HasNoRange}
use Rattle.state_model.specs.Logs.{filled_by}
use Rattle.state_model.proofs.Places.{IsSmall, blocks_joined_small}
use Rattle.state_model.proofs.Sayings.{alone_is, rises_follow}
use Rattle.table_model.specs.Images.{IsTableAt, IsTableOf, table_with}
use Rattle.table_model.specs.Tables.{FilterBytes, Table}
use Rattle.table_model.specs.Pieces.{IsPiece, blocks_in, piece_pages, row_of_piece}
use Rattle.table_model.proofs.Pieces.{row_pages_are, rows_of_index}
use Rattle.map_model.specs.SortedMap.{Bytes}
use Rattle.image_model.specs.Sound.{StateIsSound}
use Rattle.image_model.specs.Stands.{IsNamedBy}
use Rattle.image_model.specs.Tables.{AreTablesOf}
use Rattle.image_model.proofs.Placed.{AreRowsApart, IsLevelled, IsPlaced, extent_of_row, version_apart, version_levelled, version_placed}

-- ---- tables

some_pages : (n : ℕ) → 1 ≤ n → 1 ≤ pages_for n
unfolding pages_for
some_pages n some = omega (arith, some)

pieces_have_pages : (pieces : List Bytes) → AllByRecursion IsIndexRow (map row_of_piece pieces) → length pieces ≤ sum_by piece_pages pieces
pieces_have_pages [] each = omega arith
pieces_have_pages (p ∷ more) each = omega (arith, sum_by-cons piece_pages p more, row_pages_are p, each.0.some_pages, pieces_have_pages more each.1)

some_blocks : (spelling : Spelling) (row : Row) (blocks : List (List Entry)) (image : Image) → IsTableAt spelling row blocks image
    → (1 ≤ length blocks) × (length blocks ≤ pages_of row)
some_blocks spelling row blocks image t =
    let ps = t.pieces in
    let many = ap length (rows_of_index ps t.ranges) ∙ length-map ps row_of_piece in
    let same = sym (length-map ps block_in) ∙ ap length t.read in
    let rows = subst (AllByRecursion IsIndexRow) (rows_of_index ps t.ranges) t.index_sound.each in
    (omega (arith, t.index_sound.some, many, same), omega (arith, pieces_have_pages ps rows, t.data_pages, same))

small_blocks : (pieces : List Bytes) → AllByRecursion IsPiece pieces → AllByRecursion IsSmall (blocks_in pieces)
small_blocks [] each = tt
small_blocks (p ∷ more) each = (each.0.sound.few, small_blocks more each.1)

table_sound : (spelling : Spelling) (row : Row) (t : Table) (image : Image) → IsLevelled row → IsTableOf spelling row t image → HasNoRange t → IsSoundTable t
table_sound spelling row t image is of_row none = subst IsSoundTable (sym (of_row.2 ∙ ap (table_with row of_row.0) (sym (ap (λ (u : Table). u.ranges) of_row.2) ∙ none))) (record {
  level = is.level;
  entries = of_row.1.table;
  source = alone_is (joined of_row.0) (rises_follow is_any (joined of_row.0) of_row.1.table.rising);
  bounds = tt;
  blocks = some_blocks spelling row of_row.0 image of_row.1;
  few = blocks_joined_small of_row.0 (subst (AllByRecursion IsSmall) of_row.1.read (small_blocks of_row.1.pieces of_row.1.each));
  settings = is.range.settings;
  ratio = is.range.ratio;
})

pub tables_sound : (spelling : Spelling) (rows : List Row) (tables : List Table) (image : Image) → AllByRecursion IsLevelled rows
    → AreTablesOf spelling rows tables image → AllByRecursion HasNoRange tables → AllByRecursion IsSoundTable tables
tables_sound spelling [] [] image is are none = tt
tables_sound spelling [] (t ∷ ts) image is are none = elim are [ ]
tables_sound spelling (row ∷ rows) [] image is are none = elim are [ ]
tables_sound spelling (row ∷ rows) (t ∷ ts) image is are none =
    (table_sound spelling row t image is.0 are.0 none.0, tables_sound spelling rows ts image is.1 are.1 none.1)

same_many : (spelling : Spelling) (rows : List Row) (tables : List Table) (image : Image) → AreTablesOf spelling rows tables image → length tables ≡ length rows
same_many spelling [] [] image are = refl
same_many spelling [] (t ∷ ts) image are = elim are [ ]
same_many spelling (row ∷ rows) [] image are = elim are [ ]
same_many spelling (row ∷ rows) (t ∷ ts) image are = omega (arith, same_many spelling rows ts image are.1)

-- ---- their extents

extents_are : (spelling : Spelling) (rows : List Row) (tables : List Table) (image : Image) → AreTablesOf spelling rows tables image
    → map extent_of tables ≡ map extent_of_row rows
extents_are spelling [] [] image are = refl
extents_are spelling [] (t ∷ ts) image are = elim are [ ]
extents_are spelling (row ∷ rows) [] image are = elim are [ ]
extents_are spelling (row ∷ rows) (t ∷ ts) image are =
    ap₂ (λ (e : Extent) (es : List Extent). e ∷ es) (ap extent_of are.0.2) (extents_are spelling rows ts image are.1)

on_device : (pages : ℕ) (rows : List Row) → AllByRecursion IsLevelled rows → AllByRecursion (IsPlaced pages) rows → AllByRecursion (IsOnDevice pages) (map extent_of_row rows)
on_device pages [] is placed = tt
on_device pages (row ∷ rows) is placed =
    (record { some = omega (arith, is.0.some); from = placed.0.from; to = placed.0.to }, on_device pages rows is.1 placed.1)

all_rows : (row : Row) (rows : List Row) → AllByRecursion (AreRowsApart row) rows → AllByRecursion (AreApart (extent_of_row row)) (map extent_of_row rows)
all_rows row [] all = tt
all_rows row (next ∷ rows) all = (all.0, all_rows row rows all.1)

pairs_of_rows : (rows : List Row) → Pairs AreRowsApart rows → Pairs AreApart (map extent_of_row rows)
pairs_of_rows [] pairs = tt
pairs_of_rows (row ∷ rows) pairs = (all_rows row rows pairs.0, pairs_of_rows rows pairs.1)

-- a state without a job that keeps no table takes the extents of its tables
named_alone : (s : State) → s.job ≡ None → s.kept ≡ [] → taken s ≡ map extent_of s.tables
named_alone s no_job none_kept =
    ap₂ (λ (job : Option Job) (more : List Table). map extent_of ((s.tables ++ written_by job) ++ more)) no_job none_kept
    ∙ ap (map extent_of) (append-nil (s.tables ++ []) ∙ append-nil s.tables)

-- ---- the state

last_is : last_epoch ≡ 18446744073709551615
unfolding last_epoch
last_is = refl

pub version_sound : (v : Version) (image : Image) → IsVersionOf v image → IsVersion v
version_sound v image (inl is) = is.here.sound
version_sound v image (inr is) = is.here.sound

module _ (spelling : Spelling) (filter_bytes : FilterBytes) (v : Version) (s : State) (image : Image) (is : IsVersion v) (named : IsNamedBy spelling v s image) where
  range : InRange s.settings
  range = subst InRange (sym named.settings) (record { hash_bits = is.hash_bits; real_bits = is.real_bits })

  ratio : s.settings.ratio ≤ 65535
  ratio = omega (arith, ap (λ (x : Settings). x.ratio) named.settings, is.ratio)

  extents : taken s ≡ map extent_of_row v.rows
  extents = named_alone s named.no_job named.none_kept ∙ extents_are spelling v.rows s.tables image named.tables

  log_fits : filled_by s.log < 262144
  log_fits = omega (arith, named.log.begins.within, window_size image (start_of named.area) area_size, size_is)

  pub named_sound : IsSound filter_bytes s
  named_sound = record {
    settings = range;
    ratio = ratio;
    device = (omega (arith, named.pages, is.some_pages), omega (arith, named.pages, is.few_pages));
    epoch = (omega (arith, named.epoch, is.some_epoch), omega (arith, named.epoch, is.epoch, last_is));
    log = named.log.begins.sound;
    log_fits = log_fits;
    few = omega (arith, same_many spelling v.rows s.tables image named.tables, is.few_tables);
    tables = tables_sound spelling v.rows s.tables image (version_levelled v is) named.tables named.no_ranges;
    order = named.order;
    on_device = subst (λ (es : List Extent). AllByRecursion (IsOnDevice s.pages) es) (sym extents)
        (subst (λ (n : ℕ). AllByRecursion (IsOnDevice n) (map extent_of_row v.rows)) (sym named.pages) (on_device v.pages v.rows (version_levelled v is) (version_placed v is)));
    apart = subst (λ (es : List Extent). AllPairs AreApart es) (sym extents) (all_pairs AreApart (map extent_of_row v.rows) (pairs_of_rows v.rows (version_apart v is)));
    job = subst (MayRun filter_bytes s.settings s.tables) (sym named.no_job) tt;
  }

pub state_sound : StateIsSound
state_sound spelling filter_bytes s image is =
    named_sound spelling filter_bytes is.0 s image (version_sound is.0 image is.1.version_is) is.1.named
