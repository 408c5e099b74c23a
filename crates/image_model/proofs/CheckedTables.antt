-- Where a row's index, blocks and filter give no finding, its pages spell the table of its blocks.
use Rattle.std.proofs.Common.{◌≡◌, ◌≤◌, ◌+◌, ◌||◌, ℕ, Bool, true, false, not, List, [], ◌∷◌, ◌++◌, length, refl, sym, ap, ap₂, ◌∙◌, subst, arith, length-append}
use Rattle.std.proofs.lemmas.Bool.{and_from, eqb-true}
use Rattle.std.proofs.lemmas.List.{length-map}
use Rattle.std.proofs.lemmas.List.Sums.{sum_by-cons}
use Rattle.std.specs.Prelude.{is_none, map, sum_by, Option, Some, None}
use Rattle.std.specs.List.{AllByRecursion}
use Rattle.byte_fields.specs.Sums.{fnv_of}
use Rattle.byte_fields.specs.declared.parts.Damage.{Damage}
use Rattle.byte_fields.specs.declared.parts.Row.{Row}
use Rattle.disk_trait.specs.Image.{Image, Shows, window}
use Rattle.disk_trait.proofs.Images.{window_size}
use Rattle.filter_api.specs.Spellings.{IsSpelling, Spelling}
use Rattle.filter_api.specs.declared.errors.FilterFault.{FilterFault}
use Rattle.filter_model.proofs.Fronts.{same-true}
use Rattle.filter_model.specs.Leaves.{Leaf, leaves_of}
use Rattle.map_model.specs.SortedMap.{Bytes}
use Rattle.entry_model.specs.Entries.{Entry, IsEntry, keys_of}
use Rattle.block_model.specs.Block.{IsEntryOf}
use Rattle.block_model.specs.BlockReading.{block_in}
use Rattle.block_model.specs.Formats.{Format, Old, Prefixed}
use Rattle.block_model.specs.Index.{Index, IndexRow, IsIndex, index_bytes}
use Rattle.block_model.specs.IndexReading.{index_fault, index_in}
use Rattle.block_model.specs.Laws.{joined}
use Rattle.block_model.specs.Order.{Follow, is_any}
use Rattle.block_model.specs.Pages.{first_key, pages_for}
use Rattle.block_model.specs.Places.{byte_of_page, filter_page, index_page}
use Rattle.block_model.proofs.IndexesRead.{index_written}
use Rattle.table_model.specs.Damage.{IsOfBytes, IsSoundFilter, block_damage, filter_part, index_damage, index_part}
use Rattle.table_model.specs.Images.{IsTableAt}
use Rattle.table_model.specs.Pieces.{IsPiece, blocks_in, index_of_pieces, piece_pages, row_of_piece}
use Rattle.table_model.proofs.Pieces.{row_pages_are}
use Rattle.table_model.proofs.Decided.{window_bytes}
use Rattle.image_model.specs.Findings.{AtLeast, Before, FilterFindings, Finding, RowWithoutFindingIsTable, are_sound_blocks, block_findings, blocks_of_row, compared, count_findings, damaged, findings_at, findings_behind, findings_of_blocks, index_rows, keys_by, known_behind, known_keys, leaf_findings, may_follow, unknown}
use Rattle.filter_model.specs.Answers.{first_difference}
use Rattle.image_model.proofs.CheckedBlocks.{AreBlocks, a_damage_is_found, are_blocks, at_none, none_of_both, part_kept, pieces_at, pieces_read, right}
use Rattle.filter_model.proofs.Differences.{one_list}

any_follow : (test : Bytes → Bool) (keys : List Bytes) → Follow test keys → Follow is_any keys
any_follow test [] f = tt
any_follow test (key ∷ later) f = (refl, f.1)

first_passes : (test : Bytes → Bool) (entries : List Entry) → 1 ≤ length entries → Follow test (keys_of entries) → test (first_key entries) ≡ true
first_passes test [] some f = absurd (omega (arith, some))
first_passes test (e ∷ later) some f = f.0

all_join : (xs ys : List Entry) → AllByRecursion IsEntry xs → AllByRecursion IsEntry ys → AllByRecursion IsEntry (xs ++ ys)
all_join [] ys a b = b
all_join (x ∷ xs) ys a b = (a.0, all_join xs ys a.1 b)

entry_of_format : (f : Format) (e : Entry) → IsEntryOf f e → IsEntry e
entry_of_format Old e is = is.sound
entry_of_format Prefixed e is = is

entries_of_format : (f : Format) (es : List Entry) → AllByRecursion (IsEntryOf f) es → AllByRecursion IsEntry es
entries_of_format f [] all = tt
entries_of_format f (e ∷ es) all = (entry_of_format f e all.0, entries_of_format f es all.1)

all_entries : (pieces : List Bytes) → AllByRecursion IsPiece pieces → AllByRecursion IsEntry (joined (blocks_in pieces))
all_entries [] all = tt
all_entries (p ∷ later) all = all_join _ (joined (blocks_in later)) (entries_of_format _ _ all.0.sound.each) (all_entries later all.1)

some_entries : (pieces : List Bytes) → 1 ≤ length pieces → AllByRecursion IsPiece pieces → 1 ≤ length (joined (blocks_in pieces))
some_entries [] some all = absurd (omega (arith, some))
some_entries (p ∷ later) some all = omega (arith, length-append (block_in p) (joined (blocks_in later)), all.0.sound.some)

pages_are : (pieces : List Bytes) → sum_by (λ (row : IndexRow). row.pages) (map row_of_piece pieces) ≡ sum_by piece_pages pieces
pages_are [] = refl
pages_are (p ∷ later) =
    omega (arith, sum_by-cons (λ (row : IndexRow). row.pages) (row_of_piece p) (map row_of_piece later), sum_by-cons piece_pages p later, row_pages_are p, pages_are later)

index_is : (pieces : List Bytes) (index : Index) → first_key (joined (blocks_in pieces)) ≡ index.least → map row_of_piece pieces ≡ index.rows
    → index_of_pieces pieces index.ranges ≡ index
unfolding index_of_pieces
index_is pieces index least rows = λ i. record { least = least i; rows = rows i; ranges = index.ranges }

module _ (spelling : Spelling) (row : Row) (image : Image) (bytes : IsOfBytes image) (sound_index : index_damage row image ≡ None) (keys : findings_of_blocks row image ≡ []) where
  abbrev part : Bytes
  part = index_part row image

  abbrev blocks : List (List Entry)
  blocks = blocks_of_row row image

  abbrev pieces : List Bytes
  pieces = pieces_at row.first_page (index_rows row image) image

  read : blocks_in pieces ≡ blocks
  read = pieces_read row.first_page (index_rows row image) image

  kept : (row.index_sum ≡ fnv_of part) × (index_fault row.data_pages part ≡ None)
  kept = part_kept _ (byte_of_page (index_page row)) row.index_sum part (index_fault row.data_pages part) sound_index

  written : IsIndex row.data_pages (index_in part) × (index_bytes (index_in part) ≡ part)
  written = index_written row.data_pages part (window_bytes image (byte_of_page (index_page row)) row.index_len bytes) kept.1

  are : AreBlocks row.first_page (AtLeast (index_in part).least) (index_rows row image) image
  are = are_blocks row.first_page (AtLeast (index_in part).least) (index_rows row image) image bytes keys

  some : 1 ≤ length (joined blocks)
  some = subst (λ (bs : List (List Entry)). 1 ≤ length (joined bs)) read (some_entries pieces (omega (arith, written.0.some, ap (λ (rows : List IndexRow). length rows) are.rows_are, length-map pieces row_of_piece)) are.each)

  index : index_of_pieces pieces (index_in part).ranges ≡ index_in part
  index = index_is pieces (index_in part) (ap (λ (bs : List (List Entry)). first_key (joined bs)) read ∙ sym (same-true (index_in part).least (first_key (joined blocks)) (first_passes (may_follow (AtLeast (index_in part).least)) (joined blocks) some are.rising))) are.rows_are

  long : length part ≡ row.index_len
  long = window_size image (byte_of_page (index_page row)) row.index_len

  filter_long : length (filter_part row image) ≡ row.filter_len
  filter_long = window_size image (byte_of_page (filter_page row)) row.filter_len

  index_bytes_are : index_bytes (index_of_pieces pieces (index_in part).ranges) ≡ part
  index_bytes_are = ap index_bytes index ∙ written.1

  pub checked_table : row.index_pages ≡ pages_for row.index_len → row.filter_pages ≡ pages_for row.filter_len → length (joined blocks) ≡ row.entries
      → (sound : IsSoundFilter spelling row image) → first_difference sound.leaves (leaves_of row.hash_bits row.real_bits (keys_of (joined blocks))) ≡ None → IsTableAt spelling row blocks image
  checked_table index_pages filter_pages count sound none = record {
    pieces = pieces;
    read = read;
    each = are.each;
    table = record {
      sound = record { each = subst (λ (bs : List (List Entry)). AllByRecursion IsEntry (joined bs)) read (all_entries pieces are.each); few = omega (arith, count, sound.many, sound.spelled.may_stand.valid.few) };
      some = some;
      rising = any_follow (may_follow (AtLeast (index_in part).least)) (keys_of (joined blocks)) are.rising;
    };
    blocks_shown = are.shown;
    data_pages = sym (pages_are pieces) ∙ ap (sum_by (λ (r : IndexRow). r.pages)) are.rows_are ∙ written.0.all_pages;
    index_pages = index_pages;
    filter_pages = filter_pages;
    ranges = (index_in part).ranges;
    index_sound = subst (IsIndex row.data_pages) (sym index) written.0;
    index = record {
      shown = subst (λ (b : Bytes). Shows (byte_of_page (index_page row)) b image) (sym index_bytes_are) (ap (window image (byte_of_page (index_page row))) long);
      size = ap (λ (b : Bytes). length b) index_bytes_are ∙ long;
      sum = ap fnv_of index_bytes_are ∙ sym kept.0;
    };
    filter_bytes = filter_part row image;
    filter_of_keys = record {
      cutoff = sound.cutoff;
      spelled = subst (λ (leaves : List Leaf). IsSpelling spelling row.hash_bits row.real_bits sound.cutoff leaves (filter_part row image)) (one_list sound.leaves (leaves_of row.hash_bits row.real_bits (keys_of (joined blocks))) none) sound.spelled;
    };
    filter = record {
      shown = ap (window image (byte_of_page (filter_page row))) filter_long;
      size = filter_long;
      sum = sym sound.sum;
    };
    entries = count;
  }

-- ---- of the findings

-- no damage is among blocks without a finding
are_sound : (page : ℕ) (before : Before) (rows : List IndexRow) (image : Image) → block_findings page before rows image ≡ [] → are_sound_blocks page rows image ≡ true
are_sound page before [] image none = refl
are_sound page before (row ∷ later) image none =
    let parts = none_of_both (findings_at page before row (block_damage page row image) image) _ none in
    let here = (at_none page before row (block_damage page row image) image parts.0).0 in
    and_from (is_none (block_damage page row image)) (are_sound_blocks (page + row.pages) later image) (ap is_none here)
    (are_sound (page + row.pages) (known_behind page row (block_damage page row image) image) later image parts.1)

pub record NoneBehind (row : Row) (image : Image) (o : Option Damage) : Type 0 where
  pub index : o ≡ None
  pub blocks : findings_of_blocks row image ≡ []
  pub count : count_findings row image ≡ []

pub none_behind : (row : Row) (image : Image) (o : Option Damage) → findings_behind row o image ≡ [] → NoneBehind row image o
none_behind row image (Some d) e = absurd (a_damage_is_found d e)
none_behind row image None e = let parts = none_of_both (findings_of_blocks row image) (count_findings row image) e in record { index = refl; blocks = parts.0; count = parts.1 }

count_right : (row : Row) (image : Image) → findings_of_blocks row image ≡ [] → count_findings row image ≡ [] → length (joined (blocks_of_row row image)) ≡ row.entries
count_right row image blocks count =
    let sound = are_sound row.first_page (AtLeast (index_in (index_part row image)).least) (index_rows row image) image blocks in
    eqb-true (length (joined (blocks_of_row row image))) row.entries (second _ _ sound (right _ _ count))
  where
    second : (b c : Bool) → b ≡ true → (not b || c) ≡ true → c ≡ true
    second true c s e = e
    second false c s e = absurd cc

no_leaf : (row : Row) (o : Option ℕ) → leaf_findings row o ≡ [] → o ≡ None
no_leaf row None e = refl
no_leaf row (Some n) e = absurd cc

filter_right : (spelling : Spelling) (first_fault : Bytes → FilterFault) (row : Row) (keys : List Bytes) (o : Option (List Bytes)) (image : Image) (xs : List Finding)
    → FilterFindings spelling first_fault row o image xs → o ≡ Some keys → xs ≡ []
    → (sound : IsSoundFilter spelling row image) × (first_difference sound.leaves (leaves_of row.hash_bits row.real_bits keys) ≡ None)
filter_right spelling first_fault row keys o image _ (damaged d is) some none = absurd (a_damage_is_found d none)
filter_right spelling first_fault row keys o image _ (unknown sound nothing) some none = absurd cc
filter_right spelling first_fault row keys o image _ (compared known sound same) some none =
    let keys_are : known ≡ keys = cc in
    (sound, subst (λ (k : List Bytes). first_difference sound.leaves (leaves_of row.hash_bits row.real_bits k) ≡ None) keys_are (no_leaf row _ none))

pub keys_known : (row : Row) (image : Image) → index_damage row image ≡ None → findings_of_blocks row image ≡ [] → known_keys row image ≡ Some (keys_of (joined (blocks_of_row row image)))
keys_known row image index blocks = ap₂ (λ (o : Option Damage) (f : List Finding). keys_by row o f image) index blocks

pub row_without_finding_is_table : RowWithoutFindingIsTable
row_without_finding_is_table spelling first_fault row image bytes index_pages filter_pages none filter =
    let behind = none_behind row image (index_damage row image) none in
    let known = keys_known row image behind.index behind.blocks in
    let right_filter = filter_right spelling first_fault row (keys_of (joined (blocks_of_row row image))) (known_keys row image) image [] filter known refl in
    checked_table spelling row image bytes behind.index behind.blocks index_pages filter_pages (count_right row image behind.blocks behind.count) right_filter.0 right_filter.1
