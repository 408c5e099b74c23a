-- What is found of a whole table, by what is found of its blocks.
use Rattle.std.proofs.Common.{◌≡◌, ◌≤◌, ◌+◌, ℕ, zero, suc, Bool, true, false, List, [], ◌∷◌, ◌++◌, length, drop, refl, sym, ap, ◌∙◌, subst, arith}
use Rattle.std.proofs.lemmas.Bool.{and_from}
use Rattle.std.proofs.lemmas.List.{append_assoc, length-map}
use Rattle.std.specs.Option.{option_or}
use Rattle.std.specs.Prelude.{◌==◌, ◌||◌, nat_lt, not, is_none, Option, Some, None}
use Rattle.byte_fields.specs.Faults.{refuse}
use Rattle.byte_fields.specs.declared.parts.Damage.{Damage}
use Rattle.byte_fields.specs.declared.parts.Part.TheVariants as part
use Rattle.byte_fields.specs.declared.parts.Row.{Row}
use Rattle.disk_trait.specs.Image.{Image}
use Rattle.map_model.specs.SortedMap.{Bytes}
use Rattle.entry_model.specs.Entries.{Entry, keys_of}
use Rattle.byteorder.specs.Endian.{little_number}
use Rattle.key_base.specs.Limits.{is_no_key_length}
use Rattle.block_model.specs.Order.{is_from}
use Rattle.block_model.specs.Index.{Index, IndexRow}
use Rattle.block_model.specs.IndexReading.{all_ranges_fault, has_ranges_in, head_width_in, index_fault, index_head_fault, index_in, is_magic, least_in, least_length_in, pages_fault, row_width_in, rows_count_in, rows_end_in, rows_fault, rows_in, rows_part}
use Rattle.block_model.specs.Laws.{joined}
use Rattle.block_model.specs.Places.{byte_of_page, index_page}
use Rattle.block_model.proofs.LastBlocks.{positive}
use Rattle.block_model.proofs.Refusals.{kept, neither}
use Rattle.table_model.specs.Damage.{block_damage, index_damage, index_part}
use Rattle.table_file.specs.Opened.{IsReadIndex, RowIndex}
use Rattle.image_model.specs.Findings.{AtLeast, Before, Finding, WrongCount, are_sound_blocks, block_findings, blocks_at, count_findings, finding, findings_at, findings_behind, findings_of_blocks, found_by, index_findings, keys_by, known_behind, known_keys, unless}
use Rattle.image_model.proofs.CheckedBlocks.{at_none, none_of_both}
use Rattle.store_check.specs.Lists.{IsBegun}
use Rattle.store_check.specs.Tables.{counted_findings}

-- ---- an index that breaks no rule has a row

rows_many : (n : ℕ) (bytes : Bytes) → length (rows_in n bytes) ≡ n
unfolding rows_in
rows_many zero bytes = refl
rows_many (suc n) bytes = ap suc (rows_many n (drop (row_width_in bytes) bytes))

head_none : (pages : ℕ) (bytes : Bytes) → index_fault pages bytes ≡ None → index_head_fault bytes ≡ None
unfolding index_fault
head_none pages bytes none =
    (neither (index_head_fault bytes) (option_or (rows_fault (rows_count_in bytes) (head_width_in bytes) (is_from (least_in bytes)) (rows_part bytes))
    (option_or (all_ranges_fault (has_ranges_in bytes) (rows_end_in bytes) (drop (rows_end_in bytes) bytes)) (pages_fault pages bytes))) none).0

count_kept : (bytes : Bytes) → index_head_fault bytes ≡ None → (rows_count_in bytes == 0) ≡ false
unfolding index_head_fault
count_kept bytes none =
    let least = refuse (is_no_key_length (least_length_in bytes)) 8 4 None in
    let count = refuse (rows_count_in bytes == 0) 4 3 least in
    let magic = refuse (not (is_magic (little_number 4 bytes))) 0 2 count in
    let a = kept (nat_lt (length bytes) 10 || nat_lt (length bytes) (head_width_in bytes)) (length bytes) 1 magic none in
    let b = kept (not (is_magic (little_number 4 bytes))) 0 2 count a.1 in
    (kept (rows_count_in bytes == 0) 4 3 least b.1).0

some_rows : (pages : ℕ) (bytes : Bytes) → index_fault pages bytes ≡ None → 1 ≤ length (index_in bytes).rows
unfolding index_in
some_rows pages bytes none =
    omega (arith, positive (rows_count_in bytes) (sym (count_kept bytes (head_none pages bytes none))), rows_many (rows_count_in bytes) (drop (head_width_in bytes) bytes))

-- ---- where nothing is found no block is damaged

sound_where_none : (page : ℕ) (before : Before) (rows : List IndexRow) (image : Image) → block_findings page before rows image ≡ [] → are_sound_blocks page rows image ≡ true
sound_where_none page before [] image none = refl
sound_where_none page before (row ∷ later) image none =
    let both = none_of_both (findings_at page before row (block_damage page row image) image) _ none in
    let here = at_none page before row (block_damage page row image) image both.0 in
    and_from (is_none (block_damage page row image)) (are_sound_blocks (page + row.pages) later image) (ap is_none here.0)
    (sound_where_none (page + row.pages) (known_behind page row (block_damage page row image) image) later image both.1)

same_count : (sound : Bool) (m n entries : ℕ) (f : Finding) → (sound ≡ true → m ≡ n) → unless (not sound || (m == entries)) f ≡ unless (not sound || (n == entries)) f
same_count true m n entries f same = ap (λ (k : ℕ). unless (k == entries) f) (same refl)
same_count false m n entries f same = refl

-- ---- of an index that was read

module _ (x : RowIndex) (image : Image) (is : IsReadIndex x.row image x) where
  abbrev row : Row
  row = x.row

  abbrev found_there : List Finding
  found_there = block_findings row.first_page (AtLeast x.index.least) x.index.rows image

  abbrev sound_there : Bool
  sound_there = are_sound_blocks row.first_page x.index.rows image

  abbrev keys_there : List Bytes
  keys_there = keys_of (joined (blocks_at row.first_page x.index.rows image))

  pub blocks_are : found_there ≡ findings_of_blocks row image
  blocks_are = ap (λ (i : Index). block_findings row.first_page (AtLeast i.least) i.rows image) is.index_is

  pub some_blocks : 1 ≤ length x.index.rows
  some_blocks = subst (λ (i : Index). 1 ≤ length i.rows) (sym is.index_is) (some_rows row.data_pages (index_part row image) is.kept)

  pub count_is : (sound : Bool) (keys : List Bytes) → sound ≡ sound_there → (sound ≡ true → keys ≡ keys_there) → counted_findings row sound (length keys) ≡ count_findings row image
  count_is sound keys sound_is keys_are =
      let f = finding part.Index (byte_of_page (index_page row)) WrongCount in
      let many = length (joined (blocks_at row.first_page x.index.rows image)) in
      same_count sound (length keys) many row.entries f (λ s. ap length (keys_are s) ∙ length-map (joined (blocks_at row.first_page x.index.rows image)) (λ (e : Entry). e.key))
      ∙ ap (λ (b : Bool). unless (not b || (many == row.entries)) f) sound_is
      ∙ ap (λ (i : Index). unless (not (are_sound_blocks row.first_page i.rows image) || (length (joined (blocks_at row.first_page i.rows image)) == row.entries)) f) is.index_is

  none_known : (fs : List Finding) → (fs ≡ [] → ⊥) → keys_by row None fs image ≡ None
  none_known [] some = absurd (some refl)
  none_known (f ∷ more) some = refl

  -- nothing is found, and the keys are known
  pub keys_known : (found : List Finding) (sound : Bool) (keys : List Bytes) → found ≡ found_there → sound ≡ sound_there → (sound ≡ true → keys ≡ keys_there) → found ≡ []
      → Some keys ≡ known_keys row image
  keys_known found sound keys found_is sound_is keys_are none =
      let nothing : found_there ≡ [] = sym found_is ∙ none in
      let all = sound_is ∙ sound_where_none row.first_page (AtLeast x.index.least) x.index.rows image nothing in
      ap (λ (ks : List Bytes). Some ks) (keys_are all)
      ∙ ap (λ (i : Index). Some (keys_of (joined (blocks_at row.first_page i.rows image)))) is.index_is
      ∙ sym (λ i. keys_by row (is.none i) ((sym blocks_are ∙ nothing) i) image)

  -- something is found, and they are not
  pub keys_unknown : (found : List Finding) → found ≡ found_there → (found ≡ [] → ⊥) → None ≡ known_keys row image
  keys_unknown found found_is some =
      sym ((λ i. keys_by row (is.none i) (findings_of_blocks row image) image) ∙ none_known (findings_of_blocks row image) (λ none. some (found_is ∙ blocks_are ∙ none)))

  pub index_is_sound : findings_of_blocks row image ++ count_findings row image ≡ index_findings row image
  index_is_sound = sym (ap (λ (o : Option Damage). findings_behind row o image) is.none)

-- ---- of an index that is damaged

pub index_is_damaged : (row : Row) (image : Image) (d : Damage) → index_damage row image ≡ Some d → (index_findings row image ≡ found_by (Some d)) × (known_keys row image ≡ None)
index_is_damaged row image d is = (ap (λ (o : Option Damage). findings_behind row o image) is, ap (λ (o : Option Damage). keys_by row o (findings_of_blocks row image) image) is)

-- ---- what is begun

pub begun_more : (found all more : List Finding) → IsBegun found all → IsBegun found (all ++ more)
begun_more found all more is = (is.0 ++ more, sym (append_assoc found is.0 more) ∙ ap (λ (fs : List Finding). fs ++ more) is.1)

pub begun_none : (found all : List Finding) → found ≡ [] → IsBegun found all
begun_none found all none = (all, ap (λ (fs : List Finding). fs ++ all) none)

pub begun_whole : (found all : List Finding) → found ≡ all → IsBegun found all
begun_whole found all same = ([], go found ∙ same)
  where
    go : (fs : List Finding) → fs ++ [] ≡ fs
    go [] = refl
    go (f ∷ fs) = ap (λ (rest : List Finding). f ∷ rest) (go fs)
