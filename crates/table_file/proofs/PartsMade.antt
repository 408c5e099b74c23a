-- The parts of a table: how long they are, and their row.
use Rattle.std.proofs.Common.{◌≡◌, ◌<◌, ◌+◌, ◌*◌, ◌/◌, ℕ, List, [], ◌∷◌, ◌++◌, length, refl, sym, ap, ap₂, ◌∙◌, subst, arith}
use Rattle.std.specs.Prelude.{map, flat_map, slice_index_or}
use Rattle.std.proofs.lemmas.List.{length-map}
use Rattle.byte_fields.specs.Sums.{fnv_of}
use Rattle.byte_fields.specs.declared.parts.Row.{Row}
use Rattle.filter_api.specs.Spellings.{Spelling}
use Rattle.filter_api.specs.declared.settings.Settings.{Settings}
use Rattle.filter_model.specs.Leaves.{Filter, Leaf}
use Rattle.map_model.specs.SortedMap.{Bytes}
use Rattle.entry_model.specs.Entries.{Entry, keys_of}
use Rattle.range_model.specs.Ranges.{DeletedRange}
use Rattle.range_model.specs.Sources.{Source}
use Rattle.block_model.specs.Block.{IsTable, block_bytes, data_bytes}
use Rattle.block_model.specs.Index.{AreIndexRanges, Index, IndexRow, IsIndex, index_bytes, index_of, index_row_of, index_with, row_pages}
use Rattle.block_model.specs.Laws.{joined}
use Rattle.block_model.specs.Pages.{blocks_of, data_pages, first_key, index_length_with, pages_for}
use Rattle.block_model.proofs.Cutting.{blocks_joined}
use Rattle.block_model.proofs.Cutting.{data_fills}
use Rattle.block_model.proofs.Lengths.{index_long}
use Rattle.block_model.proofs.TableIndex.{index_sound}
use Rattle.table_model.specs.Tables.{filter_bytes_of, source_pages}
use Rattle.table_model.specs.Written.{row_from}
use Rattle.table_file.specs.Building.{Holds, closed_in, entries_with}
use Rattle.table_file.specs.Parts.{ArePartsOf}
use Rattle.table_file.specs.BlockRows.{summed_all, unsummed_row_of}
use Rattle.table_file.proofs.Builders.{holds_closed, is_table, opened}
use Rattle.table_file.proofs.BlockSums.{all_summed}

module _ (spelling : Spelling) (built_cutoff : ℕ → List Leaf → ℕ) (settings : Settings) (s : Source) (count : ℕ) (blocks : Bytes) (index : Index) (index_part : Bytes)
    (filter : Filter) (filter_part : Bytes) (parts : ArePartsOf spelling built_cutoff settings s count blocks index index_part filter filter_part) where
  abbrev spelled : Bytes
  spelled = filter_bytes_of spelling built_cutoff settings (keys_of s.entries)

  pub blocks_long : length blocks ≡ 4096 * data_pages s.entries
  blocks_long = ap length parts.blocks_are ∙ data_fills s.entries

  pub index_part_is : index_part ≡ index_bytes (index_with s.entries s.ranges)
  index_part_is = parts.index_spelled ∙ ap index_bytes parts.index_is

  pub index_part_long : length index_part ≡ index_length_with s.entries s.ranges
  index_part_long = ap length index_part_is ∙ index_long s.entries s.ranges

  pub filter_part_is : filter_part ≡ filter_bytes_of spelling built_cutoff settings (keys_of s.entries)
  filter_part_is = parts.filter_spelled ∙ ap (λ (f : Filter). spelling f.hash_bits f.real_bits f.cutoff f.leaves) parts.filter_is

  pub pages_are : (n p q : ℕ) → n ≡ length blocks → p ≡ pages_for (length index_part) → q ≡ pages_for (length filter_part)
      → n / 4096 + p + q ≡ source_pages (filter_bytes_of spelling built_cutoff) settings s
  pages_are n p q n_is p_is q_is =
      let blocks_pages : n / 4096 ≡ data_pages s.entries = omega (arith, n_is, blocks_long) in
      let index : p ≡ pages_for (index_length_with s.entries s.ranges) = p_is ∙ ap pages_for index_part_long in
      let filters : q ≡ pages_for (length spelled) = q_is ∙ ap (λ (b : Bytes). pages_for (length b)) filter_part_is in
      omega (arith, blocks_pages, index, filters)

  pub row_is : (level first n p q k l sum other : ℕ) → n ≡ length blocks → p ≡ pages_for (length index_part) → q ≡ pages_for (length filter_part)
      → k ≡ length index_part → l ≡ length filter_part → sum ≡ fnv_of index_part → other ≡ fnv_of filter_part
      → ◌≡◌ {A = Row} (record { level = level; first_page = first; data_pages = n / 4096; index_pages = p; filter_pages = q; entries = count; index_len = k; filter_len = l; index_sum = sum; filter_sum = other; hash_bits = settings.hash_bits; real_bits = settings.real_bits; ratio = settings.ratio })
      (row_from level first settings s spelled)
  unfolding row_from
  row_is level first n p q k l sum other n_is p_is q_is k_is l_is sum_is other_is =
      let blocks_pages : n / 4096 ≡ data_pages s.entries = omega (arith, n_is, blocks_long) in
      let index : p ≡ pages_for (index_length_with s.entries s.ranges) = p_is ∙ ap pages_for index_part_long in
      let filters : q ≡ pages_for (length spelled) = q_is ∙ ap (λ (b : Bytes). pages_for (length b)) filter_part_is in
      let long : k ≡ index_length_with s.entries s.ranges = k_is ∙ index_part_long in
      let filter_long : l ≡ length spelled = l_is ∙ ap length filter_part_is in
      let index_sum : sum ≡ fnv_of (index_bytes (index_with s.entries s.ranges)) = sum_is ∙ ap fnv_of index_part_is in
      let filter_sum : other ≡ fnv_of spelled = other_is ∙ ap fnv_of filter_part_is in
      (λ i. record {
        level = level;
        first_page = first;
        data_pages = blocks_pages i;
        index_pages = index i;
        filter_pages = filters i;
        entries = parts.counted i;
        index_len = long i;
        filter_len = filter_long i;
        index_sum = index_sum i;
        filter_sum = filter_sum i;
        hash_bits = settings.hash_bits;
        real_bits = settings.real_bits;
        ratio = settings.ratio;
      })

-- ---- what a builder has when its last block is closed

first_is : (entries : List Entry) → slice_index_or (keys_of entries) 0 [] ≡ first_key entries
first_is [] = refl
first_is (e ∷ more) = refl

pub record IsFinished (all : List Entry) (rows : List IndexRow) (bytes : Bytes) : Type 0 where
  pub entries_are : joined (closed_in rows bytes) ≡ all
  pub bytes_are : bytes ≡ data_bytes all
  pub rows_are : rows ≡ (index_of all).rows

none_all : (closed : List (List Entry)) (last : List Entry) → (last ≡ [] → closed ≡ []) → 0 < length (entries_with closed last) → 0 < length last
none_all closed [] begun some = absurd (no_entries (ap (λ (c : List (List Entry)). entries_with c []) (begun refl)) some)
  where
    no_entries : {xs : List Entry} → xs ≡ [] → 0 < length xs → ⊥
    no_entries none some = omega (arith, ap length none, some)
none_all closed (e ∷ more) begun some = omega arith

module _ (closed : List (List Entry)) (bytes : Bytes) (rows : List IndexRow) (last : List Entry) (keys : List Bytes) (holds : Holds closed bytes rows last keys)
    (some : 0 < length (entries_with closed last)) where
  pub some_last : 0 < length last
  some_last = none_all closed last holds.begun some

  cut : blocks_of (entries_with closed last) ≡ closed ++ last ∷ []
  cut = holds.cut ∙ opened closed last some_last

  pub finished : (r : List IndexRow) (d : Bytes) → d ≡ bytes ++ block_bytes last → r ≡ summed_all (rows ++ unsummed_row_of last ∷ []) d → IsFinished (entries_with closed last) r d
  unfolding data_bytes index_with
  finished r d d_is r_is =
      let closing = holds_closed closed bytes rows last keys holds some_last in
      let bytes_are : d ≡ flat_map block_bytes (closed ++ last ∷ []) = d_is ∙ sym closing.0 in
      let rows_are : r ≡ map index_row_of (closed ++ last ∷ []) =
      r_is ∙ ap₂ summed_all (sym closing.1) bytes_are ∙ all_summed (length (map unsummed_row_of (closed ++ last ∷ []))) (closed ++ last ∷ []) (length-map (closed ++ last ∷ []) unsummed_row_of) in
      record {
        entries_are = ap₂ (λ (x : List IndexRow) (y : Bytes). joined (closed_in x y)) rows_are bytes_are ∙ ap joined closing.2 ∙ ap joined (sym cut) ∙ blocks_joined (entries_with closed last);
        bytes_are = bytes_are ∙ ap (flat_map block_bytes) (sym cut);
        rows_are = rows_are ∙ ap (map index_row_of) (sym cut);
      }

  module _ (r : List IndexRow) (d : Bytes) (is : IsFinished (entries_with closed last) r d) (index : Index) (least : Bytes) (ranges : List DeletedRange) (index_is : index ≡ record { least = least; rows = r; ranges = ranges })
      (least_is : least ≡ slice_index_or keys 0 []) where
    abbrev all : List Entry
    all = entries_with closed last

    least_key : least ≡ first_key all
    least_key = least_is ∙ ap (λ (ks : List Bytes). slice_index_or ks 0 []) (sym holds.keys_are) ∙ first_is all

    pub same_index : index ≡ index_with all ranges
    unfolding index_with
    same_index = index_is ∙ (λ i. record { least = least_key i; rows = is.rows_are i; ranges = ranges })

    pub sound_index : AreIndexRanges ranges → IsIndex (row_pages r) (record { least = least; rows = r; ranges = ranges })
    unfolding index_with
    sound_index are =
        let sound : IsIndex (data_pages all) (index_with all ranges) = index_sound all ranges (is_table closed bytes rows last keys holds some) are in
        let pages : row_pages r ≡ data_pages all = ap row_pages is.rows_are ∙ sound.all_pages in
        subst (λ (n : ℕ). IsIndex n (record { least = least; rows = r; ranges = ranges })) (sym pages) (subst (IsIndex (data_pages all)) (sym (sym index_is ∙ same_index)) sound)

    pub read_entries : joined (closed_in index.rows d) ≡ all
    read_entries = ap (λ (x : Index). joined (closed_in x.rows d)) index_is ∙ is.entries_are

-- what the parts of a table are made of
pub record AreMade (entries : List Entry) (bytes : Bytes) (index : Index) (keys : List Bytes) : Type 0 where
  pub table : IsTable entries
  pub bytes_are : bytes ≡ data_bytes entries
  pub index_is : index ≡ index_with entries index.ranges
  pub keys_are : keys ≡ keys_of entries

pub all_made : (closed : List (List Entry)) (bytes : Bytes) (rows : List IndexRow) (last : List Entry) (keys : List Bytes) → Holds closed bytes rows last keys
    → 0 < length (entries_with closed last) → (r : List IndexRow) (d : Bytes) → d ≡ bytes ++ block_bytes last → r ≡ summed_all (rows ++ unsummed_row_of last ∷ []) d
    → (index : Index) (least : Bytes) (ranges : List DeletedRange) (all_keys : List Bytes) → index ≡ record { least = least; rows = r; ranges = ranges } → all_keys ≡ keys → least ≡ slice_index_or all_keys 0 []
    → (joined (closed_in index.rows d) ≡ entries_with closed last) × AreMade (joined (closed_in index.rows d)) d index all_keys
all_made closed bytes rows last keys holds some r d d_is r_is index least ranges all_keys index_is keys_are least_is =
    let is = finished closed bytes rows last keys holds some r d d_is r_is in
    let first = least_is ∙ ap (λ (ks : List Bytes). slice_index_or ks 0 []) keys_are in
    let same = read_entries closed bytes rows last keys holds some r d is index least ranges index_is first in
    let made : AreMade (entries_with closed last) d index all_keys = record {
      table = is_table closed bytes rows last keys holds some;
      bytes_are = is.bytes_are;
      index_is = same_index closed bytes rows last keys holds some r d is index least ranges index_is first
          ∙ ap (index_with (entries_with closed last)) (sym (ap (λ (x : Index). x.ranges) index_is));
      keys_are = keys_are ∙ sym holds.keys_are;
    } in
    (same, subst (λ (es : List Entry). AreMade es d index all_keys) (sym same) made)

pub index_made : (closed : List (List Entry)) (bytes : Bytes) (rows : List IndexRow) (last : List Entry) (keys : List Bytes) → Holds closed bytes rows last keys
    → 0 < length (entries_with closed last) → (r : List IndexRow) (d : Bytes) → d ≡ bytes ++ block_bytes last → r ≡ summed_all (rows ++ unsummed_row_of last ∷ []) d
    → (least : Bytes) (ranges : List DeletedRange) (all_keys : List Bytes) → all_keys ≡ keys → least ≡ slice_index_or all_keys 0 [] → AreIndexRanges ranges
    → IsIndex (row_pages r) (record { least = least; rows = r; ranges = ranges })
index_made closed bytes rows last keys holds some r d d_is r_is least ranges all_keys keys_are least_is are =
    sound_index closed bytes rows last keys holds some r d (finished closed bytes rows last keys holds some r d d_is r_is) (record { least = least; rows = r; ranges = ranges }) least ranges refl
    (least_is ∙ ap (λ (ks : List Bytes). slice_index_or ks 0 []) keys_are) are
