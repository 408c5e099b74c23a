-- What is read of a table that is on the device.
use Rattle.std.proofs.Common.{◌≡◌, ◌≤◌, ◌<◌, ◌+◌, ◌*◌, ℕ, zero, suc, Bool, true, false, cond, List, [], ◌∷◌, length, take, get_or, refl, sym, ap, ap₂, ◌∙◌, subst, arith, inl, inr}
use Rattle.std.specs.Prelude.{Option, Some, None, map, nat_lt}
use Rattle.std.specs.Option.{option_map}
use Rattle.std.specs.List.{AllByRecursion, Contains, position_or_len}
use Rattle.std.proofs.lemmas.Bool.{ltb-false}
use Rattle.std.proofs.lemmas.List.{get_or-map, length-map}
use Rattle.std.proofs.lemmas.List.Quantifiers.{position-Some}
use Rattle.std.proofs.lemmas.List.Sums.{position_or_len_is, sum_by-cons}
use Rattle.disk_trait.specs.Image.{Image, Shows, window}
use Rattle.filter_api.specs.Spellings.{Spelling}
use Rattle.filter_api.specs.declared.settings.Settings.{Settings}
use Rattle.filter_model.specs.Answers.{point}
use Rattle.filter_model.specs.Leaves.{Leaf, leaves_of}
use Rattle.filter_model.proofs.Stubs.{no_key_is_denied}
use Rattle.map_model.specs.SortedMap.{Bytes}
use Rattle.entry_model.specs.Entries.{Entry, keys_of}
use Rattle.entry_model.specs.Newest.{lookup}
use Rattle.block_model.specs.BlockReading.{block_fault, block_in}
use Rattle.block_model.specs.Index.{Index, IndexRow, index_row_of, row_pages}
use Rattle.block_model.specs.Laws.{joined}
use Rattle.block_model.specs.Order.{is_from}
use Rattle.block_model.specs.Pages.{first_key}
use Rattle.block_model.specs.Places.{byte_of_page}
use Rattle.block_model.proofs.Sizes.{all_at}
use Rattle.table_model.specs.Pieces.{IsPiece, end_to_end, row_of_piece}
use Rattle.table_model.proofs.Pieces.{least_of_index, piece_fills, row_pages_are, row_sum, rows_of_index}
use Rattle.table_model.proofs.Sound.{filter_of_keys, index_read}
use Rattle.table_model.proofs.Shown.{shown_parts}
use Rattle.byte_fields.specs.Faults.{Fault}
use Rattle.byte_fields.specs.Sums.{fnv_of}
use Rattle.byte_fields.specs.declared.parts.Damage.TheVariants as damage
use Rattle.byte_fields.specs.declared.parts.Part.TheVariants as part
use Rattle.table_file.specs.Faults.{IsNoDamage}
use Rattle.table_file.specs.Laws.{OpenedStands}
use Rattle.table_file.specs.declared.fault.TableFault.{TableFault}
use Rattle.table_file.specs.declared.fault.TableFault.TheVariants as table
use Rattle.table_file.specs.Opened.{Opened}
use Rattle.table_file.specs.Search.{IsBrokenBlock, IsDamagedBlock, IsOtherBlock, IsSoundBlock, StandsThere, block_for, block_of_key, bytes_at, first_block, page_at, row_at}
use Rattle.table_file.proofs.Lasts.{last_keys, rows_lasts, same_first, same_many, some_each}
use Rattle.table_file.proofs.Lookups.{nothing_before, said_by_block, said_is_there}

-- ---- one piece of those that are shown

shown_piece : (at : ℕ) (pieces : List Bytes) (image : Image) (n : ℕ) → AllByRecursion IsPiece pieces → Shows at (end_to_end pieces) image → n < length pieces
    → window image (at + 4096 * row_pages (take n (map row_of_piece pieces))) (4096 * (row_at (map row_of_piece pieces) n).pages) ≡ get_or pieces n []
shown_piece at [] image n each shown lt = absurd (omega (arith, lt))
shown_piece at (p ∷ more) image zero each shown lt =
    let parts = shown_parts at p (end_to_end more) image shown in
    let long : 4096 * (row_of_piece p).pages ≡ length p = omega (arith, piece_fills p each.0.whole, row_pages_are p) in
    let place : at + 4096 * 0 ≡ at = omega arith in
    ap₂ (λ (q k : ℕ). window image q k) place long ∙ parts.0
shown_piece at (p ∷ more) image (suc n) each shown lt =
    let parts = shown_parts at p (end_to_end more) image shown in
    let rows = take n (map row_of_piece more) in
    let place : at + 4096 * row_pages (row_of_piece p ∷ rows) ≡ at + length p + 4096 * row_pages rows =
    omega (arith, piece_fills p each.0.whole, row_pages_are p, sum_by-cons (λ (r : IndexRow). r.pages) (row_of_piece p) rows) in
    ap (λ (q : ℕ). window image q (4096 * (row_at (map row_of_piece more) n).pages)) place
    ∙ shown_piece (at + length p) more image n each.1 parts.1 (omega (arith, lt))

abbrev no_row : IndexRow
no_row = record { pages = 0; sum = 0; last = [] }

cond_some : (t : Bool) (o : Option ℕ) (n : ℕ) → cond t o None ≡ Some n → o ≡ Some n
cond_some true o n is = is
cond_some false o n is = absurd cc

beyond : (blocks : List (List Entry)) (n : ℕ) → length blocks ≤ n → get_or blocks n [] ≡ []
beyond [] n le = refl
beyond (b ∷ more) zero le = absurd (omega (arith, le))
beyond (b ∷ more) (suc n) le = beyond more n (omega (arith, le))

module _ (spelling : Spelling) (t : Opened) (blocks : List (List Entry)) (image : Image) (s : StandsThere spelling t blocks image) where
  pub rows_are : t.index.rows ≡ map row_of_piece s.at.pieces
  rows_are = ap (λ (x : Index). x.rows) s.index_is ∙ rows_of_index s.at.pieces s.at.ranges

  pub lasts_are : last_keys t.index.rows ≡ last_keys (map index_row_of blocks)
  lasts_are = ap last_keys rows_are ∙ rows_lasts s.at.pieces ∙ ap (λ (bs : List (List Entry)). last_keys (map index_row_of bs)) s.at.read

  pub many_pieces : length s.at.pieces ≡ length blocks
  many_pieces = sym (length-map s.at.pieces block_in) ∙ ap length s.at.read

  pub many_rows : length t.index.rows ≡ length blocks
  many_rows = same_many t.index.rows (map index_row_of blocks) lasts_are ∙ length-map blocks index_row_of

  pub least_is : t.index.least ≡ first_key (joined blocks)
  least_is = ap (λ (x : Index). x.least) s.index_is ∙ least_of_index s.at.pieces s.at.ranges ∙ ap (λ (bs : List (List Entry)). first_key (joined bs)) s.at.read

  pub each_some : AllByRecursion (λ b. 1 ≤ length b) blocks
  each_some = subst (AllByRecursion (λ b. 1 ≤ length b)) s.at.read (some_each s.at.pieces s.at.each)

  module _ (n : ℕ) (there : n < length blocks) where
    inside : n < length s.at.pieces
    inside = omega (arith, there, many_pieces)

    -- its bytes are the piece
    pub bytes_of_block : bytes_at t n image ≡ get_or s.at.pieces n []
    bytes_of_block =
        let ps = s.at.pieces in
        let at : byte_of_page (t.row.first_page + row_pages (take n (map row_of_piece ps))) ≡ byte_of_page t.row.first_page + 4096 * row_pages (take n (map row_of_piece ps)) = omega arith in
        ap (λ (rs : List IndexRow). window image (byte_of_page (t.row.first_page + row_pages (take n rs))) (4096 * (row_at rs n).pages)) rows_are
        ∙ ap (λ (p : ℕ). window image p (4096 * (row_at (map row_of_piece ps) n).pages)) at
        ∙ shown_piece (byte_of_page t.row.first_page) ps image n s.at.each s.at.blocks_shown inside

    pub read_there : block_in (get_or s.at.pieces n []) ≡ get_or blocks n []
    read_there = sym (get_or-map block_in s.at.pieces n [] [] inside) ∙ ap (λ (bs : List (List Entry)). get_or bs n []) s.at.read

    pub block_is_sound : IsSoundBlock t n image
    block_is_sound =
        let sum = ap (λ (rs : List IndexRow). (row_at rs n).sum) rows_are ∙ ap (λ (r : IndexRow). r.sum) (get_or-map row_of_piece s.at.pieces n [] no_row inside) ∙ row_sum (get_or s.at.pieces n []) in
        record {
          sum = sum ∙ ap fnv_of (sym bytes_of_block);
          rules = ap block_fault bytes_of_block ∙ (all_at IsPiece s.at.pieces n [] s.at.each inside).whole;
        }

module _ (spelling : Spelling) (t : Opened) (blocks : List (List Entry)) (image : Image) (s : StandsThere spelling t blocks image) (key : Bytes) where
  lasts : last_keys t.index.rows ≡ last_keys (map index_row_of blocks)
  lasts = lasts_are spelling t blocks image s

  abbrev place : ℕ
  place = position_or_len (λ (row : IndexRow). is_from key row.last) (map index_row_of blocks)

  said : lookup (joined blocks) key ≡ lookup (get_or blocks place []) key
  said = said_by_block key _ blocks (each_some spelling t blocks image s) s.at.table.rising

  module _ (n : ℕ) (is : block_for t key ≡ Some n) where
    first : first_block (map index_row_of blocks) key ≡ Some n
    first =
        sym (same_first key t.index.rows (map index_row_of blocks) lasts)
        ∙ cond_some (is_from t.index.least key) (first_block t.index.rows key) n (cond_some (point t.filter.hash_bits t.filter.real_bits t.filter.leaves key) (block_of_key t.index key) n is)

    found : (n < length (map index_row_of blocks)) × (place ≡ n)
    found =
        let at = position-Some (λ (row : IndexRow). is_from key row.last) (map index_row_of blocks) n no_row first in
        let le : n ≤ length (map index_row_of blocks) = omega (arith, at.0) in
        (at.0, position_or_len_is (λ (row : IndexRow). is_from key row.last) (map index_row_of blocks) n no_row le at.2 (λ _. at.1))

    pub there : n < length blocks
    there = omega (arith, found.0, length-map blocks index_row_of)

    pub bytes_are : bytes_at t n image ≡ get_or s.at.pieces n []
    bytes_are = bytes_of_block spelling t blocks image s n there

    sound : IsSoundBlock t n image
    sound = block_is_sound spelling t blocks image s n there

    pub not_other : (f : TableFault) → IsOtherBlock t n image f → IsNoDamage f
    not_other table.Memory other = absurd other
    not_other (table.Device cause) other = tt
    not_other (table.Damaged d) other = absurd (other.other sound.sum)

    pub not_broken : (bytes : Bytes) → bytes ≡ bytes_at t n image → (f : TableFault) → IsBrokenBlock t n bytes f → IsNoDamage f
    not_broken bytes are table.Memory broken = absurd broken
    not_broken bytes are (table.Device cause) broken = absurd broken
    not_broken bytes are (table.Damaged d) broken =
        let none : block_fault bytes ≡ None = ap block_fault are ∙ sound.rules in
        let never = sym (ap (option_map (λ (x : Fault). damage.Shape part.Block (byte_of_page (page_at t n) + x.place) x.rule)) none) ∙ broken in
        cc

    pub not_damaged : (bytes : Bytes) → bytes ≡ bytes_at t n image → (f : TableFault) → IsDamagedBlock t n bytes f → IsNoDamage f
    not_damaged bytes are table.Memory damaged = absurd damaged
    not_damaged bytes are (table.Device cause) damaged = absurd damaged
    not_damaged bytes are (table.Damaged d) damaged = elim damaged [
      | inl other ↦ absurd (other.other (sound.sum ∙ sym (ap fnv_of are)))
      | inr both ↦ not_broken bytes are (table.Damaged d) both.1
    ]

    pub answer : (bytes : Bytes) → bytes ≡ bytes_at t n image → lookup (block_in bytes) key ≡ lookup (joined blocks) key
    answer bytes are =
        ap (λ (b : Bytes). lookup (block_in b) key) (are ∙ bytes_are) ∙ ap (λ (b : List Entry). lookup b key) (read_there spelling t blocks image s n there)
        ∙ ap (λ (k : ℕ). lookup (get_or blocks k []) key) (sym found.1) ∙ sym said

  admitted : Contains (keys_of (joined blocks)) key → point t.filter.hash_bits t.filter.real_bits t.filter.leaves key ≡ true
  admitted has =
      ap (λ (ls : List Leaf). point t.filter.hash_bits t.filter.real_bits ls key) s.leaves_are
      ∙ ap₂ (λ (h r : ℕ). point h r (leaves_of t.row.hash_bits t.row.real_bits (keys_of (joined blocks))) key) s.hash_is s.real_is
      ∙ no_key_is_denied t.row.hash_bits t.row.real_bits (keys_of (joined blocks)) key has

  -- nothing is past the last of all blocks
  none_past : first_block (map index_row_of blocks) key ≡ None → lookup (joined blocks) key ≡ None
  none_past none =
      let past : nat_lt place (length (map index_row_of blocks)) ≡ false = no_some (nat_lt place (length (map index_row_of blocks))) place none in
      said ∙ ap (λ (b : List Entry). lookup b key) (beyond blocks place (omega (arith, ltb-false _ _ past, length-map blocks index_row_of)))
    where
      no_some : (b : Bool) (k : ℕ) → cond b (Some k) None ≡ None → b ≡ false
      no_some true k is = absurd cc
      no_some false k is = refl

  pub no_answer : block_for t key ≡ None → lookup (joined blocks) key ≡ None
  no_answer none =
      elim (lookup (joined blocks) key) as (λ o. lookup (joined blocks) key ≡ o → o ≡ None) [
        | None ↦ λ _. refl
        | Some value ↦ λ is.
            let denied : block_of_key t.index key ≡ None =
            sym (ap (λ (b : Bool). cond b (block_of_key t.index key) None) (admitted (said_is_there (joined blocks) key value is))) ∙ none in
            sym is ∙ (elim (is_from t.index.least key) as (λ b. is_from t.index.least key ≡ b → cond b (first_block t.index.rows key) None ≡ None → lookup (joined blocks) key ≡ None) [
              | true ↦ λ _ past. none_past (sym (same_first key t.index.rows (map index_row_of blocks) lasts) ∙ past)
              | false ↦ λ before _. nothing_before key (joined blocks) (ap (λ (k : Bytes). is_from k key) (sym (least_is spelling t blocks image s)) ∙ before) s.at.table.rising
            ] refl denied)
      ] refl

-- ---- what was opened is that table

pub opened_stands : OpenedStands
opened_stands spelling t blocks image one is at =
    let keys = filter_of_keys spelling t.row blocks image at in
    let alike = one _ _ _ _ _ _ _ _ _ is.filter_is keys.spelled in
    record {
      at = at;
      index_is = is.index_is ∙ index_read spelling t.row blocks image at;
      hash_is = alike.hash_width;
      real_is = alike.real_width;
      leaves_are = alike.leaves_are;
    }
