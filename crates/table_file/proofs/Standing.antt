-- What is read of a table that is on the device, block by block, key by key and in a walk.
use Rattle.std.proofs.Common.{◌≡◌, ◌≤◌, ◌<◌, ◌+◌, ◌*◌, ◌-◌, ℕ, suc, Bool, true, false, cond, not, List, [], ◌∷◌, ◌++◌, length, drop, get_or, refl, sym, ap, ap₂, ◌∙◌, subst, arith, inl, inr, append-nil}
use Rattle.std.specs.Prelude.{Option, Some, None, map, nat_lt, ◌&&◌, is_some}
use Rattle.std.specs.Option.{option_map}
use Rattle.std.specs.List.{AllByRecursion, position_or_len}
use Rattle.std.proofs.lemmas.Bool.{le-ltb, lt-ltb, ltb-false, ltb-true}
use Rattle.std.proofs.lemmas.List.{get_or-map, length-map}
use Rattle.std.proofs.lemmas.List.Elements.{filter-append}
use Rattle.std.proofs.lemmas.List.Sums.{passes_at_first}
use Rattle.key_base.specs.ByteOrder.{is_before}
use Rattle.disk_trait.specs.Image.{Image, Shows, window}
use Rattle.filter_model.specs.Answers.{point}
use Rattle.filter_model.specs.Leaves.{Leaf, leaves_of}
use Rattle.map_model.specs.SortedMap.{Bytes}
use Rattle.entry_model.specs.Entries.{Entry, keys_of}
use Rattle.entry_model.specs.Newest.{entries_from}
use Rattle.block_model.specs.BlockReading.{block_fault, block_in}
use Rattle.block_model.specs.Index.{IndexRow, index_row_of}
use Rattle.block_model.specs.Laws.{joined}
use Rattle.block_model.specs.Order.{Follow, is_any, is_from}
use Rattle.block_model.specs.Pages.{last_key}
use Rattle.block_model.specs.Places.{byte_of_page}
use Rattle.block_model.proofs.Sizes.{all_at}
use Rattle.table_model.proofs.Shown.{shown_parts}
use Rattle.byte_fields.specs.Faults.{Fault}
use Rattle.byte_fields.specs.declared.parts.Damage.{Damage}
use Rattle.block_format.specs.Walking.{kept_from}
use Rattle.table_file.specs.Faults.{IsNoDamage}
use Rattle.table_file.specs.Laws.{StandingBlocks, StandingIsKept, StandingKeys, StandingWalks}
use Rattle.table_file.specs.Opened.{Opened}
use Rattle.table_file.specs.Search.{IsGetFault, IsSoundBlock, bytes_at, first_block, row_at}
use Rattle.table_file.specs.Walks.{BeginsWell, CursorWalk, WalkGoesOn, blocks_on, blocks_there, joined_from}
use Rattle.table_file.specs.declared.fault.TableFault.{TableFault}
use Rattle.table_file.specs.declared.fault.TableFault.TheVariants as table
use Rattle.table_model.proofs.Kept.{at_kept, kept_pieces, kept_ranges}
use Rattle.table_model.specs.Pieces.{index_of_pieces}
use Rattle.table_model.specs.Pieces.{IsPiece, blocks_in, end_to_end, row_of_piece}
use Rattle.table_model.proofs.Pieces.{piece_fills, row_pages_are}
use Rattle.table_file.proofs.Lasts.{same_first, same_last, same_place}
use Rattle.table_file.proofs.Lookups.{behind_last, from_above, front_follows, last_append, lasts_rise, row_last}
use Rattle.table_file.proofs.Stands.{answer, block_is_sound, each_some, lasts_are, least_is, many_rows, no_answer, rows_are, there}
use Rattle.table_file.proofs.Walks.{at_block}

-- ---- what is written elsewhere

pub standing_kept : StandingIsKept
standing_kept spelling t blocks at n old new apart torn s = record {
  at = at_kept spelling t.row blocks at n old new apart torn s.at;
  index_is = s.index_is ∙ sym (ap₂ index_of_pieces (kept_pieces spelling t.row blocks at n old new apart torn s.at) (kept_ranges spelling t.row blocks at n old new apart torn s.at));
  hash_is = s.hash_is;
  real_is = s.real_is;
  leaves_are = s.leaves_are;
}

abbrev no_row : IndexRow
no_row = record { pages = 0; sum = 0; last = [] }

-- ---- the blocks

stood : (page : ℕ) (pieces : List Bytes) (image : Image) → AllByRecursion IsPiece pieces → Shows (byte_of_page page) (end_to_end pieces) image
    → blocks_there page (map row_of_piece pieces) image ≡ blocks_in pieces
stood page [] image each shown = refl
stood page (p ∷ more) image each shown =
    let parts = shown_parts (byte_of_page page) p (end_to_end more) image shown in
    let long : 4096 * (row_of_piece p).pages ≡ length p = omega (arith, piece_fills p each.0.whole, row_pages_are p) in
    let place : byte_of_page page + length p ≡ byte_of_page (page + (row_of_piece p).pages) = omega (arith, long) in
    let here : block_in (window image (byte_of_page page) (4096 * (row_of_piece p).pages)) ≡ block_in p =
    ap (λ (n : ℕ). block_in (window image (byte_of_page page) n)) long ∙ ap block_in parts.0 in
    ap₂ (λ (x : List Entry) (xs : List (List Entry)). x ∷ xs) here
    (stood (page + (row_of_piece p).pages) more image each.1 (subst (λ (q : ℕ). Shows q (end_to_end more) image) place parts.1))

no_some : (f : Fault → Damage) (o : Option Fault) (d : Damage) → o ≡ None → option_map f o ≡ Some d → ⊥
no_some f None d none is = absurd cc
no_some f (Some x) d none is = absurd cc

pub standing_blocks : StandingBlocks
standing_blocks spelling t blocks image s =
    let rows = rows_are spelling t blocks image s in
    let on : blocks_on t image ≡ blocks =
    ap (λ (rs : List IndexRow). blocks_there t.row.first_page rs image) rows ∙ stood t.row.first_page s.at.pieces image s.at.each s.at.blocks_shown ∙ s.at.read in
    let many : length t.index.rows ≡ length blocks = many_rows spelling t blocks image s in
    record {
      many = many;
      on_device = on;
      sound = λ n lt. block_is_sound spelling t blocks image s n lt;
      read = λ n lt. sym (at_block t image n (subst (λ (k : ℕ). n < k) (sym many) lt)) ∙ ap (λ (bs : List (List Entry)). get_or bs n []) on;
      no_damage = λ n fault lt is. undamaged t n image (block_is_sound spelling t blocks image s n lt) fault is;
    }
  where
    undamaged : (t : Opened) (n : ℕ) (image : Image) → IsSoundBlock t n image → (f : TableFault) → IsGetFault t n image f → IsNoDamage f
    undamaged t n image sound table.Memory is = absurd is
    undamaged t n image sound (table.Device cause) is = tt
    undamaged t n image sound (table.Damaged d) (inl other) = absurd (other.other sound.sum)
    undamaged t n image sound (table.Damaged d) (inr broken) = absurd (no_some _ (block_fault (bytes_at t n image)) d sound.rules broken.1)

-- ---- the keys

greatest_row : (test : Bytes → Bool) (blocks : List (List Entry)) → AllByRecursion (λ b. 1 ≤ length b) blocks → 1 ≤ length blocks
    → (row_at (map index_row_of blocks) (length blocks - 1)).last ≡ last_key (joined blocks)
greatest_row test [] each some = absurd (omega (arith, some))
greatest_row test (b ∷ []) each some = row_last b ∙ ap last_key (sym (append-nil b))
greatest_row test (b ∷ [] ∷ more) each some = absurd (omega (arith, each.1.0))
greatest_row test (b ∷ (e ∷ es) ∷ more) each some =
    let one : length (b ∷ (e ∷ es) ∷ more) - 1 ≡ suc (length ((e ∷ es) ∷ more) - 1) = omega arith in
    ap (λ (k : ℕ). (row_at (map index_row_of (b ∷ (e ∷ es) ∷ more)) k).last) one
    ∙ greatest_row test ((e ∷ es) ∷ more) each.1 (omega arith)
    ∙ sym (last_append b e (es ++ joined more))

lt_more : (a b : ℕ) → nat_lt (1 + a) (suc b) ≡ nat_lt a b
lt_more a b = elim (nat_lt a b) as (λ t. nat_lt a b ≡ t → nat_lt (1 + a) (suc b) ≡ t) [
  | true ↦ λ is. lt-ltb (1 + a) (suc b) (omega (arith, ltb-true a b is))
  | false ↦ λ is. le-ltb (1 + a) (suc b) (omega (arith, ltb-false a b is))
] refl

one_row : (t : Bool) → nat_lt (cond (not t) (1 + 0) 0) 1 ≡ t
one_row true = refl
one_row false = refl

abbrev place_of : Bytes → List (List Entry) → ℕ
place_of key blocks = position_or_len (λ (row : IndexRow). is_from key row.last) (map index_row_of blocks)

-- some row is not below the key exactly where the last one is not
within : (key : Bytes) (test : Bytes → Bool) (blocks : List (List Entry)) → AllByRecursion (λ b. 1 ≤ length b) blocks → 1 ≤ length blocks → Follow test (keys_of (joined blocks))
    → nat_lt (place_of key blocks) (length (map index_row_of blocks)) ≡ is_from key (last_key (joined blocks))
within key test [] each some f = absurd (omega (arith, some))
within key test (b ∷ []) each some f =
    ap (λ (k : Bytes). nat_lt (cond (not (is_from key k)) (1 + 0) 0) 1) (row_last b) ∙ one_row (is_from key (last_key b)) ∙ ap (λ (es : List Entry). is_from key (last_key es)) (sym (append-nil b))
within key test (b ∷ [] ∷ more) each some f = absurd (omega (arith, each.1.0))
within key test ([] ∷ (e ∷ es) ∷ more) each some f = absurd (omega (arith, each.0))
within key test ((x ∷ b) ∷ (e ∷ es) ∷ more) each some f =
    let rows = map index_row_of ((e ∷ es) ∷ more) in
    let rest = es ++ joined more in
    let after : is_from key (last_key (e ∷ rest)) ≡ is_from key (last_key ((x ∷ b) ++ (e ∷ rest))) = sym (ap (is_from key) (last_append (x ∷ b) e rest)) in
    ap (λ (k : Bytes). nat_lt (cond (not (is_from key k)) (1 + place_of key ((e ∷ es) ∷ more)) 0) (suc (length rows))) (row_last (x ∷ b))
    ∙ (elim (is_from key (last_key (x ∷ b))) as (λ t. is_from key (last_key (x ∷ b)) ≡ t
    → nat_lt (cond (not t) (1 + place_of key ((e ∷ es) ∷ more)) 0) (suc (length rows)) ≡ is_from key (last_key (e ∷ rest))) [
      | true ↦ λ from. lt-ltb 0 (suc (length rows)) (omega arith) ∙ sym (from_above key (last_key (x ∷ b)) (last_key (e ∷ rest)) from (lasts_rise (x ∷ b) test e rest (omega arith) f))
      | false ↦ λ below. lt_more (place_of key ((e ∷ es) ∷ more)) (length rows)
          ∙ within key (is_before (last_key (x ∷ b))) ((e ∷ es) ∷ more) each.1 (omega arith) (behind_last test x b (e ∷ rest) f)
    ] refl)
    ∙ after

some_of : (a b : Bool) (o : Option ℕ) → is_some (cond a (cond b o None) None) ≡ (a && (b && is_some o))
some_of true true o = refl
some_of true false o = refl
some_of false b o = refl

some_within : (t : Bool) (n : ℕ) → is_some (cond t (Some n) None) ≡ t
some_within true n = refl
some_within false n = refl

pub standing_keys : StandingKeys
standing_keys spelling t blocks image s =
    let lasts = lasts_are spelling t blocks image s in
    let least = least_is spelling t blocks image s in
    let many : length t.index.rows ≡ length blocks = many_rows spelling t blocks image s in
    let each = each_some spelling t blocks image s in
    let some : 1 ≤ length blocks = omega (arith, some_blocks blocks s.at.table.some) in
    record {
      there = λ key n is. there spelling t blocks image s key n is;
      answer = λ key n is. answer spelling t blocks image s key n is (bytes_at t n image) refl;
      no_answer = λ key none. no_answer spelling t blocks image s key none;
      least = least;
      greatest =
          same_last t.index.rows (map index_row_of blocks) (length t.index.rows - 1) lasts
          ∙ ap (λ (n : ℕ). (row_at (map index_row_of blocks) (n - 1)).last) many
          ∙ greatest_row is_any blocks each some;
      searched = λ key.
          let point_is : point t.filter.hash_bits t.filter.real_bits t.filter.leaves key
          ≡ point t.row.hash_bits t.row.real_bits (leaves_of t.row.hash_bits t.row.real_bits (keys_of (joined blocks))) key =
          ap (λ (ls : List Leaf). point t.filter.hash_bits t.filter.real_bits ls key) s.leaves_are
          ∙ ap₂ (λ (h r : ℕ). point h r (leaves_of t.row.hash_bits t.row.real_bits (keys_of (joined blocks))) key) s.hash_is s.real_is in
          let last : is_some (first_block t.index.rows key) ≡ is_from key (last_key (joined blocks)) =
          ap is_some (same_first key t.index.rows (map index_row_of blocks) lasts)
          ∙ some_within (nat_lt (place_of key blocks) (length (map index_row_of blocks))) (place_of key blocks)
          ∙ within key is_any blocks each some s.at.table.rising in
          some_of (point t.filter.hash_bits t.filter.real_bits t.filter.leaves key) (is_from t.index.least key) (first_block t.index.rows key)
          ∙ ap₂ (λ (a b : Bool). a && b) point_is
          (ap₂ (λ (k : Bytes) (b : Bool). is_from k key && b) least last);
    }
  where
    some_blocks : (blocks : List (List Entry)) → 1 ≤ length (joined blocks) → 1 ≤ length blocks
    some_blocks [] some = some
    some_blocks (b ∷ more) some = omega arith

-- ---- a walk

from_down : (low a b : Bytes) → is_from low b ≡ false → is_before a b ≡ true → is_from low a ≡ false
from_down low a b below above =
    elim (is_from low a) as (λ t. is_from low a ≡ t → t ≡ false) [
      | true ↦ λ from. sym (from_above low a b from above) ∙ below
      | false ↦ λ _. refl
    ] refl

all_from : (low k : Bytes) (es : List Entry) → is_from low k ≡ true → Follow (is_before k) (keys_of es) → entries_from es low ≡ es
all_from low k [] from f = refl
all_from low k (e ∷ es) from f =
    let here : is_from low e.key ≡ true = from_above low k e.key from f.0 in
    ap (λ (t : Bool). cond t (e ∷ entries_from es low) (entries_from es low)) here ∙ ap (λ (xs : List Entry). e ∷ xs) (all_from low e.key es here f.1)

none_from : (low : Bytes) (test : Bytes → Bool) (es : List Entry) → is_from low (last_key es) ≡ false → Follow test (keys_of es) → entries_from es low ≡ []
none_from low test [] below f = refl
none_from low test (e ∷ []) below f = ap (λ (t : Bool). cond t (e ∷ []) []) below
none_from low test (e ∷ next ∷ more) below f =
    let here : is_from low e.key ≡ false = from_down low e.key (last_key (next ∷ more)) below (lasts_rise (e ∷ []) test next more (omega arith) f) in
    ap (λ (t : Bool). cond t (e ∷ entries_from (next ∷ more) low) (entries_from (next ∷ more) low)) here ∙ none_from low (is_before e.key) (next ∷ more) below f.1

kept_some : (low : Bytes) (es : List Entry) → 1 ≤ length es → is_from low (last_key es) ≡ true → 1 ≤ length (entries_from es low)
kept_some low [] some from = absurd (omega (arith, some))
kept_some low (e ∷ []) some from = subst (λ (t : Bool). 1 ≤ length (cond t (e ∷ []) [])) (sym from) (omega arith)
kept_some low (e ∷ next ∷ more) some from =
    let later = kept_some low (next ∷ more) (omega arith) from in
    elim (is_from low e.key) as (λ t. 1 ≤ length (cond t (e ∷ entries_from (next ∷ more) low) (entries_from (next ∷ more) low))) [
      | true ↦ omega arith
      | false ↦ later
    ]

whole : (low : Bytes) (test : Bytes → Bool) (blocks : List (List Entry)) → AllByRecursion (λ b. 1 ≤ length b) blocks → Follow test (keys_of (joined blocks))
    → joined_from (Some low) (drop (place_of low blocks) blocks) ≡ entries_from (joined blocks) low
whole low test [] each f = refl
whole low test ([] ∷ more) each f = absurd (omega (arith, each.0))
whole low test ((x ∷ b) ∷ more) each f =
    let p = λ (e : Entry). not (is_before e.key low) in
    let later = behind_last test x b (joined more) f in
    ap (λ (k : Bytes). joined_from (Some low) (drop (cond (not (is_from low k)) (1 + place_of low more) 0) ((x ∷ b) ∷ more))) (row_last (x ∷ b))
    ∙ (elim (is_from low (last_key (x ∷ b))) as (λ t. is_from low (last_key (x ∷ b)) ≡ t
    → joined_from (Some low) (drop (cond (not t) (1 + place_of low more) 0) ((x ∷ b) ∷ more)) ≡ entries_from (x ∷ b) low ++ entries_from (joined more) low) [
      | true ↦ λ from. ap (λ (es : List Entry). entries_from (x ∷ b) low ++ es) (sym (all_from low (last_key (x ∷ b)) (joined more) from later))
      | false ↦ λ below.
          let one : 1 + place_of low more ≡ suc (place_of low more) = omega arith in
          ap (λ (n : ℕ). joined_from (Some low) (drop n ((x ∷ b) ∷ more))) one
          ∙ whole low (is_before (last_key (x ∷ b))) more each.1 later
          ∙ sym (ap (λ (es : List Entry). es ++ entries_from (joined more) low) (none_from low test (x ∷ b) below (front_follows test (x ∷ b) (joined more) f)))
    ] refl)
    ∙ sym (filter-append p (x ∷ b) (joined more))

pub standing_walks : StandingWalks
standing_walks spelling t blocks image s =
    let lasts = lasts_are spelling t blocks image s in
    let each = each_some spelling t blocks image s in
    record {
      all = λ low.
          ap (λ (n : ℕ). joined_from (Some low) (drop n blocks)) (same_place low t.index.rows (map index_row_of blocks) lasts)
          ∙ whole low is_any blocks each s.at.table.rising;
      begins = λ low.
          subst (λ (k : ℕ). k < length blocks → 1 ≤ length (entries_from (get_or blocks k []) low)) (sym (same_place low t.index.rows (map index_row_of blocks) lasts))
          (λ lt.
          let n = place_of low blocks in
          let inside : n < length (map index_row_of blocks) = omega (arith, lt, length-map blocks index_row_of) in
          let last : is_from low (last_key (get_or blocks n [])) ≡ true =
          ap (is_from low) (sym (row_last (get_or blocks n [])))
          ∙ sym (ap (λ (r : IndexRow). is_from low r.last) (get_or-map index_row_of blocks n [] no_row lt))
          ∙ passes_at_first (λ (row : IndexRow). is_from low row.last) (map index_row_of blocks) no_row inside in
          kept_some low (get_or blocks n []) (all_at (λ b. 1 ≤ length b) blocks n [] each lt) last);
      goes_on = λ old new on. on_from old new each on;
    }
  where
    on_from : (old new : CursorWalk) → AllByRecursion (λ b. 1 ≤ length b) blocks → WalkGoesOn old new → BeginsWell old blocks → BeginsWell new blocks
    on_from old new each (inl none) well lt =
        subst (λ (bound : Option Bytes). 1 ≤ length (kept_from bound (get_or blocks new.block []))) (sym none) (all_at (λ b. 1 ≤ length b) blocks new.block [] each lt)
    on_from old new each (inr same) well lt =
        subst (λ (bound : Option Bytes). 1 ≤ length (kept_from bound (get_or blocks new.block []))) (sym same.0)
        (subst (λ (n : ℕ). 1 ≤ length (kept_from old.bound (get_or blocks n []))) (sym same.1) (well (subst (λ (n : ℕ). n < length blocks) same.1 lt)))
