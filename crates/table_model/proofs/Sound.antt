-- The parts of a table have no damage, and a filter part has one at most.
use Rattle.std.proofs.Common.{◌≡◌, ◌≢◌, ◌+◌, ◌*◌, ℕ, List, [], ◌∷◌, length, refl, sym, ap, ◌∙◌, subst, Bool, false, cond, arith}
use Rattle.std.proofs.lemmas.Bool.{cond-true, eq-eqb}
use Rattle.std.proofs.lemmas.List.{length-map}
use Rattle.std.specs.Prelude.{map, Option, Some, None, ◌==◌}
use Rattle.std.specs.List.{AllByRecursion}
use Rattle.std.specs.Option.{option_map}
use Rattle.byte_fields.specs.Sums.{fnv_of}
use Rattle.byte_fields.specs.declared.parts.Damage.TheVariants as damage
use Rattle.byte_fields.specs.declared.parts.Part.{Part}
use Rattle.byte_fields.specs.declared.parts.Part.TheVariants as part
use Rattle.byte_fields.specs.declared.parts.Row.{Row}
use Rattle.disk_trait.specs.Image.{Image, Shows}
use Rattle.filter_api.specs.Spellings.{AreAlike, IsSpelling, Spelling, SpellsOne}
use Rattle.filter_api.specs.Ranges.{row_settings}
use Rattle.filter_model.specs.Leaves.{Leaf, leaves_of}
use Rattle.map_model.specs.SortedMap.{Bytes}
use Rattle.entry_model.specs.Entries.{Entry, keys_of}
use Rattle.block_model.specs.BlockReading.{block_fault}
use Rattle.byte_fields.specs.Faults.{Fault}
use Rattle.block_model.specs.Index.{Index, IndexRow, index_bytes}
use Rattle.block_model.specs.IndexReading.{index_fault, index_in}
use Rattle.block_model.specs.Laws.{joined}
use Rattle.block_model.specs.Places.{byte_of_page, filter_page, index_page}
use Rattle.block_model.proofs.IndexesRead.{index_again}
use Rattle.table_model.specs.Damage.{AreSoundBlocks, IsSoundFilter, block_damage, block_part, filter_part, index_damage, index_part, other_leaves, other_sum, other_widths, no_spelling, part_damage}
use Rattle.table_model.specs.Images.{IsFilterOfKeys, IsTableAt}
use Rattle.table_model.specs.Laws.{BlockRules, BlocksHaveNone, FilterHasNone, FilterIsOfTheKeys, FilterRules, IndexHasNone, IndexRules, OneFilterDamage, SoundFilterHasNone}
use Rattle.table_model.specs.Pieces.{IsPiece, end_to_end, index_of_pieces, row_of_piece}
use Rattle.table_model.proofs.Pieces.{piece_fills, row_pages_are, row_sum, rows_of_index}
use Rattle.table_model.proofs.Shown.{shown_is, shown_parts}

-- a part with the kept sum that breaks no rule
part_sound : (p : Part) (at kept : ℕ) (bytes : Bytes) (fault : Option Fault) → kept ≡ fnv_of bytes → fault ≡ None → part_damage p at kept bytes fault ≡ None
part_sound p at kept bytes fault same none =
    cond-true (kept == fnv_of bytes) (option_map (λ (f : Fault). damage.Shape p (at + f.place) f.rule) fault) (Some (damage.Sum p at kept (fnv_of bytes))) (eq-eqb kept (fnv_of bytes) same)
    ∙ ap (option_map (λ (f : Fault). damage.Shape p (at + f.place) f.rule)) none

-- ---- the index

module _ (spelling : Spelling) (row : Row) (blocks : List (List Entry)) (image : Image) (t : IsTableAt spelling row blocks image) where
  index_there : index_part row image ≡ index_bytes (index_of_pieces t.pieces t.ranges)
  index_there = shown_is (byte_of_page (index_page row)) row.index_len (index_bytes (index_of_pieces t.pieces t.ranges)) image t.index.size t.index.shown

  index_sound : index_damage row image ≡ None
  index_sound = part_sound part.Index (byte_of_page (index_page row)) row.index_sum (index_part row image) (index_fault row.data_pages (index_part row image))
      (sym t.index.sum ∙ ap fnv_of (sym index_there))
      (ap (index_fault row.data_pages) index_there ∙ (index_again row.data_pages (index_of_pieces t.pieces t.ranges) t.index_sound).0)

  pub index_read : index_in (index_part row image) ≡ index_of_pieces t.pieces t.ranges
  index_read = ap index_in index_there ∙ (index_again row.data_pages (index_of_pieces t.pieces t.ranges) t.index_sound).1

  filter_there : filter_part row image ≡ t.filter_bytes
  filter_there = shown_is (byte_of_page (filter_page row)) row.filter_len t.filter_bytes image t.filter.size t.filter.shown

  filter_spelled : IsFilterOfKeys spelling (row_settings row) (keys_of (joined blocks)) (filter_part row image)
  filter_spelled = subst (IsFilterOfKeys spelling (row_settings row) (keys_of (joined blocks))) (sym filter_there) t.filter_of_keys

  filter_sound : IsSoundFilter spelling row image
  filter_sound = record {
    sum = sym t.filter.sum ∙ ap fnv_of (sym filter_there);
    cutoff = filter_spelled.cutoff;
    leaves = leaves_of row.hash_bits row.real_bits (keys_of (joined blocks));
    spelled = filter_spelled.spelled;
    many = length-map (keys_of (joined blocks)) _ ∙ length-map (joined blocks) _ ∙ t.entries;
  }

pub index_has_none : IndexHasNone
index_has_none spelling row blocks image t = index_sound spelling row blocks image t

pub filter_has_none : FilterHasNone
filter_has_none spelling row blocks image t = filter_sound spelling row blocks image t

pub filter_of_keys : FilterIsOfTheKeys
filter_of_keys spelling row blocks image t = filter_spelled spelling row blocks image t

-- ---- the blocks

piece_sound : (page : ℕ) (piece : Bytes) (image : Image) → IsPiece piece → Shows (byte_of_page page) piece image → block_damage page (row_of_piece piece) image ≡ None
piece_sound page piece image is shown =
    let there : block_part page (row_of_piece piece) image ≡ piece =
    shown_is (byte_of_page page) (4096 * (row_of_piece piece).pages) piece image (piece_fills piece is.whole ∙ ap (λ (n : ℕ). 4096 * n) (sym (row_pages_are piece))) shown in
    part_sound part.Block (byte_of_page page) (row_of_piece piece).sum (block_part page (row_of_piece piece) image) (block_fault (block_part page (row_of_piece piece) image))
    (row_sum piece ∙ ap fnv_of (sym there)) (ap block_fault there ∙ is.whole)

pieces_sound : (page : ℕ) (pieces : List Bytes) (image : Image) → AllByRecursion IsPiece pieces → Shows (byte_of_page page) (end_to_end pieces) image
    → AreSoundBlocks page (map row_of_piece pieces) image
pieces_sound page [] image each shown = tt
pieces_sound page (piece ∷ later) image each shown =
    let parts = shown_parts (byte_of_page page) piece (end_to_end later) image shown in
    let next : byte_of_page page + length piece ≡ byte_of_page (page + (row_of_piece piece).pages) = omega (arith, piece_fills piece each.0.whole, row_pages_are piece) in (
      piece_sound page piece image each.0 parts.0,
      pieces_sound (page + (row_of_piece piece).pages) later image each.1 (subst (λ (at : ℕ). Shows at (end_to_end later) image) next parts.1),
    )

pub blocks_have_none : BlocksHaveNone
blocks_have_none spelling row blocks image t =
    subst (λ (rows : List IndexRow). AreSoundBlocks row.first_page rows image)
    (sym (ap (λ (i : Index). i.rows) (index_read spelling row blocks image t) ∙ rows_of_index t.pieces t.ranges))
    (pieces_sound row.first_page t.pieces image t.each t.blocks_shown)

-- ---- the filter: one damage, or none

same_many : {bytes : Bytes} {h r c h2 r2 c2 : ℕ} {ls ms : List Leaf} (spelling : Spelling) → SpellsOne spelling → IsSpelling spelling h r c ls bytes → IsSpelling spelling h2 r2 c2 ms bytes
    → AreAlike h r ls h2 r2 ms
same_many spelling one a b = one _ _ _ _ _ _ _ _ _ a b

pub one_filter_damage : OneFilterDamage
one_filter_damage spelling first_fault row image _ _ one (other_sum a) (other_sum b) = refl
one_filter_damage spelling first_fault row image _ _ one (other_sum a) (no_spelling same b) = absurd (a same)
one_filter_damage spelling first_fault row image _ _ one (other_sum a) (other_leaves h r c ls same is b) = absurd (a same)
one_filter_damage spelling first_fault row image _ _ one (other_sum a) (other_widths h r c ls same is many b) = absurd (a same)
one_filter_damage spelling first_fault row image _ _ one (no_spelling same a) (other_sum b) = absurd (b same)
one_filter_damage spelling first_fault row image _ _ one (no_spelling same a) (no_spelling again b) = refl
one_filter_damage spelling first_fault row image _ _ one (no_spelling same a) (other_leaves h r c ls again is b) = absurd (a h r c ls is)
one_filter_damage spelling first_fault row image _ _ one (no_spelling same a) (other_widths h r c ls again is many b) = absurd (a h r c ls is)
one_filter_damage spelling first_fault row image _ _ one (other_leaves h r c ls same is a) (other_sum b) = absurd (b same)
one_filter_damage spelling first_fault row image _ _ one (other_leaves h r c ls same is a) (no_spelling again b) = absurd (b h r c ls is)
one_filter_damage spelling first_fault row image _ _ one (other_leaves h r c ls same is a) (other_leaves h2 r2 c2 ms again other b) = refl
one_filter_damage spelling first_fault row image _ _ one (other_leaves h r c ls same is a) (other_widths h2 r2 c2 ms again other many b) =
    absurd (a (ap length (same_many spelling one is other).leaves_are ∙ many))
one_filter_damage spelling first_fault row image _ _ one (other_widths h r c ls same is many a) (other_sum b) = absurd (b same)
one_filter_damage spelling first_fault row image _ _ one (other_widths h r c ls same is many a) (no_spelling again b) = absurd (b h r c ls is)
one_filter_damage spelling first_fault row image _ _ one (other_widths h r c ls same is many a) (other_leaves h2 r2 c2 ms again other b) =
    absurd (b (ap length (same_many spelling one other is).leaves_are ∙ many))
one_filter_damage spelling first_fault row image _ _ one (other_widths h r c ls same is many a) (other_widths h2 r2 c2 ms again other more b) = refl

pub sound_filter_has_none : SoundFilterHasNone
sound_filter_has_none spelling first_fault row image _ one sound (other_sum a) = a sound.sum
sound_filter_has_none spelling first_fault row image _ one sound (no_spelling same a) = a row.hash_bits row.real_bits sound.cutoff sound.leaves sound.spelled
sound_filter_has_none spelling first_fault row image _ one sound (other_leaves h r c ls same is a) =
    a (ap length (same_many spelling one is sound.spelled).leaves_are ∙ sound.many)
sound_filter_has_none spelling first_fault row image _ one sound (other_widths h r c ls same is many a) =
    let alike = same_many spelling one is sound.spelled in
    a (record { hash = alike.hash_width; real = alike.real_width })

-- the places of the rules of a filter
pub filter_rules : FilterRules
filter_rules spelling first_fault row image = record { sum = other_sum; rule = no_spelling; leaves = other_leaves; widths = other_widths }

-- ---- the damage of an index and of a block

differs : (m n : ℕ) → m ≢ n → (m == n) ≡ false
differs m n e = grind arith

part_other : (p : Part) (at kept : ℕ) (bytes : Bytes) (fault : Option Fault) → kept ≢ fnv_of bytes → part_damage p at kept bytes fault ≡ Some (damage.Sum p at kept (fnv_of bytes))
part_other p at kept bytes fault other =
    ap (λ (b : Bool). cond b (option_map (λ (f : Fault). damage.Shape p (at + f.place) f.rule) fault) (Some (damage.Sum p at kept (fnv_of bytes)))) (differs kept (fnv_of bytes) other)

part_broken : (p : Part) (at kept : ℕ) (bytes : Bytes) (fault : Option Fault) (f : Fault) → kept ≡ fnv_of bytes → fault ≡ Some f
    → part_damage p at kept bytes fault ≡ Some (damage.Shape p (at + f.place) f.rule)
part_broken p at kept bytes fault f same broken =
    cond-true (kept == fnv_of bytes) (option_map (λ (g : Fault). damage.Shape p (at + g.place) g.rule) fault) (Some (damage.Sum p at kept (fnv_of bytes))) (eq-eqb kept (fnv_of bytes) same)
    ∙ ap (option_map (λ (g : Fault). damage.Shape p (at + g.place) g.rule)) broken

pub index_rules : IndexRules
index_rules row image =
    let bytes = index_part row image in
    let fault = index_fault row.data_pages bytes in
    let at = byte_of_page (index_page row) in
    record { sum = part_other part.Index at row.index_sum bytes fault; rule = part_broken part.Index at row.index_sum bytes fault }

pub block_rules : BlockRules
block_rules page row image =
    let bytes = block_part page row image in
    let at = byte_of_page page in
    record { sum = part_other part.Block at row.sum bytes (block_fault bytes); rule = part_broken part.Block at row.sum bytes (block_fault bytes) }
