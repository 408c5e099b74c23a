-- How tables follow each other, one row after the other.
use Rattle.std.proofs.Common.{◌≡◌, ◌+◌, ◌-◌, ◌*◌, ℕ, suc, Bool, true, false, List, [], ◌∷◌, ◌++◌, length, refl, sym, ap, ◌∙◌, arith}
use Rattle.std.specs.Prelude.{◌&&◌, not, is_none, Option, Some, None}
use Rattle.std.specs.Option.{option_map, option_or}
use Rattle.byte_fields.specs.Faults.{Fault, refuse}
use Rattle.byte_fields.specs.declared.parts.Damage.{Damage}
use Rattle.byte_fields.specs.declared.parts.Row.{Row}
use Rattle.disk_trait.specs.Image.{Image}
use Rattle.block_model.specs.Index.{Index, IndexRow}
use Rattle.manifest_model.specs.Tables.{KeyRange, follows}
use Rattle.table_file.specs.Opened.{RowIndex}
use Rattle.table_file.specs.Search.{row_at}
use Rattle.image_model.specs.Findings.{fault_after, has_sound_index, neighbours_fault}
use Rattle.image_model.specs.Opening.{greatest_in, key_range_of}
use Rattle.store_check.specs.Orders.{IsOrderOf, TableOrder, broken_fault, is_out_of_order, range_behind, range_in, range_of_index, when, with_row}
use Rattle.store_check.specs.Tables.{IsIndexRead}

-- ---- the last row of some

behind_last : (before : Option KeyRange) (image : Image) (rows : List Row) (row : Row) → range_in image row (has_sound_index row image) ≡ range_behind before image (rows ++ row ∷ [])
behind_last before image [] row = refl
behind_last before image (r ∷ rows) row = behind_last (range_in image r (has_sound_index r image)) image rows row

refuse_or : (bad : Bool) (place : ℕ) (later last : Option Fault) → refuse bad place 12 (option_or later last) ≡ option_or (refuse bad place 12 later) last
refuse_or true place later last = refl
refuse_or false place later last = refl

-- what the last row breaks, by what is known of the row before it
abbrev last_fault : Image → Option KeyRange → Row → ℕ → Option Fault
last_fault image before row place = refuse (is_out_of_order before (range_in image row (has_sound_index row image))) place 12 None

both_sound : (image : Image) (before row : Row) (a b : Bool) → (a && (b && not (follows (key_range_of image before) (key_range_of image row)))) ≡ is_out_of_order (range_in image before a) (range_in image row b)
both_sound image before row true true = refl
both_sound image before row true false = refl
both_sound image before row false b = refl

after_last : (image : Image) (place end : ℕ) (before : Row) (rows : List Row) (row : Row) → end ≡ place + 64 * length rows
    → fault_after place before (rows ++ row ∷ []) image ≡ option_or (fault_after place before rows image) (last_fault image (range_behind (range_in image before (has_sound_index before image)) image rows) row end)
after_last image place end before [] row is =
    (λ i. refuse (both_sound image before row (has_sound_index before image) (has_sound_index row image) i) (here i) 12 None)
  where
    here : place ≡ end
    here = omega (arith, is)
after_last image place end before (r ∷ rows) row is =
    let bad = has_sound_index before image && (has_sound_index r image && not (follows (key_range_of image before) (key_range_of image r))) in
    ap (λ (o : Option Fault). refuse bad place 12 o) (after_last image (place + 64) end r rows row (omega (arith, is)))
    ∙ refuse_or bad place (fault_after (place + 64) r rows image) _

neighbours_last : (image : Image) (rows : List Row) (row : Row)
    → neighbours_fault (rows ++ row ∷ []) image ≡ option_or (neighbours_fault rows image) (last_fault image (range_behind None image rows) row (64 + 64 * length rows))
neighbours_last image [] row = refl
neighbours_last image (r ∷ rows) row = after_last image 128 (64 + 64 * length (r ∷ rows)) r rows row (omega arith)

broken_more : (broken : Option ℕ) (bad : Bool) (n : ℕ) → broken_fault (option_or broken (when bad n)) ≡ option_or (broken_fault broken) (refuse bad (64 + 64 * n) 12 None)
broken_more (Some m) bad n = refl
broken_more None true n = refl
broken_more None false n = refl

-- ---- one row more

module _ (image : Image) (rows : List Row) (order : TableOrder) (row : Row) (range : Option KeyRange) (is : IsOrderOf image rows order) (range_is : range ≡ range_in image row (has_sound_index row image)) where
  one_more : (rows : List Row) → length rows + 1 ≡ length (rows ++ row ∷ [])
  one_more [] = refl
  one_more (r ∷ rows) = omega (arith, one_more rows)

  pub order_more : IsOrderOf image (rows ++ row ∷ []) (with_row range order)
  order_more = record {
    rows_are = ap (λ (n : ℕ). n + 1) is.rows_are ∙ one_more rows;
    before_is = range_is ∙ behind_last None image rows row;
    broken_is =
        broken_more order.broken (is_out_of_order order.before range) order.rows
        ∙ (λ i. option_or (is.broken_is i) (refuse (is_out_of_order (is.before_is i) (range_is i)) (64 + 64 * is.rows_are i) 12 None))
        ∙ sym (neighbours_last image rows row);
  }

-- ---- of an index that was read

greatest : (rows : List IndexRow) → (row_at rows (length rows - 1)).last ≡ greatest_in rows
greatest [] = refl
greatest (row ∷ []) = refl
greatest (row ∷ next ∷ later) =
    let one : length (row ∷ next ∷ later) - 1 ≡ suc (length (next ∷ later) - 1) = omega arith in
    ap (λ (n : ℕ). (row_at (row ∷ next ∷ later) n).last) one ∙ greatest (next ∷ later)

pub range_read : (row : Row) (image : Image) (index : Option RowIndex) → IsIndexRead row image index → option_map range_of_index index ≡ range_in image row (has_sound_index row image)
range_read row image None is = ap (λ (o : Option Damage). range_in image row (is_none o)) (sym is.1)
range_read row image (Some x) is =
    (λ i. Some (record { level = (is.0 i).level; least = (is.1.index_is i).least; greatest = greatest x.index.rows i; reach = [] }))
    ∙ ap (λ (x : Index). Some (record { level = row.level; least = (key_range_of image row).least; greatest = greatest_in x.rows; reach = [] })) is.1.index_is
    ∙ ap (λ (o : Option Damage). range_in image row (is_none o)) (sym is.1.none)
