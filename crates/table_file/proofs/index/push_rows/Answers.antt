use Rattle.std.proofs.Common.{◌≡◌, ◌+◌, ◌++◌, ◌∷◌, [], ◌∙◌, ℕ, length, drop, ap, ap₂, sym, arith, append_assoc}
use Rattle.std.specs.Prelude.{flat_map}
use Rattle.byte_fields.specs.Fields.{fields}
use Rattle.map_model.specs.SortedMap.{Bytes}
use Rattle.block_model.specs.Index.{index_row_bytes, index_row_widths}
use Rattle.table_file.specs.BlockRows.{rows_seen}
use Rattle.table_file.proofs.IndexWalks.{next_written}
use Rattle.table_file.proofs.index.push_rows.Goals as goal

pub loop-row-preserved : goal.loop-row-preserved
unfolding index_row_bytes
loop-row-preserved c =
    let row = c.row-item.result in
    let out = c.loop-row.out.items in
    let behind = flat_map index_row_bytes (rows_seen (drop (c.loop-row.row-index + 1) c.args.rows.now)) in
    let long : c.len.result ≡ length row.last.items = omega (arith, c.len.ensures) in
    let head : c.push_fields.new.out.items ≡ out ++ fields index_row_widths (row.pages ∷ row.sum ∷ length row.last.items ∷ []) =
    c.in_ok-push_fields.ensures.added ∙ ap₂ (λ (p n : ℕ). out ++ fields index_row_widths (p ∷ row.sum ∷ n ∷ [])) c.from.ensures long in
    ap (λ (o : Bytes). o ++ behind) (c.in_ok-extend_from_slice.ensures.items
    ∙ ap₂ (λ (a b : Bytes). a ++ b) head c.as_slice.ensures.value
    ∙ append_assoc out (fields index_row_widths (row.pages ∷ row.sum ∷ length row.last.items ∷ [])) row.last.items)
    ∙ sym (next_written c.args.rows.now c.loop-row.row-index row out (omega (arith, c.loop-row-test.true)) c.row-item.is)
    ∙ c.loop-row.invariant
