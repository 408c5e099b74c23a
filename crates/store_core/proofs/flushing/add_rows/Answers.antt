use Rattle.std.proofs.Common.{◌∙◌, ◌<◌, ℕ, length, get_or, sym, subst, arith}
use Rattle.byte_fields.specs.declared.parts.Row.{Row}
use Rattle.extent_model.specs.Extents.{IsOnDevice}
use Rattle.manifest_model.specs.Rows.{extent_of}
use Rattle.store_core.proofs.PlannedRows.{row_is_free, row_is_taken, row_on_device}
use Rattle.store_core.proofs.flushing.add_rows.Goals as goal

abbrev no_row : Row
no_row = record {
  level = 0;
  first_page = 0;
  data_pages = 0;
  index_pages = 0;
  filter_pages = 0;
  entries = 0;
  index_len = 0;
  filter_len = 0;
  index_sum = 0;
  filter_sum = 0;
  hash_bits = 0;
  real_bits = 0;
  ratio = 0;
}

pub overflow_add-row : goal.overflow_add-row
overflow_add-row c =
    let there : c.loop-row.row-index < length c.args.rows.now = omega arith in
    let on = row_on_device c.args.extents.now.pages c.args.rows.now c.requires.laid c.args.extents.now.extents c.requires.free c.loop-row.row-index no_row there in
    record { fits = omega (arith, on.to, c.requires.to) }

pub overflow_add-row-in-loop-row : goal.overflow_add-row-in-loop-row
overflow_add-row-in-loop-row c =
    let there : c.loop-row.row-index < length c.args.rows.now = omega arith in
    let on = row_on_device c.args.extents.now.pages c.args.rows.now c.requires.laid c.args.extents.now.extents c.requires.free c.loop-row.row-index no_row there in
    record { fits = omega (arith, on.to, c.requires.to) }

pub add-requires-clause-on_device : goal.add-requires-clause-on_device
add-requires-clause-on_device c =
    let there : c.loop-row.row-index < length c.args.rows.now = omega arith in
    subst (λ (n : ℕ). IsOnDevice n (extent_of (get_or c.args.rows.now c.loop-row.row-index no_row))) (sym c.loop-row.invariant.0)
    (row_on_device c.args.extents.now.pages c.args.rows.now c.requires.laid c.args.extents.now.extents c.requires.free c.loop-row.row-index no_row there)

pub add-requires-clause-free : goal.add-requires-clause-free
add-requires-clause-free c =
    let there : c.loop-row.row-index < length c.args.rows.now = omega arith in
    row_is_free c.args.extents.now.pages c.args.rows.now c.requires.laid c.args.extents.now.extents c.requires.free c.loop-row.row-index no_row there c.loop-row.extents.extents c.loop-row.invariant.1

pub loop-row-preserved : goal.loop-row-preserved
loop-row-preserved c =
    let there : c.loop-row.row-index < length c.args.rows.now = omega arith in (
      c.add.ensures.pages ∙ c.loop-row.invariant.0,
      row_is_taken c.args.extents.now.pages c.args.rows.now c.requires.laid c.args.extents.now.extents c.requires.free c.loop-row.row-index no_row there
          c.loop-row.extents.extents c.loop-row.invariant.1 c.add.new.self.extents c.in_ok-add.ensures.added,
    )
