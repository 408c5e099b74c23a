use Rattle.std.proofs.Common.{◌≡◌, sym, ap, ◌∙◌}
use Rattle.manifest_model.specs.Reading.{row_of, table_row_in}
use Rattle.manifest_model.specs.Version.{by_format, row_widths}
use Rattle.manifest_model.proofs.VersionsWritten.{numbers_at, numbers_from, one_byte}
use Rattle.manifest.proofs.reading.row_of.Goals as goal

pub returns : goal.returns
unfolding table_row_in
returns c =
    let format = c.args.format in
    let head = c.args.head in
    let bytes = c.args.bytes.now in
    let by_places : table_row_in format head bytes ≡ row_of format head (numbers_from 0 row_widths bytes) = ap (row_of format head) (numbers_at row_widths 0 bytes) in
    let settings = c.row_settings_in-settings.ensures in
    let level = sym (one_byte 0 bytes) in
    let hash_bits = settings.hash_bits ∙ ap (by_format format head.hash_bits) (sym (one_byte 56 bytes)) in
    let real_bits = settings.real_bits ∙ ap (by_format format head.real_bits) (sym (one_byte 57 bytes)) in
    (λ i. record {
      level = level i;
      first_page = c.get_u32.ensures i;
      data_pages = c.get_u32-2.ensures i;
      index_pages = c.get_u32-3.ensures i;
      filter_pages = c.get_u32-4.ensures i;
      entries = c.get_u32-5.ensures i;
      index_len = c.get_u64.ensures i;
      filter_len = c.get_u64-2.ensures i;
      index_sum = c.get_u64-3.ensures i;
      filter_sum = c.get_u64-4.ensures i;
      hash_bits = hash_bits i;
      real_bits = real_bits i;
      ratio = settings.ratio i;
    })
    ∙ sym by_places
