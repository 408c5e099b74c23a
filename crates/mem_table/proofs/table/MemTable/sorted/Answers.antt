use Rattle.std.proofs.Common.{rules, ◌≡◌, ◌∙◌, [], List, length, sym, ap, ap₂, subst}
use Rattle.std.specs.List.{range_with_len}
use Rattle.entry_model.specs.Entries.{Entry}
use Rattle.mem_table.specs.Chunks.{flat}
use Rattle.entry_model.specs.Newest.{KeysRise}
use Rattle.entry_model.proofs.Newest.{rises_after}
use Rattle.range_model.specs.Ranges.{DeletedRange}
use Rattle.mem_table.proofs.Fills.{row_shows, row_orders}
use Rattle.mem_table.proofs.table.MemTable.sorted.Goals as goal

pub invariant_of-result : goal.invariant_of-result
invariant_of-result c =
    let entries = c.keep_last.new.entries.items in
    let size : c.len-2.result ≡ length entries = search rules in
    let row : flat c.in_ok-chunks.chunks.items ≡ range_with_len 0 (length entries) = c.in_ok-chunks.ensures.places ∙ ap (range_with_len 0) size in
    (row_orders entries c.in_ok-chunks.chunks.items row c.in_ok-chunks.ensures.some (subst KeysRise (sym c.keep_last.ensures) (rises_after [] c.sort.new.entries.items tt)), search rules, search rules)

pub returns : goal.returns
returns c =
    let entries = c.keep_last.new.entries.items in
    let size : c.len-2.result ≡ length entries = search rules in
    ap₂ (λ (es : List Entry) (rs : List DeletedRange). record { entries = es; ranges = rs })
    (row_shows entries c.in_ok-chunks.chunks.items (c.in_ok-chunks.ensures.places ∙ ap (range_with_len 0) size) ∙ c.keep_last.ensures ∙ c.in_ok-sort.ensures.newest)
    c.new-ranges.ensures
