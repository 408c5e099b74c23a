use Rattle.std.proofs.Common.{◌≡◌, ◌∙◌, List, false, sym, ap}
use Rattle.std.proofs.lemmas.Result.{IfOk-weaker}
use Rattle.entry_model.specs.Entries.{Entry}
use Rattle.entry_model.specs.Newest.{newest_entries}
use Rattle.range_model.specs.Sources.{alone}
use Rattle.mem_table.specs.Changes.{clears_one}
use Rattle.mem_table.proofs.Changes.{source_sorted}
use Rattle.mem_table.proofs.table.MemTable.fill.Goals as goal

pub returns : goal.returns
returns c =
    let none : clears_one c.args.changes.items ≡ false = sym (c.clears_one.ensures ∙ ap clears_one c.deref.ensures.value) ∙ c.if-clears_one.false in
    IfOk-weaker c.sorted.result _ _ (λ t is. is ∙ ap (λ (es : List Entry). alone (newest_entries es)) c.in_ok-entries_set.ensures ∙ source_sorted c.args.changes.items none) c.sorted.ensures
