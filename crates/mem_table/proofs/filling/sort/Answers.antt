use Rattle.std.proofs.Common.{rules}
use Rattle.std.specs.Cmp.Lexicographic.{nat_list_cmp_total}
use Rattle.std.proofs.lemmas.Fn.{always_returns_same}
use Rattle.std.proofs.lemmas.List.MinMax.{ranks_by}
use Rattle.entry_model.specs.Entries.{Entry}
use Rattle.mem_table.proofs.Fills.{is_less, newest_sorted}
use Rattle.mem_table.proofs.filling.sort.Goals as goal

pub returns-clause-sorted : goal.returns-clause-sorted
returns-clause-sorted c = c.in_ok-sort_by.ensures.sorted is_less (ranks_by nat_list_cmp_total (λ (e : Entry). e.key)) (always_returns_same _ _ _ (λ a r f' k. search rules))

pub returns-clause-newest : goal.returns-clause-newest
returns-clause-newest c =
    newest_sorted c.args.entries.now.items c.sort_by.new.self.items
    (c.in_ok-sort_by.ensures.stable is_less (ranks_by nat_list_cmp_total (λ (e : Entry). e.key)) (always_returns_same _ _ _ (λ a r f' k. search rules)))
