use Rattle.std.proofs.Common.{sym, subst}
use Rattle.std.specs.Prelude.{IfSome}
use Rattle.std.specs.List.{AllByRecursion}
use Rattle.std.specs.Option.{option_map}
use Rattle.entry_model.specs.Entries.{IsEntry, entry_of}
use Rattle.merge_rows.proofs.Memories.{entries_kept, taken_whole}
use Rattle.merge_rows.proofs.memory_source.MemorySource.new.Goals as goal

pub invariant_of-result-2 : goal.invariant_of-result-2
invariant_of-result-2 c =
    let all = subst (λ o. IfSome o (λ m. AllByRecursion IsEntry m.now.entries)) c.in-Some.is c.requires in
    let kept : AllByRecursion IsEntry c.cursor-cursor.result =
    subst (AllByRecursion IsEntry) (sym c.cursor-cursor.ensures) (entries_kept c.args.low.now c.in-Some.table.now.entries all) in
    taken_whole (λ h. entry_of h.0.now (option_map (λ v. v.now) h.1)) c.next-head.result c.cursor-cursor.result c.next-head.new.self c.next-head.ensures kept
