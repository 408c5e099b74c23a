use Rattle.std.proofs.Common.{rules, ◌≡◌, ◌∙◌, [], ◌∷◌, ◌++◌, List, ap, sym}
use Rattle.std.proofs.lemmas.List.{append-nil}
use Rattle.entry_model.specs.Entries.{Entry}
use Rattle.range_model.specs.Sources.{Change, Sets, Clears}
use Rattle.mem_table.specs.Changes.{entries_set}
use Rattle.mem_table.proofs.Changes.{set_more}
use Rattle.mem_table.proofs.filling.entries_set.Goals as goal

pub loop-change-preserved-in-Continue-1 : goal.loop-change-preserved-in-Continue-1
loop-change-preserved-in-Continue-1 c =
    let so_far = c.loop-change.yielded in
    let is : Sets c.in-Sets.entry ≡ c.in-Some.change = search rules in
    c.in_ok-push.ensures.items ∙ ap (λ (l : List Entry). l ++ c.in-Sets.entry ∷ []) c.loop-change.invariant
    ∙ ap (λ (change : Change). entries_set so_far ++ entries_set (change ∷ [])) is ∙ sym (set_more so_far c.in-Some.change)

pub loop-change-preserved-in_default : goal.loop-change-preserved-in_default
loop-change-preserved-in_default c =
    let so_far = c.loop-change.yielded in
    let is : Clears c.in_default.field-0 ≡ c.in-Some.change = search rules in
    c.loop-change.invariant ∙ sym (append-nil (entries_set so_far))
    ∙ ap (λ (change : Change). entries_set so_far ++ entries_set (change ∷ [])) is ∙ sym (set_more so_far c.in-Some.change)
