use Rattle.std.proofs.Common.{rules, ◌≡◌, ◌∙◌, [], ◌∷◌, ℕ, List, length, refl, ap, sym, arith}
use Rattle.arrayvec.specs.ArrayVec.{ArrayVec}
use Rattle.entry_model.specs.Entries.{Entry}
use Rattle.mem_table.specs.Table.{MemoryTable}
use Rattle.mem_table.specs.Chunks.{flat, in_order, NoneEmpty}
use Rattle.std.proofs.lemmas.List.{length-append, length-map}
use Rattle.mem_table.specs.Chunks.{entry_at}
use Rattle.mem_table.proofs.table.MemTable.is_empty.Goals as goal

none_shown : (entries : List Entry) (chunks : List (ArrayVec ℕ)) → length chunks ≡ 0 → in_order entries (flat chunks) ≡ []
none_shown entries [] none = refl
none_shown entries (x ∷ more) none = absurd (omega (arith, none))

none_there : (entries : List Entry) (chunks : List (ArrayVec ℕ)) → NoneEmpty chunks → in_order entries (flat chunks) ≡ [] → length chunks ≡ 0
none_there entries [] some e = refl
none_there entries (x ∷ more) some e =
    absurd (omega (arith, ap (λ (es : List Entry). length es) e, length-map (flat (x ∷ more)) (entry_at entries), length-append x.items (flat more), some.0))

pub returns : goal.returns
returns c =
    let entries = c.self.inside.entries.items in
    let chunks = c.self.inside.chunks.items in
    let shown = ap (λ (t : MemoryTable). t.entries) c.self.view_is in (
      λ yes. let none : length chunks ≡ 0 = search rules in sym shown ∙ none_shown entries chunks none,
      λ no. let none : length chunks ≡ 0 = none_there entries chunks c.self.invariant.0.some (shown ∙ no) in search rules,
    )
