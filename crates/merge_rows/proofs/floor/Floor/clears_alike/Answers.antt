use Rattle.std.proofs.Common.{◌≡◌, ◌∙◌, List, ℕ, sym, ap, subst}
use Rattle.std.specs.declared.cmp.Ordering.TheVariants.{Less, Equal, Greater}
use Rattle.key_base.specs.ByteOrder.{byte_order}
use Rattle.merge_rows.specs.Rows.{KeyFloor, clears}
use Rattle.merge_rows.proofs.Keys.{clears_equal, clears_greater, clears_less}
use Rattle.merge_rows.proofs.floor.Floor.clears_alike.Goals as goal

pub returns-in-Less : goal.returns-in-Less
returns-in-Less c =
    let less : byte_order c.self.inside.key.items c.args.key.now ≡ Less =
    subst (λ (k : List ℕ). byte_order k c.args.key.now ≡ Less) c.deref.ensures.value (sym c.compare_alike.ensures ∙ c.in-Less.is) in
    clears_less (record { key = c.self.inside.key.items; passed = c.self.inside.passed }) c.args.key.now less ∙ ap (λ (f : KeyFloor). clears f c.args.key.now) c.self.view_is

pub returns-in-Equal : goal.returns-in-Equal
returns-in-Equal c =
    let equal : byte_order c.self.inside.key.items c.args.key.now ≡ Equal =
    subst (λ (k : List ℕ). byte_order k c.args.key.now ≡ Equal) c.deref.ensures.value (sym c.compare_alike.ensures ∙ c.in-Equal.is) in
    clears_equal (record { key = c.self.inside.key.items; passed = c.self.inside.passed }) c.args.key.now equal ∙ ap (λ (f : KeyFloor). clears f c.args.key.now) c.self.view_is

pub returns-in-Greater : goal.returns-in-Greater
returns-in-Greater c =
    let greater : byte_order c.self.inside.key.items c.args.key.now ≡ Greater =
    subst (λ (k : List ℕ). byte_order k c.args.key.now ≡ Greater) c.deref.ensures.value (sym c.compare_alike.ensures ∙ c.in-Greater.is) in
    clears_greater (record { key = c.self.inside.key.items; passed = c.self.inside.passed }) c.args.key.now greater ∙ ap (λ (f : KeyFloor). clears f c.args.key.now) c.self.view_is
