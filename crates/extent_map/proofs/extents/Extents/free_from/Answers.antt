use Rattle.std.proofs.Common.{rules, suc, ◌≡◌, ◌<◌, ◌≤◌, ◌-◌, length, ap, ◌∙◌, sym, subst, arith}
use Rattle.extent_model.specs.Extents.{end_of}
use Rattle.extent_map.specs.Taken.{Taken, end_before}
use Rattle.extent_map.proofs.Order.{behind_last, end_upto}
use Rattle.extent_map.proofs.extents.Extents.free_from.Goals as goal

pub overflow_add-result : goal.overflow_add-result
overflow_add-result c =
    let items = c.self.inside.items.items in
    let some : 0 < c.args.place = search rules in
    let inside = subst (λ (t : Taken). c.args.place ≤ length t.extents) (sym c.self.view_is) c.requires in
    let upto = end_upto c.self.inside.pages 192 (c.args.place - 1) items c.index.result.now c.self.invariant.1 (omega (arith, some, inside)) in
    let end = ap end_of c.index.ensures in
    record { fits = omega (arith, upto, end, c.self.invariant.0) }

pub returns : goal.returns
returns c =
    let items = c.self.inside.items.items in
    let some : 0 < c.args.place = search rules in
    let inside = subst (λ (t : Taken). c.args.place ≤ length t.extents) (sym c.self.view_is) c.requires in
    let last : suc (c.args.place - 1) ≡ c.args.place = omega (arith, some) in
    let end = behind_last 192 (c.args.place - 1) items c.index.result.now (omega (arith, some, inside)) in
    ap end_of c.index.ensures ∙ sym end ∙ ap (end_before 192 items) last ∙ ap (λ (t : Taken). end_before 192 t.extents c.args.place) c.self.view_is
