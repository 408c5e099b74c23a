use Rattle.std.proofs.Common.{◌∷◌, List, sym, subst, arith}
use Rattle.std.specs.List.{Contains}
use Rattle.std.specs.List.Sorted.{IsPermutation}
use Rattle.std.proofs.lemmas.List.Sorted.{IsPermutation-remove}
use Rattle.extent_model.specs.Extents.{Extent}
use Rattle.extent_map.specs.Taken.{Taken, RiseFrom}
use Rattle.extent_map.proofs.Order.{IsPlaceOf, without_one, stands_at}
use Rattle.extent_map.proofs.extents.Extents.remove.Goals as goal

pub remove-requires : goal.remove-requires
remove-requires c =
    let items = c.self.inside.items.items in
    let e : Extent = (c.args.first, c.args.pages) in
    let i = c.place_of-place.result in
    let here = subst (λ (t : Taken). IsPlaceOf e.0 t.extents i × Contains t.extents e) (sym c.self.view_is) (c.place_of-place.ensures.place, c.requires) in
    let at = stands_at c.self.inside.pages 192 i items e c.self.invariant.1 here.0 here.1 in
    omega (arith, at.0, c.self.inside.items.ok.0)

pub invariant_of-self : goal.invariant_of-self
invariant_of-self c =
    let pages = c.self.inside.pages in
    let items = c.self.inside.items.items in
    let e : Extent = (c.args.first, c.args.pages) in
    let i = c.place_of-place.result in
    let here = subst (λ (t : Taken). IsPlaceOf e.0 t.extents i × Contains t.extents e) (sym c.self.view_is) (c.place_of-place.ensures.place, c.requires) in
    let at = stands_at pages 192 i items e c.self.invariant.1 here.0 here.1 in
    (c.self.invariant.0, subst (RiseFrom pages 192) (sym c.remove.ensures.items) (without_one pages 192 i items at.0 c.self.invariant.1))

pub returns-clause-removed : goal.returns-clause-removed
returns-clause-removed c =
    let items = c.self.inside.items.items in
    let e : Extent = (c.args.first, c.args.pages) in
    let i = c.place_of-place.result in
    let here = subst (λ (t : Taken). IsPlaceOf e.0 t.extents i × Contains t.extents e) (sym c.self.view_is) (c.place_of-place.ensures.place, c.requires) in
    let at = stands_at c.self.inside.pages 192 i items e c.self.invariant.1 here.0 here.1 in
    subst (λ (t : Taken). IsPermutation t.extents (e ∷ c.remove.new.self.items)) c.self.view_is
    (subst (λ (rest : List Extent). IsPermutation items (e ∷ rest)) (sym c.remove.ensures.items) (IsPermutation-remove items i e at.0 at.1))
