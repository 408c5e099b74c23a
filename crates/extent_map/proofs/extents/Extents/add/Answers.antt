use Rattle.std.proofs.Common.{◌≤◌, ◌∷◌, length, sym, subst}
use Rattle.std.specs.List.{AllByRecursion}
use Rattle.std.specs.List.Sorted.{IsPermutation}
use Rattle.std.proofs.lemmas.List.Sorted.{IsPermutation-insert}
use Rattle.extent_model.specs.Extents.{Extent, IsOnDevice, AreApart}
use Rattle.extent_map.specs.Taken.{Taken, RiseFrom}
use Rattle.extent_map.proofs.Order.{IsPlaceOf, with_one}
use Rattle.extent_map.proofs.extents.Extents.add.Goals as goal

pub invariant_of-self-2 : goal.invariant_of-self-2
invariant_of-self-2 c =
    let pages = c.self.inside.pages in
    let items = c.self.inside.items.items in
    let e : Extent = (c.args.first, c.args.pages) in
    let i = c.place_of-place.result in
    let here = subst (λ (t : Taken). (i ≤ length t.extents) × IsPlaceOf e.0 t.extents i) (sym c.self.view_is) (c.place_of-place.ensures.within, c.place_of-place.ensures.place) in
    let free = subst (λ (t : Taken). IsOnDevice t.pages e × AllByRecursion (AreApart e) t.extents) (sym c.self.view_is) (c.requires.on_device, c.requires.free) in
    let more = with_one pages 192 i items e here.0 c.self.invariant.1 here.1 free.0.from free.0.some free.0.to free.1 in
    (c.self.invariant.0, subst (RiseFrom pages 192) (sym c.in_ok-insert.ensures.items) more)

pub returns-clause-added : goal.returns-clause-added
returns-clause-added c =
    let e : Extent = (c.args.first, c.args.pages) in
    subst (λ (t : Taken). IsPermutation (e ∷ t.extents) c.insert.new.self.items) c.self.view_is
    (subst (IsPermutation (e ∷ c.self.inside.items.items)) (sym c.in_ok-insert.ensures.items) (IsPermutation-insert c.self.inside.items.items c.place_of-place.result e))
