use Rattle.std.proofs.Common.{rules, ◌≡◌, ◌<◌, ◌≤◌, length, get_or, ap, ◌∙◌, sym}
use Rattle.extent_model.specs.Extents.{Extent}
use Rattle.extent_map.specs.Taken.{Taken, first_at}
use Rattle.extent_map.proofs.Order.{first_there, none_there}
use Rattle.extent_map.proofs.extents.Extents.free_to.Goals as goal

pub returns-in-Some : goal.returns-in-Some
returns-in-Some c =
    let t = c.args.self.now in
    let xs = c.as_slice.result.now in
    let is : xs ≡ t.extents = c.as_slice.ensures.value ∙ ap (λ (t : Taken). t.extents) c.self.view_is in
    let inside : c.args.place < length xs = search rules in
    let item : c.in-Some.extent.now ≡ get_or xs c.args.place c.in-Some.extent.now = search rules in
    ap (λ (e : Extent). e.0) item ∙ sym (first_there t.pages c.args.place xs c.in-Some.extent.now inside) ∙ ap (λ ys. first_at t.pages ys c.args.place) is

pub returns-in-None : goal.returns-in-None
returns-in-None c =
    let t = c.args.self.now in
    let xs = c.as_slice.result.now in
    let is : xs ≡ t.extents = c.as_slice.ensures.value ∙ ap (λ (t : Taken). t.extents) c.self.view_is in
    let past : length xs ≤ c.args.place = search rules in
    ap (λ (t : Taken). t.pages) c.self.view_is ∙ sym (none_there t.pages c.args.place xs past) ∙ ap (λ ys. first_at t.pages ys c.args.place) is
