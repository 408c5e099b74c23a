use Rattle.std.proofs.Common.{◌≡◌, ◌+◌, ◌∙◌, ap₂, subst, sym}
use Rattle.std.specs.Bool.{IsTrue}
use Rattle.std.specs.Prelude.{nat_le, ℕ}
use Rattle.std.specs.List.{AllByRecursion}
use Rattle.extent_model.specs.Extents.{Extent, IsOnDevice, AreApart}
use Rattle.extent_map.proofs.Order.{told, not_told}
use Rattle.extent_map.proofs.extents.Extents.is_free.Goals as goal

pub returns-then-free_from-first : goal.returns-then-free_from-first
returns-then-free_from-first c =
    let t = c.args.self.now in
    let e : Extent = (c.args.first, c.args.pages) in
    let here = c.place_of-place in
    let free = IsOnDevice t.pages e × AllByRecursion (AreApart e) t.extents in
    let end : c.from.result + c.from-2.result ≡ c.args.first + c.args.pages = ap₂ (λ (a b : ℕ). a + b) c.from.ensures c.from-2.ensures in
    subst (λ (n : ℕ). (IsTrue (nat_le n c.from-then-free_from-first.result) → free) × (free → IsTrue (nat_le n c.from-then-free_from-first.result))) (sym end)
    (told t here.result c.free_from.result c.from-then-free_from-first.result e here.ensures.rise here.ensures.place here.ensures.within c.requires c.free_from.ensures
    (c.from-then-free_from-first.ensures ∙ c.free_to.ensures) c.if-free_from-first.true)

pub returns-else-free_from-first : goal.returns-else-free_from-first
returns-else-free_from-first c =
    let here = c.place_of-place in
    not_told c.args.self.now here.result c.free_from.result (c.args.first, c.args.pages) here.ensures.rise here.ensures.place here.ensures.within c.requires c.free_from.ensures c.if-free_from-first.false
