use Rattle.std.proofs.Common.{◌≤◌, ℕ, List, ◌∙◌, ◌∷◌, length, take, get_or, ap, arith}
use Rattle.key_base.proofs.KeyLists.{fewer_ends_stand, fewer_keys, how_many}
use Rattle.key_base.proofs.key_list.KeyList.truncate.Goals as goal

pub end_of-end-requires : goal.end_of-end-requires
end_of-end-requires c =
    let t = c.self.inside in
    omega (arith, c.requires, how_many 0 t.ends.items t.bytes.items, ap length c.self.view_is, ap length c.as_slice.ensures.value)

pub invariant_of-self : goal.invariant_of-self
invariant_of-self c =
    let t = c.self.inside in
    let some : c.args.n ≤ length t.ends.items = omega (arith, c.requires, how_many 0 t.ends.items t.bytes.items, ap length c.self.view_is) in
    let end_is = c.end_of-end.ensures ∙ ap (λ (l : List ℕ). get_or (0 ∷ l) c.args.n 0) c.as_slice.ensures.value in
    fewer_ends_stand t.ends.items t.bytes.items c.truncate.new.self.items c.truncate-2.new.self.items c.args.n c.end_of-end.result c.self.invariant some end_is
    c.truncate.ensures.items c.truncate-2.ensures.items

pub returns : goal.returns
returns c =
    let t = c.self.inside in
    let some : c.args.n ≤ length t.ends.items = omega (arith, c.requires, how_many 0 t.ends.items t.bytes.items, ap length c.self.view_is) in
    let end_is = c.end_of-end.ensures ∙ ap (λ (l : List ℕ). get_or (0 ∷ l) c.args.n 0) c.as_slice.ensures.value in
    fewer_keys t.ends.items t.bytes.items c.truncate.new.self.items c.truncate-2.new.self.items c.args.n c.end_of-end.result c.self.invariant some end_is
    c.truncate.ensures.items c.truncate-2.ensures.items
    ∙ ap (take c.args.n) c.self.view_is
