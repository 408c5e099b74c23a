use Rattle.std.proofs.Common.{◌≡◌, ℕ, ◌∙◌, ◌==◌, length, ap, arith}
use Rattle.std.specs.Prelude.{vec_len}
use Rattle.key_base.proofs.KeyLists.{how_many}
use Rattle.key_base.proofs.key_list.KeyList.is_empty.Goals as goal

pub returns : goal.returns
returns c =
    let t = c.self.inside in
    let many : vec_len t.ends ≡ length c.args.self.now = omega (arith, t.ends.ok.0, how_many 0 t.ends.items t.bytes.items, ap length c.self.view_is) in
    c.is_empty.ensures ∙ ap (λ (n : ℕ). n == 0) many
