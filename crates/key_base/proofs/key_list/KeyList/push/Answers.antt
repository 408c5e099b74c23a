use Rattle.std.proofs.Common.{◌≡◌, ℕ, List, ◌∙◌, ◌++◌, ◌∷◌, [], length, ap, arith}
use Rattle.key_base.proofs.KeyLists.{pushed_ends, pushed_keys}
use Rattle.key_base.proofs.key_list.KeyList.push.Goals as goal

pub invariant_of-self-2 : goal.invariant_of-self-2
invariant_of-self-2 c =
    let t = c.self.inside in
    let long : c.len.result ≡ length c.extend_from_slice.new.self.items = omega (arith, c.len.ensures, c.extend_from_slice.new.self.ok.0) in
    let ends = c.push_reserved.ensures.items ∙ ap (λ (l : List ℕ). l ++ c.len.result ∷ []) c.in_ok-reserve.ensures.items in
    pushed_ends t.ends.items t.bytes.items c.args.key.now c.push_reserved.new.self.items c.extend_from_slice.new.self.items c.len.result c.self.invariant
    c.in_ok-extend_from_slice.ensures.items long ends

pub returns-clause-added : goal.returns-clause-added
returns-clause-added c =
    let t = c.self.inside in
    let long : c.len.result ≡ length c.extend_from_slice.new.self.items = omega (arith, c.len.ensures, c.extend_from_slice.new.self.ok.0) in
    let ends = c.push_reserved.ensures.items ∙ ap (λ (l : List ℕ). l ++ c.len.result ∷ []) c.in_ok-reserve.ensures.items in
    pushed_keys t.ends.items t.bytes.items c.args.key.now c.push_reserved.new.self.items c.extend_from_slice.new.self.items c.len.result c.self.invariant
    c.in_ok-extend_from_slice.ensures.items long ends
    ∙ ap (λ (keys : List (List ℕ)). keys ++ c.args.key.now ∷ []) c.self.view_is
