use Rattle.std.proofs.Common.{◌≡◌, ℕ, ◌+◌, ◌-◌, ◌≤◌, ◌==◌, Bool, true, false, cond, get_or, nat_lt, refl, ap, ◌∙◌, arith}
use Rattle.std.specs.Prelude.{◌&&◌}
use Rattle.filter_model.specs.Image.{has_letter}
use Rattle.filter_model.specs.Trie.{END}
use Rattle.trie_model.specs.Halves.{begin_of, node_at}
use mir.Val.{bool_byte}
use Rattle.louds_sparse.proofs.Spelled.{end_opens}
use Rattle.louds_sparse.specs.Spelling.{IsSpelled}
use Rattle.louds_sparse.proofs.sparse.Sparse.bytes_of.Goals as goal

bool_is : (b : Bool) → bool_byte b ≡ cond b 1 0
bool_is true = refl
bool_is false = refl

at_most : (b : Bool) → bool_byte b ≤ 1
at_most true = omega arith
at_most false = omega arith

pub returns : goal.returns
returns g c =
    let s : IsSpelled c.self.inside.before c.self.inside.labels.items c.self.inside.has_child c.self.inside.louds c.args.self.now = rw c.self.view_is at c.self.invariant in
    let e = c.labels_of-from.ensures in
    let opens : c.opens_with_end.result ≡ has_letter (node_at c.args.self.now c.args.node) END =
    c.opens_with_end.ensures ∙ (λ i. nat_lt 1 (e.to i - e.from i) && (get_or (c.deref.ensures.value i) (e.from i) 0 == 255)) ∙ end_opens s c.args.node c.requires in
    let start : c.labels_of-from.result.0 + c.from.result ≡ begin_of c.args.self.now c.args.node + cond (has_letter (node_at c.args.self.now c.args.node) END) 1 0 =
    (λ i. e.from i + (c.from.ensures ∙ bool_is c.opens_with_end.result ∙ ap (λ (b : Bool). cond {A = ℕ} b 1 0) opens) i) in
    record {
      from = start;
      to = e.to;
      order = omega (arith, c.from.ensures, at_most c.opens_with_end.result, e.order);
      within = e.within;
    }
