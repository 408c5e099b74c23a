use Rattle.std.proofs.Common.{◌≡◌, ◌-◌, ◌==◌, get_or, nat_lt, sym, ap, ◌∙◌}
use Rattle.std.specs.Prelude.{◌&&◌}
use Rattle.filter_model.specs.Image.{has_letter}
use Rattle.filter_model.specs.Trie.{END}
use Rattle.trie_model.specs.Halves.{node_at, slot_at}
use Rattle.louds_sparse.proofs.Searches.{end_none, end_some}
use Rattle.louds_sparse.proofs.Spelled.{end_opens}
use Rattle.louds_sparse.specs.Spelling.{IsSpelled}
use Rattle.louds_sparse.proofs.sparse.Sparse.prefix_slot.Goals as goal

pub returns-then-opens_with_end : goal.returns-then-opens_with_end
returns-then-opens_with_end g c =
    let s : IsSpelled c.self.inside.before c.self.inside.labels.items c.self.inside.has_child c.self.inside.louds c.args.self.now = rw c.self.view_is at c.self.invariant in
    let e = c.labels_of-from.ensures in
    let opens : c.opens_with_end.result ≡ has_letter (node_at c.args.self.now c.args.node) END =
    c.opens_with_end.ensures ∙ (λ i. nat_lt 1 (e.to i - e.from i) && (get_or (c.deref.ensures.value i) (e.from i) 0 == 255)) ∙ end_opens s c.args.node c.requires in
    end_some s c.args.node c.requires c.leaf_slot.result (c.leaf_slot.ensures ∙ ap (slot_at c.args.self.now) e.from) (sym opens ∙ c.if-opens_with_end.true)

pub returns-else-opens_with_end : goal.returns-else-opens_with_end
returns-else-opens_with_end g c =
    let s : IsSpelled c.self.inside.before c.self.inside.labels.items c.self.inside.has_child c.self.inside.louds c.args.self.now = rw c.self.view_is at c.self.invariant in
    let e = c.labels_of-from.ensures in
    let opens : c.opens_with_end.result ≡ has_letter (node_at c.args.self.now c.args.node) END =
    c.opens_with_end.ensures ∙ (λ i. nat_lt 1 (e.to i - e.from i) && (get_or (c.deref.ensures.value i) (e.from i) 0 == 255)) ∙ end_opens s c.args.node c.requires in
    end_none s c.args.node c.requires (sym opens ∙ c.if-opens_with_end.false)
