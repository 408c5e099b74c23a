use Rattle.std.proofs.Common.{◌≡◌, ◌++◌, ◌+◌, ◌∙◌, ℕ, ap, add-one, arith, sym}
use Rattle.std.proofs.lemmas.List.{map-append}
use Rattle.map_writer.specs.Orders.{ended_by, ended_on}
use Rattle.map_writer.proofs.Orders.{numbers, still_ends}
use Rattle.trie_levels.specs.declared.spans.Span.{Span}
use Rattle.map_writer.proofs.order.slot_order.Goals as goal

pub loop-level-preserved : goal.loop-level-preserved
loop-level-preserved c =
    let n = c.loop-level.level in
    let spans = c.args.spans.now in
    let left : c.as_slice.result.now ≡ c.loop-level.left.items = c.as_slice.ensures.value in (
      c.in_ok-add_ended.ensures
          ∙ (λ i. c.loop-level.invariant.0 i ++ numbers ((ap (ended_on n) left ∙ c.loop-level.invariant.1 n (omega arith)) i))
          ∙ sym (map-append (λ (s : Span). s.leaf) (ended_by n spans) (ended_on n spans))
          ∙ ap (λ (k : ℕ). numbers (ended_by k spans)) (sym (add-one n)),
      λ k after. ap (ended_on k) c.pass.ensures ∙ still_ends (n + 1) k c.loop-level.left.items after ∙ c.loop-level.invariant.1 k (omega (arith, after)),
    )
