use Rattle.std.proofs.Common.{◌++◌, ◌+◌, ◌∙◌, ℕ, List, ap, arith, drop}
use Rattle.map_writer.specs.Orders.{ended_on}
use Rattle.map_writer.proofs.Orders.{ends_elsewhere, ends_here, numbers}
use Rattle.trie_levels.specs.declared.spans.Span.{Span}
use Rattle.map_writer.proofs.order.add_ended.Goals.{then-span-level+in_ok-push, else-span-level}
use Rattle.map_writer.proofs.order.add_ended.Goals as goal

abbrev no_span : Span
no_span = record { leaf = 0; closes = 0; len = 0 }

pub loop-i-preserved : goal.loop-i-preserved
loop-i-preserved c =
    let total = c.args.order.now.items ++ numbers (ended_on c.args.level c.args.spans.now) in
    elim c.if-span-level.branch [
      | then-span-level+in_ok-push w ↦
          let pushed = ap (λ v. v.items) w.order-is ∙ w.in_ok-push.ensures.items in
          ap (λ (xs : List ℕ). xs ++ numbers (ended_on c.args.level (drop (c.loop-i.i + 1) c.args.spans.now))) pushed
          ∙ ends_here c.args.level c.args.spans.now c.loop-i.i no_span c.loop-i.order.items total (omega arith) (omega (arith, w.if-span-level.true)) c.loop-i.invariant
      | else-span-level w ↦
          ap (λ v. v.items ++ numbers (ended_on c.args.level (drop (c.loop-i.i + 1) c.args.spans.now))) w.order-is
          ∙ ends_elsewhere c.args.level c.args.spans.now c.loop-i.i no_span c.loop-i.order.items total (omega arith) (λ e. w.if-span-level.false (omega (arith, e))) c.loop-i.invariant
    ]
