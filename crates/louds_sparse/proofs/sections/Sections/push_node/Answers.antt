use Rattle.std.proofs.Common.{◌<◌, ◌∙◌, Bool, List, ap, subst, sym, []}
use Rattle.std.specs.List.{All}
use Rattle.std.proofs.lemmas.List.{take_all}
use Rattle.std.proofs.lemmas.List.Elements.{All-nil}
use Rattle.louds_sparse.specs.Building.{with_branch, with_branches}
use Rattle.trie_model.specs.Given.{node_given}
use Rattle.louds_sparse.proofs.Built.{branch_added, bytes_more, end_added, first_at_start, none_added, not_first, room_left}
use Rattle.trie_model.specs.declared.parts.Branch.{Branch}
use Rattle.louds_sparse.proofs.sections.Sections.push_node.Goals as goal
use Rattle.louds_sparse.proofs.sections.Sections.push_node.Goals.{then-end, else-end}

pub loop-i-init : goal.loop-i-init
loop-i-init g c = elim c.if-end.branch [
  | then-end w ↦ (
    w.self-is ∙ w.push.ensures.added ∙ end_added c.args.self.now ∙ ap (λ (e : Bool). with_branches (node_given e []) c.args.self.now) (sym w.if-end.true),
    first_at_start c.args.end,
    All-nil (λ (b : Branch). b.byte < 256),
  )
  | else-end w ↦ (
    w.self-is ∙ none_added c.args.self.now ∙ ap (λ (e : Bool). with_branches (node_given e []) c.args.self.now) (sym w.if-end.false),
    first_at_start c.args.end,
    All-nil (λ (b : Branch). b.byte < 256),
  )
]

pub push-requires-in-loop-i : goal.push-requires-in-loop-i
push-requires-in-loop-i g c = room_left c.args.end c.args.branches.now c.loop-i.i c.args.self.now c.loop-i.self c.loop-i-test.true c.requires c.loop-i.invariant.0

pub loop-i-preserved : goal.loop-i-preserved
loop-i-preserved g c =
    let bs = c.args.branches.now in
    let small = c.push-in-loop-i.ensures.byte in (
      c.push-in-loop-i.ensures.added ∙ ap (with_branch _ _ c.loop-i.first) c.loop-i.invariant.0 ∙ branch_added c.args.end bs c.loop-i.i _ c.loop-i.first c.args.self.now c.loop-i-test.true small c.loop-i.invariant.1,
      not_first c.args.end bs c.loop-i.i c.loop-i-test.true,
      bytes_more bs c.loop-i.i _ c.loop-i-test.true small c.loop-i.invariant.2,
    )

pub returns : goal.returns
returns g c =
    let bs = c.args.branches.now in
    let whole = take_all c.loop-i.i bs c.loop-i-test.false in
    record {
      added = c.loop-i.invariant.0 ∙ ap (λ (cs : List Branch). with_branches (node_given c.args.end cs) c.args.self.now) whole;
      bytes = subst (All (λ (b : Branch). b.byte < 256)) whole c.loop-i.invariant.2;
    }
