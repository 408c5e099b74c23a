use Rattle.std.proofs.Common.{arith, ℕ, sym, ◌∙◌}
use Rattle.filter_model.specs.Answers.{meets}
use Rattle.std.proofs.lemmas.Bool.{cond-true, cond-false}
use Rattle.filter_api.specs.Seen.{seen}
use Rattle.plain_filter.proofs.Loops.{count-rest}
use Rattle.plain_filter.proofs.answers.count_meeting.Goals as goal
use Rattle.plain_filter.proofs.answers.count_meeting.Goals.{then-leaf_meets, else-leaf_meets}

pub loop-i-preserved : goal.loop-i-preserved
loop-i-preserved c =
    let x = seen c.get.result.now in
    let test = meets c.args.real_bits c.args.lo.now c.args.hi.now in
    let rest = count-rest test c.args.leaves.now c.loop-i.i x c.get.ensures in
    elim c.if-leaf_meets.branch [
      | then-leaf_meets w ↦
          let one = cond-true {A = ℕ} (test x) 1 0 (sym c.leaf_meets.ensures ∙ w.if-leaf_meets.true) in
          (omega (arith, rest, one, c.loop-i.invariant.0, w.count-is), omega (arith, c.loop-i.invariant.1, w.count-is))
      | else-leaf_meets w ↦
          let none = cond-false {A = ℕ} (test x) 1 0 (sym c.leaf_meets.ensures ∙ w.if-leaf_meets.false) in
          (omega (arith, rest, none, c.loop-i.invariant.0, w.count-is), omega (arith, c.loop-i.invariant.1, w.count-is))
    ]
