use Rattle.std.proofs.Common.{rules, ◌+◌, ◌-◌, ℕ, arith, ap}
use Rattle.std.proofs.lemmas.Grind.{common_steps}
use Rattle.filter_model.specs.Trie.{height}
use Rattle.filter_trie.proofs.LevelSums.{sums_grow}
use Rattle.filter_trie.specs.LevelStarts.{slots_down}
use Rattle.filter_trie.specs.Places.{trie}
use Rattle.filter_trie.proofs.trie.Trie.sums_of.Goals as goal

pub loop-node-preserved : goal.loop-node-preserved
loop-node-preserved g c =
    let sum = slots_down (trie c.args.self.now) (height c.args.self.now.leaves - c.args.level.number) in (
      grind (arith, common_steps),
      search rules,
      grind (arith, common_steps, c.in-Some.ensures),
      grind (arith, common_steps),
      search rules,
      rw c.push.ensures (λ p set.
          sums_grow sum c.push_gap.new.bits.bits c.args.level.first (sum c.args.level.first) c.loop-node.node p
          (λ q is.
          let was = c.push_gap.ensures.places q is in
          omega (arith, c.loop-node.invariant.5 q was.0, was.1, ap (λ (r : ℕ). sum (c.args.level.first + r)) was.1))
          (omega (arith, c.loop-node.invariant.2, c.push_gap.ensures.length, c.push_gap.ensures.ones, c.in-Some.ensures))
          (omega (arith, c.loop-node.invariant.0, c.push_gap.ensures.ones))
          set),
    )
