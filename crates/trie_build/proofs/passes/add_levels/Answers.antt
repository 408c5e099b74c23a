use Rattle.std.proofs.Common.{◌+◌, ◌∙◌, ℕ, ap, arith, refl}
use Rattle.trie_build.specs.Building.{half_to, spans_longer}
use Rattle.trie_build.proofs.Levels.{may_pass, paths_short}
use Rattle.trie_build.proofs.Whole.{longer_still}
use Rattle.trie_levels.specs.Gathering.{longer}
use Rattle.trie_levels.specs.Spans.{spans_of}
use Rattle.trie_model.specs.Halves.{Half}
use Rattle.trie_build.proofs.passes.add_levels.Goals as goal

pub loop-level-init : goal.loop-level-init
loop-level-init g c = (λ ls m. (ap (λ ns. record { before = (g.H.GrowingHalf.half c.args.half.now).before; nodes = ns }) m.nodes, m.spans_are), refl, omega arith)

pub add_level-requires : goal.add_level-requires
add_level-requires g c =
    let ls = c.requires.0 in
    let is = c.loop-level.invariant.0 ls c.requires.1 in (
      ls,
      may_pass c.args.keys.now ls c.args.from c.args.to c.loop-level.level (g.H.GrowingHalf.half c.args.half.now) (g.H.GrowingHalf.half c.loop-level.half) g.H.GrowingHalf.size (g.H.GrowingHalf.limit c.args.half.now) (g.H.GrowingHalf.limit c.loop-level.half) c.args.spans.now.items c.as_slice.result.now
          c.requires.1 c.loop-level.invariant.2 (omega arith) is.0 c.loop-level.invariant.1 (c.as_slice.ensures.value ∙ is.1),
    )

pub pass-requires : goal.pass-requires
pass-requires g c = omega (arith, paths_short c.requires.0 c.requires.1.cut.trie, c.requires.1.within)

pub loop-level-preserved : goal.loop-level-preserved
loop-level-preserved g c = (
  λ ls m. let is = c.loop-level.invariant.0 ls m in (
    c.in_ok-add_level.ensures.half ls
        (may_pass c.args.keys.now ls c.args.from c.args.to c.loop-level.level (g.H.GrowingHalf.half c.args.half.now) (g.H.GrowingHalf.half c.loop-level.half) g.H.GrowingHalf.size (g.H.GrowingHalf.limit c.args.half.now) (g.H.GrowingHalf.limit c.loop-level.half) c.args.spans.now.items c.as_slice.result.now
        m c.loop-level.invariant.2 (omega arith) is.0 c.loop-level.invariant.1 (c.as_slice.ensures.value ∙ is.1))
        ∙ ap (half_to ls (c.loop-level.level + 1)) (ap (λ (h : Half). h.before) is.0),
    c.pass.ensures ∙ ap (longer (c.loop-level.level + 1)) is.1 ∙ longer_still c.loop-level.level (spans_of ls),
  ),
  c.in_ok-add_level.ensures.limit ∙ c.loop-level.invariant.1,
  omega (arith, c.loop-level.invariant.2),
)

pub returns-clause-half : goal.returns-clause-half
returns-clause-half g c = λ ls m.
    (c.loop-level.invariant.0 ls m).0 ∙ ap (λ (n : ℕ). half_to ls n (g.H.GrowingHalf.half c.args.half.now).before) (omega (arith, c.loop-level-test.false, c.loop-level.auto.level-end m.order))

pub returns-clause-spans : goal.returns-clause-spans
returns-clause-spans g c = λ ls m.
    (c.loop-level.invariant.0 ls m).1 ∙ ap (spans_longer ls) (omega (arith, c.loop-level-test.false, c.loop-level.auto.level-end m.order))
