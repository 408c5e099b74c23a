use Rattle.std.proofs.Common.{rules, ◌≡◌, ◌⊎◌, ◌∙◌, ◌+◌, ℕ, inl, inr, true, false, refl, sym, ap, arith}
use Rattle.std.specs.Prelude.{IsTrue}
use Rattle.entry_model.specs.Entries.{entry_of}
use Rattle.lines_in.proofs.EndCauses.{lines_none, lines_on}
use Rattle.load_gen.proofs.Steps.{number_more}
use Rattle.load_gen.specs.Generator.{next_number, step_of}
use Rattle.surf_run.specs.Kind.{filter_kind}
use Rattle.surf_run.proofs.Footprint.{pages_none, pages_on}
use Rattle.surf_run.proofs.LoadEnds.{load_cut, one_more, step_cause_since}
use Rattle.surf_run.proofs.loading.make_steps.Goals as goal
use Rattle.surf_run.proofs.loading.make_steps.Goals.{then-not-branch, else-not-branch}

pub loop-init : goal.loop-init
loop-init g c = record {
  number = c.new-steps.ensures;
  made = λ start first tells output so_far. so_far;
  running = c.requires.running;
  few = omega arith;
  silent = refl;
  moves = lines_none (g.W.Disk.world c.args.out.now);
  within = pages_none c.args.store.now (g.W.Disk.world c.args.out.now);
}

pub make_step-requires : goal.make_step-requires
make_step-requires g c = record { running = c.loop.invariant.running }

-- the run ends in a step

pub returns-in_err-make_step-clause-made : goal.returns-in_err-make_step-clause-made
returns-in_err-make_step-clause-made g c start first tells output so_far =
    let kind = filter_kind g.F.RangeFilter.spelling g.F.RangeFilter.built_cutoff in
    let far = c.loop.invariant.made start first tells output so_far in
    let is = c.next.ensures.step ∙ ap (λ (x : ℕ). step_of (next_number x)) c.loop.invariant.number in
    let here = load_cut kind start c.args.load.seed c.loop.counter c.loop.refused c.loop.store (g.W.Disk.world first) (g.W.Disk.world c.loop.out) far (entry_of c.next.result.key c.next.result.value) is
    (g.W.Disk.world c.make_step.new.out) c.make_step.ensures.moves.counts _ c.args.load.count c.in_err-make_step.field-0.0 (omega arith)
    (c.in_err-make_step.ensures.made far.now tells output far.tied) c.make_step.ensures.moves.input in
    search rules

pub returns-in_err-make_step-clause-cause : goal.returns-in_err-make_step-clause-cause
returns-in_err-make_step-clause-cause g c =
    let here = step_cause_since (IsTrue g.W.Disk.tells) c.in_err-make_step.field-0.0 (g.W.Disk.world c.args.out.now) (g.W.Disk.world c.loop.out) (g.W.Disk.world c.make_step.new.out) c.loop.invariant.moves.counts c.loop.invariant.silent
    c.in_err-make_step.ensures.cause in
    search rules

pub returns-in_err-make_step-clause-moves : goal.returns-in_err-make_step-clause-moves
returns-in_err-make_step-clause-moves g c = lines_on (g.W.Disk.world c.args.out.now) (g.W.Disk.world c.loop.out) (g.W.Disk.world c.make_step.new.out) c.loop.invariant.moves c.make_step.ensures.moves

pub returns-in_err-make_step-clause-within : goal.returns-in_err-make_step-clause-within
returns-in_err-make_step-clause-within g c = pages_on c.args.store.now c.loop.store c.make_step.new.store _ _ _ c.loop.invariant.within c.make_step.ensures.within

-- a step more

pub overflow_add-refused : goal.overflow_add-refused
overflow_add-refused g c = omega (arith, c.loop.invariant.few)

pub loop-preserved : goal.loop-preserved
loop-preserved g c =
    let kind = filter_kind g.F.RangeFilter.spelling g.F.RangeFilter.built_cutoff in
    let done = c.in_ok-make_step.field-0 in
    let others = c.if-not-branch.refused in
    let counted : ((done ≡ false) × (others ≡ c.loop.refused + 1)) ⊎ ((done ≡ true) × (others ≡ c.loop.refused)) =
    elim c.if-not-branch.branch [ then-not-branch over ↦ inl (over.if-not-branch.true, over.refused-is) | else-not-branch all ↦ inr (all.if-not-branch.false, all.refused-is) ] in
    record {
      number = c.next.ensures.number ∙ ap next_number c.loop.invariant.number ∙ sym (number_more c.args.load.seed c.loop.counter);
      made = λ start first tells output so_far.
          let far = c.loop.invariant.made start first tells output so_far in
          let is = c.next.ensures.step ∙ ap (λ (x : ℕ). step_of (next_number x)) c.loop.invariant.number in
          one_more kind start c.args.load.seed c.loop.counter c.loop.refused c.loop.store (g.W.Disk.world first) (g.W.Disk.world c.loop.out) far (entry_of c.next.result.key c.next.result.value) is
          (g.W.Disk.world c.make_step.new.out) c.make_step.ensures.moves.counts c.make_step.new.store c.in_ok-make_step.ensures.silent done others (c.in_ok-make_step.ensures.made far.now tells output far.tied) counted;
      running = c.in_ok-make_step.ensures.running;
      few = elim counted [ inl over ↦ omega (arith, over.1, c.loop.invariant.few) | inr all ↦ omega (arith, all.1, c.loop.invariant.few) ];
      silent = c.in_ok-make_step.ensures.silent ∙ c.loop.invariant.silent;
      moves = lines_on (g.W.Disk.world c.args.out.now) (g.W.Disk.world c.loop.out) (g.W.Disk.world c.make_step.new.out) c.loop.invariant.moves c.make_step.ensures.moves;
      within = pages_on c.args.store.now c.loop.store c.make_step.new.store _ _ _ c.loop.invariant.within c.make_step.ensures.within;
    }
