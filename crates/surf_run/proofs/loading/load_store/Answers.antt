use Rattle.std.proofs.Common.{inl, inr}
use Rattle.std.specs.Prelude.{IsTrue}
use Rattle.lines_in.proofs.EndCauses.{causes_on, lines_on}
use Rattle.surf_run.proofs.Footprint.{pages_then}
use Rattle.surf_run.proofs.LoadEnds.{step_causes, step_shown}
use Rattle.surf_run.proofs.loading.load_store.Goals as goal

pub returns-in-Ok-clause-ends : goal.returns-in-Ok-clause-ends
returns-in-Ok-clause-ends g c start first tells output so_far = c.end_load.ensures.ends start c.args.load.seed first tells output (c.in-Ok.ensures.made start first tells output so_far)

pub returns-in-Ok-clause-shown : goal.returns-in-Ok-clause-shown
returns-in-Ok-clause-shown g c tells output five = inl (c.end_load.ensures.shown tells output five)

pub returns-in-Ok-clause-causes : goal.returns-in-Ok-clause-causes
returns-in-Ok-clause-causes g c =
    causes_on c.end_load.result (g.W.Disk.world c.args.out.now) (g.W.Disk.world c.make_steps.new.out) (g.W.Disk.world c.end_load.new.out) c.make_steps.ensures.moves.counts c.end_load.ensures.causes

pub returns-in-Ok-clause-moves : goal.returns-in-Ok-clause-moves
returns-in-Ok-clause-moves g c = lines_on (g.W.Disk.world c.args.out.now) (g.W.Disk.world c.make_steps.new.out) (g.W.Disk.world c.end_load.new.out) c.make_steps.ensures.moves c.end_load.ensures.moves

pub returns-clause-shown : goal.returns-clause-shown
returns-clause-shown g c tells output five = inr (
  tt,
  step_shown (IsTrue g.W.Disk.tells) c.in-Err.status (g.W.Disk.world c.args.out.now) (g.W.Disk.world c.make_steps.new.out) c.in-Err.ensures.cause tells five,
)

pub returns-clause-causes : goal.returns-clause-causes
returns-clause-causes g c = step_causes (IsTrue g.W.Disk.tells) c.in-Err.status (g.W.Disk.world c.args.out.now) (g.W.Disk.world c.make_steps.new.out) c.in-Err.ensures.cause

-- ---- where it writes

pub returns-in-Ok-clause-within : goal.returns-in-Ok-clause-within
returns-in-Ok-clause-within g c =
    pages_then c.args.store c.make_steps.new.store (g.W.Disk.world c.args.out.now) (g.W.Disk.world c.make_steps.new.out) (g.W.Disk.world c.end_load.new.out) c.make_steps.ensures.within c.end_load.ensures.within

pub returns-clause-within : goal.returns-clause-within
returns-clause-within g c = c.make_steps.ensures.within.within
