use Rattle.std.proofs.Common.{◌≡◌, ◌≤◌, false}
use Rattle.std.specs.Prelude.{IsTrue}
use Rattle.lines_in.specs.Causes.{LineMoves}
use Rattle.load_gen.specs.Generator.{number_after}
use Rattle.state_model.specs.State.{State}
use Rattle.surf_run.specs.Causes.{WithinPages}
use Rattle.surf_run.specs.Kind.{filter_kind}
use Rattle.surf_run.specs.Loading.{LoadInvariant}
use Rattle.surf_run.proofs.loading.make_steps.Given as goal

-- a given number of steps were made, and nothing was said
abbrev pub invariant-loop : goal.invariant-loop
invariant-loop g l = record {
  number : l.steps ≡ number_after l.fn.load.seed l.counter;
  made :
      (start : State) (first : g.row.W.Denot) → IsTrue g.W.Disk.tells → IsTrue g.W.Outside.tells_output
      → LoadInvariant (filter_kind g.F.RangeFilter.spelling g.F.RangeFilter.built_cutoff) start l.fn.load.seed 0 0 l.fn.store (g.W.Disk.world first) (g.W.Disk.world l.fn.out)
      → LoadInvariant (filter_kind g.F.RangeFilter.spelling g.F.RangeFilter.built_cutoff) start l.fn.load.seed l.counter l.refused l.store (g.W.Disk.world first) (g.W.Disk.world l.out);
  running : l.store.stopped ≡ false;
  few : l.refused ≤ l.counter;
  silent : (g.W.Disk.world l.out).beside ≡ (g.W.Disk.world l.fn.out).beside;
  moves : LineMoves (g.W.Disk.world l.fn.out) (g.W.Disk.world l.out);
  within : WithinPages l.fn.store l.store (g.W.Disk.world l.fn.out) (g.W.Disk.world l.out);
}
