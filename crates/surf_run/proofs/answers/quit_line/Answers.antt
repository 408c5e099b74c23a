use Rattle.std.proofs.Common.{◌*◌, refl, arith}
use Rattle.block_model.specs.Pages.{page_bytes}
use Rattle.disk_trait.proofs.Calls.{reads_none}
use Rattle.line_model.specs.Requests.{Quit}
use Rattle.lines_in.specs.declared.line_end.LineEnd.TheVariants.{Quit as EndQuit}
use Rattle.lines_in.proofs.EndCauses.{line_say, no_fall_none}
use Rattle.lines_in.proofs.Footprint.{within_none}
use Rattle.store_core.specs.Answers.{HasCause}
use Rattle.surf_run.specs.Kind.{filter_kind}
use Rattle.surf_run.proofs.Calms.{quit_step, runs_any, said_cause, still_quit}
use Rattle.surf_run.proofs.Footprint.{pages_none, pages_say}
use Rattle.surf_run.proofs.Moments.{tied_stands}
use Rattle.surf_run.proofs.answers.quit_line.Goals as goal

pub returns : goal.returns
returns g c = record {
  answered = λ s tells output tied.
      let kind = (filter_kind g.F.RangeFilter.spelling g.F.RangeFilter.built_cutoff) in
      let a = g.W.Disk.world c.args.out.now in
      still_quit kind s Quit c.args.store.now a a (g.W.Disk.world c.say_reply.new.out) refl (reads_none 0 a).time tied (tied_stands kind c.args.store.now s a c.consistency_law.ensures.slot tied) (λ _. omega arith)
      (within_none (page_bytes * s.pages) a) (g.met.W.Outside.said_now c.args.out.now) (g.met.W.Outside.said_now c.args.out.now) c.say_reply.ensures.moves
      c.say_reply.result (quit_step (HasCause a a) kind.filter_bytes s) (c.say_reply.ensures.says output tt);
  running =
      runs_any c.say_reply.result c.args.store.now.stopped c.requires.running;
  cause =
      said_cause c.say_reply.result EndQuit (g.W.Disk.world c.args.out.now) (g.W.Disk.world c.args.out.now) (g.W.Disk.world c.say_reply.new.out) c.say_reply.ensures.cause _ tt (no_fall_none (g.W.Disk.world c.args.out.now));
  moves =
      line_say (g.W.Disk.world c.args.out.now) (g.W.Disk.world c.say_reply.new.out) c.say_reply.ensures.moves;
  within =
      let a = g.W.Disk.world c.args.out.now in
      pages_say c.args.store.now c.args.store.now a a (g.W.Disk.world c.say_reply.new.out) (pages_none c.args.store.now a) c.say_reply.ensures.moves;
}
