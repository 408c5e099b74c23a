use Rattle.std.proofs.Common.{◌≡◌, ◌*◌, ap, subst, ℕ}
use Rattle.std.specs.Prelude.{IsTrue}
use Rattle.block_model.specs.Pages.{page_bytes}
use Rattle.line_model.specs.Requests.{Request, request_of}
use Rattle.lines_in.proofs.Readings.{end_cause_of}
use Rattle.lines_in.proofs.Texts.{request_held}
use Rattle.surf_run.specs.Causes.{RunShows}
use Rattle.surf_run.specs.Kind.{filter_kind}
use Rattle.surf_run.specs.Slices.{EndsServed}
use Rattle.surf_run.proofs.EndCauses.{cause_runs}
use Rattle.surf_run.proofs.Progress.{line_end}
use Rattle.surf_run.proofs.lines.StoreLinesLineReader.read_line.Goals as goal

pub returns-clause-read : goal.returns-clause-read
returns-clause-read g c start first lines whole tells output held served =
    let kind = filter_kind g.F.RangeFilter.spelling g.F.RangeFilter.built_cutoff in
    let a = g.W.Disk.world c.args.out.now in
    let b = g.W.Disk.world c.answer.new.out in
    line_end kind start.0 start.1 lines c.args.self.now.store (g.W.Disk.world first) a served whole b c.answer.ensures.moves.counts c.answer.result c.answer.new.store (g.met.W.Outside.said_now c.answer.new.out)
    (subst (λ (k : Request). EndsServed kind c.answer.result served.now k c.answer.new.store a b) (request_held whole c.args.line.now held) (c.answer.ensures.served served.now tells output served.tied))

pub returns-clause-cause : goal.returns-clause-cause
returns-clause-cause g c =
    let told = IsTrue g.W.Disk.tells × IsTrue g.W.Outside.tells_output in
    let a = g.W.Disk.world c.args.out.now in
    let b = g.W.Disk.world c.answer.new.out in
    end_cause_of (RunShows told) c.answer.result a b (cause_runs told c.args.self.now.store.tables c.answer.new.store.tables (request_of c.args.line.now) c.answer.result a b c.answer.ensures.cause)

pub returns-clause-reach : goal.returns-clause-reach
returns-clause-reach g c = ap (λ (n : ℕ). page_bytes * n) c.answer.ensures.within.pages
