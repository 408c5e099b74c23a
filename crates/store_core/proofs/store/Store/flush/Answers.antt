use Rattle.std.proofs.Common.{◌∙◌, refl, sym, ap}
use Rattle.line_model.specs.Requests as request
use Rattle.state_model.specs.Changes.{flushed}
use Rattle.table_model.specs.Tables.{filter_bytes_of}
use Rattle.store_core.specs.Framing.{IsInUse}
use Rattle.store_core.specs.StoreValue.{StoreValue}
use Rattle.store_core.proofs.Framing.{leaves_none}
use Rattle.store_core.proofs.Answering.{is_left, is_made, on_err, wrote_answers}
use Rattle.store_core.proofs.Writing.{never}
use Rattle.store_core.proofs.store.Store.flush.Goals as goal

pub returns-clause-answered : goal.returns-clause-answered
returns-clause-answered g c s tells runs tied =
    let spelling = g.F.RangeFilter.spelling in
    let bytes = filter_bytes_of g.F.RangeFilter.spelling g.F.RangeFilter.built_cutoff in
    let old = g.D.Disk.world c.args.disk.now in
    wrote_answers spelling bytes s request.Flush old (g.D.Disk.world c.flush_memory.new.disk) (flushed bytes s) c.flush_memory.result c.flush_memory.new.self refl refl refl
    (λ failed none. on_err _ c.flush_memory.result c.flush_memory.ensures.some failed (tied.memory ∙ none))
    (λ failed to made. ((λ none. on_err _ c.flush_memory.result c.flush_memory.ensures.some failed (tied.memory ∙ none)), is_made (flushed bytes s) to made))
    (is_left spelling bytes c.args.self.now s old tied) c.flush_memory.ensures.stopped c.flush_memory.ensures.refused (c.flush_memory.ensures.wrote s tells tied)

pub returns-then-self-clause-nothing : goal.returns-then-self-clause-nothing
returns-then-self-clause-nothing g c runs none = absurd (never c.args.self.now.stopped (sym (ap (λ (k : StoreValue). k.stopped) c.self.view_is) ∙ c.if-self.true) runs)

pub returns-clause-nothing : goal.returns-clause-nothing
returns-clause-nothing g c runs none = c.flush_memory.ensures.nothing none

pub returns-clause-due : goal.returns-clause-due
returns-clause-due g c = c.flush_memory.ensures.due

pub returns-clause-allowed : goal.returns-clause-allowed
returns-clause-allowed g c = c.flush_memory.ensures.allowed

pub returns-then-self-clause-frame : goal.returns-then-self-clause-frame
returns-then-self-clause-frame g c = leaves_none (IsInUse c.args.self.now.manifest 262144) (g.D.Disk.world c.args.disk.now)

pub returns-clause-frame : goal.returns-clause-frame
returns-clause-frame g c = c.flush_memory.ensures.frame
