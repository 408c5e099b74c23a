use Rattle.std.proofs.Common.{[], ◌∷◌, ◌++◌, ◌+◌, inl, ap, ◌∙◌}
use Rattle.std.specs.Prelude.{Ok, Err}
use Rattle.disk_trait.specs.declared.fault.DiskFault.{DiskFault}
use Rattle.disk_trait.specs.Image.{Image, overwritten}
use Rattle.disk_trait.proofs.Calls.{through, leads_then, leads_stop, on_ok_one}
use Rattle.disk_trait.proofs.Images.{written_in_front}
use Rattle.log_model.specs.Area.{LogIs, WithOrWithout}
use Rattle.log_model.proofs.Appended.{Staged, stays, staged, without, opening, opened}
use Rattle.gate_log.proofs.log.write_record.Goals as goal

pub returns-in_err-write_through-clause-crash : goal.returns-in_err-write_through-clause-crash
returns-in_err-write_through-clause-crash g c area changes change tells next =
    let gate = c.args.gate in let bytes = c.args.bytes.now in
    leads_stop {T = Unit {0}} (LogIs area changes) (LogIs area changes) (Staged area changes change) (WithOrWithout area changes change) (LogIs area (changes ++ change ∷ [])) _ c.from_residual.result _ _ (λ f log. inl log) c.from_residual.ensures.0
    (through (LogIs area changes) (LogIs area changes) (Staged area changes change) (gate + 1) bytes (Err c.in_err-write_through.field-0.0) _ _
    (g.met.D.Disk.current c.args.disk.now tells) c.in_err-write_through.ensures.moves (c.in_err-write_through.ensures.written tells) c.in_err-write_through.ensures.durable
    (λ f log. log) (stays area changes change bytes next.bytes_are gate next.here) (staged area changes change bytes next.bytes_are gate next.here))

pub returns-clause-crash : goal.returns-clause-crash
returns-clause-crash g c area changes change tells next =
    let gate = c.args.gate in let bytes = c.args.bytes.now in
    leads_then {E = DiskFault} (LogIs area changes) (LogIs area changes) (Staged area changes change) (WithOrWithout area changes change) (LogIs area (changes ++ change ∷ [])) _ c.write_through-2.result _ _ _ (λ f log. inl log)
    (through (LogIs area changes) (LogIs area changes) (Staged area changes change) (gate + 1) bytes (Ok c.in_ok-write_through.field-0) _ _
    (g.met.D.Disk.current c.args.disk.now tells) c.in_ok-write_through.ensures.moves (c.in_ok-write_through.ensures.written tells) c.in_ok-write_through.ensures.durable
    (λ f log. log) (stays area changes change bytes next.bytes_are gate next.here) (staged area changes change bytes next.bytes_are gate next.here))
    (through (Staged area changes change) (WithOrWithout area changes change) (LogIs area (changes ++ change ∷ [])) gate (1 ∷ []) c.write_through-2.result _ _
    (g.met.D.Disk.current _ tells) c.write_through-2.ensures.moves (c.write_through-2.ensures.written tells) c.write_through-2.ensures.durable
    (without area changes change bytes next.bytes_are gate next.here) (opening area changes change bytes next.bytes_are gate next.here next.sound next.room) (opened area changes change bytes next.bytes_are gate next.here next.sound next.room))

pub returns-clause-held : goal.returns-clause-held
returns-clause-held g c tells =
    let gate = c.args.gate in let bytes = c.args.bytes.now in
    on_ok_one _ _ c.write_through-2.result
    (λ last. last ∙ ap (λ (f : Image). overwritten f gate (1 ∷ [])) (c.in_ok-write_through.ensures.written tells) ∙ written_in_front _ gate 1 bytes)
    (c.write_through-2.ensures.written tells)
