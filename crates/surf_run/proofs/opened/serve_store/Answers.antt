use Rattle.std.proofs.Common.{◌≡◌, ◌∙◌, inl, inr, refl, sym}
use Rattle.std.specs.Prelude.{IsTrue}
use Rattle.line_model.specs.Replies.{Memory, text_of}
use Rattle.lines_in.proofs.Footprint.{within_say}
use Rattle.lines_in.proofs.LastLines.{never_seven, said_reads, unserved}
use Rattle.lines_in.proofs.Readings.{read_none}
use Rattle.surf_run.specs.Causes.{RunShows}
use Rattle.surf_run.specs.Kind.{filter_kind}
use Rattle.surf_run.specs.Open.{IsFreeText}
use Rattle.surf_run.specs.Serving.{ServeInvariant}
use Rattle.surf_run.proofs.EndCauses.{reading_causes, reading_shows, reading_statuses}
use Rattle.surf_run.proofs.Outcomes.{outcome_of}
use Rattle.surf_run.proofs.opened.serve_store.Goals as goal

pub returns-in-Ok-clause-ends : goal.returns-in-Ok-clause-ends
returns-in-Ok-clause-ends g c start base first tells input output same served =
    let kind = filter_kind g.F.RangeFilter.spelling g.F.RangeFilter.built_cutoff in
    inl (outcome_of kind start base c.read_lines.new.reader.store c.read_lines.result (g.W.Disk.world first) (g.W.Disk.world c.read_lines.new.out)
    (c.read_lines.ensures.read (start, base) first tells input output same
    (read_none 2100000 (λ lines. ServeInvariant kind start base lines c.args.store (g.W.Disk.world first) (g.W.Disk.world c.args.out.now)) c.in-Ok.buffers.pending c.in-Ok.ensures.pending served)))

pub returns-in-Ok-clause-shown : goal.returns-in-Ok-clause-shown
returns-in-Ok-clause-shown g c tells output five =
    reading_shows (IsTrue g.W.Disk.tells × IsTrue g.W.Outside.tells_output) c.read_lines.result (g.W.Disk.world c.args.out.now) (g.W.Disk.world c.read_lines.new.out) c.read_lines.ensures.cause (tells, output) five

pub returns-in-Ok-clause-statuses : goal.returns-in-Ok-clause-statuses
returns-in-Ok-clause-statuses g c =
    elim (reading_statuses (RunShows (IsTrue g.W.Disk.tells × IsTrue g.W.Outside.tells_output)) c.read_lines.result (g.W.Disk.world c.args.out.now) (g.W.Disk.world c.read_lines.new.out) c.read_lines.ensures.cause)
    [ inl serving ↦ inl serving | inr five ↦ inr (inl five) ]

pub returns-in-Ok-clause-early : goal.returns-in-Ok-clause-early
returns-in-Ok-clause-early g c seven =
    absurd (never_seven c.read_lines.result (reading_statuses (RunShows (IsTrue g.W.Disk.tells × IsTrue g.W.Outside.tells_output)) c.read_lines.result (g.W.Disk.world c.args.out.now) (g.W.Disk.world c.read_lines.new.out) c.read_lines.ensures.cause) seven)

pub returns-in-Ok-clause-causes : goal.returns-in-Ok-clause-causes
returns-in-Ok-clause-causes g c =
    reading_causes (RunShows (IsTrue g.W.Disk.tells × IsTrue g.W.Outside.tells_output)) c.read_lines.result (g.W.Disk.world c.args.out.now) (g.W.Disk.world c.read_lines.new.out) c.read_lines.ensures.cause

pub returns-in-Err-clause-ends : goal.returns-in-Err-clause-ends
returns-in-Err-clause-ends g c start base first tells input output same served =
    inr (
      unserved IsFreeText (g.W.Disk.world c.args.out.now) (g.W.Disk.world c.last_line.new.out) (g.met.W.Outside.said_now c.args.out.now) c.last_line.ensures.moves c.last_line.result 7 (text_of Memory) (inr (refl, refl)) (c.last_line.ensures.prefix output) (c.last_line.ensures.said output tt) c.last_line.ensures.ends,
      said_reads (g.W.Disk.world c.args.out.now) (g.W.Disk.world c.last_line.new.out) c.last_line.ensures.moves,
    )

pub returns-in-Err-clause-statuses : goal.returns-in-Err-clause-statuses
returns-in-Err-clause-statuses g c = elim c.last_line.ensures.ends [ inl seven ↦ inr (inr seven) | inr six ↦ inl (inr (inr (inr (inl six.0)))) ]

pub returns-in-Err-clause-early : goal.returns-in-Err-clause-early
returns-in-Err-clause-early g c seven = c.last_line.ensures.moves.to_take

pub returns-in-Err-clause-shown : goal.returns-in-Err-clause-shown
returns-in-Err-clause-shown g c tells output five = absurd (elim c.last_line.ensures.ends [ inl seven ↦ let e : 7 ≡ 5 = sym seven ∙ five in cc | inr six ↦ let e : 6 ≡ 5 = sym six.0 ∙ five in cc ])

-- ---- where it writes

pub returns-in-Err-clause-within : goal.returns-in-Err-clause-within
returns-in-Err-clause-within g c = within_say _ (g.W.Disk.world c.args.out.now) (g.W.Disk.world c.last_line.new.out) c.last_line.ensures.moves
