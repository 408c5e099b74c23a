use Rattle.std.proofs.Common.{◌≡◌, ◌∙◌, [], inl, inr, refl, sym, ap}
use Rattle.std.proofs.lemmas.List.{append-nil}
use Rattle.disk_trait.specs.World.{Streams}
use Rattle.fst_run.specs.Ending.{IsMemoryText}
use Rattle.fst_run.proofs.Ends.{input_as, no_body_cause, serving_end}
use Rattle.fst_run.proofs.Still.{only_say}
use Rattle.line_model.specs.Replies.{Memory, text_of}
use Rattle.lines_in.proofs.EndCauses.{no_fall_say}
use Rattle.lines_in.proofs.LastLines.{last_line, never_seven}
use Rattle.lines_in.proofs.Readings.{read_none}
use Rattle.map_run_model.specs.Serving.{HasAnswered, HasEnded, IsOnlyRead}
use Rattle.map_writer.specs.declared.error.FinishError.TheVariants as finish
use Rattle.fst_run.proofs.serve.serve_map.Goals as goal

pub returns-in-Err : goal.returns-in-Err
returns-in-Err g c =
    let a = g.W.Disk.world c.args.out.now in
    let b = g.W.Disk.world c.last_line.new.out in
    record {
      ends = λ first tells input output same only. inl (
        last_line IsMemoryText (g.W.Disk.world first) a b same c.last_line.result 7 (text_of Memory) (refl, refl) (c.last_line.ensures.said output tt) (c.last_line.ensures.prefix output) c.last_line.ensures.ends,
        c.last_line.ensures.moves.to_take ∙ ap (λ (s : Streams). s.to_take) same,
        only_say (g.W.Disk.world first) a b only (g.met.W.Outside.said_now c.args.out.now) c.last_line.ensures.moves,
      );
      causes = no_body_cause finish.Memory c.last_line.result a b (no_fall_say a b c.last_line.ensures.moves) c.last_line.ensures.ends;
      counts = no_fall_say a b c.last_line.ensures.moves;
      statuses = elim c.last_line.ensures.ends [ inl seven ↦ inr seven | inr six ↦ inl (inr (inr (inr (inl six.0)))) ];
      early = λ seven. c.last_line.ensures.moves.to_take;
    }

pub returns-in-Ok : goal.returns-in-Ok
returns-in-Ok g c =
    let a = g.W.Disk.world c.args.out.now in
    let b = g.W.Disk.world c.read_lines.new.out in
    let end = serving_end c.read_lines.result a b c.read_lines.ensures.cause in
    record {
      ends = λ first tells input output same only.
          let f = g.W.Disk.world first in
          inr (input_as _ (λ lines. HasAnswered c.args.map lines f b × IsOnlyRead f b) _ (λ end lines line. HasEnded c.args.map end lines line f b × IsOnlyRead f b) c.read_lines.result f.beside b.beside
          (λ lines read. (read.1, read.2)) (λ end lines line ended. ended)
          (c.read_lines.ensures.read c.args.map first tells input output (sym (ap (λ (s : Streams). s.to_take) same))
          (read_none 2100000 (λ lines. (c.args.map ≡ c.args.map) × HasAnswered c.args.map lines f a × IsOnlyRead f a) c.in-Ok.buffers.pending c.in-Ok.ensures.pending
          (refl, record { text = []; said = ap (λ (s : Streams). s.said) same ∙ sym (append-nil f.beside.said); answers = refl }, only))));
      causes = end.0;
      counts = c.read_lines.ensures.counts;
      statuses = inl end.1;
      early = λ seven. absurd (never_seven c.read_lines.result (inl end.1) seven);
    }
