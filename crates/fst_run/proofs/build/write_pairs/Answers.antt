use Rattle.std.proofs.Common.{◌≡◌, ◌∙◌, ◌++◌, inl, inr, refl, sym, ap, length}
use Rattle.disk_trait.specs.World.{Streams}
use Rattle.fst_run.specs.Ending.{IsNoBodyText, no_body_status, no_body_text}
use Rattle.fst_run.proofs.Building.{no_body_is}
use Rattle.fst_run.proofs.Crash.{during_written, lasts, stands}
use Rattle.fst_run.proofs.Ends.{no_body_cause, no_body_end, say_cause}
use Rattle.fst_run.proofs.Still.{untouched_none, untouched_say}
use Rattle.line_model.specs.Replies.{Device, text_of}
use Rattle.lines_in.proofs.EndCauses.{no_fall_on, no_fall_say}
use Rattle.lines_in.proofs.LastLines.{last_line}
use Rattle.map_model.specs.SortedMap.{Bytes}
use Rattle.map_run_model.specs.Building.{IsBuiltText}
use Rattle.map_run_model.specs.Files.{HasNoneOrAll, built_body}
use Rattle.map_run_model.specs.LastLines.{built_text}
use Rattle.fst_run.proofs.build.write_pairs.Goals as goal

-- there is no body
pub returns-in-Err : goal.returns-in-Err
returns-in-Err g c =
    let a = g.W.Disk.world c.args.out.now in
    let b = g.W.Disk.world c.say_no_body.new.out in
    let why = c.in-Err.why in
    let pairs = c.args.builder.now in
    let say = c.say_no_body.ensures in
    let now = g.met.W.Outside.said_now c.args.out.now in
    record {
      ends = λ tells output. inl (
        last_line (IsNoBodyText pairs) a a b refl c.say_no_body.result (no_body_status why) (no_body_text why) (no_body_is pairs why c.in-Err.ensures.cause) (say.said output) (say.prefix output) say.ends,
        untouched_say a a b (untouched_none a now) now say.moves,
      );
      input = say.moves.to_take;
      causes = no_body_cause why c.say_no_body.result a b (no_fall_say a b say.moves) say.ends;
      counts = no_fall_say a b say.moves;
      statuses = no_body_end why c.say_no_body.result a b say.ends;
    }

-- the device failed
pub returns : goal.returns
returns g c =
    let a = g.W.Disk.world c.args.out.now in
    let m = g.W.Disk.world c.write_map.new.disk in
    let b = g.W.Disk.world c.last_line.new.out in
    let pairs = c.args.builder.now in
    let status = c.last_line.result in
    let written = c.in-Err-write_map.ensures.written in
    let say = c.last_line.ensures in
    let is : c.deref.result.now ≡ built_body pairs = c.deref.ensures.value ∙ c.in-Ok.ensures.added ∙ ap (λ (old : Bytes). old ++ built_body pairs) c.new-body.ensures.items in
    let never : (P : Type 0) → status ≡ 0 → P = λ P zero. absurd (elim say.ends [ inl four ↦ let e : 4 ≡ 0 = sym four ∙ zero in cc | inr six ↦ let e : 6 ≡ 0 = sym six.0 ∙ zero in cc ]) in
    record {
      ends = λ tells output. inr (record {
        body = c.in-Ok.ensures.body;
        fits = c.in-Ok.ensures.not_large;
        line = last_line (IsBuiltText pairs) a m b written.beside status 4 (text_of Device) (inr (refl, refl)) (say.said output tt) (say.prefix output) say.ends;
        crash = λ closed. during_written (HasNoneOrAll pairs) a m b (written.meanwhile tells pairs is closed) written.beside (g.met.W.Outside.said_now c.args.out.now) (g.met.W.Outside.said_now c.write_map.new.disk) say.moves;
        built = never _;
        held = never _;
      });
      input = say.moves.to_take ∙ ap (λ (s : Streams). s.to_take) written.beside;
      causes = say_cause status 4 a m b (λ e. cc) (λ e. c.in-Err-write_map.ensures.cause) (λ e. cc) c.write_map.ensures.counts (no_fall_say m b say.moves) say.ends;
      counts = no_fall_on a m b c.write_map.ensures.counts (no_fall_say m b say.moves);
      statuses = elim say.ends [ inl four ↦ inr (inl four) | inr six ↦ inr (inr (inl six.0)) ];
    }

-- the map is written
pub returns-in-Ok-write_map : goal.returns-in-Ok-write_map
returns-in-Ok-write_map g c =
    let a = g.W.Disk.world c.args.out.now in
    let m = g.W.Disk.world c.write_map.new.disk in
    let b = g.W.Disk.world c.say_last.new.out in
    let pairs = c.args.builder.now in
    let status = c.say_last.result in
    let written = c.in-Ok-write_map.ensures.written in
    let say = c.say_last.ensures in
    let is : c.deref.result.now ≡ built_body pairs = c.deref.ensures.value ∙ c.in-Ok.ensures.added ∙ ap (λ (old : Bytes). old ++ built_body pairs) c.new-body.ensures.items in
    let text : c.as_slice.result.now ≡ built_text (length pairs) = c.as_slice.ensures.value ∙ c.built_line-line.ensures ∙ ap built_text c.len.ensures in
    record {
      ends = λ tells output. inr (record {
        body = c.in-Ok.ensures.body;
        fits = c.in-Ok.ensures.not_large;
        line = last_line (IsBuiltText pairs) a m b written.beside status 0 c.as_slice.result.now (inl (refl, text)) (say.said output) (say.prefix output) say.ends;
        crash = λ closed. during_written (HasNoneOrAll pairs) a m b (written.meanwhile tells pairs is closed) written.beside (g.met.W.Outside.said_now c.args.out.now) (g.met.W.Outside.said_now c.write_map.new.disk) say.moves;
        built = λ zero. lasts pairs _ a.seen.held m b is (written.written tells) written.durable say.moves;
        held = λ zero. stands pairs _ a.seen.held m b is (written.written tells) say.moves;
      });
      input = say.moves.to_take ∙ ap (λ (s : Streams). s.to_take) written.beside;
      causes = say_cause status 0 a m b (λ e. cc) (λ e. absurd cc) (λ e. cc) c.write_map.ensures.counts (no_fall_say m b say.moves) say.ends;
      counts = no_fall_on a m b c.write_map.ensures.counts (no_fall_say m b say.moves);
      statuses = elim say.ends [ inl zero ↦ inl zero | inr six ↦ inr (inr (inl six.0)) ];
    }
