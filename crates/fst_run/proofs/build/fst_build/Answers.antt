use Rattle.std.proofs.Common.{◌≡◌, ◌≢◌, ◌⊎◌, ◌∙◌, inl, inr, refl, sym, ap}
use Rattle.std.proofs.lemmas.Bool.{eqb-false, eqb-true}
use Rattle.disk_trait.specs.World.{Image}
use Rattle.fst_run.proofs.Building.{built_since, unbuilt_asked, unbuilt_since}
use Rattle.fst_run.proofs.Ends.{build_complete, build_statuses, say_cause}
use Rattle.lines_in.proofs.EndCauses.{causes_on, no_fall_on, no_fall_say}
use Rattle.line_model.specs.Replies.{Device, Memory, text_of}
use Rattle.map_run_model.specs.Building.{IsBuildEnd}
use Rattle.map_run_model.specs.LastLines.{taken_text}
use Rattle.fst_run.proofs.build.fst_build.Goals as goal

pub returns-in-Ok : goal.returns-in-Ok
returns-in-Ok g c =
    let a = g.W.Disk.world c.args.out.now in
    let m = g.W.Disk.world c.is_taken.new.disk in
    let b = g.W.Disk.world c.build_of_lines.new.out in
    let status = c.build_of_lines.result in
    let asked = c.is_taken.ensures.moves in
    let end = c.build_of_lines.ensures in
    let causes = causes_on status a m b asked.counts end.causes in
    let statuses = build_statuses status end.statuses in
    record {
      ends = λ tells input output.
          let closed : a.seen.held 0 ≢ 1 = eqb-false (a.seen.held 0) 1 (let so = c.in-Ok-false.ensures.asked tells in cc) in
          let closed_now : m.seen.held 0 ≢ 1 = λ one. closed (ap (λ (f : Image). f 0) (sym asked.held) ∙ one) in
          let now = g.met.W.Outside.said_now c.args.out.now in
          elim (end.ends tells input output closed_now c.in-Ok-false.ensures.durable) [
            | inl unbuilt ↦ inl (unbuilt_since a m b status asked.held asked.beside now asked.time unbuilt)
            | inr built ↦ inr (c.is_taken.new.disk, built_since a m b status asked.held asked.beside now asked.time closed c.in-Ok-false.ensures.durable built)
          ];
      causes = causes;
      counts = no_fall_on a m b asked.counts end.counts;
      complete = build_complete status a b statuses causes;
      statuses = statuses;
    }

-- no memory
pub returns-in-Err-new_buffers : goal.returns-in-Err-new_buffers
returns-in-Err-new_buffers g c =
    let a = g.W.Disk.world c.args.out.now in
    let m = g.W.Disk.world c.is_taken.new.disk in
    let b = g.W.Disk.world c.last_line-in-Err-new_buffers.new.out in
    let status = c.last_line-in-Err-new_buffers.result in
    let asked = c.is_taken.ensures.moves in
    let end = c.last_line-in-Err-new_buffers.ensures in
    let causes = say_cause status 7 a m b (λ e. cc) (λ e. absurd cc) (λ e. cc) asked.counts (no_fall_say m b end.moves) end.ends in
    let statuses = build_statuses status (elim end.ends [ inl seven ↦ inl (inr (inr (inr (inl seven)))) | inr six ↦ inl (inr (inr (inl six.0))) ]) in
    record {
      ends = λ tells input output.
          let closed : a.seen.held 0 ≢ 1 = eqb-false (a.seen.held 0) 1 (let so = c.in-Ok-false.ensures.asked tells in cc) in
          inl (unbuilt_asked a m b asked (g.met.W.Outside.said_now c.args.out.now) (g.met.W.Outside.said_now c.is_taken.new.disk) end.moves status 7 (text_of Memory) (inr (inr (inr (inl (refl, closed, refl))))) (end.said output tt) (end.prefix output) end.ends);
      causes = causes;
      counts = no_fall_on a m b asked.counts (no_fall_say m b end.moves);
      complete = build_complete status a b statuses causes;
      statuses = statuses;
    }

-- a map is there
pub returns-in-Ok-true : goal.returns-in-Ok-true
returns-in-Ok-true g c =
    let a = g.W.Disk.world c.args.out.now in
    let m = g.W.Disk.world c.is_taken.new.disk in
    let b = g.W.Disk.world c.say_last.new.out in
    let status = c.say_last.result in
    let asked = c.is_taken.ensures.moves in
    let end = c.say_last.ensures in
    let causes = say_cause status 8 a m b (λ e. cc) (λ e. absurd cc) (λ e. cc) asked.counts (no_fall_say m b end.moves) end.ends in
    let statuses : IsBuildEnd status ⊎ (status ≡ 3) ⊎ (status ≡ 4) ⊎ (status ≡ 6) = elim end.ends [ inl eight ↦ inl (inr (inr (inl eight))) | inr six ↦ inr (inr (inr six.0)) ] in
    record {
      ends = λ tells input output.
          let open_gate : a.seen.held 0 ≡ 1 = eqb-true (a.seen.held 0) 1 (let so = c.in-Ok-true.ensures.asked tells in cc) in
          inl (unbuilt_asked a m b asked (g.met.W.Outside.said_now c.args.out.now) (g.met.W.Outside.said_now c.is_taken.new.disk) end.moves status 8 taken_text (inl (refl, open_gate, refl, refl)) (end.said output) (end.prefix output) end.ends);
      causes = causes;
      counts = no_fall_on a m b asked.counts (no_fall_say m b end.moves);
      complete = build_complete status a b statuses causes;
      statuses = statuses;
    }

-- the device failed
pub returns-in-Err : goal.returns-in-Err
returns-in-Err g c =
    let a = g.W.Disk.world c.args.out.now in
    let m = g.W.Disk.world c.is_taken.new.disk in
    let b = g.W.Disk.world c.last_line.new.out in
    let status = c.last_line.result in
    let asked = c.is_taken.ensures.moves in
    let end = c.last_line.ensures in
    let causes = say_cause status 4 a m b (λ e. cc) (λ e. c.in-Err.ensures.cause) (λ e. cc) asked.counts (no_fall_say m b end.moves) end.ends in
    let statuses = build_statuses status (elim end.ends [ inl four ↦ inl (inr (inl four)) | inr six ↦ inl (inr (inr (inl six.0))) ]) in
    record {
      ends = λ tells input output.
          inl (unbuilt_asked a m b asked (g.met.W.Outside.said_now c.args.out.now) (g.met.W.Outside.said_now c.is_taken.new.disk) end.moves status 4 (text_of Device) (inr (inr (inl (refl, refl, refl)))) (end.said output tt) (end.prefix output) end.ends);
      causes = causes;
      counts = no_fall_on a m b asked.counts (no_fall_say m b end.moves);
      complete = build_complete status a b statuses causes;
      statuses = statuses;
    }
