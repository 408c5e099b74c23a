use Rattle.std.proofs.Common.{◌≡◌, ◌∙◌, ◌∷◌, [], ap, get_or, inl, inr, refl, sym, ℕ, List}
use Rattle.line_model.specs.Replies.{Device, Memory, text_of}
use Rattle.lines_in.proofs.EndCauses.{disk_then, no_fall_say}
use Rattle.map_run_model.specs.LastLines.{taken_text}
use Rattle.test_runs.proofs.SaidAlone.{build_said}
use Rattle.test_runs.proofs.no_maps.NoMapsMapPrograms.build.Goals as goal

pub returns-in-Err : goal.returns-in-Err
returns-in-Err g c =
    let old = c.args.out.now in
    let new = c.say_last.new.out in
    let mid = g.W.Disk.world c.read.new.self in
    let said = c.say_last.ensures in
    build_said g.W.Disk.world g.W.Disk.tells g.W.Outside.tells_input g.W.Outside.tells_output old new mid (g.met.W.Outside.said_now old) (g.met.W.Outside.said_now c.read.new.self) c.read.ensures.moves c.say_last.result 4 (text_of Device)
    (λ tells. inr (inr (inl (refl, refl, refl)))) (record { whole = said.said; prefix = said.prefix; ends = said.ends; moves = said.moves })
    (inr (inr (refl, disk_then (g.W.Disk.world old) mid (g.W.Disk.world new) (inl c.in-Err.ensures.cause) (no_fall_say mid (g.W.Disk.world new) said.moves))))

pub returns-then-gate-eq1 : goal.returns-then-gate-eq1
returns-then-gate-eq1 g c =
    let old = c.args.out.now in
    let said = c.say_last-then-gate-eq1.ensures in
    build_said g.W.Disk.world g.W.Disk.tells g.W.Outside.tells_input g.W.Outside.tells_output old c.say_last-then-gate-eq1.new.out (g.W.Disk.world c.read.new.self) (g.met.W.Outside.said_now old) (g.met.W.Outside.said_now c.read.new.self)
    c.read.ensures.moves c.say_last-then-gate-eq1.result 8 taken_text (λ tells. inl (refl, ap (λ (l : List ℕ). get_or l 0 0) (sym (c.in-Ok.ensures.bytes tells)) ∙ c.if-gate-eq1.true, refl, refl))
    (record { whole = said.said; prefix = said.prefix; ends = said.ends; moves = said.moves }) (inr (inl refl))

pub returns : goal.returns
returns g c =
    let old = c.args.out.now in
    let said = c.say_last-2.ensures in
    build_said g.W.Disk.world g.W.Disk.tells g.W.Outside.tells_input g.W.Outside.tells_output old c.say_last-2.new.out (g.W.Disk.world c.read.new.self) (g.met.W.Outside.said_now old) (g.met.W.Outside.said_now c.read.new.self)
    c.read.ensures.moves c.say_last-2.result 7 (text_of Memory)
    (λ tells. inr (inr (inr (inl (refl, λ one. c.if-gate-eq1.false (ap (λ (l : List ℕ). get_or l 0 0) (c.in-Ok.ensures.bytes tells) ∙ one), refl)))))
    (record { whole = said.said; prefix = said.prefix; ends = said.ends; moves = said.moves }) (inl refl)
