use Rattle.std.proofs.Common.{◌∙◌, inl, refl, sym, ap}
use Rattle.fst_run.proofs.Dialogue.{kept, onward}
use Rattle.fst_run.proofs.Parts.{value_short}
use Rattle.line_model.specs.Replies.{Value, got}
use Rattle.line_model.specs.Requests.{Get}
use Rattle.map_model.specs.SortedMap.{get}
use Rattle.fst_run.proofs.answers.get_line.Goals as goal

pub returns-in-Some-get : goal.returns-in-Some-get
returns-in-Some-get g c =
    let map = c.args.map.now in
    let key = c.args.key.now in
    let say = c.say_reply-in-Some-get.ensures in
    onward g.W.Outside.tells_output map (Get key) c.say_reply-in-Some-get.result (g.W.Disk.world c.args.out.now) (g.W.Disk.world c.say_reply-in-Some-get.new.out) (Value c.in-Some-get.value.now)
    (inl (ap got c.in-Some-get.ensures ∙ sym (kept (Get key) (got (get map key)) (sym c.in_default.ensures)))) refl
    (λ output. say.says output (value_short map key c.in-Some-get.value.now c.requires.may.short c.in-Some-get.ensures)) say.cause say.moves
