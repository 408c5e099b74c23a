use Rattle.std.proofs.Common.{◌≡◌, ◌∙◌, ◌++◌, inr, List, ℕ, append_assoc, ap, arith, refl, sym, take}
use Rattle.line_model.specs.Replies.{text_of}
use Rattle.store_commands.specs.Spoken.{spoken}
use Rattle.lines_in.proofs.Pieces.{prefix_of}
use Rattle.lines_in.proofs.saying.say_behind.Goals as goal

-- what waits was not said whole
pub returns-in-Err-clause-says : goal.returns-in-Err-clause-says
returns-in-Err-clause-says g c tells =
    let old = (g.W.Disk.world c.args.out.now).beside.said in
    let now = (g.W.Disk.world c.add_reply.new.out).beside.said in
    let later = (g.W.Disk.world c.say_all.new.out).beside.said in
    let text = take c.args.used c.args.buffer.now ++ text_of (spoken c.args.reply.now) in
    let part = c.say_all.ensures.prefix tells in
    let whole : later ++ part.rest ≡ old ++ text =
    ap (λ (l : List ℕ). l ++ part.rest) part.said ∙ append_assoc now part.done part.rest ∙ ap (λ (l : List ℕ). now ++ l) (sym part.split) ∙ c.in-Ok.ensures.said tells in
    (prefix_of text old later part.rest whole (omega (arith, c.add_reply.ensures.moves.told.longer, c.say_all.ensures.moves.told.longer)), inr refl)
