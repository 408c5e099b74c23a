use Rattle.std.proofs.Common.{◌≡◌, inl, inr, refl, rules}
use Rattle.line_model.specs.Replies.{Memory, text_of}
use Rattle.lines_in.proofs.LastLines.{last_line}
use Rattle.surf_run.proofs.Checked.{changes_say}
use Rattle.surf_run.proofs.Dumped.{seven_ends, seven_never_five}
use Rattle.surf_run.proofs.WholeDumps.{not_done}
use Rattle.surf_run.specs.Readings.{IsDumpText}
use Rattle.surf_run.proofs.dumping.dump_store.Goals as goal

pub say_store-requires : goal.say_store-requires
say_store-requires g c = record { running = c.requires.running; room = search rules }

pub returns-in-Err-clause-lines : goal.returns-in-Err-clause-lines
returns-in-Err-clause-lines g c s tells output reads =
    let old = g.W.Disk.world c.args.out.now in
    last_line (IsDumpText s) old old (g.W.Disk.world c.last_line.new.out) refl c.last_line.result 7 (text_of Memory) (inr (refl, refl))
    (c.last_line.ensures.said output tt) (c.last_line.ensures.prefix output) c.last_line.ensures.ends

pub returns-in-Err-clause-sound : goal.returns-in-Err-clause-sound
returns-in-Err-clause-sound g c s tells reads five = seven_never_five c.last_line.result (g.W.Disk.world c.args.out.now) (g.W.Disk.world c.last_line.new.out) c.last_line.ensures.ends five

pub returns-in-Err-clause-shown : goal.returns-in-Err-clause-shown
returns-in-Err-clause-shown g c tells output five = absurd (seven_never_five c.last_line.result (g.W.Disk.world c.args.out.now) (g.W.Disk.world c.last_line.new.out) c.last_line.ensures.ends five)

pub returns-in-Err-clause-whole : goal.returns-in-Err-clause-whole
returns-in-Err-clause-whole g c tells output done = absurd (not_done 7 c.last_line.result (g.W.Disk.world c.args.out.now) (g.W.Disk.world c.last_line.new.out) (λ e. cc) c.last_line.ensures.ends done)

pub returns-in-Err-clause-ends : goal.returns-in-Err-clause-ends
returns-in-Err-clause-ends g c = seven_ends c.last_line.result (g.W.Disk.world c.args.out.now) (g.W.Disk.world c.last_line.new.out) c.last_line.ensures.ends

pub returns-in-Err-clause-changes : goal.returns-in-Err-clause-changes
returns-in-Err-clause-changes g c = changes_say (g.W.Disk.world c.args.out.now) (g.W.Disk.world c.last_line.new.out) c.last_line.ensures.moves
