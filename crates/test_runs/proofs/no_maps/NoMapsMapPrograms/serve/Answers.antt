use Rattle.test_runs.proofs.SaidAlone.{serve_said}
use Rattle.test_runs.proofs.no_maps.NoMapsMapPrograms.serve.Goals as goal

pub returns : goal.returns
returns g c =
    let said = c.say_last.ensures in
    serve_said g.W.Disk.world g.W.Disk.tells g.W.Outside.tells_input g.W.Outside.tells_output c.args.out.now c.say_last.new.out (g.met.W.Outside.said_now c.args.out.now) c.say_last.result
    (record { whole = said.said; prefix = said.prefix; ends = said.ends; moves = said.moves })
