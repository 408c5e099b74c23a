use Rattle.std.proofs.Common.{◌∙◌, ap, subst, sym, rules}
use Rattle.std.specs.Prelude.{Result}
use Rattle.fst_run.specs.Refusing.{IsRefusal}
use Rattle.fst_run.proofs.Pairing.{ok_few, pair_held, pairs_more, refusal_text_is}
use Rattle.fst_run.proofs.Still.{untouched_say}
use Rattle.map_model.specs.SortedMap.{Map}
use Rattle.map_run_model.specs.PairLines.{Refusal, pair_in, with_pair}
use Rattle.fst_run.proofs.pair_lines.PairLinesLineReader.read_line.Goals as goal

pub returns-in-Ok-clause-goes_on : goal.returns-in-Ok-clause-goes_on
returns-in-Ok-clause-goes_on g c next = (search rules, ok_few c.args.self.now.builder (pair_in c.args.line.now) _ c.in-Ok.ensures.added)

pub returns-in-Err-clause-read : goal.returns-in-Err-clause-read
returns-in-Err-clause-read g c start first lines whole tells output held read =
    let f = g.W.Disk.world first in
    let a = g.W.Disk.world c.args.out.now in
    let b = g.W.Disk.world c.say_refusal.new.out in
    let why = c.in-Err.why in
    let pairs = c.args.self.now.builder in
    let refused = subst (λ (m : Result Map Refusal). IsRefusal why m) (ap (with_pair pairs) (pair_held whole c.args.line.now held) ∙ sym (pairs_more lines whole pairs read.pairs_are)) c.in-Err.ensures.refused in (
      refusal_text_is why lines whole pairs read.pairs_are refused f a b c.say_refusal.result read.said (c.say_refusal.ensures.said output) (c.say_refusal.ensures.prefix output) c.say_refusal.ensures.ends,
      untouched_say f a b read.crash (g.met.W.Outside.said_now c.args.out.now) c.say_refusal.ensures.moves,
    )
