use Rattle.std.proofs.Common.{[], sym, refl}
use Rattle.std.proofs.lemmas.List.{append-nil}
use Rattle.outside.proofs.Pieces.{says_none, says_then, piece_on}
use Rattle.outside.proofs.saying.say_all.Goals as goal

pub loop-rest-init : goal.loop-rest-init
loop-rest-init g c = record {
  said = λ _. ([], refl, sym (append-nil _));
  moves = says_none (g.W.Disk.world c.args.out.now) (g.met.W.Outside.said_now c.args.out.now);
}

pub loop-rest-preserved : goal.loop-rest-preserved
loop-rest-preserved g c = record {
  said = λ t. let was = c.loop-rest.invariant.said t in piece_on _ _ _ _ was.0 _ _ was.1 was.2 (c.in_ok-said.ensures.said t);
  moves = says_then _ _ _ c.loop-rest.invariant.moves c.say.ensures.moves;
}

pub returns-in_err-said-clause-moves : goal.returns-in_err-said-clause-moves
returns-in_err-said-clause-moves g c = says_then _ _ _ c.loop-rest.invariant.moves c.say.ensures.moves
