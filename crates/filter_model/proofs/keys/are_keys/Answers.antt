use Rattle.std.proofs.Common.{◌<◌, length, arith, refl, subst}
use Rattle.filter_model.specs.Keys.{IsKey}
use Rattle.filter_model.proofs.KeyLists.{each_more, rise_more}
use Rattle.filter_model.proofs.keys.are_keys.Goals as goal

pub loop-i-preserved : goal.loop-i-preserved
loop-i-preserved c =
    let keys = c.args.keys.now in
    let within : c.loop-i.i < length keys = omega arith in
    let key = c.if-not-is_key.ensures.0 refl in (
      each_more keys c.loop-i.i within (subst IsKey c.get.ensures key) c.loop-i.invariant.0,
      rise_more keys c.loop-i.i within (c.if-not-rises.ensures.0 refl) c.loop-i.invariant.1,
    )
