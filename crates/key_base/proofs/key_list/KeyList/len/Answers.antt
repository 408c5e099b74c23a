use Rattle.std.proofs.Common.{length, ap, arith}
use Rattle.key_base.proofs.KeyLists.{how_many}
use Rattle.key_base.proofs.key_list.KeyList.len.Goals as goal

pub returns : goal.returns
returns c =
    let t = c.self.inside in
    omega (arith, c.len.ensures, how_many 0 t.ends.items t.bytes.items, ap length c.self.view_is)
