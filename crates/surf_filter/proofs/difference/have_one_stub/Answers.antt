use Rattle.std.specs.Prelude.{slice_get}
use Rattle.surf_filter.proofs.Differences.{one_stub}
use Rattle.surf_filter.proofs.difference.have_one_stub.Goals as goal

pub returns : goal.returns
returns g c =
    one_stub (slice_get c.args.cursor.now.image.leaves c.args.cursor.now.leaf) (slice_get c.args.others.now.image.leaves c.args.others.now.leaf) c.stub-len.new.out c.args.stub.now c.stub-other_len.new.out c.args.other_stub.now
    c.stub-len.result c.stub-other_len.result c.eq.result c.stub-len.ensures.stub c.stub-len.ensures.count c.stub-other_len.ensures.stub c.stub-other_len.ensures.count c.eq.ensures
