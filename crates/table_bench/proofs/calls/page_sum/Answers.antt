use Rattle.std.proofs.Common.{◌≡◌, length, take, arith}
use Rattle.std.proofs.lemmas.List.{length-take-le}
use Rattle.table_bench.proofs.calls.page_sum.Goals as goal

pub read-requires : goal.read-requires
read-requires c =
    let page : length (take 4096 c.args.buf.now) ≡ 4096 = length-take-le 4096 c.args.buf.now (omega (arith, c.if-buf-lt-PAGE_BYTES.false)) in
    omega (arith, page, c.from.ensures, c.from-2.ensures, c.ranges.page.fits)
