use Rattle.std.proofs.Common.{◌≡◌, ◌+◌, ◌++◌, ℕ, get_or, ap, ◌∙◌, arith}
use Rattle.byteorder.specs.Endian.{little_bytes}
use Rattle.block_format.proofs.Builders.{places_done, places_step}
use Rattle.block_format.proofs.builder.append_places.Goals as goal

pub loop-i-preserved : goal.loop-i-preserved
loop-i-preserved c =
    let l = c.loop-i in
    let number : c.from.result ≡ get_or c.args.places.now l.i 0 = c.from.ensures in
    let more : c.append.new.out.items ≡ l.out.items ++ little_bytes 2 (c.args.from + get_or c.args.places.now l.i 0) =
    c.append.ensures.items ∙ ap (λ (p : ℕ). l.out.items ++ little_bytes 2 (c.args.from + p)) number in
    record {
      items = places_step c.args.from l.i c.args.places.now 0 l.out.items c.append.new.out.items _ c.loop-i-test.true more l.invariant.items;
      len = omega (arith, l.invariant.len, c.append.ensures.len);
      capacity = omega (arith, l.invariant.capacity, c.append.ensures.capacity);
    }

pub returns-clause-items : goal.returns-clause-items
returns-clause-items c =
    let l = c.loop-i in
    places_done c.args.from l.i c.args.places.now l.out.items _ (omega (arith, c.loop-i-test.false)) l.invariant.items
