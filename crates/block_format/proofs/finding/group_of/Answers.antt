use Rattle.std.proofs.Common.{◌≡◌, ◌+◌, ℕ, sym, ◌∙◌, ap, arith}
use Rattle.key_base.specs.ByteOrder.{is_before}
use Rattle.block_model.specs.FormatLaws.{listed_key}
use Rattle.block_format.proofs.finding.group_of.Goals as goal

pub loop-high-init : goal.loop-high-init
loop-high-init c = record {
  rising = omega (arith, c.requires.head.many);
  most = omega arith;
  from = λ some. absurd (omega (arith, some));
  to = λ lt. absurd (omega (arith, lt, c.requires.head.count));
}

pub key_listed-requires-clause-inside : goal.key_listed-requires-clause-inside
key_listed-requires-clause-inside c = omega (arith, c.loop-high.invariant.most, c.loop-high-test.true, c.requires.head.count)

pub loop-high-preserved-then-is_below : goal.loop-high-preserved-then-is_below
loop-high-preserved-then-is_below c =
    let l = c.loop-high in
    record {
      rising = omega (arith, c.loop-high-test.true);
      most = omega (arith, l.invariant.most);
      from = l.invariant.from;
      to = λ _. ap (is_before c.args.key.now) (sym c.key_listed.ensures) ∙ sym c.is_below.ensures ∙ c.if-is_below.true;
    }

pub loop-high-preserved : goal.loop-high-preserved
loop-high-preserved c =
    let l = c.loop-high in
    record {
      rising = omega (arith, c.loop-high-test.true);
      most = l.invariant.most;
      from = λ _. ap (is_before c.args.key.now) (sym c.key_listed.ensures) ∙ sym c.is_below.ensures ∙ c.if-is_below.false;
      to = l.invariant.to;
    }

pub returns : goal.returns
returns c =
    let l = c.loop-high in
    let next : l.high ≡ l.low + 1 = omega (arith, l.invariant.rising, c.loop-high-test.false) in
    record {
      inside = omega (arith, l.invariant.rising, l.invariant.most, c.requires.head.count);
      from = l.invariant.from;
      to = λ lt. ap (λ (k : ℕ). is_before c.args.key.now (listed_key c.args.bytes.now k)) (sym next) ∙ l.invariant.to (omega (arith, lt, next));
    }
