use Rattle.std.proofs.Common.{◌≡◌, ◌<◌, ◌≤◌, length, get_or, ap, ◌∙◌, arith, sym}
use Rattle.plain_map.proofs.Places.{missing_here, found_here, missing_at_end}
use Rattle.plain_map.proofs.map.PlainMap.place_of.Goals as goal

pub returns-in-Less-clause-missing : goal.returns-in-Less-clause-missing
returns-in-Less-clause-missing c =
    let within : c.loop-at.at < length c.args.self.now = omega (arith, c.loop-at-test.true, c.len-at-end.ensures, c.self.inside.pairs.ok.0, ap length c.self.view_is) in
    missing_here c.args.self.now c.args.key.now c.loop-at.at c.index.result.now within c.loop-at.invariant
    (c.index.ensures ∙ ap (λ m. get_or m c.loop-at.at c.index.result.now) c.self.view_is) (sym c.order_of.ensures ∙ c.in-Less.is)

pub returns-in-Equal-clause-found : goal.returns-in-Equal-clause-found
returns-in-Equal-clause-found c =
    let within : c.loop-at.at < length c.args.self.now = omega (arith, c.loop-at-test.true, c.len-at-end.ensures, c.self.inside.pairs.ok.0, ap length c.self.view_is) in
    found_here c.args.self.now c.args.key.now c.loop-at.at c.index.result.now within c.loop-at.invariant
    (c.index.ensures ∙ ap (λ m. get_or m c.loop-at.at c.index.result.now) c.self.view_is) (sym c.order_of.ensures ∙ c.in-Equal.is)

pub returns-clause-missing : goal.returns-clause-missing
returns-clause-missing c =
    let long : c.len.result ≡ length c.args.self.now = omega (arith, c.len.ensures, c.self.inside.pairs.ok.0, ap length c.self.view_is) in
    let all : c.len.result ≤ c.loop-at.at = omega (arith, c.loop-at-test.false, c.len-at-end.ensures, c.len.ensures) in
    missing_at_end c.args.self.now c.args.key.now c.len.result (omega (arith, long)) (omega (arith, long)) (λ k d low high. c.loop-at.invariant k d low (omega arith))
