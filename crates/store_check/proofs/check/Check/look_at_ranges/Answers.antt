use Rattle.std.proofs.Common.{ap, arith}
use Rattle.manifest.specs.Manifest.{Manifest}
use Rattle.store_check.proofs.Parts.{few_broken}
use Rattle.store_check.proofs.check.Check.look_at_ranges.Goals as goal

pub finding-requires-clause-slot : goal.finding-requires-clause-slot
finding-requires-clause-slot c = omega (arith, ap (λ (m : Manifest). m.slot) c.version.view_is, (c.args.self.now.sound c.in-Some.version c.in-Some.is).slot)

pub finding-requires-clause-few : goal.finding-requires-clause-few
finding-requires-clause-few c = few_broken c.in-Some.version c.args.self.now.order (c.args.self.now.sound c.in-Some.version c.in-Some.is)
