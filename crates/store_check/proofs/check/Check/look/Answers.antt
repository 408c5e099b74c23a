use Rattle.store_check.proofs.check.Check.look.Goals as goal

pub returns-in_ok-look_at_ranges-in-Ranges-clause-of : goal.returns-in_ok-look_at_ranges-in-Ranges-clause-of
returns-in_ok-look_at_ranges-in-Ranges-clause-of g c tells is = c.in_ok-look_at_ranges-in-Ranges.ensures.of (g.D.Disk.world c.args.disk.now).seen.held is

pub returns-in-Log-clause-same : goal.returns-in-Log-clause-same
returns-in-Log-clause-same g c later tells is = let f = g.F.RangeFilter in c.look_at_log.ensures.same f.spelling f.first_fault later tells
