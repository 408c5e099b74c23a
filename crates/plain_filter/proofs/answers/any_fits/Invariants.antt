use Rattle.std.proofs.Common.{◌≡◌, drop}
use Rattle.std.specs.List.{list_any}
use Rattle.filter_model.specs.Answers.{fits_point}
use Rattle.plain_filter.proofs.answers.any_fits.Given as goal

-- none of the leaves passed fits
abbrev pub invariant-loop-i : goal.invariant-loop-i
invariant-loop-i l = list_any (fits_point l.hash_bits l.real_bits l.key) l.leaves ≡ list_any (fits_point l.hash_bits l.real_bits l.key) (drop l.i l.leaves)
