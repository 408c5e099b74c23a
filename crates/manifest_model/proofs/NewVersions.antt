-- A new store's version keeps the rules.
use Rattle.std.proofs.Common.{inl, refl, arith}
use Rattle.manifest_model.specs.NewVersion.{NewVersionIsOne}
use Rattle.manifest_model.specs.Reading.{extents_fault, levels_fault, table_rows_fault}

pub new_is_one : NewVersionIsOne
unfolding table_rows_fault levels_fault extents_fault
new_is_one settings pages range ratio some few = record {
  few_tables = omega arith;
  some_epoch = omega arith;
  epoch = omega arith;
  some_pages = some;
  few_pages = few;
  hash_bits = range.hash_bits;
  real_bits = range.real_bits;
  ratio = omega (arith, ratio);
  log_page = inl refl;
  rows = tt;
  settings = tt;
  placed = refl;
}
