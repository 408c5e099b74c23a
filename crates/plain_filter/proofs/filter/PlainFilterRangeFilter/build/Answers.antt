use Rattle.std.proofs.Common.{◌<◌, ◌^◌, List, arith, length, subst, sym}
use Rattle.std.specs.List.{All}
use Rattle.filter_model.specs.Leaves.{Leaf}
use Rattle.filter_model.specs.Valid.{IsLeaf, IsValid}
use Rattle.filter_model.proofs.Validity.{leaves_are_valid}
use Rattle.plain_filter.proofs.filter.PlainFilterRangeFilter.build.Goals as goal

pub invariant_of-result : goal.invariant_of-result
invariant_of-result c =
    let h = c.args.settings.hash_bits in
    let n = c.args.settings.real_bits in
    let valid = leaves_are_valid h n c.args.keys.now c.requires.settings.real_bits c.requires.keys in
    record {
      hash_width = c.requires.settings.hash_bits;
      real_width = c.requires.settings.real_bits;
      few = subst (λ (ls : List Leaf). length ls < 2 ^ 32) (sym c.in_ok-leaves.ensures) valid.few;
      each = subst (All (IsLeaf h n)) (sym c.in_ok-leaves.ensures) valid.leaves;
    }

pub returns-clause-may_stand : goal.returns-clause-may_stand
returns-clause-may_stand c =
    let h = c.args.settings.hash_bits in
    let n = c.args.settings.real_bits in
    record {
      hash_width = c.requires.settings.hash_bits;
      real_width = c.requires.settings.real_bits;
      cutoff_in = omega arith;
      valid = subst (IsValid h n) (sym c.in_ok-leaves.ensures) (leaves_are_valid h n c.args.keys.now c.requires.settings.real_bits c.requires.keys);
    }
