use Rattle.std.proofs.Common.{arith, subst, sym}
use Rattle.filter_model.specs.Leaves.{leaves_of}
use Rattle.filter_model.proofs.Validity.{leaves_are_listed}
use Rattle.trie_levels.specs.Tries.{HasTrie}
use Rattle.trie_levels.proofs.Totals.{valid_lists_have_tries}
use Rattle.filter_tests.proofs.levels.plan_of_keys.Goals as goal

pub plan-requires : goal.plan-requires
plan-requires c =
    let keys = c.args.keys.now in
    subst HasTrie (sym c.in_ok-leaves.ensures) (valid_lists_have_tries 0 0 (leaves_of 0 0 keys) (leaves_are_listed 0 0 keys (omega arith) c.requires))
