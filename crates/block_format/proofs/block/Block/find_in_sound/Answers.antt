use Rattle.std.proofs.Common.{◌≡◌}
use Rattle.std.specs.Prelude.{Option, Some, None}
use Rattle.byte_fields.specs.Faults.{Fault}
use Rattle.block_model.specs.BlockReading.{block_fault_by}
use Rattle.block_model.proofs.Refusals.{neither}
use Rattle.block_format.proofs.block.Block.find_in_sound.Goals as goal

pub find_any-requires : goal.find_any-requires
find_any-requires c =
    let h = c.in-Ok.ensures in
    record {
      whole = c.requires;
      format = h.format;
      used = h.used;
      count = h.count;
      from = h.from;
      many = h.many;
      within = h.within.0;
      inside = h.within.1;
    }

never : {P : Type 0} (f : Option Fault) (x : Fault) → f ≡ Some x → f ≡ None → P
never None x some none = absurd cc
never (Some y) x some none = absurd cc

-- a header without a fault is not refused
pub returns-in-Err : goal.returns-in-Err
unfolding block_fault_by
returns-in-Err c = never _ _ c.in-Err.ensures.broken (neither _ _ c.requires).0
