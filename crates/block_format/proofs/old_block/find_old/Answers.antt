use Rattle.std.proofs.Common.{◌≡◌, ◌∙◌, ℕ, ap₂}
use Rattle.std.specs.Prelude.{Option, Some, None}
use Rattle.byte_fields.specs.Faults.{Fault}
use Rattle.map_model.specs.SortedMap.{Bytes}
use Rattle.entry_model.specs.Newest.{lookup}
use Rattle.block_model.specs.OldReading.{old_block_in, old_entries_in}
use Rattle.block_model.specs.Order.{is_any}
use Rattle.block_format.proofs.Standing.{all_stand}
use Rattle.block_format.proofs.Walks.{entries_none, head_none, part_is}
use Rattle.block_format.proofs.old_block.find_old.Goals as goal

pub find_in-requires : goal.find_in-requires
find_in-requires c =
    let bytes = c.args.bytes.now in
    all_stand c.in-Ok.count 8 is_any _ (entries_none bytes c.in-Ok.used c.in-Ok.count c.in-Ok.ensures.some c.in-Ok.ensures.used c.in-Ok.ensures.count c.requires)

pub returns-in-Ok : goal.returns-in-Ok
unfolding old_block_in
returns-in-Ok c =
    let bytes = c.args.bytes.now in
    c.find_in.ensures ∙ ap₂ (λ (n : ℕ) (l : Bytes). lookup (old_entries_in n l) c.args.key.now) c.in-Ok.ensures.count (part_is bytes c.in-Ok.used c.in-Ok.ensures.some c.in-Ok.ensures.used)

never : {P : Type 0} (f : Option Fault) (x : Fault) → f ≡ Some x → f ≡ None → P
never None x some none = absurd cc
never (Some y) x some none = absurd cc

pub returns-in-Err : goal.returns-in-Err
returns-in-Err c = never _ _ c.in-Err.ensures.broken (head_none c.args.bytes.now c.requires)
