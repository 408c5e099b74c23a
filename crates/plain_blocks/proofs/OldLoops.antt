-- Loops over the entries of a block of the first format.
use Rattle.std.proofs.Common.{◌≡◌, ◌<◌, ◌≤◌, ◌+◌, ◌*◌, ◌^◌, ℕ, suc, List, [], ◌∷◌, length, drop, get_or, ap, ◌∙◌, arith, length-append}
use Rattle.std.specs.Prelude.{flat_map}
use Rattle.std.specs.List.{AllByRecursion}
use Rattle.std.proofs.Math.Seq.{drop-cons}
use Rattle.entry_model.specs.Entries.{Entry, body, IsEntry}
use Rattle.block_model.specs.Block.{AreEntries}
use Rattle.block_model.proofs.Lengths.{length-body}

body_bound : (e : Entry) → IsEntry e → length (body e) ≤ 1049607
body_bound e is = omega (arith, length-body e, is.short_key, is.short_value)

bodies_bound : (block : List Entry) → AllByRecursion IsEntry block → length (flat_map body block) ≤ 1049607 * length block
bodies_bound [] all = omega arith
bodies_bound (e ∷ more) all = omega (arith, length-append (body e) (flat_map body more), body_bound e all.0, bodies_bound more all.1)

pub block_bound : (block : List Entry) → AreEntries block → 8 + length (flat_map body block) < 2 ^ 53
block_bound block is = omega (arith, bodies_bound block is.each, is.few)

-- the next entry, and those after it
pub bodies_from : (block : List Entry) (i : ℕ) (d : Entry) → i < length block
    → length (flat_map body (drop i block)) ≡ length (body (get_or block i d)) + length (flat_map body (drop (suc i) block))
bodies_from block i d lt =
    ap (λ (l : List Entry). length (flat_map body l)) (drop-cons block i d lt) ∙ length-append (body (get_or block i d)) (flat_map body (drop (suc i) block))
