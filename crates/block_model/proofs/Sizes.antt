-- Bounds on what the entries of an old block add up, and an entry of some at its number.
use Rattle.std.proofs.Common.{◌≡◌, ◌<◌, ◌≤◌, ◌+◌, ◌*◌, ℕ, zero, suc, List, [], ◌∷◌, ◌++◌, length, get_or, arith, length-append}
use Rattle.std.specs.Prelude.{flat_map}
use Rattle.std.specs.List.{AllByRecursion}
use Rattle.entry_model.specs.Entries.{Entry, IsEntry, IsLogged, body}
use Rattle.block_model.specs.Block.{AreEntries}
use Rattle.block_model.proofs.Lengths.{length-body}

pub all_at : {X : Type 0} (P : X → Type 0) (xs : List X) (i : ℕ) (d : X) → AllByRecursion P xs → i < length xs → P (get_or xs i d)
all_at P [] i d all lt = absurd (omega (arith, lt))
all_at P (x ∷ xs) zero d all lt = all.0
all_at P (x ∷ xs) (suc i) d all lt = all_at P xs i d all.1 (omega (arith, lt))

pub entry_at : (block : List Entry) (i : ℕ) (d : Entry) → AreEntries block → i < length block → IsEntry (get_or block i d)
entry_at block i d is lt = all_at IsEntry block i d is.each lt

body_bound : (e : Entry) → IsLogged e → length (body e) ≤ 66567
body_bound e is = omega (arith, length-body e, is.sound.short_key, is.short)

pub bodies_bound : (block : List Entry) → AllByRecursion IsLogged block → length (flat_map body block) ≤ 66567 * length block
bodies_bound [] all = omega arith
bodies_bound (e ∷ more) all = omega (arith, length-append (body e) (flat_map body more), body_bound e all.0, bodies_bound more all.1)
