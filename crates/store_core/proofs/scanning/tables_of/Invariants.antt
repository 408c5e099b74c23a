use Rattle.std.proofs.Common.{◌≡◌, ◌++◌, drop, map}
use Rattle.std.specs.Option.{option_map}
use Rattle.store_core.specs.Scans.{keys_admitting, numbers_admitting}
use Rattle.store_core.proofs.scanning.tables_of.Given as goal

-- the numbers and keys so far and those among what is left
abbrev pub invariant-loop-place : goal.invariant-loop-place
invariant-loop-place g l = record {
  which : l.which.items ++ numbers_admitting l.low (option_map (λ h. h.now) l.high) (drop l.place l.tables) ≡ numbers_admitting l.low (option_map (λ h. h.now) l.high) l.tables;
  waking : map (λ o. option_map (λ key. key.items) o) l.waking.items ++ keys_admitting l.low (option_map (λ h. h.now) l.high) (drop l.place l.tables) ≡ keys_admitting l.low (option_map (λ h. h.now) l.high) l.tables;
}
