-- The table is held against the definition at each of its entries, by computing.
use Rattle.std.proofs.Common.{◌<◌, ◌+◌, ◌*◌, ℕ, get_or, refl, arith}
use Rattle.std.specs.Int.RustNames.{count_ones}
use Rattle.std.proofs.lemmas.Nat.{ones-le}
use Rattle.bit_select.specs.declared.byte.TheConstants.{PLACES}
use Rattle.bit_select.proofs.Table.{fits, all_fit, IsPlace, place_of}
use Rattle.bit_select.proofs.byte.nth_one_in_byte.Goals as goal

place : (byte n : ℕ) → byte < 256 → n < count_ones byte → IsPlace byte n (get_or PLACES (8 * byte + n) 0)
unfolding all_fit fits count_ones
place byte n low there = place_of PLACES refl byte n (omega (arith, ones-le 8 byte low, there)) there (omega (arith, ones-le 8 byte low, there))

pub returns-clause-place : goal.returns-clause-place
returns-clause-place c = (place c.args.byte c.args.n (omega arith) c.requires).low

pub returns-clause-is_set : goal.returns-clause-is_set
returns-clause-is_set c = (place c.args.byte c.args.n (omega arith) c.requires).is_set

pub returns-clause-before : goal.returns-clause-before
returns-clause-before c = (place c.args.byte c.args.n (omega arith) c.requires).before
