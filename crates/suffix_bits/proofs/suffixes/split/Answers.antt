use Rattle.std.proofs.Common.{refl, arith}
use Rattle.std.proofs.lemmas.Nat.{and_mask, one_shl, shr_below}
use Rattle.suffix_bits.proofs.suffixes.split.Goals as goal

pub overflow_cast-result-3 : goal.overflow_cast-result-3
overflow_cast-result-3 c = record { fits = shr_below c.args.number 32 c.args.hash_bits c.requires.fits }

pub returns : goal.returns
returns c = rw (one_shl c.args.hash_bits 64 (omega (arith, c.requires.width)), and_mask c.args.number c.args.hash_bits) refl
