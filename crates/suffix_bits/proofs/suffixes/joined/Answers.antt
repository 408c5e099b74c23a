use Rattle.std.proofs.Common.{◌≡◌, ◌*◌, ◌%◌, ◌^◌, ◌∙◌, arith}
use Rattle.std.proofs.lemmas.Nat.{or_shifted, shl_whole}
use Rattle.suffix_bits.proofs.suffixes.joined.Goals as goal

pub returns : goal.returns
returns c =
    let whole : c.args.real * 2 ^ c.args.hash_bits % 2 ^ 64 ≡ c.args.real * 2 ^ c.args.hash_bits =
    shl_whole c.args.real 32 c.args.hash_bits 64 c.ranges.real.fits (omega (arith, c.requires.width)) in
    rw (c.from.ensures, c.from-2.ensures, whole) (or_shifted c.args.real c.args.hash_bits c.args.hash c.requires.fits ∙ omega arith)
