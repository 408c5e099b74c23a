use Rattle.std.proofs.Common.{ℕ, ap, ◌∙◌, ◌-◌}
use Rattle.std.specs.Int.RustNames.{count_ones, bit_and}
use Rattle.std.proofs.lemmas.Nat.{and_mask, one_shl}
use Rattle.lane_scan.proofs.words.ones_below.Goals as goal

pub returns : goal.returns
returns c =
    c.from.ensures ∙ ap (λ (n : ℕ). count_ones (bit_and c.args.word (n - 1))) (one_shl c.args.place 64 c.requires)
    ∙ ap count_ones (and_mask c.args.word c.args.place)
