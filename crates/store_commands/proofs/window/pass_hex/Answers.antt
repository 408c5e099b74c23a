use Rattle.std.proofs.Common.{◌≡◌, ◌≤◌, ◌⊎◌, ◌-◌, ◌++◌, subst, arith, length, ℕ, inl, inr}
use Rattle.hex.proofs.HexLemmas.{length-encode_with}
use Rattle.hex.specs.Hex.{encode_lower, lower_digits}
use Rattle.store_commands.specs.Spoken.{HasPiece}
use Rattle.store_commands.proofs.Windows.{shows_past}
use Rattle.store_commands.proofs.window.pass_hex.Goals as goal

pub returns-clause-shows : goal.returns-clause-shows
returns-clause-shows c from whole buffer shows out =
    let text = encode_lower c.args.bytes.now in
    let size = length-encode_with lower_digits c.args.bytes.now in
    let past : (length text ≤ c.args.window.skip) ⊎ (c.args.window.filled ≡ length buffer) = elim out [ inl before ↦ inl (omega (arith, size)) | inr full ↦ inr full ] in
    let left : c.args.window.skip - length text ≡ c.saturating_sub.result = omega (arith, size, c.saturating_sub.ensures) in
    subst (λ (k : ℕ). HasPiece from (whole ++ text) c.args.window.filled k buffer) left (shows_past from whole text _ _ _ shows past)
