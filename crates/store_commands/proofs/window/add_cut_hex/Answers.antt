use Rattle.std.proofs.Common.{◌≡◌, ◌≤◌, ◌*◌, ◌∙◌, ◌++◌, ap, subst, arith, length, inl}
use Rattle.map_model.specs.SortedMap.{Bytes}
use Rattle.store_commands.specs.Spoken.{HasPiece}
use Rattle.store_commands.proofs.Windows.{encode_parts, joined}
use Rattle.store_commands.proofs.window.add_cut_hex.Goals as goal

pub returns-clause-shows : goal.returns-clause-shows
returns-clause-shows c from whole shows =
    let before = c.split_at.result.0.now in
    let cut = c.split_at-2.result.0.now in
    let rest = c.split_at-2.result.1.now in
    let parts : c.args.bytes.now ≡ before ++ (cut ++ rest) =
    joined c.min.result c.args.bytes.now before _ c.split_at.ensures.front c.split_at.ensures.back
    ∙ ap (λ (l : Bytes). before ++ l) (joined c.pass_hex-window.result.skip c.split_at.result.1.now cut rest c.split_at-2.ensures.front c.split_at-2.ensures.back) in
    let past : 2 * length before ≤ c.args.window.skip = omega (arith, c.min.ensures, c.split_at.ensures.front_len) in
    subst (λ (l : Bytes). HasPiece from l c.add_hex_front.result.filled c.add_hex_front.result.skip c.add_hex_front.new.into) (encode_parts whole c.args.bytes.now before cut rest parts)
    (c.add_hex_front.ensures.shows from _ (c.add_byte-window.ensures.shows from _ (c.pass_hex-window.ensures.shows from whole c.args.into.now shows (inl past))))
