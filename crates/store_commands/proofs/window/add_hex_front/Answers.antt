use Rattle.std.proofs.Common.{◌≡◌, ◌≤◌, ◌*◌, ◌⊎◌, ◌∙◌, ◌++◌, ap, subst, arith, length, inl, inr}
use Rattle.std.proofs.lemmas.Bool.{cases_lt}
use Rattle.map_model.specs.SortedMap.{Bytes}
use Rattle.store_commands.specs.Spoken.{HasPiece}
use Rattle.store_commands.proofs.Windows.{encode_parts, joined}
use Rattle.store_commands.proofs.window.add_hex_front.Goals as goal

pub returns-clause-shows : goal.returns-clause-shows
returns-clause-shows c from whole shows =
    let inside = c.split_at.result.0.now in
    let cut = c.split_at-2.result.0.now in
    let behind = c.split_at-2.result.1.now in
    let parts : c.args.bytes.now ≡ inside ++ (cut ++ behind) =
    joined c.min.result c.args.bytes.now inside _ c.split_at.ensures.front c.split_at.ensures.back
    ∙ ap (λ (l : Bytes). inside ++ l) (joined c.min-2.result c.split_at.result.1.now cut behind c.split_at-2.ensures.front c.split_at-2.ensures.back) in
    let out : (2 * length behind ≤ c.add_byte-window.result.skip) ⊎ (c.add_byte-window.result.filled ≡ length c.add_byte-window.new.into) =
    elim (cases_lt 0 (length behind)) [
      | inl some ↦
          inr (omega (
            arith,
            some,
            c.min.ensures,
            c.split_at.ensures.front_len,
            c.split_at.ensures.back_len,
            c.put_whole-window.ensures.lands,
            c.put_whole-window.ensures.skips,
            c.put_whole-window.auto.into,
            c.min-2.ensures,
            c.split_at-2.ensures.front_len,
            c.split_at-2.ensures.back_len,
            c.add_byte-window.ensures.lands,
            c.add_byte-window.auto.into,
          ))
      | inr none ↦ inl (omega (arith, none))
    ] in
    subst (λ (l : Bytes). HasPiece from l c.pass_hex.result.filled c.pass_hex.result.skip c.add_byte-window.new.into) (encode_parts whole c.args.bytes.now inside cut behind parts)
    (c.pass_hex.ensures.shows from _ _ (c.add_byte-window.ensures.shows from _ (c.put_whole-window.ensures.shows from whole shows)) out)
