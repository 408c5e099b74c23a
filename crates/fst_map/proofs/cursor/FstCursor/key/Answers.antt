use Rattle.std.proofs.Common.{◌∙◌, ap, sym}
use Rattle.std.specs.Prelude.{slice_get}
use Rattle.std.specs.Option.{option_map}
use Rattle.fst_map.proofs.Standing.{key_is}
use Rattle.fst_map.proofs.cursor.FstCursor.key.Goals as goal
use Rattle.fst_map.specs.Places.{Place}

pub shared_ref_as_front-result : goal.shared_ref_as_front-result
shared_ref_as_front-result g c = c.self.invariant.written.fits

pub returns : goal.returns
returns g c =
    let i = c.self.inside in
    ap (λ (p : Place). option_map (λ pair. pair.0) (slice_get p.map p.number)) (sym c.self.view_is) ∙ key_is i.bytes.now i.parts i.leaf i.buffer i.len c.self.invariant
