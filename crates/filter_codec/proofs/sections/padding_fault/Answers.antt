use Rattle.std.proofs.Common.{◌∙◌, ◌+◌, ◌*◌, sym}
use Rattle.filter_codec.proofs.Places.{or_none, or_some, padded_by, padding_in}
use Rattle.filter_codec.proofs.sections.padding_fault.Goals as goal

pub returns-in-Some : goal.returns-in-Some
returns-in-Some c = or_some _ _ _ c.in-Some.ensures ∙ sym (padded_by c.args.bytes.now c.args.header.now c.args.places.now c.requires.header c.requires.places)

pub returns-in-Some-padding_in : goal.returns-in-Some-padding_in
returns-in-Some-padding_in c =
    or_none _ _ _ c.in_default.ensures (or_some _ _ _ c.in-Some-padding_in.ensures)
    ∙ sym (padded_by c.args.bytes.now c.args.header.now c.args.places.now c.requires.header c.requires.places)

pub returns-in-Some-padding_in-2 : goal.returns-in-Some-padding_in-2
returns-in-Some-padding_in-2 c =
    or_none _ _ _ c.in_default.ensures (or_none _ _ _ c.in_default-padding_in.ensures (or_some _ _ _ c.in-Some-padding_in-2.ensures))
    ∙ sym (padded_by c.args.bytes.now c.args.header.now c.args.places.now c.requires.header c.requires.places)

pub returns : goal.returns
returns c =
    let h = c.args.header.now in
    let last = c.padding_in-4.ensures ∙ (λ j. padding_in c.args.places.now.suffixes (h.leaves * (c.from.ensures j + c.from-2.ensures j)) c.args.bytes.now) in
    or_none _ _ _ c.in_default.ensures (or_none _ _ _ c.in_default-padding_in.ensures (or_none _ _ _ c.in_default-padding_in-2.ensures last))
    ∙ sym (padded_by c.args.bytes.now h c.args.places.now c.requires.header c.requires.places)
