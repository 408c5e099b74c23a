use Rattle.std.proofs.Common.{◌≡◌, ◌∙◌, ap, length, sym}
use Rattle.filter_codec.specs.Judging.{header_in, image_end, places_by}
use Rattle.filter_codec.proofs.Places.{section_0, section_1, section_2, section_3, section_4, section_5, section_6}
use Rattle.filter_codec.proofs.sections.cut.Goals as goal

pub returns-clause-dense_labels : goal.returns-clause-dense_labels
returns-clause-dense_labels c = section_0 c.args.bytes.now c.args.places.now (c.requires.places ∙ ap places_by c.requires.header)

pub returns-clause-dense_children : goal.returns-clause-dense_children
returns-clause-dense_children c = section_1 c.args.bytes.now c.args.places.now (c.requires.places ∙ ap places_by c.requires.header)

pub returns-clause-dense_ends : goal.returns-clause-dense_ends
returns-clause-dense_ends c = section_2 c.args.bytes.now c.args.places.now (c.requires.places ∙ ap places_by c.requires.header)

pub returns-clause-labels : goal.returns-clause-labels
returns-clause-labels c = section_3 c.args.bytes.now c.args.places.now (c.requires.places ∙ ap places_by c.requires.header)

pub returns-clause-children : goal.returns-clause-children
returns-clause-children c = section_4 c.args.bytes.now c.args.places.now (c.requires.places ∙ ap places_by c.requires.header)

pub returns-clause-louds : goal.returns-clause-louds
returns-clause-louds c = section_5 c.args.bytes.now c.args.places.now (c.requires.places ∙ ap places_by c.requires.header)

pub returns-clause-suffixes : goal.returns-clause-suffixes
returns-clause-suffixes c =
    let e : image_end (header_in c.args.bytes.now) ≡ length c.args.bytes.now = ap image_end (sym c.requires.header) ∙ c.requires.whole in
    section_6 c.args.bytes.now e c.args.places.now (c.requires.places ∙ ap places_by c.requires.header)
