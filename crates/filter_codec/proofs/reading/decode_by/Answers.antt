use Rattle.std.proofs.Common.{◌∙◌, ap, length, sym}
use Rattle.filter_codec.proofs.Joining.{head_kept}
use Rattle.filter_codec.proofs.Judged.{at_head, at_length, at_padding, at_strays}
use Rattle.filter_codec.proofs.Spelled.{dense_bytes, few_rows, strays_same, whole}
use Rattle.filter_codec.proofs.Strays.{bytes_of}
use Rattle.filter_codec.specs.Judging.{image_end, kind_seen}
use Rattle.filter_codec.proofs.reading.decode_by.Goals as goal

pub returns-in-Some-clause-refused : goal.returns-in-Some-clause-refused
returns-in-Some-clause-refused g c =
    let b = c.args.bytes.now in
    let are = bytes_of b c.type_inv.bytes in
    at_head (kind_seen c.args.kind) b c.requires are c.in-Some.fault c.in-Some.ensures

pub read_header-header-requires : goal.read_header-header-requires
read_header-header-requires g c =
    (head_kept (kind_seen c.args.kind) c.args.bytes.now c.requires (sym c.in_default.ensures)).long

pub returns-in-Some-length_fault-clause-refused : goal.returns-in-Some-length_fault-clause-refused
returns-in-Some-length_fault-clause-refused g c =
    let b = c.args.bytes.now in
    let are = bytes_of b c.type_inv.bytes in
    let head = sym c.in_default.ensures in
    at_length (kind_seen c.args.kind) b c.requires are c.in-Some-length_fault.fault head c.in-Some-length_fault.ensures.fault

pub section_places-places-requires : goal.section_places-places-requires
section_places-places-requires g c =
    c.in_default-length_fault.ensures.fits

pub padding_fault-requires-clause-whole : goal.padding_fault-requires-clause-whole
padding_fault-requires-clause-whole g c =
    let b = c.args.bytes.now in
    let are = bytes_of b c.type_inv.bytes in
    let head = sym c.in_default.ensures in
    let is = c.read_header-header.ensures in
    let lengths = sym c.in_default-length_fault.ensures.fault in
    let w = whole b lengths in
    ap image_end is ∙ w

pub returns-in-Some-padding_fault-clause-refused : goal.returns-in-Some-padding_fault-clause-refused
returns-in-Some-padding_fault-clause-refused g c =
    let b = c.args.bytes.now in
    let are = bytes_of b c.type_inv.bytes in
    let head = sym c.in_default.ensures in
    let is = c.read_header-header.ensures in
    let lengths = sym c.in_default-length_fault.ensures.fault in
    let w = whole b lengths in
    at_padding (kind_seen c.args.kind) b c.requires are c.in-Some-padding_fault.fault head lengths c.in-Some-padding_fault.ensures

pub cut-sections-requires-clause-whole : goal.cut-sections-requires-clause-whole
cut-sections-requires-clause-whole g c =
    let b = c.args.bytes.now in
    let are = bytes_of b c.type_inv.bytes in
    let head = sym c.in_default.ensures in
    let is = c.read_header-header.ensures in
    let lengths = sym c.in_default-length_fault.ensures.fault in
    let w = whole b lengths in
    ap image_end is ∙ w

pub stray_fault-requires-clause-same : goal.stray_fault-requires-clause-same
stray_fault-requires-clause-same g c =
    let b = c.args.bytes.now in
    let are = bytes_of b c.type_inv.bytes in
    let head = sym c.in_default.ensures in
    let is = c.read_header-header.ensures in
    let lengths = sym c.in_default-length_fault.ensures.fault in
    let w = whole b lengths in
    ap length c.cut-sections.ensures.dense_children ∙ (dense_bytes b w).1 ∙ sym (ap length c.cut-sections.ensures.dense_labels ∙ (dense_bytes b w).0)

pub stray_fault-requires-clause-few : goal.stray_fault-requires-clause-few
stray_fault-requires-clause-few g c =
    let b = c.args.bytes.now in
    let are = bytes_of b c.type_inv.bytes in
    let head = sym c.in_default.ensures in
    let is = c.read_header-header.ensures in
    let lengths = sym c.in_default-length_fault.ensures.fault in
    let w = whole b lengths in
    few_rows b c.read_header-header.result is c.in_default-length_fault.ensures.fits w _ (ap length c.cut-sections.ensures.dense_labels ∙ (dense_bytes b w).0)

pub returns-in-Some-stray_fault-clause-refused : goal.returns-in-Some-stray_fault-clause-refused
returns-in-Some-stray_fault-clause-refused g c =
    let b = c.args.bytes.now in
    let are = bytes_of b c.type_inv.bytes in
    let head = sym c.in_default.ensures in
    let is = c.read_header-header.ensures in
    let lengths = sym c.in_default-length_fault.ensures.fault in
    let w = whole b lengths in
    let padding = sym c.in_default-padding_fault.ensures in
    let same = strays_same b _ _ w c.cut-sections.ensures.dense_labels c.cut-sections.ensures.dense_children in
    at_strays (kind_seen c.args.kind) b c.requires are c.in-Some-stray_fault.fault head lengths padding (c.in-Some-stray_fault.ensures ∙ same)

pub read_nodes-requires-clause-kept : goal.read_nodes-requires-clause-kept
read_nodes-requires-clause-kept g c =
    let b = c.args.bytes.now in
    let are = bytes_of b c.type_inv.bytes in
    let head = sym c.in_default.ensures in
    let is = c.read_header-header.ensures in
    let lengths = sym c.in_default-length_fault.ensures.fault in
    let w = whole b lengths in
    let padding = sym c.in_default-padding_fault.ensures in
    let same = strays_same b _ _ w c.cut-sections.ensures.dense_labels c.cut-sections.ensures.dense_children in
    record { bytes_are = are; header = head; lengths = lengths; padding = padding; strays = sym (c.in_default-stray_fault.ensures ∙ same) }

pub read_nodes-requires-clause-fits : goal.read_nodes-requires-clause-fits
read_nodes-requires-clause-fits g c =
    c.in_default-length_fault.ensures.fits

pub returns-clause-read : goal.returns-clause-read
returns-clause-read g c =
    c.read_nodes.ensures.read

pub returns-clause-refused : goal.returns-clause-refused
returns-clause-refused g c =
    c.read_nodes.ensures.refused
