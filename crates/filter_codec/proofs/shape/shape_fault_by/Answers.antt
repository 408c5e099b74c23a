use Rattle.std.proofs.Common.{◌∙◌, ap, length, sym, Bool}
use Rattle.std.specs.Option.{option_or}
use Rattle.std.specs.Prelude.{Option}
use Rattle.byte_fields.specs.Faults.{Fault, refuse}
use Rattle.filter_codec.proofs.Places.{or_none, or_some}
use Rattle.filter_codec.specs.Rules.{labels_place}
use Rattle.filter_image_model.specs.Reading.{nodes_fault}
use Rattle.filter_codec.proofs.shape.shape_fault_by.Goals as goal

pub returns-then-is_wrong_root : goal.returns-then-is_wrong_root
returns-then-is_wrong_root g c =
    let ds = c.args.packed.now.dense in
    let ss = c.args.packed.now.sparse in
    let l = c.args.beside in
    let later : Option Fault = option_or (nodes_fault (λ n. 32) l 40 ds) (nodes_fault length l (labels_place (length ds)) ss) in
    c.fault.ensures ∙ ap (λ (t : Bool). refuse t 40 9 later) (sym (sym c.is_wrong_root.ensures ∙ c.if-is_wrong_root.true))

pub returns-in-Some : goal.returns-in-Some
returns-in-Some g c =
    let ds = c.args.packed.now.dense in
    let ss = c.args.packed.now.sparse in
    let l = c.args.beside in
    let later : Option Fault = option_or (nodes_fault (λ n. 32) l 40 ds) (nodes_fault length l (labels_place (length ds)) ss) in
    or_some _ _ _ c.in-Some.ensures ∙ ap (λ (t : Bool). refuse t 40 9 later) (sym (sym c.is_wrong_root.ensures ∙ c.if-is_wrong_root.false))

pub returns : goal.returns
returns g c =
    let ds = c.args.packed.now.dense in
    let ss = c.args.packed.now.sparse in
    let l = c.args.beside in
    let later : Option Fault = option_or (nodes_fault (λ n. 32) l 40 ds) (nodes_fault length l (labels_place (length ds)) ss) in
    or_none _ _ _ c.in_default.ensures c.labels_fault.ensures ∙ ap (λ (t : Bool). refuse t 40 9 later) (sym (sym c.is_wrong_root.ensures ∙ c.if-is_wrong_root.false))
