use Rattle.std.proofs.Common.{sym, arith, ◌∙◌}
use Rattle.filter_model.specs.Strings.{is_prefix}
use Rattle.filter_api.specs.Seen.{seen}
use Rattle.plain_filter.proofs.LeafLemmas.{extends-longer, extends-shorter}
use Rattle.plain_filter.proofs.valid.stub_extends.Goals as goal

pub returns : goal.returns
returns c =
    let p = (seen c.args.leaf.now).stub in
    let x = (seen c.args.other.now).stub in
    c.begins_with.ensures.value ∙ (λ j. is_prefix (c.as_slice-stub.ensures.value j) (c.as_slice-longer.ensures.value j)) ∙ sym (extends-longer p x (omega (arith, c.as_slice-stub.ensures.len, c.as_slice-longer.ensures.len)))

pub returns-then-stub-longer : goal.returns-then-stub-longer
returns-then-stub-longer c =
    sym (extends-shorter (seen c.args.leaf.now).stub (seen c.args.other.now).stub (omega (arith, c.as_slice-stub.ensures.len, c.as_slice-longer.ensures.len)))
