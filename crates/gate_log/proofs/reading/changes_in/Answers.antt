use Rattle.std.proofs.Common.{◌≡◌, ◌+◌, ℕ, List, [], ◌∷◌, ◌++◌, ◌∙◌, drop, ap, sym, subst}
use Rattle.std.proofs.lemmas.List.{take_rest}
use Rattle.std.specs.Prelude.{Some, None, get_or}
use Rattle.byte_fields.specs.Spelling.{IsBytes}
use Rattle.range_model.specs.Sources.{Change}
use Rattle.log_model.specs.Changes.{change_in, filled_by}
use Rattle.log_model.specs.Records.{BeginsWith, broken_rule}
use Rattle.entry_model.specs.Reading.{width_in}
use Rattle.log_model.proofs.Ends.{one_list, not_both}
use Rattle.log_model.proofs.Logs.{none_filled}
use Rattle.log_model.proofs.Walks.{begins_with_none, begins_next, filled_next}
use Rattle.gate_log.proofs.reading.changes_in.Goals as goal

pub loop-at-init : goal.loop-at-init
loop-at-init c = record {
  begins = subst (λ (es : List Change). BeginsWith es c.args.bytes.now) (sym c.new-changes.ensures.items) (begins_with_none c.args.bytes.now c.requires);
  here = sym (ap filled_by c.new-changes.ensures.items ∙ none_filled);
}

pub loop-at-preserved : goal.loop-at-preserved
loop-at-preserved c =
    let bytes = c.args.bytes.now in
    let at = c.loop-at.at in
    let changes = c.loop-at.changes.items in
    let rest = take_rest bytes (at + 1) in
    let whole : broken_rule (drop (at + 1) bytes) ≡ None = ap broken_rule (sym rest) ∙ c.in-Ok.ensures.whole in
    let change : c.in_ok-change.change ≡ change_in (drop (at + 1) bytes) = c.in_ok-change.ensures ∙ c.in-Ok.ensures.change ∙ ap change_in rest in
    let size : c.in-Ok.body.length ≡ width_in (drop (at + 1) bytes) = c.in-Ok.ensures.size ∙ ap width_in rest in
    let items : c.push.new.self.items ≡ changes ++ change_in (drop (at + 1) bytes) ∷ [] = c.in_ok-push.ensures.items ∙ ap (λ (e : Change). changes ++ e ∷ []) change in
    let is_bytes : IsBytes bytes = λ i. (c.type_inv.bytes i).fits in
    record {
      begins = subst (λ (es : List Change). BeginsWith es bytes) (sym items) (begins_next bytes is_bytes changes at c.loop-at.invariant.begins c.loop-at.invariant.here c.loop-at-test.true whole);
      here = ap (λ (n : ℕ). at + (1 + n)) size ∙ filled_next bytes is_bytes changes at c.loop-at.invariant.begins c.loop-at.invariant.here c.loop-at-test.true whole ∙ ap filled_by (sym items);
    }

pub returns-in-Err-clause-exact : goal.returns-in-Err-clause-exact
returns-in-Err-clause-exact c changes spelled =
    let bytes = c.args.bytes.now in
    let at = c.loop-at.at in
    let broken : broken_rule (drop (at + 1) bytes) ≡ Some c.in-Err.rule = ap broken_rule (sym (take_rest bytes (at + 1))) ∙ c.in-Err.ensures.broken in
    absurd (not_both changes at c.in-Err.rule bytes spelled (record {
      before = c.loop-at.changes.items;
      begins = c.loop-at.invariant.begins;
      here = c.loop-at.invariant.here;
      opened = c.loop-at-test.true;
      broken = broken;
    }))

pub returns-clause-exact : goal.returns-clause-exact
returns-clause-exact c changes spelled =
    one_list c.loop-at.changes.items changes c.args.bytes.now
    (record { begins = c.loop-at.invariant.begins; closed = λ now. c.loop-at-test.false (ap (λ (k : ℕ). get_or c.args.bytes.now k 0) c.loop-at.invariant.here ∙ now) }) spelled
