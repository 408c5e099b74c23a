use Rattle.std.proofs.Common.{refl, subst}
use Rattle.std.specs.Prelude.{IfErr, Result}
use Rattle.entry_model.specs.Entries.{del_entry, need}
use Rattle.line_model.specs.Limits.{key_limit}
use Rattle.line_model.specs.Requests.{Del}
use Rattle.state_model.specs.Changes.{written}
use Rattle.table_model.specs.Tables.{filter_bytes_of}
use Rattle.store_core.specs.Answers.{AnswersRequest, told_change}
use Rattle.store_core.specs.Framing.{IsBesideRecord, IsInUse}
use Rattle.store_core.specs.Refusing.{IsWriteDue}
use Rattle.store_core.proofs.Framing.{leaves_none}
use Rattle.store_core.specs.StoreValue.{IsConsistent}
use Rattle.store_core.specs.declared.error.StoreError.{StoreError}
use Rattle.store_core.proofs.Answering.{is_left, is_made, wrote_answers}
use Rattle.store_core.proofs.FlushAnswers.{passed_on, stands_now}
use Rattle.store_core.proofs.Limiting.{limit_answers, of_key}
use Rattle.store_core.proofs.Refusals.{limit_due}
use Rattle.store_core.proofs.Stays.{stays_at}
use Rattle.range_model.specs.Sources.{Sets}
use Rattle.store_core.proofs.store.Store.delete.Goals as goal

pub returns-in_err-check_key-clause-answered : goal.returns-in_err-check_key-clause-answered
returns-in_err-check_key-clause-answered g c s tells runs tied =
    let spelling = g.F.RangeFilter.spelling in
    let bytes = filter_bytes_of g.F.RangeFilter.spelling g.F.RangeFilter.built_cutoff in
    let w = g.D.Disk.world c.args.disk.now in
    let request = Del c.args.key.now in
    let x = c.in_err-check_key.field-0.0 in
    subst (λ (r : Result (Unit {0}) StoreError). AnswersRequest spelling bytes s request (told_change r) c.args.self.now w w) (passed_on c.from_residual.result x c.from_residual.ensures.1)
    (limit_answers spelling bytes s request x c.args.self.now w w c.in_err-check_key.ensures
    (stands_now spelling bytes c.args.self.now s (subst IsConsistent c.self.view_is c.self.invariant.0) w tied) tied)

pub returns-clause-answered : goal.returns-clause-answered
returns-clause-answered g c s tells runs tied =
    let spelling = g.F.RangeFilter.spelling in
    let bytes = filter_bytes_of g.F.RangeFilter.spelling g.F.RangeFilter.built_cutoff in
    let old = g.D.Disk.world c.args.disk.now in
    let change = written bytes s (Sets (del_entry c.args.key.now)) in
    wrote_answers spelling bytes s (Del c.args.key.now) old (g.D.Disk.world c.write.new.disk) change c.write.result c.write.new.self c.in_ok-check_key.ensures refl refl (λ _. tt)
    (λ _ to made. is_made change to made) (is_left spelling bytes c.args.self.now s old tied) c.write.ensures.stopped c.write.ensures.refused (c.write.ensures.wrote s tells tied)

pub returns-in_err-check_key-clause-stays : goal.returns-in_err-check_key-clause-stays
returns-in_err-check_key-clause-stays g c = stays_at c.from_residual.result c.args.self.now c.args.self.now refl

pub returns-in_err-check_key-clause-due : goal.returns-in_err-check_key-clause-due
returns-in_err-check_key-clause-due g c =
    let bytes = filter_bytes_of g.F.RangeFilter.spelling g.F.RangeFilter.built_cutoff in
    let w = g.D.Disk.world c.args.disk.now in
    let e = del_entry c.args.key.now in
    let x = c.in_err-check_key.field-0.0 in
    subst (λ (r : Result (Unit {0}) StoreError). IfErr r (IsWriteDue bytes c.args.self.now e w w)) (passed_on c.from_residual.result x c.from_residual.ensures.1)
    (limit_due bytes c.args.self.now e (key_limit c.args.key.now) x w (of_key c.args.key.now) c.in_err-check_key.ensures)

pub returns-clause-due : goal.returns-clause-due
returns-clause-due g c = c.write.ensures.due

pub returns-clause-allowed : goal.returns-clause-allowed
returns-clause-allowed g c = c.write.ensures.allowed

-- ---- what is left as it was

pub returns-then-self-clause-frame : goal.returns-then-self-clause-frame
returns-then-self-clause-frame g c = leaves_none (IsInUse c.args.self.now.manifest c.args.self.now.log.filled) (g.D.Disk.world c.args.disk.now)

pub returns-in_err-check_key-clause-frame : goal.returns-in_err-check_key-clause-frame
returns-in_err-check_key-clause-frame g c = leaves_none (IsInUse c.args.self.now.manifest c.args.self.now.log.filled) (g.D.Disk.world c.args.disk.now)

pub returns-clause-frame : goal.returns-clause-frame
returns-clause-frame g c = c.write.ensures.frame

pub returns-then-self-clause-own : goal.returns-then-self-clause-own
returns-then-self-clause-own g c = leaves_none (IsBesideRecord c.args.self.now.manifest c.args.self.now.log.filled (need (del_entry c.args.key.now))) (g.D.Disk.world c.args.disk.now)

pub returns-in_err-check_key-clause-own : goal.returns-in_err-check_key-clause-own
returns-in_err-check_key-clause-own g c = leaves_none (IsBesideRecord c.args.self.now.manifest c.args.self.now.log.filled (need (del_entry c.args.key.now))) (g.D.Disk.world c.args.disk.now)

pub returns-clause-own : goal.returns-clause-own
returns-clause-own g c = c.write.ensures.own
