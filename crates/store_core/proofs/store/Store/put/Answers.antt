use Rattle.std.proofs.Common.{◌≡◌, ◌∙◌, true, length, refl, sym, subst, arith}
use Rattle.std.specs.Option.{option_or}
use Rattle.std.specs.Prelude.{IfErr, Result}
use Rattle.entry_model.specs.Entries.{need, put_entry}
use Rattle.line_model.specs.Limits.{key_limit, value_limit}
use Rattle.line_model.specs.Replies.{Reply}
use Rattle.line_model.specs.Requests.{Put}
use Rattle.state_model.specs.Changes.{is_long, written}
use Rattle.state_model.specs.State.{State}
use Rattle.table_model.specs.Tables.{filter_bytes_of}
use Rattle.store_core.specs.Answers.{AnswersRequest, WroteEntry, told_change}
use Rattle.store_core.specs.Framing.{IsBesideRecord, IsInUse}
use Rattle.store_core.specs.Refusing.{IsWriteDue}
use Rattle.store_core.proofs.Framing.{leaves_none}
use Rattle.store_core.specs.StoreValue.{IsConsistent}
use Rattle.store_core.specs.declared.error.StoreError.{StoreError}
use Rattle.store_core.proofs.Answering.{is_left, is_made, wrote_answers}
use Rattle.store_core.proofs.FlushAnswers.{passed_on, stands_now}
use Rattle.store_core.proofs.Limiting.{first_broken, limit_answers, none_broken, of_both, of_key, second_broken}
use Rattle.store_core.proofs.Overs.{with_some}
use Rattle.store_core.proofs.RecordsLeft.{flush_left, flush_own_left}
use Rattle.store_core.proofs.Refusals.{limit_due, long_allowed, long_due}
use Rattle.store_core.proofs.Stays.{stays_at}
use Rattle.store_core.proofs.Ties.{long_of, not_long, written_long}
use Rattle.range_model.specs.Sources.{Sets}
use Rattle.store_core.proofs.store.Store.put.Goals as goal

pub returns-in_err-check_key-clause-answered : goal.returns-in_err-check_key-clause-answered
returns-in_err-check_key-clause-answered g c s tells runs tied =
    let spelling = g.F.RangeFilter.spelling in
    let bytes = filter_bytes_of g.F.RangeFilter.spelling g.F.RangeFilter.built_cutoff in
    let w = g.D.Disk.world c.args.disk.now in
    let request = Put c.args.key.now c.args.value.now in
    let x = c.in_err-check_key.field-0.0 in
    subst (λ (r : Result (Unit {0}) StoreError). AnswersRequest spelling bytes s request (told_change r) c.args.self.now w w) (passed_on c.from_residual.result x c.from_residual.ensures.1)
    (limit_answers spelling bytes s request x c.args.self.now w w (first_broken (key_limit c.args.key.now) (value_limit c.args.value.now) x c.in_err-check_key.ensures)
    (stands_now spelling bytes c.args.self.now s (subst IsConsistent c.self.view_is c.self.invariant.0) w tied) tied)

pub returns-in_err-check_value-clause-answered : goal.returns-in_err-check_value-clause-answered
returns-in_err-check_value-clause-answered g c s tells runs tied =
    let spelling = g.F.RangeFilter.spelling in
    let bytes = filter_bytes_of g.F.RangeFilter.spelling g.F.RangeFilter.built_cutoff in
    let w = g.D.Disk.world c.args.disk.now in
    let request = Put c.args.key.now c.args.value.now in
    let x = c.in_err-check_value.field-0.0 in
    subst (λ (r : Result (Unit {0}) StoreError). AnswersRequest spelling bytes s request (told_change r) c.args.self.now w w)
    (passed_on c.from_residual-in_err-check_value.result x c.from_residual-in_err-check_value.ensures.1)
    (limit_answers spelling bytes s request x c.args.self.now w w
    (second_broken (key_limit c.args.key.now) (value_limit c.args.value.now) x c.in_ok-check_key.ensures c.in_err-check_value.ensures)
    (stands_now spelling bytes c.args.self.now s (subst IsConsistent c.self.view_is c.self.invariant.0) w tied) tied)

pub returns-clause-answered : goal.returns-clause-answered
returns-clause-answered g c s tells runs tied =
    let spelling = g.F.RangeFilter.spelling in
    let bytes = filter_bytes_of g.F.RangeFilter.spelling g.F.RangeFilter.built_cutoff in
    let old = g.D.Disk.world c.args.disk.now in
    let change = written bytes s (Sets (put_entry c.args.key.now c.args.value.now)) in
    wrote_answers spelling bytes s (Put c.args.key.now c.args.value.now) old (g.D.Disk.world c.write.new.disk) change c.write.result c.write.new.self
    (none_broken (key_limit c.args.key.now) (value_limit c.args.value.now) c.in_ok-check_key.ensures c.in_ok-check_value.ensures) refl refl (λ _. tt) (λ _ to made. is_made change to made)
    (is_left spelling bytes c.args.self.now s old tied) c.write.ensures.stopped c.write.ensures.refused (c.write.ensures.wrote s tells tied)

-- a value that is not logged is flushed over the memory
pub flush_with-requires-clause-some : goal.flush_with-requires-clause-some
flush_with-requires-clause-some g c = with_some c.args.self.now.memory.entries (put_entry c.args.key.now c.args.value.now)

pub returns-then-value-gt-MAX_LOGGED_VALUE_BYTES-clause-answered : goal.returns-then-value-gt-MAX_LOGGED_VALUE_BYTES-clause-answered
returns-then-value-gt-MAX_LOGGED_VALUE_BYTES-clause-answered g c s tells runs tied =
    let spelling = g.F.RangeFilter.spelling in
    let bytes = filter_bytes_of g.F.RangeFilter.spelling g.F.RangeFilter.built_cutoff in
    let old = g.D.Disk.world c.args.disk.now in
    let new = g.D.Disk.world c.flush_with.new.disk in
    let e = put_entry c.args.key.now c.args.value.now in
    let change = written bytes s (Sets e) in
    let long : is_long e ≡ true = long_of (length c.args.value.now) (omega arith) in
    wrote_answers spelling bytes s (Put c.args.key.now c.args.value.now) old new change c.flush_with.result c.flush_with.new.self
    (none_broken (key_limit c.args.key.now) (value_limit c.args.value.now) c.in_ok-check_key.ensures c.in_ok-check_value.ensures) refl refl (λ _. tt) (λ _ to made. is_made change to made)
    (is_left spelling bytes c.args.self.now s old tied) c.flush_with.ensures.stopped c.flush_with.ensures.refused
    (subst (λ (done : Result State Reply). WroteEntry spelling bytes s done c.flush_with.result c.flush_with.new.self old new) (sym (written_long bytes s e long)) (c.flush_with.ensures.wrote s tells tied))

pub returns-then-self-clause-unlogged : goal.returns-then-self-clause-unlogged
returns-then-self-clause-unlogged g c long = leaves_none (IsInUse c.args.self.now.manifest 262144) (g.D.Disk.world c.args.disk.now)

pub returns-in_err-check_key-clause-unlogged : goal.returns-in_err-check_key-clause-unlogged
returns-in_err-check_key-clause-unlogged g c long = leaves_none (IsInUse c.args.self.now.manifest 262144) (g.D.Disk.world c.args.disk.now)

pub returns-in_err-check_value-clause-unlogged : goal.returns-in_err-check_value-clause-unlogged
returns-in_err-check_value-clause-unlogged g c long = leaves_none (IsInUse c.args.self.now.manifest 262144) (g.D.Disk.world c.args.disk.now)

-- one that is logged is not long
pub returns-clause-unlogged : goal.returns-clause-unlogged
returns-clause-unlogged g c long = absurd (let both = sym long ∙ not_long (length c.args.value.now) (omega arith) in cc)

pub returns-in_err-check_key-clause-stays : goal.returns-in_err-check_key-clause-stays
returns-in_err-check_key-clause-stays g c = stays_at c.from_residual.result c.args.self.now c.args.self.now refl

pub returns-in_err-check_value-clause-stays : goal.returns-in_err-check_value-clause-stays
returns-in_err-check_value-clause-stays g c = stays_at c.from_residual-in_err-check_value.result c.args.self.now c.args.self.now refl

pub returns-in_err-check_key-clause-due : goal.returns-in_err-check_key-clause-due
returns-in_err-check_key-clause-due g c =
    let bytes = filter_bytes_of g.F.RangeFilter.spelling g.F.RangeFilter.built_cutoff in
    let w = g.D.Disk.world c.args.disk.now in
    let e = put_entry c.args.key.now c.args.value.now in
    let x = c.in_err-check_key.field-0.0 in
    subst (λ (r : Result (Unit {0}) StoreError). IfErr r (IsWriteDue bytes c.args.self.now e w w)) (passed_on c.from_residual.result x c.from_residual.ensures.1)
    (limit_due bytes c.args.self.now e (key_limit c.args.key.now) x w (of_key c.args.key.now) c.in_err-check_key.ensures)

pub returns-in_err-check_value-clause-due : goal.returns-in_err-check_value-clause-due
returns-in_err-check_value-clause-due g c =
    let bytes = filter_bytes_of g.F.RangeFilter.spelling g.F.RangeFilter.built_cutoff in
    let w = g.D.Disk.world c.args.disk.now in
    let key = c.args.key.now in
    let value = c.args.value.now in
    let x = c.in_err-check_value.field-0.0 in
    subst (λ (r : Result (Unit {0}) StoreError). IfErr r (IsWriteDue bytes c.args.self.now (put_entry key value) w w)) (passed_on c.from_residual-in_err-check_value.result x c.from_residual-in_err-check_value.ensures.1)
    (limit_due bytes c.args.self.now (put_entry key value) (option_or (key_limit key) (value_limit value)) x w (of_both key value) (second_broken (key_limit key) (value_limit value) x c.in_ok-check_key.ensures c.in_err-check_value.ensures))

pub returns-clause-due : goal.returns-clause-due
returns-clause-due g c = c.write.ensures.due

pub returns-clause-allowed : goal.returns-clause-allowed
returns-clause-allowed g c = c.write.ensures.allowed

-- ---- what is left as it was

pub returns-then-self-clause-frame : goal.returns-then-self-clause-frame
returns-then-self-clause-frame g c = leaves_none (IsInUse c.args.self.now.manifest c.args.self.now.log.filled) (g.D.Disk.world c.args.disk.now)

pub returns-in_err-check_key-clause-frame : goal.returns-in_err-check_key-clause-frame
returns-in_err-check_key-clause-frame g c = leaves_none (IsInUse c.args.self.now.manifest c.args.self.now.log.filled) (g.D.Disk.world c.args.disk.now)

pub returns-in_err-check_value-clause-frame : goal.returns-in_err-check_value-clause-frame
returns-in_err-check_value-clause-frame g c = leaves_none (IsInUse c.args.self.now.manifest c.args.self.now.log.filled) (g.D.Disk.world c.args.disk.now)

pub returns-clause-frame : goal.returns-clause-frame
returns-clause-frame g c = c.write.ensures.frame

pub returns-then-self-clause-own : goal.returns-then-self-clause-own
returns-then-self-clause-own g c = leaves_none (IsBesideRecord c.args.self.now.manifest c.args.self.now.log.filled (need (put_entry c.args.key.now c.args.value.now))) (g.D.Disk.world c.args.disk.now)

pub returns-in_err-check_key-clause-own : goal.returns-in_err-check_key-clause-own
returns-in_err-check_key-clause-own g c = leaves_none (IsBesideRecord c.args.self.now.manifest c.args.self.now.log.filled (need (put_entry c.args.key.now c.args.value.now))) (g.D.Disk.world c.args.disk.now)

pub returns-in_err-check_value-clause-own : goal.returns-in_err-check_value-clause-own
returns-in_err-check_value-clause-own g c = leaves_none (IsBesideRecord c.args.self.now.manifest c.args.self.now.log.filled (need (put_entry c.args.key.now c.args.value.now))) (g.D.Disk.world c.args.disk.now)

pub returns-clause-own : goal.returns-clause-own
returns-clause-own g c = c.write.ensures.own
