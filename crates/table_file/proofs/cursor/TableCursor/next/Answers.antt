use Rattle.std.proofs.Common.{◌≤◌, ◌<◌, ℕ, rules, refl, length}
use Rattle.std.specs.Prelude.{Result, Ok, Err, IsErr, OnOk, OnErr, IfOk, IfErr, IsTrue}
use Rattle.block_model.specs.Places.{byte_of_page}
use Rattle.table_file.specs.Faults.{HasReadCause}
use Rattle.table_file.specs.Search.{IsGetFault, page_at}
use Rattle.table_file.proofs.cursor.TableCursor.next.Goals as goal

no_ok : {T E : Type 0} (result : Result T E) (P : Type 0) → IsErr result → OnOk result P
no_ok (Ok value) P failed = absurd cc
no_ok (Err fault) P failed = tt

no_value : {T E : Type 0} (result : Result T E) (P : T → Type 0) → IsErr result → IfOk result P
no_value (Ok value) P failed = absurd cc
no_value (Err fault) P failed = tt

at_err : {T E : Type 0} (result : Result T E) (P : Type 0) → P → OnErr result P
at_err (Ok value) P p = tt
at_err (Err fault) P p = p

-- some block from the old one on
of_some_block : {T E : Type 0} (result : Result T E) (P : ℕ → E → Type 0) (old new blocks : ℕ) → old ≤ new → new < blocks
    → IfErr result (P new) → IfErr result (λ fault. (n : ℕ) × (old ≤ n) × (n < blocks) × P n fault)
of_some_block (Ok value) P old new blocks onward there p = tt
of_some_block (Err fault) P old new blocks onward there p = (new, onward, there, p)

pub returns-in_err-advance : goal.returns-in_err-advance
returns-in_err-advance g c =
    let failed = c.from_residual.ensures.0 in
    let t = c.args.table.now in
    let before = g.D.Disk.world c.args.disk.now in
    let after = g.D.Disk.world c.advance.new.disk in
    let block = c.advance.new.self.block in
    let cause : IfErr c.from_residual.result (HasReadCause (byte_of_page (page_at t block)) before after) = search rules in
    let fault : IsTrue g.D.Disk.tells → IfErr c.from_residual.result (IsGetFault t block before.seen.held) = search rules in (
      (
        refl,
        (λ _. tt),
        (
          c.advance.ensures.room,
          (λ tells. no_ok c.from_residual.result _ failed),
          no_value c.from_residual.result _ failed,
          (λ tells. at_err c.from_residual.result _ (c.in_err-advance.ensures.stays tells)),
          at_err c.from_residual.result _ c.in_err-advance.ensures.none_at_hand,
          c.advance.ensures.goes_on,
          c.advance.ensures.onward,
          (λ tells begins. no_ok c.from_residual.result _ failed),
        ),
      ),
      record {
        after = tt;
        sound = search rules;
        idle = search rules;
        never_memory = search rules;
        cause = of_some_block c.from_residual.result (λ n. HasReadCause (byte_of_page (page_at t n)) before after)
            c.args.self.now.block block (length t.index.rows) c.advance.ensures.onward c.in_err-advance.ensures.there cause;
        fault = λ tells. of_some_block c.from_residual.result (λ n. IsGetFault t n before.seen.held)
            c.args.self.now.block block (length t.index.rows) c.advance.ensures.onward c.in_err-advance.ensures.there (fault tells);
        moves = search rules;
        bounded = search rules;
        counted = search rules;
      },
    )
