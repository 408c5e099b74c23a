-- Reads, one after the other, and why one ends a check.
use Rattle.std.proofs.Common.{◌≡◌, ◌+◌, ◌≤◌, ℕ, sym, subst, arith}
use Rattle.std.specs.Prelude.{Ok, Err, IfErr, IsErrAnd, OnErr, OnOk}
use Rattle.std.specs.declared.result.Result.{Result}
use Rattle.disk_trait.specs.World.{ReadMoves, Rose, World}
use Rattle.disk_trait.proofs.Calls.{reads_none, reads_then}
use Rattle.store_check.specs.Causes.{HasCause, IsErrorOf, OnlyReads}
use Rattle.store_check.specs.declared.error.CheckError.{CheckError}
use Rattle.store_check.specs.declared.error.CheckError.TheVariants as check
use Rattle.table_file.specs.Faults.{HasReadCause}
use Rattle.table_file.specs.declared.fault.TableFault.{TableFault}
use Rattle.table_file.specs.declared.fault.TableFault.TheVariants as table

pub only_then : (a b c : World) → OnlyReads a b → OnlyReads b c → OnlyReads a c
only_then a b c one two = (one.0 + two.0, reads_then one.0 two.0 a b c one.1 two.1)

pub one_more : (n : ℕ) (a b c : World) → OnlyReads a b → ReadMoves n b c → OnlyReads a c
one_more n a b c one two = (one.0 + n, reads_then one.0 n a b c one.1 two)

pub then_more : (n : ℕ) (a b c : World) → ReadMoves n a b → OnlyReads b c → OnlyReads a c
then_more n a b c one two = (n + two.0, reads_then n two.0 a b c one two.1)

pub then_reads : (m n : ℕ) (a b c : World) → ReadMoves m a b → ReadMoves n b c → OnlyReads a c
then_reads m n a b c one two = (m + n, reads_then m n a b c one two)

pub no_reads : (a : World) → OnlyReads a a
no_reads a = (0, reads_none 0 a)

pub cause_of : (at : ℕ) (old new : World) (fault : TableFault) (error : CheckError) → HasReadCause at old new fault → IsErrorOf fault error → HasCause old new error
cause_of at old new table.Memory error cause is = subst (HasCause old new) (sym is) tt
cause_of at old new (table.Device f) error cause is = subst (HasCause old new) (sym is) cause.1
cause_of at old new (table.Damaged d) error cause is = absurd is

rose_later : (a b c : ℕ) → a ≤ b → Rose b c → Rose a c
rose_later a b c le rose = omega (arith, le, rose)

pub later_cause : (a b c : World) (error : CheckError) → a.seen.read_faults ≤ b.seen.read_faults → HasCause b c error → HasCause a c error
later_cause a b c check.Memory le cause = tt
later_cause a b c check.NotAStore le cause = tt
later_cause a b c (check.Device f) le cause = rose_later a.seen.read_faults b.seen.read_faults c.seen.read_faults le cause

pub memory_cause : (a b : World) (error : CheckError) → error ≡ check.Memory → HasCause a b error
memory_cause a b error is = subst (HasCause a b) (sym is) tt

-- ---- what is handed on

pub at_err : {T E : Type 0} (r : Result T E) (Q : Type 0) → Q → OnErr r Q
at_err (Ok x) Q q = tt
at_err (Err e) Q q = q

pub at_ok : {T E : Type 0} (r : Result T E) (Q : Type 0) → Q → OnOk r Q
at_ok (Ok x) Q q = q
at_ok (Err e) Q q = tt

pub none_at_err : {T E : Type 0} (r : Result T E) (e : E) (Q : Type 0) → r ≡ Err e → OnOk r Q
none_at_err (Ok x) e Q is = absurd cc
none_at_err (Err y) e Q is = tt

pub cause_given : {T : Type 0} (r : Result T CheckError) (a b : World) (e : CheckError) → IsErrAnd r (λ y. y ≡ e) → HasCause a b e → IfErr r (HasCause a b)
cause_given (Ok x) a b e is cause = tt
cause_given (Err y) a b e is cause = subst (HasCause a b) (sym is) cause
