-- A limit of the key or the value that is broken, or that is kept.
use Rattle.std.proofs.Common.{◌≡◌, ◌≤◌, ℕ, Bool, true, false, cond, refl, ap, ◌∙◌, length, arith}
use Rattle.std.specs.Option.{option_or}
use Rattle.std.specs.Prelude.{Option, Some, None, nat_lt, ◌==◌, ◌||◌}
use Rattle.byte_fields.specs.Spelling.{IsBytes}
use Rattle.disk_trait.specs.World.{Meanwhile, World}
use Rattle.entry_model.specs.Entries.{Entry, IsEntry, IsLogged, bytes_of, entry_of}
use Rattle.filter_api.specs.Spellings.{Spelling}
use Rattle.image_model.specs.Stands.{StandsForMap}
use Rattle.line_model.specs.Limits.{key_limit, limit_of, value_limit}
use Rattle.line_model.specs.Replies.{Reply, LongKey, LongValue, ManyTables, LastEpoch}
use Rattle.line_model.specs.Requests.{Request}
use Rattle.map_model.specs.SortedMap.{Bytes}
use Rattle.state_model.specs.State.{State}
use Rattle.state_model.specs.View.{state_map}
use Rattle.table_model.specs.Tables.{FilterBytes}
use Rattle.store_core.specs.Answers.{AnswersRequest, IsLimitOf, IsWriteRefusal, told, told_limit}
use Rattle.store_core.specs.StoreValue.{StoreValue}
use Rattle.store_core.specs.Represents.{Represents}
use Rattle.store_core.specs.declared.error.Limit.TheVariants as limit
use Rattle.store_core.specs.declared.error.StoreError.{StoreError}
use Rattle.store_core.specs.declared.error.StoreError.TheVariants as error
use Rattle.store_core.proofs.Answering.{limited}

-- ---- of two limits the first

pub first_broken : (a b : Option Reply) (x : StoreError) → IsLimitOf a x → IsLimitOf (option_or a b) x
first_broken a b (error.Limit l) is = ap (λ (o : Option Reply). option_or o b) is
first_broken a b error.Memory is = absurd is
first_broken a b (error.Device cause) is = absurd is
first_broken a b error.Stopped is = absurd is
first_broken a b (error.Full need gap) is = absurd is
first_broken a b (error.Damaged damage) is = absurd is
first_broken a b error.NotAStore is = absurd is
first_broken a b error.AlreadyAStore is = absurd is
first_broken a b (error.BadSettings field) is = absurd is

pub second_broken : (a b : Option Reply) (x : StoreError) → a ≡ None → IsLimitOf b x → IsLimitOf (option_or a b) x
second_broken a b (error.Limit l) none is = ap (λ (o : Option Reply). option_or o b) none ∙ is
second_broken a b error.Memory none is = absurd is
second_broken a b (error.Device cause) none is = absurd is
second_broken a b error.Stopped none is = absurd is
second_broken a b (error.Full need gap) none is = absurd is
second_broken a b (error.Damaged damage) none is = absurd is
second_broken a b error.NotAStore none is = absurd is
second_broken a b error.AlreadyAStore none is = absurd is
second_broken a b (error.BadSettings field) none is = absurd is

-- both are kept
pub none_broken : (a b : Option Reply) → a ≡ None → b ≡ None → option_or a b ≡ None
none_broken a b first second = ap (λ (o : Option Reply). option_or o b) first ∙ second

-- ---- they are no limits of tables or of the epoch

-- the limit of a key or of a value
abbrev pub IsOfEntry : Option Reply → Type 0
IsOfEntry broken = (broken ≡ Some ManyTables → ⊥) × (broken ≡ Some LastEpoch → ⊥)

by_test : (test : Bool) (limit other : Reply) → (limit ≡ other → ⊥) → cond test (Some limit) None ≡ Some other → ⊥
by_test true limit other unlike is = unlike cc
by_test false limit other unlike is = cc

pub of_key : (key : Bytes) → IsOfEntry (key_limit key)
of_key key = (
  by_test (length key == 0 || nat_lt 1024 (length key)) (LongKey (length key)) ManyTables (λ e. cc),
  by_test (length key == 0 || nat_lt 1024 (length key)) (LongKey (length key)) LastEpoch (λ e. cc),
)

of_value : (value : Bytes) → IsOfEntry (value_limit value)
of_value value = (
  by_test (nat_lt 1048576 (length value)) (LongValue (length value)) ManyTables (λ e. cc),
  by_test (nat_lt 1048576 (length value)) (LongValue (length value)) LastEpoch (λ e. cc),
)

of_first : (a b : Option Reply) → IsOfEntry a → IsOfEntry b → IsOfEntry (option_or a b)
of_first (Some limit) b first second = first
of_first None b first second = second

pub of_both : (key value : Bytes) → IsOfEntry (option_or (key_limit key) (value_limit value))
of_both key value = of_first (key_limit key) (value_limit value) (of_key key) (of_value value)

-- ---- what it is answered

pub limit_refuses : (broken : Option Reply) (x : StoreError) (a b : World) (stopped : Bool) → stopped ≡ false → IsOfEntry broken → IsLimitOf broken x → IsWriteRefusal stopped broken a b x
limit_refuses broken (error.Limit (limit.Key size)) a b stopped runs of is = (runs, is)
limit_refuses broken (error.Limit (limit.Value size)) a b stopped runs of is = (runs, is)
limit_refuses broken (error.Limit limit.Tables) a b stopped runs of is = absurd (of.0 is)
limit_refuses broken (error.Limit limit.Epoch) a b stopped runs of is = absurd (of.1 is)
limit_refuses broken error.Memory a b stopped runs of is = absurd is
limit_refuses broken (error.Device cause) a b stopped runs of is = absurd is
limit_refuses broken error.Stopped a b stopped runs of is = absurd is
limit_refuses broken (error.Full need gap) a b stopped runs of is = absurd is
limit_refuses broken (error.Damaged damage) a b stopped runs of is = absurd is
limit_refuses broken error.NotAStore a b stopped runs of is = absurd is
limit_refuses broken error.AlreadyAStore a b stopped runs of is = absurd is
limit_refuses broken (error.BadSettings field) a b stopped runs of is = absurd is

pub limit_answers : (spelling : Spelling) (bytes : FilterBytes) (s : State) (request : Request) (x : StoreError) (store : StoreValue) (a b : World) → IsLimitOf (limit_of request) x
    → Meanwhile (StandsForMap spelling (state_map s)) a b → Represents spelling bytes store s b → AnswersRequest spelling bytes s request (told x) store a b
limit_answers spelling bytes s request (error.Limit l) store a b is meanwhile tied = limited spelling bytes s request a b (told_limit l) is (Some (told_limit l)) refl store meanwhile tied
limit_answers spelling bytes s request error.Memory store a b is meanwhile tied = absurd is
limit_answers spelling bytes s request (error.Device cause) store a b is meanwhile tied = absurd is
limit_answers spelling bytes s request error.Stopped store a b is meanwhile tied = absurd is
limit_answers spelling bytes s request (error.Full need gap) store a b is meanwhile tied = absurd is
limit_answers spelling bytes s request (error.Damaged damage) store a b is meanwhile tied = absurd is
limit_answers spelling bytes s request error.NotAStore store a b is meanwhile tied = absurd is
limit_answers spelling bytes s request error.AlreadyAStore store a b is meanwhile tied = absurd is
limit_answers spelling bytes s request (error.BadSettings field) store a b is meanwhile tied = absurd is

-- ---- limits that are kept

not_so : (test : Bool) (limit : Reply) → cond test (Some limit) None ≡ None → test ≡ false
not_so true limit is = cc
not_so false limit is = refl

some_of : (n : ℕ) → (n == 0 || nat_lt 1024 n) ≡ false → 1 ≤ n
some_of n is = grind arith

few_of : (n : ℕ) → (n == 0 || nat_lt 1024 n) ≡ false → n ≤ 1024
few_of n is = grind arith

short_of : (n : ℕ) → nat_lt 1048576 n ≡ false → n ≤ 1048576
short_of n is = grind arith

pub is_entry : (key : Bytes) (value : Option Bytes) → key_limit key ≡ None → value_limit (bytes_of value) ≡ None → IsBytes key → IsBytes (bytes_of value) → IsEntry (entry_of key value)
is_entry key value key_kept value_kept key_bytes value_bytes =
    let key_so = not_so (length key == 0 || nat_lt 1024 (length key)) (LongKey (length key)) key_kept in
    let short = short_of (length (bytes_of value)) (not_so (nat_lt 1048576 (length (bytes_of value))) (LongValue (length (bytes_of value))) value_kept) in
    record {
      some_key = some_of (length key) key_so;
      short_key = few_of (length key) key_so;
      short_value = short;
      key_bytes = key_bytes;
      value_bytes = value_bytes;
    }

-- one whose value is not long is logged
pub is_logged : (entry : Entry) → IsEntry entry → length (bytes_of entry.value) ≤ 65536 → IsLogged entry
is_logged entry sound short = record { sound = sound; short = short }
