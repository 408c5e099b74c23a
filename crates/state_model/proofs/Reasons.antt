-- The causes of a refusal: what has one is refused by it, and what is refused has one.
use Rattle.std.proofs.Common.{◌≡◌, ◌≢◌, ◌⊎◌, inl, inr, ℕ, ◌≤◌, ◌<◌, List, [], ◌∷◌, ◌++◌, refl, sym, ap, ◌∙◌, subst, Bool, true, false, cond, arith}
use Rattle.std.specs.Prelude.{Option, Some, None, Result, Ok, Err, nat_le, length, ◌==◌, ◌+◌}
use Rattle.key_base.specs.Limits.{last_epoch, max_tables}
use Rattle.map_model.specs.SortedMap.{Bytes}
use Rattle.entry_model.specs.Entries.{Entry, put_entry, del_entry, need}
use Rattle.state_model.specs.State.{State, without_job}
use Rattle.table_model.specs.Tables.{FilterBytes, Table}
use Rattle.state_model.specs.View.{memory, changes_of, in_memory}
use Rattle.state_model.specs.Taken.{taken}
use Rattle.state_model.specs.Merges.{NoRoom, placed}
use Rattle.state_model.specs.Changes.{with_tables, flush_placed, flushed_with, flushed, is_long, logged, logged_then, written, compact_placed, compacted_with, compacted}
use Rattle.line_model.specs.Requests.{Request, Put, Del, Get, Seek, Range, Count, Estimate, Explain, Flush, Compact, Quit, Bad}
use Rattle.line_model.specs.Replies.{Reply, ManyTables, LastEpoch, Full, got, found}
use Rattle.state_model.specs.Steps.{Answer, answer, answer_within, done_or_refused, unless_limit}
use Rattle.line_model.specs.Limits.{limit_of}
use Rattle.state_model.specs.Refusals.{is_refusal, FlushIsDue, IsWide, CompactionIsDue, flush_places, compaction_places, Refused, by_limit, flush_by_tables, flush_by_room, flush_by_epoch, compaction_by_epoch, compaction_by_room, flushed_source}
use Rattle.state_model.proofs.Overs.{flushed_over, over_some}
use Rattle.range_model.specs.Sources.{Change, Sets, Source}
use Rattle.state_model.specs.Logs.{need_of, gap_after}

-- ---- tests

le_true : (m n : ℕ) → m ≤ n → nat_le m n ≡ true
le_true m n l = grind arith

le_false : (m n : ℕ) → n < m → nat_le m n ≡ false
le_false m n l = grind arith

le_of : (m n : ℕ) → nat_le m n ≡ true → m ≤ n
le_of m n e = grind arith

not_le : (m n : ℕ) → nat_le m n ≡ false → n < m
not_le m n e = grind arith

eq_true : (m n : ℕ) → m ≡ n → (m == n) ≡ true
eq_true m n e = grind arith

eq_false : (m n : ℕ) → m ≢ n → (m == n) ≡ false
eq_false m n e = grind arith

eq_of : (m n : ℕ) → (m == n) ≡ true → m ≡ n
eq_of m n e = grind arith

not_eq : (m n : ℕ) → (m == n) ≡ false → m ≢ n
not_eq m n e = grind arith

-- ---- a flush and a compaction are refused so

some_flushed : (filter_bytes : FilterBytes) (s : State) (source : Source) (entries : List Entry) → entries ≢ []
    → flushed_with filter_bytes s source entries ≡ cond (nat_le max_tables (length s.tables)) (Err ManyTables) (flush_placed s (placed filter_bytes s.settings s.pages (taken s) 0 (source ∷ [])))
some_flushed filter_bytes s source [] some = absurd (some refl)
some_flushed filter_bytes s source (entry ∷ more) some = refl

-- a source that is flushed
abbrev flush_of : FilterBytes → State → Source → Result State Reply
flush_of filter_bytes s source = flushed_with filter_bytes s source source.entries

abbrev places : FilterBytes → State → Source → Result (List Table) NoRoom
places filter_bytes s source = placed filter_bytes s.settings s.pages (taken s) 0 (source ∷ [])

tables_refused : (filter_bytes : FilterBytes) (s : State) (source : Source) → source.entries ≢ [] → max_tables ≤ length s.tables → flush_of filter_bytes s source ≡ Err ManyTables
tables_refused filter_bytes s source some many =
    some_flushed filter_bytes s source source.entries some
    ∙ ap (λ (t : Bool). cond t (Err ManyTables) (flush_placed s (places filter_bytes s source))) (le_true max_tables (length s.tables) many)

few_placed : (filter_bytes : FilterBytes) (s : State) (source : Source) → source.entries ≢ [] → length s.tables < max_tables
    → flush_of filter_bytes s source ≡ flush_placed s (places filter_bytes s source)
few_placed filter_bytes s source some few =
    some_flushed filter_bytes s source source.entries some
    ∙ ap (λ (t : Bool). cond t (Err ManyTables) (flush_placed s (places filter_bytes s source))) (le_false max_tables (length s.tables) few)

pub flush_tables : (filter_bytes : FilterBytes) (s : State) → memory s ≢ [] → max_tables ≤ length s.tables → flushed filter_bytes s ≡ Err ManyTables
flush_tables filter_bytes s some many = tables_refused filter_bytes s (in_memory s) some many

pub flush_few : (filter_bytes : FilterBytes) (s : State) → memory s ≢ [] → length s.tables < max_tables → flushed filter_bytes s ≡ flush_placed s (flush_places filter_bytes s Flush)
flush_few filter_bytes s some few = few_placed filter_bytes s (in_memory s) some few

with_tables_last : (s : State) (tables : List Table) → s.epoch ≡ last_epoch → with_tables s tables ≡ Err LastEpoch
with_tables_last s tables last = ap (λ (t : Bool). cond t (Err LastEpoch) (Ok (record s { epoch = s.epoch + 1; log = []; tables = tables }))) (eq_true s.epoch last_epoch last)

flush_room : (filter_bytes : FilterBytes) (s : State) (source : Source) (refusal : NoRoom) → source.entries ≢ [] → length s.tables < max_tables → places filter_bytes s source ≡ Err refusal
    → flush_of filter_bytes s source ≡ Err (Full refusal.need refusal.gap)
flush_room filter_bytes s source refusal some few none = few_placed filter_bytes s source some few ∙ ap (flush_placed s) none

flush_epoch : (filter_bytes : FilterBytes) (s : State) (source : Source) (made : List Table) → source.entries ≢ [] → length s.tables < max_tables → places filter_bytes s source ≡ Ok made
    → s.epoch ≡ last_epoch → flush_of filter_bytes s source ≡ Err LastEpoch
flush_epoch filter_bytes s source made some few placed_so last = few_placed filter_bytes s source some few ∙ ap (flush_placed s) placed_so ∙ with_tables_last s (made ++ s.tables) last

some_compacted : (filter_bytes : FilterBytes) (s : State) (changes : List Change) → changes ≢ []
    → compacted_with filter_bytes s changes ≡ cond (s.epoch == last_epoch) (Err LastEpoch) (compact_placed s (compaction_places filter_bytes s))
some_compacted filter_bytes s [] some = absurd (some refl)
some_compacted filter_bytes s (change ∷ more) some = refl

compact_at : (filter_bytes : FilterBytes) (s : State) (t : Bool) → changes_of s ≢ [] → (s.epoch == last_epoch) ≡ t
    → compacted filter_bytes s ≡ cond t (Err LastEpoch) (compact_placed s (compaction_places filter_bytes s))
compact_at filter_bytes s t some e =
    some_compacted filter_bytes s (changes_of s) some
    ∙ ap (λ (t : Bool). cond t (Err LastEpoch) (compact_placed s (compaction_places filter_bytes s))) e

-- ---- what has a cause

-- a change that is written as the log takes it
abbrev short_written : FilterBytes → State → Change → Result State Reply
short_written filter_bytes s change = cond (nat_le (need_of change) (gap_after s.log)) (Ok (logged s change)) (logged_then change (flushed filter_bytes s))

short_refused : (filter_bytes : FilterBytes) (s : State) (change : Change) (reply : Reply) → gap_after s.log < need_of change → flushed filter_bytes s ≡ Err reply → short_written filter_bytes s change ≡ Err reply
short_refused filter_bytes s change reply wide refused =
    ap (λ (t : Bool). cond t (Ok (logged s change)) (logged_then change (flushed filter_bytes s))) (le_false (need_of change) (gap_after s.log) wide) ∙ ap (logged_then change) refused

-- what is due of an entry that is not long is due for its width
wide_of : (s : State) (entry : Entry) → is_long entry ≡ false → (is_long entry ≡ true) ⊎ IsWide s entry → IsWide s entry
wide_of s entry short (inl long) = absurd (not_both (sym short ∙ long))
  where
    not_both : false ≡ true → ⊥
    not_both e = cc
wide_of s entry short (inr wide) = wide

-- a put is refused as the flush of its entries is
put_refused : (filter_bytes : FilterBytes) (s : State) (entry : Entry) (reply : Reply) → (is_long entry ≡ true) ⊎ IsWide s entry
    → flush_of filter_bytes s (cond (is_long entry) (in_memory (logged s (Sets entry))) (in_memory s)) ≡ Err reply → written filter_bytes s (Sets entry) ≡ Err reply
put_refused filter_bytes s entry reply due refused = elim (is_long entry) as (λ long. is_long entry ≡ long
    → flush_of filter_bytes s (cond long (in_memory (logged s (Sets entry))) (in_memory s)) ≡ Err reply
    → cond long (flushed filter_bytes (logged s (Sets entry))) (short_written filter_bytes s (Sets entry)) ≡ Err reply) [
      | true ↦ λ _ so. flushed_over filter_bytes s (Sets entry) (over_some s entry) ∙ so
      | false ↦ λ short so. short_refused filter_bytes s (Sets entry) reply (wide_of s entry short due).0 so
    ] refl refused

put_some : (s : State) (entry : Entry) → (is_long entry ≡ true) ⊎ IsWide s entry → (cond (is_long entry) (in_memory (logged s (Sets entry))) (in_memory s)).entries ≢ []
put_some s entry due = elim (is_long entry) as (λ long. is_long entry ≡ long → (cond long (in_memory (logged s (Sets entry))) (in_memory s)).entries ≢ []) [
  | true ↦ λ _. over_some s entry
  | false ↦ λ short. (wide_of s entry short due).1
] refl

-- where a flush is due, there are entries to flush
due_some : (s : State) (request : Request) → FlushIsDue s request → (flushed_source s request).entries ≢ []
due_some s (Put key value) due = put_some s (put_entry key value) due
due_some s (Del key) due = due.1
due_some s Flush due = due
due_some s (Get key) due = absurd due
due_some s (Seek lo hi) due = absurd due
due_some s (Range lo hi n) due = absurd due
due_some s (Count lo hi) due = absurd due
due_some s (Estimate lo hi) due = absurd due
due_some s (Explain key) due = absurd due
due_some s Compact due = absurd due
due_some s Quit due = absurd due
due_some s (Bad code) due = absurd due

first_of_changed : (s : State) (done : Result State Reply) (reply : Reply) → done ≡ Err reply → (done_or_refused s done).0 ≡ reply
first_of_changed s done reply e = ap (λ (d : Result State Reply). (done_or_refused s d).0) e

-- where a flush is due and refused, the line is answered by its refusal
due_refused : (filter_bytes : FilterBytes) (s : State) (request : Request) (reply : Reply) → FlushIsDue s request → flush_of filter_bytes s (flushed_source s request) ≡ Err reply
    → (answer_within filter_bytes s request).0 ≡ reply
due_refused filter_bytes s (Put key value) reply due refused = first_of_changed s (written filter_bytes s (Sets (put_entry key value))) reply (put_refused filter_bytes s (put_entry key value) reply due refused)
due_refused filter_bytes s (Del key) reply due refused = first_of_changed s (written filter_bytes s (Sets (del_entry key))) reply (short_refused filter_bytes s (Sets (del_entry key)) reply due.0 refused)
due_refused filter_bytes s Flush reply due refused = first_of_changed s (flushed filter_bytes s) reply refused
due_refused filter_bytes s (Get key) reply due refused = absurd due
due_refused filter_bytes s (Seek lo hi) reply due refused = absurd due
due_refused filter_bytes s (Range lo hi n) reply due refused = absurd due
due_refused filter_bytes s (Count lo hi) reply due refused = absurd due
due_refused filter_bytes s (Estimate lo hi) reply due refused = absurd due
due_refused filter_bytes s (Explain key) reply due refused = absurd due
due_refused filter_bytes s Compact reply due refused = absurd due
due_refused filter_bytes s Quit reply due refused = absurd due
due_refused filter_bytes s (Bad code) reply due refused = absurd due

compact_refused : (filter_bytes : FilterBytes) (s : State) (request : Request) (reply : Reply) → CompactionIsDue s request → (changes_of s ≢ [] → compacted filter_bytes s ≡ Err reply)
    → (answer_within filter_bytes s request).0 ≡ reply
compact_refused filter_bytes s Compact reply due refused = first_of_changed (without_job s) (compacted filter_bytes s) reply (refused due)
compact_refused filter_bytes s Flush reply due refused = absurd due
compact_refused filter_bytes s (Put key value) reply due refused = absurd due
compact_refused filter_bytes s (Del key) reply due refused = absurd due
compact_refused filter_bytes s (Get key) reply due refused = absurd due
compact_refused filter_bytes s (Seek lo hi) reply due refused = absurd due
compact_refused filter_bytes s (Range lo hi n) reply due refused = absurd due
compact_refused filter_bytes s (Count lo hi) reply due refused = absurd due
compact_refused filter_bytes s (Estimate lo hi) reply due refused = absurd due
compact_refused filter_bytes s (Explain key) reply due refused = absurd due
compact_refused filter_bytes s Quit reply due refused = absurd due
compact_refused filter_bytes s (Bad code) reply due refused = absurd due

-- the answer where the limit is known
at_limit : (filter_bytes : FilterBytes) (s : State) (request : Request) (limit : Option Reply) → limit_of request ≡ limit
    → (answer filter_bytes s request).0 ≡ (unless_limit limit s (answer_within filter_bytes s request)).0
at_limit filter_bytes s request limit e = ap (λ (l : Option Reply). (unless_limit l s (answer_within filter_bytes s request)).0) e

pub gives_reply : (filter_bytes : FilterBytes) (s : State) (request : Request) (reply : Reply) → Refused filter_bytes s request reply → (answer filter_bytes s request).0 ≡ reply
gives_reply filter_bytes s request reply (by_limit _ e) = at_limit filter_bytes s request (Some reply) e
gives_reply filter_bytes s request _ (flush_by_tables within due many) =
    at_limit filter_bytes s request None within ∙ due_refused filter_bytes s request ManyTables due (tables_refused filter_bytes s (flushed_source s request) (due_some s request due) many)
gives_reply filter_bytes s request _ (flush_by_room refusal within due few none) =
    at_limit filter_bytes s request None within ∙ due_refused filter_bytes s request (Full refusal.need refusal.gap) due (flush_room filter_bytes s (flushed_source s request) refusal (due_some s request due) few none)
gives_reply filter_bytes s request _ (flush_by_epoch made within due few so last) =
    at_limit filter_bytes s request None within ∙ due_refused filter_bytes s request LastEpoch due (flush_epoch filter_bytes s (flushed_source s request) made (due_some s request due) few so last)
gives_reply filter_bytes s request _ (compaction_by_epoch within due last) =
    at_limit filter_bytes s request None within ∙ compact_refused filter_bytes s request LastEpoch due (λ some. compact_at filter_bytes s true some (eq_true s.epoch last_epoch last))
gives_reply filter_bytes s request _ (compaction_by_room refusal within due more none) =
    at_limit filter_bytes s request None within
    ∙ compact_refused filter_bytes s request (Full refusal.need refusal.gap) due (λ some. compact_at filter_bytes s false some (eq_false s.epoch last_epoch more) ∙ ap (compact_placed s) none)

-- ---- what is refused

-- what is refused is so for a reason
abbrev HasCause : FilterBytes → State → Request → Result State Reply → Type 0
HasCause filter_bytes s request (Ok t) = Unit {0}
HasCause filter_bytes s request (Err reply) = Refused filter_bytes s request reply

flush_placed_cause : (filter_bytes : FilterBytes) (s : State) (request : Request) (done : Result (List Table) NoRoom)
    → limit_of request ≡ None → FlushIsDue s request → length s.tables < max_tables → flush_places filter_bytes s request ≡ done → HasCause filter_bytes s request (flush_placed s done)
flush_placed_cause filter_bytes s request (Err refusal) within due few e = flush_by_room refusal within due few e
flush_placed_cause filter_bytes s request (Ok made) within due few e =
    elim (s.epoch == last_epoch) as (λ t. (s.epoch == last_epoch) ≡ t → HasCause filter_bytes s request (cond t (Err LastEpoch) (Ok (record s { epoch = s.epoch + 1; log = []; tables = made ++ s.tables })))) [
      | true ↦ λ last. flush_by_epoch made within due few e (eq_of s.epoch last_epoch last)
      | false ↦ λ more. tt
    ] refl

flushed_with_cause : (filter_bytes : FilterBytes) (s : State) (request : Request) (source : Source) (entries : List Entry) → flushed_source s request ≡ source → source.entries ≡ entries
    → limit_of request ≡ None → ((flushed_source s request).entries ≢ [] → FlushIsDue s request) → HasCause filter_bytes s request (flushed_with filter_bytes s source entries)
flushed_with_cause filter_bytes s request source [] e same within due = tt
flushed_with_cause filter_bytes s request source (entry ∷ more) e same within due =
    let some : (flushed_source s request).entries ≢ [] = λ none. let bad : entry ∷ more ≡ [] = sym same ∙ ap (λ (l : Source). l.entries) (sym e) ∙ none in cc in
    let so = ap (places filter_bytes s) e in
    elim (nat_le max_tables (length s.tables)) as (λ t. nat_le max_tables (length s.tables) ≡ t
    → HasCause filter_bytes s request (cond t (Err ManyTables) (flush_placed s (places filter_bytes s source)))) [
      | true ↦ λ many. flush_by_tables within (due some) (le_of max_tables (length s.tables) many)
      | false ↦ λ few. flush_placed_cause filter_bytes s request (places filter_bytes s source) within (due some) (not_le max_tables (length s.tables) few) so
    ] refl

logged_then_cause : (filter_bytes : FilterBytes) (s : State) (request : Request) (change : Change) (done : Result State Reply) → HasCause filter_bytes s request done → HasCause filter_bytes s request (logged_then change done)
logged_then_cause filter_bytes s request change (Ok t) cause = tt
logged_then_cause filter_bytes s request change (Err reply) cause = cause

short_cause : (filter_bytes : FilterBytes) (s : State) (request : Request) (entry : Entry) → flushed_source s request ≡ in_memory s → limit_of request ≡ None
    → (IsWide s entry → FlushIsDue s request) → HasCause filter_bytes s request (short_written filter_bytes s (Sets entry))
short_cause filter_bytes s request entry e within due =
    elim (nat_le (need entry) (gap_after s.log)) as (λ t. nat_le (need entry) (gap_after s.log) ≡ t → HasCause filter_bytes s request (cond t (Ok (logged s (Sets entry))) (logged_then (Sets entry) (flushed filter_bytes s)))) [
      | true ↦ λ fits. tt
      | false ↦ λ wide. logged_then_cause filter_bytes s request (Sets entry) (flushed filter_bytes s)
          (flushed_with_cause filter_bytes s request (in_memory s) (memory s) e refl within (λ some. due (not_le (need entry) (gap_after s.log) wide, subst (λ (l : Source). l.entries ≢ []) e some)))
    ] refl

put_cause : (filter_bytes : FilterBytes) (s : State) (key value : Bytes) → limit_of (Put key value) ≡ None
    → HasCause filter_bytes s (Put key value) (written filter_bytes s (Sets (put_entry key value)))
put_cause filter_bytes s key value within =
    let entry = put_entry key value in
    let over = in_memory (logged s (Sets entry)) in
    elim (is_long entry) as (λ long. is_long entry ≡ long
    → HasCause filter_bytes s (Put key value) (cond long (flushed filter_bytes (logged s (Sets entry))) (short_written filter_bytes s (Sets entry)))) [
      | true ↦ λ long. subst (HasCause filter_bytes s (Put key value)) (sym (flushed_over filter_bytes s (Sets entry) (over_some s entry)))
          (flushed_with_cause filter_bytes s (Put key value) over over.entries (ap (λ (b : Bool). cond b over (in_memory s)) long) refl within (λ _. inl long))
      | false ↦ λ short. short_cause filter_bytes s (Put key value) entry (ap (λ (b : Bool). cond b over (in_memory s)) short) within (λ wide. inr wide)
    ] refl

compact_placed_cause : (filter_bytes : FilterBytes) (s : State) (done : Result (List Table) NoRoom) → changes_of s ≢ [] → s.epoch ≢ last_epoch → compaction_places filter_bytes s ≡ done
    → HasCause filter_bytes s Compact (compact_placed s done)
compact_placed_cause filter_bytes s (Err refusal) some more e = compaction_by_room refusal refl some more e
compact_placed_cause filter_bytes s (Ok made) some more e = tt

compacted_with_cause : (filter_bytes : FilterBytes) (s : State) (changes : List Change) → changes_of s ≡ changes → HasCause filter_bytes s Compact (compacted_with filter_bytes s changes)
compacted_with_cause filter_bytes s [] e = tt
compacted_with_cause filter_bytes s (change ∷ more) e =
    let some : changes_of s ≢ [] = λ none. cc in
    elim (s.epoch == last_epoch) as (λ t. (s.epoch == last_epoch) ≡ t → HasCause filter_bytes s Compact (cond t (Err LastEpoch) (compact_placed s (compaction_places filter_bytes s)))) [
      | true ↦ λ last. compaction_by_epoch refl some (eq_of s.epoch last_epoch last)
      | false ↦ λ later. compact_placed_cause filter_bytes s (compaction_places filter_bytes s) some (not_eq s.epoch last_epoch later) refl
    ] refl

-- an answer that refuses has a cause
abbrev Explains : FilterBytes → State → Request → Answer → Type 0
Explains filter_bytes s request a = is_refusal a.0 ≡ true → Refused filter_bytes s request a.0

changed_explained : (filter_bytes : FilterBytes) (s old : State) (request : Request) (done : Result State Reply) → HasCause filter_bytes s request done → Explains filter_bytes s request (done_or_refused old done)
changed_explained filter_bytes s old request (Ok t) cause e = cc
changed_explained filter_bytes s old request (Err reply) cause e = cause

-- a limit explains itself; the rest is explained within the limits
limit_explained : (filter_bytes : FilterBytes) (s : State) (request : Request) (limit : Option Reply) (a : Answer) → limit_of request ≡ limit
    → (limit_of request ≡ None → Explains filter_bytes s request a) → Explains filter_bytes s request (unless_limit limit s a)
limit_explained filter_bytes s request (Some reply) a e rest refuses = by_limit reply e
limit_explained filter_bytes s request None a e rest refuses = rest e refuses

got_explained : (filter_bytes : FilterBytes) (s : State) (request : Request) (value : Option Bytes) → Explains filter_bytes s request (got value, s)
got_explained filter_bytes s request (Some value) e = cc
got_explained filter_bytes s request None e = cc

found_explained : (filter_bytes : FilterBytes) (s : State) (request : Request) (pair : Option (Bytes × Bytes)) → Explains filter_bytes s request (found pair, s)
found_explained filter_bytes s request (Some pair) e = cc
found_explained filter_bytes s request None e = cc

within_explained : (filter_bytes : FilterBytes) (s : State) (request : Request) → limit_of request ≡ None → Explains filter_bytes s request (answer_within filter_bytes s request)
within_explained filter_bytes s (Put key value) within =
    changed_explained filter_bytes s s (Put key value) (written filter_bytes s (Sets (put_entry key value))) (put_cause filter_bytes s key value within)
within_explained filter_bytes s (Del key) within =
    changed_explained filter_bytes s s (Del key) (written filter_bytes s (Sets (del_entry key))) (short_cause filter_bytes s (Del key) (del_entry key) refl within (λ wide. wide))
within_explained filter_bytes s (Get key) within = got_explained filter_bytes s (Get key) _
within_explained filter_bytes s (Seek lo hi) within = found_explained filter_bytes s (Seek lo hi) _
within_explained filter_bytes s (Range lo hi n) within = λ e. cc
within_explained filter_bytes s (Count lo hi) within = λ e. cc
within_explained filter_bytes s (Estimate lo hi) within = λ e. cc
within_explained filter_bytes s (Explain key) within = λ e. cc
within_explained filter_bytes s Flush within = changed_explained filter_bytes s s Flush (flushed filter_bytes s) (flushed_with_cause filter_bytes s Flush (in_memory s) (memory s) refl refl within (λ some. some))
within_explained filter_bytes s Compact within = changed_explained filter_bytes s (without_job s) Compact (compacted filter_bytes s) (compacted_with_cause filter_bytes s (changes_of s) refl)
within_explained filter_bytes s Quit within = λ e. cc
within_explained filter_bytes s (Bad code) within = λ e. cc

pub only_so : (filter_bytes : FilterBytes) (s : State) (request : Request) → is_refusal (answer filter_bytes s request).0 ≡ true → Refused filter_bytes s request (answer filter_bytes s request).0
only_so filter_bytes s request = limit_explained filter_bytes s request (limit_of request) (answer_within filter_bytes s request) refl (within_explained filter_bytes s request)
