-- Lines that were answered, one more, and the script.
use Rattle.std.proofs.Common.{◌≡◌, ◌⊎◌, inl, inr, ◌+◌, ◌++◌, ℕ, List, [], ◌∷◌, length, refl, sym, ap, ◌∙◌, subst, arith, append_assoc, length-append, true, false}
use Rattle.std.proofs.lemmas.List.{append-nil}
use Rattle.line_model.specs.Replies.{Reply, text_of}
use Rattle.line_model.specs.Requests.{Bad, Compact, Count, Del, Estimate, Explain, Flush, Get, Put, Quit, Range, Request, Seek, request_of}
use Rattle.map_model.specs.SortedMap.{Bytes}
use Rattle.state_model.specs.Causes.{Why}
use Rattle.state_model.specs.PlayLaws.{AnyState, has_slice}
use Rattle.state_model.specs.Script.{AsSaid, AtDevice, Between, Ending, EndsOr, ScriptEndsAt, Onward, Over, Script, ToLast, Turn, turn_of, turn_of_slice}
use Rattle.state_model.specs.State.{State}
use Rattle.state_model.specs.Steps.{Step, answers, damage_met, no_memory, read_failed, write_failed}
use Rattle.state_model.specs.Tends.{Tend, Tended}
use Rattle.state_model.specs.Tends as tends
use Rattle.surf_run.specs.Dialogue.{AnsweredLines, line_bound}
use Rattle.table_model.specs.Tables.{FilterBytes}

-- by the reply or by the merge slice after it this is the end, and so much holds as the reply has been said
abbrev pub IsLast : (Why → Type 0) → FilterBytes → Request → Reply → State → Ending → Type 0 → Type 0
IsLast C filter_bytes request reply after ending Holds =
    AsSaid (turn_of reply) Holds × EndsOr (turn_of reply) [] ending ((next : State) × Between C filter_bytes request after (Over ending) next)

pub step_as : (C D : Why → Type 0) (filter_bytes : FilterBytes) → ((why : Why) → C why → D why) → (s : State) (request : Request) (reply : Reply) (after : State)
    → Step C filter_bytes s request reply after → Step D filter_bytes s request reply after
step_as C D filter_bytes weaker s request reply after d = elim d as (λ r new _. Step D filter_bytes s request r new) [
  | answers ↦ answers
  | no_memory within takes cause ↦ no_memory within takes (weaker _ cause)
  | read_failed said within reads cause so ↦ read_failed said within reads (weaker _ cause) so
  | damage_met damage said within reads cause so ↦ damage_met damage said within reads (weaker _ cause) so
  | write_failed new within writes cause left same ↦ write_failed new within writes (weaker _ cause) left same
]

-- ---- merge slices

pub tend_as : (C D : Why → Type 0) (filter_bytes : FilterBytes) → ((why : Why) → C why → D why) → (s : State) (tended : Tended) (after : State)
    → Tend C filter_bytes s tended after → Tend D filter_bytes s tended after
tend_as C D filter_bytes weaker s tended after d = elim d as (λ t new _. Tend D filter_bytes s t new) [
  | tends.idle none chosen ↦ tends.idle none chosen
  | tends.works job later runs on other more ↦ tends.works job later runs on other more
  | tends.installs job later runs on done epoch ↦ tends.installs job later runs on done epoch
  | tends.last_epoch_reached job later runs on done epoch ↦ tends.last_epoch_reached job later runs on done epoch
  | tends.no_room job later refusal runs on full ↦ tends.no_room job later refusal runs on full
  | tends.no_memory cause ↦ tends.no_memory (weaker _ cause)
  | tends.read_failed job runs some cause ↦ tends.read_failed job runs some (weaker _ cause)
  | tends.damage_met job damage runs some cause ↦ tends.damage_met job damage runs some (weaker _ cause)
  | tends.write_failed job new runs may cause left same ↦ tends.write_failed job new runs may (weaker _ cause) left same
]

module _ (C D : Why → Type 0) (filter_bytes : FilterBytes) (weaker : (why : Why) → C why → D why) (s : State) (turn : Turn) (after : State) where
  sliced_as : (tended : Tended) × Tend C filter_bytes s tended after × (turn ≡ turn_of_slice tended) → (tended : Tended) × Tend D filter_bytes s tended after × (turn ≡ turn_of_slice tended)
  sliced_as made = (made.0, tend_as C D filter_bytes weaker s made.0 after made.1, made.2)

  pub between_as : (request : Request) → Between C filter_bytes request s turn after → Between D filter_bytes request s turn after
  between_as (Put key value) made = sliced_as made
  between_as (Del key) made = sliced_as made
  between_as (Get key) none = none
  between_as (Seek lo hi) none = none
  between_as (Range lo hi n) none = none
  between_as (Count lo hi) none = none
  between_as (Estimate lo hi) none = none
  between_as (Explain key) none = none
  between_as Flush none = none
  between_as Compact none = none
  between_as Quit none = none
  between_as (Bad code) none = none

-- a merge slice after a put or a delete, and none after the others
pub between_made : (C : Why → Type 0) (filter_bytes : FilterBytes) (request : Request) (s : State) (turn : Turn) (after : State) → has_slice request ≡ true
    → (tended : Tended) → Tend C filter_bytes s tended after → turn ≡ turn_of_slice tended → Between C filter_bytes request s turn after
between_made C filter_bytes (Put key value) s turn after has tended made is = (tended, made, is)
between_made C filter_bytes (Del key) s turn after has tended made is = (tended, made, is)
between_made C filter_bytes (Get key) s turn after has tended made is = absurd (let never : false ≡ true = has in cc)
between_made C filter_bytes (Seek lo hi) s turn after has tended made is = absurd (let never : false ≡ true = has in cc)
between_made C filter_bytes (Range lo hi n) s turn after has tended made is = absurd (let never : false ≡ true = has in cc)
between_made C filter_bytes (Count lo hi) s turn after has tended made is = absurd (let never : false ≡ true = has in cc)
between_made C filter_bytes (Estimate lo hi) s turn after has tended made is = absurd (let never : false ≡ true = has in cc)
between_made C filter_bytes (Explain key) s turn after has tended made is = absurd (let never : false ≡ true = has in cc)
between_made C filter_bytes Flush s turn after has tended made is = absurd (let never : false ≡ true = has in cc)
between_made C filter_bytes Compact s turn after has tended made is = absurd (let never : false ≡ true = has in cc)
between_made C filter_bytes Quit s turn after has tended made is = absurd (let never : false ≡ true = has in cc)
between_made C filter_bytes (Bad code) s turn after has tended made is = absurd (let never : false ≡ true = has in cc)

pub between_none : (C : Why → Type 0) (filter_bytes : FilterBytes) (request : Request) (s : State) → has_slice request ≡ false → Between C filter_bytes request s Onward s
between_none C filter_bytes (Put key value) s none = absurd (let never : true ≡ false = none in cc)
between_none C filter_bytes (Del key) s none = absurd (let never : true ≡ false = none in cc)
between_none C filter_bytes (Get key) s none = (refl, refl)
between_none C filter_bytes (Seek lo hi) s none = (refl, refl)
between_none C filter_bytes (Range lo hi n) s none = (refl, refl)
between_none C filter_bytes (Count lo hi) s none = (refl, refl)
between_none C filter_bytes (Estimate lo hi) s none = (refl, refl)
between_none C filter_bytes (Explain key) s none = (refl, refl)
between_none C filter_bytes Flush s none = (refl, refl)
between_none C filter_bytes Compact s none = (refl, refl)
between_none C filter_bytes Quit s none = (refl, refl)
between_none C filter_bytes (Bad code) s none = (refl, refl)

-- ---- lines that were answered

-- what went on so, went on with what follows from its causes and its states
pub so_far_as : (C D : Why → Type 0) (filter_bytes : FilterBytes) (R Q : ℕ → State → Type 0) → ((why : Why) → C why → D why) → ((n : ℕ) (s : State) → R n s → Q n s)
    → (said : ℕ) (a : State) (lines : List Bytes) (text : Bytes) (most : ℕ) (b : State) → AnsweredLines C filter_bytes R said a lines text most b → AnsweredLines D filter_bytes Q said a lines text most b
so_far_as C D filter_bytes R Q causes weaker said a [] text most b went = went
so_far_as C D filter_bytes R Q causes weaker said a (line ∷ lines) text most b went = (
  went.0,
  went.1,
  went.2,
  went.3,
  went.4,
  went.5,
  went.6,
  step_as C D filter_bytes causes a (request_of line) went.0 went.3 went.7,
  went.8,
  weaker (said + length (text_of went.0)) went.3 went.9,
  between_as C D filter_bytes causes went.3 Onward went.4 (request_of line) went.10,
  so_far_as C D filter_bytes R Q causes weaker (said + length (text_of went.0)) went.4 lines went.1 went.2 b went.11,
)

as_said : (turn : Turn) (P : Type 0) → turn ≡ Onward → P → AsSaid turn P
as_said turn P is p = subst (λ (t : Turn). AsSaid t P) (sym is) p

goes_on : (turn : Turn) (rest : Bytes) (ending : Ending) (Next : Type 0) → turn ≡ Onward → Next → EndsOr turn rest ending Next
goes_on turn rest ending Next is next = subst (λ (t : Turn). EndsOr t rest ending Next) (sym is) next

-- where this is the end, it is one of the script, whatever lines follow
ends_any : (turn : Turn) (ending : Ending) (Slice Next : Type 0) → (Slice → Next) → EndsOr turn [] ending Slice → EndsOr turn [] ending Next
ends_any Onward ending Slice Next behind slice = behind slice
ends_any (Over why) ending Slice Next behind end = end

-- as an end that is told of the line alone
ends_so : (turn : Turn) (ending : Ending) (Slice : Type 0) → EndsOr turn [] ending Slice → (turn ≡ Over ending) ⊎ ((turn ≡ Onward) × Slice)
ends_so Onward ending Slice slice = inr (refl, slice)
ends_so (Over why) ending Slice end = inl (ap Over (sym end.1))

pub ends_there : (C : Why → Type 0) (filter_bytes : FilterBytes) (line : Bytes) (reply : Reply) (after : State) (ending : Ending) (Holds : Type 0) → IsLast C filter_bytes (request_of line) reply after ending Holds
    → ScriptEndsAt C filter_bytes line reply after ending
ends_there C filter_bytes line reply after ending Holds last = ends_so (turn_of reply) ending _ last.1

module _ (C : Why → Type 0) (filter_bytes : FilterBytes) (R : ℕ → State → Type 0) where
  -- of any states, whatever had been said
  pub so_far_any : (said other : ℕ) (a : State) (lines : List Bytes) (text : Bytes) (most : ℕ) (b : State) → AnsweredLines C filter_bytes R said a lines text most b
      → AnsweredLines C filter_bytes AnyState other a lines text most b
  so_far_any said other a [] text most b went = went
  so_far_any said other a (line ∷ lines) text most b went = (
    went.0,
    went.1,
    went.2,
    went.3,
    went.4,
    went.5,
    went.6,
    went.7,
    went.8,
    tt,
    went.10,
    so_far_any (said + length (text_of went.0)) (other + length (text_of went.0)) went.4 lines went.1 went.2 b went.11,
  )

  -- one line more
  pub so_far_on : (said : ℕ) (a : State) (lines : List Bytes) (text : Bytes) (most : ℕ) (b : State) (line : Bytes) (reply : Reply) (c d : State)
      → AnsweredLines C filter_bytes R said a lines text most b → Step C filter_bytes b (request_of line) reply c → turn_of reply ≡ Onward → Between C filter_bytes (request_of line) c Onward d
      → (at : ℕ) → at ≡ said + length text + length (text_of reply) → R at c
      → AnsweredLines C filter_bytes R said a (lines ++ line ∷ []) (text ++ text_of reply) (most + line_bound b (request_of line)) d
  so_far_on said a [] text most b line reply c d went step onward between at is reached =
      let here : at ≡ said + length (text_of reply) = omega (arith, is, ap length went.0) in (
        reply,
        [],
        0,
        c,
        d,
        ap (λ (l : Bytes). l ++ text_of reply) went.0 ∙ sym (append-nil (text_of reply)),
        omega (arith, went.1, ap (λ (s : State). line_bound s (request_of line)) went.2),
        subst (λ (s : State). Step C filter_bytes s (request_of line) reply c) went.2 step,
        onward,
        subst (λ (k : ℕ). R k c) here reached,
        between,
        (refl, refl, refl),
      )
  so_far_on said a (first ∷ lines) text most b line reply c d went step onward between at is reached = (
    went.0,
    went.1 ++ text_of reply,
    went.2 + line_bound b (request_of line),
    went.3,
    went.4,
    ap (λ (l : Bytes). l ++ text_of reply) went.5 ∙ append_assoc (text_of went.0) went.1 (text_of reply),
    omega (arith, went.6),
    went.7,
    went.8,
    went.9,
    went.10,
    so_far_on (said + length (text_of went.0)) went.4 lines went.1 went.2 b line reply c d went.11 step onward between at
        (omega (arith, is, ap length went.5, length-append (text_of went.0) went.1)) reached,
  )

  pub script_of : (said : ℕ) (a : State) (lines : List Bytes) (text : Bytes) (most : ℕ) (b : State) → AnsweredLines C filter_bytes R said a lines text most b
      → Script C filter_bytes R said a lines text ToLast
  script_of said a [] text most b went = (went.0, refl)
  script_of said a (first ∷ lines) text most b went = (
    went.0,
    went.1,
    went.3,
    went.5,
    went.7,
    as_said (turn_of went.0) _ went.8 went.9,
    goes_on (turn_of went.0) went.1 ToLast _ went.8 (Onward, went.4, went.10, script_of (said + length (text_of went.0)) went.4 lines went.1 went.2 b went.11),
  )

  pub script_ends : (said : ℕ) (a : State) (lines : List Bytes) (text : Bytes) (most : ℕ) (b : State) (line : Bytes) (reply : Reply) (c : State) (more : List Bytes) (ending : Ending)
      → AnsweredLines C filter_bytes R said a lines text most b → Step C filter_bytes b (request_of line) reply c
      → (at : ℕ) → at ≡ said + length text + length (text_of reply) → IsLast C filter_bytes (request_of line) reply c ending (R at c)
      → Script C filter_bytes R said a (lines ++ line ∷ more) (text ++ text_of reply) ending
  script_ends said a [] text most b line reply c more ending went step at is last =
      let here : at ≡ said + length (text_of reply) = omega (arith, is, ap length went.0) in (
        reply,
        [],
        c,
        ap (λ (l : Bytes). l ++ text_of reply) went.0 ∙ sym (append-nil (text_of reply)),
        subst (λ (s : State). Step C filter_bytes s (request_of line) reply c) went.2 step,
        subst (λ (k : ℕ). AsSaid (turn_of reply) (R k c)) here last.0,
        ends_any (turn_of reply) ending _ _ (λ slice. (Over ending, slice.0, slice.1, (refl, refl))) last.1,
      )
  script_ends said a (first ∷ lines) text most b line reply c more ending went step at is last = (
    went.0,
    went.1 ++ text_of reply,
    went.3,
    ap (λ (l : Bytes). l ++ text_of reply) went.5 ∙ append_assoc (text_of went.0) went.1 (text_of reply),
    went.7,
    as_said (turn_of went.0) _ went.8 went.9,
    goes_on (turn_of went.0) (went.1 ++ text_of reply) ending _ went.8 (
      Onward,
      went.4,
      went.10,
      script_ends (said + length (text_of went.0)) went.4 lines went.1 went.2 b line reply c more ending went.11 step at
          (omega (arith, is, ap length went.5, length-append (text_of went.0) went.1)) last,
    ),
  )

-- ---- the last line

module _ (C : Why → Type 0) (filter_bytes : FilterBytes) (request : Request) (reply : Reply) (after : State) (Holds : Type 0) where
  pub device_last : turn_of reply ≡ Over AtDevice → IsLast C filter_bytes request reply after AtDevice Holds
  device_last is =
      subst (λ (t : Turn). AsSaid t Holds × EndsOr t [] AtDevice ((next : State) × Between C filter_bytes request after (Over AtDevice) next)) (sym is) (tt, (refl, refl))

  pub slice_last : turn_of reply ≡ Onward → Holds → (next : State) → Between C filter_bytes request after (Over AtDevice) next → IsLast C filter_bytes request reply after AtDevice Holds
  slice_last is holds next between =
      subst (λ (t : Turn). AsSaid t Holds × EndsOr t [] AtDevice ((next : State) × Between C filter_bytes request after (Over AtDevice) next)) (sym is) (holds, (next, between))
