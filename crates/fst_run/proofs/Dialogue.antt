-- Lines that a map answers, one after the other.
use Rattle.std.proofs.Common.{◌≡◌, ◌⊎◌, ◌≤◌, ◌<◌, ◌∙◌, ◌++◌, inl, inr, refl, sym, ap, subst, List, [], ◌∷◌, length, append_assoc, cond}
use Rattle.std.specs.List.{slice_split}
use Rattle.std.specs.Option.{option_map_or}
use Rattle.std.specs.Prelude.{Bool, IsTrue, None, Some, Option, ◌==◌}
use Rattle.std.proofs.lemmas.Bool.{cases_lt, lt-leb}
use Rattle.std.proofs.lemmas.List.{append-nil}
use Rattle.disk_trait.specs.World.{World}
use Rattle.fst_run.specs.Answering.{AnswersRequest, EndsBy, IsAnswered}
use Rattle.fst_run.proofs.Still.{only_say}
use Rattle.line_model.specs.Limits.{limit_of}
use Rattle.line_model.specs.Replies.{Bye, Reply, text_of}
use Rattle.line_model.specs.Requests.{Bad, Quit as QuitRequest, Request}
use Rattle.lines_in.proofs.Pieces.{prefix_of}
use Rattle.lines_in.specs.Causes.{SayFailed}
use Rattle.lines_in.specs.Holding.{PendingLine}
use Rattle.lines_in.specs.Reading.{AfterLine, HasEndCause}
use Rattle.lines_in.specs.Saying.{Says, end_by}
use Rattle.lines_in.specs.declared.line_end.LineEnd.{LineEnd}
use Rattle.lines_in.specs.declared.line_end.LineEnd.TheVariants.{End, Next, Quit}
use Rattle.map_model.specs.SortedMap.{Bytes, Map}
use Rattle.map_run_model.specs.MapLines.{Answers, IsReplyOf, map_asked_by, map_request_of, within_limits}
use Rattle.map_run_model.specs.Serving.{HasAnswered, HasEnded, IsOnlyRead}
use Rattle.outside.specs.Streams.{SaidByNow, SayMoves, SaysPrefix}

-- ---- a reply

pub kept : (request : Request) (answer : Reply) → limit_of request ≡ None → within_limits request answer ≡ answer
kept request answer none = ap (λ (l : Option Reply). option_map_or (λ (limit : Reply). limit) l answer) none

pub broken : (request : Request) (answer limit : Reply) → limit_of request ≡ Some limit → within_limits request answer ≡ limit
broken request answer limit some = ap (λ (l : Option Reply). option_map_or (λ (limit : Reply). limit) l answer) some

module _ (tells : Bool) (map : Map) (request : Request) (result : LineEnd) (a b : World) where
  -- after this reply the next line follows
  pub onward : (reply : Reply) → IsReplyOf map request reply → end_by reply ≡ Next → (IsTrue tells → Says Next reply result a b) → (result ≡ Next) ⊎ ((result ≡ End 6) × SayFailed a b) → SayMoves a b
      → AnswersRequest tells map request result a b
  onward reply is next says ends moves = record {
    answered = λ output. (reply, is, subst (λ (e : LineEnd). Says e reply result a b) (sym next) (says output));
    ends = elim ends [ inl on ↦ inl on | inr six ↦ inr (inr six) ];
    moves = moves;
  }

-- ---- lines

pub answers_more : (map : Map) (lines : List Bytes) (text : Bytes) (line : Bytes) (reply : Reply) → Answers map lines text → IsReplyOf map (map_request_of line) reply → (map_request_of line ≡ QuitRequest → ⊥)
    → Answers map (lines ++ line ∷ []) (text ++ text_of reply)
answers_more map [] text line reply answers is goes =
    (reply, [], ap (λ (t : Bytes). t ++ text_of reply) answers ∙ sym (append-nil (text_of reply)), is, goes, refl)
answers_more map (first ∷ more) text line reply answers is goes = (
  answers.0,
  answers.1 ++ text_of reply,
  ap (λ (t : Bytes). t ++ text_of reply) answers.2 ∙ append_assoc (text_of answers.0) answers.1 (text_of reply),
  answers.3,
  answers.4,
  answers_more map more answers.1 line reply answers.5 is goes,
)

quit_says : (map : Map) (reply : Reply) → IsReplyOf map QuitRequest reply → reply ≡ Bye
quit_says map reply (inl is) = is
quit_says map reply (inr memory) = absurd memory.1

next_not_quit : Next ≡ Quit → ⊥
next_not_quit e = cc

-- a line was read by a map that has answered these
module _ (map : Map) (lines : List Bytes) (line : Bytes) (first a b : World) (so_far : HasAnswered map lines first a) (only : IsOnlyRead first a) (now : SaidByNow a) where
  text_more : (reply : Reply) → b.beside.said ≡ a.beside.said ++ text_of reply → b.beside.said ≡ first.beside.said ++ (so_far.text ++ text_of reply)
  text_more reply said = said ∙ ap (λ (t : Bytes). t ++ text_of reply) so_far.said ∙ append_assoc first.beside.said so_far.text (text_of reply)

  pub line_read : (result : LineEnd) → IsAnswered map (map_request_of line) result a b → EndsBy (map_request_of line) result a b → SayMoves a b
      → AfterLine result (HasAnswered map (lines ++ line ∷ []) first b × IsOnlyRead first b) (λ end. HasEnded map end lines line first b × IsOnlyRead first b)
  line_read Next answered ends moves =
      let reply = answered.0 in
      let whole : b.beside.said ≡ a.beside.said ++ text_of reply = elim answered.2.1 [ inl all ↦ all.1 | inr six ↦ absurd cc ] in
      let next : Next ≡ end_by reply = elim answered.2.1 [ inl all ↦ all.0 | inr six ↦ absurd cc ] in (
        record {
          text = so_far.text ++ text_of reply;
          said = text_more reply whole;
          answers = answers_more map lines so_far.text line reply so_far.answers answered.1
              (λ quits. let bye : reply ≡ Bye = quit_says map reply (subst (λ (r : Request). IsReplyOf map r reply) quits answered.1) in next_not_quit (next ∙ ap end_by bye));
        },
        only_say first a b only now moves,
      )
  line_read Quit answered ends moves =
      let reply = answered.0 in
      let quits : map_request_of line ≡ QuitRequest = elim ends [ inl on ↦ absurd cc | inr more ↦ elim more [ inl quit ↦ quit.0 | inr six ↦ absurd cc ] ] in
      let bye : reply ≡ Bye = quit_says map reply (subst (λ (r : Request). IsReplyOf map r reply) quits answered.1) in
      let whole : b.beside.said ≡ a.beside.said ++ text_of reply = elim answered.2.1 [ inl all ↦ all.1 | inr six ↦ absurd cc ] in (
        record {
          text = so_far.text;
          answers = so_far.answers;
          quits = quits;
          said = text_more Bye (whole ∙ ap (λ (r : Reply). a.beside.said ++ text_of r) bye);
        },
        only_say first a b only now moves,
      )
  line_read (End status) answered ends moves =
      let six : status ≡ 6 = elim ends [ inl on ↦ absurd cc | inr more ↦ elim more [ inl quit ↦ absurd cc | inr six ↦ cc ] ] in (
        (
          six,
          record {
            text = so_far.text;
            reply = answered.0;
            answers = so_far.answers;
            is = answered.1;
            said = subst (λ (s : Bytes). SaysPrefix (text_of answered.0) s b.beside.said) so_far.said answered.2.0;
          },
        ),
        only_say first a b only now moves,
      )

pub take_answered : (map : Map) (lines : List Bytes) (first a b : World) → b.beside.said ≡ a.beside.said → HasAnswered map lines first a → HasAnswered map lines first b
take_answered map lines first a b same so_far = record { text = so_far.text; said = same ∙ so_far.said; answers = so_far.answers }

-- ---- texts in pieces

-- of what waits and this text a prefix was said, and what waits ends what was said of the whole
pub prefix_on : (front waits text more old mid new : Bytes) → SaysPrefix (waits ++ text) mid new → mid ++ waits ≡ old ++ front → length old ≤ length new → SaysPrefix (front ++ (text ++ more)) old new
prefix_on front waits text more old mid new prefix is longer =
    prefix_of (front ++ (text ++ more)) old new (prefix.rest ++ more)
    (ap (λ (l : Bytes). l ++ (prefix.rest ++ more)) prefix.said ∙ append_assoc mid prefix.done (prefix.rest ++ more)
    ∙ ap (λ (l : Bytes). mid ++ l) (sym (append_assoc prefix.done prefix.rest more) ∙ ap (λ (l : Bytes). l ++ more) (sym prefix.split) ∙ append_assoc waits text more)
    ∙ sym (append_assoc mid waits (text ++ more)) ∙ ap (λ (l : Bytes). l ++ (text ++ more)) is ∙ append_assoc old front (text ++ more))
    longer

-- ---- lines that are kept in part, and why they end the run

too_long : (line : Bytes) → 2100000 < length line → map_request_of line ≡ Bad 1
too_long line long = ap (λ (t : Bool). cond t (map_asked_by (slice_split (λ b. b == 32) line)) (Bad 1)) (lt-leb (length line) 2100000 long)

-- too long a line says the same however long it is
pub asked_held : (whole kept : Bytes) → PendingLine 2100000 whole kept → map_request_of kept ≡ map_request_of whole
asked_held whole kept held = elim (cases_lt 2100000 (length whole)) [
  | inl long ↦ too_long kept (held.long long) ∙ sym (too_long whole long)
  | inr short ↦ ap map_request_of (held.short short)
]

pub after_with : (end : LineEnd) (P Q : Type 0) (E : LineEnd → Type 0) → (P → Q) → AfterLine end P E → AfterLine end Q E
after_with Next P Q E more after = more after
after_with Quit P Q E more after = after
after_with (End status) P Q E more after = after

pub ends_cause : (request : Request) (result : LineEnd) (a b : World) → EndsBy request result a b → HasEndCause (λ status. (status ≡ 6) × SayFailed a b) result
ends_cause request Next a b ends = tt
ends_cause request Quit a b ends = tt
ends_cause request (End status) a b ends = elim ends [
  | inl on ↦ absurd cc
  | inr more ↦ elim more [ inl quit ↦ absurd cc | inr six ↦ (let e : status ≡ 6 = cc in e, six.1) ]
]
