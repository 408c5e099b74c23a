-- What each image of each moment has, as a run goes on.
use Rattle.std.proofs.Common.{◌≡◌, ◌⊎◌, inl, inr, ◌+◌, ◌++◌, ℕ, List, [], ◌∷◌, length, refl, sym, ap, ◌∙◌, arith, append_assoc, length-append, subst, take, drop, ◌-◌, ◌≤◌}
use Rattle.std.proofs.Math.Seq.{drop-append-add, take-append-add}
use Rattle.std.proofs.lemmas.List.{append-nil, drop-append-le, nil_from_length, take-append-le, take_all, take-append-drop}
use Rattle.disk_trait.specs.World.{Image, World}
use Rattle.line_model.specs.Replies.{Reply, text_of}
use Rattle.line_model.specs.Requests.{request_of}
use Rattle.map_model.specs.SortedMap.{Bytes}
use Rattle.outside.specs.During.{During}
use Rattle.outside.specs.Streams.{SaidByNow, SaysPrefix}
use Rattle.state_model.specs.Causes.{Why}
use Rattle.state_model.specs.PlayLaws.{AnyState}
use Rattle.state_model.specs.State.{State}
use Rattle.state_model.specs.Steps.{Step}
use Rattle.surf_run.specs.Answering.{InLine}
use Rattle.surf_run.specs.Crash.{EachImageStandsFor, HasMap, IsAfterPrefix, KeepsAcknowledged, WasStateAt}
use Rattle.surf_run.specs.Dialogue.{AnsweredLines}
use Rattle.surf_run.specs.Kind.{Kind}
use Rattle.surf_run.specs.MapCrash.{GoesOnAs}
use Rattle.surf_run.proofs.Dialogues.{so_far_as, step_as}

-- what was reached stays so
pub reached_on : (kind : Kind) (Q : ℕ → Image → Type 0) (a b : World) → During Q a b → (n : ℕ) (s : State) → WasStateAt kind a n s → WasStateAt kind b n s
reached_on kind Q a b run n s reached =
    (reached.0, omega (arith, reached.1, run.later), run.told_kept reached.0 reached.1 ∙ reached.2, λ image left. reached.3 image (run.kept reached.0 image reached.1 left))

pub reached_here : (kind : Kind) (w : World) (s : State) (n : ℕ) → SaidByNow w → length w.beside.said ≡ n → EachImageStandsFor kind s w → WasStateAt kind w n s
reached_here kind w s n now is stand = (w.moment, omega arith, now w.moment (omega arith) ∙ is, stand)

-- more lines, and more may be a cause
module _ (C D : Why → Type 0) (causes : (why : Why) → C why → D why) (kind : Kind) where
  behind_more : (now : State) (later more : List Bytes) (answered told then : Bytes) (image : Image) → IsAfterPrefix C kind now later answered told then image
      → IsAfterPrefix D kind now (later ++ more) answered told then image
  behind_more now later more answered told then image behind = elim behind [
    | inl before ↦ inl before
    | inr begun ↦ inr (
      begun.0,
      begun.1 ++ more,
      begun.2,
      begun.3,
      begun.4,
      begun.5,
      ap (λ (l : List Bytes). l ++ more) begun.6,
      step_as C D kind.filter_bytes causes now (request_of begun.0) begun.2 begun.3 begun.7,
      begun.8,
      begun.9,
      begun.10,
      begun.11,
    )
  ]

  pub ack_more : (start : State) (lines more : List Bytes) (before told told' : Bytes) → told' ≡ told → (n : ℕ) (image : Image)
      → KeepsAcknowledged C kind start lines before told n image → KeepsAcknowledged D kind start (lines ++ more) before told' n image
  ack_more start lines more before told told' same n image ack =
      subst (λ (t : Bytes). KeepsAcknowledged D kind start (lines ++ more) before t n image) (sym same)
      (record {
        so_far = ack.so_far;
        later = ack.later ++ more;
        split = ap (λ (l : List Bytes). l ++ more) ack.split ∙ append_assoc ack.so_far ack.later more;
        text = ack.text;
        most = ack.most;
        now = ack.now;
        answered = so_far_as C D kind.filter_bytes AnyState AnyState causes (λ n s any. any) 0 start ack.so_far ack.text ack.most ack.now ack.answered;
        within = ack.within;
        behind = behind_more ack.now ack.later more (before ++ ack.text) (take n told) (drop n told) image ack.behind;
      })

-- where all of a prefix had been said
take_all_of : (n : ℕ) (told prefix more : Bytes) → told ≡ prefix ++ more → n ≡ length prefix → take n told ≡ prefix
take_all_of n told prefix more is size = ap (take n) is ∙ take-append-le n prefix more (omega (arith, size)) ∙ take_all n prefix (omega (arith, size))

module _ (C : Why → Type 0) (kind : Kind) (start : State) where
  -- after these lines, with their replies said whole and nothing else
  ack_whole : (lines later : List Bytes) (text : Bytes) (most : ℕ) (now : State) (before told more : Bytes) (n : ℕ) (image : Image)
      → AnsweredLines C kind.filter_bytes AnyState 0 start lines text most now → told ≡ (before ++ text) ++ more → n ≡ length (before ++ text)
      → HasMap kind now image → KeepsAcknowledged C kind start (lines ++ later) before told n image
  ack_whole lines later text most now before told more n image went is size map = record {
    so_far = lines;
    later = later;
    split = refl;
    text = text;
    most = most;
    now = now;
    answered = went;
    within = omega (arith, size, ap length is, length-append (before ++ text) more);
    behind = inl (take_all_of n told (before ++ text) more is size, map);
  }

  -- between two lines, whatever is said then
  pub ack_here : (lines : List Bytes) (text : Bytes) (most : ℕ) (now : State) (before told then : Bytes) → told ≡ before ++ text → (n : ℕ) (image : Image)
      → AnsweredLines C kind.filter_bytes AnyState 0 start lines text most now → n ≡ length told → HasMap kind now image → KeepsAcknowledged C kind start lines before (told ++ then) n image
  ack_here lines text most now before told then is n image went size map =
      subst (λ (ls : List Bytes). KeepsAcknowledged C kind start ls before (told ++ then) n image) (append-nil lines)
      (ack_whole lines [] text most now before (told ++ then) then n image went (ap (λ (l : Bytes). l ++ then) is) (size ∙ ap length is) map)

  -- before the first line
  pub ack_none : (before told then : Bytes) → told ≡ before → (n : ℕ) (image : Image) → n ≡ length told → HasMap kind start image → KeepsAcknowledged C kind start [] before (told ++ then) n image
  ack_none before told then is n image size map = ack_here [] [] 0 start before told then (is ∙ sym (append-nil before)) n image (refl, refl, refl) size map

  module _ (B : Why → Type 0) (causes : (why : Why) → B why → C why) (lines : List Bytes) (line text : Bytes) (most : ℕ) (now : State) (reply : Reply) (next : State) (first w w' : World)
      (went : AnsweredLines C kind.filter_bytes AnyState 0 start lines text most now) (told : w.beside.said ≡ first.beside.said ++ text) (prefix : SaysPrefix (text_of reply) w.beside.said w'.beside.said)
      (step : Step B kind.filter_bytes now (request_of line) reply next) where
    -- what had been said within the reply
    part : (n : ℕ) → length w.beside.said ≤ n → take n w'.beside.said ≡ w.beside.said ++ take (n - length w.beside.said) prefix.done
    part n le =
        let size : n ≡ length w.beside.said + (n - length w.beside.said) = omega (arith, le) in
        ap (λ (k : ℕ). take k w'.beside.said) size ∙ ap (take (length w.beside.said + (n - length w.beside.said))) prefix.said ∙ take-append-add w.beside.said prefix.done (n - length w.beside.said)

    -- what was said then goes on as the reply does, where all of it was said, or nothing is said after it
    goes_on : (k : ℕ) (then : Bytes) → (prefix.rest ≡ []) ⊎ (then ≡ []) → GoesOnAs (drop k prefix.done ++ prefix.rest) (drop k prefix.done ++ then)
    goes_on k then (inl all) = inl (then, ap (λ (l : Bytes). l ++ then) (sym (ap (λ (r : Bytes). drop k prefix.done ++ r) all ∙ append-nil (drop k prefix.done))))
    goes_on k then (inr none) = inr (prefix.rest, ap (λ (l : Bytes). l ++ prefix.rest) (sym (ap (λ (r : Bytes). drop k prefix.done ++ r) none ∙ append-nil (drop k prefix.done))))

    -- and it is this
    said_then : (n : ℕ) (then : Bytes) → length w.beside.said ≤ n → n ≤ length w'.beside.said → drop n (w'.beside.said ++ then) ≡ drop (n - length w.beside.said) prefix.done ++ then
    said_then n then le most =
        let size : n ≡ length w.beside.said + (n - length w.beside.said) = omega (arith, le) in
        drop-append-le n w'.beside.said then most
        ∙ ap (λ (l : Bytes). l ++ then) (ap (λ (k : ℕ). drop k w'.beside.said) size ∙ ap (drop (length w.beside.said + (n - length w.beside.said))) prefix.said ∙ drop-append-add w.beside.said prefix.done (n - length w.beside.said))

    -- in a line
    pub line_ack : (then : Bytes) → (prefix.rest ≡ []) ⊎ (then ≡ []) → (n : ℕ) (image : Image)
        → InLine kind now (request_of line) reply next (length w.beside.said) (length w'.beside.said) n image
        → KeepsAcknowledged C kind start (lines ++ line ∷ []) first.beside.said (w'.beside.said ++ then) n image
    line_ack then ends n image at =
        let before = first.beside.said in
        elim at [
          | inl before_it ↦ ack_whole lines (line ∷ []) text most now before (w'.beside.said ++ then) (prefix.done ++ then) n image went
              (ap (λ (l : Bytes). l ++ then) prefix.said ∙ append_assoc w.beside.said prefix.done then ∙ ap (λ (l : Bytes). l ++ (prefix.done ++ then)) told)
              (before_it.0 ∙ ap length told) before_it.1
          | inr after ↦
              let k = n - length w.beside.said in
              let done = take k prefix.done in
              record {
                so_far = lines;
                later = line ∷ [];
                split = refl;
                text = text;
                most = most;
                now = now;
                answered = went;
                within = omega (arith, after.1, length-append w'.beside.said then);
                behind = inr (
                  line,
                  [],
                  reply,
                  next,
                  done,
                  drop k prefix.done ++ prefix.rest,
                  refl,
                  step_as B C kind.filter_bytes causes now (request_of line) reply next step,
                  prefix.split ∙ ap (λ (l : Bytes). l ++ prefix.rest) (sym (take-append-drop k prefix.done)) ∙ append_assoc done (drop k prefix.done) prefix.rest,
                  take-append-le n w'.beside.said then after.1 ∙ part n after.0 ∙ ap (λ (l : Bytes). l ++ done) told,
                  subst (GoesOnAs (drop k prefix.done ++ prefix.rest)) (sym (said_then n then after.0 after.1)) (goes_on k then ends),
                  after.2,
                );
              }
        ]

-- a reply that was said whole leaves no rest
pub none_left : (text old new : Bytes) (prefix : SaysPrefix text old new) → new ≡ old ++ text → prefix.rest ≡ []
none_left text old new prefix all =
    nil_from_length prefix.rest
    (omega (arith, ap length all, length-append old text, ap length prefix.said, length-append old prefix.done, ap length prefix.split, length-append prefix.done prefix.rest))
