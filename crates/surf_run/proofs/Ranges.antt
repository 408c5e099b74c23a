-- A line whose reply is said in pieces, with reads between them: a range.
use Rattle.std.proofs.Common.{◌≡◌, inl, inr, ◌≤◌, ◌<◌, ◌+◌, ◌-◌, ◌*◌, ◌++◌, ℕ, zero, suc, Bool, true, false, [], ◌∷◌, length, take, drop, refl, sym, ap, ◌∙◌, subst, arith, append_assoc}
use Rattle.std.specs.Prelude.{Option, Some, None, flat_map, nat_lt}
use Rattle.std.proofs.lemmas.Bool.{ltb-false, ltb-true}
use Rattle.std.proofs.lemmas.List.{append-nil}
use Rattle.block_model.specs.Pages.{page_bytes}
use Rattle.disk_trait.proofs.Calls.{reads_none}
use Rattle.disk_trait.proofs.Moments.{in_call, same_then}
use Rattle.disk_trait.specs.World.{Image, Passes, Same, Seen, Streams, World}
use Rattle.line_model.specs.Replies.{Device, End as EndReply, Pairs, Reply, at_words, text_of}
use Rattle.line_model.specs.Requests.{Range, Request}
use Rattle.lines_in.specs.Causes.{LineMoves}
use Rattle.lines_in.specs.Saying.{SaysBehind, end_by}
use Rattle.lines_in.specs.declared.line_end.LineEnd.{LineEnd}
use Rattle.lines_in.specs.declared.line_end.LineEnd.TheVariants.{End, Next}
use Rattle.lines_in.proofs.EndCauses.{line_read, line_say, lines_none, lines_on, no_fall_say, rose_since, rose_then}
use Rattle.lines_in.proofs.Footprint.{within_still}
use Rattle.lines_in.proofs.Pieces.{goes_on}
use Rattle.lines_in.proofs.LastLines.{now_still}
use Rattle.map_model.specs.Slices.{first_pair, slice}
use Rattle.map_model.specs.SortedMap.{Bytes, Map}
use Rattle.merge_rows.specs.Reads.{OnlyReads}
use Rattle.outside.proofs.Crossing.{during_disk, during_none, during_say, during_then, during_weaker}
use Rattle.outside.specs.During.{During}
use Rattle.outside.specs.Streams.{SaidByNow, SayMoves, SaysPrefix}
use Rattle.state_model.specs.Bounds.{tables_between}
use Rattle.state_model.specs.Script.{AtDevice, Onward, Over, turn_of}
use Rattle.state_model.specs.State.{State}
use Rattle.state_model.specs.Steps.{Step, read_failed}
use Rattle.state_model.specs.View.{state_map}
use Rattle.line_model.specs.Limits.{limit_of}
use Rattle.store_core.proofs.ScanCounts.{none_behind}
use Rattle.store_core.specs.Answers.{HasCause, told}
use Rattle.store_core.specs.Getting.{IsUndamaged}
use Rattle.store_core.specs.StoreValue.{StoreValue}
use Rattle.store_core.specs.Scans.{IsStepFault}
use Rattle.store_core.specs.Represents.{Represents}
use Rattle.store_core.specs.declared.error.StoreError.{StoreError}
use Rattle.store_core.specs.declared.error.StoreError.TheVariants as error
use Rattle.surf_run.specs.Answering.{EndsLine, LineAnswer}
use Rattle.surf_run.specs.Crash.{EachImageStandsFor}
use Rattle.surf_run.specs.Dialogue.{IsBounded, reply_bound}
use Rattle.surf_run.specs.Kind.{Kind}
use Rattle.surf_run.proofs.Calms.{asked_step}
use Rattle.surf_run.proofs.Moments.{map_of_state, stands_still, tied_stands, tied_still}

-- ---- reads and says in turn

-- since the first world nothing was written, and it had more and more said
pub record Walked (a w : World) : Type 0 where
  pub longer : length a.beside.said ≤ length w.beside.said
  pub held : w.seen.held ≡ a.seen.held
  pub time : Passes Same a w
  pub lines : LineMoves a w
  pub each : During (λ n image. (length a.beside.said ≤ n) × (n ≤ length w.beside.said) × a.leaves a.moment image) a w

-- what may be left now might have been left then
left_since : (a w : World) → Passes Same a w → (image : Image) → w.leaves w.moment image → a.leaves a.moment image
left_since a w time image left = now_still (λ (i : Image). a.leaves a.moment i) a w time (λ i here. here) image left

pub walked_none : (a : World) → SaidByNow a → Walked a a
walked_none a now = record {
  longer = omega arith;
  held = refl;
  time = (reads_none 0 a).time;
  lines = lines_none a;
  each = during_weaker (λ k image. (k ≡ length a.beside.said) × a.leaves a.moment image) _ a a (during_none (λ (i : Image). a.leaves a.moment i) a (λ image left. left) now)
      (λ k image at. (omega (arith, at.0), omega (arith, at.0), at.1));
}

module _ (a w b : World) (walked : Walked a w) (now : SaidByNow w) where
  abbrev Spoken : ℕ → Image → Type 0
  Spoken n image = (length a.beside.said ≤ n) × (n ≤ length b.beside.said) × a.leaves a.moment image

  so_far : length w.beside.said ≤ length b.beside.said → During Spoken a w
  so_far longer = during_weaker _ Spoken a w walked.each (λ k image at. (at.0, omega (arith, at.1, longer), at.2))

  pub walked_read : OnlyReads w b → Walked a b
  walked_read moves =
      let same : b.beside.said ≡ w.beside.said = ap (λ (s : Streams). s.said) moves.1.beside in
      record {
        longer = omega (arith, walked.longer, ap length same);
        held = moves.1.held ∙ walked.held;
        time = same_then a w b walked.time moves.1.time;
        lines = lines_on a w b walked.lines (line_read moves.0 w b moves.1);
        each = during_then Spoken a w b (so_far (omega (arith, ap length same)))
            (during_weaker (λ k image. (k ≡ length w.beside.said) × a.leaves a.moment image) Spoken w b
            (during_disk (λ (i : Image). a.leaves a.moment i) w b
            (in_call (λ (i : Image). a.leaves a.moment i) Same w b (left_since a w walked.time) moves.1.time (λ was image left same. subst (λ (i : Image). a.leaves a.moment i) (sym same) (left_since a w walked.time was left)))
            moves.1.beside now)
            (λ k image at. (omega (arith, at.0, walked.longer), omega (arith, at.0, ap length same), at.1)));
      }

  pub walked_say : SayMoves w b → Walked a b
  walked_say moves = record {
    longer = omega (arith, walked.longer, moves.told.longer);
    held = ap (λ (s : Seen). s.held) moves.seen ∙ walked.held;
    time = same_then a w b walked.time moves.time;
    lines = lines_on a w b walked.lines (line_say w b moves);
    each = during_then Spoken a w b (so_far moves.told.longer)
        (during_weaker _ Spoken w b (during_say w b moves now)
        (λ k image at. (omega (arith, at.0, walked.longer), at.1, left_since a w walked.time image at.2)));
  }

-- ---- the texts of pairs

abbrev pub pair_text : Bytes × Bytes → Bytes
pair_text pair = at_words pair.0 pair.1 ++ 10 ∷ []

abbrev pub pairs_text : Map → Bytes
pairs_text pairs = flat_map (λ (pair : Bytes × Bytes). at_words pair.0 pair.1 ++ 10 ∷ []) pairs

-- a given number of pairs, and one more
said_more : (n : ℕ) (m : Map) (pair : Bytes × Bytes) → first_pair (drop n m) ≡ Some pair → pairs_text (take (suc n) m) ≡ pairs_text (take n m) ++ pair_text pair
said_more zero [] pair is = absurd cc
said_more zero (first ∷ more) pair is = let same : first ≡ pair = cc in append-nil (pair_text first) ∙ ap (λ (p : Bytes × Bytes). pair_text p) same
said_more (suc n) [] pair is = absurd cc
said_more (suc n) (first ∷ more) pair is =
    ap (λ (l : Bytes). pair_text first ++ l) (said_more n more pair is) ∙ sym (append_assoc (pair_text first) (pairs_text (take n more)) (pair_text pair))

pub one_said : (n : ℕ) (m : Map) (pair : Bytes × Bytes) → first_pair (drop n m) ≡ Some pair → pairs_text (take (n + 1) m) ≡ pairs_text (take n m) ++ pair_text pair
one_said n m pair is = let next : n + 1 ≡ suc n = omega arith in ap (λ (k : ℕ). pairs_text (take k m)) next ∙ said_more n m pair is

-- what is said after a given number of pairs and this one
pub behind_pair : ℕ → Map → Bytes
behind_pair n m = pairs_text (drop (suc n) m)

parts : (n : ℕ) (m : Map) (pair : Bytes × Bytes) → first_pair (drop n m) ≡ Some pair → pairs_text m ≡ pairs_text (take n m) ++ (pair_text pair ++ behind_pair n m)
unfolding behind_pair
parts zero [] pair is = absurd cc
parts zero (first ∷ more) pair is = let same : first ≡ pair = cc in ap (λ (p : Bytes × Bytes). pair_text p ++ pairs_text more) same
parts (suc n) [] pair is = absurd cc
parts (suc n) (first ∷ more) pair is =
    ap (λ (l : Bytes). pair_text first ++ l) (parts n more pair is) ∙ sym (append_assoc (pair_text first) (pairs_text (take n more)) (pair_text pair ++ behind_pair n more))

-- some pairs and the next one are a part of all
pub in_part : (n : ℕ) (m : Map) (pair : Bytes × Bytes) (last : Reply) → first_pair (drop n m) ≡ Some pair
    → text_of (Pairs m last) ≡ (pairs_text (take n m) ++ pair_text pair) ++ (behind_pair n m ++ text_of last)
in_part n m pair last is =
    ap (λ (l : Bytes). l ++ text_of last) (parts n m pair is ∙ sym (append_assoc (pairs_text (take n m)) (pair_text pair) (behind_pair n m)))
    ∙ append_assoc (pairs_text (take n m) ++ pair_text pair) (behind_pair n m) (text_of last)

pub all_taken : (n : ℕ) (m : Map) → length m ≤ n → take n m ≡ m
all_taken zero [] all = refl
all_taken zero (pair ∷ more) all = absurd (omega arith)
all_taken (suc n) [] all = refl
all_taken (suc n) (pair ∷ more) all = ap (λ (l : Map). pair ∷ l) (all_taken n more (omega (arith, all)))

-- fewer pairs may come
pub below_most : (left : Option ℕ) (most n : ℕ) → left ≡ Some (most - n) → n ≤ most → (left ≡ Some 0 → ⊥) → n < most
below_most left most n is few more = by_test (nat_lt n most) refl
  where
    by_test : (less : Bool) → nat_lt n most ≡ less → n < most
    by_test true yes_less = ltb-true n most yes_less
    by_test false not_less =
        let none : most - n ≡ 0 = omega (arith, few, ltb-false n most not_less) in
        absurd (more (is ∙ ap Some none))

-- ---- what such a line leads to

module _ (kind : Kind) (s : State) (request : Request) (store : StoreValue) (a b : World) (few : store.manifest.slot ≤ 1) (tied : Represents kind.spelling kind.filter_bytes store s a) (walked : Walked a b)
    (never : IsBounded request → ⊥) (reply : Reply) (step : Step (HasCause a b) kind.filter_bytes s request reply s) (done rest : Bytes) (split : text_of reply ≡ done ++ rest)
    (said : b.beside.said ≡ a.beside.said ++ done) where
  stand : EachImageStandsFor kind s a
  stand = tied_stands kind store s a few tied

  stand_now : EachImageStandsFor kind s b
  stand_now = stands_still kind s a b walked.time stand

  tied_now : Represents kind.spelling kind.filter_bytes store s b
  tied_now = tied_still kind.spelling kind.filter_bytes store s a b walked.time tied

  answer : LineAnswer kind s request reply s (reply_bound s request) a b
  answer = record {
    step = step;
    prefix = record { done = done; rest = rest; split = split; said = said };
    each = during_weaker _ _ a b walked.each (λ n image at. inr (at.0, at.1, inl (map_of_state kind s image (stand image at.2))));
    reads = λ bounded. absurd (never bounded);
    writes = within_still (page_bytes * s.pages) a b walked.held walked.time;
  }

  -- the output failed
  pub walked_six : (result : LineEnd) → result ≡ End 6 → EndsLine kind result s request store a b
  walked_six result is = subst (λ (e : LineEnd). EndsLine kind e s request store a b) (sym is) (reply, s, answer, inr (refl, λ other. stand_now), λ runs. tied_now)

  module _ (whole : done ≡ text_of reply) where
    all_said : b.beside.said ≡ a.beside.said ++ text_of reply
    all_said = said ∙ ap (λ (l : Bytes). a.beside.said ++ l) whole

    pub walked_next : (result : LineEnd) → result ≡ Next → turn_of reply ≡ Onward → EndsLine kind result s request store a b
    walked_next result is goes = subst (λ (e : LineEnd). EndsLine kind e s request store a b) (sym is) (reply, s, answer, goes, all_said, tied_now, stand_now)

    pub walked_device : (result : LineEnd) → result ≡ End 4 → turn_of reply ≡ Over AtDevice → EndsLine kind result s request store a b
    walked_device result is over =
        subst (λ (e : LineEnd). EndsLine kind e s request store a b) (sym is) (reply, s, answer, inl (refl, over, all_said, λ other. stand_now), λ runs. tied_now)

-- ---- how a range ends

-- one pair more waits after those that wait
pub one_waits : (n : ℕ) (m : Map) (pair : Bytes × Bytes) → first_pair (drop n m) ≡ Some pair → (first so_far now waits : Bytes) → now ≡ so_far → so_far ++ waits ≡ first ++ pairs_text (take n m)
    → now ++ (waits ++ pair_text pair) ≡ first ++ pairs_text (take (n + 1) m)
one_waits n m pair is first so_far now waits same said =
    ap (λ (l : Bytes). l ++ (waits ++ pair_text pair)) same ∙ sym (append_assoc so_far waits (pair_text pair)) ∙ ap (λ (l : Bytes). l ++ pair_text pair) said
    ∙ append_assoc first (pairs_text (take n m)) (pair_text pair) ∙ ap (λ (l : Bytes). first ++ l) (sym (one_said n m pair is))

module _ (kind : Kind) (s : State) (lo hi : Bytes) (most : ℕ) (store : StoreValue) (result : LineEnd) (a w mid b : World) (few : store.manifest.slot ≤ 1) (tied : Represents kind.spelling kind.filter_bytes store s a)
    (walked : Walked a w) (moves : OnlyReads w mid) (now_w : SaidByNow w) (now_mid : SaidByNow mid) (say : SayMoves mid b) (within : limit_of (Range lo hi most) ≡ None) where
  abbrev all : Map
  all = slice (state_map s) lo (Some hi) most

  module _ (n : ℕ) (waits : Bytes) (said : w.beside.said ++ waits ≡ a.beside.said ++ pairs_text (take n all)) where
    walked_b : Walked a b
    walked_b = walked_say a mid b (walked_read a w mid walked now_w moves) now_mid say

    behind_all : (text : Bytes) → mid.beside.said ++ (waits ++ text) ≡ a.beside.said ++ (pairs_text (take n all) ++ text)
    behind_all text =
        ap (λ (st : Streams). st.said ++ (waits ++ text)) moves.1.beside ∙ sym (append_assoc w.beside.said waits text) ∙ ap (λ (l : Bytes). l ++ text) said
        ∙ append_assoc a.beside.said (pairs_text (take n all)) text

    -- of the pairs and a text after them a part was said
    said_part : (text : Bytes) → SaysPrefix (waits ++ text) mid.beside.said b.beside.said
        → (done : Bytes) × (b.beside.said ≡ a.beside.said ++ done) × ((rest : Bytes) × (pairs_text (take n all) ++ text ≡ done ++ rest))
    said_part text prefix =
        let whole : b.beside.said ++ prefix.rest ≡ a.beside.said ++ (pairs_text (take n all) ++ text) =
        ap (λ (l : Bytes). l ++ prefix.rest) prefix.said ∙ append_assoc mid.beside.said prefix.done prefix.rest
        ∙ ap (λ (l : Bytes). mid.beside.said ++ l) (sym prefix.split) ∙ behind_all text in
        let part = goes_on a.beside.said b.beside.said prefix.rest (pairs_text (take n all) ++ text) whole walked_b.longer in
        (part.0, part.1, (prefix.rest, part.2))

    module _ (last : Reply) (step : Step (HasCause a b) kind.filter_bytes s (Range lo hi most) (Pairs (take n all) last) s) where
      cut_six : SaysPrefix (waits ++ text_of last) mid.beside.said b.beside.said → result ≡ End 6 → EndsLine kind result s (Range lo hi most) store a b
      cut_six prefix six =
          let part = said_part (text_of last) prefix in
          walked_six kind s (Range lo hi most) store a b few tied walked_b (λ never. never) (Pairs (take n all) last) step part.0 part.2.0 part.2.1 part.1 result six

      -- after these pairs the last line was said
      pub last_next : turn_of (Pairs (take n all) last) ≡ Onward → SaysBehind waits Next last result mid b → EndsLine kind result s (Range lo hi most) store a b
      last_next goes says = elim says.1 [
        | inl whole ↦ walked_next kind s (Range lo hi most) store a b few tied walked_b (λ never. never) (Pairs (take n all) last) step (pairs_text (take n all) ++ text_of last) []
            (sym (append-nil (pairs_text (take n all) ++ text_of last))) (whole.1 ∙ behind_all (text_of last)) refl result whole.0 goes
        | inr six ↦ cut_six says.0 six
      ]

      pub last_device : turn_of (Pairs (take n all) last) ≡ Over AtDevice → SaysBehind waits (End 4) last result mid b → EndsLine kind result s (Range lo hi most) store a b
      last_device over says = elim says.1 [
        | inl whole ↦ walked_device kind s (Range lo hi most) store a b few tied walked_b (λ never. never) (Pairs (take n all) last) step (pairs_text (take n all) ++ text_of last) []
            (sym (append-nil (pairs_text (take n all) ++ text_of last))) (whole.1 ∙ behind_all (text_of last)) refl result whole.0 over
        | inr six ↦ cut_six says.0 six
      ]

    -- all pairs were said
    pub range_done : n ≤ length all → first_pair (drop n all) ≡ None → SaysBehind waits Next (EndReply n) result mid b → EndsLine kind result s (Range lo hi most) store a b
    range_done few_said none says =
        let counted : n ≡ length all = omega (arith, few_said, none_behind n all none) in
        let taken : take n all ≡ all = all_taken n all (omega (arith, counted)) in
        let step : Step (HasCause a b) kind.filter_bytes s (Range lo hi most) (Pairs (take n all) (EndReply n)) s =
        subst (λ (r : Reply). Step (HasCause a b) kind.filter_bytes s (Range lo hi most) r s)
        (ap (λ (k : ℕ). Pairs all (EndReply k)) (sym counted) ∙ ap (λ (m : Map). Pairs m (EndReply n)) (sym taken))
        (asked_step (HasCause a b) kind.filter_bytes s (Range lo hi most) (Pairs all (EndReply (length all))) within refl) in
        last_next (EndReply n) step refl says

    -- a pair was not said whole
    pub range_cut : (pair : Bytes × Bytes) → first_pair (drop n all) ≡ Some pair → SaysPrefix (waits ++ pair_text pair) mid.beside.said b.beside.said → result ≡ End 6
        → EndsLine kind result s (Range lo hi most) store a b
    range_cut pair is prefix six =
        let part = said_part (pair_text pair) prefix in
        let last = EndReply (length all) in
        walked_six kind s (Range lo hi most) store a b few tied walked_b (λ never. never) (Pairs all last)
        (asked_step (HasCause a b) kind.filter_bytes s (Range lo hi most) (Pairs all last) within refl)
        part.0 (part.2.0 ++ (behind_pair n all ++ text_of last))
        (in_part n all pair last is ∙ ap (λ (l : Bytes). l ++ (behind_pair n all ++ text_of last)) part.2.1 ∙ append_assoc part.0 part.2.0 (behind_pair n all ++ text_of last))
        part.1 result six

    -- a block was not read
    pub range_fault : (why : StoreError) → IsStepFault w mid why → IsUndamaged why → n < most → 0 < tables_between s lo hi
        → ((reply : Reply) → told why ≡ Some reply → SaysBehind waits (end_by reply) reply result mid b) → EndsLine kind result s (Range lo hi most) store a b
    range_fault (error.Device cause) fault undamaged fewer some says =
        last_device Device
        (read_failed (Pairs (take n all) Device) within (omega (arith, fewer), some)
        (rose_then a.seen.read_faults mid.seen.read_faults b.seen.read_faults (rose_since a.seen.read_faults w.seen.read_faults mid.seen.read_faults walked.lines.counts.read fault.1) (no_fall_say mid b say).read)
        (inr (n, fewer, refl)))
        refl (says Device refl)
    range_fault (error.Damaged damage) fault undamaged fewer some says = absurd undamaged
    range_fault error.Memory fault undamaged fewer some says = absurd fault
    range_fault error.Stopped fault undamaged fewer some says = absurd fault
    range_fault (error.Limit limit) fault undamaged fewer some says = absurd fault
    range_fault (error.Full need gap) fault undamaged fewer some says = absurd fault
    range_fault error.NotAStore fault undamaged fewer some says = absurd fault
    range_fault error.AlreadyAStore fault undamaged fewer some says = absurd fault
    range_fault (error.BadSettings field) fault undamaged fewer some says = absurd fault
