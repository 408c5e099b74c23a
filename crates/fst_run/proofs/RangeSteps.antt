-- The pairs of a range, said one after the other.
use Rattle.std.proofs.Common.{◌≡◌, ◌≤◌, ◌<◌, ◌+◌, ◌-◌, ◌∙◌, ◌++◌, inl, inr, refl, sym, ap, subst, arith, ℕ, true, false, [], ◌∷◌, length, take, drop, append_assoc, length-append}
use Rattle.std.specs.Option.{option_map}
use Rattle.std.specs.Prelude.{Bool, Err, IsTrue, Ok, OnErr, Option, Result, Some, slice_get}
use Rattle.std.proofs.Math.Seq.{take-add}
use Rattle.std.proofs.lemmas.Bool.{cases_lt}
use Rattle.std.proofs.lemmas.List.{append-nil, drop_all, drop_more, take_all, take_at}
use Rattle.std.proofs.lemmas.List.Concat.{flat_map-append}
use Rattle.std.proofs.lemmas.Option.{get_or_from_slice_get, slice_get_within}
use Rattle.disk_trait.specs.World.{World}
use Rattle.fst_map.specs.Places.{Place, moved}
use Rattle.fst_run.specs.Answering.{from_on, pairs_text}
use Rattle.fst_run.proofs.Dialogue.{prefix_on}
use Rattle.fst_run.proofs.Parts.{both_parts, by_key}
use Rattle.fst_run.proofs.Walking.{drop_rises, goes, stops, up_to}
use Rattle.line_model.specs.Replies.{at_words}
use Rattle.map_model.specs.Slices.{is_up_to}
use Rattle.map_model.specs.SortedMap.{Bytes, Map, Rises}
use Rattle.outside.proofs.Pieces.{says_none, says_then}
use Rattle.outside.specs.Streams.{SaidByNow, SayMoves, SaysPrefix}

-- the pair of a number, and those after it
pub here : (map : Map) (n : ℕ) (pair : Bytes × Bytes) → slice_get map n ≡ Some pair → drop n map ≡ pair ∷ drop (n + 1) map
here map n pair is =
    drop_more map n pair (slice_get_within map n pair is) ∙ ap (λ (p : Bytes × Bytes). p ∷ drop (n + 1) map) (get_or_from_slice_get map n pair pair is)

-- what is so is so where a call failed
pub if_err : {T E : Type 0} (r : Result T E) (P : Type 0) → P → OnErr r P
if_err (Ok x) P is = tt
if_err (Err e) P is = is

-- the pair at which a cursor is
pub pair_at : (cursor start : Place) (count : ℕ) (key value : Bytes) → cursor ≡ moved start (start.number + count) → option_map (λ p. p.0) (slice_get cursor.map cursor.number) ≡ Some key
    → option_map (λ p. p.1) (slice_get cursor.map cursor.number) ≡ Some value → slice_get start.map (start.number + count) ≡ Some (key, value)
pair_at cursor start count key value place first second =
    subst (λ (p : Place). slice_get p.map p.number ≡ Some (key, value)) place (both_parts (slice_get cursor.map cursor.number) key value first second)

pub first_at : (cursor start : Place) (count : ℕ) (key : Bytes) → cursor ≡ moved start (start.number + count) → option_map (λ p. p.0) (slice_get cursor.map cursor.number) ≡ Some key
    → (pair : Bytes × Bytes) × (slice_get start.map (start.number + count) ≡ Some pair) × (pair.0 ≡ key)
first_at cursor start count key place first =
    let pair = by_key (slice_get cursor.map cursor.number) key first in
    (pair.0, subst (λ (p : Place). slice_get p.map p.number ≡ Some pair.0) place pair.1, pair.2)

-- the cursor was at the last pair
pub at_last : (cursor start : Place) (count : ℕ) → cursor ≡ moved start (start.number + count) → (cursor.number + 1 < length cursor.map → ⊥) → length start.map ≤ start.number + (count + 1)
at_last cursor start count place none =
    let past : length cursor.map ≤ cursor.number + 1 = elim (cases_lt (cursor.number + 1) (length cursor.map)) [ inl more ↦ absurd (none more) | inr last ↦ last ] in
    omega (arith, subst (λ (p : Place). length p.map ≤ p.number + 1) place past)

-- a key that was asked for twice is one
pub still_low : (hi : Option Bytes) (found : Option (Bytes × Bytes)) (first key : Bytes) (low : Bool) → option_map (λ p. p.0) found ≡ Some first → option_map (λ p. p.0) found ≡ Some key → low ≡ is_up_to hi first
    → low ≡ true → is_up_to hi key ≡ true
still_low hi found first key low once twice is test =
    let both : Some first ≡ Some key = sym once ∙ twice in
    let same : first ≡ key = cc in
    ap (is_up_to hi) (sym same) ∙ sym is ∙ test

text_more : (done : Map) (pair : Bytes × Bytes) → pairs_text (done ++ pair ∷ []) ≡ pairs_text done ++ (at_words pair.0 pair.1 ++ 10 ∷ [])
text_more done pair =
    flat_map-append (λ (p : Bytes × Bytes). at_words p.0 p.1 ++ 10 ∷ []) done (pair ∷ []) ∙ ap (λ (l : Bytes). pairs_text done ++ l) (append-nil (at_words pair.0 pair.1 ++ 10 ∷ []))

module _ (tells : Bool) (hi : Option Bytes) (start : Place) (a : World) where
  -- So many pairs from a place on were said, or wait to be said in so many bytes of a buffer.
  pub record SaidSoFar (count used : ℕ) (buffer : Bytes) (w : World) : Type 0 where
    pub done : Map
    pub split : from_on start hi ≡ done ++ up_to hi (drop (start.number + count) start.map)
    pub size : length done ≡ count
    pub said : IsTrue tells → w.beside.said ++ take used buffer ≡ a.beside.said ++ pairs_text done
    pub moves : SayMoves a w

  pub none_said : (buffer : Bytes) → SaidByNow a → SaidSoFar 0 0 buffer a
  none_said buffer now = record {
    done = [];
    split = ap (λ (n : ℕ). up_to hi (drop n start.map)) (let e : start.number ≡ start.number + 0 = omega arith in e);
    size = refl;
    said = λ output. refl;
    moves = says_none a now;
  }

  module _ (count used : ℕ) (buffer : Bytes) (w : World) (so_far : SaidSoFar count used buffer w) (pair : Bytes × Bytes) (at : slice_get start.map (start.number + count) ≡ Some pair) where
    rest : up_to hi (drop (start.number + count) start.map) ≡ up_to hi (pair ∷ drop (start.number + count + 1) start.map)
    rest = ap (up_to hi) (here start.map (start.number + count) pair at)

    one_more : is_up_to hi pair.0 ≡ true → from_on start hi ≡ (so_far.done ++ pair ∷ []) ++ up_to hi (drop (start.number + (count + 1)) start.map)
    one_more low =
        so_far.split ∙ ap (λ (l : Map). so_far.done ++ l) (rest ∙ goes hi pair (drop (start.number + count + 1) start.map) low)
        ∙ sym (append_assoc so_far.done (pair ∷ []) (up_to hi (drop (start.number + count + 1) start.map)))
        ∙ ap (λ (n : ℕ). (so_far.done ++ pair ∷ []) ++ up_to hi (drop n start.map)) (let e : start.number + count + 1 ≡ start.number + (count + 1) = omega arith in e)

    more_size : length (so_far.done ++ pair ∷ []) ≡ count + 1
    more_size = omega (arith, length-append so_far.done (pair ∷ []), so_far.size)

    pub one_said : (waits : ℕ) (laid : Bytes) (b : World) → is_up_to hi pair.0 ≡ true
        → (IsTrue tells → b.beside.said ++ take waits laid ≡ w.beside.said ++ (take used buffer ++ (at_words pair.0 pair.1 ++ 10 ∷ []))) → SayMoves w b → SaidSoFar (count + 1) waits laid b
    one_said waits laid b low said moves = record {
      done = so_far.done ++ pair ∷ [];
      split = one_more low;
      size = more_size;
      said = λ output.
          said output ∙ sym (append_assoc w.beside.said (take used buffer) (at_words pair.0 pair.1 ++ 10 ∷ []))
          ∙ ap (λ (l : Bytes). l ++ (at_words pair.0 pair.1 ++ 10 ∷ [])) (so_far.said output)
          ∙ append_assoc a.beside.said (pairs_text so_far.done) (at_words pair.0 pair.1 ++ 10 ∷ [])
          ∙ ap (λ (l : Bytes). a.beside.said ++ l) (sym (text_more so_far.done pair));
      moves = says_then a w b so_far.moves moves;
    }

    -- the next pair is above the bound, so all were said
    pub all_by_bound : Rises start.map → is_up_to hi pair.0 ≡ false → from_on start hi ≡ so_far.done
    all_by_bound rises high =
        so_far.split ∙ ap (λ (l : Map). so_far.done ++ l)
        (rest ∙ stops hi pair (drop (start.number + count + 1) start.map) (subst Rises (here start.map (start.number + count) pair at) (drop_rises (start.number + count) start.map rises)) high)
        ∙ append-nil so_far.done

    -- of the pair a prefix was said, so one of all pairs
    pub one_cut : (most : ℕ) (b : World) → count < most → is_up_to hi pair.0 ≡ true → IsTrue tells → SaysPrefix (take used buffer ++ (at_words pair.0 pair.1 ++ 10 ∷ [])) w.beside.said b.beside.said → SayMoves w b
        → SaysPrefix (pairs_text (take most (from_on start hi))) a.beside.said b.beside.said
    one_cut most b few low output prefix moves =
        let all = from_on start hi in
        let text = at_words pair.0 pair.1 ++ 10 ∷ [] in
        let more = take (most - (count + 1)) (drop (count + 1) all) in
        let taken : take (count + 1) all ≡ so_far.done ++ pair ∷ [] =
        ap (take (count + 1)) (one_more low) ∙ take_at (so_far.done ++ pair ∷ []) (up_to hi (drop (start.number + (count + 1)) start.map)) (count + 1) more_size in
        let parts : take most all ≡ (so_far.done ++ pair ∷ []) ++ more =
        ap (λ (n : ℕ). take n all) (let e : most ≡ count + 1 + (most - (count + 1)) = omega (arith, few) in e) ∙ take-add (count + 1) (most - (count + 1)) all ∙ ap (λ (l : Map). l ++ more) taken in
        let whole : pairs_text (take most all) ≡ pairs_text so_far.done ++ (text ++ pairs_text more) =
        ap pairs_text parts ∙ flat_map-append (λ (p : Bytes × Bytes). at_words p.0 p.1 ++ 10 ∷ []) (so_far.done ++ pair ∷ []) more ∙ ap (λ (l : Bytes). l ++ pairs_text more) (text_more so_far.done pair)
        ∙ append_assoc (pairs_text so_far.done) text (pairs_text more) in
        subst (λ (t : Bytes). SaysPrefix t a.beside.said b.beside.said) (sym whole)
        (prefix_on (pairs_text so_far.done) (take used buffer) text (pairs_text more) a.beside.said w.beside.said b.beside.said prefix (so_far.said output) (omega (arith, so_far.moves.told.longer, moves.told.longer)))

  -- ---- all were said

  module _ (count used : ℕ) (buffer : Bytes) (w : World) (so_far : SaidSoFar count used buffer w) where
    -- no pair is left
    pub all_by_end : length start.map ≤ start.number + count → from_on start hi ≡ so_far.done
    all_by_end past =
        so_far.split ∙ ap (λ (l : Map). so_far.done ++ up_to hi l) (drop_all (start.number + count) start.map past) ∙ append-nil so_far.done

    pub taken_all : (most : ℕ) → count ≤ most → from_on start hi ≡ so_far.done → take most (from_on start hi) ≡ so_far.done
    taken_all most few all = ap (take most) all ∙ take_all most so_far.done (omega (arith, so_far.size, few))

    -- as many were said as are wanted
    pub taken_most : (most : ℕ) → count ≡ most → take most (from_on start hi) ≡ so_far.done
    taken_most most enough =
        ap (take most) so_far.split ∙ take_at so_far.done (up_to hi (drop (start.number + count) start.map)) most (omega (arith, so_far.size, enough))

    module _ (most : ℕ) (taken : take most (from_on start hi) ≡ so_far.done) where
      pub said_all : IsTrue tells → w.beside.said ++ take used buffer ≡ a.beside.said ++ pairs_text (take most (from_on start hi))
      said_all output = so_far.said output ∙ ap (λ (l : Map). a.beside.said ++ pairs_text l) (sym taken)

      pub counted_all : count ≡ length (take most (from_on start hi))
      counted_all = sym so_far.size ∙ ap length (sym taken)
