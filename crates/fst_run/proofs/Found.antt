-- What a walk finds in a map.
use Rattle.std.proofs.Common.{drop, ◌≡◌, ◌+◌, ◌-◌, ◌∙◌, ◌++◌, inl, inr, sym, ap, subst, arith, ℕ, true, false, [], ◌∷◌, length, take, append_assoc}
use Rattle.std.specs.Prelude.{Option, Some, None, slice_get}
use Rattle.std.proofs.lemmas.List.{append-nil, take_all}
use Rattle.disk_trait.specs.World.{World}
use Rattle.fst_map.specs.Places.{Place, first_key}
use Rattle.fst_run.specs.Answering.{from_on, pairs_text}
use Rattle.fst_run.proofs.Dialogue.{prefix_on}
use Rattle.fst_run.proofs.RangeSteps.{here}
use Rattle.fst_run.proofs.Walking.{drop_rises, goes, none_from, some_from, stops, up_to}
use Rattle.line_model.specs.Replies.{End as EndReply, text_of}
use Rattle.lines_in.specs.Saying.{Says, SaysBehind}
use Rattle.lines_in.specs.declared.line_end.LineEnd.{LineEnd}
use Rattle.lines_in.specs.declared.line_end.LineEnd.TheVariants.{Next}
use Rattle.map_file_model.specs.Maps.{keys_of}
use Rattle.map_model.specs.Slices.{between, first_pair, is_up_to, seek, slice}
use Rattle.map_model.specs.SortedMap.{Bytes, Map, Rises}
use Rattle.map_run_model.specs.MapLines.{listed}
use Rattle.outside.specs.Streams.{SayMoves, SaysPrefix}

-- ---- a seek

pub seek_none : (map : Map) (lo : Bytes) (hi : Option Bytes) → None ≡ first_key (keys_of map) lo → seek map lo hi ≡ None
seek_none map lo hi none = ap first_pair (none_from map lo hi 0 (sym none))

module _ (map : Map) (lo : Bytes) (hi : Option Bytes) (n : ℕ) (rises : Rises map) (first : Some n ≡ first_key (keys_of map) lo) where
  -- the pairs of a range are those from the first one on
  pub all_on : between map lo hi ≡ up_to hi (drop n map)
  all_on = (some_from map lo hi 0 n rises (sym first)).1 ∙ ap (λ (k : ℕ). up_to hi (drop k map)) (let all : n - 0 ≡ n = omega arith in all)

  module _ (pair : Bytes × Bytes) (at : slice_get map n ≡ Some pair) where
    begins : between map lo hi ≡ up_to hi (pair ∷ drop (n + 1) map)
    begins = all_on ∙ ap (up_to hi) (here map n pair at)

    pub seek_some : is_up_to hi pair.0 ≡ true → seek map lo hi ≡ Some pair
    seek_some low = ap first_pair (begins ∙ goes hi pair (drop (n + 1) map) low)

    pub seek_past : is_up_to hi pair.0 ≡ false → seek map lo hi ≡ None
    seek_past high = ap first_pair (begins ∙ stops hi pair (drop (n + 1) map) (subst Rises (here map n pair at) (drop_rises n map rises)) high)

-- ---- a range

pub slice_none : (map : Map) (lo hi : Bytes) (most : ℕ) → None ≡ first_key (keys_of map) lo → slice map lo (Some hi) most ≡ []
slice_none map lo hi most none = ap (take most) (none_from map lo (Some hi) 0 (sym none)) ∙ take_all most [] (omega arith)

pub slice_on : (map : Map) (lo hi : Bytes) (most : ℕ) (place : Place) → place.map ≡ map → Rises map → Some place.number ≡ first_key (keys_of map) lo → take most (from_on place (Some hi)) ≡ slice map lo (Some hi) most
slice_on map lo hi most place same rises first =
    ap (take most) (ap (λ (m : Map). up_to (Some hi) (drop place.number m)) same ∙ sym (all_on map lo (Some hi) place.number rises first))

-- a prefix of the pairs is one of the pairs and their number
pub listed_cut : (pairs : Map) (a b : World) → SaysPrefix (pairs_text pairs) a.beside.said b.beside.said → SaysPrefix (text_of (listed pairs)) a.beside.said b.beside.said
listed_cut pairs a b prefix =
    let last = text_of (EndReply (length pairs)) in
    record { done = prefix.done; rest = prefix.rest ++ last; split = ap (λ (t : Bytes). t ++ last) prefix.split ∙ append_assoc prefix.done prefix.rest last; said = prefix.said }

-- the pairs were said, or wait, and then how many they are was said
pub listed_said : (pairs : Map) (count : ℕ) (waits : Bytes) (result : LineEnd) (a mid b : World) → count ≡ length pairs → mid.beside.said ++ waits ≡ a.beside.said ++ pairs_text pairs → SayMoves a mid → SayMoves mid b
    → SaysBehind waits Next (EndReply count) result mid b → Says Next (listed pairs) result a b
listed_said pairs count waits result a mid b counted said before after says =
    let text = text_of (EndReply count) in
    let told : pairs_text pairs ++ text ≡ text_of (listed pairs) = ap (λ (n : ℕ). pairs_text pairs ++ text_of (EndReply n)) counted in (
      subst (λ (t : Bytes). SaysPrefix t a.beside.said b.beside.said) (ap (λ (t : Bytes). pairs_text pairs ++ t) (append-nil text) ∙ told)
          (prefix_on (pairs_text pairs) waits text [] a.beside.said mid.beside.said b.beside.said says.0 said (omega (arith, before.told.longer, after.told.longer))),
      elim says.1 [
        | inl whole ↦ inl (
          whole.0,
          whole.1 ∙ sym (append_assoc mid.beside.said waits text) ∙ ap (λ (t : Bytes). t ++ text) said ∙ append_assoc a.beside.said (pairs_text pairs) text ∙ ap (λ (t : Bytes). a.beside.said ++ t) told,
        )
        | inr six ↦ inr six
      ],
    )
