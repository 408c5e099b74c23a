-- Entries of a block that are walked in a buffer.
use Rattle.std.proofs.Common.{◌≡◌, ◌≤◌, ◌+◌, ◌-◌, ℕ, zero, suc, List, [], ◌∷◌, ◌++◌, length, take, drop, refl, sym, ap, ap₂, ◌∙◌, subst, arith, length-take-le}
use Rattle.std.specs.Prelude.{Option, Some, None, IfSome, MatchOption}
use Rattle.std.specs.List.{AllByRecursion}
use Rattle.std.proofs.lemmas.List.{drop-take, take-take, take_at}
use Rattle.map_model.specs.SortedMap.{Bytes}
use Rattle.entry_model.specs.Entries.{Entry, IsEntry, entry_of}
use Rattle.block_model.specs.Formats.{Format, Prefixed, entries_by, key_by, width_by}
use Rattle.block_format.proofs.AtHand.{goes_on_at_hand}
use Rattle.block_format.specs.Walking.{LiesIn, StandBy, StandsAfter, at_hand, format_of, key_held, part_walked, value_at, walked}
use Rattle.block_format.specs.declared.format.BlockFormat.TheVariants as code
use Rattle.block_format.specs.declared.walk.EntryWalk.{EntryWalk}
use Rattle.block_format.specs.declared.walk.ValuePlace.{ValuePlace}
use Rattle.table_file.specs.Walks.{first_of, others_of}

abbrev pub nowhere : EntryWalk
nowhere = record { format = code.Prefixed; at = 0; end = 0; left = 0; key_length = 0 }

pub stands_nowhere : (buffer bytes : Bytes) → StandsAfter nowhere buffer bytes
stands_nowhere buffer bytes = record { within = omega arith; inside = omega arith; held = omega arith; entries = tt }

pub nothing : (buffer bytes : Bytes) → walked nowhere buffer bytes ≡ []
unfolding entries_by
nothing buffer bytes = refl

pub no_entries : (buffer bytes : Bytes) → AllByRecursion IsEntry (walked nowhere buffer bytes)
unfolding entries_by
no_entries buffer bytes = tt

many_by : (f : Format) (n : ℕ) (before rest : Bytes) → length (entries_by f n before rest) ≡ n
unfolding entries_by
many_by f zero before rest = refl
many_by f (suc n) before rest = omega (arith, many_by f n (key_by f before rest) (drop (width_by f rest) rest))

pub many_walked : (walk : EntryWalk) (buffer bytes : Bytes) → length (walked walk buffer bytes) ≡ walk.left
many_walked walk buffer bytes = many_by (format_of walk.format) walk.left (key_held walk buffer) (part_walked walk bytes)

-- what was read into a buffer is all of it
pub filled : (n : ℕ) (new old : Bytes) → length new ≡ length old → length old ≡ n → take n (new ++ drop (length new) old) ≡ new
filled n new old same long = take_at new (drop (length new) old) n (same ∙ long)

-- what is walked in the front of a buffer is walked in it
module _ (walk : EntryWalk) (n : ℕ) (buffer bytes : Bytes) (le : n ≤ length bytes) (stands : StandsAfter walk buffer (take n bytes)) where
  front : length (take n bytes) ≡ n
  front = length-take-le n bytes le

  same_part : part_walked walk (take n bytes) ≡ part_walked walk bytes
  same_part =
      let size = walk.end - walk.at in
      let sum : walk.at + (n - walk.at) ≡ n = omega (arith, stands.within, stands.inside, front) in
      let few : size ≤ n - walk.at = omega (arith, stands.within, stands.inside, front) in
      ap (λ (k : ℕ). take size (drop walk.at (take k bytes))) (sym sum)
      ∙ ap (take size) (drop-take walk.at (n - walk.at) bytes)
      ∙ take-take size (n - walk.at) (drop walk.at bytes) few

  pub stands_wider : StandsAfter walk buffer bytes
  stands_wider = record {
    within = stands.within;
    inside = omega (arith, stands.inside, front, le);
    held = stands.held;
    entries = subst (λ (l : Bytes). StandBy (format_of walk.format) walk.left (key_held walk buffer) l) same_part stands.entries;
  }

  pub walked_wider : walked walk buffer bytes ≡ walked walk buffer (take n bytes)
  walked_wider = ap (entries_by (format_of walk.format) walk.left (key_held walk buffer)) (sym same_part)

-- ---- a step takes the first of those that are to come

pub first_is : (now : Option Entry) (before later : List Entry) → MatchOption now ((before ≡ []) × (later ≡ [])) (λ e. before ≡ e ∷ later) → now ≡ first_of before
first_is None before later m = ap first_of (sym m.0)
first_is (Some e) before later m = ap first_of (sym m)

pub others_are : (now : Option Entry) (before later : List Entry) → MatchOption now ((before ≡ []) × (later ≡ [])) (λ e. before ≡ e ∷ later) → later ≡ others_of before
others_are None before later m = m.1 ∙ ap others_of (sym m.0)
others_are (Some e) before later m = ap others_of (sym m)

pub first_sound : (now : Option Entry) (before later : List Entry) → MatchOption now ((before ≡ []) × (later ≡ [])) (λ e. before ≡ e ∷ later) → AllByRecursion IsEntry before → IfSome now IsEntry
first_sound None before later m all = tt
first_sound (Some e) before later m all = (subst (AllByRecursion IsEntry) m all).0

pub others_sound : (now : Option Entry) (before later : List Entry) → MatchOption now ((before ≡ []) × (later ≡ [])) (λ e. before ≡ e ∷ later) → AllByRecursion IsEntry before → AllByRecursion IsEntry later
others_sound None before later m all = subst (AllByRecursion IsEntry) (sym m.1) tt
others_sound (Some e) before later m all = (subst (AllByRecursion IsEntry) m all).1

-- ---- a step of a walk whose key is in a buffer

-- it came by the first of the entries that were to come
abbrev pub CameBy : EntryWalk → EntryWalk → Option (Option ValuePlace) → Bytes → Bytes → Bytes → Type 0
CameBy walk new place before after bytes =
    MatchOption place ((walked walk before bytes ≡ []) × (walked new after bytes ≡ [])) (λ v. walked walk before bytes ≡ entry_of (key_held new after) (value_at v bytes) ∷ walked new after bytes)

pub record IsStep (walk new : EntryWalk) (place : Option (Option ValuePlace)) (before after bytes : Bytes) : Type 0 where
  pub stands : StandsAfter new after bytes
  pub lies : IfSome place (λ v. LiesIn v bytes)
  pub now_is : at_hand place (key_held new after) bytes ≡ first_of (walked walk before bytes)
  pub later_is : walked new after bytes ≡ others_of (walked walk before bytes)
  pub now_sound : IfSome (at_hand place (key_held new after) bytes) IsEntry
  pub later_sound : AllByRecursion IsEntry (walked new after bytes)

-- as the buffer and the bytes were handed on
pub stepped : (walk new : EntryWalk) (place : Option (Option ValuePlace)) (before after bytes key items here : Bytes) → key ≡ before → after ≡ items → here ≡ bytes
    → StandsAfter new items here → IfSome place (λ v. LiesIn v here) → CameBy walk new place key items here → AllByRecursion IsEntry (walked walk before bytes)
    → IsStep walk new place before after bytes
stepped walk new place before after bytes key items here key_is after_is here_is stands lies came all =
    let with_key : CameBy walk new place before items here = subst (λ (k : Bytes). CameBy walk new place k items here) key_is came in
    let with_items : CameBy walk new place before after here = subst (λ (i : Bytes). CameBy walk new place before i here) (sym after_is) with_key in
    let with_bytes : CameBy walk new place before after bytes = subst (λ (b : Bytes). CameBy walk new place before after b) here_is with_items in
    let next : MatchOption (at_hand place (key_held new after) bytes) ((walked walk before bytes ≡ []) × (walked new after bytes ≡ [])) (λ e. walked walk before bytes ≡ e ∷ walked new after bytes) =
    goes_on_at_hand place (key_held new after) bytes _ _ _ with_bytes in
    record {
      stands = subst (λ (b : Bytes). StandsAfter new after b) here_is (subst (λ (i : Bytes). StandsAfter new i here) (sym after_is) stands);
      lies = subst (λ (b : Bytes). IfSome place (λ v. LiesIn v b)) here_is lies;
      now_is = first_is _ _ _ next;
      later_is = others_are _ _ _ next;
      now_sound = first_sound _ _ _ next all;
      later_sound = others_sound _ _ _ next all;
    }
