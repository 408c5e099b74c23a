-- A walk goes from one entry to the next, and the key of each is built in a buffer.
use Rattle.std.proofs.Common.{◌≡◌, ◌≤◌, ◌<◌, ◌+◌, ◌-◌, ℕ, suc, Bool, true, false, cond, [], ◌∷◌, ◌++◌, length, take, drop, refl, sym, ap, ap₂, ◌∙◌, subst, arith, length-drop, length-take-le}
use Rattle.std.specs.Prelude.{Option, Some, None, ◌==◌, if◌then◌else◌}
use Rattle.std.proofs.lemmas.List.{drop-drop, drop-take, take-take}
use Rattle.map_model.specs.SortedMap.{Bytes}
use Rattle.entry_model.specs.Entries.{entry_of}
use Rattle.entry_model.specs.Reading.{kind_in}
use Rattle.block_model.specs.Formats.{Format, entries_by, entry_head_by, key_by, rest_length_in, shared_in, value_by, value_length_by, width_by}
use Rattle.block_format.specs.Walking.{IsHere, LiesIn, StandBy, StandsAfter, format_of, key_held, part_walked, value_at, walked}
use Rattle.block_format.specs.declared.walk.EntryWalk.{EntryWalk}
use Rattle.block_format.specs.declared.walk.ValuePlace.{ValuePlace}

-- ---- the first of some entries, and those after it

module _ (f : Format) (n : ℕ) (before rest : Bytes) (some : 0 < n) (stand : StandBy f n before rest) where
  one_more : n ≡ suc (n - 1)
  one_more = omega (arith, some)

  first : StandBy f (suc (n - 1)) before rest
  first = subst (λ (k : ℕ). StandBy f k before rest) one_more stand

  pub here : IsHere f before rest
  here = first.0

  pub later : StandBy f (n - 1) (key_by f before rest) (drop (width_by f rest) rest)
  later = first.1

  pub cells : entries_by f n before rest ≡ entry_of (key_by f before rest) (value_by f rest) ∷ entries_by f (n - 1) (key_by f before rest) (drop (width_by f rest) rest)
  unfolding entries_by
  cells = ap (λ (k : ℕ). entries_by f k before rest) one_more

-- ---- one step of a walk: what the head of the entry says, and the buffer after it

module _ (walk : EntryWalk) (buffer bytes : Bytes) (some : 0 < walk.left) (stands : StandsAfter walk buffer bytes) where
  abbrev f : Format
  f = format_of walk.format

  abbrev part : Bytes
  part = part_walked walk bytes

  abbrev before : Bytes
  before = key_held walk buffer

  entry_here : IsHere f before part
  entry_here = here f walk.left before part some stands.entries

  size : length part ≡ walk.end - walk.at
  size = length-take-le (walk.end - walk.at) (drop walk.at bytes) (omega (arith, stands.within, stands.inside, length-drop walk.at bytes))

  pub head_fits : entry_head_by f ≤ length part
  unfolding width_by
  head_fits = omega (arith, entry_here.within)

  module _ (s r v h : ℕ) (s_is : s ≡ shared_in f part) (r_is : r ≡ rest_length_in f part) (v_is : v ≡ value_length_by f part) (h_is : h ≡ entry_head_by f) where
    width : h + r + v ≡ width_by f part
    unfolding width_by
    width = omega (arith, r_is, v_is, h_is)

    pub fits : h + r + v ≤ length part
    fits = omega (arith, width, entry_here.within)

    pub inside : walk.at + (h + r + v) ≤ walk.end
    inside = omega (arith, fits, size, stands.within)

    pub short : s + r ≤ 1024
    short = omega (arith, s_is, r_is, entry_here.short)

    held_size : length before ≡ walk.key_length
    held_size = length-take-le walk.key_length buffer stands.held

    few : s ≤ walk.key_length
    few = omega (arith, s_is, entry_here.shared, held_size)

    pub held_shared : s ≤ length buffer
    held_shared = omega (arith, few, stands.held)

    pub key_parts : take s buffer ++ take r (drop h part) ≡ key_by f before part
    unfolding key_by
    key_parts =
        ap (λ (l : Bytes). l ++ take r (drop h part)) (sym (take-take s walk.key_length buffer few))
        ∙ ap (λ (m : ℕ). take m before ++ take r (drop h part)) s_is
        ∙ ap₂ (λ (m j : ℕ). take (shared_in f part) before ++ take m (drop j part)) r_is h_is

    pub after_it : drop (width_by f part) part ≡ take (walk.end - (walk.at + (h + r + v))) (drop (walk.at + (h + r + v)) bytes)
    after_it =
        let w = h + r + v in
        let sum : w + (walk.end - (walk.at + w)) ≡ walk.end - walk.at = omega (arith, inside) in
        ap (λ (k : ℕ). drop k part) (sym width)
        ∙ ap (λ (k : ℕ). drop w (take k (drop walk.at bytes))) (sym sum)
        ∙ drop-take w (walk.end - (walk.at + w)) (drop walk.at bytes)
        ∙ ap (take (walk.end - (walk.at + w))) (drop-drop w walk.at bytes)

    value_part : take v (drop (h + r) part) ≡ take v (drop (walk.at + h + r) bytes)
    value_part =
        let m = walk.end - walk.at - (h + r) in
        let sum : h + r + m ≡ walk.end - walk.at = omega (arith, inside) in
        let place : walk.at + (h + r) ≡ walk.at + h + r = omega arith in
        ap (λ (k : ℕ). take v (drop (h + r) (take k (drop walk.at bytes)))) (sym sum)
        ∙ ap (take v) (drop-take (h + r) m (drop walk.at bytes))
        ∙ take-take v m (drop (h + r) (drop walk.at bytes)) (omega (arith, inside))
        ∙ ap (take v) (drop-drop (h + r) walk.at bytes)
        ∙ ap (λ (k : ℕ). take v (drop k bytes)) place

    -- where its value lies
    abbrev lies : Bool → Option ValuePlace
    lies t = cond t (Some (record { at = walk.at + h + r; end = walk.at + h + r + v })) None

    value_or_none : (t : Bool) → value_at (lies t) bytes ≡ cond t (Some (take v (drop (walk.at + h + r) bytes))) None
    value_or_none true =
        let all : walk.at + h + r + v - (walk.at + h + r) ≡ v = omega arith in
        ap (λ (k : ℕ). Some (take k (drop (walk.at + h + r) bytes))) all
    value_or_none false = refl

    pub value_is : (k : ℕ) (place : Option ValuePlace) → k ≡ kind_in part → place ≡ (if k == 1 then Some (record { at = walk.at + h + r; end = walk.at + h + r + v }) else None)
        → value_by f part ≡ value_at place bytes
    unfolding value_by
    value_is k place k_is is =
        let head : h + r ≡ entry_head_by f + rest_length_in f part = omega (arith, h_is, r_is) in
        ap₂ (λ (m j : ℕ). cond (kind_in part == 1) (Some (take m (drop j part))) None) (sym v_is) (sym head)
        ∙ ap (λ (l : Bytes). cond (kind_in part == 1) (Some l) None) value_part
        ∙ ap (λ (j : ℕ). cond (j == 1) (Some (take v (drop (walk.at + h + r) bytes))) None) (sym k_is)
        ∙ sym (value_or_none (k == 1)) ∙ ap (λ (p : Option ValuePlace). value_at p bytes) (sym is)

    lies_in : (t : Bool) → LiesIn (lies t) bytes
    lies_in true = (omega arith, omega (arith, inside, stands.inside))
    lies_in false = tt

    pub value_lies : (k : ℕ) (place : Option ValuePlace) → place ≡ (if k == 1 then Some (record { at = walk.at + h + r; end = walk.at + h + r + v }) else None) → LiesIn place bytes
    value_lies k place is = subst (λ (p : Option ValuePlace). LiesIn p bytes) (sym is) (lies_in (k == 1))

    module _ (built : Bytes) (built_is : take (s + r) built ≡ take s buffer ++ take r (drop h part)) (room : length built ≡ length buffer) (large : 1024 ≤ length buffer) where
      abbrev next : EntryWalk
      next = record { format = walk.format; at = walk.at + (h + r + v); end = walk.end; left = walk.left - 1; key_length = s + r }

      key_is : take (s + r) built ≡ key_by f before part
      key_is = built_is ∙ key_parts

      pub stands_next : StandsAfter next built bytes
      stands_next = record {
        within = inside;
        inside = stands.inside;
        held = omega (arith, short, room, large);
        entries = subst (λ (k : Bytes). StandBy f (walk.left - 1) k (part_walked next bytes)) (sym key_is)
            (subst (λ (l : Bytes). StandBy f (walk.left - 1) (key_by f before part) l) after_it (later f walk.left before part some stands.entries));
      }

      pub walked_next : (k : ℕ) (place : Option ValuePlace) → k ≡ kind_in part → place ≡ (if k == 1 then Some (record { at = walk.at + h + r; end = walk.at + h + r + v }) else None)
          → walked walk buffer bytes ≡ entry_of (key_held next built) (value_at place bytes) ∷ walked next built bytes
      walked_next k place k_is is =
          cells f walk.left before part some stands.entries
          ∙ ap (λ (l : Bytes). entry_of (key_by f before part) (value_by f part) ∷ entries_by f (walk.left - 1) (key_by f before part) l) after_it
          ∙ ap (λ (l : Bytes). entry_of l (value_by f part) ∷ entries_by f (walk.left - 1) l (part_walked next bytes)) (sym key_is)
          ∙ ap (λ (o : Option Bytes). entry_of (key_held next built) o ∷ walked next built bytes) (value_is k place k_is is)

pub none_walked : (walk : EntryWalk) (buffer bytes : Bytes) → walk.left ≡ 0 → walked walk buffer bytes ≡ []
unfolding entries_by
none_walked walk buffer bytes none = ap (λ (n : ℕ). entries_by (format_of walk.format) n (key_held walk buffer) (part_walked walk bytes)) none
