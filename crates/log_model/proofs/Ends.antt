-- Bytes begin with the records of one list of changes only, and reading them comes to one end.
use Rattle.std.proofs.Common.{◌≡◌, ◌+◌, ℕ, List, [], ◌∷◌, ◌++◌, Bool, true, false, cond, length, take, drop, get_or, refl, sym, ap, ◌∙◌, subst, arith, length-append, length-drop, take-append-drop, length-take-le}
use Rattle.std.specs.Prelude.{Option, Some, None, ◌==◌, flat_map, option_map}
use Rattle.std.proofs.lemmas.Bool.{eq-eqb, ne_eqb}
use Rattle.std.proofs.lemmas.List.{drop-drop, get_or-drop}
use Rattle.std.proofs.Math.Seq.{take-add}
use Rattle.map_model.specs.SortedMap.{Bytes}
use Rattle.range_model.specs.Sources.{Change}
use Rattle.log_model.specs.Changes.{change_body, change_in, change_record, filled_by}
use Rattle.log_model.specs.Records.{BeginsWith, Spells, Breaks, broken_rule}
use Rattle.log_model.proofs.Logs.{filled_is, none_filled, same_parts}
use Rattle.log_model.proofs.Bodies.{change_again, unbroken}

-- where reading stops, and why: None where it goes on, Some None at a gate that is not open, else the rule
abbrev pub stop_in : Bytes → Option (Option ℕ)
stop_in bytes = cond (get_or bytes 0 0 == 1) (option_map (λ rule. Some rule) (broken_rule (drop 1 bytes))) (Some None)

-- the bytes begin with these changes, and reading stops behind them
pub record Stops (changes : List Change) (why : Option ℕ) (bytes : Bytes) : Type 0 where
  pub begins : BeginsWith changes bytes
  pub stop : stop_in (drop (filled_by changes) bytes) ≡ Some why

module _ (change : Change) (later : List Change) (bytes : Bytes) (begins : BeginsWith (change ∷ later) bytes) where
  one : length (change_record change) ≡ 1 + length (change_body change)
  one = omega arith

  count : filled_by (change ∷ later) ≡ 1 + length (change_body change) + filled_by later
  count = filled_is (change ∷ later) ∙ length-append (change_record change) (flat_map change_record later) ∙ omega (arith, filled_is later)

  behind : Bytes
  behind = drop (1 + length (change_body change)) bytes

  parts : (take (1 + length (change_body change)) bytes ≡ change_record change) × (take (filled_by later) (drop (1 + length (change_body change)) bytes) ≡ flat_map change_record later)
  parts = same_parts (take (1 + length (change_body change)) bytes) (change_record change) (take (filled_by later) (drop (1 + length (change_body change)) bytes)) (flat_map change_record later)
      (length-take-le (1 + length (change_body change)) bytes (omega (arith, count, begins.within)) ∙ sym one)
      (sym (take-add (1 + length (change_body change)) (filled_by later) bytes) ∙ ap (λ (n : ℕ). take n bytes) (sym count) ∙ begins.records)

  cells : bytes ≡ 1 ∷ (change_body change ++ drop (1 + length (change_body change)) bytes)
  cells = sym (take-append-drop (1 + length (change_body change)) bytes) ∙ ap (λ (l : Bytes). l ++ drop (1 + length (change_body change)) bytes) parts.0

  first_read : change_in (drop 1 bytes) ≡ change
  first_read = ap (λ (l : Bytes). change_in (drop 1 l)) cells ∙ change_again change (drop (1 + length (change_body change)) bytes) begins.sound.0

  goes_on : stop_in bytes ≡ None
  goes_on =
      ap stop_in cells
      ∙ ap (option_map (λ rule. Some rule)) (unbroken change (drop (1 + length (change_body change)) bytes) begins.sound.0 (omega (arith, length-drop (1 + length (change_body change)) bytes, count, begins.within)))

  later_begins : BeginsWith later (drop (1 + length (change_body change)) bytes)
  later_begins = record {
    sound = begins.sound.1;
    within = omega (arith, length-drop (1 + length (change_body change)) bytes, count, begins.within);
    records = parts.1;
  }

  later_stop : drop (filled_by (change ∷ later)) bytes ≡ drop (filled_by later) (drop (1 + length (change_body change)) bytes)
  later_stop = ap (λ (n : ℕ). drop n bytes) count ∙ sym (drop-drop (filled_by later) (1 + length (change_body change)) bytes)

stops_here : (why : Option ℕ) (bytes : Bytes) → Stops [] why bytes → stop_in bytes ≡ Some why
stops_here why bytes s = ap (λ (n : ℕ). stop_in (drop n bytes)) (sym none_filled) ∙ s.stop

stops_later : (change : Change) (later : List Change) (why : Option ℕ) (bytes : Bytes) → Stops (change ∷ later) why bytes → Stops later why (drop (1 + length (change_body change)) bytes)
stops_later change later why bytes s = record {
  begins = later_begins change later bytes s.begins;
  stop = ap stop_in (sym (later_stop change later bytes s.begins)) ∙ s.stop;
}

-- reading comes to one end
pub one_end : (changes others : List Change) (why reason : Option ℕ) (bytes : Bytes) → Stops changes why bytes → Stops others reason bytes → (changes ≡ others) × (why ≡ reason)
one_end [] [] why reason bytes s t = (refl, (let same : Some why ≡ Some reason = sym (stops_here why bytes s) ∙ stops_here reason bytes t in cc))
one_end [] (other ∷ more) why reason bytes s t = let on : Some why ≡ None = sym (stops_here why bytes s) ∙ goes_on other more bytes t.begins in cc
one_end (change ∷ later) [] why reason bytes s t = let on : Some reason ≡ None = sym (stops_here reason bytes t) ∙ goes_on change later bytes s.begins in cc
one_end (change ∷ later) (other ∷ more) why reason bytes s t =
    let same : change ≡ other = sym (first_read change later bytes s.begins) ∙ first_read other more bytes t.begins in
    let tails = one_end later more why reason (drop (1 + length (change_body change)) bytes) (stops_later change later why bytes s)
    (subst (λ (e : Change). Stops more reason (drop (1 + length (change_body e)) bytes)) (sym same) (stops_later other more reason bytes t)) in
    ((λ i. same i ∷ tails.0 i), tails.1)

-- ---- of a log, and of one that is broken

at_drop : (bytes : Bytes) (at : ℕ) → get_or (drop at bytes) 0 0 ≡ get_or bytes at 0
at_drop bytes at = let same : at + 0 ≡ at = omega arith in get_or-drop at bytes 0 0 ∙ ap (λ (n : ℕ). get_or bytes n 0) same

spelled_stops : (changes : List Change) (bytes : Bytes) → Spells changes bytes → Stops changes None bytes
spelled_stops changes bytes s =
    let n = filled_by changes in
    let shut : (get_or (drop n bytes) 0 0 == 1) ≡ false = ne_eqb (get_or (drop n bytes) 0 0) 1 (λ e. s.closed (sym (at_drop bytes n) ∙ e)) in
    record {
      begins = s.begins;
      stop = ap (λ (t : Bool). cond t (option_map (λ rule. Some rule) (broken_rule (drop 1 (drop n bytes)))) (Some None)) shut;
    }

broken_stops : (place rule : ℕ) (bytes : Bytes) (b : Breaks place rule bytes) → Stops b.before (Some rule) bytes
broken_stops place rule bytes b =
    let opened : (get_or (drop place bytes) 0 0 == 1) ≡ true = eq-eqb (get_or (drop place bytes) 0 0) 1 (at_drop bytes place ∙ b.opened) in
    let broken : broken_rule (drop 1 (drop place bytes)) ≡ Some rule = ap broken_rule (drop-drop 1 place bytes) ∙ b.broken in
    record {
      begins = b.begins;
      stop = ap (λ (n : ℕ). stop_in (drop n bytes)) (sym b.here)
          ∙ ap (λ (t : Bool). cond t (option_map (λ rule. Some rule) (broken_rule (drop 1 (drop place bytes)))) (Some None)) opened
          ∙ ap (option_map (λ rule. Some rule)) broken;
    }

pub one_list : (changes others : List Change) (bytes : Bytes) → Spells changes bytes → Spells others bytes → changes ≡ others
one_list changes others bytes s t = (one_end changes others None None bytes (spelled_stops changes bytes s) (spelled_stops others bytes t)).0

pub not_both : (changes : List Change) (place rule : ℕ) (bytes : Bytes) → Spells changes bytes → Breaks place rule bytes → ⊥
not_both changes place rule bytes s b = let same : None ≡ Some rule = (one_end changes b.before None (Some rule) bytes (spelled_stops changes bytes s) (broken_stops place rule bytes b)).1 in cc

pub one_fault : (place rule other number : ℕ) (bytes : Bytes) → Breaks place rule bytes → Breaks other number bytes → (place ≡ other) × (rule ≡ number)
one_fault place rule other number bytes a b =
    let same = one_end a.before b.before (Some rule) (Some number) bytes (broken_stops place rule bytes a) (broken_stops other number bytes b) in
    let rules : Some rule ≡ Some number = same.1 in
    let number_is : rule ≡ number = cc in
    (a.here ∙ ap filled_by same.0 ∙ sym b.here, number_is)
