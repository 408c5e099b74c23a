-- What outputs say, each with its part of the ranges.
use Rattle.std.proofs.Common.{◌≡◌, List, [], ◌∷◌, ◌++◌, refl, sym, ap, ap₂, ◌∙◌, subst, Bool, true, false, cond, not}
use Rattle.std.specs.Prelude.{◌&&◌, Option, Some, None, bytes_eq}
use Rattle.std.specs.List.{AllByRecursion}
use Rattle.std.specs.Option.{option_or}
use Rattle.std.proofs.lemmas.Bool.{false≢true}
use Rattle.key_base.specs.ByteOrder.{is_before}
use Rattle.map_model.specs.SortedMap.{Bytes}
use Rattle.map_model.proofs.Maps.{other_key}
use Rattle.entry_model.specs.Entries.{Entry, first_key}
use Rattle.entry_model.specs.Newest.{ComesBefore, lookup}
use Rattle.range_model.specs.Ranges.{covers, ranges_from}
use Rattle.range_model.specs.Sources.{cleared, says}
use Rattle.range_model.specs.Outputs.{ComesFrom, all_entries}
use Rattle.range_model.specs.Laws.{OutputsSay}
use Rattle.range_model.proofs.KeyOrders.{is_before_of}
use Rattle.range_model.proofs.Ranges.{covers_below, covers_from}
use Rattle.range_model.proofs.Sources.{or_none}

pub lookup_both : (xs ys : List Entry) (key : Bytes) → lookup (xs ++ ys) key ≡ option_or (lookup xs key) (lookup ys key)
lookup_both [] ys key = refl
lookup_both (x ∷ xs) ys key = elim (bytes_eq x.key key) as (λ t. cond t (Some x.value) (lookup (xs ++ ys) key) ≡ option_or (cond t (Some x.value) (lookup xs key)) (lookup ys key)) [
  | true ↦ refl
  | false ↦ lookup_both xs ys key
]

-- entries before a key say nothing of one that is not
pub none_before : (at key : Bytes) (entries : List Entry) → AllByRecursion (ComesBefore at) entries → is_before key at ≡ false → lookup entries key ≡ None
none_before at key [] all not_so = refl
none_before at key (entry ∷ more) all not_so =
    ap (λ (t : Bool). cond t (Some entry.value) (lookup more key)) (other_key entry.key key (λ same. false≢true (sym not_so ∙ subst (λ (k : Bytes). is_before k at ≡ true) same (is_before_of entry.key at all.0))))
    ∙ none_before at key more all.1 not_so

-- nor do entries from it on of one before it
pub none_behind : (at key : Bytes) (entries : List Entry) → AllByRecursion (ComesFrom at) entries → is_before key at ≡ true → lookup entries key ≡ None
none_behind at key [] all so = refl
none_behind at key (entry ∷ more) all so =
    ap (λ (t : Bool). cond t (Some entry.value) (lookup more key)) (other_key entry.key key (λ same. false≢true (sym (subst (λ (k : Bytes). is_before k at ≡ false) same all.0) ∙ so)))
    ∙ none_behind at key more all.1 so

-- a key before the cut, or not
at_cut : (t c : Bool) (x y : Option (Option Bytes)) → (t ≡ false → x ≡ None) → (t ≡ true → y ≡ None)
    → option_or (option_or x (cleared (c && t))) (option_or y (cleared (c && not t))) ≡ option_or (option_or x y) (cleared c)
at_cut true c x y first rest = elim c as (λ b. option_or (option_or x (cleared (b && true))) (option_or y (cleared (b && false))) ≡ option_or (option_or x y) (cleared b)) [
  | true ↦ ap (λ (o : Option (Option Bytes)). option_or (option_or x (Some None)) (option_or o None)) (rest refl) ∙ or_none (option_or x (Some None)) ∙ sym (ap (λ (o : Option (Option Bytes)). option_or o (Some None)) (ap (option_or x) (rest refl) ∙ or_none x))
  | false ↦ ap (λ (o : Option (Option Bytes)). option_or o (option_or y None)) (or_none x) ∙ ap (option_or x) (or_none y) ∙ sym (or_none (option_or x y))
]
at_cut false c x y first rest =
    ap (λ (o : Option (Option Bytes)). option_or (option_or o (cleared (c && false))) (option_or y (cleared (c && true)))) (first refl)
    ∙ elim c as (λ b. option_or (option_or None (cleared (b && false))) (option_or y (cleared (b && true))) ≡ option_or (option_or None y) (cleared b)) [ true ↦ refl | false ↦ refl ]
    ∙ sym (ap (λ (o : Option (Option Bytes)). option_or (option_or o y) (cleared c)) (first refl))

pub outputs_say : OutputsSay
outputs_say output [] ranges key cut = or_none (says (record { entries = output; ranges = ranges }) key)
    ∙ ap (λ (o : Option (Option Bytes)). option_or o (cleared (covers ranges key))) (sym (lookup_both output [] key ∙ or_none (lookup output key)))
outputs_say output (next ∷ more) ranges key cut =
    let at = first_key next in
    let rest = all_entries (next ∷ more) in
    ap₂ (λ (b : Bool) (o : Option (Option Bytes)). option_or (option_or (lookup output key) (cleared b)) o) (covers_below ranges at key) (outputs_say next more (ranges_from ranges at) key cut.2)
    ∙ ap (λ (b : Bool). option_or (option_or (lookup output key) (cleared (covers ranges key && is_before key at))) (option_or (lookup rest key) (cleared b))) (covers_from ranges at key)
    ∙ at_cut (is_before key at) (covers ranges key) (lookup output key) (lookup rest key) (none_before at key output cut.0) (none_behind at key rest cut.1)
    ∙ ap (λ (o : Option (Option Bytes)). option_or o (cleared (covers ranges key))) (sym (lookup_both output rest key))
