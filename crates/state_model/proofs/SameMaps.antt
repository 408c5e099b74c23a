-- Two maps with rising keys that give the same at each key are one.
use Rattle.std.proofs.Common.{◌≡◌, List, [], ◌∷◌, refl, sym, ap, ◌∙◌, subst, Bool, true, false, cond}
use Rattle.std.specs.Prelude.{Some, None, bytes_eq}
use Rattle.std.proofs.lemmas.Slice.Eq.{bytes_eq-Decides}
use Rattle.std.specs.Cmp.Lexicographic.{nat_list_cmp_total}
use Rattle.std.specs.declared.cmp.Ordering.TheVariants.{Less}
use Rattle.map_model.specs.SortedMap.{Bytes, Map, byte_order, get, Rises}
use Rattle.entry_model.specs.Entries.{live}
use Rattle.range_model.specs.Sources.{Change, last_said}
use Rattle.range_model.specs.ChangedMaps.{map_of_changes}
use Rattle.range_model.proofs.ChangedMaps.{changes_rise, map_says}
use Rattle.map_model.proofs.Maps.{same_key, equal_keys, less_of_greater, by_order}
use Rattle.entry_model.proofs.Newest.{above_apart}

abbrev IsBelowFirst : Bytes → Map → Type 0
IsBelowFirst key [] = Unit {0}
IsBelowFirst key (pair ∷ more) = byte_order key pair.0 ≡ Less

below_first : (pair : Bytes × Bytes) (map : Map) → Rises (pair ∷ map) → IsBelowFirst pair.0 map
below_first pair [] rises = tt
below_first pair (next ∷ more) rises = rises.0

rises_rest : (pair : Bytes × Bytes) (map : Map) → Rises (pair ∷ map) → Rises map
rises_rest pair [] rises = tt
rises_rest pair (next ∷ more) rises = rises.1

below_lower : (low high : Bytes) (map : Map) → byte_order low high ≡ Less → IsBelowFirst high map → IsBelowFirst low map
below_lower low high [] less below = tt
below_lower low high (next ∷ more) less below = nat_list_cmp_total.trans low high next.0 less below

-- a map that begins above the key does not have it
missing : (low : Bytes) (map : Map) → Rises map → IsBelowFirst low map → get map low ≡ None
missing low [] rises below = refl
missing low (pair ∷ more) rises below = ap (λ (t : Bool). cond t (Some pair.1) (get more low)) (above_apart low pair.0 below)
    ∙ missing low more (rises_rest pair more rises) (below_lower low pair.0 more below (below_first pair more rises))

here : (pair : Bytes × Bytes) (more : Map) → get (pair ∷ more) pair.0 ≡ Some pair.1
here pair more = ap (λ (t : Bool). cond t (Some pair.1) (get more pair.0)) (same_key pair.0)

abbrev GiveTheSame : Map → Map → Type 0
GiveTheSame map other = (key : Bytes) → get map key ≡ get other key

-- where one begins with a lesser key, the other does not give it
lesser : (a b : Bytes × Bytes) (more others : Map) → Rises (b ∷ others) → byte_order a.0 b.0 ≡ Less → get (a ∷ more) a.0 ≡ get (b ∷ others) a.0 → ⊥
lesser a b more others rises less same = let found : Some a.1 ≡ None = sym (here a more) ∙ same ∙ missing a.0 (b ∷ others) rises less in cc

tails_same : (a b : Bytes × Bytes) (more others : Map) → Rises (a ∷ more) → Rises (b ∷ others) → a.0 ≡ b.0 → GiveTheSame (a ∷ more) (b ∷ others) → GiveTheSame more others
tails_same a b more others rises_a rises_b same says key = elim (bytes_eq a.0 key) as (λ t. bytes_eq a.0 key ≡ t → get more key ≡ get others key) [
  | true ↦ λ e. subst (λ (k : Bytes). get more k ≡ get others k) ((bytes_eq-Decides a.0 key).0 e)
      (missing a.0 more (rises_rest a more rises_a) (below_first a more rises_a)
      ∙ sym (missing a.0 others (rises_rest b others rises_b) (subst (λ (k : Bytes). IsBelowFirst k others) (sym same) (below_first b others rises_b))))
  | false ↦ λ e. sym (ap (λ (t : Bool). cond t (Some a.1) (get more key)) e)
      ∙ says key
      ∙ ap (λ (t : Bool). cond t (Some b.1) (get others key)) (subst (λ (k : Bytes). bytes_eq k key ≡ false) same e)
] refl

pub one_map : (map other : Map) → Rises map → Rises other → GiveTheSame map other → map ≡ other
one_map [] [] rises_a rises_b says = refl
one_map [] (b ∷ others) rises_a rises_b says = let none : None ≡ Some b.1 = says b.0 ∙ here b others in absurd cc
one_map (a ∷ more) [] rises_a rises_b says = let none : None ≡ Some a.1 = sym (says a.0) ∙ here a more in absurd cc
one_map (a ∷ more) (b ∷ others) rises_a rises_b says = by_order (λ _. a ∷ more ≡ b ∷ others) a.0 b.0
    (λ less. absurd (lesser a b more others rises_b less (says a.0)))
    (λ equal. let same = equal_keys a.0 b.0 equal in
    let values : Some a.1 ≡ Some b.1 = sym (here a more) ∙ says a.0 ∙ subst (λ (k : Bytes). get (b ∷ others) k ≡ Some b.1) (sym same) (here b others) in
    let value : a.1 ≡ b.1 = cc in
    let tails = one_map more others (rises_rest a more rises_a) (rises_rest b others rises_b) (tails_same a b more others rises_a rises_b same says) in
    λ i. (same i, value i) ∷ tails i)
    (λ greater. absurd (lesser b a others more rises_a (less_of_greater a.0 b.0 greater) (sym (says b.0))))

-- changes that say the same of each key make one map
pub same_map : (changes others : List Change) → ((key : Bytes) → live (last_said changes key) ≡ live (last_said others key)) → map_of_changes changes ≡ map_of_changes others
same_map changes others says = one_map (map_of_changes changes) (map_of_changes others) (changes_rise [] changes tt) (changes_rise [] others tt)
    (λ key. map_says changes key ∙ says key ∙ sym (map_says others key))
