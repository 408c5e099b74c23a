-- A map without the keys from one on and below another.
use Rattle.std.proofs.Common.{◌≡◌, [], ◌∷◌, refl, sym, ap, ◌∙◌, Bool, true, false, cond, not, ◌&&◌}
use Rattle.std.specs.Prelude.{Some, None, bytes_eq}
use Rattle.std.proofs.lemmas.Bool.{false≢true}
use Rattle.std.proofs.lemmas.Slice.Eq.{bytes_eq-Decides}
use Rattle.map_model.specs.SortedMap.{Bytes, Map, get, Rises}
use Rattle.key_base.specs.ByteOrder.{IsBefore, is_before}
use Rattle.range_model.specs.Clearing.{lies_within, clear}
use Rattle.map_model.proofs.Between.{before_less}
use Rattle.range_model.proofs.KeyOrders.{before_then, from_before, is_before_of}

-- where lo is not before hi no key lies between
pub none_within : (lo hi key : Bytes) → is_before lo hi ≡ false → lies_within lo hi key ≡ false
none_within lo hi key crossed = elim (is_before key lo) as (λ t. is_before key lo ≡ t → (not t && is_before key hi) ≡ false) [
  | true ↦ λ _. refl
  | false ↦ λ from. elim (is_before key hi) as (λ t. is_before key hi ≡ t → t ≡ false) [
    | true ↦ λ before. absurd (false≢true (sym crossed ∙ is_before_of lo hi (from_before lo key hi from (before_less key hi before))))
    | false ↦ λ _. refl
  ] refl
] refl

-- what is left has, at each key, what the whole has or nothing
pub get_cleared : (map : Map) (lo hi key : Bytes) → get (clear map lo hi) key ≡ cond (lies_within lo hi key) None (get map key)
get_cleared [] lo hi key = elim (lies_within lo hi key) as (λ t. get [] key ≡ cond t None (get [] key)) [ true ↦ refl | false ↦ refl ]
get_cleared (pair ∷ more) lo hi key =
    let rest = clear more lo hi in
    elim (bytes_eq pair.0 key) as (λ b. bytes_eq pair.0 key ≡ b → get (cond (not (lies_within lo hi pair.0)) (pair ∷ rest) rest) key ≡ cond (lies_within lo hi key) None (cond b (Some pair.1) (get more key))) [
      | true ↦ λ here. let at : lies_within lo hi pair.0 ≡ lies_within lo hi key = ap (lies_within lo hi) ((bytes_eq-Decides pair.0 key).0 here) in
          ap (λ (t : Bool). get (cond (not t) (pair ∷ rest) rest) key) at
          ∙ elim (lies_within lo hi key) as (λ t. lies_within lo hi key ≡ t → get (cond (not t) (pair ∷ rest) rest) key ≡ cond t None (Some pair.1)) [
            | true ↦ λ e. get_cleared more lo hi key ∙ ap (λ (t : Bool). cond t None (get more key)) e
            | false ↦ λ _. ap (λ (t : Bool). cond t (Some pair.1) (get rest key)) here
          ] refl
      | false ↦ λ other. elim (lies_within lo hi pair.0) as (λ t. get (cond (not t) (pair ∷ rest) rest) key ≡ cond (lies_within lo hi key) None (get more key)) [
        | true ↦ get_cleared more lo hi key
        | false ↦ ap (λ (t : Bool). cond t (Some pair.1) (get rest key)) other ∙ get_cleared more lo hi key
      ]
    ] refl

pub cleared_inside : (map : Map) (lo hi key : Bytes) → lies_within lo hi key ≡ true → get (clear map lo hi) key ≡ None
cleared_inside map lo hi key inside = get_cleared map lo hi key ∙ ap (λ (t : Bool). cond t None (get map key)) inside

pub cleared_elsewhere : (map : Map) (lo hi key : Bytes) → lies_within lo hi key ≡ false → get (clear map lo hi) key ≡ get map key
cleared_elsewhere map lo hi key apart = get_cleared map lo hi key ∙ ap (λ (t : Bool). cond t None (get map key)) apart

pub clear_crossed : (map : Map) (lo hi : Bytes) → is_before lo hi ≡ false → clear map lo hi ≡ map
clear_crossed [] lo hi crossed = refl
clear_crossed (pair ∷ more) lo hi crossed =
    ap (λ (t : Bool). cond (not t) (pair ∷ clear more lo hi) (clear more lo hi)) (none_within lo hi pair.0 crossed)
    ∙ ap (λ (m : Map). pair ∷ m) (clear_crossed more lo hi crossed)

-- ---- rising keys

abbrev IsBelowFirst : Bytes → Map → Type 0
IsBelowFirst key [] = Unit {0}
IsBelowFirst key (pair ∷ more) = IsBefore key pair.0

rises_cons : (pair : Bytes × Bytes) (map : Map) → IsBelowFirst pair.0 map → Rises map → Rises (pair ∷ map)
rises_cons pair [] below rises = tt
rises_cons pair (next ∷ more) below rises = (below, rises)

below_first : (pair : Bytes × Bytes) (map : Map) → Rises (pair ∷ map) → IsBelowFirst pair.0 map
below_first pair [] rises = tt
below_first pair (next ∷ more) rises = rises.0

rises_rest : (pair : Bytes × Bytes) (map : Map) → Rises (pair ∷ map) → Rises map
rises_rest pair [] rises = tt
rises_rest pair (next ∷ more) rises = rises.1

below_skip : (low : Bytes) (pair : Bytes × Bytes) (more : Map) → IsBefore low pair.0 → IsBelowFirst pair.0 more → IsBelowFirst low more
below_skip low pair [] less below = tt
below_skip low pair (next ∷ more) less below = before_then low pair.0 next.0 less below

below_cleared : (low : Bytes) (map : Map) (lo hi : Bytes) → IsBelowFirst low map → Rises map → IsBelowFirst low (clear map lo hi)
below_cleared low [] lo hi below rises = tt
below_cleared low (pair ∷ more) lo hi below rises = elim (lies_within lo hi pair.0) as (λ t. IsBelowFirst low (cond (not t) (pair ∷ clear more lo hi) (clear more lo hi))) [
  | true ↦ below_cleared low more lo hi (below_skip low pair more below (below_first pair more rises)) (rises_rest pair more rises)
  | false ↦ below
]

pub clear_rises : (map : Map) (lo hi : Bytes) → Rises map → Rises (clear map lo hi)
clear_rises [] lo hi rises = tt
clear_rises (pair ∷ more) lo hi rises = elim (lies_within lo hi pair.0) as (λ t. Rises (cond (not t) (pair ∷ clear more lo hi) (clear more lo hi))) [
  | true ↦ clear_rises more lo hi (rises_rest pair more rises)
  | false ↦ rises_cons pair (clear more lo hi) (below_cleared pair.0 more lo hi (below_first pair more rises) (rises_rest pair more rises)) (clear_rises more lo hi (rises_rest pair more rises))
]
