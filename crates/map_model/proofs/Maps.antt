-- The laws of the sorted map.
use Rattle.std.proofs.Common.{◌≡◌, ◌≢◌, List, [], ◌∷◌, refl, sym, ap, ◌∙◌, subst, Bool, true, false, cond}
use Rattle.std.specs.Prelude.{Option, Some, None, bytes_eq}
use Rattle.std.proofs.lemmas.Slice.Eq.{bytes_eq-Decides}
use Rattle.std.proofs.lemmas.Cmp.{tied_itself}
use Rattle.std.specs.Cmp.Lexicographic.{nat_list_cmp_total, texts_ties}
use Rattle.std.specs.Ordering.{ordering_reverse, is_eq}
use Rattle.std.specs.declared.cmp.Ordering.{Ordering}
use Rattle.std.specs.declared.cmp.Ordering.TheVariants.{Less, Equal, Greater}
use Rattle.map_model.specs.SortedMap.{Bytes, Map, byte_order, get, put, in_place, del, Rises}

pub same_key : (a : Bytes) → bytes_eq a a ≡ true
same_key a = (bytes_eq-Decides a a).1 refl

pub other_key : (a b : Bytes) → a ≢ b → bytes_eq a b ≡ false
other_key a b other = elim (bytes_eq a b) as (λ t. bytes_eq a b ≡ t → t ≡ false) [
  | true ↦ λ e. absurd (other ((bytes_eq-Decides a b).0 e))
  | false ↦ λ e. refl
] refl

pub order_same : (a b : Bytes) → a ≡ b → byte_order a b ≡ Equal
order_same a b e = subst (λ (c : Bytes). byte_order a c ≡ Equal) e (tied_itself nat_list_cmp_total a)

pub equal_keys : (a b : Bytes) → byte_order a b ≡ Equal → a ≡ b
equal_keys a b e = (bytes_eq-Decides a b).0 (texts_ties a b ∙ ap is_eq e)

pub greater_keys : (a b : Bytes) → byte_order a b ≡ Greater → b ≢ a
greater_keys a b greater e = let same = order_same a b (sym e) in cc

pub less_of_greater : (a b : Bytes) → byte_order a b ≡ Greater → byte_order b a ≡ Less
less_of_greater a b greater = nat_list_cmp_total.antisymm b a ∙ ap ordering_reverse greater

-- the case that an order falls into
pub by_order : (P : Ordering → Type 0) (a b : Bytes) → (byte_order a b ≡ Less → P Less) → (byte_order a b ≡ Equal → P Equal) → (byte_order a b ≡ Greater → P Greater) → P (byte_order a b)
by_order P a b less equal greater = elim (byte_order a b) as (λ o. byte_order a b ≡ o → P o) [ Less ↦ less | Equal ↦ equal | Greater ↦ greater ] refl

-- ---- put

pub put_here : (map : Map) (key value : Bytes) → get (put map key value) key ≡ Some value
put_here [] key value = ap (λ (t : Bool). cond t (Some value) None) (same_key key)
put_here (pair ∷ more) key value = by_order (λ o. get (in_place o (key, value) pair more (put more key value)) key ≡ Some value) key pair.0
    (λ less. ap (λ (t : Bool). cond t (Some value) (get (pair ∷ more) key)) (same_key key))
    (λ equal. ap (λ (t : Bool). cond t (Some value) (get more key)) (same_key key))
    (λ greater. ap (λ (t : Bool). cond t (Some pair.1) (get (put more key value) key)) (other_key pair.0 key (greater_keys key pair.0 greater)) ∙ put_here more key value)

pub put_elsewhere : (map : Map) (key value other : Bytes) → key ≢ other → get (put map key value) other ≡ get map other
put_elsewhere [] key value other apart = ap (λ (t : Bool). cond t (Some value) None) (other_key key other apart)
put_elsewhere (pair ∷ more) key value other apart = by_order (λ o. get (in_place o (key, value) pair more (put more key value)) other ≡ get (pair ∷ more) other) key pair.0
    (λ less. ap (λ (t : Bool). cond t (Some value) (get (pair ∷ more) other)) (other_key key other apart))
    (λ equal. ap (λ (t : Bool). cond t (Some value) (get more other)) (other_key key other apart)
    ∙ sym (ap (λ (t : Bool). cond t (Some pair.1) (get more other)) (other_key pair.0 other (λ e. apart (equal_keys key pair.0 equal ∙ e)))))
    (λ greater. ap (λ (o : Option Bytes). cond (bytes_eq pair.0 other) (Some pair.1) o) (put_elsewhere more key value other apart))

abbrev IsBelowFirst : Bytes → Map → Type 0
IsBelowFirst key [] = Unit {0}
IsBelowFirst key (pair ∷ more) = byte_order key pair.0 ≡ Less

rises_cons : (pair : Bytes × Bytes) (map : Map) → IsBelowFirst pair.0 map → Rises map → Rises (pair ∷ map)
rises_cons pair [] below rises = tt
rises_cons pair (next ∷ more) below rises = (below, rises)

below_first : (pair : Bytes × Bytes) (map : Map) → Rises (pair ∷ map) → IsBelowFirst pair.0 map
below_first pair [] rises = tt
below_first pair (next ∷ more) rises = rises.0

rises_rest : (pair : Bytes × Bytes) (map : Map) → Rises (pair ∷ map) → Rises map
rises_rest pair [] rises = tt
rises_rest pair (next ∷ more) rises = rises.1

below_put : (low : Bytes) (map : Map) (key value : Bytes) → byte_order low key ≡ Less → IsBelowFirst low map → IsBelowFirst low (put map key value)
below_put low [] key value less below = less
below_put low (pair ∷ more) key value less below = by_order (λ o. IsBelowFirst low (in_place o (key, value) pair more (put more key value))) key pair.0
    (λ _. less) (λ _. less) (λ _. below)

pub put_rises : (map : Map) (key value : Bytes) → Rises map → Rises (put map key value)
put_rises [] key value rises = tt
put_rises (pair ∷ more) key value rises = by_order (λ o. Rises (in_place o (key, value) pair more (put more key value))) key pair.0
    (λ less. (less, rises))
    (λ equal. rises_cons (key, value) more (subst (λ (k : Bytes). IsBelowFirst k more) (sym (equal_keys key pair.0 equal)) (below_first pair more rises)) (rises_rest pair more rises))
    (λ greater. rises_cons pair (put more key value)
    (below_put pair.0 more key value (less_of_greater key pair.0 greater) (below_first pair more rises))
    (put_rises more key value (rises_rest pair more rises)))

-- ---- del

pub del_here : (map : Map) (key : Bytes) → get (del map key) key ≡ None
del_here [] key = refl
del_here (pair ∷ more) key = elim (bytes_eq pair.0 key) as (λ t. bytes_eq pair.0 key ≡ t → get (cond t (del more key) (pair ∷ del more key)) key ≡ None) [
  | true ↦ λ e. del_here more key
  | false ↦ λ e. ap (λ (t : Bool). cond t (Some pair.1) (get (del more key) key)) e ∙ del_here more key
] refl

pub del_elsewhere : (map : Map) (key other : Bytes) → key ≢ other → get (del map key) other ≡ get map other
del_elsewhere [] key other apart = refl
del_elsewhere (pair ∷ more) key other apart = elim (bytes_eq pair.0 key) as (λ t. bytes_eq pair.0 key ≡ t → get (cond t (del more key) (pair ∷ del more key)) other ≡ get (pair ∷ more) other) [
  | true ↦ λ e. del_elsewhere more key other apart
      ∙ sym (ap (λ (t : Bool). cond t (Some pair.1) (get more other)) (other_key pair.0 other (λ same. apart (sym ((bytes_eq-Decides pair.0 key).0 e) ∙ same))))
  | false ↦ λ e. ap (λ (o : Option Bytes). cond (bytes_eq pair.0 other) (Some pair.1) o) (del_elsewhere more key other apart)
] refl

below_skip : (low : Bytes) (pair : Bytes × Bytes) (more : Map) → byte_order low pair.0 ≡ Less → IsBelowFirst pair.0 more → IsBelowFirst low more
below_skip low pair [] less below = tt
below_skip low pair (next ∷ more) less below = nat_list_cmp_total.trans low pair.0 next.0 less below

below_del : (low : Bytes) (map : Map) (key : Bytes) → IsBelowFirst low map → Rises map → IsBelowFirst low (del map key)
below_del low [] key below rises = tt
below_del low (pair ∷ more) key below rises = elim (bytes_eq pair.0 key) as (λ t. IsBelowFirst low (cond t (del more key) (pair ∷ del more key))) [
  | true ↦ below_del low more key (below_skip low pair more below (below_first pair more rises)) (rises_rest pair more rises)
  | false ↦ below
]

pub del_rises : (map : Map) (key : Bytes) → Rises map → Rises (del map key)
del_rises [] key rises = tt
del_rises (pair ∷ more) key rises = elim (bytes_eq pair.0 key) as (λ t. Rises (cond t (del more key) (pair ∷ del more key))) [
  | true ↦ del_rises more key (rises_rest pair more rises)
  | false ↦ rises_cons pair (del more key) (below_del pair.0 more key (below_first pair more rises) (rises_rest pair more rises)) (del_rises more key (rises_rest pair more rises))
]
