-- The order of the slots, by spans and by leaves.
use Rattle.std.proofs.Common.{◌≡◌, ◌<◌, ◌≤◌, ◌+◌, ◌==◌, ℕ, zero, suc, false, List, [], ◌∷◌, ◌++◌, length, get_or, map, refl, sym, ap, subst, ◌∙◌, arith, inl, inr}
use Rattle.std.specs.Prelude.{IfErr, Result, Ok, Err, filter, slice_index_or, zip}
use Rattle.std.specs.Result.{IsErrAnd}
use Rattle.std.specs.List.{All}
use Rattle.std.proofs.lemmas.Bool.{cases_eq, eq-eqb, false≢true, ne_eqb}
use Rattle.std.proofs.lemmas.List.{map-append, get_or-map, length-map}
use Rattle.std.proofs.lemmas.List.Elements.{All-append, All-cons, All-filter, All-map}
use Rattle.filter_model.specs.Image.{image, in_slots}
use Rattle.filter_model.specs.Keys.{IsKeyList}
use Rattle.filter_model.specs.Leaves.{Leaf}
use Rattle.filter_model.specs.Trie.{height, path}
use Rattle.map_file_model.specs.Body.{body_of, front_of, slotted_values, summed}
use Rattle.map_file_model.specs.Maps.{Bytes, Map, keys_of, slotted, value_of}
use Rattle.map_file_model.proofs.Pairing.{zip_values}
use Rattle.map_file_model.proofs.Slotted.{keys_once, slotted_size, tries}
use Rattle.map_writer.specs.Bodies.{ArePairs, body_by}
use Rattle.map_writer.specs.Plans.{whole_cutoff}
use Rattle.map_writer.specs.Orders.{AreOrdered, ended_by, ended_on, values_at}
use Rattle.map_writer.specs.declared.error.FinishError.{FinishError}
use Rattle.map_writer.specs.declared.error.FinishError.TheVariants as error
use Rattle.trie_levels.specs.declared.spans.Span.{Span}
use Rattle.trie_levels.specs.Spans.{by_length, closes, spans_from, spans_of}
use Rattle.trie_levels.proofs.ByLength.{slots_by_length}
use Rattle.trie_levels.proofs.Closing.{filter_no, filter_yes}
use Rattle.whole_keys.proofs.Listed.{map-map}
use Rattle.whole_keys.specs.Whole.{stubs, whole_leaf, whole_leaves}

-- what is found by the number of a span is what is found by its leaf
abbrev FoundBy : {X : Type 0} → (ℕ → X) → (Leaf → X) → ℕ → List Leaf → Type 0
FoundBy by of k ls = (i : ℕ) (d : Leaf) → i < length ls → by (k + i) ≡ of (get_or ls i d)

ended_leaves : {X : Type 0} (by : ℕ → X) (of : Leaf → X) (n k : ℕ) (ls : List Leaf) → FoundBy by of k ls
    → map (λ (s : Span). by s.leaf) (ended_on n (spans_from k ls)) ≡ map of (filter (λ (l : Leaf). length (path l) == suc n) ls)
ended_leaves by of n k [] at = refl
ended_leaves {X} by of n k (l ∷ ls) at =
    let s : Span = record { leaf = k; closes = closes l ls; len = length (path l) } in
    let rest = ended_leaves by of n (suc k) ls (λ i d within. ap by (omega arith) ∙ at (suc i) d (omega (arith, within))) in
    let mine : by k ≡ of l = ap by (omega arith) ∙ at 0 l (omega arith) in
    elim (cases_eq (length (path l)) (suc n)) [
      | inl ends ↦
          ap (map (λ (s : Span). by s.leaf)) (filter_yes (λ (s : Span). s.len == suc n) s (spans_from (suc k) ls) (eq-eqb (length (path l)) (suc n) ends))
          ∙ (λ i. mine i ∷ rest i)
          ∙ ap (map of) (sym (filter_yes (λ (l : Leaf). length (path l) == suc n) l ls (eq-eqb (length (path l)) (suc n) ends)))
      | inr other ↦
          ap (map (λ (s : Span). by s.leaf)) (filter_no (λ (s : Span). s.len == suc n) s (spans_from (suc k) ls) (ne_eqb (length (path l)) (suc n) other))
          ∙ rest
          ∙ ap (map of) (sym (filter_no (λ (l : Leaf). length (path l) == suc n) l ls (ne_eqb (length (path l)) (suc n) other)))
    ]

ended_slots : {X : Type 0} (by : ℕ → X) (of : Leaf → X) (n : ℕ) (ls : List Leaf) → FoundBy by of 0 ls → map (λ (s : Span). by s.leaf) (ended_by n (spans_of ls)) ≡ map of (by_length n ls)
ended_slots by of zero ls at = refl
ended_slots by of (suc n) ls at =
    map-append (λ (s : Span). by s.leaf) (ended_by n (spans_of ls)) (ended_on n (spans_of ls))
    ∙ (λ i. ended_slots by of n ls at i ++ ended_leaves by of n 0 ls at i)
    ∙ sym (map-append of (by_length n ls) (filter (λ (l : Leaf). length (path l) == suc n) ls))

-- their numbers are of leaves
numbers_within : (most k : ℕ) (ls : List Leaf) → k + length ls ≤ most → All (λ (s : Span). s.leaf < most) (spans_from k ls)
numbers_within most k [] h = λ i d within. absurd (omega (arith, within))
numbers_within most k (l ∷ ls) h =
    All-cons (λ (s : Span). s.leaf < most) (record { leaf = k; closes = closes l ls; len = length (path l) }) (spans_from (suc k) ls) (omega (arith, h)) (numbers_within most (suc k) ls (omega (arith, h)))

ended_within : (most n : ℕ) (ss : List Span) → All (λ (s : Span). s.leaf < most) ss → All (λ (s : Span). s.leaf < most) (ended_by n ss)
ended_within most zero ss h = λ i d within. absurd (omega (arith, within))
ended_within most (suc n) ss h =
    All-append (λ (s : Span). s.leaf < most) (ended_by n ss) (ended_on n ss) (ended_within most n ss h) (All-filter (λ (s : Span). s.len == suc n) (λ (s : Span). s.leaf < most) ss h)

-- ---- pairs

pub listed : (keys values : List Bytes) → ArePairs keys values → 0 < length keys → IsKeyList keys
listed keys values p some = record { some = some; few = omega (arith, p.few); each = p.each; rising = p.rising }

pub not_zero : (n : ℕ) → false ≡ (n == 0) → 0 < n
not_zero zero e = absurd (false≢true e)
not_zero (suc n) e = omega arith

pub pairs_long : (keys values : List Bytes) → length keys ≡ length values → length (zip keys values) ≡ length keys
pairs_long [] values e = refl
pairs_long (k ∷ keys) [] e = absurd (omega (arith, e))
pairs_long (k ∷ keys) (v ∷ values) e = ap suc (pairs_long keys values (omega (arith, e)))

pub some_pairs : (keys values : List Bytes) → ArePairs keys values → 0 < length keys → 0 < length (zip keys values)
some_pairs keys values p some = omega (arith, pairs_long keys values p.as_many, some)

pub memory_alone : {T : Type 0} (r : Result T FinishError) (Q : FinishError → Type 0) → IsErrAnd r (λ e. e ≡ error.Memory) → Q error.Memory → IfErr r Q
memory_alone (Ok x) Q h q = tt
memory_alone (Err e) Q h q = subst Q (sym h) q

-- ---- the values by the slots of their keys

module _ (keys values : List Bytes) (k : IsKeyList keys) (p : ArePairs keys values) where
  as_many : length keys ≡ length values
  as_many = p.as_many

  pairs : Map
  pairs = zip keys values

  zipped_keys : (keys values : List Bytes) → length keys ≡ length values → keys_of (zip keys values) ≡ keys
  zipped_keys [] values e = refl
  zipped_keys (k ∷ keys) [] e = absurd (omega (arith, e))
  zipped_keys (k ∷ keys) (v ∷ values) e = ap (λ (l : List Bytes). k ∷ l) (zipped_keys keys values (omega (arith, e)))

  pub keys_are : keys_of (zip keys values) ≡ keys
  keys_are = zipped_keys keys values as_many

  values_are : map (value_of (zip keys values)) keys ≡ values
  values_are = zip_values keys values (keys_once keys k) as_many

  found : FoundBy (λ n. slice_index_or values n []) (λ (l : Leaf). value_of (zip keys values) l.stub) 0 (whole_leaves keys)
  found i d within =
      let inside : i < length keys = omega (arith, within, length-map keys (whole_leaf keys)) in
      ap (λ (n : ℕ). get_or values n []) (omega arith)
      ∙ ap (λ (vs : List Bytes). get_or vs i []) (sym values_are)
      ∙ get_or-map (value_of (zip keys values)) keys i [] [] inside
      ∙ ap (λ (l : Leaf). value_of (zip keys values) l.stub) (sym (get_or-map (whole_leaf keys) keys i [] d inside))

  slots_are : slotted_values (zip keys values) ≡ map (λ (l : Leaf). value_of (zip keys values) l.stub) (by_length (height (whole_leaves keys)) (whole_leaves keys))
  unfolding slotted
  slots_are =
      ap (λ (ks : List Bytes). map (value_of (zip keys values)) (stubs (in_slots (whole_leaves ks)))) keys_are
      ∙ map-map (value_of (zip keys values)) (λ (l : Leaf). l.stub) (in_slots (whole_leaves keys))
      ∙ ap (map (λ (l : Leaf). value_of (zip keys values) l.stub)) (slots_by_length (whole_leaves keys) (tries keys k))

  pub slots_long : length (slotted_values (zip keys values)) ≡ length keys
  slots_long = length-map (slotted (keys_of (zip keys values))) (value_of (zip keys values)) ∙ ap (λ (ks : List Bytes). length (slotted ks)) keys_are ∙ slotted_size keys k

  pub are_ordered : (spans : List Span) (top : ℕ) (order : List ℕ) → spans ≡ spans_of (whole_leaves keys) → top ≡ height (whole_leaves keys) → order ≡ map (λ (s : Span). s.leaf) (ended_by top spans)
      → AreOrdered values order (slotted_values (zip keys values))
  are_ordered spans top order e at is =
      let whole : order ≡ map (λ (s : Span). s.leaf) (ended_by (height (whole_leaves keys)) (spans_of (whole_leaves keys))) = is ∙ (λ i. map (λ (s : Span). s.leaf) (ended_by (at i) (e i))) in
      let these : values_at values order ≡ slotted_values (zip keys values) =
      ap (values_at values) whole
      ∙ map-map (λ n. slice_index_or values n []) (λ (s : Span). s.leaf) (ended_by (height (whole_leaves keys)) (spans_of (whole_leaves keys)))
      ∙ ended_slots (λ n. slice_index_or values n []) (λ (l : Leaf). value_of (zip keys values) l.stub) (height (whole_leaves keys)) (whole_leaves keys) found
      ∙ sym slots_are in
      let sized : length order ≡ length keys = sym (length-map order (λ n. slice_index_or values n [])) ∙ ap (length {A = Bytes}) these ∙ slots_long in
      record {
        may = record {
          within =
              subst (All (λ n. n < length values)) (sym whole)
              (All-map (λ n. n < length values) (λ (s : Span). s.leaf) (ended_by (height (whole_leaves keys)) (spans_of (whole_leaves keys)))
              (ended_within (length values) (height (whole_leaves keys)) (spans_of (whole_leaves keys)) (numbers_within (length values) 0 (whole_leaves keys) (omega (arith, as_many, length-map keys (whole_leaf keys))))));
          few = omega (arith, sized, p.few);
          short = p.short;
        };
        are = these;
      }

  pub body_is : (cutoff : ℕ) → body_of cutoff (zip keys values) ≡ summed (front_of (length keys) (image 0 0 cutoff (whole_leaves keys)) (slotted_values (zip keys values)))
  unfolding body_of
  body_is cutoff = λ i. summed (front_of (pairs_long keys values as_many i) (image 0 0 cutoff (whole_leaves (keys_are i))) (slotted_values (zip keys values)))

  pub by_plan : (ratio cutoff : ℕ) → cutoff ≡ whole_cutoff ratio keys → body_of cutoff (zip keys values) ≡ body_by ratio (zip keys values)
  by_plan ratio cutoff e = ap (λ (c : ℕ). body_of c (zip keys values)) (e ∙ ap (whole_cutoff ratio) (sym keys_are))
