-- What is counted of spans, and of the leaves that have them.
use Rattle.std.proofs.Common.{◌≡◌, ◌<◌, ◌≤◌, ◌+◌, ◌==◌, ℕ, suc, max, Bool, List, [], ◌∷◌, true, false, cond, length, get_or, set, drop, map, refl, sym, ap, subst, ◌∙◌, arith, inl, inr}
use Rattle.std.specs.Prelude.{count_by}
use Rattle.std.specs.List.{All, range_with_len}
use Rattle.std.proofs.lemmas.Bool.{cases_eq, eq-eqb, ne_eqb}
use Rattle.std.proofs.lemmas.List.{drop_all, drop_more}
use Rattle.std.proofs.lemmas.List.FromFn.{fill_by_all}
use Rattle.std.proofs.lemmas.List.Sums.{count_by-le-length}
use Rattle.std.proofs.lemmas.List.Elements.{All-cons}
use Rattle.filter_model.specs.Leaves.{Leaf}
use Rattle.filter_model.specs.Strings.{shared}
use Rattle.filter_model.specs.Trie.{height, path}
use Rattle.filter_model.proofs.Counts.{count_by-cons}
use Rattle.trie_levels.specs.declared.spans.Span.{Span}
use Rattle.trie_levels.specs.Neighbours.{AreCounts, endings, partings}
use Rattle.trie_levels.specs.Spans.{AreSpans, closes, ends_within, most_letters, spans_from}
use Rattle.trie_levels.proofs.Growth.{AreInOrder, in_order-tail, leaves_rest}
use Rattle.trie_levels.proofs.Totals.{in_order}
use Rattle.trie_levels.proofs.Loops.{count_fits, count_up, height-cons, height-nil}

pub most-height : (k : ℕ) (ls : List Leaf) → most_letters (spans_from k ls) ≡ height ls
most-height k [] = sym height-nil
most-height k (l ∷ ls) = ap (max (length (path l))) (most-height (suc k) ls) ∙ sym (height-cons l ls)

pub lengths-endings : (k n : ℕ) (ls : List Leaf) → count_by (λ (s : Span). s.len == n + 1) (spans_from k ls) ≡ endings ls n
lengths-endings k n [] = refl
lengths-endings k n (l ∷ ls) =
    count_by-cons (λ (s : Span). s.len == n + 1) (record { leaf = k; closes = closes l ls; len = length (path l) }) (spans_from (suc k) ls)
    ∙ ap (λ (m : ℕ). cond (length (path l) == n + 1) 1 0 + m) (lengths-endings (suc k) n ls)
    ∙ sym (count_by-cons (λ l. length (path l) == n + 1) l ls)

same_more : (a n : ℕ) → (a + 1 == n + 1) ≡ (a == n)
same_more a n = elim (cases_eq a n) [
  | inl same ↦ eq-eqb (a + 1) (n + 1) (omega arith) ∙ sym (eq-eqb a n same)
  | inr other ↦ ne_eqb (a + 1) (n + 1) (λ e. other (omega arith)) ∙ sym (ne_eqb a n other)
]

pub closings-partings : (k n : ℕ) (ls : List Leaf) → count_by (λ (s : Span). s.closes == n + 1) (spans_from k ls) ≡ partings ls n
closings-partings k n [] = refl
closings-partings k n (l ∷ []) =
    count_by-cons (λ (s : Span). s.closes == n + 1) (record { leaf = k; closes = 0; len = length (path l) }) []
    ∙ ap (λ (b : Bool). cond {A = ℕ} b 1 0 + 0) (ne_eqb 0 (n + 1) (λ e. omega arith))
closings-partings k n (l ∷ m ∷ ls) =
    count_by-cons (λ (s : Span). s.closes == n + 1) (record { leaf = k; closes = shared l.stub m.stub + 1; len = length (path l) }) (spans_from (suc k) (m ∷ ls))
    ∙ (λ i. cond (same_more (shared l.stub m.stub) n i) 1 0 + closings-partings (suc k) n (m ∷ ls) i)

-- every span of leaves in order ends within the height
pub spans_within : (k : ℕ) (ls : List Leaf) (levels : ℕ) → AreInOrder ls → height ls ≤ levels → All (ends_within levels) (spans_from k ls)
spans_within k [] levels h tall = λ i d within. absurd (omega arith)
spans_within k (l ∷ ls) levels h tall =
    let v = leaves_rest l ls h in
    let here = height-cons l ls in
    All-cons (ends_within levels) (record { leaf = k; closes = closes l ls; len = length (path l) }) (spans_from (suc k) ls)
    (omega (arith, v.inside), omega (arith, here, tall), closed ls h tall)
    (spans_within (suc k) ls levels (in_order-tail l ls h) (omega (arith, here, tall)))
  where
    closed : (ls : List Leaf) → AreInOrder (l ∷ ls) → height (l ∷ ls) ≤ levels → closes l ls ≤ levels
    closed [] h tall = omega arith
    closed (m ∷ ls) h tall = omega (arith, (leaves_rest l (m ∷ ls) h).inside, height-cons l (m ∷ ls), tall)

-- a count over what is left
pub count-rest : {X : Type 0} (test : X → Bool) (xs : List X) (i : ℕ) (d : X) → i < length xs → count_by test (drop i xs) ≡ cond (test (get_or xs i d)) 1 0 + count_by test (drop (i + 1) xs)
count-rest {X} test xs i d within =
    ap (count_by test) (drop_more xs i d within) ∙ count_by-cons test (get_or xs i d) (drop (i + 1) xs)

-- one span more is counted at its place
pub counted : (test : ℕ → Span → Bool) (spans : List Span) (i : ℕ) (d : Span) (counts : List ℕ) (levels at v : ℕ) → i < length spans → length counts ≡ levels → at < levels
    → ((n : ℕ) → test n (get_or spans i d) ≡ (at == n)) → v ≡ get_or counts at 0
    → ((n : ℕ) → n < levels → get_or counts n 0 + count_by (test n) (drop i spans) ≡ count_by (test n) spans)
    → (n : ℕ) → n < levels → get_or (set counts at (v + 1)) n 0 + count_by (test n) (drop (i + 1) spans) ≡ count_by (test n) spans
counted test spans i d counts levels at v within long inside hits value told n below =
    subst (λ (w : ℕ). get_or (set counts at (w + 1)) n 0 + count_by (test n) (drop (i + 1) spans) ≡ count_by (test n) spans) (sym value)
    (count_up counts at levels (λ n. test n (get_or spans i d)) (λ n. count_by (test n) (drop (i + 1) spans)) (λ n. count_by (test n) spans) (omega (arith, long, inside)) hits
    (λ n below. ap (λ (r : ℕ). get_or counts n 0 + r) (sym (count-rest (test n) spans i d within)) ∙ told n below) n below)

-- and there is room to count it
pub counts_fit : (test : ℕ → Span → Bool) (spans : List Span) (i : ℕ) (d : Span) (counts : List ℕ) (levels at v : ℕ) → i < length spans → at < levels
    → test at (get_or spans i d) ≡ true → v ≡ get_or counts at 0
    → ((n : ℕ) → n < levels → get_or counts n 0 + count_by (test n) (drop i spans) ≡ count_by (test n) spans) → v + 1 ≤ length spans
counts_fit test spans i d counts levels at v within inside hit value told =
    omega (
      arith,
      value,
      count_fits (get_or counts at 0) (count_by (test at) (drop (i + 1) spans)) (count_by (test at) spans) (test at (get_or spans i d))
          (ap (λ (r : ℕ). get_or counts at 0 + r) (sym (count-rest (test at) spans i d within)) ∙ told at inside) hit,
      count_by-le-length (test at) spans,
    )

-- a span that is not counted changes nothing
pub not_counted : (test : ℕ → Span → Bool) (spans : List Span) (i : ℕ) (d : Span) (counts : List ℕ) (levels : ℕ) → i < length spans
    → ((n : ℕ) → test n (get_or spans i d) ≡ false)
    → ((n : ℕ) → n < levels → get_or counts n 0 + count_by (test n) (drop i spans) ≡ count_by (test n) spans)
    → (n : ℕ) → n < levels → get_or counts n 0 + count_by (test n) (drop (i + 1) spans) ≡ count_by (test n) spans
not_counted test spans i d counts levels within none told n below =
    omega (arith, told n below, count-rest (test n) spans i d within, ap (λ (b : Bool). cond {A = ℕ} b 1 0) (none n))

-- all are counted where none is left
pub all_counted : (test : ℕ → Span → Bool) (spans : List Span) (i : ℕ) (counts : List ℕ) (levels : ℕ) → length spans ≤ i → length counts ≡ levels
    → ((n : ℕ) → n < levels → get_or counts n 0 + count_by (test n) (drop i spans) ≡ count_by (test n) spans)
    → counts ≡ map (λ n. count_by (test n) spans) (range_with_len 0 levels)
all_counted test spans i counts levels past long told =
    fill_by_all (λ n. count_by (test n) spans) counts levels 0 long (λ k below. omega (arith, told k below, ap (count_by (test k)) (drop_all i spans past)))

-- spans end within the longest of them
pub tall : (ls : List Leaf) (spans : List Span) (levels : ℕ) → AreSpans ls spans → levels ≡ most_letters spans → levels ≡ height ls
tall ls spans levels h e = e ∙ ap most_letters h.are ∙ most-height 0 ls

pub within_tall : (ls : List Leaf) (spans : List Span) (levels : ℕ) → AreSpans ls spans → levels ≡ most_letters spans → All (ends_within levels) spans
within_tall ls spans levels h e =
    subst (All (ends_within levels)) (sym h.are) (spans_within 0 ls levels (in_order ls h.trie) (omega (arith, tall ls spans levels h e)))

-- what is counted of the spans are the counts of the leaves
pub planned : (ls : List Leaf) (spans : List Span) (levels : ℕ) (parted ended : List ℕ) → AreSpans ls spans → levels ≡ most_letters spans
    → parted ≡ map (λ n. count_by (λ (s : Span). s.closes == n + 1) spans) (range_with_len 0 levels)
    → ended ≡ map (λ n. count_by (λ (s : Span). s.len == n + 1) spans) (range_with_len 0 levels)
    → AreCounts ls parted ended
planned ls spans levels parted ended h e p q = record {
  trie = h.trie;
  parted_are = p ∙ map_by (λ n. count_by (λ (s : Span). s.closes == n + 1) spans) (partings ls) (range_with_len 0 levels) (λ n. ap (count_by (λ (s : Span). s.closes == n + 1)) h.are ∙ closings-partings 0 n ls) ∙ ap (λ (k : ℕ). map (partings ls) (range_with_len 0 k)) (tall ls spans levels h e);
  ended_are = q ∙ map_by (λ n. count_by (λ (s : Span). s.len == n + 1) spans) (endings ls) (range_with_len 0 levels) (λ n. ap (count_by (λ (s : Span). s.len == n + 1)) h.are ∙ lengths-endings 0 n ls) ∙ ap (λ (k : ℕ). map (endings ls) (range_with_len 0 k)) (tall ls spans levels h e);
}
  where
    map_by : (f g : ℕ → ℕ) (xs : List ℕ) → ((n : ℕ) → f n ≡ g n) → map f xs ≡ map g xs
    map_by f g xs k = ap (λ (h : ℕ → ℕ). map h xs) (λ i n. k n i)
