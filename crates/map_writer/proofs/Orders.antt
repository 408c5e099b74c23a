-- One pass over the paths that are left, a level on.
use Rattle.std.proofs.Common.{◌≡◌, ◌<◌, ◌≤◌, ◌+◌, ◌==◌, ℕ, suc, nat_lt, List, [], ◌∷◌, ◌++◌, length, get_or, drop, map, cond, refl, sym, ap, ◌∙◌, arith, inl, inr}
use Rattle.std.proofs.lemmas.Bool.{cases_lt, eq-eqb, le-ltb, lt-ltb, ne_eqb}
use Rattle.std.proofs.lemmas.List.{append_assoc, drop_more}
use Rattle.map_writer.specs.Orders.{ended_on}
use Rattle.trie_levels.specs.Gathering.{longer}
use Rattle.trie_levels.specs.declared.spans.Span.{Span}
use Rattle.trie_levels.proofs.Closing.{filter_no, filter_yes}

abbrev pub numbers : List Span → List ℕ
numbers ss = map (λ (s : Span). s.leaf) ss

-- the paths that end later are among those that are longer
pub still_ends : (m n : ℕ) (ss : List Span) → m ≤ n → ended_on n (longer m ss) ≡ ended_on n ss
still_ends m n [] h = refl
still_ends m n (s ∷ ss) h = elim (cases_lt m s.len) [
  | inl on ↦
      ap (ended_on n) (filter_yes (λ (s : Span). nat_lt m s.len) s ss (lt-ltb m s.len on))
      ∙ ap (λ (r : List Span). cond (s.len == suc n) (s ∷ r) r) (still_ends m n ss h)
  | inr past ↦
      ap (ended_on n) (filter_no (λ (s : Span). nat_lt m s.len) s ss (le-ltb m s.len past))
      ∙ still_ends m n ss h
      ∙ sym (filter_no (λ (s : Span). s.len == suc n) s ss (ne_eqb s.len (suc n) (λ e. omega (arith, e, past, h))))
]

-- one path on
pub ends_here : (n : ℕ) (spans : List Span) (i : ℕ) (d : Span) (xs total : List ℕ) → i < length spans → (get_or spans i d).len ≡ n + 1
    → xs ++ numbers (ended_on n (drop i spans)) ≡ total → (xs ++ (get_or spans i d).leaf ∷ []) ++ numbers (ended_on n (drop (i + 1) spans)) ≡ total
ends_here n spans i d xs total within ends e =
    append_assoc xs ((get_or spans i d).leaf ∷ []) (numbers (ended_on n (drop (i + 1) spans)))
    ∙ ap (λ (ss : List Span). xs ++ numbers ss) (sym (filter_yes (λ (s : Span). s.len == suc n) (get_or spans i d) (drop (i + 1) spans) (eq-eqb (get_or spans i d).len (suc n) (omega (arith, ends)))))
    ∙ ap (λ (ss : List Span). xs ++ numbers (ended_on n ss)) (sym (drop_more spans i d within))
    ∙ e

pub ends_elsewhere : (n : ℕ) (spans : List Span) (i : ℕ) (d : Span) (xs total : List ℕ) → i < length spans → ((get_or spans i d).len ≡ n + 1 → ⊥)
    → xs ++ numbers (ended_on n (drop i spans)) ≡ total → xs ++ numbers (ended_on n (drop (i + 1) spans)) ≡ total
ends_elsewhere n spans i d xs total within other e =
    ap (λ (ss : List Span). xs ++ numbers ss) (sym (filter_no (λ (s : Span). s.len == suc n) (get_or spans i d) (drop (i + 1) spans) (ne_eqb (get_or spans i d).len (suc n) (λ k. other (omega (arith, k))))))
    ∙ ap (λ (ss : List Span). xs ++ numbers (ended_on n ss)) (sym (drop_more spans i d within))
    ∙ e
