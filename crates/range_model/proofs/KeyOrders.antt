-- The order of keys, as tests.
use Rattle.std.proofs.Common.{◌≡◌, sym, ap, ◌∙◌, subst, true, false}
use Rattle.std.proofs.lemmas.Bool.{false≢true}
use Rattle.std.specs.Cmp.Lexicographic.{nat_list_cmp_total}
use Rattle.std.specs.Ordering.{is_lt, ordering_reverse}
use Rattle.key_base.specs.ByteOrder.{Bytes, IsBefore, is_before}
use Rattle.map_model.proofs.Maps.{by_order, equal_keys, less_of_greater, order_same}
use Rattle.map_model.proofs.Between.{before_less}

pub is_before_of : (a b : Bytes) → IsBefore a b → is_before a b ≡ true
is_before_of a b less = ap is_lt less

pub not_before_itself : (a b : Bytes) → a ≡ b → is_before a b ≡ false
not_before_itself a b e = ap is_lt (order_same a b e)

pub not_before_less : (a b : Bytes) → IsBefore b a → is_before a b ≡ false
not_before_less a b less = ap is_lt (nat_list_cmp_total.antisymm a b ∙ ap ordering_reverse less)

pub before_then : (a b c : Bytes) → IsBefore a b → IsBefore b c → IsBefore a c
before_then a b c one two = nat_list_cmp_total.trans a b c one two

pub at_or_after : (P : Type 0) (a b : Bytes) → is_before a b ≡ false → (a ≡ b → P) → (IsBefore b a → P) → P
at_or_after P a b not_so same after = by_order (λ _. P) a b
    (λ less. absurd (false≢true (sym not_so ∙ ap is_lt less)))
    (λ equal. same (equal_keys a b equal))
    (λ greater. after (less_of_greater a b greater))

-- a is before b, and c is not: a is before c
pub before_from : (a b c : Bytes) → IsBefore a b → is_before c b ≡ false → IsBefore a c
before_from a b c less not_so = at_or_after (IsBefore a c) c b not_so (λ same. subst (IsBefore a) (sym same) less) (λ after. before_then a b c less after)

-- b is not before a, but before c: so is a
pub from_before : (a b c : Bytes) → is_before b a ≡ false → IsBefore b c → IsBefore a c
from_before a b c not_so less = at_or_after (IsBefore a c) b a not_so (λ same. subst (λ (x : Bytes). IsBefore x c) same less) (λ after. before_then a b c after less)

-- ---- as tests of a key

pub test_then : (key b c : Bytes) → IsBefore b c → is_before key b ≡ true → is_before key c ≡ true
test_then key b c less e = is_before_of key c (before_then key b c (before_less key b e) less)

pub test_from : (key b c : Bytes) → is_before c b ≡ false → is_before key b ≡ true → is_before key c ≡ true
test_from key b c not_so e = is_before_of key c (before_from key b c (before_less key b e) not_so)
