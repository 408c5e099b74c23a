-- The limit of a request is the one that it breaks.
use Rattle.std.proofs.Common.{◌≡◌, ◌⊎◌, inl, inr, ℕ, ◌≤◌, ◌<◌, List, [], ◌∷◌, refl, sym, ap, ◌∙◌, subst, Bool, true, false, cond, arith}
use Rattle.std.specs.Option.{option_or}
use Rattle.std.specs.Prelude.{Option, Some, None, nat_lt, length, ◌==◌, ◌||◌}
use Rattle.map_model.specs.SortedMap.{Bytes}
use Rattle.line_model.specs.Limits.{key_limit, value_limit, bound_limit, limit_of}
use Rattle.line_model.specs.Requests.{Request, Put, Del, Get, Seek, Range, Count, Estimate, Explain, Flush, Compact, Quit, Bad}
use Rattle.line_model.specs.Replies.{Reply, LongKey, LongValue}
use Rattle.state_model.specs.Refusals.{KeyFits, KeyBreaks, key_of, bounds_of, BreaksLimit, by_key, by_value, by_lower, by_upper}

-- ---- tests

no_key_true : (n m : ℕ) → (n ≡ 0) ⊎ (m < n) → (n == 0 || nat_lt m n) ≡ true
no_key_true n m (inl e) = grind arith
no_key_true n m (inr l) = grind arith

no_key_of : (n m : ℕ) → (n == 0 || nat_lt m n) ≡ true → (n ≡ 0) ⊎ (m < n)
no_key_of n m e = grind arith

key_false : (n m : ℕ) → 1 ≤ n → n ≤ m → (n == 0 || nat_lt m n) ≡ false
key_false n m some few = grind arith

some_of : (n m : ℕ) → (n == 0 || nat_lt m n) ≡ false → 1 ≤ n
some_of n m e = grind arith

few_of : (n m : ℕ) → (n == 0 || nat_lt m n) ≡ false → n ≤ m
few_of n m e = grind arith

lt_true : (m n : ℕ) → m < n → nat_lt m n ≡ true
lt_true m n l = grind arith

lt_false : (m n : ℕ) → n ≤ m → nat_lt m n ≡ false
lt_false m n l = grind arith

lt_of : (m n : ℕ) → nat_lt m n ≡ true → m < n
lt_of m n e = grind arith

not_lt : (m n : ℕ) → nat_lt m n ≡ false → n ≤ m
not_lt m n e = grind arith

-- ---- the limits of a key, a value and a bound

if_some : (test : Bool) (limit reply : Reply) → cond test (Some limit) None ≡ Some reply → (test ≡ true) × (reply ≡ limit)
if_some true limit reply e = (refl, cc)
if_some false limit reply e = cc

if_none : (test : Bool) (limit : Reply) → cond test (Some limit) None ≡ None → test ≡ false
if_none true limit e = cc
if_none false limit e = refl

key_breaks : (key : Bytes) → KeyBreaks key → key_limit key ≡ Some (LongKey (length key))
key_breaks key wrong = ap (λ (t : Bool). cond t (Some (LongKey (length key))) None) (no_key_true (length key) 1024 wrong)

key_holds : (key : Bytes) → KeyFits key → key_limit key ≡ None
key_holds key is = ap (λ (t : Bool). cond t (Some (LongKey (length key))) None) (key_false (length key) 1024 is.0 is.1)

value_breaks : (value : Bytes) → 1048576 < length value → value_limit value ≡ Some (LongValue (length value))
value_breaks value wide = ap (λ (t : Bool). cond t (Some (LongValue (length value))) None) (lt_true 1048576 (length value) wide)

bound_breaks : (bound : Bytes) → 1024 < length bound → bound_limit bound ≡ Some (LongKey (length bound))
bound_breaks bound wide = ap (λ (t : Bool). cond t (Some (LongKey (length bound))) None) (lt_true 1024 (length bound) wide)

bound_holds : (bound : Bytes) → length bound ≤ 1024 → bound_limit bound ≡ None
bound_holds bound few = ap (λ (t : Bool). cond t (Some (LongKey (length bound))) None) (lt_false 1024 (length bound) few)

key_broken : (key : Bytes) (reply : Reply) → key_limit key ≡ Some reply → KeyBreaks key × (reply ≡ LongKey (length key))
key_broken key reply e =
    let so = if_some (length key == 0 || nat_lt 1024 (length key)) (LongKey (length key)) reply e in
    (no_key_of (length key) 1024 so.0, so.1)

key_kept : (key : Bytes) → key_limit key ≡ None → KeyFits key
key_kept key e =
    let so = if_none (length key == 0 || nat_lt 1024 (length key)) (LongKey (length key)) e in
    (some_of (length key) 1024 so, few_of (length key) 1024 so)

value_broken : (value : Bytes) (reply : Reply) → value_limit value ≡ Some reply → (1048576 < length value) × (reply ≡ LongValue (length value))
value_broken value reply e =
    let so = if_some (nat_lt 1048576 (length value)) (LongValue (length value)) reply e in
    (lt_of 1048576 (length value) so.0, so.1)

bound_broken : (bound : Bytes) (reply : Reply) → bound_limit bound ≡ Some reply → (1024 < length bound) × (reply ≡ LongKey (length bound))
bound_broken bound reply e =
    let so = if_some (nat_lt 1024 (length bound)) (LongKey (length bound)) reply e in
    (lt_of 1024 (length bound) so.0, so.1)

bound_kept : (bound : Bytes) → bound_limit bound ≡ None → length bound ≤ 1024
bound_kept bound e = not_lt 1024 (length bound) (if_none (nat_lt 1024 (length bound)) (LongKey (length bound)) e)

-- ---- a broken limit is the one of the request

first_breaks : (a b : Option Reply) (reply : Reply) → a ≡ Some reply → option_or a b ≡ Some reply
first_breaks a b reply e = ap (λ (l : Option Reply). option_or l b) e

then_breaks : (a b : Option Reply) (reply : Reply) → a ≡ None → b ≡ Some reply → option_or a b ≡ Some reply
then_breaks a b reply none e = ap (λ (l : Option Reply). option_or l b) none ∙ e

limit_by_key : (request : Request) (key : Bytes) (reply : Reply) → key_of request ≡ Some key → key_limit key ≡ Some reply → limit_of request ≡ Some reply
limit_by_key (Put k value) key reply named e = let same : k ≡ key = cc in first_breaks (key_limit k) (value_limit value) reply (ap key_limit same ∙ e)
limit_by_key (Del k) key reply named e = let same : k ≡ key = cc in ap key_limit same ∙ e
limit_by_key (Get k) key reply named e = let same : k ≡ key = cc in ap key_limit same ∙ e
limit_by_key (Explain k) key reply named e = let same : k ≡ key = cc in ap key_limit same ∙ e
limit_by_key (Seek lo hi) key reply named e = cc
limit_by_key (Range lo hi n) key reply named e = cc
limit_by_key (Count lo hi) key reply named e = cc
limit_by_key (Estimate lo hi) key reply named e = cc
limit_by_key Flush key reply named e = cc
limit_by_key Compact key reply named e = cc
limit_by_key Quit key reply named e = cc
limit_by_key (Bad code) key reply named e = cc

-- the limit of some bounds: that of the first that is too long
abbrev limit_by : List Bytes → Option Reply
limit_by [] = None
limit_by (lo ∷ []) = bound_limit lo
limit_by (lo ∷ hi ∷ more) = option_or (bound_limit lo) (bound_limit hi)

limit_by_bounds : (request : Request) (lo : Bytes) (more : List Bytes) → bounds_of request ≡ lo ∷ more → limit_of request ≡ limit_by (lo ∷ more)
limit_by_bounds (Seek a None) lo more named = ap limit_by named
limit_by_bounds (Seek a (Some b)) lo more named = ap limit_by named
limit_by_bounds (Range a b n) lo more named = ap limit_by named
limit_by_bounds (Count a b) lo more named = ap limit_by named
limit_by_bounds (Estimate a b) lo more named = ap limit_by named
limit_by_bounds (Put key value) lo more named = cc
limit_by_bounds (Del key) lo more named = cc
limit_by_bounds (Get key) lo more named = cc
limit_by_bounds (Explain key) lo more named = cc
limit_by_bounds Flush lo more named = cc
limit_by_bounds Compact lo more named = cc
limit_by_bounds Quit lo more named = cc
limit_by_bounds (Bad code) lo more named = cc

lower_breaks : (lo : Bytes) (more : List Bytes) → 1024 < length lo → limit_by (lo ∷ more) ≡ Some (LongKey (length lo))
lower_breaks lo [] wide = bound_breaks lo wide
lower_breaks lo (hi ∷ more) wide = first_breaks (bound_limit lo) (bound_limit hi) (LongKey (length lo)) (bound_breaks lo wide)

pub broken_limits : (request : Request) (reply : Reply) → BreaksLimit request reply → limit_of request ≡ Some reply
broken_limits request _ (by_key key named wrong) = limit_by_key request key (LongKey (length key)) named (key_breaks key wrong)
broken_limits request _ (by_value key value named is wide) =
    ap limit_of named ∙ then_breaks (key_limit key) (value_limit value) (LongValue (length value)) (key_holds key is) (value_breaks value wide)
broken_limits request _ (by_lower lo more named wide) = limit_by_bounds request lo more named ∙ lower_breaks lo more wide
broken_limits request _ (by_upper lo hi named few wide) =
    limit_by_bounds request lo (hi ∷ []) named ∙ then_breaks (bound_limit lo) (bound_limit hi) (LongKey (length hi)) (bound_holds lo few) (bound_breaks hi wide)

-- ---- the limit of a request is broken

first_of : (a b : Option Reply) (reply : Reply) → option_or a b ≡ Some reply → (a ≡ Some reply) ⊎ ((a ≡ None) × (b ≡ Some reply))
first_of (Some limit) b reply e = inl e
first_of None b reply e = inr (refl, e)

broken_key : (request : Request) (key : Bytes) (reply : Reply) → key_of request ≡ Some key → key_limit key ≡ Some reply → BreaksLimit request reply
broken_key request key reply named e = let so = key_broken key reply e in subst (BreaksLimit request) (sym so.1) (by_key key named so.0)

broken_lower : (request : Request) (lo : Bytes) (more : List Bytes) (reply : Reply) → bounds_of request ≡ lo ∷ more → bound_limit lo ≡ Some reply → BreaksLimit request reply
broken_lower request lo more reply named e = let so = bound_broken lo reply e in subst (BreaksLimit request) (sym so.1) (by_lower lo more named so.0)

broken_put : (key value : Bytes) (reply : Reply) → (key_limit key ≡ Some reply) ⊎ ((key_limit key ≡ None) × (value_limit value ≡ Some reply)) → BreaksLimit (Put key value) reply
broken_put key value reply (inl e) = broken_key (Put key value) key reply refl e
broken_put key value reply (inr e) = let so = value_broken value reply e.1 in subst (BreaksLimit (Put key value)) (sym so.1) (by_value key value refl (key_kept key e.0) so.0)

broken_bounds : (request : Request) (lo hi : Bytes) (reply : Reply) → bounds_of request ≡ lo ∷ hi ∷ []
    → (bound_limit lo ≡ Some reply) ⊎ ((bound_limit lo ≡ None) × (bound_limit hi ≡ Some reply)) → BreaksLimit request reply
broken_bounds request lo hi reply named (inl e) = broken_lower request lo (hi ∷ []) reply named e
broken_bounds request lo hi reply named (inr e) = let so = bound_broken hi reply e.1 in subst (BreaksLimit request) (sym so.1) (by_upper lo hi named (bound_kept lo e.0) so.0)

pub limits_broken : (request : Request) (reply : Reply) → limit_of request ≡ Some reply → BreaksLimit request reply
limits_broken (Put key value) reply e = broken_put key value reply (first_of (key_limit key) (value_limit value) reply e)
limits_broken (Del key) reply e = broken_key (Del key) key reply refl e
limits_broken (Get key) reply e = broken_key (Get key) key reply refl e
limits_broken (Explain key) reply e = broken_key (Explain key) key reply refl e
limits_broken (Seek lo None) reply e = broken_lower (Seek lo None) lo [] reply refl e
limits_broken (Seek lo (Some hi)) reply e = broken_bounds (Seek lo (Some hi)) lo hi reply refl (first_of (bound_limit lo) (bound_limit hi) reply e)
limits_broken (Range lo hi n) reply e = broken_bounds (Range lo hi n) lo hi reply refl (first_of (bound_limit lo) (bound_limit hi) reply e)
limits_broken (Count lo hi) reply e = broken_bounds (Count lo hi) lo hi reply refl (first_of (bound_limit lo) (bound_limit hi) reply e)
limits_broken (Estimate lo hi) reply e = broken_bounds (Estimate lo hi) lo hi reply refl (first_of (bound_limit lo) (bound_limit hi) reply e)
limits_broken Flush reply e = cc
limits_broken Compact reply e = cc
limits_broken Quit reply e = cc
limits_broken (Bad code) reply e = cc
