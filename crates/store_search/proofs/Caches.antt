-- The blocks that are kept, and the numbers of their tables.
use Rattle.std.proofs.Common.{◌≡◌, ◌≢◌, inl, inr, ◌≤◌, ◌<◌, ◌+◌, ℕ, suc, Bool, true, false, cond, List, [], ◌∷◌, length, take, refl, sym, ap, subst, ◌∙◌, arith}
use Rattle.std.specs.Prelude.{is_some, Option, Some, None}
use Rattle.block_cache.specs.Kept.{BlockPlace, KeptBlock, is_place, kept_of, others, brought_first, with_kept}
use Rattle.block_cache.proofs.Gives.{by_place, found_here, not_found_here, get_same, hit, keep_here, keep_elsewhere}
use Rattle.block_cache.proofs.Places.{same_place}
use Rattle.block_model.specs.BlockReading.{block_fault}
use Rattle.map_model.specs.SortedMap.{Bytes}
use Rattle.store_search.specs.Caching.{AreNumbered, AreSame, AreSound, BlockAgrees, CacheAgrees, Cached, IsFirst, LeavesKept, MayKeep, cache_number, none_cached, past_cache, renumbered}
use Rattle.table_file.specs.Opened.{Opened}
use Rattle.table_model.specs.Tables.{Table}

-- ---- numbers

pub number_from : (first behind : ℕ) → first < 18446744073709551615 → first ≤ cache_number first behind
number_from first behind lt = omega (arith, lt)

pub number_to : (first behind : ℕ) → cache_number first behind ≤ first + behind
number_to first behind = omega arith

-- of one more table
pub number_more : (first behind : ℕ) → cache_number first behind ≤ cache_number first (suc behind)
number_more first behind = omega arith

-- ---- a search

pub same_itself : (blocks : Cached) → AreSame blocks blocks
same_itself blocks = record { first = refl; kept = λ place. refl }

pub same_then : (a b c : Cached) → AreSame a b → AreSame b c → AreSame a c
same_then a b c ab bc = record { first = bc.first ∙ ab.first; kept = λ place. bc.kept place ∙ ab.kept place }

pub left_same : (old new : Cached) → AreSame old new → LeavesKept old new
left_same old new same = record { mid = new; same = same; more = inl refl }

pub left_itself : (blocks : Cached) → LeavesKept blocks blocks
left_itself blocks = left_same blocks blocks (same_itself blocks)

pub brought_same : (place : BlockPlace) (blocks : Cached) → AreSame blocks (record blocks { kept = brought_first place blocks.kept })
brought_same place blocks = record { first = refl; kept = λ other. get_same place other blocks.kept }

-- a block that is kept is brought first
pub is_first : (place : BlockPlace) (kept : List KeptBlock) → is_some (kept_of place kept) ≡ true → IsFirst place (brought_first place kept)
is_first place kept some = elim (kept_of place kept) as (λ o. kept_of place kept ≡ o → is_some o ≡ true → IsFirst place (brought_first place kept)) [
  | Some bytes ↦ λ is _. (bytes, others place kept, hit place kept bytes is)
  | None ↦ λ _ never. cc
] refl some

pub sound_brought : (place : BlockPlace) (kept : List KeptBlock) → AreSound kept → AreSound (brought_first place kept)
sound_brought place kept sound other bytes is = sound other bytes (sym (get_same place other kept) ∙ is)

-- ---- a block more

bytes_of : Option Bytes → Bytes
bytes_of None = []
bytes_of (Some bytes) = bytes

module _ (place : BlockPlace) (bytes : Bytes) (kept : List KeptBlock) (Q : BlockPlace → Bytes → Type 0) (here : Q place bytes)
    (there : (other : BlockPlace) (found : Bytes) → kept_of other kept ≡ Some found → Q other found) where
  -- what is so of it and of the others
  pub with_each : (other : BlockPlace) (found : Bytes) → kept_of other (with_kept place bytes kept) ≡ Some found → Q other found
  unfolding bytes_of
  with_each other found is =
      by_place (Q other found) place other
      (λ same.
      let its : bytes ≡ found = ap bytes_of (sym (keep_here place bytes kept) ∙ subst (λ (p : BlockPlace). kept_of p (with_kept place bytes kept) ≡ Some found) same is) in
      subst (λ (p : BlockPlace). Q p found) (sym same) (subst (Q place) its here))
      (λ apart. there other found (keep_elsewhere place other bytes found kept apart is))

pub sound_with : (place : BlockPlace) (bytes : Bytes) (kept : List KeptBlock) → block_fault bytes ≡ None → AreSound kept → AreSound (with_kept place bytes kept)
sound_with place bytes kept whole sound = with_each place bytes kept (λ _ b. block_fault b ≡ None) whole sound

not_there : (b : Bool) (bytes : Bytes) (o : Option Bytes) → cond b (Some bytes) o ≡ None → b ≡ false
not_there true bytes o none = absurd cc
not_there false bytes o none = refl

-- the first one stays
kept_behind : (place first : BlockPlace) (new bytes : Bytes) (rest : List KeptBlock) → kept_of place ((first, bytes) ∷ rest) ≡ None
    → kept_of first (with_kept place new ((first, bytes) ∷ rest)) ≡ kept_of first ((first, bytes) ∷ rest)
kept_behind place first new bytes rest none =
    let other : is_place place first ≡ false = not_there (is_place place first) bytes (kept_of place rest) none in
    let apart : first ≢ place = λ same. let never = sym (same_place place) ∙ ap (is_place place) (sym same) ∙ other in cc in
    not_found_here place first new (take 63 (others place ((first, bytes) ∷ rest))) apart
    ∙ ap (λ (b : Bool). kept_of first (take 63 (cond b rest ((first, bytes) ∷ others place rest)))) other
    ∙ found_here first bytes (take 62 (others place rest)) ∙ sym (found_here first bytes rest)

pub first_stays : (place first : BlockPlace) (bytes : Bytes) (old new : Cached) → MayKeep place bytes old new → kept_of place old.kept ≡ None → IsFirst first old.kept
    → kept_of first new.kept ≡ kept_of first old.kept
first_stays place first bytes old new (inl same) none is = ap (λ (c : Cached). kept_of first c.kept) same
first_stays place first bytes old new (inr more) none is =
    ap (λ (c : Cached). kept_of first c.kept) more.1
    ∙ subst (λ (l : List KeptBlock). kept_of first (with_kept place bytes l) ≡ kept_of first l) (sym is.2)
    (kept_behind place first bytes is.0 is.1 (subst (λ (l : List KeptBlock). kept_of place l ≡ None) is.2 none))

-- ---- numbers that were given

pub numbered_same : (old new : Cached) (tables : ℕ) → AreSame old new → AreNumbered old tables → AreNumbered new tables
numbered_same old new tables same numbered place bytes is =
    subst (λ (n : ℕ). place.0 < cache_number n tables) (sym same.first) (numbered place bytes (sym (same.kept place) ∙ is))

pub numbered_kept : (place : BlockPlace) (bytes : Bytes) (old new : Cached) (tables : ℕ) → MayKeep place bytes old new → (place.0 < past_cache → place.0 < cache_number old.first tables)
    → AreNumbered old tables → AreNumbered new tables
numbered_kept place bytes old new tables (inl same) given numbered = subst (λ (c : Cached). AreNumbered c tables) (sym same) numbered
numbered_kept place bytes old new tables (inr more) given numbered =
    subst (λ (c : Cached). AreNumbered c tables) (sym more.1) (with_each place bytes old.kept (λ p _. p.0 < cache_number old.first tables) (given more.0) numbered)

-- of one table more
pub numbered_more : (blocks : Cached) (tables : ℕ) → AreNumbered blocks tables → AreNumbered blocks (suc tables)
numbered_more blocks tables numbered place bytes is = omega (arith, numbered place bytes is, number_more blocks.first tables)

-- where none is kept
pub none_sound : AreSound []
none_sound place bytes is = cc

pub none_numbered : (tables : ℕ) → AreNumbered none_cached tables
none_numbered tables place bytes is = cc

pub none_true : (opened : List Opened) (tables : List Table) → CacheAgrees none_cached opened tables
none_true opened tables place bytes is = cc

-- ---- what kept blocks say

pub true_same : (old new : Cached) (opened : List Opened) (tables : List Table) → AreSame old new → CacheAgrees old opened tables → CacheAgrees new opened tables
true_same old new opened tables same are place bytes is =
    subst (λ (n : ℕ). BlockAgrees n place bytes opened tables) (sym same.first) (are place bytes (sym (same.kept place) ∙ is))

pub true_kept : (place : BlockPlace) (bytes : Bytes) (old new : Cached) (opened : List Opened) (tables : List Table) → MayKeep place bytes old new
    → (place.0 < past_cache → BlockAgrees old.first place bytes opened tables) → CacheAgrees old opened tables → CacheAgrees new opened tables
true_kept place bytes old new opened tables (inl same) is are = subst (λ (c : Cached). CacheAgrees c opened tables) (sym same) are
true_kept place bytes old new opened tables (inr more) is are =
    subst (λ (c : Cached). CacheAgrees c opened tables) (sym more.1) (with_each place bytes old.kept (λ p b. BlockAgrees old.first p b opened tables) (is more.0) are)

-- none of the tables has a number that is past all of theirs
pub true_past : (first : ℕ) (place : BlockPlace) (bytes : Bytes) (opened : List Opened) (tables : List Table) → first + length opened ≤ place.0 → BlockAgrees first place bytes opened tables
true_past first place bytes [] tables past = tt
true_past first place bytes (o ∷ more) [] past = tt
true_past first place bytes (o ∷ more) (t ∷ tables) past =
    ((λ is. absurd (omega (arith, is, past, number_to first (length more)))), true_past first place bytes more tables (omega (arith, past)))

-- nor one before them
true_before : (first : ℕ) (place : BlockPlace) (bytes : Bytes) (opened : List Opened) (tables : List Table) → place.0 < first → place.0 < past_cache → BlockAgrees first place bytes opened tables
true_before first place bytes [] tables before small = tt
true_before first place bytes (o ∷ more) [] before small = tt
true_before first place bytes (o ∷ more) (t ∷ tables) before small =
    ((λ is. absurd (omega (arith, is, before, small))), true_before first place bytes more tables before small)

-- a table in front has a number of its own
pub true_in_front : (blocks : Cached) (o : Opened) (more : List Opened) (t : Table) (tables : List Table) → AreNumbered blocks (length more) → CacheAgrees blocks more tables
    → CacheAgrees blocks (o ∷ more) (t ∷ tables)
true_in_front blocks o more t tables numbered are place bytes is = ((λ same. absurd (omega (arith, same, numbered place bytes is))), are place bytes is)

-- ---- numbers anew

pub numbered_anew : (blocks : Cached) (before tables : ℕ) → AreNumbered blocks before → AreNumbered (renumbered blocks before) tables
numbered_anew blocks before tables numbered place bytes is = omega (arith, numbered place bytes is)

pub true_anew : (blocks : Cached) (before : ℕ) (opened : List Opened) (tables : List Table) → AreNumbered blocks before → CacheAgrees (renumbered blocks before) opened tables
true_anew blocks before opened tables numbered place bytes is =
    let below = numbered place bytes is in
    true_before (cache_number blocks.first before) place bytes opened tables below (omega (arith, below))
