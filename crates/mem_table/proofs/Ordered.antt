-- Entries in the order of their places, and what a new entry makes of them.
use Rattle.std.proofs.Common.{◌≡◌, ◌≢◌, ℕ, zero, suc, ◌<◌, ◌≤◌, List, [], ◌∷◌, ◌++◌, length, map, drop, get_or, set, refl, sym, ap, ◌∙◌, subst, arith}
use Rattle.std.specs.Prelude.{None, insert}
use Rattle.std.specs.List.{AllByRecursion}
use Rattle.std.proofs.lemmas.List.{get_or-map, get_or-set_same, get_or-set_other, get_or_append_left, length-map}
use Rattle.std.proofs.Math.Seq.{get_or-append_seam}
use Rattle.std.specs.declared.cmp.Ordering.TheVariants.{Less, Equal}
use Rattle.arrayvec.specs.ArrayVec.{ArrayVec}
use Rattle.map_model.specs.SortedMap.{byte_order}
use Rattle.entry_model.specs.Entries.{Entry}
use Rattle.map_model.proofs.Maps.{order_same}
use Rattle.entry_model.specs.Newest.{ComesBehind, KeysRise}
use Rattle.mem_table.specs.Chunks.{flat, entry_at, in_order, NoneEmpty}
use Rattle.mem_table.proofs.Places.{above_at}

-- ---- places that are within

abbrev pub AllWithin : List Entry → List ℕ → Type 0
AllWithin entries places = AllByRecursion (λ place. place < length entries) places

pub within_at : (entries : List Entry) (places : List ℕ) (at : ℕ) → AllWithin entries places → at < length places → get_or places at 0 < length entries
within_at entries [] at within lt = absurd (omega arith)
within_at entries (p ∷ more) zero within lt = within.0
within_at entries (p ∷ more) (suc at) within lt = within_at entries more at within.1 (omega arith)

pub within_behind : (entries : List Entry) (front back : List ℕ) → AllWithin entries (front ++ back) → AllWithin entries back
within_behind entries [] back within = within
within_behind entries (p ∷ front) back within = within_behind entries front back within.1

pub within_drop : (entries : List Entry) (places : List ℕ) (n : ℕ) → AllWithin entries places → AllWithin entries (drop n places)
within_drop entries [] zero within = tt
within_drop entries [] (suc n) within = tt
within_drop entries (p ∷ more) zero within = within
within_drop entries (p ∷ more) (suc n) within = within_drop entries more n within.1

pub within_more : (entries others : List Entry) (places : List ℕ) → length entries ≤ length others → AllWithin entries places → AllWithin others places
within_more entries others [] le within = tt
within_more entries others (p ∷ more) le within = (omega (arith, within.0), within_more entries others more le within.1)

pub within_insert : (entries : List Entry) (places : List ℕ) (at p : ℕ) → p < length entries → AllWithin entries places → AllWithin entries (insert places at p)
within_insert entries [] zero p lt within = (lt, tt)
within_insert entries [] (suc at) p lt within = (lt, tt)
within_insert entries (q ∷ more) zero p lt within = (lt, within)
within_insert entries (q ∷ more) (suc at) p lt within = (within.0, within_insert entries more at p lt within.1)

-- ---- a new entry behind the others, at its place in the order

map_insert : (f : ℕ → Entry) (places : List ℕ) (at p : ℕ) → map f (insert places at p) ≡ insert (map f places) at (f p)
map_insert f [] zero p = refl
map_insert f [] (suc at) p = refl
map_insert f (q ∷ more) zero p = refl
map_insert f (q ∷ more) (suc at) p = ap (λ (es : List Entry). f q ∷ es) (map_insert f more at p)

in_order_more : (entries : List Entry) (entry : Entry) (places : List ℕ) → AllWithin entries places → in_order (entries ++ entry ∷ []) places ≡ in_order entries places
in_order_more entries entry [] within = refl
in_order_more entries entry (p ∷ more) within =
    ap (λ (e : Entry). e ∷ in_order (entries ++ entry ∷ []) more) (get_or_append_left entries (entry ∷ []) (record { key = []; value = None }) p within.0)
    ∙ ap (λ (es : List Entry). entry_at entries p ∷ es) (in_order_more entries entry more within.1)

pub in_order_insert : (entries : List Entry) (entry : Entry) (places : List ℕ) (at : ℕ) → AllWithin entries places
    → in_order (entries ++ entry ∷ []) (insert places at (length entries)) ≡ insert (in_order entries places) at entry
in_order_insert entries entry places at within =
    map_insert (entry_at (entries ++ entry ∷ [])) places at (length entries)
    ∙ ap (λ (e : Entry). insert (in_order (entries ++ entry ∷ []) places) at e) (get_or-append_seam entries entry [] (record { key = []; value = None }))
    ∙ ap (λ (es : List Entry). insert es at entry) (in_order_more entries entry places within)

-- ---- a new entry in the place of an older one

apart : (entries : List Entry) (p q : ℕ) → byte_order (entry_at entries p).key (entry_at entries q).key ≡ Less → p ≢ q
apart entries p q less same =
    let equal = order_same (entry_at entries p).key (entry_at entries q).key (ap (λ (n : ℕ). (entry_at entries n).key) same) in
    let both : Less ≡ Equal = sym less ∙ equal in cc

in_order_apart : (entries : List Entry) (entry : Entry) (p : ℕ) (places : List ℕ) → AllByRecursion (ComesBehind (entry_at entries p).key) (in_order entries places)
    → in_order (set entries p entry) places ≡ in_order entries places
in_order_apart entries entry p [] above = refl
in_order_apart entries entry p (q ∷ more) above =
    ap (λ (e : Entry). e ∷ in_order (set entries p entry) more) (get_or-set_other entries p q entry (record { key = []; value = None }) (λ same. apart entries p q above.0 (sym same)))
    ∙ ap (λ (es : List Entry). entry_at entries q ∷ es) (in_order_apart entries entry p more above.1)

pub in_order_set : (entries : List Entry) (entry : Entry) (places : List ℕ) (at : ℕ) → KeysRise (in_order entries places) → AllWithin entries places → at < length places
    → in_order (set entries (get_or places at 0) entry) places ≡ set (in_order entries places) at entry
in_order_set entries entry [] at rises within lt = absurd (omega arith)
in_order_set entries entry (p ∷ more) zero rises within lt =
    ap (λ (e : Entry). e ∷ in_order (set entries p entry) more) (get_or-set_same entries p entry (record { key = []; value = None }) within.0)
    ∙ ap (λ (es : List Entry). entry ∷ es) (in_order_apart entries entry p more rises.0)
in_order_set entries entry (q ∷ more) (suc at) rises within lt =
    let d = entry_at entries 0 in
    let inside : at < length more = omega arith in
    let p = get_or more at 0 in
    let above = subst (λ (e : Entry). byte_order (entry_at entries q).key e.key ≡ Less) (get_or-map (entry_at entries) more at 0 d inside)
    (above_at (entry_at entries q).key (in_order entries more) at d rises.0 (omega (arith, length-map more (entry_at entries)))) in
    ap (λ (e : Entry). e ∷ in_order (set entries p entry) more) (get_or-set_other entries p q entry (record { key = []; value = None }) (apart entries q p above))
    ∙ ap (λ (es : List Entry). entry_at entries q ∷ es) (in_order_set entries entry more at rises.1 within.1 inside)

-- ---- what a cursor has left

abbrev pub IsLeft : List Entry → List ℕ → List (ArrayVec ℕ) → Type 0
IsLeft entries here behind = AllWithin entries (here ++ flat behind) × NoneEmpty behind

pub left_next : (entries : List Entry) (here rest : List ℕ) (p : ℕ) (behind : List (ArrayVec ℕ)) → here ≡ p ∷ rest → IsLeft entries here behind → IsLeft entries rest behind
left_next entries here rest p behind is left = let whole = subst (λ (ps : List ℕ). AllWithin entries (ps ++ flat behind)) is left.0 in (whole.1, left.1)

pub left_chunk : (entries : List Entry) (here places : List ℕ) (behind rest : List (ArrayVec ℕ)) (x : ArrayVec ℕ) → behind ≡ x ∷ rest → places ≡ x.items
    → IsLeft entries here behind → IsLeft entries places rest
left_chunk entries here places behind rest x is same left =
    let whole = subst (λ (chunks : List (ArrayVec ℕ)). AllWithin entries (flat chunks)) is (within_behind entries here (flat behind) left.0) in
    let some = subst NoneEmpty is left.1 in
    (subst (λ (ps : List ℕ). AllWithin entries (ps ++ flat rest)) (sym same) whole, some.1)
