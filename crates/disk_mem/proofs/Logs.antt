-- What a log shows as calls are added, and as they are looked at.
use Rattle.std.proofs.Common.{◌≡◌, ◌≤◌, ◌<◌, ◌+◌, ◌-◌, Bool, ℕ, suc, List, [], ◌∷◌, ◌++◌, length, take, drop, get_or, map, reverse, refl, sym, ap, ◌∙◌, subst, arith, length-drop, ◌^◌}
use Rattle.std.proofs.Math.Seq.{drop-append_seam, take-length}
use Rattle.std.proofs.lemmas.List.{get_or-reverse, get_or-map, map-append, reverse-append, length-map, length-reverse, take-append-le, drop-append-le, length-take-le}
use Rattle.disk_trait.specs.declared.fault.Op.{Op}
use Rattle.disk_mem.specs.declared.call_log.CallRow.{CallRow}
use Rattle.disk_mem.specs.Calls.{Call, call_at, no_call}
use Rattle.disk_mem.specs.Kept.{call_of, calls_of, IsKept, AreKept}

-- the bytes of a range that a row has stand there in a longer row too
range_more : (moved more : List ℕ) (from len : ℕ) → from + len ≤ length moved → take (from + len - from) (drop from (moved ++ more)) ≡ take (from + len - from) (drop from moved)
range_more moved more from len within =
    let cut : drop from (moved ++ more) ≡ drop from moved ++ more = drop-append-le from moved more (omega (arith, within)) in
    let size : length (drop from moved) ≡ length moved - from = length-drop from moved in
    ap (λ (l : List ℕ). take (from + len - from) l) cut ∙ take-append-le (from + len - from) (drop from moved) more (omega (arith, within, size))

call_more : (moved more : List ℕ) (e : CallRow) → e.from + e.len ≤ length moved → call_of (moved ++ more) e ≡ call_of moved e
call_more moved more e within =
    let bytes = range_more moved more e.from e.len within in
    ap (λ (l : List ℕ). record { op = e.op; at = e.at; bytes = l; done = e.done }) bytes

calls_more : (moved more : List ℕ) (entries : List CallRow) → AreKept moved entries → map (call_of (moved ++ more)) entries ≡ map (call_of moved) entries
calls_more moved more [] within = refl
calls_more moved more (e ∷ entries) within =
    λ i. call_more moved more e (within 0 e (omega arith)).within i ∷ calls_more moved more entries (λ k d lt. within (suc k) d (omega (arith, lt))) i

-- the bytes at the end of a row
last_range : (moved bytes : List ℕ) → take (length moved + length bytes - length moved) (drop (length moved) (moved ++ bytes)) ≡ bytes
last_range moved bytes =
    let size : length moved + length bytes - length moved ≡ length bytes = omega arith in
    ap (λ (l : List ℕ). take (length moved + length bytes - length moved) l) (drop-append_seam moved bytes) ∙ ap (λ (n : ℕ). take n bytes) size ∙ take-length bytes

-- a call more
pub calls-added : (moved bytes : List ℕ) (entries : List CallRow) (op : Op) (at from : ℕ) (done : Bool) → AreKept moved entries → from ≡ length moved
    → calls_of (moved ++ bytes) (entries ++ record { op = op; at = at; from = from; len = length bytes; done = done } ∷ [])
    ≡ record { op = op; at = at; bytes = bytes; done = done } ∷ calls_of moved entries
calls-added moved bytes entries op at from done within is =
    let e : CallRow = record { op = op; at = at; from = from; len = length bytes; done = done } in
    let there : take (from + length bytes - from) (drop from (moved ++ bytes)) ≡ bytes = rw is (last_range moved bytes) in
    let one : call_of (moved ++ bytes) e ≡ record { op = op; at = at; bytes = bytes; done = done } = ap (λ (l : List ℕ). record { op = op; at = at; bytes = l; done = done }) there in
    ap reverse (map-append (call_of (moved ++ bytes)) entries (e ∷ [])) ∙ reverse-append (map (call_of (moved ++ bytes)) entries) (call_of (moved ++ bytes) e ∷ [])
    ∙ (λ i. one i ∷ reverse (calls_more moved bytes entries within i))

pub length-calls_of : (moved : List ℕ) (entries : List CallRow) → length (calls_of moved entries) ≡ length entries
length-calls_of moved entries = length-reverse (map (call_of moved) entries) ∙ length-map entries (call_of moved)

-- the call of a number
call_at-calls : (moved : List ℕ) (entries : List CallRow) (number : ℕ) (e : CallRow) → number < length entries → call_at (calls_of moved entries) number ≡ call_of moved (get_or entries number e)
call_at-calls moved entries number e lt =
    let row = map (call_of moved) entries in
    let size : length row ≡ length entries = length-map entries (call_of moved) in
    let turned : length (reverse row) ≡ length row = length-reverse row in
    let place : length (reverse row) - (number + 1) < length row = omega (arith, size, turned, lt) in
    let there : length row - 1 - (length (reverse row) - (number + 1)) ≡ number = omega (arith, size, turned, lt) in
    get_or-reverse row (length (reverse row) - (number + 1)) no_call place ∙ ap (λ (k : ℕ). get_or row k no_call) there ∙ get_or-map (call_of moved) entries number e no_call lt

-- an entry that was looked at is the call of its number
pub seen_at : (moved : List ℕ) (entries : List CallRow) (calls : List Call) (number : ℕ) (e : CallRow) → calls_of moved entries ≡ calls → number < length calls → e ≡ get_or entries number e
    → call_of moved e ≡ call_at calls number
seen_at moved entries calls number e shown lt is =
    let size : length calls ≡ length entries = sym (ap length shown) ∙ length-calls_of moved entries in
    ap (call_of moved) is ∙ sym (call_at-calls moved entries number e (omega (arith, size, lt))) ∙ ap (λ (l : List Call). call_at l number) shown

-- and its range is one of a disk
pub seen_in_range : (moved : List ℕ) (entries : List CallRow) (calls : List Call) (number : ℕ) (e : CallRow) → calls_of moved entries ≡ calls → number < length calls → e ≡ get_or entries number e
    → AreKept moved entries → (call_at calls number).at + length (take (e.from + e.len - e.from) (drop e.from moved)) ≤ 2 ^ 48
seen_in_range moved entries calls number e shown lt is kept =
    let size : length calls ≡ length entries = sym (ap length shown) ∙ length-calls_of moved entries in
    let one : IsKept moved e = subst (λ (x : CallRow). IsKept moved x) (sym is) (kept number e (omega (arith, size, lt))) in
    let place : e.at ≡ (call_at calls number).at = ap (λ (call : Call). call.at) (seen_at moved entries calls number e shown lt is) in
    let cut = length-take-le (e.from + e.len - e.from) (drop e.from moved) (omega (arith, one.within, length-drop e.from moved)) in
    omega (arith, one.in_range, place, cut)
