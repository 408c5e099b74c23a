-- What came since the last sync that succeeded.
use Rattle.std.proofs.Common.{◌≡◌, ◌≤◌, ◌<◌, ◌+◌, ◌-◌, Bool, true, false, ℕ, zero, suc, List, [], ◌∷◌, length, drop, refl, sym, ap, ◌∙◌, subst, arith, length-drop}
use Rattle.disk_trait.specs.declared.fault.Op.{Op}
use Rattle.disk_trait.specs.declared.fault.Op.TheVariants.{Read, Write, Sync}
use Rattle.disk_mem.specs.Calls.{Call, bytes_after, calls_by, call_at, last_sync, last_sync_by}
use Rattle.disk_mem.specs.Choices.{Pick, crash_bytes, crashed_by, pending, pending_by, picked, pick_at}
use Rattle.disk_mem.proofs.Numbers.{calls_by-next}
use Rattle.disk_mem.proofs.Worlds.{calls_by-earlier, calls_by-now}

by_le : (op : Op) (done : Bool) (count before : ℕ) → before ≤ count → last_sync_by op done count before ≤ count
by_le Sync true count before le = omega arith
by_le Sync false count before le = le
by_le Read done count before le = le
by_le Write done count before le = le

by_more : (op : Op) (done : Bool) (count before : ℕ) → before ≤ count → before ≤ last_sync_by op done count before
by_more Sync true count before le = le
by_more Sync false count before le = omega arith
by_more Read done count before le = omega arith
by_more Write done count before le = omega arith

pub last_sync-le : (calls : List Call) → last_sync calls ≤ length calls
last_sync-le [] = omega arith
last_sync-le (call ∷ earlier) =
    let fewer : last_sync earlier ≤ length earlier + 1 = omega (arith, last_sync-le earlier) in
    omega (arith, by_le call.op call.done (length earlier + 1) (last_sync earlier) fewer)

last_sync-drop : (k : ℕ) (calls : List Call) → last_sync (drop k calls) ≤ last_sync calls
last_sync-drop zero calls = omega arith
last_sync-drop (suc k) [] = omega arith
last_sync-drop (suc k) (call ∷ earlier) =
    let fewer : last_sync earlier ≤ length earlier + 1 = omega (arith, last_sync-le earlier) in
    omega (arith, last_sync-drop k earlier, by_more call.op call.done (length earlier + 1) (last_sync earlier) fewer)

-- a call since then is no sync that succeeded
pub not_synced : (calls : List Call) (number : ℕ) → last_sync calls ≤ number → number < length calls → (call_at calls number).op ≡ Sync → (call_at calls number).done ≡ true → ⊥
not_synced calls number since lt is_sync is_done =
    let below = last_sync-drop (length calls - (number + 1)) calls in
    let next = calls_by-next number calls lt in
    let count : length (calls_by number calls) ≡ number = length-drop (length calls - number) calls ∙ omega (arith, lt) in
    let last : last_sync (calls_by (number + 1) calls) ≡ number + 1 =
    ap last_sync next ∙ (λ i. last_sync_by (is_sync i) (is_done i) (length (calls_by number calls) + 1) (last_sync (calls_by number calls))) ∙ ap (λ (k : ℕ). k + 1) count in
    absurd (omega (arith, below, last, since))

-- after these calls a crash leaves what is read, and no write is pending
abbrev IsSettled : List ℕ → List Pick → List Call → Type 0
IsSettled first picks calls = (crash_bytes first calls picks ≡ bytes_after first calls) × (pending calls ≡ 0)

settled_by : (first : List ℕ) (picks : List Pick) (op : Op) (done : Bool) (at : ℕ) (bytes : List ℕ) (earlier : List Call) (call : Call) → call ≡ record { op = op; at = at; bytes = bytes; done = done }
    → IsSettled first picks (calls_by (last_sync earlier) earlier) → IsSettled first picks (calls_by (last_sync_by op done (length earlier + 1) (last_sync earlier)) (call ∷ earlier))
settled_by first picks Sync true at bytes earlier call is before =
    let last = calls_by-now (length earlier + 1) (call ∷ earlier) (omega arith) ∙ ap (λ (x : Call). x ∷ earlier) is in
    subst (λ (l : List Call). IsSettled first picks l) (sym last) (refl, refl)
settled_by first picks Sync false at bytes earlier call is before = subst (λ (l : List Call). IsSettled first picks l) (sym (calls_by-earlier (last_sync earlier) call earlier (last_sync-le earlier))) before
settled_by first picks Read done at bytes earlier call is before = subst (λ (l : List Call). IsSettled first picks l) (sym (calls_by-earlier (last_sync earlier) call earlier (last_sync-le earlier))) before
settled_by first picks Write done at bytes earlier call is before = subst (λ (l : List Call). IsSettled first picks l) (sym (calls_by-earlier (last_sync earlier) call earlier (last_sync-le earlier))) before

-- so it is at the last sync that succeeded, or at the start
pub settled : (first : List ℕ) (picks : List Pick) (calls : List Call) → IsSettled first picks (calls_by (last_sync calls) calls)
settled first picks [] = (refl, refl)
settled first picks (call ∷ earlier) = settled_by first picks call.op call.done call.at call.bytes earlier call refl (settled first picks earlier)

-- ---- a call since then

pub write_crashed : (first : List ℕ) (picks : List Pick) (calls : List Call) (number : ℕ) → number < length calls → (call_at calls number).op ≡ Write
    → (crash_bytes first (calls_by (number + 1) calls) picks
    ≡ picked (pick_at picks (pending (calls_by number calls))) (call_at calls number).at (call_at calls number).bytes (crash_bytes first (calls_by number calls) picks))
    × (pending (calls_by (number + 1) calls) ≡ pending (calls_by number calls) + 1)
write_crashed first picks calls number lt is =
    let call = call_at calls number in
    let earlier = calls_by number calls in
    let next = calls_by-next number calls lt in (
      ap (λ (l : List Call). crash_bytes first l picks) next ∙ (λ i. crashed_by (is i) call.done call.at call.bytes (bytes_after first earlier) (crash_bytes first earlier picks) (pick_at picks (pending earlier))),
      ap pending next ∙ (λ i. pending_by (is i) call.done (pending earlier)),
    )

other_by : (op : Op) (done : Bool) (at : ℕ) (bytes read was : List ℕ) (pick : Pick) (n : ℕ) → (op ≡ Write → ⊥) → (op ≡ Sync → done ≡ true → ⊥)
    → (crashed_by op done at bytes read was pick ≡ was) × (pending_by op done n ≡ n)
other_by Read done at bytes read was pick n no_write no_sync = (refl, refl)
other_by Write done at bytes read was pick n no_write no_sync = absurd (no_write refl)
other_by Sync true at bytes read was pick n no_write no_sync = absurd (no_sync refl refl)
other_by Sync false at bytes read was pick n no_write no_sync = (refl, refl)

pub other_crashed : (first : List ℕ) (picks : List Pick) (calls : List Call) (number : ℕ) → last_sync calls ≤ number → number < length calls → ((call_at calls number).op ≡ Write → ⊥)
    → (crash_bytes first (calls_by (number + 1) calls) picks ≡ crash_bytes first (calls_by number calls) picks) × (pending (calls_by (number + 1) calls) ≡ pending (calls_by number calls))
other_crashed first picks calls number since lt no_write =
    let call = call_at calls number in
    let earlier = calls_by number calls in
    let next = calls_by-next number calls lt in
    let same = other_by call.op call.done call.at call.bytes (bytes_after first earlier) (crash_bytes first earlier picks) (pick_at picks (pending earlier)) (pending earlier) no_write (not_synced calls number since lt) in
    (ap (λ (l : List Call). crash_bytes first l picks) next ∙ same.0, ap pending next ∙ same.1)
