-- Lines of pairs, and what a builder makes of them.
use Rattle.std.proofs.Common.{◌≡◌, ◌⊎◌, ◌≤◌, ◌<◌, ◌+◌, ◌∙◌, ◌++◌, inl, inr, refl, sym, ap, subst, arith, ℕ, Bool, true, false, cond, not, List, [], ◌∷◌, length, length-append}
use Rattle.std.specs.Prelude.{Option, Some, None, Result, Ok, Err, nat_le, nat_lt, ◌==◌}
use Rattle.std.specs.List.{slice_split}
use Rattle.std.proofs.lemmas.Bool.{cases_lt, le-leb, le-ltb, lt-leb, lt-ltb}
use Rattle.std.proofs.lemmas.List.Sums.{fold-append}
use Rattle.fst_map.specs.Adding.{add_fault, is_above}
use Rattle.fst_map.specs.declared.error.AddError.{AddError}
use Rattle.fst_map.specs.declared.error.AddError.TheVariants as add
use Rattle.disk_trait.specs.World.{World}
use Rattle.fst_run.specs.Refusing.{IsRefusal, IsRefusalText, RefusalCause, said_status, said_text}
use Rattle.fst_run.specs.declared.pair_lines.LineRefusal.{LineRefusal}
use Rattle.fst_run.specs.declared.pair_lines.LineRefusal.TheVariants as refusal
use Rattle.key_base.specs.Limits.{is_no_key_length}
use Rattle.lines_in.specs.Causes.{SayFailed}
use Rattle.lines_in.specs.Unserved.{LastLine}
use Rattle.lines_in.specs.Holding.{PendingLine}
use Rattle.map_model.specs.SortedMap.{Bytes, Map}
use Rattle.outside.specs.Streams.{SaysPrefix}
use Rattle.map_run_model.specs.PairLines.{BadAt, Refusal, TooMany, is_above_last, pair_in, pair_of, pairs_of, with_line, with_pair, within_limits}

-- ---- lines

too_long : (line : Bytes) → 2100000 < length line → pair_in line ≡ Err 1
too_long line long = ap (λ (t : Bool). cond t (pair_of (slice_split (λ b. b == 32) line)) (Err 1)) (lt-leb (length line) 2100000 long)

-- too long a line says the same however long it is
pub pair_held : (whole kept : Bytes) → PendingLine 2100000 whole kept → pair_in kept ≡ pair_in whole
pair_held whole kept held = elim (cases_lt 2100000 (length whole)) [
  | inl long ↦ too_long kept (held.long long) ∙ sym (too_long whole long)
  | inr short ↦ ap pair_in (held.short short)
]

pub pairs_more : (lines : List Bytes) (line : Bytes) (pairs : Map) → pairs_of lines ≡ Ok pairs → pairs_of (lines ++ line ∷ []) ≡ with_pair pairs (pair_in line)
pairs_more lines line pairs is = fold-append with_line (Ok []) lines (line ∷ []) ∙ ap (λ (made : Result Map Refusal). with_line made line) is

-- ---- as many as a map may have

few_by : (pairs : Map) (pair : Bytes × Bytes) (a m : Bool) (new : Map) → nat_le 1000000 (length pairs) ≡ m
    → cond (not a) (Err (BadAt (length pairs + 1) 6)) (cond m (Err TooMany) (Ok (pairs ++ pair ∷ []))) ≡ Ok new → length new ≤ 1000000
few_by pairs pair false m new many is = absurd cc
few_by pairs pair true true new many is = absurd cc
few_by pairs pair true false new many is =
    let same : pairs ++ pair ∷ [] ≡ new = cc in
    elim (cases_lt (length pairs) 1000000) [
      | inl few ↦ omega (arith, few, length-append pairs (pair ∷ []), ap length same)
      | inr full ↦ absurd (let e : true ≡ false = sym (le-leb 1000000 (length pairs) full) ∙ many in cc)
    ]

pub ok_few : (pairs : Map) (read : Result (Bytes × Bytes) ℕ) (new : Map) → with_pair pairs read ≡ Ok new → length new ≤ 1000000
ok_few pairs (Err code) new is = absurd cc
ok_few pairs (Ok pair) new is = few_by pairs pair (is_above_last pairs pair.0) (nat_le 1000000 (length pairs)) new refl is

-- ---- a pair

-- what a builder's answer says of lines
abbrev pub made : Map → Bytes → Bytes → Option AddError → Result Map Refusal
made pairs key value None = Ok (pairs ++ (key, value) ∷ [])
made pairs key value (Some add.Memory) = Err TooMany
made pairs key value (Some (add.Key n)) = Err (BadAt (length pairs + 1) 7)
made pairs key value (Some (add.Value n)) = Err (BadAt (length pairs + 1) 8)
made pairs key value (Some add.Order) = Err (BadAt (length pairs + 1) 6)
made pairs key value (Some add.Many) = Err TooMany

above_same : (pairs : Map) (key : Bytes) → is_above_last pairs key ≡ is_above pairs key
above_same [] key = refl
above_same (pair ∷ []) key = refl
above_same (pair ∷ next ∷ more) key = above_same (next ∷ more) key

many_same : (n : ℕ) → nat_le 1000000 n ≡ nat_lt 999999 n
many_same n = elim (cases_lt 999999 n) [
  | inl many ↦ le-leb 1000000 n (omega (arith, many)) ∙ sym (lt-ltb 999999 n many)
  | inr few ↦ lt-leb 1000000 n (omega (arith, few)) ∙ sym (le-ltb 999999 n few)
]

-- the limits are kept: the order, and how many there are
ordered : (pairs : Map) (key value : Bytes) (a m : Bool)
    → cond (not a) (Err (BadAt (length pairs + 1) 6)) (cond m (Err TooMany) (Ok (pairs ++ (key, value) ∷ []))) ≡ made pairs key value (cond (not a) (Some add.Order) (cond m (Some add.Many) None))
ordered pairs key value true true = refl
ordered pairs key value true false = refl
ordered pairs key value false m = refl

limited : (pairs : Map) (key value : Bytes) (k v : Bool)
    → with_pair pairs (cond k (Err 7) (cond v (Err 8) (Ok (key, value))))
    ≡ made pairs key value (cond k (Some (add.Key (length key))) (cond v (Some (add.Value (length value))) (cond (not (is_above pairs key)) (Some add.Order) (cond (nat_lt 999999 (length pairs)) (Some add.Many) None))))
limited pairs key value true v = refl
limited pairs key value false true = refl
limited pairs key value false false =
    ap (λ (a : Bool). cond (not a) (Err (BadAt (length pairs + 1) 6)) (cond (nat_le 1000000 (length pairs)) (Err TooMany) (Ok (pairs ++ (key, value) ∷ [])))) (above_same pairs key)
    ∙ ap (λ (m : Bool). cond (not (is_above pairs key)) (Err (BadAt (length pairs + 1) 6)) (cond m (Err TooMany) (Ok (pairs ++ (key, value) ∷ [])))) (many_same (length pairs))
    ∙ ordered pairs key value (is_above pairs key) (nat_lt 999999 (length pairs))

-- a pair that is added, or refused, is so by the rules of lines
pub with_added : (pairs : Map) (key value : Bytes) → with_pair pairs (within_limits key value) ≡ made pairs key value (add_fault pairs key value)
with_added pairs key value = limited pairs key value (is_no_key_length (length key)) (nat_lt 65536 (length value))

-- so a line is, whose pair this is
pub with_read : (pairs : Map) (line key value : Bytes) (fault : Option AddError) → pair_in line ≡ within_limits key value → fault ≡ add_fault pairs key value
    → with_pair pairs (pair_in line) ≡ made pairs key value fault
with_read pairs line key value fault read is = ap (with_pair pairs) read ∙ with_added pairs key value ∙ ap (made pairs key value) (sym is)

-- ---- a refusal that is said

refusal_is : (why : LineRefusal) (lines : List Bytes) (line : Bytes) (pairs : Map) → pairs_of lines ≡ Ok pairs → IsRefusal why (pairs_of (lines ++ line ∷ [])) → IsRefusalText lines line (said_status why) (said_text why)
refusal_is refusal.Memory lines line pairs before refused = inr (refl, refl)
refusal_is (refusal.Bad number code) lines line pairs before refused = inl (refl, pairs, before, BadAt number code, refused, refl)
refusal_is refusal.TooMany lines line pairs before refused = inl (refl, pairs, before, TooMany, refused, refl)

-- the last line of a run that a line ends
pub refusal_text_is : (why : LineRefusal) (lines : List Bytes) (line : Bytes) (pairs : Map) → pairs_of lines ≡ Ok pairs → IsRefusal why (pairs_of (lines ++ line ∷ []))
    → (first a b : World) (status : ℕ) → a.beside.said ≡ first.beside.said → (status ≡ said_status why → b.beside.said ≡ a.beside.said ++ said_text why)
    → SaysPrefix (said_text why) a.beside.said b.beside.said → (status ≡ said_status why) ⊎ ((status ≡ 6) × SayFailed a b) → LastLine (IsRefusalText lines line) status first b
refusal_text_is why lines line pairs before refused first a b status same whole prefix ends = (
  said_status why,
  said_text why,
  refusal_is why lines line pairs before refused,
  elim ends [
    | inl all ↦ inl (all, whole all ∙ ap (λ (s : Bytes). s ++ said_text why) same)
    | inr six ↦ inr (six.0, subst (λ (s : Bytes). SaysPrefix (said_text why) s b.beside.said) same prefix)
  ],
)

pub refusal_cause : (why : LineRefusal) (status : ℕ) (a b : World) → (status ≡ said_status why) ⊎ ((status ≡ 6) × SayFailed a b) → RefusalCause status a b
refusal_cause refusal.Memory status a b ends = elim ends [ inl seven ↦ inr (inl seven) | inr six ↦ inr (inr six) ]
refusal_cause (refusal.Bad number code) status a b ends = elim ends [ inl eleven ↦ inl eleven | inr six ↦ inr (inr six) ]
refusal_cause refusal.TooMany status a b ends = elim ends [ inl eleven ↦ inl eleven | inr six ↦ inr (inr six) ]
