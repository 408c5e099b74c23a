-- Lines that put pairs are read as these puts, and make their map.
use Rattle.std.proofs.Common.{◌≡◌, ◌∙◌, ◌≤◌, ◌+◌, ◌*◌, ◌/◌, ◌%◌, ◌++◌, [], ◌∷◌, ℕ, List, Bool, true, false, arith, ap, ap₂, append_assoc, cond, drop, get_or, inl, inr, length, length-append, map, refl, subst, sym, suc, zero}
use Rattle.std.specs.Prelude.{◌==◌, All, Ok, Some, bytes_eq, codes, flat_map}
use Rattle.std.specs.List.{AllByRecursion, slice_split}
use Rattle.std.specs.Ordering.{ordering_reverse}
use Rattle.std.specs.Cmp.Lexicographic.{nat_list_cmp_total}
use Rattle.std.specs.declared.cmp.Ordering.{Ordering}
use Rattle.std.specs.declared.cmp.Ordering.TheVariants.{Less}
use Rattle.std.proofs.lemmas.Bool.{le-leb}
use Rattle.std.proofs.lemmas.List.{append-nil}
use Rattle.std.proofs.lemmas.List.Elements.{All-append, All-from_recursion}
use Rattle.std.proofs.lemmas.List.Splits.{slice_split_at, slice_split_none}
use Rattle.std.proofs.lemmas.Slice.Eq.{bytes_eq-Decides}
use Rattle.hex.specs.Hex.{IsBytes, decode_of, encode_lower, encode_with, lower_digits}
use Rattle.hex.proofs.HexLemmas.{decode_of-encode_lower, length-encode_with}
use Rattle.line_model.specs.Lines.{bytes_in, counted, lines_of, some_bytes}
use Rattle.line_model.specs.Replies.{About, At, BadLine, Bye, Counted, Damaged, Device, Done, End, Explained, Full, LastEpoch, LongKey, LongValue, ManyTables, Memory, Missing, Pairs, Reply, Value, text_of, word_of}
use Rattle.line_model.specs.Requests.{Bad, Put, Request, asked_by, request_of, with_two}
use Rattle.map_model.specs.SortedMap.{Bytes, Map, Rises, byte_order, in_place, put}
use Rattle.state_model.specs.Laws.{map_behind}
use Rattle.store_commands.specs.Puts.{puts_text}
use Rattle.surf_run.specs.Copies.{DumpsAreCopies, IsPair}
use Rattle.surf_run.specs.OneMap.{IsMapReply, IsRefusal, MapDialogue}

-- ---- no word has a newline, a space or, but for that of no bytes, a dash

module _ (c : ℕ) (digits : AllByRecursion (λ x. (x == c) ≡ false) lower_digits) (none : (0 == c) ≡ false) where
  other_at : (t : List ℕ) (i : ℕ) → AllByRecursion (λ x. (x == c) ≡ false) t → (get_or t i 0 == c) ≡ false
  other_at [] i each = none
  other_at (x ∷ t) zero each = each.0
  other_at (x ∷ t) (suc i) each = other_at t i each.1

  other_hex : (bytes : Bytes) → AllByRecursion (λ x. (x == c) ≡ false) (encode_lower bytes)
  unfolding encode_with
  other_hex [] = tt
  other_hex (b ∷ bytes) = (other_at lower_digits (b / 16) digits, (other_at lower_digits (b % 16) digits, other_hex bytes))

  other_word : (bytes : Bytes) → (45 == c) ≡ false → All (λ x. (x == c) ≡ false) (word_of bytes)
  other_word [] dash = All-from_recursion (λ x. (x == c) ≡ false) (45 ∷ []) (dash, tt)
  other_word (b ∷ bytes) dash = All-from_recursion (λ x. (x == c) ≡ false) (encode_lower (b ∷ bytes)) (other_hex (b ∷ bytes))

abbrev digits_differ : (c : ℕ) → Type 0
digits_differ c = AllByRecursion (λ x. (x == c) ≡ false) lower_digits

no_newline : (bytes : Bytes) → All (λ x. (x == 10) ≡ false) (word_of bytes)
no_newline bytes = other_word 10 (refl, (refl, (refl, (refl, (refl, (refl, (refl, (refl, (refl, (refl, (refl, (refl, (refl, (refl, (refl, (refl, tt)))))))))))))))) refl bytes refl

no_space : (bytes : Bytes) → All (λ x. (x == 32) ≡ false) (word_of bytes)
no_space bytes = other_word 32 (refl, (refl, (refl, (refl, (refl, (refl, (refl, (refl, (refl, (refl, (refl, (refl, (refl, (refl, (refl, (refl, tt)))))))))))))))) refl bytes refl

-- ---- a word says its bytes

not_so : (t : Bool) → (t ≡ true → ⊥) → t ≡ false
not_so true never = absurd (never refl)
not_so false never = refl

no_dash : (b : ℕ) (bytes : Bytes) → bytes_eq (encode_lower (b ∷ bytes)) (codes "-") ≡ false
no_dash b bytes =
    not_so (bytes_eq (encode_lower (b ∷ bytes)) (codes "-"))
    (λ same. let long = length-encode_with lower_digits (b ∷ bytes) in let short = ap length ((bytes_eq-Decides (encode_lower (b ∷ bytes)) (codes "-")).0 same) in omega (arith, long, short))

some_there : (b : ℕ) (bytes said : Bytes) → some_bytes (encode_lower (b ∷ bytes)) (Ok said) ≡ Some said
unfolding encode_with
some_there b bytes said = refl

word_says : (bytes : Bytes) → IsBytes bytes → bytes_in (word_of bytes) ≡ Some bytes
word_says [] is = refl
word_says (b ∷ bytes) is =
    let word = encode_lower (b ∷ bytes) in
    ap (λ (t : Bool). cond t (Some []) (some_bytes word (decode_of word))) (no_dash b bytes) ∙ ap (some_bytes word) (decode_of-encode_lower (b ∷ bytes) is) ∙ some_there b bytes (b ∷ bytes)

-- ---- lines

abbrev pub line_of : Bytes × Bytes → Bytes
line_of pair = codes "put " ++ word_of pair.0 ++ codes " " ++ word_of pair.1

line_has_no_newline : (pair : Bytes × Bytes) → All (λ x. (x == 10) ≡ false) (line_of pair)
line_has_no_newline pair =
    let Other : ℕ → Type 0 = λ x. (x == 10) ≡ false in
    All-append Other (codes "put " ++ word_of pair.0 ++ codes " ") (word_of pair.1)
    (All-append Other (codes "put " ++ word_of pair.0) (codes " ") (All-append Other (codes "put ") (word_of pair.0) (All-from_recursion Other (codes "put ") (refl, (refl, (refl, (refl, tt))))) (no_newline pair.0)) (All-from_recursion Other (codes " ") (refl, tt))) (no_newline pair.1)

split_puts : (m : Map) → slice_split (λ b. b == 10) (puts_text m) ≡ map (λ (pair : Bytes × Bytes). line_of pair) m ++ [] ∷ []
split_puts [] = slice_split_none (λ b. b == 10) [] (All-from_recursion (λ x. (x == 10) ≡ false) [] tt)
split_puts (pair ∷ m) =
    ap (slice_split (λ b. b == 10)) (append_assoc (line_of pair) (10 ∷ []) (puts_text m)) ∙ slice_split_at (λ b. b == 10) (line_of pair) 10 (puts_text m) (line_has_no_newline pair) refl
    ∙ ap (λ (lines : List Bytes). line_of pair ∷ lines) (split_puts m)

all_counted : (lines : List Bytes) → counted (lines ++ [] ∷ []) ≡ lines
all_counted [] = refl
all_counted ([] ∷ []) = refl
all_counted ((b ∷ line) ∷ []) = refl
all_counted ([] ∷ next ∷ lines) = ap (λ (more : List Bytes). [] ∷ more) (all_counted (next ∷ lines))
all_counted ((b ∷ line) ∷ next ∷ lines) = ap (λ (more : List Bytes). (b ∷ line) ∷ more) (all_counted (next ∷ lines))

pub lines_put : (m : Map) → lines_of (puts_text m) ≡ map (λ (pair : Bytes × Bytes). line_of pair) m
lines_put m = ap counted (split_puts m) ∙ all_counted (map (λ (pair : Bytes × Bytes). line_of pair) m)

-- ---- what they ask

word_size : (bytes : Bytes) → length (word_of bytes) ≤ 1 + 2 * length bytes
word_size [] = omega arith
word_size (b ∷ bytes) = omega (arith, length-encode_with lower_digits (b ∷ bytes))

line_size : (pair : Bytes × Bytes) → IsPair pair → length (line_of pair) ≤ 2100000
line_size pair is =
    omega (
      arith,
      length-append (codes "put " ++ word_of pair.0 ++ codes " ") (word_of pair.1),
      length-append (codes "put " ++ word_of pair.0) (codes " "),
      length-append (codes "put ") (word_of pair.0),
      word_size pair.0,
      word_size pair.1,
      is.short_key,
      is.short_value,
    )

line_words : (pair : Bytes × Bytes) → slice_split (λ b. b == 32) (line_of pair) ≡ codes "put" ∷ word_of pair.0 ∷ word_of pair.1 ∷ []
line_words pair =
    let key = word_of pair.0 in
    let value = word_of pair.1 in
    let Other : ℕ → Type 0 = λ x. (x == 32) ≡ false in
    ap (λ (rest : Bytes). slice_split (λ b. b == 32) (codes "put " ++ rest)) (append_assoc key (codes " ") value)
    ∙ slice_split_at (λ b. b == 32) (codes "put") 32 (key ++ 32 ∷ value) (All-from_recursion Other (codes "put") (refl, (refl, (refl, tt)))) refl
    ∙ ap (λ (words : List Bytes). codes "put" ∷ words) (slice_split_at (λ b. b == 32) key 32 value (no_space pair.0) refl ∙ ap (λ (words : List Bytes). key ∷ words) (slice_split_none (λ b. b == 32) value (no_space pair.1)))

pub line_asks : (pair : Bytes × Bytes) → IsPair pair → request_of (line_of pair) ≡ Put pair.0 pair.1
line_asks pair is =
    ap (λ (t : Bool). cond t (asked_by (slice_split (λ b. b == 32) (line_of pair))) (Bad 1)) (le-leb (length (line_of pair)) 2100000 (line_size pair is)) ∙ ap asked_by (line_words pair)
    ∙ ap₂ (with_two Put) (word_says pair.0 is.key_bytes) (word_says pair.1 is.value_bytes)

all_ask : (m : Map) → AllByRecursion IsPair m → map (λ line. request_of line) (map (λ (pair : Bytes × Bytes). line_of pair) m) ≡ map (λ (pair : Bytes × Bytes). Put pair.0 pair.1) m
all_ask [] each = refl
all_ask (pair ∷ m) each = ap₂ (λ (r : Request) (rs : List Request). r ∷ rs) (line_asks pair each.0) (all_ask m each.1)

pub puts_are_read : (m : Map) → AllByRecursion IsPair m → map (λ line. request_of line) (lines_of (puts_text m)) ≡ map (λ (pair : Bytes × Bytes). Put pair.0 pair.1) m
puts_are_read m each = ap (map (λ line. request_of line)) (lines_put m) ∙ all_ask m each

-- ---- the map that they make

first_less : (first : Bytes × Bytes) (before : Map) (pair : Bytes × Bytes) (after : Map) → Rises (first ∷ (before ++ pair ∷ after)) → byte_order first.0 pair.0 ≡ Less
first_less first [] pair after rises = rises.0
first_less first (next ∷ before) pair after rises = nat_list_cmp_total.trans first.0 next.0 pair.0 rises.0 (first_less next before pair after rises.1)

later_rise : (first : Bytes × Bytes) (before : Map) (pair : Bytes × Bytes) (after : Map) → Rises (first ∷ (before ++ pair ∷ after)) → Rises (before ++ pair ∷ after)
later_rise first [] pair after rises = rises.1
later_rise first (next ∷ before) pair after rises = rises.1

-- a key above all others goes last
pub put_last : (before : Map) (pair : Bytes × Bytes) (after : Map) → Rises (before ++ pair ∷ after) → put before pair.0 pair.1 ≡ before ++ pair ∷ []
put_last [] pair after rises = refl
put_last (first ∷ before) pair after rises =
    ap (λ (o : Ordering). in_place o (pair.0, pair.1) first before (put before pair.0 pair.1)) (nat_list_cmp_total.antisymm pair.0 first.0 ∙ ap ordering_reverse (first_less first before pair after rises))
    ∙ ap (λ (more : Map). first ∷ more) (put_last before pair after (later_rise first before pair after rises))

-- each line is done, and the next pair is there
copied : (before m : Map) → Rises (before ++ m) → AllByRecursion IsPair m
    → MapDialogue before (map (λ (pair : Bytes × Bytes). line_of pair) m) (flat_map (λ (pair : Bytes × Bytes). text_of Done) m) (before ++ m)
copied before [] rises each = (refl, append-nil before)
copied before (pair ∷ m) rises each =
    let asks = line_asks pair each.0 in
    let whole : (before ++ pair ∷ []) ++ m ≡ before ++ pair ∷ m = append_assoc before (pair ∷ []) m in
    let now : before ++ pair ∷ [] ≡ map_behind (request_of (line_of pair)) Done before = sym (ap (λ (r : Request). map_behind r Done before) asks ∙ put_last before pair m rises) in
    let later = copied (before ++ pair ∷ []) m (subst Rises (sym whole) rises) each.1 in (
      Done,
      flat_map (λ (pair : Bytes × Bytes). text_of Done) m,
      refl,
      inl (subst (λ (r : Request). IsMapReply before r Done) (sym asks) refl),
      subst (λ (last : Map). MapDialogue (map_behind (request_of (line_of pair)) Done before) (map (λ (pair : Bytes × Bytes). line_of pair) m) (flat_map (λ (pair : Bytes × Bytes). text_of Done) m) last) whole
          (subst (λ (b : Map). MapDialogue b (map (λ (pair : Bytes × Bytes). line_of pair) m) (flat_map (λ (pair : Bytes × Bytes). text_of Done) m) ((before ++ pair ∷ []) ++ m)) now later),
    )

-- ---- no other map comes of it

other_108 : ◌≡◌ {A = ℕ} 111 108 → ⊥
other_108 e = omega (arith, e)

other_102 : ◌≡◌ {A = ℕ} 111 102 → ⊥
other_102 e = omega (arith, e)

other_109 : ◌≡◌ {A = ℕ} 111 109 → ⊥
other_109 e = omega (arith, e)

-- what refuses a line begins with another byte than what is done
not_refused : (reply : Reply) → IsRefusal reply → (a b : Bytes) → text_of Done ++ a ≡ text_of reply ++ b → ⊥
not_refused Done is a b e = elim is [ inl never ↦ cc | inr never ↦ cc ]
not_refused (Value value) is a b e = elim is [ inl never ↦ cc | inr never ↦ cc ]
not_refused Missing is a b e = elim is [ inl never ↦ cc | inr never ↦ cc ]
not_refused (At key value) is a b e = elim is [ inl never ↦ cc | inr never ↦ cc ]
not_refused (Pairs found last) is a b e = elim is [ inl never ↦ cc | inr never ↦ cc ]
not_refused (End count) is a b e = elim is [ inl never ↦ cc | inr never ↦ cc ]
not_refused (Counted count) is a b e = elim is [ inl never ↦ cc | inr never ↦ cc ]
not_refused (About count) is a b e = elim is [ inl never ↦ cc | inr never ↦ cc ]
not_refused (Explained tables admitted blocks) is a b e = elim is [ inl never ↦ cc | inr never ↦ cc ]
not_refused Bye is a b e = elim is [ inl never ↦ cc | inr never ↦ cc ]
not_refused (BadLine code) is a b e = elim is [ inl never ↦ cc | inr never ↦ cc ]
not_refused (LongKey size) is a b e = other_108 (ap (λ (t : Bytes). get_or t 0 0) e)
not_refused (LongValue size) is a b e = other_108 (ap (λ (t : Bytes). get_or t 0 0) e)
not_refused ManyTables is a b e = other_108 (ap (λ (t : Bytes). get_or t 0 0) e)
not_refused LastEpoch is a b e = other_108 (ap (λ (t : Bytes). get_or t 0 0) e)
not_refused (Full need gap) is a b e = other_102 (ap (λ (t : Bytes). get_or t 0 0) e)
not_refused Memory is a b e = other_109 (ap (λ (t : Bytes). get_or t 0 0) e)
not_refused Device is a b e = elim is [ inl never ↦ cc | inr never ↦ cc ]
not_refused (Damaged damage) is a b e = elim is [ inl never ↦ cc | inr never ↦ cc ]

copied_only : (before m : Map) → Rises (before ++ m) → AllByRecursion IsPair m → (last : Map)
    → MapDialogue before (map (λ (pair : Bytes × Bytes). line_of pair) m) (flat_map (λ (pair : Bytes × Bytes). text_of Done) m) last → last ≡ before ++ m
copied_only before [] rises each last dialogue = dialogue.1 ∙ sym (append-nil before)
copied_only before (pair ∷ m) rises each last dialogue =
    let reply = dialogue.0 in
    let rest = dialogue.1 in
    let asks = line_asks pair each.0 in
    let done : reply ≡ Done = elim dialogue.3 [
      | inl is ↦ subst (λ (r : Request). IsMapReply before r reply) asks is
      | inr refused ↦ absurd (not_refused reply refused (flat_map (λ (pair : Bytes × Bytes). text_of Done) m) rest dialogue.2)
    ] in
    let rest_is : flat_map (λ (pair : Bytes × Bytes). text_of Done) m ≡ rest = ap (drop 3) (dialogue.2 ∙ ap (λ (r : Reply). text_of r ++ rest) done) in
    let now : map_behind (request_of (line_of pair)) reply before ≡ before ++ pair ∷ [] = ap₂ (λ (q : Request) (r : Reply). map_behind q r before) asks done ∙ put_last before pair m rises in
    let whole : (before ++ pair ∷ []) ++ m ≡ before ++ pair ∷ m = append_assoc before (pair ∷ []) m in
    copied_only (before ++ pair ∷ []) m (subst Rises (sym whole) rises) each.1 last
    (subst (λ (t : Bytes). MapDialogue (before ++ pair ∷ []) (map (λ (pair : Bytes × Bytes). line_of pair) m) t last) (sym rest_is)
    (subst (λ (b : Map). MapDialogue b (map (λ (pair : Bytes × Bytes). line_of pair) m) rest last) now dialogue.4))
    ∙ whole

pub dumps_are_copies : DumpsAreCopies
dumps_are_copies m rises each = record {
  requests = puts_are_read m each;
  replies = subst (λ (lines : List Bytes). MapDialogue [] lines (flat_map (λ (pair : Bytes × Bytes). text_of Done) m) m) (sym (lines_put m)) (copied [] m rises each);
  only = λ last dialogue. copied_only [] m rises each last (subst (λ (lines : List Bytes). MapDialogue [] lines (flat_map (λ (pair : Bytes × Bytes). text_of Done) m) last) (lines_put m) dialogue);
}
