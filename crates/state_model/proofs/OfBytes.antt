-- What a line says of keys, values and bounds is bytes.
use Rattle.std.proofs.Common.{◌≡◌, ℕ, List, [], ◌∷◌, length, refl, Bool, true, false, cond, arith}
use Rattle.std.specs.Prelude.{Option, Some, None, Result, Ok, Err, nat_le, ◌==◌, bytes_eq, codes}
use Rattle.std.specs.List.{slice_split}
use Rattle.byte_fields.specs.Spelling.{IsBytes}
use Rattle.hex.specs.Hex.{decode_of}
use Rattle.hex.specs.declared.error.FromHexError.{FromHexError}
use Rattle.hex.proofs.HexLemmas.{decode_of-ok}
use Rattle.map_model.specs.SortedMap.{Bytes}
use Rattle.line_model.specs.Lines.{bytes_in, some_bytes}
use Rattle.line_model.specs.Requests.{Request, Put, Del, Get, Seek, Range, Count, Estimate, Explain, Flush, Compact, Quit, Bad, with_one, with_two, with_number, number_in, none_of, one_of, two_of, seek_of, range_of, asked_by, request_of}
use Rattle.state_model.specs.SoundLaws.{AsksOfBytes, SpeaksBytes}

abbrev IfBytes : Option Bytes → Type 0
IfBytes None = Unit {0}
IfBytes (Some bytes) = IsBytes bytes

no_bytes : IsBytes []
no_bytes i = omega arith

decoded : (word : Bytes) (done : Result Bytes FromHexError) → decode_of word ≡ done → IfBytes (some_bytes word done)
decoded [] done e = tt
decoded (c ∷ word) (Err fault) e = tt
decoded (c ∷ word) (Ok bytes) e = (decode_of-ok (c ∷ word) bytes e).3

word_of_bytes : (word : Bytes) → IfBytes (bytes_in word)
word_of_bytes word = elim (bytes_eq word (codes "-")) as (λ b. IfBytes (cond b (Some []) (some_bytes word (decode_of word)))) [ true ↦ no_bytes | false ↦ decoded word (decode_of word) refl ]

one_asks : (asks : Bytes → Request) (words : List Bytes) → ((key : Bytes) → IsBytes key → SpeaksBytes (asks key)) → SpeaksBytes (one_of asks words)
one_asks asks [] so = tt
one_asks asks (key ∷ next ∷ more) so = tt
one_asks asks (key ∷ []) so = with (bytes_in key) (word_of_bytes key)
  where
    with : (o : Option Bytes) → IfBytes o → SpeaksBytes (with_one asks o)
    with None is = tt
    with (Some bytes) is = so bytes is

two_asks : (asks : Bytes → Bytes → Request) (lo hi : Bytes) → ((a b : Bytes) → IsBytes a → IsBytes b → SpeaksBytes (asks a b)) → SpeaksBytes (with_two asks (bytes_in lo) (bytes_in hi))
two_asks asks lo hi so = with (bytes_in lo) (bytes_in hi) (word_of_bytes lo) (word_of_bytes hi)
  where
    with : (a b : Option Bytes) → IfBytes a → IfBytes b → SpeaksBytes (with_two asks a b)
    with (Some a) (Some b) in_a in_b = so a b in_a in_b
    with (Some a) None in_a in_b = tt
    with None b in_a in_b = tt

two_words : (asks : Bytes → Bytes → Request) (words : List Bytes) → ((a b : Bytes) → IsBytes a → IsBytes b → SpeaksBytes (asks a b)) → SpeaksBytes (two_of asks words)
two_words asks [] so = tt
two_words asks (lo ∷ []) so = tt
two_words asks (lo ∷ hi ∷ next ∷ more) so = tt
two_words asks (lo ∷ hi ∷ []) so = two_asks asks lo hi so

seek_words : (words : List Bytes) → SpeaksBytes (seek_of words)
seek_words [] = tt
seek_words (lo ∷ hi ∷ next ∷ more) = tt
seek_words (lo ∷ []) = one_asks (λ lo. Seek lo None) (lo ∷ []) (λ lo is. is)
seek_words (lo ∷ hi ∷ []) = two_asks (λ lo hi. Seek lo (Some hi)) lo hi (λ a b in_a in_b. (in_a, in_b))

numbered : (lo hi : Bytes) (o : Option ℕ) → IsBytes lo → IsBytes hi → SpeaksBytes (with_number (Range lo hi) o)
numbered lo hi None in_lo in_hi = tt
numbered lo hi (Some n) in_lo in_hi = (in_lo, in_hi)

range_words : (words : List Bytes) → SpeaksBytes (range_of words)
range_words [] = tt
range_words (lo ∷ []) = tt
range_words (lo ∷ hi ∷ []) = tt
range_words (lo ∷ hi ∷ n ∷ next ∷ more) = tt
range_words (lo ∷ hi ∷ n ∷ []) = two_asks (λ lo hi. with_number (Range lo hi) (number_in n)) lo hi (λ lo hi in_lo in_hi. numbered lo hi (number_in n) in_lo in_hi)

none_words : (asked : Request) (words : List Bytes) → SpeaksBytes asked → SpeaksBytes (none_of asked words)
none_words asked [] so = so
none_words asked (word ∷ more) so = tt

either : (b : Bool) (x y : Request) → SpeaksBytes x → SpeaksBytes y → SpeaksBytes (cond b x y)
either true x y so other = so
either false x y so other = other

-- the verb's own request, or what later verbs ask
abbrev Ask : Type 0
Ask = (request : Request) × SpeaksBytes request

ask : (b : Bool) (own : Request) → SpeaksBytes own → (later : Ask) → SpeaksBytes (cond b own later.0)
ask b own so later = either b own later.0 so later.1

words_of_bytes : (words : List Bytes) → SpeaksBytes (asked_by words)
words_of_bytes [] = tt
words_of_bytes (verb ∷ words) =
    let from_quit : Ask = let test = bytes_eq verb (codes "quit") in let later : Ask = (Bad 2, tt) in (cond test (none_of Quit words) later.0, ask test (none_of Quit words) (none_words Quit words tt) later) in
    let from_compact : Ask = let test = bytes_eq verb (codes "compact") in let later : Ask = from_quit in (cond test (none_of Compact words) later.0, ask test (none_of Compact words) (none_words Compact words tt) later) in
    let from_flush : Ask = let test = bytes_eq verb (codes "flush") in let later : Ask = from_compact in (cond test (none_of Flush words) later.0, ask test (none_of Flush words) (none_words Flush words tt) later) in
    let from_explain : Ask = let test = bytes_eq verb (codes "explain") in let later : Ask = from_flush in (cond test (one_of Explain words) later.0, ask test (one_of Explain words) (one_asks Explain words (λ key is. is)) later) in
    let from_estimate : Ask = let test = bytes_eq verb (codes "estimate") in let later : Ask = from_explain in (cond test (two_of Estimate words) later.0, ask test (two_of Estimate words) (two_words Estimate words (λ a b in_a in_b. (in_a, in_b))) later) in
    let from_count : Ask = let test = bytes_eq verb (codes "count") in let later : Ask = from_estimate in (cond test (two_of Count words) later.0, ask test (two_of Count words) (two_words Count words (λ a b in_a in_b. (in_a, in_b))) later) in
    let from_range : Ask = let test = bytes_eq verb (codes "range") in let later : Ask = from_count in (cond test (range_of words) later.0, ask test (range_of words) (range_words words) later) in
    let from_seek : Ask = let test = bytes_eq verb (codes "seek") in let later : Ask = from_range in (cond test (seek_of words) later.0, ask test (seek_of words) (seek_words words) later) in
    let from_get : Ask = let test = bytes_eq verb (codes "get") in let later : Ask = from_seek in (cond test (one_of Get words) later.0, ask test (one_of Get words) (one_asks Get words (λ key is. is)) later) in
    let from_del : Ask = let test = bytes_eq verb (codes "del") in let later : Ask = from_get in (cond test (one_of Del words) later.0, ask test (one_of Del words) (one_asks Del words (λ key is. is)) later) in
    ask (bytes_eq verb (codes "put")) (two_of Put words) (two_words Put words (λ a b in_a in_b. (in_a, in_b))) from_del

pub lines_of_bytes : (line : Bytes) → SpeaksBytes (request_of line)
lines_of_bytes line = either (nat_le (length line) 2100000) (asked_by (slice_split (λ b. b == 32) line)) (Bad 1) (words_of_bytes (slice_split (λ b. b == 32) line)) tt

pub speaking_asks : (request : Request) → SpeaksBytes request → AsksOfBytes request
speaking_asks (Put key value) are = are
speaking_asks (Del key) is = is
speaking_asks (Get key) is = tt
speaking_asks (Seek lo hi) are = tt
speaking_asks (Range lo hi n) are = tt
speaking_asks (Count lo hi) are = tt
speaking_asks (Estimate lo hi) are = tt
speaking_asks (Explain key) is = tt
speaking_asks Flush none = tt
speaking_asks Compact none = tt
speaking_asks Quit none = tt
speaking_asks (Bad code) none = tt

pub lines_ask : (line : Bytes) → AsksOfBytes (request_of line)
lines_ask line = speaking_asks (request_of line) (lines_of_bytes line)
