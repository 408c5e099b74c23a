-- A text that is said piece by piece.
use Rattle.std.proofs.Common.{◌≡◌, ◌<◌, ◌≤◌, ◌+◌, ◌-◌, ◌*◌, ◌^◌, ◌++◌, ℕ, [], ◌∷◌, length, take, drop, min, refl, sym, ap, ◌∙◌, arith, append_assoc, length-append, take-append-drop}
use Rattle.std.specs.Prelude.{decimal, codes, Option, Some, None}
use Rattle.std.specs.Option.{SomeIff}
use Rattle.std.proofs.Math.Seq.{take-add}
use Rattle.std.proofs.lemmas.List.{drop_at, length-drop, length-take, take-append-le, take_at, take_min}
use Rattle.std.proofs.lemmas.Fmt.{length-decimal-le}
use Rattle.byteorder.specs.Endian.{big_bytes}
use Rattle.byteorder.specs.Numbers.{length-bytes_high_first}
use Rattle.hex.specs.Hex.{lower_digits}
use Rattle.hex.proofs.HexLemmas.{length-encode_with}
use Rattle.outside.specs.Streams.{SaysPrefix}
use Rattle.map_model.specs.SortedMap.{Bytes}
use Rattle.line_model.specs.Replies.{at_words, text_of, word_of, part_word, sum_word}
use Rattle.byte_fields.specs.declared.parts.Part.{Part}
use Rattle.byte_fields.specs.declared.parts.Part.TheVariants.{Manifest, Log, Index, Filter, Block}
use Rattle.byte_fields.specs.declared.parts.Damage.TheVariants.{Sum, Shape}
use Rattle.store_commands.specs.Spoken.{spoken}
use Rattle.store_commands.specs.declared.reply.Reply.{Reply}
use Rattle.store_commands.specs.declared.reply.Reply.TheVariants.{Done, Value, Missing, At, End, Counted, About, Explained, Bye, BadLine, LongKey, LongValue, ManyTables, LastEpoch, Full, Memory, Device, Damaged}
use Rattle.lines_in.specs.Saying.{IsShort}

module _ (text buffer : Bytes) (from n : ℕ) (size : n ≡ min (length buffer) (length text - from)) (bytes : take n buffer ≡ take (length buffer) (drop from text)) where
  piece_is : take n buffer ≡ take n (drop from text)
  piece_is = bytes ∙ sym (take_min (length buffer) (drop from text)) ∙ ap (λ (k : ℕ). take k (drop from text)) (omega (arith, length-drop from text))

  pub next_piece : take from text ++ take n buffer ≡ take (from + n) text
  next_piece = ap (λ (l : Bytes). take from text ++ l) piece_is ∙ sym (take-add from n text)

  pub front_on : (old mid new : Bytes) → mid ≡ old ++ take from text → SaysPrefix (take n buffer) mid new → SaysPrefix text old new
  front_on old mid new so_far prefix = record {
    done = take from text ++ prefix.done;
    rest = prefix.rest ++ drop (from + n) text;
    split =
        sym (take-append-drop (from + n) text) ∙ ap (λ (l : Bytes). l ++ drop (from + n) text) (sym next_piece ∙ ap (λ (l : Bytes). take from text ++ l) prefix.split ∙ sym (append_assoc (take from text) prefix.done prefix.rest))
        ∙ append_assoc (take from text ++ prefix.done) prefix.rest (drop (from + n) text);
    said = prefix.said ∙ ap (λ (l : Bytes). l ++ prefix.done) so_far ∙ append_assoc old (take from text) prefix.done;
  }

-- ---- a reply after bytes that wait

-- of two ways to part some bytes the longer first part goes on where the shorter one ends
pub goes_on : (a b rest more : Bytes) → b ++ rest ≡ a ++ more → length a ≤ length b → (part : Bytes) × (b ≡ a ++ part) × (more ≡ part ++ rest)
goes_on [] b rest more is longer = (b, refl, sym is)
goes_on (x ∷ a) [] rest more is longer = absurd (omega (arith, longer))
goes_on (x ∷ a) (y ∷ b) rest more is longer =
    let tails : b ++ rest ≡ a ++ more = cc in
    let heads : y ≡ x = cc in
    let later = goes_on a b rest more tails (omega (arith, longer)) in
    (later.0, ap (λ (k : ℕ). k ∷ b) heads ∙ ap (λ (l : Bytes). x ∷ l) later.1, later.2)

-- where more bytes follow than were said, a prefix of the whole was said
pub prefix_of : (whole old now rest : Bytes) → now ++ rest ≡ old ++ whole → length old ≤ length now → SaysPrefix whole old now
prefix_of whole old now rest is longer =
    let part = goes_on old now rest whole is longer in record { done = part.0; rest = rest; split = part.2; said = part.1 }

module _ (text buffer into : Bytes) (used from n : ℕ) (room : used < length buffer) (within : from ≤ length text) (same : length into ≡ length (take (length buffer - used) (drop used buffer)))
    (count : n ≡ min (length (take (length buffer - used) (drop used buffer))) (length text - from)) (bytes : take n into ≡ take (length (take (length buffer - used) (drop used buffer))) (drop from text)) where
  -- the buffer with a piece of the text after the bytes that wait
  abbrev pub laid : Bytes
  laid = take used buffer ++ (into ++ drop (length buffer - used) (drop used buffer))

  free : length (take (length buffer - used) (drop used buffer)) ≡ length buffer - used
  free = omega (arith, length-take (length buffer - used) (drop used buffer), length-drop used buffer)

  used_bytes : length (take used buffer) ≡ used
  used_bytes = omega (arith, length-take used buffer, room)

  pub laid_long : length laid ≡ length buffer
  laid_long =
      omega (
        arith,
        length-append (take used buffer) (into ++ drop (length buffer - used) (drop used buffer)),
        length-append into (drop (length buffer - used) (drop used buffer)),
        length-drop (length buffer - used) (drop used buffer),
        length-drop used buffer,
        used_bytes,
        same,
        free,
        room,
      )

  pub laid_count : n ≡ min (length buffer - used) (length text - from)
  laid_count = count ∙ ap (λ (k : ℕ). min k (length text - from)) free

  laid_bytes : take n into ≡ take n (drop from text)
  laid_bytes = piece_is text into from n (count ∙ ap (λ (k : ℕ). min k (length text - from)) (sym same)) (bytes ∙ ap (λ (k : ℕ). take k (drop from text)) (sym same))

  waits_more : take (used + n) laid ≡ take used buffer ++ take n (drop from text)
  waits_more =
      let tail = drop (length buffer - used) (drop used buffer) in
      take-add used n laid ∙ ap (λ (l : Bytes). l ++ take n (drop used laid)) (take_at (take used buffer) (into ++ tail) used used_bytes)
      ∙ ap (λ (l : Bytes). take used buffer ++ take n l) (drop_at (take used buffer) (into ++ tail) used used_bytes)
      ∙ ap (λ (l : Bytes). take used buffer ++ l) (take-append-le n into tail (omega (arith, same, count)) ∙ laid_bytes)

  -- what was said and what waits goes on by the piece
  pub said_on : (old now front : Bytes) → now ++ take used buffer ≡ old ++ (front ++ take from text) → now ++ take (used + n) laid ≡ old ++ (front ++ take (from + n) text)
  said_on old now front said =
      let piece = take n (drop from text) in
      ap (λ (l : Bytes). now ++ l) waits_more ∙ sym (append_assoc now (take used buffer) piece) ∙ ap (λ (l : Bytes). l ++ piece) said ∙ append_assoc old (front ++ take from text) piece
      ∙ ap (λ (l : Bytes). old ++ l) (append_assoc front (take from text) piece ∙ ap (λ (l : Bytes). front ++ l) (sym (take-add from n text)))

word_size : (value : Bytes) → length (word_of value) ≤ 1 + 2 * length value
word_size [] = omega arith
word_size (b ∷ value) = omega (arith, length-encode_with lower_digits (b ∷ value))

decimal_size : (n : ℕ) → n < 2 ^ 64 → length (decimal n) ≤ 20
decimal_size n small = length-decimal-le 20 n (omega arith) (omega arith) small

word_end : (prefix value : Bytes) (most : ℕ) → length value ≤ most → length (prefix ++ word_of value ++ 10 ∷ []) ≤ length prefix + 2 * most + 2
word_end prefix value most short = omega (arith, length-append (prefix ++ word_of value) (10 ∷ []), length-append prefix (word_of value), word_size value)

number_end : (prefix : Bytes) (n : ℕ) → n < 2 ^ 64 → length (prefix ++ decimal n ++ 10 ∷ []) ≤ length prefix + 21
number_end prefix n small = omega (arith, length-append (prefix ++ decimal n) (10 ∷ []), length-append prefix (decimal n), decimal_size n small)

numbers_end : (prefix middle : Bytes) (n m : ℕ) → n < 2 ^ 64 → m < 2 ^ 64 → length (prefix ++ decimal n ++ middle ++ decimal m ++ 10 ∷ []) ≤ length prefix + length middle + 41
numbers_end prefix middle n m small_n small_m =
    omega (arith, number_end (prefix ++ decimal n ++ middle) m small_m, length-append (prefix ++ decimal n) middle, length-append prefix (decimal n), decimal_size n small_n)

three_end : (n m k : ℕ) → n < 2 ^ 64 → m < 2 ^ 64 → k < 2 ^ 64
    → length (codes "tables " ++ decimal n ++ codes " admitted " ++ decimal m ++ codes " blocks " ++ decimal k ++ 10 ∷ []) ≤ 100
three_end n m k small_n small_m small_k =
    omega (
      arith,
      numbers_end (codes "tables " ++ decimal n ++ codes " admitted ") (codes " blocks ") m k small_m small_k,
      length-append (codes "tables " ++ decimal n) (codes " admitted "),
      length-append (codes "tables ") (decimal n),
      decimal_size n small_n,
    )

pair_end : (key value : Bytes) (most large : ℕ) → length key ≤ most → length value ≤ large → length (at_words key value ++ 10 ∷ []) ≤ 2 * most + 2 * large + 8
pair_end key value most large short long =
    omega (
      arith,
      length-append (at_words key value) (10 ∷ []),
      length-append (codes "at " ++ word_of key ++ codes " ") (word_of value),
      length-append (codes "at " ++ word_of key) (codes " "),
      length-append (codes "at ") (word_of key),
      word_size key,
      word_size value,
    )

-- a sum has sixteen digits
sum_size : (sum : ℕ) → length (sum_word sum) ≡ 16
sum_size sum = length-encode_with lower_digits (big_bytes 8 sum) ∙ ap (λ (n : ℕ). 2 * n) (length-bytes_high_first 8 sum)

sums_end : (prefix : Bytes) (at kept seen : ℕ) → at < 2 ^ 64 → length (prefix ++ decimal at ++ codes " sum " ++ sum_word kept ++ codes " " ++ sum_word seen ++ 10 ∷ []) ≤ length prefix + 59
sums_end prefix at kept seen small =
    omega (
      arith,
      length-append (prefix ++ decimal at ++ codes " sum " ++ sum_word kept ++ codes " " ++ sum_word seen) (10 ∷ []),
      length-append (prefix ++ decimal at ++ codes " sum " ++ sum_word kept ++ codes " ") (sum_word seen),
      length-append (prefix ++ decimal at ++ codes " sum " ++ sum_word kept) (codes " "),
      length-append (prefix ++ decimal at ++ codes " sum ") (sum_word kept),
      length-append (prefix ++ decimal at) (codes " sum "),
      length-append prefix (decimal at),
      decimal_size at small,
      sum_size kept,
      sum_size seen,
    )

part_size : (part : Part) → length (part_word part) ≤ 8
part_size Manifest = omega arith
part_size Log = omega arith
part_size Index = omega arith
part_size Filter = omega arith
part_size Block = omega arith

pub short_text : (reply : Reply) → IsShort reply → length (text_of (spoken reply)) < 2 ^ 64
short_text Done short = omega arith
short_text (Value value) short = omega (arith, word_end (codes "val ") value.now 2147483648 short)
short_text Missing short = omega arith
short_text (At key value) short = omega (arith, pair_end key.now value.now 1024 2147483648 short.0 short.1)
short_text (End count) short = omega (arith, number_end (codes "end ") count short)
short_text (Counted count) short = omega (arith, number_end (codes "count ") count short)
short_text (About count) short = omega (arith, number_end (codes "about ") count short)
short_text (Explained tables admitted blocks) short = omega (arith, three_end tables admitted blocks short.0 short.1 short.2)
short_text Bye short = omega arith
short_text (BadLine code) short = omega (arith, number_end (codes "bad ") code short)
short_text (LongKey size) short = omega (arith, number_end (codes "limit key ") size short)
short_text (LongValue size) short = omega (arith, number_end (codes "limit value ") size short)
short_text ManyTables short = omega arith
short_text LastEpoch short = omega arith
short_text (Full need gap) short = omega (arith, numbers_end (codes "full need ") (codes " gap ") need gap short.0 short.1)
short_text Memory short = omega arith
short_text Device short = omega arith
short_text (Damaged (Sum part at kept seen)) short = omega (arith, sums_end (codes "damaged " ++ part_word part ++ codes " ") at kept seen short, length-append (codes "damaged " ++ part_word part) (codes " "), length-append (codes "damaged ") (part_word part), part_size part)
short_text (Damaged (Shape part at rule)) short = omega (arith, numbers_end (codes "damaged " ++ part_word part ++ codes " ") (codes " rule ") at rule short.0 short.1, length-append (codes "damaged " ++ part_word part) (codes " "), length-append (codes "damaged ") (part_word part), part_size part)

pub none_over : (r : Option ℕ) (P : Type 0) (v : ℕ) → SomeIff r P v → ((x : ℕ) → r ≡ Some x → ⊥) → P → ⊥
none_over None P v is none p = is p
none_over (Some x) P v is none p = none x refl

pub some_is : (r : Option ℕ) (P : Type 0) (v x : ℕ) → SomeIff r P v → r ≡ Some x → x ≡ v
some_is None P v x is some = absurd cc
some_is (Some y) P v x is some = let same : y ≡ x = cc in sym same ∙ is.1
