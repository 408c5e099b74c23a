use Rattle.std.proofs.Common.{ℕ, Bool, true, false, cond, nat_lt, List, [], ◌∷◌, ◌≡◌, ◌≤◌, ◌+◌, ◌-◌, ◌*◌, ◌^◌, ◌++◌, ap, append_assoc, arith, drop, length, length-append, sym, ◌∙◌, take}
use Rattle.std.specs.Prelude.{filter}
use Rattle.std.specs.List.{splice}
use Rattle.std.proofs.lemmas.List.{length-take, take_at}
use Rattle.filter_iter.proofs.LeastStrings.{least_is, real_small, way_short}
use Rattle.filter_iter.proofs.MetLeaves.{slot_fits}
use Rattle.filter_iter.proofs.WayLists.{length-letters}
use Rattle.filter_iter.specs.Borders.{real_at}
use Rattle.filter_iter.specs.CursorPath.{bytes_of_way, letters_of}
use Rattle.filter_model.specs.Strings.{shortest}
use Rattle.suffix_bits.specs.Slots.{Suffix}
use Rattle.filter_iter.proofs.least.write_least.Goals as goal

pub write_stub-count-requires : goal.write_stub-count-requires
write_stub-count-requires g c = omega (arith, way_short c.args.trie.now.hash_bits c.args.trie.now.real_bits c.args.trie.now.leaves c.requires.stands.valid c.args._n c.args.slot c.args.way.now c.requires.way)

pub suffix-real-requires : goal.suffix-real-requires
suffix-real-requires g c = slot_fits c.args.trie.now.hash_bits c.args.trie.now.real_bits c.args.trie.now.leaves c.args.slot (letters_of c.args.way.now) c.requires.stands.valid c.requires.way.slot_is

pub filled-requires-clause-real : goal.filled-requires-clause-real
filled-requires-clause-real g c =
    let width : c.widths.result.1 ≡ c.args.trie.now.real_bits = ap (λ (s : Suffix). s.1) c.widths.ensures.widths ∙ c.suffixes.ensures.real_bits in
    omega (arith, real_small c.args.trie.now.hash_bits c.args.trie.now.real_bits c.args.trie.now.leaves c.requires.stands.valid c.args._n c.args.slot c.args.way.now c.requires.way, ap (λ (s : Suffix). s.1) c.suffix-real.ensures, ap (λ (w : ℕ). 2 ^ w) width)

-- a letter that may be kept
few_more : (t : Bool) (a : ℕ) (y x : List ℕ) → length y ≤ length x → length (cond t (a ∷ y) y) ≤ length (a ∷ x)
few_more true a y x h = omega (arith, h)
few_more false a y x h = omega (arith, h)

-- no more bytes than letters
few_bytes : (x : List ℕ) → length (filter (λ c. nat_lt c 256) x) ≤ length x
few_bytes [] = omega arith
few_bytes (a ∷ x) = few_more (nat_lt a 256) a (filter (λ c. nat_lt c 256) x) x (few_bytes x)

pub put_behind-requires : goal.put_behind-requires
put_behind-requires g c =
    let short = way_short c.args.trie.now.hash_bits c.args.trie.now.real_bits c.args.trie.now.leaves c.requires.stands.valid c.args._n c.args.slot c.args.way.now c.requires.way in
    omega (arith, short, few_bytes (letters_of c.args.way.now), length-letters c.args.way.now, c.write_stub-count.ensures.count, c.write_stub-count.auto.out, c.shortest_bytes-len.ensures.len, length-take c.shortest_bytes-len.result.1 c.shortest_bytes-len.result.0)

pub returns-clause-within : goal.returns-clause-within
returns-clause-within g c =
    let short = way_short c.args.trie.now.hash_bits c.args.trie.now.real_bits c.args.trie.now.leaves c.requires.stands.valid c.args._n c.args.slot c.args.way.now c.requires.way in
    omega (arith, short, few_bytes (letters_of c.args.way.now), length-letters c.args.way.now, c.write_stub-count.ensures.count, c.shortest_bytes-len.ensures.len)

-- bytes put behind the front of others
put_front : (a rest t xs : List ℕ) (n : ℕ) → xs ≡ a ++ rest → n ≡ length a → take (n + length t) (splice xs n (n + length t) t) ≡ a ++ t
put_front a rest t xs n e k =
    let j = n + length t in
    let front : take n xs ≡ a = ap (take n) e ∙ take_at a rest n (sym k) in
    let size : length (a ++ t) ≡ j = omega (arith, length-append a t, k) in
    ap (take j) ((λ i. front i ++ (t ++ drop j xs)) ∙ sym (append_assoc a t (drop j xs))) ∙ take_at (a ++ t) (drop j xs) j size

pub returns-clause-least : goal.returns-clause-least
returns-clause-least g c =
    let trie = c.args.trie.now in
    let tail = take c.shortest_bytes-len.result.1 c.shortest_bytes-len.result.0 in
    let count = c.write_stub-count.result in
    let width : c.widths.result.1 ≡ trie.real_bits = ap (λ (s : Suffix). s.1) c.widths.ensures.widths ∙ c.suffixes.ensures.real_bits in
    let number : c.filled.result ≡ real_at trie.leaves c.args.slot * 2 ^ (32 - trie.real_bits) = c.filled.ensures ∙ (λ j. ap (λ (s : Suffix). s.1) c.suffix-real.ensures j * 2 ^ (32 - width j)) in
    let tail_is : tail ≡ shortest 4 (real_at trie.leaves c.args.slot * 2 ^ (32 - trie.real_bits)) = c.shortest_bytes-len.ensures.bytes ∙ ap (shortest 4) number in
    let many : length tail ≡ c.shortest_bytes-len.result.1 = omega (arith, length-take c.shortest_bytes-len.result.1 c.shortest_bytes-len.result.0, c.shortest_bytes-len.ensures.len) in
    let whole : take (count + c.shortest_bytes-len.result.1) c.put_behind.new.bytes ≡ bytes_of_way c.args.way.now ++ shortest 4 (real_at trie.leaves c.args.slot * 2 ^ (32 - trie.real_bits)) =
    ap (take (count + c.shortest_bytes-len.result.1)) c.put_behind.ensures
    ∙ (λ j. take (count + sym many j) (splice c.write_stub-count.new.out count (count + length tail) tail))
    ∙ put_front (bytes_of_way c.args.way.now) _ tail c.write_stub-count.new.out count c.write_stub-count.ensures.stub c.write_stub-count.ensures.count
    ∙ ap (λ (t : List ℕ). bytes_of_way c.args.way.now ++ t) tail_is in
    least_is trie.hash_bits trie.real_bits trie.leaves c.requires.stands.valid c.args._n c.args.slot c.args.way.now c.requires.way _ whole
