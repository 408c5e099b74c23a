use Rattle.std.proofs.Common.{rules, ◌≡◌, ◌≤◌, ◌++◌, ◌∙◌, length, take, drop, refl, sym, ap, subst, arith}
use Rattle.std.specs.Option.{option_map}
use Rattle.std.specs.List.{AllByRecursion}
use Rattle.map_model.specs.SortedMap.{Bytes}
use Rattle.entry_model.specs.Entries.{IsEntry}
use Rattle.block_model.specs.BlockReading.{block_in}
use Rattle.block_format.specs.Walking.{StandsAfter, at_hand, kept_from, walked}
use Rattle.block_format.proofs.AtHand.{none_at_hand}
use Rattle.table_file.proofs.Helds.{filled, many_walked, no_entries, nothing, walked_wider, stands_nowhere, stands_wider}
use Rattle.table_file.proofs.block_buffer.HeldBlock.read.Goals as goal

-- the device failed: no entry, and the key as it was
pub invariant_of-self : goal.invariant_of-self
unfolding at_hand
invariant_of-self g c =
    let old = c.lengthen.new.buffer in
    let items = take old.len (c.fetch.new.buf ++ drop (length c.fetch.new.buf) old.items) in
    let key = c.self.inside.key.items in
    let room = c.lengthen.ensures.room in
    (omega (arith, room, c.self.invariant.0), c.self.invariant.1, stands_nowhere key items, tt, tt, no_entries key items)

pub returns-in_err-size-clause-none : goal.returns-in_err-size-clause-none
returns-in_err-size-clause-none g c = sym (none_at_hand _ _ _ refl)

pub returns-in_err-size-clause-emptied : goal.returns-in_err-size-clause-emptied
returns-in_err-size-clause-emptied g c =
    let old = c.lengthen.new.buffer in
    let none = nothing c.self.inside.key.items (take old.len (c.fetch.new.buf ++ drop (length c.fetch.new.buf) old.items)) in
    search rules

-- the block is damaged
pub invariant_of-self-in_err-walk : goal.invariant_of-self-in_err-walk
unfolding at_hand
invariant_of-self-in_err-walk g c =
    let old = c.lengthen.new.buffer in
    let items = take old.len (c.fetch.new.buf ++ drop (length c.fetch.new.buf) old.items) in
    let room = c.lengthen.ensures.room in
    let key = c.self.inside.key in
    let buffer = c.walk_read.new.buffer in
    let keys = take key.len (buffer ++ drop (length buffer) key.items) in
    let same = c.walk_read.ensures.room ∙ ap length c.deref_mut-2.ensures.value in
    let keys_are : keys ≡ buffer = filled key.len buffer key.items same (omega (arith, c.deref_mut-2.ensures.len)) in
    (omega (arith, room, c.self.invariant.0), ap length keys_are ∙ same ∙ c.self.invariant.1, stands_nowhere keys items, tt, tt, no_entries keys items)

pub returns-in_err-walk-clause-none : goal.returns-in_err-walk-clause-none
returns-in_err-walk-clause-none g c = sym (none_at_hand _ _ _ refl)

pub returns-in_err-walk-clause-emptied : goal.returns-in_err-walk-clause-emptied
returns-in_err-walk-clause-emptied g c =
    let old = c.lengthen.new.buffer in
    let key = c.self.inside.key in
    let buffer = c.walk_read.new.buffer in
    let none = nothing (take key.len (buffer ++ drop (length buffer) key.items)) (take old.len (c.fetch.new.buf ++ drop (length c.fetch.new.buf) old.items)) in
    search rules

-- the block is sound
pub invariant_of-self-2 : goal.invariant_of-self-2
unfolding at_hand
invariant_of-self-2 g c =
    let old = c.lengthen.new.buffer in
    let items = take old.len (c.fetch.new.buf ++ drop (length c.fetch.new.buf) old.items) in
    let size = c.in_ok-size.size in
    let walk = c.in_ok-walk.walk in
    let all : items ≡ c.fetch.new.buf =
    filled old.len c.fetch.new.buf old.items (c.fetch.ensures.length ∙ ap length c.deref_mut.ensures.value) (omega (arith, c.deref_mut.ensures.len)) in
    let long : length items ≡ length old.items = ap length all ∙ c.fetch.ensures.length ∙ ap length c.deref_mut.ensures.value in
    let room = c.lengthen.ensures.room in
    let le : size ≤ length items = omega (arith, long, c.lengthen.ensures.many, c.block_bytes.ensures.size, c.in_ok-size.ensures.size) in
    let key = c.self.inside.key in
    let buffer = c.walk_read.new.buffer in
    let keys = take key.len (buffer ++ drop (length buffer) key.items) in
    let same = c.walk_read.ensures.room ∙ ap length c.deref_mut-2.ensures.value in
    let keys_are : keys ≡ buffer = filled key.len buffer key.items same (omega (arith, c.deref_mut-2.ensures.len)) in
    let front : StandsAfter walk buffer (take size items) = subst (λ (l : Bytes). StandsAfter walk buffer (take size l)) c.deref.ensures.value c.in_ok-walk.ensures.stands in
    let sound : AllByRecursion IsEntry (walked walk buffer (take size items)) =
    subst (λ (l : Bytes). AllByRecursion IsEntry (walked walk buffer (take size l))) c.deref.ensures.value c.in_ok-walk.ensures.sound in
    let wide : AllByRecursion IsEntry (walked walk buffer items) = subst (AllByRecursion IsEntry) (sym (walked_wider walk size buffer items le front)) sound in (
      omega (arith, room, c.self.invariant.0),
      ap length keys_are ∙ same ∙ c.self.invariant.1,
      subst (λ (b : Bytes). StandsAfter walk b items) (sym keys_are) (stands_wider walk size buffer items le front),
      tt,
      tt,
      subst (λ (b : Bytes). AllByRecursion IsEntry (walked walk b items)) (sym keys_are) wide,
    )

pub returns-clause-none : goal.returns-clause-none
returns-clause-none g c = sym (none_at_hand _ _ _ refl)

pub returns-clause-entries : goal.returns-clause-entries
returns-clause-entries g c tells =
    let old = c.lengthen.new.buffer in
    let items = take old.len (c.fetch.new.buf ++ drop (length c.fetch.new.buf) old.items) in
    let size = c.in_ok-size.size in
    let walk = c.in_ok-walk.walk in
    let all : items ≡ c.fetch.new.buf =
    filled old.len c.fetch.new.buf old.items (c.fetch.ensures.length ∙ ap length c.deref_mut.ensures.value) (omega (arith, c.deref_mut.ensures.len)) in
    let long : length items ≡ length old.items = ap length all ∙ c.fetch.ensures.length ∙ ap length c.deref_mut.ensures.value in
    let le : size ≤ length items = omega (arith, long, c.lengthen.ensures.many, c.block_bytes.ensures.size, c.in_ok-size.ensures.size) in
    let key = c.self.inside.key in
    let buffer = c.walk_read.new.buffer in
    let keys_are : take key.len (buffer ++ drop (length buffer) key.items) ≡ buffer =
    filled key.len buffer key.items (c.walk_read.ensures.room ∙ ap length c.deref_mut-2.ensures.value) (omega (arith, c.deref_mut-2.ensures.len)) in
    let front : StandsAfter walk buffer (take size items) = subst (λ (l : Bytes). StandsAfter walk buffer (take size l)) c.deref.ensures.value c.in_ok-walk.ensures.stands in
    let low = option_map (λ k. k.now) c.args.low in
    ap (λ (b : Bytes). walked walk b items) keys_are
    ∙ walked_wider walk size buffer items le front
    ∙ sym (ap (λ (l : Bytes). walked walk buffer (take size l)) c.deref.ensures.value)
    ∙ c.in_ok-walk.ensures.entries
    ∙ ap (λ (l : Bytes). kept_from low (block_in (take size l))) (c.deref.ensures.value ∙ all)
    ∙ ap (λ (l : Bytes). kept_from low (block_in l)) (c.in_ok-size.ensures.bytes tells)

pub returns-clause-some : goal.returns-clause-some
returns-clause-some g c none =
    let old = c.lengthen.new.buffer in
    let items = take old.len (c.fetch.new.buf ++ drop (length c.fetch.new.buf) old.items) in
    let key = c.self.inside.key in
    let buffer = c.walk_read.new.buffer in
    omega (arith, many_walked c.in_ok-walk.walk (take key.len (buffer ++ drop (length buffer) key.items)) items, c.in_ok-walk.ensures.some none)
