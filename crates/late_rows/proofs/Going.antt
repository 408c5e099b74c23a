-- Going on to the next row: by a walk that catches up, by the memory, and by a sleeper that wakes.
use Rattle.std.proofs.Common.{◌≡◌, ◌∙◌, ◌+◌, ◌-◌, ◌<◌, ◌≤◌, ℕ, zero, suc, List, [], ◌∷◌, length, map, slice_set, refl, sym, ap, ap₂, subst, Bool, true, false, arith}
use Rattle.std.specs.Prelude.{Contains, IsTrue, Option, Some, None, Result, Ok, Err}
use Rattle.std.specs.List.{sum_by}
use Rattle.std.proofs.lemmas.List.Sums.{sum_by-cons, sum_by-set}
use Rattle.std.proofs.lemmas.Option.{get_or_from_slice_get, slice_get_within}
use Rattle.block_model.specs.Places.{byte_of_page}
use Rattle.disk_trait.specs.Image.{Image}
use Rattle.disk_trait.specs.World.{World}
use Rattle.disk_trait.proofs.Calls.{reads_none}
use Rattle.entry_model.specs.Entries.{Entry}
use Rattle.entry_model.specs.Newest.{KeysRise}
use Rattle.map_model.specs.SortedMap.{Bytes}
use Rattle.merge_rows.specs.CatchingUp.{CatchesUp, CatchesUpAt, MemoryPasses}
use Rattle.merge_rows.specs.Choosing.{IsHeadFrom}
use Rattle.merge_rows.specs.Merges.{Merge, TableWalk, blocks_in, left_above, merged_left, numbered, row_count, sources_above, walk_left}
use Rattle.merge_rows.specs.Reads.{PassSound, PassesSound, blocks_left, blocks_left_in, next_block_of, next_blocks, ones, wanted_block_of, wants}
use Rattle.merge_rows.specs.Rows.{KeyFloor, above_floor, merged_rows}
use Rattle.merge_rows.specs.Steps.{AreSoundWalks, IsSoundMerge, IsSoundWalk, number_of_walk, numbers, stand_of_walk, stands}
use Rattle.merge_rows.proofs.Fills.{cause_since}
use Rattle.merge_rows.proofs.FirstFills.{IsSoundHere, all_here, all_set, at_most, map_set, number_among}
use Rattle.merge_rows.proofs.SoundPasses.{pass_same, pass_set, pass_then}
use Rattle.merge_rows.proofs.Stays.{lengths_are, only_both}
use Rattle.merge_rows.proofs.WantedLeft.{wanted_left}
use Rattle.table_file.specs.Opened.{Opened}
use Rattle.table_file.specs.Search.{IsGetFault, page_at}
use Rattle.table_file.specs.Walks.{first_of}
use Rattle.table_file.specs.declared.fault.TableFault.{TableFault}
use Rattle.late_rows.proofs.Awake.{awake_set, awake_woken, sleeps_yet, some_key, walk_other, woke_now}
use Rattle.late_rows.specs.Going.{FailsOn, GoesOn, ReadsOn}
use Rattle.late_rows.specs.Late.{AreFrom, IsSoundLate, LateMerge, awake_of, no_walk, waking_at, walk_in, wanted_awake}

-- ---- nothing is done

pub goes_same : (tells : Bool) (tables : List Opened) (l : LateMerge) (w : World) → GoesOn tells tables l l w w
goes_same tells tables l w = record {
  floor = refl;
  drops = refl;
  numbers_are = refl;
  stands_are = refl;
  memory = refl;
  rises = λ r. r;
  each = λ t. refl;
  walks = λ t s. s;
  sleep_on = λ at key is. (is, refl);
  wake_late = λ t s at key is none. some_key key (sym is ∙ none);
  read_sound = λ t. pass_same tables w.seen.held l.merge.walks;
  moves = (0, reads_none 0 w);
}

pub reads_same : (tells : Bool) (tables : List Opened) (l : LateMerge) (w : World) → ReadsOn tells tables l l w w
reads_same tells tables l w = record { left = omega arith; counted = λ t. refl; spent = λ t s. omega arith; bounded = λ t s. omega arith }

-- ---- numbers

-- a block that is wanted is left
wanted_here : (floor : KeyFloor) (tables : List Opened) (w : TableWalk) → wanted_block_of floor tables w ≤ blocks_left_in tables w
wanted_here floor tables w = of_want (wants floor tables w) refl
  where
    of_want : (want : Bool) → wants floor tables w ≡ want → wanted_block_of floor tables w ≤ blocks_left_in tables w
    of_want false e = let none : wanted_block_of floor tables w ≡ 0 = ap ones e in omega (arith, none)
    of_want true e =
        let one : wanted_block_of floor tables w ≡ 1 = ap ones e in
        let sum = sum_by-cons (wanted_block_of floor tables) w [] in
        let left = sum_by-cons (blocks_left_in tables) w [] in
        let some : 1 ≤ blocks_left tables (w ∷ []) = wanted_left floor tables (w ∷ []) (omega (arith, one, sum)) in
        omega (arith, one, left, some)

-- as many blocks are left no more as were read
left_less : (rows old new before after wanted : ℕ) → after + old ≡ before + new → after ≤ before + wanted → wanted ≤ rows - old → after + (rows - new) ≤ before + (rows - old)
left_less rows old new before after wanted counted bounded left = omega (arith, counted, bounded, left)

-- one that is awake is counted
awake_most : (f : TableWalk → ℕ) (asleep : List (Option Bytes)) (walks : List TableWalk) (at : ℕ) → at < length walks → waking_at asleep at ≡ None → f (walk_in walks at) ≤ sum_by f (awake_of asleep walks)
awake_most f asleep [] at lt none = absurd (omega (arith, lt))
awake_most f [] (w ∷ walks) at lt none = at_most f (w ∷ walks) at no_walk lt
awake_most f (None ∷ asleep) (w ∷ walks) zero lt none = let sum = sum_by-cons f w (awake_of asleep walks) in omega (arith, sum)
awake_most f (Some key ∷ asleep) (w ∷ walks) zero lt none = some_key key none
awake_most f (None ∷ asleep) (w ∷ walks) (suc at) lt none =
    let sum = sum_by-cons f w (awake_of asleep walks) in
    let rest = awake_most f asleep walks at (omega (arith, lt)) none in
    omega (arith, sum, rest)
awake_most f (Some key ∷ asleep) (w ∷ walks) (suc at) lt none = awake_most f asleep walks at (omega (arith, lt)) none

-- ---- one walk more catches up

module _ (tells : Bool) (tables : List Opened) (first old new : LateMerge) (at : ℕ) (result : Result Unit TableFault) (before mid after : World)
    (goes : GoesOn tells tables first old before mid) (asleep : new.asleep ≡ old.asleep) (awake : waking_at old.asleep at ≡ None)
    (catches : CatchesUpAt tells tables at old.merge new.merge result mid after) where
  abbrev floor : KeyFloor
  floor = first.merge.floor

  abbrev walks : List TableWalk
  walks = old.merge.walks

  abbrev from : TableWalk
  from = walk_in walks at

  abbrev to : TableWalk
  to = catches.walks.to

  pub within : at < length walks
  within = slice_get_within walks at catches.walks.from catches.walks.there

  held : mid.seen.held ≡ before.seen.held
  held = goes.moves.1.held

  pub one : CatchesUp tells floor tables from to result mid after
  one = subst (λ (f : KeyFloor). CatchesUp tells f tables from to result mid after) goes.floor
      (subst (λ (w : TableWalk). CatchesUp tells old.merge.floor tables w to result mid after) (sym (get_or_from_slice_get walks at catches.walks.from no_walk catches.walks.there)) catches.walks.one)

  of_set : (P : List TableWalk → Type 0) → P (slice_set walks at to) → P new.merge.walks
  of_set P is = subst P (sym catches.walks.set) is

  same_left : IsTrue tells → left_above floor tables before.seen.held to ≡ left_above floor tables before.seen.held from
  same_left t = subst (λ (h : Image). left_above floor tables h to ≡ left_above floor tables h from) held (one.same t)

  sound_to : IsTrue tells → IsSoundHere floor tables before.seen.held from → IsSoundHere floor tables before.seen.held to
  sound_to t s = subst (λ (n : ℕ). IsSoundWalk floor to.walk (blocks_in (numbered tables n) before.seen.held)) (sym one.number)
      (subst (λ (h : Image). IsSoundWalk floor from.walk (blocks_in (numbered tables from.number) h) → IsSoundWalk floor to.walk (blocks_in (numbered tables from.number) h)) held (one.sound t) s)

  other : (k : ℕ) (key : Bytes) → waking_at old.asleep k ≡ Some key → walk_in new.merge.walks k ≡ walk_in walks k
  other k key is = of_set (λ ws. walk_in ws k ≡ walk_in walks k)
      (walk_other walks at k to (λ same. some_key key (sym is ∙ ap (waking_at old.asleep) same ∙ awake)))

  pub goes_caught : GoesOn tells tables first new before after
  goes_caught = record {
    floor = catches.floor ∙ goes.floor;
    drops = catches.drops ∙ goes.drops;
    numbers_are = of_set (λ ws. numbers ws ≡ numbers first.merge.walks) (map_set number_of_walk walks at to no_walk within one.number ∙ goes.numbers_are);
    stands_are = of_set (λ ws. stands ws ≡ stands first.merge.walks) (map_set stand_of_walk walks at to no_walk within (ap₂ (λ (n r : ℕ). (n, r)) one.number one.room) ∙ goes.stands_are);
    memory = ap (above_floor floor) catches.memory ∙ goes.memory;
    rises = λ r. subst KeysRise (sym catches.memory) (goes.rises r);
    each = λ t. of_set (λ ws. map (left_above floor tables before.seen.held) ws ≡ map (left_above floor tables before.seen.held) first.merge.walks)
        (map_set (left_above floor tables before.seen.held) walks at to no_walk within (same_left t) ∙ goes.each t);
    walks = λ t s. of_set (AreSoundWalks floor tables before.seen.held) (all_set (IsSoundHere floor tables before.seen.held) walks at to no_walk within (sound_to t) (goes.walks t s));
    sleep_on = λ k key is.
        let slept = ap (λ (os : List (Option Bytes)). waking_at os k) (sym asleep) ∙ is in
        let on = goes.sleep_on k key slept in
        (on.0, other k key slept ∙ on.1);
    wake_late = λ t s k key is none. goes.wake_late t s k key is (ap (λ (os : List (Option Bytes)). waking_at os k) (sym asleep) ∙ none);
    read_sound = λ t. pass_then tables before.seen.held first.merge.walks walks new.merge.walks (goes.read_sound t)
        (of_set (PassSound tables before.seen.held walks)
        (pass_set tables before.seen.held walks at to no_walk within (subst (λ (h : Image). PassesSound tables h from to) held (one.read_sound t))));
    moves = only_both before mid after goes.moves one.moves;
  }

  -- what is asked of the walk, which is sound where those at first were
  sound_from : IsTrue tells → IsSoundMerge first.merge tables before.seen.held → IsSoundWalk floor from.walk (blocks_in (numbered tables from.number) mid.seen.held)
  sound_from t s = subst (λ (h : Image). IsSoundWalk floor from.walk (blocks_in (numbered tables from.number) h)) (sym held)
      (all_here (IsSoundHere floor tables before.seen.held) walks at no_walk within (goes.walks t s.walks))

  pub left_wanted : blocks_left_in tables to ≡ row_count (numbered tables from.number) - to.walk.block
  left_wanted = ap (λ (n : ℕ). row_count (numbered tables n) - to.walk.block) one.number

  wanted_to : (sum : TableWalk → ℕ) → sum_by sum (awake_of new.asleep new.merge.walks) + sum from ≡ sum_by sum (awake_of old.asleep walks) + sum to
  wanted_to sum = of_set (λ ws. sum_by sum (awake_of new.asleep ws) + sum from ≡ sum_by sum (awake_of old.asleep walks) + sum to)
      (subst (λ (os : List (Option Bytes)). sum_by sum (awake_of os (slice_set walks at to)) + sum from ≡ sum_by sum (awake_of old.asleep walks) + sum to) (sym asleep)
      (awake_set sum old.asleep walks at to within awake))

  all_to : (sum : TableWalk → ℕ) → sum_by sum new.merge.walks + sum from ≡ sum_by sum walks + sum to
  all_to sum = of_set (λ ws. sum_by sum ws + sum from ≡ sum_by sum walks + sum to) (sum_by-set sum walks at to no_walk within)

-- at Ok
module _ (tells : Bool) (tables : List Opened) (first old new : LateMerge) (at : ℕ) (before mid after : World)
    (goes : GoesOn tells tables first old before mid) (reads : ReadsOn tells tables first old before mid) (asleep : new.asleep ≡ old.asleep) (awake : waking_at old.asleep at ≡ None)
    (catches : CatchesUpAt tells tables at old.merge new.merge (Ok tt) mid after) where
  abbrev caught : CatchesUp tells first.merge.floor tables (walk_in old.merge.walks at) catches.walks.to (Ok tt) mid after
  caught = one tells tables first old new at (Ok tt) before mid after goes asleep awake catches

  pub reads_caught : ReadsOn tells tables first new before after
  reads_caught = record {
    left = let sum = all_to tells tables first old new at (Ok tt) before mid after goes asleep awake catches (blocks_left_in tables) in omega (arith, sum, reads.left, caught.left);
    counted = λ t.
        let sum = all_to tells tables first old new at (Ok tt) before mid after goes asleep awake catches next_block_of in
        let sofar = reads.counted t in
        let now = caught.counted t in
        omega (arith, sum, sofar, now);
    spent = λ t s.
        let sum = all_to tells tables first old new at (Ok tt) before mid after goes asleep awake catches (blocks_left_in tables) in
        let sofar = reads.spent t s in
        let here = sound_from tells tables first old new at (Ok tt) before mid after goes asleep awake catches t s in
        let bounded = caught.bounded t here in
        let less = left_less (row_count (numbered tables (walk_in old.merge.walks at).number)) (walk_in old.merge.walks at).walk.block catches.walks.to.walk.block mid.seen.reads after.seen.reads
        (wanted_block_of first.merge.floor tables (walk_in old.merge.walks at)) (caught.counted t) (omega (arith, bounded)) (wanted_here first.merge.floor tables (walk_in old.merge.walks at)) in
        let left = left_wanted tells tables first old new at (Ok tt) before mid after goes asleep awake catches in
        omega (arith, sum, sofar, less, left);
    bounded = λ t s.
        let sum = wanted_to tells tables first old new at (Ok tt) before mid after goes asleep awake catches (wanted_block_of first.merge.floor tables) in
        let sofar = reads.bounded t s in
        let same = ap (λ (os : List (Option Bytes)). wanted_awake first.merge.floor tables os first.merge.walks) asleep in
        let here = sound_from tells tables first old new at (Ok tt) before mid after goes asleep awake catches t s in
        let now = caught.bounded t here in
        omega (arith, sum, sofar, same, now);
  }

-- at Err
module _ (tells : Bool) (tables : List Opened) (first old new : LateMerge) (at : ℕ) (why : TableFault) (before mid after : World)
    (goes : GoesOn tells tables first old before mid) (reads : ReadsOn tells tables first old before mid) (asleep : new.asleep ≡ old.asleep) (awake : waking_at old.asleep at ≡ None)
    (catches : CatchesUpAt tells tables at old.merge new.merge (Err why) mid after) where
  abbrev failed : CatchesUp tells first.merge.floor tables (walk_in old.merge.walks at) catches.walks.to (Err why) mid after
  failed = one tells tables first old new at (Err why) before mid after goes asleep awake catches

  abbrev lt : at < length old.merge.walks
  lt = within tells tables first old new at (Err why) before mid after goes asleep awake catches

  number_in : Contains (numbers first.merge.walks) (walk_in old.merge.walks at).number
  number_in = subst (λ (ns : List ℕ). Contains ns (walk_in old.merge.walks at).number) goes.numbers_are (number_among old.merge.walks at no_walk lt)

  tried_here : IsTrue tells → IsSoundMerge first.merge tables before.seen.held
      → (after.seen.reads ≤ mid.seen.reads + wanted_block_of first.merge.floor tables (walk_in old.merge.walks at)) × (1 ≤ wanted_block_of first.merge.floor tables (walk_in old.merge.walks at))
  tried_here t s = failed.tried t (sound_from tells tables first old new at (Err why) before mid after goes asleep awake catches t s)

  pub fails_caught : FailsOn tells tables first new before after why
  fails_caught = record {
    none = catches.none;
    only_if_read = let many = lengths_are old.merge.walks first.merge.walks goes.numbers_are in omega (arith, many, lt);
    never_memory = failed.never_memory;
    cause =
        let is = failed.cause in
        ((walk_in old.merge.walks at).number, number_in, (is.0, is.1, is.2, is.3, cause_since (byte_of_page (page_at is.0 is.1)) before mid after why goes.moves.1.read_faults is.4));
    fault = λ t.
        let is = failed.fault t in
        ((walk_in old.merge.walks at).number, number_in, (is.0, is.1, is.2, is.3, subst (λ (h : Image). IsGetFault is.0 is.1 h why) goes.moves.1.held is.4));
    only_if_wanted = λ t s.
        let most = awake_most (wanted_block_of first.merge.floor tables) old.asleep old.merge.walks at lt awake in
        let sofar = reads.bounded t s in
        let same = ap (λ (os : List (Option Bytes)). wanted_awake first.merge.floor tables os first.merge.walks) asleep in
        let tried = tried_here t s in
        omega (arith, most, sofar, same, tried.1, goes.moves.1.reads_later);
    bounded = λ t s.
        let most = awake_most (wanted_block_of first.merge.floor tables) old.asleep old.merge.walks at lt awake in
        let sofar = reads.bounded t s in
        let same = ap (λ (os : List (Option Bytes)). wanted_awake first.merge.floor tables os first.merge.walks) asleep in
        let tried = tried_here t s in
        omega (arith, most, sofar, same, tried.0);
    tried = λ t s.
        let most = at_most (blocks_left_in tables) old.merge.walks at no_walk lt in
        let sofar = reads.spent t s in
        let tried = tried_here t s in
        omega (arith, most, sofar, tried.0, wanted_here first.merge.floor tables (walk_in old.merge.walks at));
  }

-- ---- the memory goes on

module _ (tells : Bool) (tables : List Opened) (first old new : LateMerge) (before after : World) (goes : GoesOn tells tables first old before after) (asleep : new.asleep ≡ old.asleep)
    (floor_is : new.merge.floor ≡ old.merge.floor) (drops_are : new.merge.drops ≡ old.merge.drops) (walks_are : new.merge.walks ≡ old.merge.walks)
    (memory : MemoryPasses old.merge.floor old.merge.memory new.merge.memory) where
  pub goes_memory : GoesOn tells tables first new before after
  goes_memory = record {
    floor = floor_is ∙ goes.floor;
    drops = drops_are ∙ goes.drops;
    numbers_are = ap numbers walks_are ∙ goes.numbers_are;
    stands_are = ap stands walks_are ∙ goes.stands_are;
    memory = subst (λ (f : KeyFloor). above_floor f new.merge.memory ≡ above_floor f old.merge.memory) goes.floor memory.same ∙ goes.memory;
    rises = λ r. memory.rises (goes.rises r);
    each = λ t. ap (map (left_above first.merge.floor tables before.seen.held)) walks_are ∙ goes.each t;
    walks = λ t s. subst (AreSoundWalks first.merge.floor tables before.seen.held) (sym walks_are) (goes.walks t s);
    sleep_on = λ k key is.
        let on = goes.sleep_on k key (ap (λ (os : List (Option Bytes)). waking_at os k) (sym asleep) ∙ is) in
        (on.0, ap (λ (ws : List TableWalk). walk_in ws k) walks_are ∙ on.1);
    wake_late = λ t s k key is none. goes.wake_late t s k key is (ap (λ (os : List (Option Bytes)). waking_at os k) (sym asleep) ∙ none);
    read_sound = λ t. subst (PassSound tables before.seen.held first.merge.walks) (sym walks_are) (goes.read_sound t);
    moves = goes.moves;
  }

  pub reads_memory : ReadsOn tells tables first old before after → ReadsOn tells tables first new before after
  reads_memory reads = record {
    left = subst (λ (ws : List TableWalk). blocks_left tables ws ≤ blocks_left tables first.merge.walks) (sym walks_are) reads.left;
    counted = λ t. subst (λ (ws : List TableWalk). after.seen.reads + next_blocks first.merge.walks ≡ before.seen.reads + next_blocks ws) (sym walks_are) (reads.counted t);
    spent = λ t s. subst (λ (ws : List TableWalk). after.seen.reads + blocks_left tables ws ≤ before.seen.reads + blocks_left tables first.merge.walks) (sym walks_are) (reads.spent t s);
    bounded = λ t s. subst (λ (os : List (Option Bytes)). after.seen.reads + wanted_awake first.merge.floor tables os new.merge.walks ≤ before.seen.reads + wanted_awake first.merge.floor tables os first.merge.walks) (sym asleep)
        (subst (λ (ws : List TableWalk). after.seen.reads + wanted_awake first.merge.floor tables old.asleep ws ≤ before.seen.reads + wanted_awake first.merge.floor tables old.asleep first.merge.walks) (sym walks_are) (reads.bounded t s));
  }

-- ---- a sleeper wakes

module _ (tells : Bool) (tables : List Opened) (first old new : LateMerge) (before after : World) (at : ℕ) (key : Bytes) (goes : GoesOn tells tables first old before after)
    (slept : waking_at old.asleep at ≡ Some key) (there : at < length old.merge.walks) (merge_is : new.merge ≡ old.merge) (woke : new.asleep ≡ slice_set old.asleep at None)
    (late : IsTrue tells → IsSoundLate first tables before.seen.held → IsHeadFrom key (first_of (merged_left first.merge tables before.seen.held))) where
  slept_yet : (k : ℕ) (other : Bytes) → waking_at new.asleep k ≡ Some other → waking_at old.asleep k ≡ Some other
  slept_yet k other is = sleeps_yet old.asleep at k other (ap (λ (os : List (Option Bytes)). waking_at os k) (sym woke) ∙ is)

  one_key : (a b : Bytes) → Some a ≡ Some b → a ≡ b
  one_key a b same = cc

  woke_late : IsTrue tells → IsSoundLate first tables before.seen.held → (k : ℕ) (other : Bytes) → waking_at first.asleep k ≡ Some other → waking_at new.asleep k ≡ None
      → IsHeadFrom other (first_of (merged_left first.merge tables before.seen.held))
  woke_late t s k other is none = of_old (waking_at old.asleep k) refl
    where
      of_old : (o : Option Bytes) → waking_at old.asleep k ≡ o → IsHeadFrom other (first_of (merged_left first.merge tables before.seen.held))
      of_old None now = goes.wake_late t s k other is now
      of_old (Some own) now =
          let here : k ≡ at = woke_now old.asleep at k own now (ap (λ (os : List (Option Bytes)). waking_at os k) (sym woke) ∙ none) in
          let same : own ≡ other = one_key own other (sym (goes.sleep_on k own now).0 ∙ is) in
          let its : own ≡ key = one_key own key (sym now ∙ ap (waking_at old.asleep) here ∙ slept) in
          subst (λ (b : Bytes). IsHeadFrom b (first_of (merged_left first.merge tables before.seen.held))) (sym its ∙ same) (late t s)

  pub goes_woken : GoesOn tells tables first new before after
  goes_woken = record {
    floor = ap (λ (m : Merge). m.floor) merge_is ∙ goes.floor;
    drops = ap (λ (m : Merge). m.drops) merge_is ∙ goes.drops;
    numbers_are = ap (λ (m : Merge). numbers m.walks) merge_is ∙ goes.numbers_are;
    stands_are = ap (λ (m : Merge). stands m.walks) merge_is ∙ goes.stands_are;
    memory = ap (λ (m : Merge). above_floor first.merge.floor m.memory) merge_is ∙ goes.memory;
    rises = λ r. subst (λ (m : Merge). KeysRise m.memory) (sym merge_is) (goes.rises r);
    each = λ t. ap (λ (m : Merge). map (left_above first.merge.floor tables before.seen.held) m.walks) merge_is ∙ goes.each t;
    walks = λ t s. subst (λ (m : Merge). AreSoundWalks first.merge.floor tables before.seen.held m.walks) (sym merge_is) (goes.walks t s);
    sleep_on = λ k other is.
        let on = goes.sleep_on k other (slept_yet k other is) in
        (on.0, ap (λ (m : Merge). walk_in m.walks k) merge_is ∙ on.1);
    wake_late = woke_late;
    read_sound = λ t. subst (λ (m : Merge). PassSound tables before.seen.held first.merge.walks m.walks) (sym merge_is) (goes.read_sound t);
    moves = goes.moves;
  }

  pub reads_woken : ReadsOn tells tables first old before after → ReadsOn tells tables first new before after
  reads_woken reads = record {
    left = subst (λ (m : Merge). blocks_left tables m.walks ≤ blocks_left tables first.merge.walks) (sym merge_is) reads.left;
    counted = λ t. subst (λ (m : Merge). after.seen.reads + next_blocks first.merge.walks ≡ before.seen.reads + next_blocks m.walks) (sym merge_is) (reads.counted t);
    spent = λ t s. subst (λ (m : Merge). after.seen.reads + blocks_left tables m.walks ≤ before.seen.reads + blocks_left tables first.merge.walks) (sym merge_is) (reads.spent t s);
    bounded = λ t s.
        let f = wanted_block_of first.merge.floor tables in
        let many : length old.merge.walks ≡ length first.merge.walks = lengths_are old.merge.walks first.merge.walks goes.numbers_are in
        let now = awake_woken f old.asleep old.merge.walks at key there slept in
        let then = awake_woken f old.asleep first.merge.walks at key (omega (arith, there, many)) slept in
        let same : f (walk_in old.merge.walks at) ≡ f (walk_in first.merge.walks at) = ap f (goes.sleep_on at key slept).1 in
        let sofar = reads.bounded t s in
        subst (λ (os : List (Option Bytes)). after.seen.reads + wanted_awake first.merge.floor tables os new.merge.walks ≤ before.seen.reads + wanted_awake first.merge.floor tables os first.merge.walks) (sym woke)
        (subst (λ (m : Merge). after.seen.reads + wanted_awake first.merge.floor tables (slice_set old.asleep at None) m.walks ≤ before.seen.reads + wanted_awake first.merge.floor tables (slice_set old.asleep at None) first.merge.walks) (sym merge_is)
        (omega (arith, now, then, same, sofar)));
  }

-- ---- what is left on the way

module _ (tells : Bool) (tables : List Opened) (first now : LateMerge) (before after : World) (goes : GoesOn tells tables first now before after) where
  pub left_same : IsTrue tells → merged_left now.merge tables before.seen.held ≡ merged_left first.merge tables before.seen.held
  left_same t =
      ap (λ (f : KeyFloor). merged_rows (sources_above f tables before.seen.held now.merge.memory now.merge.walks)) goes.floor
      ∙ ap₂ (λ (es : List Entry) (ls : List (List Entry)). merged_rows (es ∷ ls)) goes.memory (goes.each t)

  pub sound_now : IsTrue tells → IsSoundLate first tables before.seen.held → IsSoundLate now tables before.seen.held
  sound_now t s = record {
    merge = record {
      memory = goes.rises s.merge.memory;
      walks = subst (λ (f : KeyFloor). AreSoundWalks f tables before.seen.held now.merge.walks) (sym goes.floor) (goes.walks t s.merge.walks);
    };
    asleep = λ at key is.
        let on = goes.sleep_on at key is in
        subst (λ (w : TableWalk). AreFrom key (walk_left tables before.seen.held w)) (sym on.1) (s.asleep at key on.0);
  }
