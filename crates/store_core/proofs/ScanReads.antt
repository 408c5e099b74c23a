-- What the walks of a merge owe, from one row to the next.
use Rattle.std.proofs.Common.{◌≡◌, ◌∙◌, ◌≤◌, ◌<◌, ◌+◌, ℕ, zero, suc, Bool, true, false, cond, not, ◌&&◌, List, [], ◌∷◌, ◌++◌, length, drop, map, refl, sym, ap, subst, arith}
use Rattle.std.specs.Prelude.{Option, Some, None, ◌==◌, IfSome, count_by, get_or, nat_lt, slice_index_or, sum_by}
use Rattle.std.specs.List.{AllByRecursion}
use Rattle.std.proofs.lemmas.Bool.{false≢true, ltb-true}
use Rattle.std.proofs.lemmas.List.Sums.{sum_by-cons}
use Rattle.block_format.specs.Walking.{kept_from}
use Rattle.block_model.specs.Laws.{joined}
use Rattle.disk_trait.specs.Image.{Image}
use Rattle.entry_model.specs.Entries.{Entry}
use Rattle.key_base.specs.ByteOrder.{IsBefore, is_before}
use Rattle.late_rows.specs.Going.{AwakeCaughtUp, IsLatePaced}
use Rattle.late_rows.specs.Late.{AreFrom, IsSoundLate, LateMerge, awake_of, waking_at, walk_in, wanted_awake}
use Rattle.late_rows.specs.Opening.{SleepAbove, SleepOn}
use Rattle.map_model.specs.SortedMap.{Bytes}
use Rattle.merge_rows.proofs.Keys.{at_or_after, is_before_of, not_before_itself}
use Rattle.merge_rows.proofs.Steps.{all_blocks, rises_passed}
use Rattle.merge_rows.specs.Choosing.{IsHeadFrom}
use Rattle.merge_rows.specs.Merges.{TableWalk, blocks_in, left_above, numbered, row_count, walk_left, with_hand}
use Rattle.merge_rows.specs.Reads.{is_used_up, ones, wanted_block_of}
use Rattle.merge_rows.specs.Rows.{KeyFloor, above_floor, clears}
use Rattle.merge_rows.specs.Steps.{AreSoundWalks, FloorRises, IsCaughtUp, IsLeastRow, IsSoundWalk, passed_at}
use Rattle.store_core.proofs.ScanPairs.{from_then_after}
use Rattle.store_core.specs.Scans.{all_owed, owed, wakes_up_to, woken_up_to}
use Rattle.table_file.specs.Opened.{Opened}
use Rattle.table_file.specs.Walks.{BeginsWell, CursorWalk, is_due, joined_from, to_come}

abbrev one_if : Bool → ℕ
one_if is = cond is 1 0

ones_few : (b : Bool) → ones b ≤ 1
ones_few true = omega arith
ones_few false = omega arith

-- ---- entries above a floor that pass a test

abbrev counted : (Bytes → Bool) → KeyFloor → List Entry → ℕ
counted below floor entries = count_by (λ (e : Entry). clears floor e.key && below e.key) entries

counted_more : (below : Bytes → Bool) (floor : KeyFloor) (e : Entry) (more : List Entry) → counted below floor (e ∷ more) ≡ one_if (clears floor e.key && below e.key) + counted below floor more
counted_more below floor e more = sum_by-cons (λ (x : Entry). one_if (clears floor x.key && below x.key)) e more

-- they are those of what is above the floor
counted_cut : (below : Bytes → Bool) (floor : KeyFloor) (entries : List Entry) → counted below floor entries ≡ count_by (λ (e : Entry). below e.key) (above_floor floor entries)
counted_cut below floor [] = refl
counted_cut below floor (e ∷ more) = by_test (counted_cut below floor more) (clears floor e.key) refl
  where
    by_test : counted below floor more ≡ count_by (λ (e : Entry). below e.key) (above_floor floor more) → (clear : Bool) → clears floor e.key ≡ clear
        → counted below floor (e ∷ more) ≡ count_by (λ (e : Entry). below e.key) (cond clear (e ∷ above_floor floor more) (above_floor floor more))
    by_test rest true is =
        let here : one_if (clears floor e.key && below e.key) ≡ one_if (below e.key) = ap (λ (b : Bool). one_if (b && below e.key)) is in
        omega (arith, rest, here, counted_more below floor e more, sum_by-cons (λ (x : Entry). one_if (below x.key)) e (above_floor floor more))
    by_test rest false is =
        let here : one_if (clears floor e.key && below e.key) ≡ 0 = ap (λ (b : Bool). one_if (b && below e.key)) is in
        omega (arith, rest, here, counted_more below floor e more)

one_fewer_of : (a b c : Bool) → (a ≡ true → b ≡ true) → one_if (a && c) ≤ one_if (b && c)
one_fewer_of true b c rises = let here : one_if (b && c) ≡ one_if c = ap (λ (x : Bool). one_if (x && c)) (rises refl) in omega (arith, here)
one_fewer_of false b c rises = omega arith

-- a floor that rises has no more above it
counted_fewer : (below : Bytes → Bool) (old new : KeyFloor) → FloorRises old new → (entries : List Entry) → counted below new entries ≤ counted below old entries
counted_fewer below old new rises [] = omega arith
counted_fewer below old new rises (e ∷ more) =
    omega (arith, counted_fewer below old new rises more, counted_more below old e more, counted_more below new e more, one_fewer_of (clears new e.key) (clears old e.key) (below e.key) (rises e.key))

-- ---- a walk of which nothing is left needs nothing

none_left : (walk : CursorWalk) (blocks : List (List Entry)) (rows : ℕ) → rows ≡ length blocks → BeginsWell walk blocks → to_come walk blocks ≡ [] → is_due walk rows ≡ false
none_left walk blocks rows many begins none = by_due (is_due walk rows) refl
  where
    drop_first : (n : ℕ) (blocks : List (List Entry)) → n < length blocks → drop n blocks ≡ slice_index_or blocks n [] ∷ drop (suc n) blocks
    drop_first n [] less = absurd (omega (arith, less))
    drop_first zero (block ∷ more) less = refl
    drop_first (suc n) (block ∷ more) less = drop_first n more (omega (arith, less))

    no_first : (xs ys : List Entry) → xs ++ ys ≡ [] → length xs ≡ 0
    no_first [] ys is = refl
    no_first (x ∷ xs) ys is = absurd cc

    no_second : (xs ys : List Entry) → xs ++ ys ≡ [] → ys ≡ []
    no_second [] ys is = is
    no_second (x ∷ xs) ys is = absurd cc

    both : (a b : Bool) → a && b ≡ true → b ≡ true
    both true b is = is
    both false b is = absurd (false≢true is)

    by_due : (due : Bool) → is_due walk rows ≡ due → due ≡ false
    by_due false is = refl
    by_due true is =
        let less : walk.block < length blocks = omega (arith, many, ltb-true walk.block rows (both (length walk.later == 0) (nat_lt walk.block rows) is)) in
        let left : joined_from walk.bound (drop walk.block blocks) ≡ [] = no_second walk.later _ none in
        let first : kept_from walk.bound (slice_index_or blocks walk.block []) ++ joined (drop (suc walk.block) blocks) ≡ [] = sym (ap (joined_from walk.bound) (drop_first walk.block blocks less)) ∙ left in
        absurd (omega (arith, begins less, no_first (kept_from walk.bound (slice_index_or blocks walk.block [])) _ first))

-- ---- walks that are awake, by the first of them

-- a number, unless the walk sleeps
abbrev unless_asleep : Option Bytes → ℕ → ℕ
unless_asleep None n = n
unless_asleep (Some key) n = 0

waking_rest : (asleep : List (Option Bytes)) (at : ℕ) → waking_at (drop 1 asleep) at ≡ waking_at asleep (suc at)
waking_rest [] at = refl
waking_rest (o ∷ asleep) at = refl

either_less : (b : Bool) (m n : ℕ) → m ≤ n → cond b m 0 ≤ cond b n 0
either_less true m n less = less
either_less false m n less = omega arith

module _ (f : TableWalk → ℕ) where
  none_awake : (asleep : List (Option Bytes)) → sum_by f (awake_of asleep []) ≡ 0
  none_awake [] = refl
  none_awake (o ∷ asleep) = refl

  pub none_woken : (looks : Option Bytes) (asleep : List (Option Bytes)) → sum_by f (woken_up_to looks asleep []) ≡ 0
  none_woken looks [] = refl
  none_woken looks (o ∷ asleep) = refl

  first_awake : (asleep : List (Option Bytes)) (w : TableWalk) (walks : List TableWalk)
      → sum_by f (awake_of asleep (w ∷ walks)) ≡ unless_asleep (waking_at asleep 0) (f w) + sum_by f (awake_of (drop 1 asleep) walks)
  first_awake [] w walks = sum_by-cons f w walks
  first_awake (None ∷ asleep) w walks = sum_by-cons f w (awake_of asleep walks)
  first_awake (Some key ∷ asleep) w walks = omega arith

  first_woken : (looks : Option Bytes) (asleep : List (Option Bytes)) (w : TableWalk) (walks : List TableWalk)
      → sum_by f (woken_up_to looks asleep (w ∷ walks)) ≡ cond (wakes_up_to looks (waking_at asleep 0)) (f w) 0 + sum_by f (woken_up_to looks (drop 1 asleep) walks)
  first_woken looks [] w walks = sum_by-cons f w walks
  first_woken looks (o ∷ asleep) w walks = elim (wakes_up_to looks o) as (λ b.
      sum_by f (cond b (w ∷ woken_up_to looks asleep walks) (woken_up_to looks asleep walks)) ≡ cond b (f w) 0 + sum_by f (woken_up_to looks asleep walks)) [
        | true ↦ sum_by-cons f w (woken_up_to looks asleep walks)
        | false ↦ omega arith
      ]

module _ (below : Bytes → Bool) (tables : List Opened) (image : Image) where
  many_rows : (number : ℕ) (found : Option Opened) → row_count found ≡ length (blocks_in found image)
  many_rows number None = refl
  many_rows number (Some t) = sym (all_blocks t image)

  abbrev later_of : TableWalk → List Entry
  later_of w = to_come w.walk (blocks_in (numbered tables w.number) image)

  abbrev due_of : TableWalk → Bool
  due_of w = is_due w.walk (row_count (numbered tables w.number))

  module _ (old new : KeyFloor) (low : Bytes) (clear : clears old low ≡ true) (is : new ≡ passed_at low) (under : below low ≡ true) where
    rises : FloorRises old new
    rises = rises_passed old new low clear is

    clears_new : (key : Bytes) → clears new key ≡ is_before low key
    clears_new key = ap (λ (f : KeyFloor). clears f key) is

    -- one walk: its head is used up only where it had the row's key, and then it has lost that entry
    abbrev IsPaid : TableWalk → Option Entry → Type 0
    IsPaid w now = ones (is_used_up new now && due_of w) + counted below new (with_hand now (later_of w)) ≤ counted below old (with_hand now (later_of w))

    owed_same : (w : TableWalk) (e : Entry) → clears old e.key ≡ true → e.key ≡ low → IsPaid w (Some e)
    owed_same w e ready equal =
        let passed : clears new e.key ≡ false = clears_new e.key ∙ ap (is_before low) equal ∙ not_before_itself low in
        let gone : one_if (clears new e.key && below e.key) ≡ 0 = ap (λ (b : Bool). one_if (b && below e.key)) passed in
        let test : below e.key ≡ true = ap below equal ∙ under in
        let here : one_if (clears old e.key && below e.key) ≡ 1 = ap (λ (b : Bool). one_if (b && below e.key)) ready ∙ ap one_if test in
        omega (
          arith,
          gone,
          here,
          ones_few (not (clears new e.key) && due_of w),
          counted_more below new e (later_of w),
          counted_more below old e (later_of w),
          counted_fewer below old new rises (later_of w),
        )

    owed_after : (w : TableWalk) (e : Entry) → IsBefore low e.key → IsPaid w (Some e)
    owed_after w e less =
        let stays : clears new e.key ≡ true = clears_new e.key ∙ is_before_of low e.key less in
        let none : ones (not (clears new e.key) && due_of w) ≡ 0 = ap (λ (b : Bool). ones (not b && due_of w)) stays in
        omega (arith, none, counted_fewer below old new rises (e ∷ later_of w))

    owed_head : (w : TableWalk) (now : Option Entry) → IsCaughtUp old now (with_hand now (later_of w)) → IsHeadFrom low now → BeginsWell w.walk (blocks_in (numbered tables w.number) image) → IsPaid w now
    owed_head w None ready from begins =
        let due = none_left w.walk (blocks_in (numbered tables w.number) image) (row_count (numbered tables w.number)) (many_rows w.number (numbered tables w.number)) begins ready in
        let none : ones (true && due_of w) ≡ 0 = ap ones due in
        omega (arith, none, counted_fewer below old new rises (later_of w))
    owed_head w (Some e) ready from begins = at_or_after (IsPaid w (Some e)) e.key low from (owed_same w e ready) (owed_after w e)

    owed_walk : (w : TableWalk) → IsCaughtUp old w.walk.now (walk_left tables image w) → IsHeadFrom low w.walk.now → IsSoundWalk new w.walk (blocks_in (numbered tables w.number) image)
        → owed below new tables image w ≤ count_by (λ (e : Entry). below e.key) (left_above old tables image w)
    owed_walk w ready from sound = omega (arith, owed_head w w.walk.now ready from sound.begins, counted_cut below old (walk_left tables image w))

    -- a sleeper's entries come after the row, so nothing is used up
    owed_clear : (w : TableWalk) (now : Option Entry) → IfSome now (λ (e : Entry). is_before low e.key ≡ true) → ones (is_used_up new now && due_of w) ≤ ones (is_used_up old now && due_of w)
    owed_clear w None after = omega arith
    owed_clear w (Some e) after =
        let none : ones (not (clears new e.key) && due_of w) ≡ 0 = ap (λ (b : Bool). ones (not b && due_of w)) (clears_new e.key ∙ after) in
        omega (arith, none)

    sleep_walk : (w v : TableWalk) → v ≡ w → IfSome w.walk.now (λ (e : Entry). is_before low e.key ≡ true) → owed below new tables image v ≤ owed below old tables image w
    sleep_walk w v same after =
        let here = ap (owed below new tables image) same in
        omega (arith, here, owed_clear w w.walk.now after, counted_fewer below old new rises (walk_left tables image w))

    -- what is read for the next row of a walk that is awake is owed no more
    pay_walk : (w v : TableWalk) → left_above old tables image v ≡ left_above old tables image w → IsCaughtUp old v.walk.now (walk_left tables image v) → IsHeadFrom low v.walk.now
        → IsSoundWalk new v.walk (blocks_in (numbered tables v.number) image) → wanted_block_of old tables w + owed below new tables image v ≤ owed below old tables image w
    pay_walk w v same ready from sound =
        omega (arith, owed_walk v ready from sound, ap (λ (l : List Entry). count_by (λ (e : Entry). below e.key) l) same, counted_cut below old (walk_left tables image w))

    -- who is awake was so, or its key is up to where the step looks; the others stand where they stood, and their entries come after the row
    pub record IsPaidFor (looks : Option Bytes) (before after : List (Option Bytes)) (ws vs : List TableWalk) : Type 0 where
      pub woken : (at : ℕ) → waking_at after at ≡ None → wakes_up_to looks (waking_at before at) ≡ true
      pub slept : (at : ℕ) (key : Bytes) → waking_at after at ≡ Some key → waking_at before at ≡ Some key
      pub stood : (at : ℕ) (key : Bytes) → waking_at after at ≡ Some key → walk_in vs at ≡ walk_in ws at
      pub later : (at : ℕ) (key : Bytes) → waking_at after at ≡ Some key → IfSome (walk_in ws at).walk.now (λ (e : Entry). is_before low e.key ≡ true)
      pub ready : AwakeCaughtUp old tables image after vs
      pub same : map (left_above old tables image) vs ≡ map (left_above old tables image) ws
      pub from : AllByRecursion (λ (v : TableWalk). IsHeadFrom low v.walk.now) vs
      pub sound : AreSoundWalks new tables image vs

    no_walks : {X : Type 0} (f : TableWalk → X) (w : TableWalk) (ws : List TableWalk) → map f (w ∷ ws) ≡ map f [] → ⊥
    no_walks f w ws is = let none : length (map f (w ∷ ws)) ≡ 0 = ap (λ l. length l) is in omega (arith, none)

    first_left : (v w : TableWalk) (vs ws : List TableWalk) → map (left_above old tables image) (v ∷ vs) ≡ map (left_above old tables image) (w ∷ ws) → left_above old tables image v ≡ left_above old tables image w
    first_left v w vs ws is = ap (λ (l : List (List Entry)). get_or l 0 []) is

    rest_left : (v w : TableWalk) (vs ws : List TableWalk) → map (left_above old tables image) (v ∷ vs) ≡ map (left_above old tables image) (w ∷ ws) → map (left_above old tables image) vs ≡ map (left_above old tables image) ws
    rest_left v w vs ws is = ap (drop 1) is

    paid_rest : (looks : Option Bytes) (before after : List (Option Bytes)) (w v : TableWalk) (ws vs : List TableWalk) → IsPaidFor looks before after (w ∷ ws) (v ∷ vs) → IsPaidFor looks (drop 1 before) (drop 1 after) ws vs
    paid_rest looks before after w v ws vs paid = record {
      woken = λ at none. ap (wakes_up_to looks) (waking_rest before at) ∙ paid.woken (suc at) (sym (waking_rest after at) ∙ none);
      slept = λ at key is. waking_rest before at ∙ paid.slept (suc at) key (sym (waking_rest after at) ∙ is);
      stood = λ at key is. paid.stood (suc at) key (sym (waking_rest after at) ∙ is);
      later = λ at key is. paid.later (suc at) key (sym (waking_rest after at) ∙ is);
      ready = λ at lt none. paid.ready (suc at) (omega (arith, lt)) (sym (waking_rest after at) ∙ none);
      same = rest_left v w vs ws paid.same;
      from = paid.from.1;
      sound = paid.sound.1;
    }

    paid_walks : (looks : Option Bytes) (before after : List (Option Bytes)) (ws vs : List TableWalk) → IsPaidFor looks before after ws vs
        → wanted_awake old tables after ws + sum_by (owed below new tables image) (woken_up_to looks after vs) ≤ sum_by (owed below old tables image) (woken_up_to looks before ws)
    paid_walks looks before after [] [] paid =
        omega (arith, none_awake (wanted_block_of old tables) after, none_woken (owed below new tables image) looks after, none_woken (owed below old tables image) looks before)
    paid_walks looks before after [] (v ∷ vs) paid = absurd (no_walks (left_above old tables image) v vs paid.same)
    paid_walks looks before after (w ∷ ws) [] paid = absurd (no_walks (left_above old tables image) w ws (sym paid.same))
    paid_walks looks before after (w ∷ ws) (v ∷ vs) paid =
        let rest = paid_walks looks (drop 1 before) (drop 1 after) ws vs (paid_rest looks before after w v ws vs paid) in
        let one = by_first (waking_at after 0) refl in
        omega (
          arith,
          rest,
          one,
          first_awake (wanted_block_of old tables) after w ws,
          first_woken (owed below new tables image) looks after v vs,
          first_woken (owed below old tables image) looks before w ws,
        )
      where
        by_first : (o : Option Bytes) → waking_at after 0 ≡ o
            → unless_asleep (waking_at after 0) (wanted_block_of old tables w) + cond (wakes_up_to looks (waking_at after 0)) (owed below new tables image v) 0
            ≤ cond (wakes_up_to looks (waking_at before 0)) (owed below old tables image w) 0
        by_first None is =
            let here = pay_walk w v (first_left v w vs ws paid.same) (paid.ready 0 (omega arith) is) paid.from.0 paid.sound.0 in
            omega (
              arith,
              here,
              ap (λ (o : Option Bytes). unless_asleep o (wanted_block_of old tables w)) is,
              ap (λ (o : Option Bytes). cond (wakes_up_to looks o) (owed below new tables image v) 0) is,
              ap (λ (b : Bool). cond b (owed below old tables image w) 0) (paid.woken 0 is),
            )
        by_first (Some key) is =
            let here = sleep_walk w v (paid.stood 0 key is) (paid.later 0 key is) in
            omega (
              arith,
              either_less (wakes_up_to looks (Some key)) (owed below new tables image v) (owed below old tables image w) here,
              ap (λ (o : Option Bytes). unless_asleep o (wanted_block_of old tables w)) is,
              ap (λ (o : Option Bytes). cond (wakes_up_to looks o) (owed below new tables image v) 0) is,
              ap (λ (o : Option Bytes). cond (wakes_up_to looks o) (owed below old tables image w) 0) (paid.slept 0 key is),
            )

  -- what a step wants of those who are awake is owed, whatever came of it
  wanted_walks : (looks : Option Bytes) (floor : KeyFloor) (before after : List (Option Bytes)) → ((at : ℕ) → waking_at after at ≡ None → wakes_up_to looks (waking_at before at) ≡ true) → (ws : List TableWalk)
      → wanted_awake floor tables after ws ≤ sum_by (owed below floor tables image) (woken_up_to looks before ws)
  wanted_walks looks floor before after woken [] = omega (arith, none_awake (wanted_block_of floor tables) after)
  wanted_walks looks floor before after woken (w ∷ ws) =
      let rest = wanted_walks looks floor (drop 1 before) (drop 1 after) (λ at none. ap (wakes_up_to looks) (waking_rest before at) ∙ woken (suc at) (sym (waking_rest after at) ∙ none)) ws in
      omega (
        arith,
        rest,
        by_first (waking_at after 0) refl,
        first_awake (wanted_block_of floor tables) after w ws,
        first_woken (owed below floor tables image) looks before w ws,
      )
    where
      by_first : (o : Option Bytes) → waking_at after 0 ≡ o → unless_asleep (waking_at after 0) (wanted_block_of floor tables w) ≤ cond (wakes_up_to looks (waking_at before 0)) (owed below floor tables image w) 0
      by_first None is =
          omega (
            arith,
            ap (λ (o : Option Bytes). unless_asleep o (wanted_block_of floor tables w)) is,
            ap (λ (b : Bool). cond b (owed below floor tables image w) 0) (woken 0 is),
          )
      by_first (Some key) is = omega (arith, ap (λ (o : Option Bytes). unless_asleep o (wanted_block_of floor tables w)) is)

  pub wanted_owed : (looks : Option Bytes) (l : LateMerge) (after : List (Option Bytes)) → ((at : ℕ) → waking_at after at ≡ None → wakes_up_to looks (waking_at l.asleep at) ≡ true)
      → wanted_awake l.merge.floor tables after l.merge.walks ≤ all_owed below looks l tables image
  wanted_owed looks l after woken = wanted_walks looks l.merge.floor l.asleep after woken l.merge.walks

  -- what is read for a row is paid by what is owed no more
  pub paid : (looks : Option Bytes) (old new : LateMerge) (row : Entry) → IsLatePaced tables image old new → IsLeastRow new.merge → IsSoundLate new tables image → SleepOn old new → SleepAbove row.key new.asleep
      → new.merge.now ≡ Some row → clears old.merge.floor row.key ≡ true → new.merge.floor ≡ passed_at row.key → below row.key ≡ true
      → ((at : ℕ) → waking_at new.asleep at ≡ None → wakes_up_to looks (waking_at old.asleep at) ≡ true)
      → wanted_awake old.merge.floor tables new.asleep old.merge.walks + all_owed below looks new tables image ≤ all_owed below looks old tables image
  paid looks old new row paced least sound stand above now clear floor under woken =
      paid_walks old.merge.floor new.merge.floor row.key clear floor under looks old.asleep new.asleep old.merge.walks new.merge.walks (record {
        woken = woken;
        slept = λ at key is. (stand at key is).0;
        stood = λ at key is. (stand at key is).1;
        later = λ at key is. later_head key (walk_in old.merge.walks at) (is_before_of row.key key (above at key is))
            (subst (λ (w : TableWalk). AreFrom key (walk_left tables image w)) (stand at key is).1 (sound.asleep at key is));
        ready = paced.caught_up;
        same = paced.same;
        from = subst (λ (o : Option Entry). IfSome o (λ (r : Entry). AllByRecursion (λ (w : TableWalk). IsHeadFrom r.key w.walk.now) new.merge.walks)) now least;
        sound = sound.merge.walks;
      })
    where
      later_now : (key : Bytes) (now : Option Entry) (later : List Entry) → is_before row.key key ≡ true → AreFrom key (with_hand now later) → IfSome now (λ (e : Entry). is_before row.key e.key ≡ true)
      later_now key None later less from = tt
      later_now key (Some e) later less from = from_then_after e.key key row.key from.0 less

      later_head : (key : Bytes) (w : TableWalk) → is_before row.key key ≡ true → AreFrom key (walk_left tables image w) → IfSome w.walk.now (λ (e : Entry). is_before row.key e.key ≡ true)
      later_head key w less from = later_now key w.walk.now (later_of w) less from
