-- The walks that are awake catch up, one after the other.
use Rattle.std.proofs.Common.{◌≡◌, ◌∙◌, ◌+◌, ◌<◌, ◌≤◌, ℕ, suc, List, [], ◌∷◌, length, refl, sym, ap, subst, Bool, true, inl, inr, arith}
use Rattle.std.specs.Prelude.{IsOk, IsTrue, Option, Some, None, Result, Ok, Err, is_some}
use Rattle.std.proofs.lemmas.Bool.{cases_lt, false≢true}
use Rattle.disk_trait.specs.Image.{Image}
use Rattle.disk_trait.specs.World.{ReadMoves, World}
use Rattle.entry_model.specs.Entries.{Entry}
use Rattle.map_model.specs.SortedMap.{Bytes}
use Rattle.merge_rows.specs.CatchingUp.{CatchesUp, CatchesUpAt}
use Rattle.merge_rows.specs.Merges.{TableWalk, walk_left}
use Rattle.merge_rows.specs.Rows.{KeyFloor}
use Rattle.merge_rows.specs.Steps.{AreHeadsClear, IsCaughtUp, IsHeadClear}
use Rattle.merge_rows.proofs.Stays.{only_then}
use Rattle.table_file.specs.Opened.{Opened}
use Rattle.late_rows.proofs.Awake.{walk_here, walk_other}
use Rattle.late_rows.proofs.Going.{goes_caught, one, reads_caught, within}
use Rattle.late_rows.specs.Going.{GoesOn, ReadsOn}
use Rattle.late_rows.specs.Late.{AreStill, LateMerge, waking_at, walk_in}

-- the walks of the first so many that are awake have caught up
pub record SoFar (tells : Bool) (tables : List Opened) (count : ℕ) (first now : LateMerge) (before after : World) : Type 0 where
  pub asleep : now.asleep ≡ first.asleep
  pub goes : GoesOn tells tables first now before after
  pub reads : ReadsOn tells tables first now before after
  pub caught_up : IsTrue tells → (at : ℕ) → at < count → at < length now.merge.walks → waking_at now.asleep at ≡ None
      → IsCaughtUp first.merge.floor (walk_in now.merge.walks at).walk.now (walk_left tables before.seen.held (walk_in now.merge.walks at))
  pub heads_pass : (at : ℕ) → at < count → at < length now.merge.walks → waking_at now.asleep at ≡ None → IsHeadClear first.merge.floor (walk_in now.merge.walks at).walk.now

-- one more is asked for it
module _ (tells : Bool) (tables : List Opened) (count : ℕ) (first old new : LateMerge) (before mid after : World) (sofar : SoFar tells tables count first old before mid)
    (asleep : new.asleep ≡ old.asleep) where
  -- the walk of each place: that one, or another, which stands where it stood
  by_place : {P : Type 0} (at : ℕ) → at < count + 1 → (at < count → P) → (at ≡ count → P) → P
  by_place at lt below here = elim (cases_lt at count) [
    | inl less ↦ below less
    | inr from ↦ here (omega (arith, lt, from))
  ]

  still_awake : (at : ℕ) → waking_at new.asleep at ≡ None → waking_at old.asleep at ≡ None
  still_awake at none = ap (λ (os : List (Option Bytes)). waking_at os at) (sym asleep) ∙ none

  -- it is awake, and catches up
  pub turn_awake : waking_at old.asleep count ≡ None → CatchesUpAt tells tables count old.merge new.merge (Ok tt) mid after → SoFar tells tables (count + 1) first new before after
  turn_awake awake catches = record {
    asleep = asleep ∙ sofar.asleep;
    goes = goes_caught tells tables first old new count (Ok tt) before mid after sofar.goes asleep awake catches;
    reads = reads_caught tells tables first old new count before mid after sofar.goes sofar.reads asleep awake catches;
    caught_up = λ t at lt in_walks none. by_place at lt
        (λ less. subst (λ (w : TableWalk). IsCaughtUp first.merge.floor w.walk.now (walk_left tables before.seen.held w)) (sym (same at less))
        (sofar.caught_up t at less (omega (arith, less, there)) (still_awake at none)))
        (λ same_place. subst (λ (w : TableWalk). IsCaughtUp first.merge.floor w.walk.now (walk_left tables before.seen.held w)) (sym (its at same_place))
        (subst (λ (h : Image). IsCaughtUp first.merge.floor catches.walks.to.walk.now (walk_left tables h catches.walks.to)) sofar.goes.moves.1.held (caught.caught_up t)));
    heads_pass = λ at lt in_walks none. by_place at lt
        (λ less. subst (λ (w : TableWalk). IsHeadClear first.merge.floor w.walk.now) (sym (same at less)) (sofar.heads_pass at less (omega (arith, less, there)) (still_awake at none)))
        (λ same_place. subst (λ (w : TableWalk). IsHeadClear first.merge.floor w.walk.now) (sym (its at same_place)) caught.heads_pass);
  }
    where
      there : count < length old.merge.walks
      there = within tells tables first old new count (Ok tt) before mid after sofar.goes asleep awake catches

      caught : CatchesUp tells first.merge.floor tables (walk_in old.merge.walks count) catches.walks.to (Ok tt) mid after
      caught = one tells tables first old new count (Ok tt) before mid after sofar.goes asleep awake catches

      same : (at : ℕ) → at < count → walk_in new.merge.walks at ≡ walk_in old.merge.walks at
      same at less = ap (λ (ws : List TableWalk). walk_in ws at) catches.walks.set ∙ walk_other old.merge.walks count at catches.walks.to (λ e. omega (arith, less, e))

      its : (at : ℕ) → at ≡ count → walk_in new.merge.walks at ≡ catches.walks.to
      its at e = ap (walk_in new.merge.walks) e ∙ ap (λ (ws : List TableWalk). walk_in ws count) catches.walks.set ∙ walk_here old.merge.walks count catches.walks.to there

-- it sleeps, and nothing is read
goes_idle : (tells : Bool) (tables : List Opened) (first now : LateMerge) (before mid after : World) → GoesOn tells tables first now before mid → ReadMoves 0 mid after → GoesOn tells tables first now before after
goes_idle tells tables first now before mid after goes idle = record {
  floor = goes.floor;
  drops = goes.drops;
  numbers_are = goes.numbers_are;
  stands_are = goes.stands_are;
  memory = goes.memory;
  rises = goes.rises;
  each = goes.each;
  walks = goes.walks;
  sleep_on = goes.sleep_on;
  wake_late = goes.wake_late;
  read_sound = goes.read_sound;
  moves = only_then 0 before mid after goes.moves idle;
}

reads_idle : (tells : Bool) (tables : List Opened) (first now : LateMerge) (before mid after : World) → ReadsOn tells tables first now before mid → ReadMoves 0 mid after → ReadsOn tells tables first now before after
reads_idle tells tables first now before mid after reads idle = record {
  left = reads.left;
  counted = λ t. let sofar = reads.counted t in omega (arith, sofar, idle.reads, idle.reads_later);
  spent = λ t s. let sofar = reads.spent t s in omega (arith, sofar, idle.reads, idle.reads_later);
  bounded = λ t s. let sofar = reads.bounded t s in omega (arith, sofar, idle.reads, idle.reads_later);
}

pub turn_asleep : (tells : Bool) (tables : List Opened) (count : ℕ) (first now : LateMerge) (before mid after : World) → SoFar tells tables count first now before mid → ReadMoves 0 mid after
    → is_some (waking_at now.asleep count) ≡ true → SoFar tells tables (count + 1) first now before after
turn_asleep tells tables count first now before mid after sofar idle sleeps = record {
  asleep = sofar.asleep;
  goes = goes_idle tells tables first now before mid after sofar.goes idle;
  reads = reads_idle tells tables first now before mid after sofar.reads idle;
  caught_up = λ t at lt in_walks none. by_place at lt (λ less. sofar.caught_up t at less in_walks none) (λ same. awake at same none);
  heads_pass = λ at lt in_walks none. by_place at lt (λ less. sofar.heads_pass at less in_walks none) (λ same. awake at same none);
}
  where
    by_place : {P : Type 0} (at : ℕ) → at < count + 1 → (at < count → P) → (at ≡ count → P) → P
    by_place at lt below here = elim (cases_lt at count) [
      | inl less ↦ below less
      | inr from ↦ here (omega (arith, lt, from))
    ]

    awake : {P : Type 0} (at : ℕ) → at ≡ count → waking_at now.asleep at ≡ None → P
    awake at same none = absurd (false≢true (sym (ap (λ (o : Option Bytes). is_some o) (ap (waking_at now.asleep) (sym same) ∙ none)) ∙ sleeps))

-- whichever of both
pub turn : (tells : Bool) (tables : List Opened) (count : ℕ) (first old new : LateMerge) (before mid after : World) → SoFar tells tables count first old before mid → new.asleep ≡ old.asleep
    → (waking_at old.asleep count ≡ None → CatchesUpAt tells tables count old.merge new.merge (Ok tt) mid after)
    → (is_some (waking_at old.asleep count) ≡ true → (new ≡ old) × ReadMoves 0 mid after) → SoFar tells tables (count + 1) first new before after
turn tells tables count first old new before mid after sofar asleep awake sleeps = of_key (waking_at old.asleep count) refl
  where
    of_key : (o : Option Bytes) → waking_at old.asleep count ≡ o → SoFar tells tables (count + 1) first new before after
    of_key None is = turn_awake tells tables count first old new before mid after sofar asleep is (awake is)
    of_key (Some key) is =
        let some : is_some (waking_at old.asleep count) ≡ true = ap (λ (o : Option Bytes). is_some o) is in
        let same = sleeps some in
        subst (λ (l : LateMerge). SoFar tells tables (count + 1) first l before after) (sym same.0)
        (turn_asleep tells tables count first old before mid after sofar same.1 some)

-- ---- at the end

heads_clear : (floor : KeyFloor) (walks : List TableWalk) → ((at : ℕ) → at < length walks → IsHeadClear floor (walk_in walks at).walk.now) → AreHeadsClear floor walks
heads_clear floor [] each = tt
heads_clear floor (w ∷ walks) each = (each 0 (omega arith), heads_clear floor walks (λ at lt. each (suc at) (omega (arith, lt))))

still_clear : (floor : KeyFloor) (now : Option Entry) → now ≡ None → IsHeadClear floor now
still_clear floor now none = subst (IsHeadClear floor) (sym none) tt

pub all_clear : (tells : Bool) (tables : List Opened) (count : ℕ) (first now : LateMerge) (before after : World) → SoFar tells tables count first now before after
    → AreStill first.asleep first.merge.walks → length now.merge.walks ≤ count → AreHeadsClear first.merge.floor now.merge.walks
all_clear tells tables count first now before after sofar still many = heads_clear first.merge.floor now.merge.walks (λ at lt. of_key at lt (waking_at now.asleep at) refl)
  where
    of_key : (at : ℕ) → at < length now.merge.walks → (o : Option Bytes) → waking_at now.asleep at ≡ o → IsHeadClear first.merge.floor (walk_in now.merge.walks at).walk.now
    of_key at lt None is = sofar.heads_pass at (omega (arith, lt, many)) lt is
    of_key at lt (Some key) is =
        let on = sofar.goes.sleep_on at key is in
        still_clear first.merge.floor (walk_in now.merge.walks at).walk.now (ap (λ (w : TableWalk). w.walk.now) on.1 ∙ still at key on.0)

-- where a call fails, the walk is awake
pub awake_of_err : {T E : Type 0} (result : Result T E) (why : E) (o : Option Bytes) → result ≡ Err why → (is_some o ≡ true → IsOk result) → o ≡ None
awake_of_err result why None is ok = refl
awake_of_err {T} {E} result why (Some key) is ok = absurd (false≢true (subst (λ (r : Result T E). IsOk r) is (ok refl)))
