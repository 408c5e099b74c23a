-- An entry that is written, with a flush before it or without.
use Rattle.std.proofs.Common.{◌≡◌, ◌⊎◌, inl, inr, ◌+◌, ◌<◌, ◌≤◌, ℕ, List, Bool, true, false, cond, sym, ap, subst, ◌∙◌, arith}
use Rattle.std.proofs.lemmas.Bool.{le-leb}
use Rattle.std.specs.Prelude.{Result, Ok, Err, IfErr, OnErr, nat_le}
use Rattle.disk_trait.specs.Image.{Image}
use Rattle.disk_trait.specs.World.{World}
use Rattle.disk_trait.proofs.Moments.{meanwhile_then, meanwhile_weaker}
use Rattle.entry_model.specs.Entries.{Entry, filled, gap, need}
use Rattle.filter_api.specs.Spellings.{Spelling}
use Rattle.image_model.specs.Stands.{StandsForMap}
use Rattle.map_model.specs.SortedMap.{Map}
use Rattle.mem_table.specs.Table.{MemoryTable}
use Rattle.state_model.proofs.Kept.{flushed_keeps}
use Rattle.state_model.specs.Changes.{flushed, is_long, logged, logged_then, written}
use Rattle.state_model.specs.State.{State}
use Rattle.state_model.specs.View.{state_map}
use Rattle.table_model.specs.Tables.{FilterBytes}
use Rattle.store_core.specs.Answers.{IsFailure, IsWriteFailure, MovesTo, WroteEntry, refused, stopped_by, turns}
use Rattle.store_core.specs.StoreValue.{IsConsistent, StoreValue}
use Rattle.store_core.specs.Represents.{Represents}
use Rattle.store_core.specs.declared.error.StoreError.{StoreError}
use Rattle.store_core.specs.declared.error.StoreError.TheVariants as error
use Rattle.store_core.proofs.Ties.{gap_is, written_fits, written_short}
use Rattle.range_model.specs.Sources.{Sets}
use Rattle.state_model.specs.Logs.{gap_after}

-- ---- a write that failed in the device

pub is_failure : {T : Type 0} (r : Result T StoreError) (a b : World) → IfErr r (IsWriteFailure a b) → IfErr r IsFailure
is_failure (Ok x) a b why = tt
is_failure (Err error.Memory) a b why = absurd why
is_failure (Err (error.Device cause)) a b why = tt
is_failure (Err error.Stopped) a b why = absurd why
is_failure (Err (error.Limit limit)) a b why = absurd why
is_failure (Err (error.Full need gap)) a b why = absurd why
is_failure (Err (error.Damaged damage)) a b why = absurd why
is_failure (Err error.NotAStore) a b why = absurd why
is_failure (Err error.AlreadyAStore) a b why = absurd why
is_failure (Err (error.BadSettings field)) a b why = absurd why

-- it is no lack of memory
no_want : {T : Type 0} (r : Result T StoreError) (a b : World) (P : Type 0) → IfErr r (IsWriteFailure a b) → IfErr r (λ (why : StoreError). why ≡ error.Memory → P)
no_want (Ok x) a b P why = tt
no_want (Err e) a b P why = λ is. absurd (subst (IsWriteFailure a b) is why)

-- it stops the store
pub stops_it : {T : Type 0} (r : Result T StoreError) (a b : World) → IfErr r (IsWriteFailure a b) → OnErr r (stopped_by r ≡ true)
stops_it (Ok x) a b why = tt
stops_it (Err error.Memory) a b why = absurd why
stops_it (Err (error.Device cause)) a b why = why.0
stops_it (Err error.Stopped) a b why = absurd why
stops_it (Err (error.Limit limit)) a b why = absurd why
stops_it (Err (error.Full need gap)) a b why = absurd why
stops_it (Err (error.Damaged damage)) a b why = absurd why
stops_it (Err error.NotAStore) a b why = absurd why
stops_it (Err error.AlreadyAStore) a b why = absurd why
stops_it (Err (error.BadSettings field)) a b why = absurd why

pub never : (b : Bool) → b ≡ true → b ≡ false → ⊥
never b is not = let both = sym is ∙ not in cc

not_stopped : {T : Type 0} (r : Result T StoreError) (now : Bool) (P : Type 0) → OnErr r (stopped_by r ≡ true) → now ≡ stopped_by r → OnErr r (now ≡ false → P)
not_stopped (Ok x) now P stopped is = tt
not_stopped (Err e) now P stopped is = λ runs. absurd (never now (is ∙ stopped) runs)

-- ---- whether the record fits

over : (m n : ℕ) → n < m → nat_le m n ≡ false
over m n l = grind arith

pub need_fits : (filled_now size : ℕ) (log : List Entry) → filled_now ≡ filled log → filled_now + size ≤ 262144 → nat_le size (gap log) ≡ true
need_fits filled_now size log is fits = le-leb size (gap log) (omega (arith, is, fits, gap_is log))

pub need_over : (filled_now size : ℕ) (log : List Entry) → filled_now ≡ filled log → filled log < 262144 → 262144 < filled_now + size → nat_le size (gap log) ≡ false
need_over filled_now size log is few wide = over size (gap log) (omega (arith, is, few, wide, gap_is log))

-- ---- room that is taken for an entry

pub kept_room : (m n : MemoryTable) → m.entries ≡ n.entries → m.ranges ≡ n.ranges → m.range_spare ≡ n.range_spare → m ≡ record n { spare = m.spare }
kept_room m n entries ranges room = λ i. record { entries = entries i; ranges = ranges i; spare = m.spare; range_spare = room i }

pub tied_with : (spelling : Spelling) (bytes : FilterBytes) (store : StoreValue) (s : State) (w : World) (m : MemoryTable) → m ≡ record store.memory { spare = m.spare } → Represents spelling bytes store s w
    → Represents spelling bytes (record store { memory = m }) s w
tied_with spelling bytes store s w m kept tied = record {
  sound = tied.sound;
  none_kept = tied.none_kept;
  images = tied.images;
  log = tied.log;
  memory = ap (λ (n : MemoryTable). n.entries) kept ∙ tied.memory;
  ranges = ap (λ (n : MemoryTable). n.ranges) kept ∙ tied.ranges;
  blocks = tied.blocks;
}

module _ (spelling : Spelling) (bytes : FilterBytes) (s : State) (e : Entry) where
  -- the same of an entry that was prepared
  pub wrote_as : {T : Type 0} (x : Entry) (result : Result T StoreError) (store : StoreValue) (a b : World) → e ≡ x → WroteEntry spelling bytes s (written bytes s (Sets e)) result store a b
      → WroteEntry spelling bytes s (written bytes s (Sets x)) result store a b
  wrote_as x result store a b same wrote = subst (λ (y : Entry). WroteEntry spelling bytes s (written bytes s (Sets y)) result store a b) same wrote

  abbrev Maps : State → State → Image → Type 0
  Maps from to image = StandsForMap spelling (state_map from) image ⊎ StandsForMap spelling (state_map to) image

  -- the record fits
  pub wrote_logged : {T : Type 0} (result : Result T StoreError) (store : StoreValue) (a b : World) → is_long e ≡ false → nat_le (need e) (gap_after s.log) ≡ true → IfErr result (IsWriteFailure a b)
      → MovesTo spelling bytes s (logged s (Sets e)) result store a b → WroteEntry spelling bytes s (written bytes s (Sets e)) result store a b
  wrote_logged result store a b short fits why t = turns (logged s (Sets e)) (written_fits bytes s e short fits) (is_failure result a b why) t

  -- it does not fit, and the memory is flushed
  module _ (short : is_long e ≡ false) (full : nat_le (need e) (gap_after s.log) ≡ false) where
    flushed_first : written bytes s (Sets e) ≡ logged_then (Sets e) (flushed bytes s)
    flushed_first = written_short bytes s e short ∙ ap (λ (b : Bool). cond b (Ok (logged s (Sets e))) (logged_then (Sets e) (flushed bytes s))) full

    -- the map of a state that a flush made
    same_map : (to : State) → flushed bytes s ≡ Ok to → (image : Image) → Maps s to image → StandsForMap spelling (state_map s) image
    same_map to made image (inl map) = map
    same_map to made image (inr map) = subst (λ (m : Map). StandsForMap spelling m image) (flushed_keeps bytes s to made) map

    pub flush_failed : {T U : Type 0} (x : StoreError) (store : StoreValue) (a b : World) → WroteEntry {T = T} spelling bytes s (flushed bytes s) (Err x) store a b
        → WroteEntry {T = U} spelling bytes s (written bytes s (Sets e)) (Err x) store a b
    flush_failed x store a b (turns to made fails t) = turns (logged to (Sets e)) (flushed_first ∙ ap (logged_then (Sets e)) made) fails (record {
      meanwhile = meanwhile_weaker (Maps s to) (Maps s (logged to (Sets e))) a b t.meanwhile (λ image map. inl (same_map to made image map));
      wanted = t.wanted;
      done = tt;
      refused = t.refused;
    })
    flush_failed x store a b (refused why made failed told_is tied meanwhile) = refused why (flushed_first ∙ ap (logged_then (Sets e)) made) failed told_is tied meanwhile

    -- the flush is done, and the record fits after it
    module _ {T U : Type 0} (x : T) (result : Result U StoreError) (between store : StoreValue) (a b c : World) (why : IfErr result (IsWriteFailure b c)) (stopped : store.stopped ≡ stopped_by result) where
      then_turns : (to : State) → flushed bytes s ≡ Ok to → MovesTo {T = T} spelling bytes s to (Ok x) between a b → MovesTo spelling bytes to (logged to (Sets e)) result store b c
          → MovesTo spelling bytes s (logged to (Sets e)) result store a c
      then_turns to made first second = record {
        meanwhile = meanwhile_then (Maps s (logged to (Sets e))) a b c
            (meanwhile_weaker (Maps s to) (Maps s (logged to (Sets e))) a b first.meanwhile (λ image map. inl (same_map to made image map)))
            (meanwhile_weaker (Maps to (logged to (Sets e))) (Maps s (logged to (Sets e))) b c second.meanwhile (λ image map. elim map [ inl old ↦ inl (same_map to made image (inr old)) | inr new ↦ inr new ]));
        wanted = no_want result b c _ why;
        done = second.done;
        refused = not_stopped result store.stopped _ (stops_it result b c why) stopped;
      }

      pub flush_then : WroteEntry {T = T} spelling bytes s (flushed bytes s) (Ok x) between a b
          → ((to : State) → Represents spelling bytes between to b → MovesTo spelling bytes to (logged to (Sets e)) result store b c)
          → WroteEntry spelling bytes s (written bytes s (Sets e)) result store a c
      flush_then (turns to made fails t) goes =
          turns (logged to (Sets e)) (flushed_first ∙ ap (logged_then (Sets e)) made) (is_failure result b c why) (then_turns to made t (goes to t.done))
      flush_then (refused reply made failed told_is tied meanwhile) goes = absurd cc
