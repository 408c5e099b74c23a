-- Going on twice.
use Rattle.std.proofs.Common.{◌≡◌, ◌∙◌, ℕ, List, map, refl, sym, ap, subst, Bool, arith}
use Rattle.std.specs.Prelude.{Contains, IsTrue, Option}
use Rattle.block_model.specs.Places.{byte_of_page}
use Rattle.disk_trait.specs.Image.{Image}
use Rattle.disk_trait.specs.World.{World}
use Rattle.map_model.specs.SortedMap.{Bytes}
use Rattle.merge_rows.specs.Merges.{TableWalk, left_above}
use Rattle.merge_rows.specs.Reads.{PassSound}
use Rattle.merge_rows.specs.Rows.{KeyFloor, above_floor}
use Rattle.merge_rows.specs.Steps.{AreSoundWalks, IsSoundMerge}
use Rattle.merge_rows.proofs.Fills.{cause_since}
use Rattle.merge_rows.proofs.SoundPasses.{pass_then}
use Rattle.merge_rows.proofs.Stays.{lengths_are, only_both}
use Rattle.table_file.specs.Opened.{Opened}
use Rattle.table_file.specs.Search.{IsGetFault, page_at}
use Rattle.table_file.specs.declared.fault.TableFault.{TableFault}
use Rattle.late_rows.specs.Going.{FailsOn, GoesOn, ReadsOn}
use Rattle.late_rows.specs.Late.{LateMerge, waking_at, wanted_awake}

module _ (tells : Bool) (tables : List Opened) (first old new : LateMerge) (before mid after : World) (one : GoesOn tells tables first old before mid)
    (asleep : new.asleep ≡ old.asleep) where
  -- what was sound is
  pub sound_merge : IsTrue tells → IsSoundMerge first.merge tables before.seen.held → IsSoundMerge old.merge tables mid.seen.held
  sound_merge t s = record {
    memory = one.rises s.memory;
    walks = subst (λ (h : Image). AreSoundWalks old.merge.floor tables h old.merge.walks) (sym one.moves.1.held)
        (subst (λ (f : KeyFloor). AreSoundWalks f tables before.seen.held old.merge.walks) (sym one.floor) (one.walks t s.walks));
  }

  same_wanted : (walks : List TableWalk) (l : LateMerge) → l.asleep ≡ new.asleep → wanted_awake old.merge.floor tables l.asleep walks ≡ wanted_awake first.merge.floor tables new.asleep walks
  same_wanted walks l is = ap (λ (f : KeyFloor). wanted_awake f tables l.asleep walks) one.floor ∙ ap (λ (os : List (Option Bytes)). wanted_awake first.merge.floor tables os walks) is

  module _ (two : GoesOn tells tables old new mid after) where
    pub goes_then : GoesOn tells tables first new before after
    goes_then = record {
      floor = two.floor ∙ one.floor;
      drops = two.drops ∙ one.drops;
      numbers_are = two.numbers_are ∙ one.numbers_are;
      stands_are = two.stands_are ∙ one.stands_are;
      memory = subst (λ (f : KeyFloor). above_floor f new.merge.memory ≡ above_floor f old.merge.memory) one.floor two.memory ∙ one.memory;
      rises = λ r. two.rises (one.rises r);
      each = λ t.
          subst (λ (f : KeyFloor). map (left_above f tables before.seen.held) new.merge.walks ≡ map (left_above f tables before.seen.held) old.merge.walks) one.floor
          (subst (λ (h : Image). map (left_above old.merge.floor tables h) new.merge.walks ≡ map (left_above old.merge.floor tables h) old.merge.walks) one.moves.1.held (two.each t))
          ∙ one.each t;
      walks = λ t s.
          subst (λ (f : KeyFloor). AreSoundWalks f tables before.seen.held old.merge.walks → AreSoundWalks f tables before.seen.held new.merge.walks) one.floor
          (subst (λ (h : Image). AreSoundWalks old.merge.floor tables h old.merge.walks → AreSoundWalks old.merge.floor tables h new.merge.walks) one.moves.1.held (two.walks t))
          (one.walks t s);
      sleep_on = λ at key is.
          let on = two.sleep_on at key is in
          let from = one.sleep_on at key on.0 in
          (from.0, on.1 ∙ from.1);
      wake_late = λ t s at key is none. one.wake_late t s at key is (ap (λ (os : List (Option Bytes)). waking_at os at) (sym asleep) ∙ none);
      read_sound = λ t. pass_then tables before.seen.held first.merge.walks old.merge.walks new.merge.walks (one.read_sound t)
          (subst (λ (h : Image). PassSound tables h old.merge.walks new.merge.walks) one.moves.1.held (two.read_sound t));
      moves = only_both before mid after one.moves two.moves;
    }

  module _ (reads : ReadsOn tells tables first old before mid) where
    pub reads_then : ReadsOn tells tables old new mid after → ReadsOn tells tables first new before after
    reads_then two = record {
      left = omega (arith, reads.left, two.left);
      counted = λ t. let sofar = reads.counted t in let now = two.counted t in omega (arith, sofar, now);
      spent = λ t s. let sofar = reads.spent t s in let now = two.spent t (sound_merge t s) in omega (arith, sofar, now);
      bounded = λ t s.
          let sofar = reads.bounded t s in
          let now = two.bounded t (sound_merge t s) in
          let had = ap (λ (os : List (Option Bytes)). wanted_awake first.merge.floor tables os first.merge.walks) asleep in
          let mids = same_wanted old.merge.walks new refl in
          let news = same_wanted new.merge.walks new refl in
          let olds = ap (λ (os : List (Option Bytes)). wanted_awake first.merge.floor tables os old.merge.walks) asleep in
          omega (arith, sofar, now, had, mids, news, olds);
    }

    pub fails_then : (why : TableFault) → FailsOn tells tables old new mid after why → FailsOn tells tables first new before after why
    fails_then why two = record {
      none = two.none;
      only_if_read = let many = lengths_are old.merge.walks first.merge.walks one.numbers_are in omega (arith, many, two.only_if_read);
      never_memory = two.never_memory;
      cause =
          let is = two.cause in (
            is.0,
            subst (λ (ns : List ℕ). Contains ns is.0) one.numbers_are is.1,
            (is.2.0, is.2.1, is.2.2, is.2.3, cause_since (byte_of_page (page_at is.2.0 is.2.1)) before mid after why one.moves.1.read_faults is.2.4),
          );
      fault = λ t.
          let is = two.fault t in (
            is.0,
            subst (λ (ns : List ℕ). Contains ns is.0) one.numbers_are is.1,
            (is.2.0, is.2.1, is.2.2, is.2.3, subst (λ (h : Image). IsGetFault is.2.0 is.2.1 h why) one.moves.1.held is.2.4),
          );
      only_if_wanted = λ t s.
          let sofar = reads.bounded t s in
          let some = two.only_if_wanted t (sound_merge t s) in
          let mids = same_wanted old.merge.walks new refl in
          let had = ap (λ (os : List (Option Bytes)). wanted_awake first.merge.floor tables os first.merge.walks) asleep in
          let olds = ap (λ (os : List (Option Bytes)). wanted_awake first.merge.floor tables os old.merge.walks) asleep in
          omega (arith, sofar, some, mids, had, olds, one.moves.1.reads_later);
      bounded = λ t s.
          let sofar = reads.bounded t s in
          let now = two.bounded t (sound_merge t s) in
          let mids = same_wanted old.merge.walks new refl in
          let had = ap (λ (os : List (Option Bytes)). wanted_awake first.merge.floor tables os first.merge.walks) asleep in
          let olds = ap (λ (os : List (Option Bytes)). wanted_awake first.merge.floor tables os old.merge.walks) asleep in
          omega (arith, sofar, now, mids, had, olds);
      tried = λ t s. let sofar = reads.spent t s in let now = two.tried t (sound_merge t s) in omega (arith, sofar, now);
    }
