-- What keeps a store, its device and its state one.
use Rattle.std.proofs.Common.{◌≡◌, ◌⊎◌, inl, inr, ◌<◌, ◌≤◌, ◌+◌, ◌-◌, ◌*◌, ℕ, Bool, true, false, cond, List, [], ◌∷◌, ◌++◌, length, refl, sym, ap, subst, ◌∙◌, arith}
use Rattle.std.specs.Prelude.{Option, Result, Ok, Err, map, nat_le, nat_lt}
use Rattle.std.proofs.lemmas.List.{map-append}
use Rattle.disk_trait.proofs.Calls.{moves_wider}
use Rattle.std.proofs.lemmas.Bool.{le-leb}
use Rattle.disk_trait.specs.Image.{Image, Torn}
use Rattle.disk_trait.specs.declared.fault.DiskFault.{DiskFault}
use Rattle.disk_trait.specs.World.{Leads, Meanwhile, Now, ReadMoves, World, WriteMoves}
use Rattle.disk_trait.proofs.Calls.{reads_keep}
use Rattle.disk_trait.proofs.Moments.{framed, framed_now}
use Rattle.entry_model.specs.Entries.{Entry, IsLogged, bytes_of, filled, gap, need}
use Rattle.filter_api.specs.Spellings.{Spelling}
use Rattle.image_model.specs.Stands.{StandsForMap}
use Rattle.level_merge.specs.FollowLaws.{OtherImageIsFollowed}
use Rattle.level_merge.specs.JobValue.{JobValue}
use Rattle.log_model.specs.Area.{LogIs, WithOrWithout, start_of}
use Rattle.log_model.proofs.Logs.{filled_more, need_is}
use Rattle.manifest.specs.Manifest.{Manifest}
use Rattle.manifest_model.specs.Laws.{IsVersion}
use Rattle.manifest_model.specs.Version.{Version, log_page_of}
use Rattle.mem_table.specs.Table.{source_in}
use Rattle.range_model.specs.Sources.{Change, Sets, Source, with_change}
use Rattle.state_model.proofs.SoundChanges.{written_sound}
use Rattle.state_model.specs.Changes.{flushed, is_long, logged, logged_then, written}
use Rattle.state_model.specs.Logs.{filled_by, gap_after}
use Rattle.state_model.specs.Sound.{IsSound}
use Rattle.state_model.specs.State.{State}
use Rattle.state_model.specs.View.{in_memory, state_map}
use Rattle.table_file.specs.Opened.{Opened}
use Rattle.table_model.specs.Tables.{FilterBytes}
use Rattle.store_core.specs.Answers.{MovesTo}
use Rattle.store_search.specs.Caching.{CacheAgrees, Cached}
use Rattle.store_core.specs.StoreValue.{IsConsistent, StoreValue}
use Rattle.store_core.specs.Represents.{Represents, RepresentsOn}
use Rattle.store_core.specs.declared.error.StoreError.TheVariants as error
use Rattle.store_core.proofs.Frames.{under_log, under_logged, under_stands}
use Rattle.store_core.proofs.Recorded.{entries_in, one_more, shown_only}

module _ (spelling : Spelling) (filter_bytes : FilterBytes) (store : StoreValue) (s : State) (a b : World) where
  -- reads change nothing
  pub tied_read : (n : ℕ) → ReadMoves n a b → Represents spelling filter_bytes store s a → Represents spelling filter_bytes store s b
  tied_read n moves tied = record {
    sound = tied.sound;
    none_kept = tied.none_kept;
    images = reads_keep (RepresentsOn spelling store.manifest store.tables store.job s) n a b moves tied.images;
    log = tied.log;
    memory = tied.memory;
    ranges = tied.ranges;
    blocks = tied.blocks;
  }

-- ---- an entry is logged

pub gap_is : (entries : List Entry) → gap entries ≡ 262144 - filled entries
unfolding gap
gap_is entries = refl

pub not_long : (n : ℕ) → n ≤ 65536 → nat_lt 65536 n ≡ false
not_long n short = grind arith

pub long_of : (n : ℕ) → 65536 < n → nat_lt 65536 n ≡ true
long_of n long = grind arith

-- what the log takes is not long
pub short_of_logged : (e : Entry) → IsLogged e → is_long e ≡ false
short_of_logged e is = not_long (length (bytes_of e.value)) is.short

-- and is logged, after a flush or without
pub written_short : (filter_bytes : FilterBytes) (s : State) (e : Entry) → is_long e ≡ false
    → written filter_bytes s (Sets e) ≡ cond (nat_le (need e) (gap_after s.log)) (Ok (logged s (Sets e))) (logged_then (Sets e) (flushed filter_bytes s))
written_short filter_bytes s e short =
    ap (λ (b : Bool). cond b (flushed filter_bytes (logged s (Sets e))) (cond (nat_le (need e) (gap_after s.log)) (Ok (logged s (Sets e))) (logged_then (Sets e) (flushed filter_bytes s)))) short

-- what it does not take is flushed over the memory entries
pub written_long : (filter_bytes : FilterBytes) (s : State) (e : Entry) → is_long e ≡ true → written filter_bytes s (Sets e) ≡ flushed filter_bytes (logged s (Sets e))
written_long filter_bytes s e long =
    ap (λ (b : Bool). cond b (flushed filter_bytes (logged s (Sets e))) (cond (nat_le (need e) (gap_after s.log)) (Ok (logged s (Sets e))) (logged_then (Sets e) (flushed filter_bytes s)))) long

pub written_fits : (filter_bytes : FilterBytes) (s : State) (e : Entry) → is_long e ≡ false → nat_le (need e) (gap_after s.log) ≡ true → written filter_bytes s (Sets e) ≡ Ok (logged s (Sets e))
written_fits filter_bytes s e short fits = written_short filter_bytes s e short ∙ ap (λ (b : Bool). cond b (Ok (logged s (Sets e))) (logged_then (Sets e) (flushed filter_bytes s))) fits

pub logged_sound : (filter_bytes : FilterBytes) (s : State) (e : Entry) → IsSound filter_bytes s → IsLogged e → filled_by s.log + need e ≤ 262144 → IsSound filter_bytes (logged s (Sets e))
logged_sound filter_bytes s e sound is fits =
    written_sound filter_bytes s (logged s (Sets e)) (Sets e) sound is.sound (written_fits filter_bytes s e (short_of_logged e is) (le-leb (need e) (gap_after s.log) (omega (arith, fits, gap_is (entries_in s)))))

pub filled_logged : (log : List Change) (e : Entry) (before after : ℕ) → before ≡ filled_by log → after + 1 ≡ before + need e → after ≡ filled_by (log ++ Sets e ∷ [])
filled_logged log e before after is more = omega (arith, is, more, filled_more log (Sets e), need_is (Sets e))

module _ (law : OtherImageIsFollowed) (spelling : Spelling) (filter_bytes : FilterBytes) (store : StoreValue) (s : State) (e : Entry) (a b : World) (tied : Represents spelling filter_bytes store s a) (whole : IsConsistent store)
    (fits : store.log.filled + need e ≤ 262144) (moves : WriteMoves (start_of store.log.area + store.log.filled) (need e) a b) where
  abbrev area : ℕ
  area = store.log.area

  abbrev Under : State → Image → Type 0
  Under t = RepresentsOn spelling store.manifest store.tables store.job t

  small : store.log.area ≤ 1
  small = elim whole.version.log_page [ inl first ↦ omega (arith, first, whole.area) | inr second ↦ omega (arith, second, whole.area) ]

  logs_now : Now (LogIs area s.log) a
  logs_now image left = under_log spelling store.manifest store.tables store.job whole.slot whole.rows s area image whole.area (tied.images image left)

  log_of : (image : Image) → Under s image → s.log ≡ map Sets (entries_in s)
  log_of image under = (shown_only spelling store.manifest store.tables store.job s image under).log

  more_of : (image : Image) → Under s image → s.log ++ Sets e ∷ [] ≡ map Sets (entries_in s ++ e ∷ [])
  more_of image under = ap (λ (log : List Change). log ++ Sets e ∷ []) (log_of image under) ∙ sym (map-append Sets (entries_in s) (e ∷ []))

  at_once : (log : List Change) (entries : List Entry) (was image : Image) → Under s was → Torn (start_of store.log.area + store.log.filled) (need e) was image → LogIs area log image → log ≡ map Sets entries
      → Under (record s { log = log }) image
  at_once log entries was image under torn spelled same =
      under_logged spelling store.manifest store.tables store.job whole.slot whole.rows law s log entries area _ _ was image tied.sound.on_device whole.area (omega arith) (omega (arith, fits)) small torn spelled same under

  to_maps : (was image : Image) → Under s was → Torn (start_of store.log.area + store.log.filled) (need e) was image → WithOrWithout area s.log (Sets e) image
      → StandsForMap spelling (state_map s) image ⊎ StandsForMap spelling (state_map (logged s (Sets e))) image
  to_maps was image under torn (inl without) =
      inl (under_stands spelling store.manifest store.tables store.job whole.slot whole.rows s image (at_once s.log (entries_in s) was image under torn without (log_of was under)))
  to_maps was image under torn (inr with_it) =
      inr (under_stands spelling store.manifest store.tables store.job whole.slot whole.rows (logged s (Sets e)) image (at_once (s.log ++ Sets e ∷ []) (entries_in s ++ e ∷ []) was image under torn with_it (more_of was under)))

  pub logged_meanwhile : {T E : Type 0} (result : Result T E) → Leads (LogIs store.log.area s.log) (WithOrWithout store.log.area s.log (Sets e)) (LogIs store.log.area (s.log ++ Sets e ∷ [])) result a b
      → Meanwhile (λ image. StandsForMap spelling (state_map s) image ⊎ StandsForMap spelling (state_map (logged s (Sets e))) image) a b
  logged_meanwhile result leads = framed (Under s) (WithOrWithout area s.log (Sets e)) _ _ _ a b tied.images moves.time (leads.meanwhile logs_now) to_maps

  -- at Ok the state has the entry
  pub logged_tied : {T E : Type 0} (x : T) (after : StoreValue) → after.manifest ≡ store.manifest → after.tables ≡ store.tables → after.job ≡ store.job → after.blocks ≡ store.blocks → after.log.filled + 1 ≡ store.log.filled + need e
      → source_in after.memory ≡ with_change (in_memory s) (Sets e) → IsLogged e
      → Leads {T = T} {E = E} (LogIs store.log.area s.log) (WithOrWithout store.log.area s.log (Sets e)) (LogIs store.log.area (s.log ++ Sets e ∷ [])) (Ok x) a b
      → Represents spelling filter_bytes after (logged s (Sets e)) b
  logged_tied x after same_manifest same_tables same_job same_blocks filled_now memory_now is leads =
      let here : Now (Under (logged s (Sets e))) b =
      framed_now (Under s) (LogIs area (s.log ++ Sets e ∷ [])) (Under (logged s (Sets e))) _ _ a b tied.images moves.time (leads.after logs_now)
      (λ was image under torn spelled. at_once (s.log ++ Sets e ∷ []) (entries_in s ++ e ∷ []) was image under torn spelled (more_of was under)) in
      record {
        sound = logged_sound filter_bytes s e tied.sound is (omega (arith, fits, tied.log));
        none_kept = tied.none_kept;
        images = λ image left.
            subst (λ (ts : List Opened). RepresentsOn spelling after.manifest ts after.job (logged s (Sets e)) image) (sym same_tables)
            (subst (λ (m : Manifest). RepresentsOn spelling m store.tables after.job (logged s (Sets e)) image) (sym same_manifest)
            (subst (λ (running : Option JobValue). RepresentsOn spelling store.manifest store.tables running (logged s (Sets e)) image) (sym same_job) (here image left)));
        log = filled_logged s.log e store.log.filled after.log.filled tied.log filled_now;
        memory = ap (λ (source : Source). source.entries) (memory_now ∙ sym (one_more s.log e));
        ranges = ap (λ (source : Source). source.ranges) (memory_now ∙ sym (one_more s.log e));
        blocks = subst (λ (b : Cached). CacheAgrees b after.tables s.tables) (sym same_blocks) (subst (λ (ts : List Opened). CacheAgrees store.blocks ts s.tables) (sym same_tables) tied.blocks);
      }

-- ---- what an append answers, of an entry that was handed in by its key and its value

module _ (law : OtherImageIsFollowed) (spelling : Spelling) (filter_bytes : FilterBytes) (store : StoreValue) (s : State) (e x : Entry) (a b : World) (same : x ≡ e) (tied : Represents spelling filter_bytes store s a) (whole : IsConsistent store)
    (fits : store.log.filled + need e ≤ 262144) (moves : WriteMoves (start_of store.log.area + store.log.filled) (need x) a b) where
  own_moves : WriteMoves (start_of store.log.area + store.log.filled) (need e) a b
  own_moves = subst (λ (y : Entry). WriteMoves (start_of store.log.area + store.log.filled) (need y) a b) same moves

  abbrev Appends : {T E : Type 0} → Entry → Result T E → Type 0
  Appends y result = Leads (LogIs store.log.area s.log) (WithOrWithout store.log.area s.log (Sets y)) (LogIs store.log.area (s.log ++ Sets y ∷ [])) result a b

  own_leads : {T E : Type 0} (result : Result T E) → Appends x result → Appends e result
  own_leads result leads = subst (λ (y : Entry). Appends y result) same leads

  pub append_done : {T E U : Type 0} (u : T) (y : U) (after : StoreValue) → Appends {T = T} {E = E} x (Ok u) → after.manifest ≡ store.manifest → after.tables ≡ store.tables → after.job ≡ store.job → after.blocks ≡ store.blocks
      → after.log.filled + 1 ≡ store.log.filled + need x → source_in after.memory ≡ with_change (in_memory s) (Sets e) → IsLogged e → MovesTo spelling filter_bytes s (logged s (Sets e)) (Ok y) after a b
  append_done u y after leads same_manifest same_tables same_job same_blocks filled_now memory_now is =
      let own = own_leads (Ok u) leads in
      record {
        meanwhile = logged_meanwhile law spelling filter_bytes store s e a b tied whole fits own_moves (Ok u) own;
        wanted = tt;
        done = logged_tied law spelling filter_bytes store s e a b tied whole fits own_moves u after same_manifest same_tables same_job same_blocks (subst (λ (z : Entry). after.log.filled + 1 ≡ store.log.filled + need z) same filled_now) memory_now is own;
        refused = tt;
      }

  pub append_fails : {T E U : Type 0} (f : E) (cause : DiskFault) (after : StoreValue) → Appends {T = T} {E = E} x (Err f) → after.stopped ≡ true
      → MovesTo {T = U} spelling filter_bytes s (logged s (Sets e)) (Err (error.Device cause)) after a b
  append_fails f cause after leads stopped =
      let own = own_leads (Err f) leads in
      record {
        meanwhile = logged_meanwhile law spelling filter_bytes store s e a b tied whole fits own_moves (Err f) own;
        wanted = λ is. absurd (let none = is in cc);
        done = tt;
        refused = λ runs. absurd (let never = sym stopped ∙ runs in cc);
      }

-- it writes on its device
pub append_moves : (v : Version) (area filled_now : ℕ) (e x : Entry) (a b : World) → IsVersion v → v.log_page ≡ log_page_of area → x ≡ e → filled_now + need e ≤ 262144
    → WriteMoves (start_of area + filled_now) (need x) a b → WriteMoves 0 (4096 * v.pages) a b
append_moves v area filled_now e x a b is here same fits moves =
    let small : area ≤ 1 = elim is.log_page [ inl first ↦ omega (arith, first, here) | inr second ↦ omega (arith, second, here) ] in
    moves_wider (start_of area + filled_now) (need x) 0 (4096 * v.pages) a b (omega arith) (omega (arith, small, fits, ap need same, is.some_pages)) moves
