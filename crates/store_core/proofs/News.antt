-- A new store as it is written.
use Rattle.std.proofs.Common.{◌≡◌, ◌⊎◌, inl, inr, ◌≤◌, ◌+◌, ℕ, [], refl, sym, ap₂, ◌∙◌, arith}
use Rattle.std.specs.Prelude.{◌==◌, ◌||◌, Result, Ok, Err}
use Rattle.disk_trait.specs.Image.{Image, Torn}
use Rattle.disk_trait.specs.World.{Leads, Moves, Now, Passes, World, WriteMoves}
use Rattle.disk_trait.proofs.Calls.{leads_around, leads_framed, leads_then, leads_weaker}
use Rattle.disk_trait.proofs.Moments.{carried, meanwhile_weaker, started}
use Rattle.filter_api.specs.Spellings.{Spelling}
use Rattle.filter_api.specs.declared.settings.Settings.{Settings}
use Rattle.image_model.specs.Stands.{IsStateOf}
use Rattle.log_model.proofs.Logs.{log_kept}
use Rattle.log_model.specs.Area.{LogIs}
use Rattle.manifest.specs.NewManifest.{IsNew, IsNewOrNone, has_open}
use Rattle.manifest_model.specs.NewVersion.{new_version}
use Rattle.manifest_model.specs.Slots.{IsNoStore, IsVersionOf}
use Rattle.manifest_model.specs.Version.{Version}
use Rattle.state_model.specs.State.{new_state}
use Rattle.store_core.specs.Formatting.{IsNoneOrNew}

-- a new version and an empty log are a new store
fresh : (spelling : Spelling) (settings : Settings) (pages : ℕ) (image : Image) → IsVersionOf (new_version settings pages) image → LogIs 0 [] image
    → IsStateOf spelling (new_state settings pages) image
fresh spelling settings pages image version log = (
  new_version settings pages,
  record {
    version_is = version;
    named = record {
      settings = refl;
      pages = refl;
      epoch = refl;
      tables = tt;
      order = λ i j d before within. absurd (omega (arith, within));
      area = 0;
      area_is = refl;
      log = log;
      entries = [];
      sets = refl;
      no_ranges = tt;
      no_job = refl;
      none_kept = refl;
    };
  },
)

none_or_new : (spelling : Spelling) (settings : Settings) (pages : ℕ) (image : Image) → LogIs 0 [] image × IsNewOrNone (new_version settings pages) image → IsNoneOrNew spelling settings pages image
none_or_new spelling settings pages image (log, inl none) = inl none
none_or_new spelling settings pages image (log, inr new) = inr (fresh spelling settings pages image new log)

-- the gates are as they were
gates_kept : (at n : ℕ) (f g : Image) → (262144 ≤ at) ⊎ (at + n ≡ 0) → Torn at n f g → (g 0 ≡ f 0) × (g 131072 ≡ f 131072)
gates_kept at n f g (inl behind) torn = (torn.before 0 (omega (arith, behind)), torn.before 131072 (omega (arith, behind)))
gates_kept at n f g (inr none) torn = (torn.after 0 (omega (arith, none)), torn.after 131072 (omega (arith, none)))

none_kept : (at n : ℕ) (f g : Image) → (262144 ≤ at) ⊎ (at + n ≡ 0) → IsNoStore f → Torn at n f g → IsNoStore g
none_kept at n f g where_it_is none torn =
    let same = gates_kept at n f g where_it_is torn in
    (λ is. none.0 (sym same.0 ∙ is), λ is. none.1 (sym same.1 ∙ is))

pub open_kept : (at n : ℕ) (f g : Image) → (262144 ≤ at) ⊎ (at + n ≡ 0) → Torn at n f g → has_open g ≡ has_open f
open_kept at n f g where_it_is torn =
    let same = gates_kept at n f g where_it_is torn in
    ap₂ (λ (x y : ℕ). (x == 1) || (y == 1)) same.0 same.1

module _ (spelling : Spelling) (settings : Settings) (pages : ℕ) where
  abbrev v : Version
  v = new_version settings pages

  abbrev Wide : Image → Type 0
  Wide = IsNoneOrNew spelling settings pages

  abbrev New : Image → Type 0
  New = IsStateOf spelling (new_state settings pages)

  -- before anything is written, and where the first write fails
  pub none_at_first : {T E : Type 0} (e : E) (at n : ℕ) (a b : World) → (262144 ≤ at) ⊎ (at + n ≡ 0) → Passes (Torn at n) a b → Leads {T = T} {E = E} IsNoStore Wide New (Err e) a b
  none_at_first e at n a b where_it_is time = record {
    meanwhile = λ here. carried IsNoStore Wide at n a b here time (λ was image none torn. inl (none_kept at n was image where_it_is none torn));
    after = λ here. tt;
  }

  pub none_still : {T E : Type 0} (e : E) (a : World) → Leads {T = T} {E = E} IsNoStore Wide New (Err e) a a
  none_still e a = record { meanwhile = λ here. meanwhile_weaker IsNoStore Wide a a (started IsNoStore a here) (λ image none. inl none); after = λ here. tt }

  -- the log is begun, and the manifest is written
  pub log_then : {T U F : Type 0} (x : T) (result : Result U F) (a b c : World) → WriteMoves 262144 1 a b → Now (LogIs 0 []) b → Moves 0 131072 2 b c
      → Leads IsNoStore (IsNewOrNone (new_version settings pages)) (IsNew (new_version settings pages)) result b c → Leads IsNoStore Wide New result a c
  log_then x result a b c first log second made =
      leads_then {E = Unit {0}} IsNoStore IsNoStore (λ i. IsNoStore i × LogIs 0 [] i) Wide New x result a b c (λ f none. inl none)
      (leads_around IsNoStore (LogIs 0 []) 262144 1 (Ok x) a b (λ f g none torn. none_kept 262144 1 f g (inl (omega arith)) none torn) first.time log)
      (leads_weaker (λ i. LogIs 0 [] i × IsNoStore i) (λ i. LogIs 0 [] i × IsNewOrNone v i) (λ i. LogIs 0 [] i × IsNew v i) (λ i. IsNoStore i × LogIs 0 [] i) Wide New result b c
      (leads_framed (LogIs 0 []) IsNoStore (IsNewOrNone v) (IsNew v) 0 131072 result b c (λ f g stands torn. log_kept 0 [] 0 131072 f g (inr (omega arith)) torn stands) second.time made)
      (λ f both. (both.1, both.0))
      (λ f both. none_or_new spelling settings pages f both)
      (λ f both. fresh spelling settings pages f (inl (record { here = both.1.here; there = inl both.1.closed })) both.0))

  -- a look, and then what it leads to
  pub looked_then : {T E : Type 0} (result : Result T E) (n : ℕ) (a b c : World) → Moves 0 0 n a b → Leads IsNoStore Wide New result b c → Leads IsNoStore Wide New result a c
  looked_then result n a b c look made =
      leads_then {T = Unit {0}} {E = Unit {0}} IsNoStore IsNoStore (λ i. IsNoStore i × Unit {0}) Wide New tt result a b c (λ f none. inl none)
      (leads_around IsNoStore (λ i. Unit {0}) 0 0 (Ok tt) a b (λ f g none torn. none_kept 0 0 f g (inr refl) none torn) look.time (λ image left. tt))
      (leads_weaker IsNoStore Wide New (λ i. IsNoStore i × Unit {0}) Wide New result b c made (λ f both. both.0) (λ f wide. wide) (λ f new. new))
