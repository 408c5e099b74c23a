-- Other settings, and more pages, leave a sound state that holds the same.
use Rattle.std.proofs.Common.{◌≡◌, ◌≢◌, ℕ, ◌≤◌, ◌+◌, List, [], ◌∷◌, refl, subst, true, false, cond, arith}
use Rattle.std.specs.Prelude.{None, Result, Ok, Err, ◌==◌}
use Rattle.std.specs.List.{AllByRecursion}
use Rattle.std.proofs.lemmas.Bool.{eqb-false}
use Rattle.key_base.specs.Limits.{last_epoch, max_device_pages, max_ratio}
use Rattle.filter_api.specs.declared.settings.Settings.{Settings}
use Rattle.filter_api.specs.Ranges.{InRange}
use Rattle.extent_model.specs.Extents.{Extent, IsOnDevice}
use Rattle.line_model.specs.Replies.{Reply, LastEpoch}
use Rattle.state_model.specs.State.{State}
use Rattle.state_model.specs.Resets.{with_settings, with_pages}
use Rattle.state_model.specs.Sound.{IsSound}
use Rattle.state_model.specs.SoundLaws.{HoldsTheSame}
use Rattle.state_model.specs.Taken.{taken}
use Rattle.table_model.specs.Tables.{FilterBytes}
use Rattle.state_model.proofs.SoundChanges.{next_epoch}
use Rattle.state_model.proofs.SoundJobs.{drop_sound}

-- what is made, where it is, has P
abbrev IfMade : (State → Type 0) → Result State Reply → Type 0
IfMade P (Ok t) = P t
IfMade P (Err refusal) = Unit {0}

made : (P : State → Type 0) (s after t : State) → (s.epoch ≢ last_epoch → P after) → cond (s.epoch == last_epoch) (Err LastEpoch) (Ok after) ≡ Ok t → P t
made P s after t has e =
    subst (IfMade P) e (elim (s.epoch == last_epoch) as (λ b. (s.epoch == last_epoch) ≡ b → IfMade P (cond b (Err LastEpoch) (Ok after))) [
      | true ↦ λ last. tt
      | false ↦ λ below. has (eqb-false s.epoch last_epoch below)
    ] refl)

-- extents on a device are on a larger one
pub on_larger : (pages more : ℕ) (xs : List Extent) → pages ≤ more → AllByRecursion (IsOnDevice pages) xs → AllByRecursion (IsOnDevice more) xs
on_larger pages more [] less on = tt
on_larger pages more (x ∷ xs) less on = (record { some = on.0.some; from = on.0.from; to = omega (arith, on.0.to, less) }, on_larger pages more xs less on.1)

-- a sound state on a larger device, also with a job
pub larger_sound : (filter_bytes : FilterBytes) (pages : ℕ) (s : State) → s.pages ≤ pages → pages ≤ max_device_pages → IsSound filter_bytes s → IsSound filter_bytes (record s { pages = pages })
larger_sound filter_bytes pages s more most sound = record {
  settings = sound.settings;
  ratio = sound.ratio;
  device = (omega (arith, sound.device.0, more), most);
  epoch = sound.epoch;
  log = sound.log;
  log_fits = sound.log_fits;
  few = sound.few;
  tables = sound.tables;
  order = sound.order;
  on_device = on_larger s.pages pages (taken s) more sound.on_device;
  apart = sound.apart;
  job = sound.job;
}

-- the state with other settings, as it is made below the last epoch; with more pages it is that of the larger device
abbrev set_to : Settings → State → State
set_to settings s = record s { settings = settings; epoch = s.epoch + 1; job = None }

pub settings_sound : (filter_bytes : FilterBytes) (settings : Settings) (s t : State) → InRange settings → settings.ratio ≤ max_ratio → IsSound filter_bytes s
    → with_settings settings s ≡ Ok t → IsSound filter_bytes t
settings_sound filter_bytes settings s t ranges ratio sound e =
    let free = drop_sound filter_bytes s sound in
    made (IsSound filter_bytes) s (set_to settings s) t (λ other. record {
      settings = ranges;
      ratio = ratio;
      device = free.device;
      epoch = next_epoch s.epoch free.epoch.1 other;
      log = free.log;
      log_fits = free.log_fits;
      few = free.few;
      tables = free.tables;
      order = free.order;
      on_device = free.on_device;
      apart = free.apart;
      job = tt;
    }) e

pub pages_sound : (filter_bytes : FilterBytes) (pages : ℕ) (s t : State) → s.pages ≤ pages → pages ≤ max_device_pages → IsSound filter_bytes s
    → with_pages pages s ≡ Ok t → IsSound filter_bytes t
pages_sound filter_bytes pages s t more most sound e =
    settings_sound filter_bytes s.settings (record s { pages = pages }) t sound.settings sound.ratio (larger_sound filter_bytes pages s more most sound) e

-- ---- what both hold

pub settings_same : (settings : Settings) (s t : State) → with_settings settings s ≡ Ok t → HoldsTheSame s t
settings_same settings s t e = made (HoldsTheSame s) s (set_to settings s) t (λ other. record { map = refl; log = refl; tables = refl; kept = refl }) e

pub pages_same : (pages : ℕ) (s t : State) → with_pages pages s ≡ Ok t → HoldsTheSame s t
pages_same pages s t e = made (HoldsTheSame s) s (set_to s.settings (record s { pages = pages })) t (λ other. record { map = refl; log = refl; tables = refl; kept = refl }) e
