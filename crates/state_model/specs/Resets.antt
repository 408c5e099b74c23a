-- What other settings, and more pages, make of a state, or the reply by which they are refused.
use Rattle.std.specs.Prelude.{◌+◌, ◌==◌, ℕ, if◌then◌else◌, None, Result, Ok, Err}
use Rattle.filter_api.specs.declared.settings.Settings.{Settings}
use Rattle.key_base.specs.Limits.{last_epoch}
use Rattle.state_model.specs.State.{State}
use Rattle.line_model.specs.Replies.{Reply, LastEpoch}

-- New tables get these settings; those that are there keep theirs. The epoch is raised, and no job runs.
abbrev pub with_settings : Settings → State → Result State Reply
with_settings settings s = if s.epoch == last_epoch then Err LastEpoch else Ok (record s { settings = settings; epoch = s.epoch + 1; job = None })

-- The device has a given number of pages. The epoch is raised, and no job runs.
abbrev pub with_pages : ℕ → State → Result State Reply
with_pages pages s = if s.epoch == last_epoch then Err LastEpoch else Ok (record s { pages = pages; epoch = s.epoch + 1; job = None })
