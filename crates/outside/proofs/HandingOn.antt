-- What may be left of an outside, and of the next one.
use Rattle.std.proofs.Common.{◌≡◌, ◌∙◌, ℕ, List, length, drop, sym, ap, subst, arith}
use Rattle.std.proofs.Math.Nat.{sub_self}
use Rattle.disk_trait.specs.World.{Image}
use Rattle.disk_mem.proofs.Crashes.{crash_is_left}
use Rattle.disk_mem.specs.Bytes.{image_of}
use Rattle.disk_mem.specs.Calls.{Call, bytes_after, calls_by}
use Rattle.disk_mem.specs.Choices.{crash_bytes}
use Rattle.disk_mem.specs.History.{LeftImage}
use Rattle.outside.specs.HandingOn.{CrashIsHandedOn, DiskIsHandedOn}
use Rattle.outside.specs.PresentLaws.{disk_moment-now}
use Rattle.outside.specs.Session.{Session, disk_moment, fresh, now_of, session_world}

-- by now all calls had been
now_all : (s : Session) → calls_by (disk_moment s (now_of s)) s.disk.calls ≡ s.disk.calls
now_all s =
    ap (λ (k : ℕ). calls_by k s.disk.calls) (disk_moment-now s (now_of s) (omega arith)) ∙ ap (λ (k : ℕ). drop k s.disk.calls) (sub_self (length s.disk.calls))

-- so what may be left now is by all of them
left_by_all : (s : Session) (image : Image) → (session_world s).leaves (now_of s) image → LeftImage s.disk.first s.disk.calls image
left_by_all s image left = subst (λ (calls : List Call). LeftImage s.disk.first calls image) (now_all s) left

all_left : (s : Session) (image : Image) → LeftImage s.disk.first s.disk.calls image → (session_world s).leaves (now_of s) image
all_left s image left = subst (λ (calls : List Call). LeftImage s.disk.first calls image) (sym (now_all s)) left

pub disk_is_handed_on : DiskIsHandedOn
disk_is_handed_on s input takes says pace image left = all_left s image (left_by_all (fresh s.disk input takes says pace) image left)

pub crash_is_handed_on : CrashIsHandedOn
crash_is_handed_on s picks h input takes says pace bytes new image left =
    let by_none = subst (λ (calls : List Call). LeftImage h.first calls image) new.calls (left_by_all (fresh h input takes says pace) image left) in
    let is : image ≡ image_of h.first = by_none.2 ∙ ap image_of by_none.1 in (
      is ∙ ap (λ (calls : List Call). image_of (bytes_after h.first calls)) (sym new.calls),
      all_left s image (crash_bytes s.disk.first s.disk.calls picks, crash_is_left s.disk.first s.disk.calls picks bytes, is ∙ ap image_of new.first),
    )
