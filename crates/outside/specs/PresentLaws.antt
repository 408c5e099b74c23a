-- At the present moment all of the disk's calls have been, and all has been said.
use Rattle.std.specs.Prelude.{◌≡◌, ◌≤◌, ◌-◌, ℕ, Bool, length, if◌then◌else◌}
use Rattle.std.proofs.Common.{sym, ap, subst}
use Rattle.std.proofs.Math.Nat.{le_refl}
use Rattle.std.proofs.lemmas.Bool.{le-ltb}
use Rattle.disk_mem.specs.Bytes.{image_of}
use Rattle.disk_mem.specs.Calls.{bytes_after, calls_by}
use Rattle.disk_mem.specs.CurrentLaws.{current_is_left}
use Rattle.disk_mem.specs.History.{LeftImage}
use Rattle.outside.specs.Session.{Session, disk_moment, now_of, says_by, bytes_by, session_world}
use Rattle.outside.specs.Streams.{SaidByNow}

pub disk_moment-now : (s : Session) (m : ℕ) → now_of s ≤ m → disk_moment s m ≡ length s.disk.calls
disk_moment-now s m le = ap (λ (b : Bool). if b then m - says_by s.marks m else length s.disk.calls) (le-ltb m (now_of s) le)

pub said_by_now : (s : Session) → SaidByNow (session_world s)
said_by_now s m le = ap (λ (b : Bool). if b then bytes_by s.marks m else length s.said) (le-ltb m (now_of s) le)

pub session_is_left : (s : Session) → LeftImage s.disk.first (calls_by (disk_moment s (now_of s)) s.disk.calls) (image_of (bytes_after s.disk.first s.disk.calls))
session_is_left s =
    let all : disk_moment s (now_of s) ≡ length s.disk.calls = disk_moment-now s (now_of s) (le_refl (now_of s)) in
    subst (λ (k : ℕ). LeftImage s.disk.first (calls_by k s.disk.calls) (image_of (bytes_after s.disk.first s.disk.calls))) (sym all) (current_is_left s.disk)
