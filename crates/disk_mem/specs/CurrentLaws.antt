-- What a disk reads as is one of what a crash may leave now.
use Rattle.std.specs.Prelude.{◌≡◌, ℕ, Bool, true, false, List, [], ◌∷◌, length, drop, refl}
use Rattle.std.proofs.Common.{sym, ap, subst, inl, inr}
use Rattle.std.proofs.Math.Nat.{sub_self}
use Rattle.disk_trait.specs.declared.fault.Op.{Op}
use Rattle.disk_trait.specs.declared.fault.Op.TheVariants.{Read, Write, Sync}
use Rattle.disk_mem.specs.Bytes.{image_of}
use Rattle.disk_mem.specs.Calls.{Call, Left, LeftBy, applied, bytes_after, calls_by}
use Rattle.disk_mem.specs.History.{History, LeftImage}

-- each call keeps it so: a write that was done stands whole, one that failed is lost
stands : (op : Op) (done : Bool) (at : ℕ) (bytes read : List ℕ) (Before : List ℕ → Type 0) → Before read → LeftBy op done at bytes read Before (applied op done at bytes read)
stands Sync true at bytes read Before here = refl
stands Sync false at bytes read Before here = here
stands Read done at bytes read Before here = here
stands Write true at bytes read Before here = (read, here, inl refl)
stands Write false at bytes read Before here = (read, here, inr (inl refl))

pub read_is_left : (first : List ℕ) (calls : List Call) → Left first calls (bytes_after first calls)
read_is_left first [] = refl
read_is_left first (call ∷ earlier) = stands call.op call.done call.at call.bytes (bytes_after first earlier) (Left first earlier) (read_is_left first earlier)

pub current_is_left : (h : History) → LeftImage h.first (calls_by (length h.calls) h.calls) (image_of (bytes_after h.first h.calls))
current_is_left h =
    let all : calls_by (length h.calls) h.calls ≡ h.calls = ap (λ (k : ℕ). drop k h.calls) (sub_self (length h.calls)) in
    (bytes_after h.first h.calls, subst (λ (l : List Call). Left h.first l (bytes_after h.first h.calls)) (sym all) (read_is_left h.first h.calls), refl)
