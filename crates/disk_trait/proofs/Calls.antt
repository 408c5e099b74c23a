-- Calls one after the other: their footprints, and the triple `Leads` with its frame rule.
use Rattle.std.proofs.Common.{◌≡◌, ◌≤◌, ◌+◌, ℕ, List, length, subst, arith, sym, refl, ◌∙◌}
use Rattle.std.specs.Prelude.{Result, Ok, Err, OnOk, IsErr}
use Rattle.disk_trait.specs.World.{Image, World, Now, Passes, Same, Torn, Leads, ReadMoves, WriteMoves, SyncMoves, Moves, IsDurable, overwritten}
use Rattle.disk_trait.proofs.Images.{torn_same, torn_twice, torn_wider}
use Rattle.disk_trait.proofs.Moments.{framed, framed_now, carried, started, goes_on, in_call, now_at, meanwhile_then, meanwhile_weaker, passes_then, passes_wider, passes_none, passes_still, same_then, same_is_torn}

-- ---- footprints of writes

pub moves_none : (at n : ℕ) (a : World) → WriteMoves at n a a
moves_none at n a = record { torn = torn_same a.seen.held at n; reads = refl; read_faults = refl; write_faults = omega arith; time = passes_none at n a; beside = refl }

pub moves_then : (at n : ℕ) (a b c : World) → WriteMoves at n a b → WriteMoves at n b c → WriteMoves at n a c
moves_then at n a b c p q = record {
  torn = torn_twice at n a.seen.held b.seen.held c.seen.held p.torn q.torn;
  reads = q.reads ∙ p.reads;
  read_faults = q.read_faults ∙ p.read_faults;
  write_faults = omega (arith, p.write_faults, q.write_faults);
  time = passes_then at n a b c p.time q.time;
  beside = q.beside ∙ p.beside;
}

pub moves_wider : (at n low size : ℕ) (a b : World) → low ≤ at → at + n ≤ low + size → WriteMoves at n a b → WriteMoves low size a b
moves_wider at n low size a b l h p = record {
  torn = torn_wider at n low size a.seen.held b.seen.held l h p.torn;
  reads = p.reads;
  read_faults = p.read_faults;
  write_faults = p.write_faults;
  time = passes_wider at n low size a b l h p.time;
  beside = p.beside;
}

-- what is held is the same, so it is torn nowhere
torn_nowhere : (at n : ℕ) (a b : World) → b.seen.held ≡ a.seen.held → Torn at n a.seen.held b.seen.held
torn_nowhere at n a b held = subst (λ (h : Image). Torn at n a.seen.held h) (sym held) (torn_same a.seen.held at n)

pub moves_sync : (at n : ℕ) (a b : World) → SyncMoves a b → WriteMoves at n a b
moves_sync at n a b s = record {
  torn = torn_nowhere at n a b s.held;
  reads = s.reads;
  read_faults = s.read_faults;
  write_faults = s.write_faults;
  time = same_is_torn at n a b s.time;
  beside = s.beside;
}

-- ---- footprints of reads

pub reads_none : (n : ℕ) (a : World) → ReadMoves n a a
reads_none n a = record { held = refl; reads = omega arith; reads_later = omega arith; read_faults = omega arith; write_faults = refl; time = passes_still Same a; beside = refl }

pub reads_then : (m n : ℕ) (a b c : World) → ReadMoves m a b → ReadMoves n b c → ReadMoves (m + n) a c
reads_then m n a b c p q = record {
  held = q.held ∙ p.held;
  reads = omega (arith, p.reads, q.reads);
  reads_later = omega (arith, p.reads_later, q.reads_later);
  read_faults = omega (arith, p.read_faults, q.read_faults);
  write_faults = q.write_faults ∙ p.write_faults;
  time = same_then a b c p.time q.time;
  beside = q.beside ∙ p.beside;
}

pub reads_more : (m n : ℕ) (a b : World) → m ≤ n → ReadMoves m a b → ReadMoves n a b
reads_more m n a b le p = record {
  held = p.held;
  reads = omega (arith, p.reads);
  reads_later = p.reads_later;
  read_faults = p.read_faults;
  write_faults = p.write_faults;
  time = p.time;
  beside = p.beside;
}

-- what each image had before a call that only reads, each one has after it
pub reads_keep : (P : Image → Type 0) (n : ℕ) (a b : World) → ReadMoves n a b → Now P a → Now P b
reads_keep P n a b l here = now_at P a b (in_call P Same a b here l.time (λ was image left same. subst P (sym same) (here was left)))

-- ---- footprints of reads and writes

pub moves_of_read : (at n most : ℕ) (a b : World) → ReadMoves most a b → Moves at n most a b
moves_of_read at n most a b p = record {
  torn = torn_nowhere at n a b p.held;
  reads = p.reads;
  reads_later = p.reads_later;
  read_faults = p.read_faults;
  write_faults = omega (arith, p.write_faults);
  time = same_is_torn at n a b p.time;
  beside = p.beside;
}

pub moves_of_write : (at n most : ℕ) (a b : World) → WriteMoves at n a b → Moves at n most a b
moves_of_write at n most a b p = record {
  torn = p.torn;
  reads = omega (arith, p.reads);
  reads_later = omega (arith, p.reads);
  read_faults = omega (arith, p.read_faults);
  write_faults = p.write_faults;
  time = p.time;
  beside = p.beside;
}

pub moves_joined : (at n m most : ℕ) (a b c : World) → Moves at n m a b → Moves at n most b c → Moves at n (m + most) a c
moves_joined at n m most a b c p q = record {
  torn = torn_twice at n a.seen.held b.seen.held c.seen.held p.torn q.torn;
  reads = omega (arith, p.reads, q.reads);
  reads_later = omega (arith, p.reads_later, q.reads_later);
  read_faults = omega (arith, p.read_faults, q.read_faults);
  write_faults = omega (arith, p.write_faults, q.write_faults);
  time = passes_then at n a b c p.time q.time;
  beside = q.beside ∙ p.beside;
}

-- ---- what holds at Ok

pub on_ok_two : {T E : Type 0} (P Q R : Type 0) (r : Result T E) → (P → Q → R) → OnOk r P → OnOk r Q → OnOk r R
on_ok_two P Q R (Ok v) f p q = f p q
on_ok_two P Q R (Err e) f p q = tt

pub on_ok_one : {T E : Type 0} (P R : Type 0) (r : Result T E) → (P → R) → OnOk r P → OnOk r R
on_ok_one P R (Ok v) f p = f p
on_ok_one P R (Err e) f p = tt

never_ok : {T E : Type 0} (R : Type 0) (r : Result T E) → IsErr r → OnOk r R
never_ok R (Ok v) failed = absurd cc
never_ok R (Err e) failed = tt

-- ---- from images to images

-- one write that is made to last
pub through : {T E : Type 0} (P Q R : Image → Type 0) (at : ℕ) (bytes : List ℕ) (result : Result T E) (a b : World)
    → a.leaves a.moment a.seen.held → WriteMoves at (length bytes) a b → OnOk result (b.seen.held ≡ overwritten a.seen.held at bytes) → OnOk result (IsDurable b)
    → ((f : Image) → P f → Q f)
    → ((f g : Image) → P f → Torn at (length bytes) f g → Q g)
    → ((f g : Image) → P f → g ≡ overwritten f at bytes → R g)
    → Leads P Q R result a b
through P Q R at bytes result a b current moves written durable stays tears does = record {
  meanwhile = λ here. goes_on Q (Torn at (length bytes)) a a b (started Q a (λ image left. stays image (here image left))) moves.time (λ was image left torn. tears was image (here was left) torn);
  after = λ here. on_ok_two _ _ _ result (λ is last image left. does a.seen.held image (here a.seen.held current) (last image left ∙ is)) written durable;
}

-- nothing called
pub leads_none : {T E : Type 0} (P Q R : Image → Type 0) (x : T) (a : World) → ((f : Image) → P f → Q f) → ((f : Image) → P f → R f) → Leads {E = E} P Q R (Ok x) a a
leads_none P Q R x a stays is = record { meanwhile = λ here. started Q a (λ image left. stays image (here image left)); after = λ here image left. is image (here image left) }

-- a call after another that was Ok
pub leads_then : {T U E F : Type 0} (P Q R Wide S : Image → Type 0) (x : T) (result : Result U F) (a b c : World) → ((f : Image) → Q f → Wide f)
    → Leads {E = E} P Q R (Ok x) a b → Leads R Wide S result b c → Leads P Wide S result a c
leads_then P Q R Wide S x result a b c wider first second = record {
  meanwhile = λ here. meanwhile_then Wide a b c (meanwhile_weaker Q Wide a b (first.meanwhile here) wider) (second.meanwhile (first.after here));
  after = λ here. second.after (first.after here);
}

-- a call that was not Ok ends the whole
pub leads_stop : {T U E F : Type 0} (P Q R Wide S : Image → Type 0) (e : E) (result : Result U F) (a b : World) → ((f : Image) → Q f → Wide f) → IsErr result
    → Leads {T = T} P Q R (Err e) a b → Leads P Wide S result a b
leads_stop P Q R Wide S e result a b wider failed first = record { meanwhile = λ here. meanwhile_weaker Q Wide a b (first.meanwhile here) wider; after = λ here. never_ok _ result failed }

pub leads_weaker : {T E : Type 0} (P Q R P2 Q2 R2 : Image → Type 0) (result : Result T E) (a b : World)
    → Leads P Q R result a b → ((f : Image) → P2 f → P f) → ((f : Image) → Q f → Q2 f) → ((f : Image) → R f → R2 f) → Leads P2 Q2 R2 result a b
leads_weaker P Q R P2 Q2 R2 result a b l p q r = record {
  meanwhile = λ here. meanwhile_weaker Q Q2 a b (l.meanwhile (λ image left. p image (here image left))) q;
  after = λ here. on_ok_one _ _ result (λ now image left. r image (now image left)) (l.after (λ image left. p image (here image left)));
}

-- what a call that only reads leads to: what each image had, it has
pub leads_read : {T E : Type 0} (P : Image → Type 0) (n : ℕ) (result : Result T E) (a b : World) → ReadMoves n a b → Leads P P P result a b
leads_read P n result a b moves = record {
  meanwhile = λ here. in_call P Same a b here moves.time (λ was image left same. subst P (sym same) (here was left));
  after = λ here. always result (reads_keep P n a b moves here);
} where
  always : {T E : Type 0} {R : Type 0} (r : Result T E) → R → OnOk r R
  always (Ok v) holds = holds
  always (Err e) holds = tt

-- THE FRAME RULE for calls: what a call's range does not reach goes through it. It asks for the call's moments alone, so it
-- serves calls that write, that read, and that do both.
pub leads_framed : {T E : Type 0} (F P Q R : Image → Type 0) (at n : ℕ) (result : Result T E) (a b : World)
    → ((f g : Image) → F f → Torn at n f g → F g) → Passes (Torn at n) a b → Leads P Q R result a b
    → Leads (λ i. F i × P i) (λ i. F i × Q i) (λ i. F i × R i) result a b
leads_framed F P Q R at n result a b keeps time own = record {
  meanwhile = λ here. framed F Q (λ i. F i × Q i) at n a b (λ i left. (here i left).0) time (own.meanwhile (λ i left. (here i left).1)) (λ was image f torn q. (keeps was image f torn, q));
  after = λ here. on_ok_one _ _ result (λ now. framed_now F R (λ i. F i × R i) at n a b (λ i left. (here i left).0) time now (λ was image f torn r. (keeps was image f torn, r))) (own.after (λ i left. (here i left).1));
}

-- the same of a call that only says what stands at its end
pub leads_around : {T E : Type 0} (F R : Image → Type 0) (at n : ℕ) (result : Result T E) (a b : World)
    → ((f g : Image) → F f → Torn at n f g → F g) → Passes (Torn at n) a b → OnOk result (Now R b)
    → Leads F F (λ i. F i × R i) result a b
leads_around F R at n result a b keeps time ends = record {
  meanwhile = λ here. carried F F at n a b here time keeps;
  after = λ here. on_ok_one _ _ result (λ now. framed_now F R (λ i. F i × R i) at n a b here time now (λ was image f torn r. (keeps was image f torn, r))) ends;
}
