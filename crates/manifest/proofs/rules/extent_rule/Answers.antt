use Rattle.std.proofs.Common.{◌≡◌, ◌+◌, ℕ, Bool, ◌∷◌, true, false, refl, sym, ap, subst, arith}
use Rattle.std.specs.Prelude.{None}
use Rattle.std.specs.List.{AllByRecursion}
use Rattle.std.specs.List.Sorted.{IsPermutation}
use Rattle.byte_fields.specs.Faults.{refuse}
use Rattle.block_model.specs.Places.{pages_of}
use Rattle.extent_model.specs.Extents.{IsOnDevice, AreApart}
use Rattle.manifest.proofs.Extents.{free_is_good, taken_is_bad, one_more}
use Rattle.manifest.proofs.rules.extent_rule.Goals as goal

pub returns-then-not-is_free-clause-broken : goal.returns-then-not-is_free-clause-broken
returns-then-not-is_free-clause-broken c earlier same =
    let row = c.args.row.now in
    let taken = c.args.taken.now in
    let first = row.first_page in
    let n : c.from.result + c.from-2.result + c.from-3.result ≡ pages_of row = omega (arith, c.from.ensures, c.from-2.ensures, c.from-3.ensures) in
    let IsFree = λ (size pages : ℕ). IsOnDevice pages (first, size) × AllByRecursion (AreApart (first, size)) taken.extents in
    let back = λ (free : IsFree (pages_of row) c.args.device_pages). subst (λ (size : ℕ). IsFree size taken.pages) (sym n) (subst (λ (pages : ℕ). IsFree (pages_of row) pages) (sym c.requires.device) free) in
    let bad = taken_is_bad c.args.device_pages row earlier taken.extents same (omega (arith, c.requires.some)) (λ free. let never : false ≡ true = c.if-not-is_free.ensures.1 (back free) in absurd cc) in
    ap (λ (b : Bool). refuse b (c.args.place + 4) 10 None) (sym bad)

pub returns-clause-broken : goal.returns-clause-broken
returns-clause-broken c earlier same =
    let row = c.args.row.now in
    let taken = c.args.taken.now in
    let first = row.first_page in
    let n : c.from.result + c.from-2.result + c.from-3.result ≡ pages_of row = omega (arith, c.from.ensures, c.from-2.ensures, c.from-3.ensures) in
    let IsFree = λ (size pages : ℕ). IsOnDevice pages (first, size) × AllByRecursion (AreApart (first, size)) taken.extents in
    let free = subst (λ (pages : ℕ). IsFree (pages_of row) pages) c.requires.device (subst (λ (size : ℕ). IsFree size taken.pages) n (c.if-not-is_free.ensures.0 refl)) in
    ap (λ (b : Bool). refuse b (c.args.place + 4) 10 None) (sym (free_is_good c.args.device_pages row earlier taken.extents same free))

pub returns-clause-taken : goal.returns-clause-taken
returns-clause-taken c earlier same none =
    let row = c.args.row.now in
    let n : c.from.result + c.from-2.result + c.from-3.result ≡ pages_of row = omega (arith, c.from.ensures, c.from-2.ensures, c.from-3.ensures) in
    one_more c.args.device_pages row earlier c.args.taken.now.extents same c.add.new.self.extents
    (subst (λ (size : ℕ). IsPermutation ((row.first_page, size) ∷ c.args.taken.now.extents) c.add.new.self.extents) n c.in_ok-add.ensures.added)
