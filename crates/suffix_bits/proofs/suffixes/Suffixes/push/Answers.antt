use Rattle.std.proofs.Common.{◌≡◌, ℕ, ◌+◌, ◌++◌, List, Bool, subst, sym, ap, ap₂, ◌∙◌}
use Rattle.bit_model.specs.Numbers.{bits_of}
use Rattle.suffix_bits.specs.Slots.{IsOfWidths, SuffixArray, suffix_number, unpacked_suffixes}
use Rattle.suffix_bits.proofs.Packing.{unpacked-push, length-pushed}
use Rattle.suffix_bits.proofs.suffixes.Suffixes.push.Goals as goal

pub invariant_of-self-2 : goal.invariant_of-self-2
invariant_of-self-2 g c =
    let h = c.self.inside.hash_bits in
    let r = c.self.inside.real_bits in
    let width : c.width-width.result ≡ h + r = c.width-width.ensures.width ∙ sym (ap (λ a. a.hash_bits + a.real_bits) c.self.view_is) in
    let added : c.push_number.new.self ≡ c.self.inside.bits ++ bits_of (h + r) c.joined.result =
    c.in_ok-push_number.ensures.added ∙ ap (λ (w : ℕ). c.self.inside.bits ++ bits_of w c.joined.result) width in
    (rw added (length-pushed h r c.self.inside.bits c.self.inside.count c.joined.result c.self.invariant.0), c.self.invariant.1, c.self.invariant.2)

pub returns-clause-added : goal.returns-clause-added
returns-clause-added g c =
    let h = c.self.inside.hash_bits in
    let r = c.self.inside.real_bits in
    let width : c.width-width.result ≡ h + r = c.width-width.ensures.width ∙ sym (ap (λ a. a.hash_bits + a.real_bits) c.self.view_is) in
    let fits : IsOfWidths h r (c.args.hash, c.args.real) = subst (λ (a : SuffixArray). IsOfWidths a.hash_bits a.real_bits (c.args.hash, c.args.real)) (sym c.self.view_is) c.requires in
    let added : c.push_number.new.self ≡ c.self.inside.bits ++ bits_of (h + r) (suffix_number h (c.args.hash, c.args.real)) =
    c.in_ok-push_number.ensures.added ∙ ap₂ (λ (w n : ℕ). c.self.inside.bits ++ bits_of w n) width c.joined.ensures in
    let slots =
    ap (λ (bits : List Bool). unpacked_suffixes h r bits (c.self.inside.count + 1)) added
    ∙ unpacked-push h r c.self.inside.bits c.self.inside.count (c.args.hash, c.args.real) c.self.invariant.0 fits in
    rw (← c.self.view_is) (ap (λ xs. record { hash_bits = h; real_bits = r; slots = xs }) slots)
