use Rattle.std.proofs.Common.{◌≡◌, ◌≤◌, ◌+◌, ◌++◌, List, [], ◌∷◌, ℕ, true, cond, length, take, sym, ap, ◌∙◌, subst, arith}
use Rattle.std.specs.Prelude.{nat_le, nat_lt, ◌==◌, ◌||◌, ◌&&◌}
use Rattle.std.specs.Option.{option_map}
use Rattle.map_model.specs.SortedMap.{Bytes}
use Rattle.entry_model.specs.Entries.{Entry, entry_of}
use Rattle.block_model.specs.Bodies.{entry_bytes}
use Rattle.block_model.specs.Formats.{Prefixed, begins_anew, entries_by, places_length, wants_shared}
use Rattle.block_format.specs.Building.{SpellsEntries, listed_among, takes}
use Rattle.block_format.proofs.Builders.{few_more, added, holds_added, near, short, takes_is}
use Rattle.block_format.proofs.builder.BlockBuilder.add.Goals as goal

pub fits-requires-clause-few : goal.fits-requires-clause-few
fits-requires-clause-few c = c.self.invariant.1.few

pub fits-requires-clause-small : goal.fits-requires-clause-small
fits-requires-clause-small c =
    let most = short c.self.inside.count c.self.inside.bytes.items c.self.inside.last.items c.self.inside.places c.self.invariant.1 in
    omega (arith, most, c.self.invariant.1.few, c.len-at.ensures, c.body_length-width.ensures.most)

pub returns-then-not-fits-clause-room : goal.returns-then-not-fits-clause-room
returns-then-not-fits-clause-room c =
    let e = entry_of c.args.key.now (option_map (λ v. v.now) c.args.value) in
    let n = c.self.inside.count in
    let bytes = c.self.inside.bytes.items in
    let key = c.self.inside.last.items in
    let shares : c.wants_shared-shared.result ≡ wants_shared n key e.key = c.wants_shared-shared.ensures.shared ∙ ap (λ (k : Bytes). wants_shared n k e.key) c.as_slice.ensures.value in
    let body = entry_bytes (wants_shared n key e.key) e in
    let size : c.body_length-width.result ≡ length body = c.body_length-width.ensures.is ∙ ap (λ (s : ℕ). length (entry_bytes s e)) shares in
    let sum : 8 + places_length (n + 1) + c.len-at.result + c.body_length-width.result ≡ 8 + places_length (n + 1) + length bytes + length body = omega (arith, size, c.len-at.ensures) in
    sym (ap (λ (es : List Entry). takes es e) (sym c.self.view_is)
    ∙ takes_is n bytes key c.self.inside.places c.self.invariant.1 e
    ∙ ap (λ (k : ℕ). (n == 0 || (nat_le k 4096 && nat_lt n 255))) (sym sum)
    ∙ sym c.fits.ensures
    ∙ c.if-not-fits.true)

pub note_place-requires-clause-few : goal.note_place-requires-clause-few
note_place-requires-clause-few c = omega (arith, few_more c.self.inside.count _ (sym c.fits.ensures ∙ c.if-not-fits.false))

pub note_place-requires-clause-near : goal.note_place-requires-clause-near
note_place-requires-clause-near c =
    let n = c.self.inside.count in
    let bytes = c.self.inside.bytes.items in
    let at : c.len-at.result ≡ length bytes = omega (arith, c.len-at.ensures) in
    let room : (n == 0 || (nat_le (8 + places_length (n + 1) + length bytes + c.body_length-width.result) 4096 && nat_lt n 255)) ≡ true =
    ap (λ (k : ℕ). (n == 0 || (nat_le (8 + places_length (n + 1) + k + c.body_length-width.result) 4096 && nat_lt n 255))) (sym at) ∙ sym c.fits.ensures ∙ c.if-not-fits.false in
    let small = near n bytes c.self.inside.last.items c.self.inside.places c.self.invariant.1 (places_length (n + 1)) c.body_length-width.result room in
    λ _. omega (arith, small, at)

pub invariant_of-self-2 : goal.invariant_of-self-2
invariant_of-self-2 c =
    let e = entry_of c.args.key.now (option_map (λ v. v.now) c.args.value) in
    let n = c.self.inside.count in
    let bytes = c.self.inside.bytes.items in
    let key = c.self.inside.last.items in
    let shares : c.wants_shared-shared.result ≡ wants_shared n key e.key = c.wants_shared-shared.ensures.shared ∙ ap (λ (k : Bytes). wants_shared n k e.key) c.as_slice.ensures.value in
    let at : c.len-at.result ≡ length bytes = omega (arith, c.len-at.ensures) in
    let body_is : c.push_entry.new.out.items ≡ bytes ++ entry_bytes (wants_shared n key e.key) e =
    c.in_ok-push_entry.ensures.added ∙ ap (λ (s : ℕ). bytes ++ entry_bytes s e) shares in
    let noted = c.note_place.ensures.listed ∙ ap (λ (p : ℕ). take (listed_among n) c.self.inside.places ++ cond (begins_anew n) (p ∷ []) []) at in
    let holds = holds_added n bytes key c.self.inside.places c.self.invariant.1 e c.requires c.note_place.new.places (few_more n _ (sym c.fits.ensures ∙ c.if-not-fits.false)) noted in (
      subst (λ (k : Bytes). length k ≤ 1024) (sym c.keep_key.ensures.kept) c.requires.short_key,
      subst (λ (k : Bytes). SpellsEntries (n + 1) c.push_entry.new.out.items k c.note_place.new.places) (sym c.keep_key.ensures.kept)
          (subst (λ (l : Bytes). SpellsEntries (n + 1) l e.key c.note_place.new.places) (sym body_is) holds),
    )

pub returns-clause-room : goal.returns-clause-room
returns-clause-room c =
    let e = entry_of c.args.key.now (option_map (λ v. v.now) c.args.value) in
    let n = c.self.inside.count in
    let bytes = c.self.inside.bytes.items in
    let key = c.self.inside.last.items in
    let shares : c.wants_shared-shared.result ≡ wants_shared n key e.key = c.wants_shared-shared.ensures.shared ∙ ap (λ (k : Bytes). wants_shared n k e.key) c.as_slice.ensures.value in
    let body = entry_bytes (wants_shared n key e.key) e in
    let size : c.body_length-width.result ≡ length body = c.body_length-width.ensures.is ∙ ap (λ (s : ℕ). length (entry_bytes s e)) shares in
    let sum : 8 + places_length (n + 1) + c.len-at.result + c.body_length-width.result ≡ 8 + places_length (n + 1) + length bytes + length body = omega (arith, size, c.len-at.ensures) in
    sym (ap (λ (es : List Entry). takes es e) (sym c.self.view_is)
    ∙ takes_is n bytes key c.self.inside.places c.self.invariant.1 e
    ∙ ap (λ (k : ℕ). (n == 0 || (nat_le k 4096 && nat_lt n 255))) (sym sum)
    ∙ sym c.fits.ensures
    ∙ c.if-not-fits.false)

pub returns-clause-added : goal.returns-clause-added
returns-clause-added c =
    let e = entry_of c.args.key.now (option_map (λ v. v.now) c.args.value) in
    let n = c.self.inside.count in
    let bytes = c.self.inside.bytes.items in
    let key = c.self.inside.last.items in
    let shares : c.wants_shared-shared.result ≡ wants_shared n key e.key = c.wants_shared-shared.ensures.shared ∙ ap (λ (k : Bytes). wants_shared n k e.key) c.as_slice.ensures.value in
    ap (entries_by Prefixed (n + 1) []) (c.in_ok-push_entry.ensures.added ∙ ap (λ (s : ℕ). bytes ++ entry_bytes s e) shares)
    ∙ added n bytes key c.self.inside.places c.self.invariant.1 e c.requires
    ∙ ap (λ (es : List Entry). es ++ e ∷ []) c.self.view_is
