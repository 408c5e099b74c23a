use Rattle.std.proofs.Common.{◌≡◌, ◌∙◌, ◌++◌, ◌-◌, List, ℕ, ap, drop, length, replicate}
use Rattle.std.proofs.lemmas.List.{drop-replicate}
use Rattle.byteorder.specs.Endian.{big_number}
use Rattle.merge_rows.proofs.LeadOrder.{lead_padded}
use Rattle.merge_rows.proofs.leads.short_lead.Goals as goal

pub returns : goal.returns
returns c =
    let key = c.args.key.now in
    let zeros : List ℕ = replicate 8 0 in
    let read : c.read_u64.result ≡ big_number 8 (c.copy_from_slice.new.self ++ drop (length key) zeros) = c.read_u64.ensures in
    read
    ∙ ap (λ (k : List ℕ). big_number 8 (k ++ drop (length key) zeros)) c.copy_from_slice.ensures.after
    ∙ ap (λ (k : List ℕ). big_number 8 (key ++ k)) (drop-replicate (length key) 8 0)
    ∙ lead_padded key (8 - length key)
