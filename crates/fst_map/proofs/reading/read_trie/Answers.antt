use Rattle.std.proofs.Common.{◌∙◌, ap, subst, sym}
use Rattle.filter_api.specs.declared.errors.DecodeError.{DecodeError}
use Rattle.filter_image_model.specs.Laws.{IsWholeImage}
use Rattle.filter_image_model.specs.Reading.{whole_fault}
use Rattle.filter_codec.specs.Decoding.{IsWholeCause}
use Rattle.fst_map.proofs.Judged.{count_broken, image_broken, of_image, trie_kept}
use Rattle.fst_map.proofs.reading.read_trie.Goals as goal
use Rattle.map_file_model.specs.Maps.{Bytes}
use Rattle.map_parts.specs.declared.parts.Parts.{Parts}

pub returns-in-Err-Fault-clause-refused : goal.returns-in-Err-Fault-clause-refused
returns-in-Err-Fault-clause-refused g c =
    let first = subst (λ (e : DecodeError). IsWholeCause c.image_in.result.now e) c.in-Err-Fault.field-0-is c.in-Err-Fault.ensures.refused in
    rw c.in-Err-Fault.field-0-is (image_broken c.args.bytes.now c.in-Err-Fault.fault.place c.in-Err-Fault.fault.rule (ap whole_fault (sym c.image_in.ensures) ∙ first.first))

pub returns-then-leaves-parts-clause-refused : goal.returns-then-leaves-parts-clause-refused
returns-then-leaves-parts-clause-refused g c =
    let trie = c.in-Ok.trie in
    let is = subst (λ (part : Bytes). IsWholeImage trie.cutoff trie.leaves part) c.image_in.ensures c.in-Ok.ensures.read in
    count_broken c.args.bytes.now (λ i. (c.type_inv.bytes i).fits) trie is c.in-Ok.ensures.no_bits
    (λ same. c.if-leaves-parts.true (c.leaves.ensures ∙ same ∙ ap (λ (p : Parts). p.pairs) (sym c.requires.parts)))

pub returns-else-leaves-parts-clause-read : goal.returns-else-leaves-parts-clause-read
returns-else-leaves-parts-clause-read g c =
    let trie = c.in-Ok.trie in
    let is = subst (λ (part : Bytes). IsWholeImage trie.cutoff trie.leaves part) c.image_in.ensures c.in-Ok.ensures.read in
    let same = sym c.leaves.ensures ∙ c.if-leaves-parts.false ∙ ap (λ (p : Parts). p.pairs) c.requires.parts in
    record {
      of_image = of_image c.args.bytes.now (λ i. (c.type_inv.bytes i).fits) trie is c.in-Ok.ensures.no_bits;
      no_fault = trie_kept c.args.bytes.now (λ i. (c.type_inv.bytes i).fits) trie is c.in-Ok.ensures.no_bits same;
    }
