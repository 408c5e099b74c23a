use Rattle.fst_map.proofs.Judged.{front_broken, none_broken, rest_broken, trie_broken}
use Rattle.fst_map.proofs.map.FstMap.read.Goals as goal
use Rattle.map_file_model.proofs.Written.{body_written}

pub returns-in-Some-rest_fault-clause-refused : goal.returns-in-Some-rest_fault-clause-refused
returns-in-Some-rest_fault-clause-refused g c = rest_broken c.args.bytes.now c.in-Some-rest_fault.fault c.in_default.ensures.rules c.in-Ok.ensures.read.no_fault c.in-Some-rest_fault.ensures

pub invariant_of-result : goal.invariant_of-result
invariant_of-result g c = record {
  bytes_are = λ i. (c.type_inv.bytes i).fits;
  has = c.in_default.ensures.parts;
  parts_are = c.parts_of-parts.ensures;
  of_image = c.in-Ok.ensures.read.of_image;
  no_fault = none_broken c.args.bytes.now c.in_default.ensures.rules c.in-Ok.ensures.read.no_fault c.in_default-rest_fault.ensures;
}

pub returns-in_default-rest_fault-clause-spelled : goal.returns-in_default-rest_fault-clause-spelled
returns-in_default-rest_fault-clause-spelled g c =
    body_written c.args.bytes.now (λ i. (c.type_inv.bytes i).fits)
    (none_broken c.args.bytes.now c.in_default.ensures.rules c.in-Ok.ensures.read.no_fault c.in_default-rest_fault.ensures)

pub returns-in-Some-clause-refused : goal.returns-in-Some-clause-refused
returns-in-Some-clause-refused g c = front_broken c.args.bytes.now c.in-Some.fault c.in-Some.ensures.rules

pub returns-in-Err-clause-refused : goal.returns-in-Err-clause-refused
returns-in-Err-clause-refused g c = trie_broken c.args.bytes.now c.in-Err.error c.in_default.ensures.rules c.in-Err.ensures.refused
