use Rattle.std.proofs.Common.{◌≡◌, None}
use Rattle.plain_laws.specs.Plain.{first_below}
use Rattle.plain_laws.proofs.Laws.{at_item}
use Rattle.feed_files.specs.Names.{all_files}
use Rattle.feed_faults.specs.FirstFault.{relation_fault}
use Rattle.feed_relations.proofs.pass.first_fault.Given as goal

abbrev pub invariant-loop-i : goal.invariant-loop-i
invariant-loop-i g l = first_below l.i (at_item all_files (relation_fault l.feed)) ≡ None
