use Rattle.std.proofs.Common.{◌≡◌, sym, ◌∙◌, subst, List, ◌<◌, length, get_or, None, Some, arith}
use Rattle.plain_laws.proofs.Laws.{first_in_found, first_in_next}
use Rattle.feed_files.specs.Names.{all_files}
use Rattle.feed_files.specs.declared.names.FileName.{FileName}
use Rattle.feed_faults.specs.FirstFault.{relation_fault, first_relation_fault}
use Rattle.feed_relations.proofs.pass.first_fault.Goals as goal

pub returns-in-Some : goal.returns-in-Some
unfolding first_relation_fault
returns-in-Some g c =
    sym (first_in_found all_files (relation_fault c.args.feed.now) c.loop-i.i _ c.in-Some.fault
    (subst (λ (files : List FileName). c.loop-i.i < length files) c.all-file-items.ensures (omega (arith, c.loop-i-test.true))) c.loop-i.invariant
    (subst (λ (files : List FileName). relation_fault c.args.feed.now (get_or files c.loop-i.i _) ≡ Some c.in-Some.fault) c.all-file-items.ensures (sym c.in_ok-fault.ensures ∙ c.in-Some.is)))

pub loop-i-preserved : goal.loop-i-preserved
loop-i-preserved g c =
    first_in_next all_files (relation_fault c.args.feed.now) c.loop-i.i _
    (subst (λ (files : List FileName). c.loop-i.i < length files) c.all-file-items.ensures (omega (arith, c.loop-i-test.true))) c.loop-i.invariant
    (subst (λ (files : List FileName). relation_fault c.args.feed.now (get_or files c.loop-i.i _) ≡ None) c.all-file-items.ensures (sym c.in_ok-fault.ensures ∙ c.in_default.is))
