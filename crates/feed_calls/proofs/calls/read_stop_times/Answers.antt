use Rattle.std.proofs.Common.{◌≡◌, ◌∙◌, ◌+◌, ◌∷◌, ◌++◌, [], refl, sym, ap, length, arith}
use Rattle.std.proofs.lemmas.List.{length-append}
use Rattle.std.proofs.lemmas.Result.{err_from_is_err_and}
use Rattle.feed_text.specs.Reader.{last_record}
use Rattle.feed_calls.proofs.CallLaws.{are_calls, is_fault, is_missing, too_many}
use Rattle.feed_calls.proofs.calls.read_stop_times.Goals as goal

pub returns-in_err-next-clause-why : goal.returns-in_err-next-clause-why
returns-in_err-next-clause-why g c =
    let told = err_from_is_err_and c.from_residual.result c.from_residual.ensures.1 in
    rw (told.1, told.2) (λ start stands. c.in_err-next.ensures.why start [] stands)

pub returns-then-not-branch-clause-why : goal.returns-then-not-branch-clause-why
returns-then-not-branch-clause-why g c = λ start stands.
    rw c.file_fault.ensures (is_missing start (rw c.if-not-branch.true at (c.in_ok-next.ensures.goes_on start [] stands)))

pub returns-in_err-next-2-clause-why : goal.returns-in_err-next-2-clause-why
returns-in_err-next-2-clause-why g c =
    let told = err_from_is_err_and c.from_residual-in_err-next-2.result c.from_residual-in_err-next-2.ensures.1 in
    rw (told.1, told.2) (λ start stands.
    let so_far = c.loop-calls.invariant.read start stands in
    c.in_err-next-2.ensures.why start (so_far.0 ∷ so_far.1) so_far.2)

pub returns-then-row-eq-MOST_ROWS-clause-why : goal.returns-then-row-eq-MOST_ROWS-clause-why
returns-then-row-eq-MOST_ROWS-clause-why g c = λ start stands.
    let so_far = c.loop-calls.invariant.read start stands in
    let one_more = rw c.if-branch.true at (c.in_ok-next-2.ensures.goes_on start (so_far.0 ∷ so_far.1) so_far.2) in
    let last = last_record c.next-in-loop-calls.new.self in
    let size = length-append so_far.1 (last ∷ []) in
    rw c.file_fault-then-row-eq-MOST_ROWS.ensures
    (too_many g.R.Read.remaining start (so_far.0 ∷ (so_far.1 ++ last ∷ [])) c.next-in-loop-calls.new.self one_more (omega (arith, size, so_far.3, c.if-row-eq-MOST_ROWS.true)))

pub loop-calls-preserved : goal.loop-calls-preserved
loop-calls-preserved g c = record {
  few = omega (arith, c.loop-calls.invariant.few, c.if-row-eq-MOST_ROWS.false);
  going = rw c.if-branch.true at c.in_ok-next-2.ensures.going;
  read = λ start stands.
      let so_far = c.loop-calls.invariant.read start stands in
      let one_more = rw c.if-branch.true at (c.in_ok-next-2.ensures.goes_on start (so_far.0 ∷ so_far.1) so_far.2) in
      let last = last_record c.next-in-loop-calls.new.self in
      let count : c.loop-calls.row + 1 ≡ length (so_far.1 ++ last ∷ []) = ap (λ n. n + 1) so_far.3 ∙ sym (length-append so_far.1 (last ∷ [])) in
      (so_far.0, so_far.1 ++ last ∷ [], one_more, count, c.in_ok-take.ensures so_far.0 so_far.1 so_far.3 so_far.4);
}

pub returns-in-Some-clause-why : goal.returns-in-Some-clause-why
returns-in-Some-clause-why g c = λ start stands.
    let so_far = c.loop-calls.invariant.read start stands in
    let all = rw c.if-branch.false at (c.in_ok-next-2.ensures.goes_on start (so_far.0 ∷ so_far.1) so_far.2) in
    is_fault c.args.ids.now so_far.0 so_far.1 c.loop-calls.calls so_far.4 (omega (arith, so_far.3, c.loop-calls.invariant.few)) start all c.in-Some.fault c.in-Some.is

pub returns-in-None-clause-rows : goal.returns-in-None-clause-rows
returns-in-None-clause-rows g c = λ start stands.
    let so_far = c.loop-calls.invariant.read start stands in
    let all = rw c.if-branch.false at (c.in_ok-next-2.ensures.goes_on start (so_far.0 ∷ so_far.1) so_far.2) in
    are_calls c.args.ids.now so_far.0 so_far.1 c.loop-calls.calls so_far.4 (omega (arith, so_far.3, c.loop-calls.invariant.few)) start all c.in-None.is

pub loop-calls-init : goal.loop-calls-init
loop-calls-init g c = record {
  few = omega arith;
  going = rw c.if-not-branch.false at c.in_ok-next.ensures.going;
  read = λ start stands.
      let one = rw c.if-not-branch.false at (c.in_ok-next.ensures.goes_on start [] stands) in
      (last_record c.next.new.self, [], one, refl, c.in_ok-calls.ensures c.args.ids.now);
}
