use Rattle.std.proofs.Common.{◌≡◌, ◌+◌, ◌∙◌, arith}
use Rattle.std.specs.Prelude.{None}
use Rattle.std.proofs.lemmas.Option.{unwrap_or-slice_get}
use Rattle.plan_rides.proofs.BoardLaws.{end_here, no_end_here}
use Rattle.plan_rides.proofs.boards.end_at.Goals as goal

pub returns-in_err-span : goal.returns-in_err-span
returns-in_err-span c until off enough =
    let call = c.args.call.now in
    absurd (no_end_here c.args.spans.now call until c.requires
    (unwrap_or-slice_get c.args.spans.now call.stop.0 None ∙ c.in_err-span.was) enough)

pub returns : goal.returns
returns c until off enough =
    let call = c.args.call.now in
    let first = c.from.ensures in
    let second = c.from-2.ensures in
    let sum : c.from.result + c.from-2.result ≡ call.arrival + c.in_ok-span.span.0 = omega (arith, first, second) in
    end_here c.args.spans.now call c.in_ok-span.span _ until c.requires
    (unwrap_or-slice_get c.args.spans.now call.stop.0 None ∙ c.in_ok-span.was) sum enough
