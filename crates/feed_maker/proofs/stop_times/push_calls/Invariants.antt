use Rattle.std.proofs.Common.{◌≡◌, ◌++◌, ◌+◌, ◌*◌}
use Rattle.plain_laws.specs.Plain.{joined_below}
use Rattle.feed_maker.specs.FileTexts.{call_line}
use Rattle.feed_maker.proofs.stop_times.push_calls.Given as goal

abbrev pub invariant-loop-position : goal.invariant-loop-position
invariant-loop-position l =
    l.file
    ≡ l.initial.file
    ++ joined_below l.position (λ p. call_line l.lines l.route l.trip p (l.departure + p * l.hop))
