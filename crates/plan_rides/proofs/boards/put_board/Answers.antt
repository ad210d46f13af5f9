use Rattle.std.proofs.Common.{◌≡◌, ◌∙◌, ◌-◌, ap, subst, sym, pos, ◌≤ℤ◌}
use Rattle.std.specs.Prelude.{None}
use Rattle.std.proofs.lemmas.Option.{unwrap_or-slice_get}
use Rattle.plan_rides.proofs.BoardLaws.{none_by, puts_none, puts_shorter}
use Rattle.plan_rides.proofs.boards.put_board.Goals as goal

pub returns-in_default : goal.returns-in_default
returns-in_default c =
    puts_none c.args.window c.args.end c.args.call.now c.args.boards.now
    (λ until pickup ends. none_by c.args.end until c.in_default.is ends)

pub returns : goal.returns
returns c =
    let call = c.args.call.now in
    let boards = c.args.boards.now in
    let rest = c.saturating_sub.ensures in
    let departure = c.from.ensures in
    let same : c.saturating_sub.result ≡ c.in-Some.end - call.departure = rest ∙ ap
    (λ n. c.in-Some.end - n) departure in
    puts_shorter c.args.window c.args.end c.in-Some.end call boards _ c.shorter.result c.in-Some.is c.requires
    (sym (unwrap_or-slice_get boards call.stop.0 None)) c.shorter.ensures.one
    (λ secs le few. c.shorter.ensures.other secs
    (c.span_of-span.ensures secs (subst (λ n. pos n ≤ℤ secs) (sym same) le) few))
