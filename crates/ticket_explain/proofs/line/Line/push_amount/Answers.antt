use Rattle.std.proofs.Common.{sym}
use Rattle.std.proofs.lemmas.List.{append-nil}
use Rattle.ticket_explain.proofs.LineLaws.{moneyless}
use Rattle.ticket_explain.proofs.line.Line.push_amount.Goals as goal

pub returns-then-decimals-ne3 : goal.returns-then-decimals-ne3
returns-then-decimals-ne3 c =
    rw (moneyless c.args.decimals c.args.amount.0 c.if-decimals-ne0.true c.if-decimals-ne2.true c.if-decimals-ne3.true)
    (sym (append-nil _))
