use Rattle.plan_app.proofs.MadeLaws.{gen_are}
use Rattle.plan_app.proofs.planning.gen_text.Goals as goal

pub returns : goal.returns
returns c =
    gen_are c.args.timetable.now c.args.query.now c.in_ok-found.found.items c.gen_lines_of.result
    c.in_ok-found.ensures.exact c.in_ok-found.ensures.covers
    (rw (← c.feed.ensures.value, ← c.deref.ensures.value) c.gen_lines_of.ensures.lines)
