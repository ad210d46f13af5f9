use Rattle.std.proofs.Common.{◌≡◌, ◌∙◌, ap, refl, rules, ℤ, pos, ◌+ℤ◌}
use mir.Syntax.{w64}
use mir.Val.{SFits}
use Rattle.transit_base.specs.Moments.{moment_at}
use Rattle.feed_rows.specs.Legs.{frames_at}
use Rattle.fare_audit.specs.Runs.{run_moment}
use Rattle.fare_audit.proofs.SignedLaws.{told_sum}
use Rattle.fare_audit.proofs.judge.Audit.end_of.Goals as goal

pub returns : goal.returns
returns c =
    let feed = c.args.self.now.feed in
    let run = c.args.run.now in
    let call = c.args.call.now in
    let f : SFits w64 run.shift = search rules in
    let g1 : SFits w64 (pos call.arrival) = search rules in
    let g2 : SFits w64 (pos call.departure) = search rules in
    let h1 : SFits w64 (run.shift +ℤ pos call.arrival) = search rules in
    let h2 : SFits w64 (run.shift +ℤ pos call.departure) = search rules in
    let arrives : frames_at feed c.at-arrival.result ≡ frames_at feed (run_moment run call.arrival) = ap (λ (z : ℤ). frames_at feed (record { 0 = z })) (c.at-arrival.ensures ∙ ap (moment_at run.day.0) (told_sum run.shift c.from.result call.arrival c.from.ensures f g1 h1)) in
    let departs : frames_at feed c.at-departure.result ≡ frames_at feed (run_moment run call.departure) = ap (λ (z : ℤ). frames_at feed (record { 0 = z })) (c.at-departure.ensures ∙ ap (moment_at run.day.0) (told_sum run.shift c.from-2.result call.departure c.from-2.ensures f g2 h2)) in
    record {
      stop = refl;
      areas = c.like_stop.ensures;
      arrives = c.like_moment.ensures ∙ arrives;
      departs = c.like_moment-2.ensures ∙ departs;
      pickup = refl;
      drop_off = refl;
    }
