use Rattle.std.proofs.Common.{◌≡◌, ◌∙◌, ap, subst, ℕ, ℤ, ◌-◌, pos, ◌-ℤ◌, rules, arith}
use mir.Syntax.{w64}
use mir.Val.{SFits}
use Rattle.std.proofs.lemmas.Int.{ints, to_z-of_z}
use Rattle.transit_base.specs.Moments.{time_of_day}
use Rattle.feed_rows.specs.Legs.{frames_at}
use Rattle.fare_timeframes.specs.Cuts.{IsCutBefore}
use Rattle.fare_timeframes.proofs.CutLaws.{frames_by_cut}
use Rattle.fare_timeframes.proofs.cuts.moment_by.Goals as goal

pub returns-in-Some : goal.returns-in-Some
returns-in-Some c = λ feed are.
    let at = c.args.at.0 in
    let cut = c.cut_before-cut.result in
    let timed : c.time_of_day-time.result.0 ≡ time_of_day at = c.time_of_day-time.ensures in
    let gone : c.saturating_sub.result ≡ c.time_of_day-time.result.0 - cut = c.saturating_sub.ensures in
    let from : c.from.result ≡ pos c.saturating_sub.result = c.from.ensures in
    let seconds : c.from.result ≡ pos (time_of_day at - cut) = from ∙ ap pos (gone ∙ ap (λ (t : ℕ). t - cut) timed) in
    let sub = c.in-Some.ensures in
    let like : c.in-Some.like ≡ at -ℤ pos (time_of_day at - cut) = omega (arith, ints, sub, seconds) in
    let fits : SFits w64 c.in-Some.like = search rules in
    let told = to_z-of_z w64 c.in-Some.like fits in
    ap (λ (z : ℤ). frames_at feed (record { 0 = z })) told
    ∙ frames_by_cut feed c.args.cuts.now at c.in-Some.like cut are (subst (λ (t : ℕ). IsCutBefore c.args.cuts.now t cut) timed (c.cut_before-cut.ensures are.rises)) like
