use Rattle.std.proofs.Common.{◌∙◌, sym, ap, subst, refl, arith, length, List, ℕ, ◌+◌, ◌++◌, ◌∷◌, []}
use Rattle.std.proofs.lemmas.List.{length_push}
use Rattle.feed_rows.specs.FeedRows.{FeedRows}
use Rattle.fare_audit.specs.declared.days.Reach.TheVariants.{OneDay, TwoDays, Longer}
use Rattle.fare_audit.specs.Days.{AreKinds, ArePicked}
use Rattle.fare_audit.proofs.DayLaws.{days_more, like_from_all, like_from_picked}
use Rattle.fare_audit.proofs.days.AuditDays.build.Goals as goal

pub loop-service-init : goal.loop-service-init
loop-service-init c =
    record {
      one = ap length c.empty.ensures;
      two = ap length c.empty-2.ensures;
      long = ap length c.empty-3.ensures;
      one_day = λ service lt. absurd (omega (arith, lt));
      two_days = λ service lt. absurd (omega (arith, lt));
      all = λ service lt. absurd (omega (arith, lt));
    }

pub loop-service-preserved : goal.loop-service-preserved
loop-service-preserved c =
    let feed = c.args.feed.now in
    let first = c.args.first.0 in
    let count = c.args.count in
    let n = c.loop-service.service in
    let was = c.loop-service.invariant in
    let active = c.in_ok-active.active.items in
    let act = c.in_ok-active.ensures feed c.requires.calendar in
    record {
      one = ap length c.in_ok-push.ensures.ok ∙ length_push _ _ ∙ ap (λ k. k + 1) was.one;
      two = ap length c.in_ok-push-2.ensures.ok ∙ length_push _ _ ∙ ap (λ k. k + 1) was.two;
      long = ap length c.in_ok-push-3.ensures.ok ∙ length_push _ _ ∙ ap (λ k. k + 1) was.long;
      one_day = days_more feed first count OneDay n _ c.loop-service.days.one_day _ _ was.one_day was.one (like_from_picked feed first count (record { 0 = n }) OneDay active c.in_ok-one.one.items act (subst (λ (ds : List ℕ). ArePicked feed first OneDay ds c.in_ok-one.one.items) c.deref-in-loop-service.ensures.value (c.in_ok-one.ensures feed first (subst (AreKinds feed first) (sym c.deref.ensures.value) c.in_ok-kinds.ensures)))) (c.in_ok-push.ensures.ok ∙ ap (λ ds. c.loop-service.days.one_day ++ ds ∷ []) c.deref-in-loop-service-4.ensures.value) refl;
      two_days = days_more feed first count TwoDays n _ c.loop-service.days.two_days _ _ was.two_days was.two (like_from_picked feed first count (record { 0 = n }) TwoDays active c.in_ok-two.two.items act (subst (λ (ds : List ℕ). ArePicked feed first TwoDays ds c.in_ok-two.two.items) c.deref-in-loop-service-3.ensures.value (c.in_ok-two.ensures feed first (subst (AreKinds feed first) (sym c.deref-in-loop-service-2.ensures.value) c.in_ok-kinds.ensures)))) (c.in_ok-push-2.ensures.ok ∙ ap (λ ds. c.loop-service.days.two_days ++ ds ∷ []) c.deref-in-loop-service-5.ensures.value) refl;
      all = days_more feed first count Longer n _ c.loop-service.days.all _ _ was.all was.long (like_from_all feed first count (record { 0 = n }) active act) (c.in_ok-push-3.ensures.ok ∙ ap (λ ds. c.loop-service.days.all ++ ds ∷ []) c.deref-in-loop-service-6.ensures.value) refl;
    }

pub returns : goal.returns
returns c =
    let past = c.loop-service-test.false in
    let long = c.items.ensures.len in
    let names = ap (λ (f : FeedRows). length f.service_names) c.feed.view_is in
    let was = c.loop-service.invariant in
    record {
      one_day = λ s lt. was.one_day s (omega (arith, lt, past, long, names));
      two_days = λ s lt. was.two_days s (omega (arith, lt, past, long, names));
      all = λ s lt. was.all s (omega (arith, lt, past, long, names));
    }
