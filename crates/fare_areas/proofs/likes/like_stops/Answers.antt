use Rattle.std.proofs.Common.{◌≡◌, ◌∙◌, sym, ap, subst, length, arith, List, ◌+◌}
use Rattle.std.specs.Prelude.{Option}
use Rattle.std.proofs.lemmas.List.{length_push}
use Rattle.transit_base.specs.declared.numbers.StopId.{StopId}
use Rattle.fare_areas.specs.LikeStops.{AreFirsts}
use Rattle.ride_cache.proofs.PlaceLaws.{written}
use Rattle.fare_areas.proofs.StopLaws.{likes_more, no_firsts, no_likes}
use Rattle.fare_areas.proofs.likes.like_stops.Goals as goal

pub loop-number-init : goal.loop-number-init
loop-number-init c =
    let feed = c.args.feed.now in
    record {
      many = ap length c.new-likes.ensures.items;
      firsts = no_firsts feed c.in_ok-firsts.firsts.items c.in_ok-firsts.ensures;
      likes = no_likes feed c.new-likes.result.items c.new-likes.ensures.items;
    }

pub loop-number-preserved : goal.loop-number-preserved
loop-number-preserved c =
    let feed = c.args.feed.now in
    let was = c.loop-number.invariant in
    let many = c.like_stop.ensures.many in
    let own = ap length c.deref_mut.ensures.value in
    let ok = c.loop-number.firsts.ok.0 in
    let whole = written c.loop-number.firsts.items c.like_stop.new.firsts c.loop-number.firsts.len (omega (arith, many, own)) (omega (arith, ok)) in
    let P : List (Option StopId) → Type 0 = AreFirsts feed in
    let before = subst P (sym c.deref_mut.ensures.value) was.firsts in
    record {
      many = ap length c.in_ok-push.ensures.items ∙ length_push _ _ ∙ ap (λ n. n + 1) was.many;
      firsts = subst P (sym whole) (c.like_stop.ensures.firsts feed c.requires before);
      likes = likes_more feed c.loop-number.likes.items _ c.loop-number.number _ was.likes was.many c.in_ok-push.ensures.items (c.like_stop.ensures.like feed c.requires before);
    }
