-- The spans of stops, where no ride follows and where one more does.
use Rattle.std.proofs.Common.{◌≡◌, refl, sym, ◌∙◌, ap, subst, ℕ, ◌+◌, ◌<◌, ◌≤◌, ⊎_elim, true, false, List, [], ◌∷◌, ◌++◌, length, get_or, arith, ℤ, pos, ◌+ℤ◌, ◌-ℤ◌, ◌≤ℤ◌}
use Rattle.std.specs.Prelude.{if◌then◌else◌, Option, Some, None, slice_get, unwrap_or, Contains}
use Rattle.std.proofs.lemmas.Int.{ints}
use Rattle.std.proofs.lemmas.Bool.{cases_lt}
use Rattle.std.proofs.lemmas.List.{length_push}
use Rattle.std.proofs.lemmas.Option.{same_Some, slice_get_past, slice_get-get_or}
use Rattle.transit_base.specs.declared.moments.Secs.{Secs}
use Rattle.transit_base.specs.declared.numbers.StopId.{StopId}
use Rattle.feed_rows.specs.declared.journeys.Query.{Query}
use Rattle.feed_rows.specs.declared.journeys.Ride.{Ride}
use Rattle.feed_rows.specs.FeedRows.{FeedRows}
use Rattle.feed_rows.specs.Journeys.{access, egress}
use Rattle.feed_rows.specs.JourneyStands.{Stand}
use Rattle.feed_rows.specs.SoundFeed.{IsSoundFeed}
use Rattle.feed_rows.specs.StopLinks.{link, stop_set}
use Rattle.feed_walks.specs.OutOf.{out_of}
use Rattle.feed_walks.specs.declared.steps.Step.{Step}
use Rattle.plain_laws.proofs.Laws.{int_le-true, le-int_le, slice_get-push_before, slice_get-push_last}
use Rattle.plan_rides.specs.Boarding.{IsAmong}
use Rattle.plan_rides.specs.Cutoffs.{cutoff_by, is_early, is_enough, is_span}
use Rattle.plan_rides.specs.InTime.{IsWithinWindow, deadline, next_in_time}
use Rattle.plan_rides.specs.Spans.{AreAllBefore, AreBoardSpans, AreEndSpans, AreSpans, HasWalkSpans, IsEndSpan, IsOneMoreSpan, SpanLists, boards_of, no_spans, stands_of, with_spans}
use Rattle.plan_rides.proofs.CaughtLaws.{IsCaughtRide, caught_ride, in_walks}
use Rattle.plan_rides.proofs.CutoffLaws.{caught_parts, earlier_early, enough_at, enough_past}
use Rattle.plan_rides.proofs.DepartureLaws.{ride_stop}
use Rattle.plan_rides.proofs.MarkLaws.{among_more, member_of_stands_for}

-- ---- spans

-- no number of seconds is enough where there is none
pub span_none : (span : Option Secs) (secs : ℤ) → span ≡ None → is_span span secs ≡ true → ⊥
unfolding is_span
span_none span secs none is = let no : false ≡ true = sym (ap (λ o. is_span o secs) none) ∙ is in cc

-- so many seconds are enough for a span that is as long, or shorter
pub span_least : (seconds : ℕ) (secs : ℤ) → pos seconds ≤ℤ secs → is_span (Some (record { 0 = seconds })) secs ≡ true
unfolding is_span
span_least seconds secs le = le-int_le (pos seconds) secs le

-- what is enough for a span is so for one that is shorter
pub span_shorter : (one other : Option Secs) (a b : Secs) (secs : ℤ) → one ≡ Some a → other ≡ Some b → b.0 ≤ a.0 →
    is_span one secs ≡ true → is_span other secs ≡ true
unfolding is_span
span_shorter one other a b secs first second le is =
    subst (λ o. is_span o secs ≡ true) (sym second)
    (le-int_le (pos b.0) secs (before (int_le-true (pos a.0) secs (subst (λ o. is_span o secs ≡ true) first is))))
  where
    before : pos a.0 ≤ℤ secs → pos b.0 ≤ℤ secs
    before p = omega (arith, ints, le)

-- what is enough behind a walk is no less than the span there
pub span_behind : (span : Option Secs) (s : Secs) (walk : ℕ) (secs : ℤ) → span ≡ Some s →
    is_span span (secs -ℤ pos walk) ≡ true →
    pos (walk + s.0) ≤ℤ secs
unfolding is_span
span_behind span s walk secs some is =
    whole (int_le-true (pos s.0) (secs -ℤ pos walk) (subst (λ o. is_span o (secs -ℤ pos walk) ≡ true) some is))
  where
    whole : pos s.0 ≤ℤ (secs -ℤ pos walk) → pos (walk + s.0) ≤ℤ secs
    whole p = omega (arith, ints)

-- ---- where a journey ends without a further ride

-- before the first last stop
pub ends_none : (feed : FeedRows) (query : Query) (window : ℕ) (stop : StopId) (lasts : List StopId) (span : Option Secs) →
    (last : StopId) (seconds : ℕ) → IsAmong lasts 0 last → egress feed query stop last ≡ Some seconds →
    seconds ≤ window → is_span span (pos seconds) ≡ true
ends_none feed query window stop lasts span last seconds among is few = let below = among.1 in absurd (omega (arith, below))

-- one last stop more
pub ends_more : (feed : FeedRows) (query : Query) (window : ℕ) (stop : StopId) (lasts : List StopId) (k : ℕ) (d : StopId)
    (span one new : Option Secs) →
    k < length lasts → ((secs : ℤ) → is_span span secs ≡ true → is_span new secs ≡ true) →
    ((secs : ℤ) → is_span one secs ≡ true → is_span new secs ≡ true) →
    ((seconds : ℕ) → egress feed query stop (get_or lasts k d) ≡ Some seconds → seconds ≤ window →
    is_span one (pos seconds) ≡ true) →
    ((last : StopId) (seconds : ℕ) → IsAmong lasts k last → egress feed query stop last ≡ Some seconds →
    seconds ≤ window → is_span span (pos seconds) ≡ true) →
    (last : StopId) (seconds : ℕ) → IsAmong lasts (k + 1) last → egress feed query stop last ≡ Some seconds →
    seconds ≤ window → is_span new (pos seconds) ≡ true
ends_more feed query window stop lasts k d span one new lt still other here before last seconds among is few = ⊎_elim
    (λ lower. still (pos seconds) (before last seconds lower is few))
    (λ (same : last ≡ get_or lasts k d). other (pos seconds)
    (here seconds (subst (λ s. egress feed query stop s ≡ Some seconds) same is) few))
    (among_more lasts k d last lt among)

-- all of them
pub ends_all : (feed : FeedRows) (query : Query) (to : StopId) (window : ℕ) (stop : StopId) (lasts : List StopId) (n : ℕ)
    (span : Option Secs) → query.to ≡ to → query.window ≤ window →
    lasts ≡ stop_set feed to → length lasts ≤ n →
    ((last : StopId) (seconds : ℕ) → IsAmong lasts n last → egress feed query stop last ≡ Some seconds →
    seconds ≤ window → is_span span (pos seconds) ≡ true) → IsEndSpan feed query stop span
ends_all feed query to window stop lasts n span goes short are whole all last seconds stands is few =
    let same = are ∙ ap (stop_set feed) (sym goes) in
    let member = member_of_stands_for feed query.to last stands in
    let lt = member.1 in
    let long = ap length same in
    all last seconds (member.0, omega (arith, lt, long, whole), ap (λ ss. slice_get ss member.0) same ∙ member.2) is
    (omega (arith, few, short))

-- at each stop
pub end_spans : (feed : FeedRows) (query : Query) (n : ℕ) (spans : List (Option Secs)) → length spans ≤ n →
    ((stop : ℕ) → stop < n → IsEndSpan feed query (record { 0 = stop }) (unwrap_or (slice_get spans stop) None)) →
    AreEndSpans feed query spans
end_spans feed query n spans many all stop last seconds stands is few = ⊎_elim
    (λ (lt : stop.0 < length spans). enough_at spans stop.0 (pos seconds) lt
    ∙ all stop.0 (omega (arith, lt, many)) last seconds stands is few)
    (λ past. enough_past spans stop.0 (pos seconds) past)
    (cases_lt stop.0 (length spans))

-- ---- lists of spans

-- what holds of the span at each of the first n stops, with one more of them
pub spans_more : (Holds : ℕ → Option Secs → Type 0) (n : ℕ) (spans : List (Option Secs)) (one : Option Secs) →
    length spans ≡ n → Holds n one → ((stop : ℕ) → stop < n → Holds stop (unwrap_or (slice_get spans stop) None)) →
    (stop : ℕ) → stop < n + 1 → Holds stop (unwrap_or (slice_get (spans ++ one ∷ []) stop) None)
spans_more Holds n spans one many here before stop below =
    ⊎_elim
    (λ lt. subst (λ o. Holds stop (unwrap_or o None))
    (sym (slice_get-push_before spans one stop (subst (λ m. stop < m) (sym many) lt))) (before stop lt))
    (λ le.
    let same : stop ≡ n = omega (arith, le, below) in
    subst (λ o. Holds stop (unwrap_or o None)) (sym (slice_get-push_last spans one stop (same ∙ sym many)))
    (subst (λ s. Holds s one) (sym same) here))
    (cases_lt stop n)

-- one walk more
pub walks_more : (window : ℕ) (boards : List (Option Secs)) (walks : List Step) (k : ℕ) (x : Step)
    (span new : Option Secs) →
    k < length walks → ((secs : ℤ) → is_span span secs ≡ true → is_span new secs ≡ true) →
    ((secs : ℤ) → secs ≤ℤ pos window →
    is_span (unwrap_or (slice_get boards (get_or walks k x).to.0) None)
    (secs -ℤ pos (get_or walks k x).seconds.0) ≡ true →
    is_span new secs ≡ true) →
    HasWalkSpans window boards walks k span → HasWalkSpans window boards walks (k + 1) new
walks_more window boards walks k x span new lt still one before i step secs below there few is =
    ⊎_elim
    (λ lower. still secs (before i step secs lower there few is))
    (λ upper.
    let same : i ≡ k = omega (arith, below, upper) in
    let it : step ≡ get_or walks k x = same_Some _ _ (sym there ∙ ap (slice_get walks) same
    ∙ slice_get-get_or walks k x lt) in
    one secs few
    (subst (λ (s : Step). is_span (unwrap_or (slice_get boards s.to.0) None) (secs -ℤ pos s.seconds.0) ≡ true) it is))
    (cases_lt i k)

-- ---- one more ride

module _ (feed : FeedRows) (window : ℕ) (query : Query) (spans boards new : List (Option Secs)) (sound : IsSoundFeed feed)
    (many : length boards ≡ length feed.stops) (before : AreAllBefore feed window spans boards new)
    (few : query.window ≤ window) (serve : AreBoardSpans feed query spans boards) where
  still : (stop : ℕ) (secs : ℤ) → is_enough spans stop secs ≡ true → is_enough new stop secs ≡ true
  still stop secs enough = ⊎_elim
      (λ lt. enough_at new stop secs (subst (λ n. stop < n) (sym before.many) lt)
      ∙ (before.all stop lt).own secs (sym (enough_at spans stop secs lt) ∙ enough))
      (λ past. enough_past new stop secs (subst (λ n. n ≤ stop) (sym before.many) past))
      (cases_lt stop (length spans))

  rides : (until : ℤ) → until ≤ℤ deadline query → (stand : Stand) (ride : Ride) (next : Stand) → stand.fresh ≡ false →
      IsWithinWindow query stand.at → next_in_time feed query stand ride ≡ Some next →
      is_early (cutoff_by spans until) next.stop.0 next.at ≡ true →
      is_early (cutoff_by new until) stand.stop.0 stand.at ≡ true
  rides until by stand ride next gone within e early = ⊎_elim here
      (λ past. enough_past new stand.stop.0 (until -ℤ stand.at) (subst (λ n. n ≤ stand.stop.0) (sym before.many) past))
      (cases_lt stand.stop.0 (length spans))
    where
      c : IsCaughtRide feed query stand ride next
      c = caught_ride feed query stand ride next e

      from : c.facts.from.0 < length boards
      from = subst (λ n. c.facts.from.0 < n) (sym many) (ride_stop feed ride c.facts sound c.is)

      linked : link feed stand.stop c.facts.from ≡ Some c.way
      linked = subst (λ b. (if b then access feed query stand.stop c.facts.from else link feed stand.stop
          c.facts.from) ≡ Some c.way) gone c.way_is

      behind : (u at : ℤ) (way : ℕ) → u -ℤ (at +ℤ pos way) ≡ (u -ℤ at) -ℤ pos way
      behind u at way = omega (arith, ints)

      left : (u q at : ℤ) (w : ℕ) → u ≤ℤ (q +ℤ pos w) → q ≤ℤ at → w ≤ window → (u -ℤ at) ≤ℤ pos window
      left u q at w a b short = omega (arith, ints)

      board : is_span (unwrap_or (slice_get boards c.facts.from.0) None) ((until -ℤ stand.at) -ℤ pos c.way) ≡ true
      board =
          let parts = caught_parts feed query (cutoff_by spans until) stand ride next within early c in
          subst (λ z. is_span (unwrap_or (slice_get boards c.facts.from.0) None) z ≡ true) (behind until stand.at c.way)
          (sym (enough_at boards c.facts.from.0 (until -ℤ (stand.at +ℤ pos c.way)) from)
          ∙ earlier_early (cutoff_by boards until) c.facts.from.0 (stand.at +ℤ pos c.way) c.facts.departure.0 c.catches
          (serve until by ride c.facts c.is parts.0 parts.1 parts.2))

      step : Step
      step = record { to = c.facts.from; seconds = record { 0 = c.way } }

      walk : Contains (out_of feed stand.stop) step
      walk = in_walks feed stand.stop c.facts.from c.way (ride_stop feed ride c.facts sound c.is) linked

      here : stand.stop.0 < length spans → is_early (cutoff_by new until) stand.stop.0 stand.at ≡ true
      here lt =
          let is = slice_get-get_or (out_of feed stand.stop) walk.0 step walk.1 ∙ ap Some walk.2 in
          enough_at new stand.stop.0 (until -ℤ stand.at) (subst (λ n. stand.stop.0 < n) (sym before.many) lt)
          ∙ (before.all stand.stop.0 lt).walks walk.0 step (until -ℤ stand.at) walk.1 is
          (left until query.departure.0 stand.at query.window by within.since few) board

  pub one_more : IsOneMoreSpan feed query spans new
  one_more = record { still = still; rides = rides }

-- ---- by the number of further rides

-- nothing is too late where there is no list
none_early : (stop : ℕ) (secs : ℤ) → is_enough [] stop secs ≡ true
none_early stop secs = enough_past [] stop secs (omega arith)

pub board_none : (feed : FeedRows) (query : Query) (spans : List (Option Secs)) → AreBoardSpans feed query spans []
board_none feed query spans until by ride facts is since in_time early = none_early facts.from.0
    (until -ℤ facts.departure.0)

one_none : (feed : FeedRows) (query : Query) (spans : List (Option Secs)) → IsOneMoreSpan feed query spans []
one_none feed query spans = record {
  still = λ stop secs is. none_early stop secs;
  rides = λ until by stand ride next gone within e early. none_early stand.stop.0 (until -ℤ stand.at);
}

-- the lists with those for one ride more: before them, at them, and past them
list_before : (lists : List (List (Option Secs))) (one : List (Option Secs)) (i : ℕ) → i < length lists →
    unwrap_or (slice_get (lists ++ one ∷ []) i) [] ≡ unwrap_or (slice_get lists i) []
list_before lists one i lt = ap (λ o. unwrap_or o []) (slice_get-push_before lists one i lt)

list_last : (lists : List (List (Option Secs))) (one : List (Option Secs)) (i : ℕ) → i ≡ length lists →
    unwrap_or (slice_get (lists ++ one ∷ []) i) [] ≡ one
list_last lists one i same = ap (λ o. unwrap_or o []) (slice_get-push_last lists one i same)

list_past : (lists : List (List (Option Secs))) (one : List (Option Secs)) (i : ℕ) → length lists < i →
    unwrap_or (slice_get (lists ++ one ∷ []) i) [] ≡ []
list_past lists one i past =
    ap (λ o. unwrap_or o [])
    (slice_get_past (lists ++ one ∷ []) i (let long = length_push lists one in omega (arith, past, long)))

-- the first spans
pub first_spans : (feed : FeedRows) (query : Query) (lists : SpanLists) (spans : List (Option Secs)) →
    lists ≡ no_spans →
    AreEndSpans feed query spans → AreSpans feed query (with_spans lists spans [])
first_spans feed query lists spans none ends =
    subst (λ ls. AreSpans feed query (with_spans ls spans [])) (sym none) (record {
      ends = ends;
      boards = λ more. ⊎_elim
          (λ (lt : 0 < more). subst (AreBoardSpans feed query (stands_of (with_spans no_spans spans []) more))
          (sym (list_past [] [] more lt)) (board_none feed query (stands_of (with_spans no_spans spans []) more)))
          (λ (le : more ≤ 0). subst (AreBoardSpans feed query (stands_of (with_spans no_spans spans []) more))
          (sym (list_last [] [] more (omega (arith, le)))) (board_none feed query (stands_of
          (with_spans no_spans spans []) more)))
          (cases_lt 0 more);
      rides = λ more. subst (IsOneMoreSpan feed query (stands_of (with_spans no_spans spans []) more))
          (sym (list_past [] spans (more + 1) (omega arith)))
          (one_none feed query (stands_of (with_spans no_spans spans []) more));
    })

-- what holds of two lists holds of what is the same
both : (P : List (Option Secs) → List (Option Secs) → Type 0) (a b c d : List (Option Secs)) → a ≡ c → b ≡ d →
    P c d → P a b
both P a b c d e f is = subst (λ x. P x b) (sym e) (subst (P c) (sym f) is)

-- one number more: the last spans get theirs from where one boards
module _ (feed : FeedRows) (query : Query) (lists : SpanLists) (spans boards new : List (Option Secs))
    (many : length lists.boards ≡ length lists.stands) (serve : AreBoardSpans feed query spans boards)
    (one : IsOneMoreSpan feed query spans new) (before : AreSpans feed query (with_spans lists spans [])) where
  abbrev after : SpanLists
  after = with_spans (with_spans lists spans boards) new []

  stands_long : length (lists.stands ++ spans ∷ []) ≡ length lists.stands + 1
  stands_long = length_push lists.stands spans

  boards_long : length (lists.boards ++ boards ∷ []) ≡ length lists.stands + 1
  boards_long = length_push lists.boards boards ∙ ap (λ n. n + 1) many

  stands_before : (i : ℕ) → i < length lists.stands + 1 → stands_of after i ≡ stands_of (with_spans lists spans []) i
  stands_before i lt = list_before (lists.stands ++ spans ∷ []) new i (subst (λ n. i < n) (sym stands_long) lt)

  stands_last : stands_of (with_spans lists spans []) (length lists.stands) ≡ spans
  stands_last = list_last lists.stands spans (length lists.stands) refl

  stands_new : stands_of after (length lists.stands + 1) ≡ new
  stands_new = list_last (lists.stands ++ spans ∷ []) new (length lists.stands + 1) (sym stands_long)

  stands_past : (i : ℕ) → length lists.stands + 1 < i → stands_of after i ≡ []
  stands_past i past = list_past (lists.stands ++ spans ∷ []) new i (subst (λ n. n < i) (sym stands_long) past)

  boards_before : (i : ℕ) → i < length lists.stands → boards_of after i ≡ boards_of (with_spans lists spans []) i
  boards_before i lt =
      list_before (lists.boards ++ boards ∷ []) [] i (omega (arith, lt, boards_long))
      ∙ list_before lists.boards boards i (subst (λ n. i < n) (sym many) lt)
      ∙ sym (list_before lists.boards [] i (subst (λ n. i < n) (sym many) lt))

  boards_last : boards_of after (length lists.stands) ≡ boards
  boards_last =
      list_before (lists.boards ++ boards ∷ []) [] (length lists.stands) (omega (arith, boards_long))
      ∙ list_last lists.boards boards (length lists.stands) (sym many)

  boards_past : (i : ℕ) → length lists.stands < i → boards_of after i ≡ []
  boards_past i past = ⊎_elim
      (λ (lt : length lists.stands + 1 < i). list_past (lists.boards ++ boards ∷ []) [] i (subst (λ n. n < i)
      (sym boards_long) lt))
      (λ (le : i ≤ length lists.stands + 1).
      list_last (lists.boards ++ boards ∷ []) [] i (let here : i ≡ length lists.stands + 1 = omega (arith, le, past)
      in here ∙ sym boards_long))
      (cases_lt (length lists.stands + 1) i)

  boards_after : (i : ℕ) → AreBoardSpans feed query (stands_of after i) (boards_of after i)
  boards_after i = ⊎_elim
      (λ (lt : i < length lists.stands).
      both (AreBoardSpans feed query) _ _ _ _ (stands_before i (omega (arith, lt))) (boards_before i lt)
      (before.boards i))
      (λ le. ⊎_elim
      (λ past. both (AreBoardSpans feed query) _ _ _ _ refl (boards_past i past)
      (board_none feed query (stands_of after i)))
      (λ (most : i ≤ length lists.stands).
      let same : i ≡ length lists.stands = omega (arith, le, most) in
      subst (λ n. AreBoardSpans feed query (stands_of after n) (boards_of after n)) (sym same)
      (both (AreBoardSpans feed query) _ _ _ _ (stands_before (length lists.stands) (omega arith)
      ∙ stands_last) boards_last serve))
      (cases_lt (length lists.stands) i))
      (cases_lt i (length lists.stands))

  rides_after : (i : ℕ) → IsOneMoreSpan feed query (stands_of after i) (stands_of after (i + 1))
  rides_after i = ⊎_elim
      (λ (lt : i < length lists.stands).
      both (IsOneMoreSpan feed query) _ _ _ _ (stands_before i (omega (arith, lt))) (stands_before (i + 1)
      (omega (arith, lt)))
      (before.rides i))
      (λ le. ⊎_elim
      (λ (past : length lists.stands < i).
      both (IsOneMoreSpan feed query) _ _ _ _ refl (stands_past (i + 1) (omega (arith, past)))
      (one_none feed query (stands_of after i)))
      (λ (most : i ≤ length lists.stands).
      let same : i ≡ length lists.stands = omega (arith, le, most) in
      subst (λ n. IsOneMoreSpan feed query (stands_of after n) (stands_of after (n + 1))) (sym same)
      (both (IsOneMoreSpan feed query) _ _ _ _ (stands_before (length lists.stands) (omega arith)
      ∙ stands_last) stands_new one))
      (cases_lt (length lists.stands) i))
      (cases_lt i (length lists.stands))

  pub spans_after : AreSpans feed query after
  spans_after = record {
    ends = subst (AreEndSpans feed query) (sym (stands_before 0 (omega arith))) before.ends;
    boards = boards_after;
    rides = rides_after;
  }
