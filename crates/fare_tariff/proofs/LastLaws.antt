-- With legs of which leg groups a journey can end: which networks of trips are marked, and which groups of leg rules.
use Rattle.std.proofs.Common.{◌≡◌, refl, sym, ◌∙◌, ap, subst, ℕ, ◌+◌, ◌<◌, ◌≤◌, Bool, true, false, ◌&&◌, List, length, get_or, Contains, arith}
use Rattle.std.specs.Prelude.{◌==◌, if◌then◌else◌, Option, Some, None, is_none, slice_get, option_map, option_and_then, ℤ}
use Rattle.std.specs.Option.{is_some, ForSome}
use Rattle.std.proofs.lemmas.Bool.{and_parts, both_ways, eqb-true}
use Rattle.std.proofs.lemmas.Option.{cond_some, same_Some, slice_get-get_or, slice_get_within, get_or_from_slice_get}
use Rattle.transit_base.specs.declared.moments.Secs.{Secs}
use Rattle.transit_base.specs.declared.numbers.LegGroupId.{LegGroupId}
use Rattle.transit_base.specs.declared.numbers.NetworkId.{NetworkId}
use Rattle.transit_base.specs.declared.numbers.StopId.{StopId}
use Rattle.transit_base.specs.declared.numbers.TripId.{TripId}
use Rattle.feed_rows.specs.declared.journeys.Buyer.{Buyer}
use Rattle.feed_rows.specs.declared.fares.ChangeChoice.{ChangeChoice}
use Rattle.feed_rows.specs.declared.journeys.LegFacts.{LegFacts}
use Rattle.feed_rows.specs.declared.journeys.Query.{Query}
use Rattle.feed_rows.specs.declared.journeys.Ride.{Ride}
use Rattle.feed_rows.specs.declared.journeys.RideFacts.{RideFacts}
use Rattle.feed_rows.specs.declared.rows.LegRuleRow.{LegRuleRow}
use Rattle.feed_rows.specs.declared.rows.StopTimeRow.{StopTimeRow}
use Rattle.feed_rows.specs.declared.states.FareState.{FareState}
use Rattle.feed_rows.specs.declared.states.Move.{Move}
use Rattle.feed_rows.specs.FareChoices.{is_open, chosen_leg, is_leg_choice}
use Rattle.feed_rows.specs.FareStates.{capped_count, state_of_run}
use Rattle.feed_rows.specs.FareSteps.{move_after, move_of_first, move_of_next, leg_taken, place_taken, is_whole, is_place_after, asked_after, next_state, first_move, next_move}
use Rattle.feed_rows.specs.FeedRows.{FeedRows}
use Rattle.feed_rows.specs.LegRules.{is_selected_rule, rule_matches, network_matches, is_top_priority}
use Rattle.feed_rows.specs.Legs.{leg_facts}
use Rattle.feed_rows.specs.PartialJourneys.{LabelFacts}
use Rattle.feed_rows.specs.Rides.{ride_facts, trip_network}
use Rattle.feed_rows.specs.SoundFeed.{IsSoundFeed}
use Rattle.feed_rows.specs.SoundTimetable.{AreSoundRoutes}
use Rattle.feed_rows.specs.TransferRules.{FareLeg, same_group}
use Rattle.plain_laws.specs.Plain.{at_and, when}
use Rattle.plain_laws.proofs.Laws.{All-slice_get, chain_gives, filled_and-true}
use Rattle.feed_laws.proofs.CallLaws.{calls_of_row}
use Rattle.feed_laws.proofs.RideLaws.{ride_facts_tells}
use Rattle.feed_laws.proofs.SoundTrips.{row_at, sound_trip}
use Rattle.fare_bounds.specs.Amounts.{place_of}
use Rattle.fare_bounds.proofs.FirstLaws.{AreFirst, first_more, first_all}
use Rattle.plan_rides.specs.Cutoffs.{is_enough, is_span, is_span_any}
use Rattle.plan_rides.specs.Spans.{AreSpans, SpanLists, stands_of}
use Rattle.fare_tariff.specs.Lasts.{AreLastGroups, AreLastMoves, AreLastNetworks, IsEnd, IsMarkedAt, IsOfMarked, StayMarked, network_place}
use Rattle.fare_tariff.proofs.StepLaws.{ends_early, step_ridden, step_within}

-- ---- rows so far

-- where the trip of the row calls where a journey may end, its network is marked
abbrev pub IsNetworkMarked : FeedRows → List (Option Secs) → List Bool → StopTimeRow → Type 0
IsNetworkMarked feed ends marks row =
    IsEnd ends row.stop → IsMarkedAt marks (network_place (trip_network feed row.trip))

-- where the rule names no network or one that is marked, its group is marked
abbrev pub IsGroupMarked : List Bool → List Bool → LegRuleRow → Type 0
IsGroupMarked networks lasts rule = IsOfMarked networks rule.network → IsMarkedAt lasts (place_of rule.group)

-- what holds of all first items holds of each that the list contains
pub first_contained : {X : Type 0} (P : X → Type 0) (xs ys : List X) (n : ℕ) → xs ≡ ys → length xs ≤ n →
    AreFirst P xs n →
    (x : X) → Contains ys x → P x
first_contained P xs ys n same le all x at =
    first_all P xs ys n same le all at.0 x (slice_get-get_or ys at.0 x at.1 ∙ ap Some at.2)

-- one row more, whose network is marked
pub network_more : (feed : FeedRows) (ends : List (Option Secs)) (old new : List Bool) (rows : List StopTimeRow) (n : ℕ)
    (row : StopTimeRow) →
    row ≡ get_or rows n row → AreFirst (IsNetworkMarked feed ends old) rows n → StayMarked old new →
    IsMarkedAt new (network_place (trip_network feed row.trip)) → AreFirst (IsNetworkMarked feed ends new) rows (n + 1)
network_more feed ends old new rows n row is before still here =
    first_more (IsNetworkMarked feed ends old) (IsNetworkMarked feed ends new) rows n row before
    (λ other marked ended. still (network_place (trip_network feed other.trip)) (marked ended))
    (subst (IsNetworkMarked feed ends new) is (λ ended. here))

-- one row more, where no journey ends
pub network_past : (feed : FeedRows) (ends : List (Option Secs)) (marks : List Bool) (rows : List StopTimeRow) (n : ℕ)
    (row : StopTimeRow) →
    row ≡ get_or rows n row → AreFirst (IsNetworkMarked feed ends marks) rows n →
    slice_get ends row.stop.0 ≡ Some None → AreFirst (IsNetworkMarked feed ends marks) rows (n + 1)
network_past feed ends marks rows n row is before none =
    first_more (IsNetworkMarked feed ends marks) (IsNetworkMarked feed ends marks) rows n row before
    (λ other marked. marked)
    (subst (IsNetworkMarked feed ends marks) is (λ ended. absurd (ended none)))

-- one rule more, whose group is marked
pub group_more : (networks old new : List Bool) (rules : List LegRuleRow) (n : ℕ) (d : LegRuleRow) →
    AreFirst (IsGroupMarked networks old) rules n → StayMarked old new →
    IsMarkedAt new (place_of (get_or rules n d).group) → AreFirst (IsGroupMarked networks new) rules (n + 1)
group_more networks old new rules n d before still here =
    first_more (IsGroupMarked networks old) (IsGroupMarked networks new) rules n d before
    (λ rule marked own. still (place_of rule.group) (marked own)) (λ own. here)

-- one rule more, of a network that isn't marked
pub group_past : (networks lasts : List Bool) (rules : List LegRuleRow) (n : ℕ) (d : LegRuleRow) (b : Bool) →
    b ≡ false → (IsOfMarked networks (get_or rules n d).network → b ≡ true) →
    AreFirst (IsGroupMarked networks lasts) rules n → AreFirst (IsGroupMarked networks lasts) rules (n + 1)
group_past networks lasts rules n d b never own before =
    first_more (IsGroupMarked networks lasts) (IsGroupMarked networks lasts) rules n d before (λ rule marked. marked)
    (λ of_marked. absurd (both_ways b never (own of_marked)))

-- an item of a list is contained in it
contained : {X : Type 0} (xs : List X) (i : ℕ) (x : X) → slice_get xs i ≡ Some x → Contains xs x
contained xs i x at = (i, slice_get_within xs i x at, get_or_from_slice_get xs i x x at)

-- ---- places

-- the place of a trip's network is one of so many in a sound feed
pub network_place_low : (feed : FeedRows) (trip : TripId) → AreSoundRoutes feed →
    network_place (trip_network feed trip) < length feed.network_names + 1
network_place_low feed trip sound = by (trip_network feed trip) refl
  where
    by : (o : Option NetworkId) → trip_network feed trip ≡ o → network_place o < length feed.network_names + 1
    by None is = omega arith
    by (Some network) is =
        let row = chain_gives (λ row. option_and_then (λ route. route.network) (slice_get feed.routes row.route.0))
        (slice_get feed.trips trip.0) network is in
        let route = chain_gives (λ route. route.network) (slice_get feed.routes row.value.route.0) network row.gives in
        let low : network.0 < length feed.network_names =
        All-slice_get (λ r. ForSome r.network (λ n. n.0 < length feed.network_names)) feed.routes row.value.route.0
        route.value route.is sound.networks network route.gives in
        omega (arith, low)

-- ---- the rule of a move

-- the leg's rule, whose group the state has after the move
pub record IsMoveRule (feed : FeedRows) (leg : LegFacts) (move : Move) : Type 0 where
  pub rule : LegRuleRow
  pub is : slice_get feed.leg_rules move.rule.0 ≡ Some rule
  pub selected : is_selected_rule feed leg rule ≡ true
  pub of_group : rule.group ≡ move.state.group

-- the rule that is chosen for a leg is selected by it, and the leg has its group
leg_rule : (feed : FeedRows) (buyer : Buyer) (leg : LegFacts) (move : Move) (chosen : FareLeg) →
    chosen_leg feed leg (leg_taken move) ≡ Some chosen → is_leg_choice feed buyer leg (leg_taken move) ≡ true →
    chosen.group ≡ move.state.group → IsMoveRule feed leg move
unfolding is_leg_choice
leg_rule feed buyer leg move chosen is right group =
    let rule =
    filled_and-true (slice_get feed.leg_rules move.rule.0)
    (λ r. is_selected_rule feed leg r && at_and feed.products move.product.0 (is_open r.product buyer)) right in
    let both = and_parts (is_selected_rule feed leg rule.value) _ rule.passes in
    let made : Some (record { group = rule.value.group; departure = leg.departure; arrival = leg.arrival }) ≡
    Some chosen =
    ap (option_map (λ r. record { group = r.group; departure = leg.departure; arrival = leg.arrival })) (sym rule.is)
    ∙ is in
    record {
      rule = rule.value;
      is = rule.is;
      selected = both.0;
      of_group = ap (λ (l : FareLeg). l.group) (same_Some _ _ made) ∙ group;
    }

same_groups : (a b : Option LegGroupId) → same_group a b ≡ true → a ≡ b
same_groups None b is = absurd (let no : false ≡ true = is in cc)
same_groups (Some g) None is = absurd (let no : false ≡ true = is in cc)
same_groups (Some g) (Some h) is = ap (λ (n : ℕ). Some (record { 0 = n })) (eqb-true g.0 h.0 is)

-- the state after a leg has the leg's group
next_group : (feed : FeedRows) (state : FareState) (next : FareLeg) (place : Option ChangeChoice) →
    (next_state feed state next place).group ≡ next.group
next_group feed state next place = by (same_group state.group next.group && is_some place) refl
  where
    by : (b : Bool) → (same_group state.group next.group && is_some place) ≡ b →
        (if b
        then record state { count = capped_count feed state.group (state.count + 1); first = false }
        else state_of_run feed next.group 0 next (is_none place)).group ≡ next.group
    by true is = same_groups state.group next.group (and_parts (same_group state.group next.group) (is_some place) is).0
    by false is = refl

-- each move has its rule
pub move_rule : (feed : FeedRows) (buyer : Buyer) (state : Option FareState) (held : ℤ) (leg : LegFacts)
    (move : Move) → move_after feed buyer state held leg move ≡ Some move → IsMoveRule feed leg move
unfolding move_of_first move_of_next
move_rule feed buyer None held leg move is =
    let taken = chain_gives
    (λ first. when (is_leg_choice feed buyer leg (leg_taken move) && is_none (place_taken move) && is_whole move)
    (first_move feed first move)) (chosen_leg feed leg (leg_taken move)) move is in
    let found = cond_some _ _ _ taken.gives in
    let both = and_parts _ (is_whole move) found.0 in
    leg_rule feed buyer leg move taken.value taken.is
    (and_parts (is_leg_choice feed buyer leg (leg_taken move)) _ both.0).0
    (ap (λ (q : Move). q.state.group) found.1)
move_rule feed buyer (Some state) held leg move is =
    let taken = chain_gives
    (λ next. when (is_leg_choice feed buyer leg (leg_taken move)
    && is_place_after feed buyer (asked_after state next) (place_taken move) && is_whole move)
    (next_move feed state held next move)) (chosen_leg feed leg (leg_taken move)) move is in
    let found = cond_some _ _ _ taken.gives in
    let both = and_parts _ (is_whole move) found.0 in
    leg_rule feed buyer leg move taken.value taken.is
    (and_parts (is_leg_choice feed buyer leg (leg_taken move)) _ both.0).0
    (sym (next_group feed state taken.value (place_taken move)) ∙ ap (λ (q : Move). q.state.group) found.1)

-- a rule that a leg selects names no network, or that of the leg
selected_network : (feed : FeedRows) (leg : LegFacts) (rule : LegRuleRow) (network : NetworkId) →
    is_selected_rule feed leg rule ≡ true → rule.network ≡ Some network → leg.network ≡ Some network
unfolding is_selected_rule rule_matches network_matches
selected_network feed leg rule network selected named =
    let matches = and_parts (rule_matches feed leg rule) (is_top_priority feed leg rule.priority) selected in
    let a = and_parts _ _ matches.0 in
    let b = and_parts _ _ a.0 in
    let c = and_parts _ _ b.0 in
    let d = and_parts (network_matches feed rule.network leg.network) _ c.0 in
    let own = filled_and-true leg.network (λ n. n.0 == network.0)
    (ap (λ o. network_matches feed o leg.network) (sym named) ∙ d.0) in
    own.is ∙ ap (λ (n : ℕ). Some (record { 0 = n })) (eqb-true own.value.0 network.0 own.passes)

-- ---- ends

-- at the stop where a journey ends there is a span to its end
end_is : (spans : List (Option Secs)) (stop : StopId) (secs : ℤ) → is_enough spans stop.0 secs ≡ true → IsEnd spans stop
unfolding is_span_any is_span
end_is spans stop secs enough none =
    let no : false ≡ true = ap (λ o. is_span_any o secs) (sym none) ∙ enough in cc

-- where a ride ends with which a journey may end, the network of its trip is marked
ride_marked : (feed : FeedRows) (ends : List (Option Secs)) (networks : List Bool) (ride : Ride) (facts : RideFacts) →
    IsSoundFeed feed →
    AreLastNetworks feed ends networks → ride_facts feed ride ≡ Some facts → IsEnd ends facts.to →
    IsMarkedAt networks (network_place facts.network)
ride_marked feed ends networks ride facts sound are is ended =
    let r = ride_facts_tells feed ride facts is in
    let row = calls_of_row feed ride.trip ride.to r.alighting (sound_trip feed ride.trip sound).ends r.alights in
    let at = row_at feed ride.trip ride.to row.0 row.1 in
    let stop : facts.to ≡ row.0.stop = ap (λ (f : RideFacts). f.to) (sym r.facts_are) ∙ row.2.stop in
    let network : trip_network feed row.0.trip ≡ facts.network =
    ap (λ (n : ℕ). trip_network feed (record { 0 = n })) at.own ∙ ap (λ (f : RideFacts). f.network) r.facts_are in
    subst (λ (o : Option NetworkId). IsMarkedAt networks (network_place o)) network
    (are row.0 at.member (subst (IsEnd ends) stop ended))

-- where the networks are marked of all trips that call where a journey may end, and the groups of all leg rules that
-- name no network or one of these, the group of each leg is marked with which a journey ends
pub last_moves : (feed : FeedRows) (query : Query) (lists : SpanLists) (networks lasts : List Bool) → IsSoundFeed feed →
    AreSpans feed query lists →
    AreLastNetworks feed (stands_of lists 0) networks → AreLastGroups feed networks lasts →
    AreLastMoves feed query lasts
unfolding leg_facts
last_moves feed query lists networks lasts sound spans marked groups a b ride move within step last triple end =
    let ends = stands_of lists 0 in
    let ridden = step_ridden feed query a b ride move step in
    let inside = step_within feed query a b ride move sound within step in
    let early = ends_early feed query ends spans.ends b ridden inside last triple end in
    let ended = end_is ends b.stop _ early in
    let here = ride_marked feed ends networks ride step.facts sound marked step.rides.is
    (subst (IsEnd ends) (ap (λ (x : LabelFacts). x.stop) step.next) ended) in
    let r = move_rule feed query.buyer a.state a.held (leg_facts feed step.facts) move step.pays in
    subst (λ (g : Option LegGroupId). IsMarkedAt lasts (place_of g)) r.of_group
    (groups r.rule (contained feed.leg_rules move.rule.0 r.rule r.is)
    (λ network named. subst (λ (o : Option NetworkId). IsMarkedAt networks (network_place o))
    (selected_network feed (leg_facts feed step.facts) r.rule network r.selected named) here))
