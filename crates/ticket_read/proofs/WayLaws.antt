-- The lines of a journey's way tell the journey.
use Rattle.std.proofs.Common.{◌≡◌, refl, sym, ◌∙◌, ap, subst, ℕ, zero, suc, ◌<◌, ◌⊎◌, inl, inr, Bool, true, false, ◌==◌, List, [], ◌∷◌, ◌++◌, length, take, Option, Some, None, arith}
use Rattle.std.specs.Prelude.{slice_get, option_map, if◌then◌else◌, ℤ, pos, ◌+ℤ◌}
use Rattle.std.specs.Option.{option_or, option_to_list}
use Rattle.std.proofs.lemmas.Bool.{eq-eqb}
use Rattle.std.proofs.lemmas.Bool.Decides.{nat_tests}
use Rattle.std.proofs.lemmas.Option.{none-some, same_Some, option_and_then_some}
use Rattle.transit_base.specs.declared.numbers.StopId.{StopId}
use Rattle.feed_rows.specs.FeedRows.{FeedRows}
use Rattle.feed_rows.specs.EntryText.{stop_before, stay_line, walk_line, walk_lines, ride_line, ride_lines, last_lines, travel_lines}
use Rattle.feed_rows.specs.Journeys.{access, egress, direct, facts_at, stands_for, is_caught, arrival_after, IsJourney}
use Rattle.feed_rows.specs.JourneyStands.{Stand, first_stand, way_to}
use Rattle.feed_rows.specs.Rides.{ride_facts}
use Rattle.feed_rows.specs.SoundFeed.{IsSoundFeed}
use Rattle.feed_rows.specs.StopLinks.{link}
use Rattle.feed_rows.specs.declared.journeys.Journey.{Journey}
use Rattle.feed_rows.specs.declared.journeys.Query.{Query}
use Rattle.feed_rows.specs.declared.journeys.Ride.{Ride}
use Rattle.feed_rows.specs.declared.journeys.RideFacts.{RideFacts}
use Rattle.feed_laws.proofs.JourneyLaws.{IsStepAt, step_of_course, course_before, travelled_of_journey}
use Rattle.plain_laws.specs.Plain.{joined_below, given_last}
use Rattle.plain_laws.proofs.Laws.{filled_and-true, no_item}
use Rattle.ticket_read.specs.Drafts.{empty_draft, gone, with_ride}
use Rattle.ticket_read.specs.declared.drafts.Draft.{Draft}
use Rattle.ticket_read.specs.declared.drafts.Item.TheVariants as item
use Rattle.ticket_read.proofs.ItemLaws.{IsKnownStop, known_member, stay_tells, walk_tells, ride_tells}
use Rattle.ticket_read.proofs.ReadingLaws.{Reads, reads_none, reads_line, reads_both, reads_joined}

-- what is told of a way so far
abbrev pub way_at : Option StopId → Option StopId → List Ride → Draft
way_at first last rides = record { first = first; last = last; rides = rides; legs = []; changes = []; after = None }

-- one stop is the other, or a walk leads there
abbrev pub IsWay : FeedRows → StopId → StopId → Type 0
IsWay feed from to = (from.0 ≡ to.0) ⊎ ((seconds : ℕ) × (link feed from to ≡ Some seconds))

same_stop : (a b : StopId) → a.0 ≡ b.0 → a ≡ b
same_stop a b e = ap (λ (n : ℕ). record { 0 = n }) e

told : (a b : ℕ) → (a == b) ≡ true → a ≡ b
told a b e = grind (arith, nat_tests)

-- the walk between two stops, where they differ
walk_reads : (feed : FeedRows) (from to : StopId) (draft : Draft) → IsSoundFeed feed → IsWay feed from to
    → Reads feed (walk_lines feed from to) draft (if from.0 == to.0 then draft else gone draft from to)
walk_reads feed from to draft sound way = by (from.0 == to.0) refl way
  where
    by : (b : Bool) → (from.0 == to.0) ≡ b → IsWay feed from to → Reads feed (walk_lines feed from to) draft (if from.0 == to.0 then draft else gone draft from to)
    by true same _ = rw same (reads_none feed draft)
    by false differ (inl same) = absurd (let no : true ≡ false = sym (eq-eqb from.0 to.0 same) ∙ differ in cc)
    by false differ (inr walk) = rw differ (reads_line feed (walk_line feed from to) (item.Walk from to) draft (gone draft from to) (walk_tells feed from to walk.0 sound walk.1) refl)

-- the way starts at this stop: it is not told yet, and one stands there, or it is told
abbrev DoesStart : Option StopId → StopId → StopId → Type 0
DoesStart told from first = ((told ≡ None) × (from ≡ first)) ⊎ (told ≡ Some first)

-- the walk to a ride, and the ride
step_reads : (feed : FeedRows) (start last : Option StopId) (rides : List Ride) (from first : StopId) (ride : Ride) (facts : RideFacts) → IsSoundFeed feed
    → ride_facts feed ride ≡ Some facts → IsWay feed from facts.from → DoesStart start from first
    → Reads feed (walk_lines feed from facts.from ++ option_to_list (ride_line feed ride facts)) (way_at start last rides) (way_at (Some first) (Some facts.to) (rides ++ ride ∷ []))
step_reads feed start last rides from first ride facts sound e way starts =
    reads_both feed (walk_lines feed from facts.from) (option_to_list (ride_line feed ride facts)) (way_at start last rides) between _ walked
    (reads_line feed (ride_line feed ride facts) (item.Ride ride facts.from facts.to) between _ (ride_tells feed ride facts sound e)
    (by (from.0 == facts.from.0) refl starts))
  where
    between : Draft
    between = if from.0 == facts.from.0 then way_at start last rides else gone (way_at start last rides) from facts.from

    walked : Reads feed (walk_lines feed from facts.from) (way_at start last rides) between
    walked = walk_reads feed from facts.from (way_at start last rides) sound way

    by : (b : Bool) → (from.0 == facts.from.0) ≡ b → DoesStart start from first
        → Some (with_ride (gone (if b then way_at start last rides else gone (way_at start last rides) from facts.from) facts.from facts.to) ride)
        ≡ Some (way_at (Some first) (Some facts.to) (rides ++ ride ∷ []))
    by true same (inl none) =
        let here : facts.from ≡ first = sym (same_stop from facts.from (told from.0 facts.from.0 same)) ∙ none.1 in
        ap (λ (o : Option StopId). Some (way_at (option_or o (Some facts.from)) (Some facts.to) (rides ++ ride ∷ []))) none.0
        ∙ ap (λ (s : StopId). Some (way_at (Some s) (Some facts.to) (rides ++ ride ∷ []))) here
    by false differ (inl none) =
        ap (λ (o : Option StopId). Some (way_at (option_or (option_or o (Some from)) (Some facts.from)) (Some facts.to) (rides ++ ride ∷ []))) none.0
        ∙ ap (λ (s : StopId). Some (way_at (Some s) (Some facts.to) (rides ++ ride ∷ []))) none.1
    by true same (inr some) =
        ap (λ (o : Option StopId). Some (way_at (option_or o (Some facts.from)) (Some facts.to) (rides ++ ride ∷ []))) some
    by false differ (inr some) =
        ap (λ (o : Option StopId). Some (way_at (option_or (option_or o (Some from)) (Some facts.from)) (Some facts.to) (rides ++ ride ∷ []))) some

-- the walk to the last stop
end_reads : (feed : FeedRows) (rides : List Ride) (first from last : StopId) → IsSoundFeed feed → IsWay feed from last
    → Reads feed (walk_lines feed from last) (way_at (Some first) (Some from) rides) (way_at (Some first) (Some last) rides)
end_reads feed rides first from last sound way =
    subst (Reads feed (walk_lines feed from last) (way_at (Some first) (Some from) rides)) (by (from.0 == last.0) refl)
    (walk_reads feed from last (way_at (Some first) (Some from) rides) sound way)
  where
    by : (b : Bool) → (from.0 == last.0) ≡ b
        → (if b then way_at (Some first) (Some from) rides else gone (way_at (Some first) (Some from) rides) from last) ≡ way_at (Some first) (Some last) rides
    by true same = ap (λ (s : StopId). way_at (Some first) (Some s) rides) (same_stop from last (told from.0 last.0 same))
    by false differ = refl

-- ---- where the ways of a journey lead

way_of_access : (feed : FeedRows) (query : Query) (first boarding : StopId) (seconds : ℕ) → access feed query first boarding ≡ Some seconds → IsWay feed first boarding
way_of_access feed query first boarding seconds e = by (stands_for feed query.from boarding) refl
  where
    at : (b : Bool) → (first.0 == boarding.0) ≡ b → (if b then Some 0 else None) ≡ Some seconds → IsWay feed first boarding
    at true same h = inl (told first.0 boarding.0 same)
    at false differ h = absurd (none-some seconds h)

    by : (b : Bool) → stands_for feed query.from boarding ≡ b → IsWay feed first boarding
    by true is = at (first.0 == boarding.0) refl (rw is at e)
    by false is = inr (seconds, rw is at e)

way_of_egress : (feed : FeedRows) (query : Query) (alighting last : StopId) (seconds : ℕ) → egress feed query alighting last ≡ Some seconds → IsWay feed alighting last
way_of_egress feed query alighting last seconds e = by (stands_for feed query.to alighting) refl
  where
    at : (b : Bool) → (alighting.0 == last.0) ≡ b → (if b then Some 0 else None) ≡ Some seconds → IsWay feed alighting last
    at true same h = inl (told alighting.0 last.0 same)
    at false differ h = absurd (none-some seconds h)

    by : (b : Bool) → stands_for feed query.to alighting ≡ b → IsWay feed alighting last
    by true is = at (alighting.0 == last.0) refl (rw is at e)
    by false is = inr (seconds, rw is at e)

-- ride i of a journey, and how one comes to it
record IsReached (feed : FeedRows) (journey : Journey) (i : ℕ) : Type 0 where
  ride : Ride
  got : slice_get journey.rides i ≡ Some ride
  facts : RideFacts
  are : ride_facts feed ride ≡ Some facts
  from : StopId
  before : stop_before feed journey i ≡ Some from
  way : IsWay feed from facts.from
  starts : (i ≡ 0) → from ≡ journey.first

reached : (feed : FeedRows) (query : Query) (journey : Journey) (arrival : ℤ) (i : ℕ) → IsJourney feed query journey arrival → i < length journey.rides → IsReached feed journey i
reached feed query journey arrival i j lt =
    let t = travelled_of_journey feed query journey arrival j in
    let there = course_before feed query journey.first journey.rides (suc i) (length journey.rides) t.stand (omega arith) t.stands in
    by i (step_of_course feed query journey.first journey.rides i there.0 there.1)
  where
    made : (i : ℕ) (from : StopId) (facts : RideFacts) → facts_at feed journey.rides i ≡ Some facts → stop_before feed journey i ≡ Some from
        → IsWay feed from facts.from → ((i ≡ 0) → from ≡ journey.first) → IsReached feed journey i
    made i from facts is before way starts =
        option_and_then_some (ride_facts feed) (slice_get journey.rides i) facts is (λ ride got are.
        record { ride = ride; got = got; facts = facts; are = are; from = from; before = before; way = way; starts = starts })

    by : (i : ℕ) {stand : Stand} → IsStepAt feed query journey.first journey.rides i stand → IsReached feed journey i
    by zero s =
        let same : first_stand query journey.first ≡ s.before = same_Some _ _ s.stood in
        let caught = subst (λ (b : Stand). is_caught b.at (way_to feed query b s.ride.from) s.ride ≡ true) (sym same) s.caught in
        let seconds = filled_and-true (access feed query journey.first s.ride.from) _ caught in
        made 0 journey.first s.ride s.is refl (way_of_access feed query journey.first s.ride.from seconds.value seconds.is) (λ e. refl)
    by (suc k) s =
        let b = step_of_course feed query journey.first journey.rides k s.before s.stood in
        let caught = subst (λ (p : Stand). is_caught p.at (way_to feed query p s.ride.from) s.ride ≡ true) (sym b.stands) s.caught in
        let seconds = filled_and-true (link feed b.ride.to s.ride.from) _ caught in
        let is = b.is in
        made (suc k) b.ride.to s.ride s.is (rw is refl) (inr (seconds.value, seconds.is)) (λ e. absurd (omega arith))

-- ---- the lines of a journey

-- what is told after the first n rides
abbrev way_after : FeedRows → Journey → ℕ → Draft
way_after feed journey zero = empty_draft
way_after feed journey (suc n) = way_at (Some journey.first) (stop_before feed journey (suc n)) (take (suc n) journey.rides)

take_one : (rides : List Ride) (i : ℕ) (ride : Ride) → slice_get rides i ≡ Some ride → take i rides ++ ride ∷ [] ≡ take (suc i) rides
take_one [] i ride got = absurd (none-some ride got)
take_one (r ∷ rs) zero ride got = ap (λ (x : Ride). x ∷ []) (sym (same_Some r ride got))
take_one (r ∷ rs) (suc i) ride got = ap (λ (xs : List Ride). r ∷ xs) (take_one rs i ride got)

ride_reads : (feed : FeedRows) (journey : Journey) (i : ℕ) → IsSoundFeed feed → IsReached feed journey i → Reads feed (ride_lines feed journey i) (way_after feed journey i) (way_after feed journey (suc i))
unfolding ride_lines
ride_reads feed journey i sound r = by i r.got r.before r.starts
  where
    here : (i : ℕ) → slice_get journey.rides i ≡ Some r.ride → facts_at feed journey.rides i ≡ Some r.facts
    here i got = rw got (r.are)

    lines : (i : ℕ) → slice_get journey.rides i ≡ Some r.ride → stop_before feed journey i ≡ Some r.from
        → ride_lines feed journey i ≡ walk_lines feed r.from r.facts.from ++ option_to_list (ride_line feed r.ride r.facts)
    lines i got before = let facts = here i got in rw (facts, before, got) refl

    end : (i : ℕ) → slice_get journey.rides i ≡ Some r.ride → way_at (Some journey.first) (Some r.facts.to) (take i journey.rides ++ r.ride ∷ []) ≡ way_after feed journey (suc i)
    end i got =
        let facts = here i got in
        ap (λ (rs : List Ride). way_at (Some journey.first) (Some r.facts.to) rs) (take_one journey.rides i r.ride got)
        ∙ ap (λ (o : Option RideFacts). way_at (Some journey.first) (given_last o (λ f. f.to)) (take (suc i) journey.rides)) (sym facts)

    by : (i : ℕ) → slice_get journey.rides i ≡ Some r.ride → stop_before feed journey i ≡ Some r.from → ((i ≡ 0) → r.from ≡ journey.first)
        → Reads feed (ride_lines feed journey i) (way_after feed journey i) (way_after feed journey (suc i))
    by zero got before starts =
        subst (λ (d : Draft). Reads feed (ride_lines feed journey zero) (way_after feed journey zero) d) (end zero got)
        (subst (λ (ls : List (List ℕ)). Reads feed ls empty_draft (way_at (Some journey.first) (Some r.facts.to) (r.ride ∷ []))) (sym (lines zero got before))
        (step_reads feed None None [] r.from journey.first r.ride r.facts sound r.are r.way (inl (refl, starts refl))))
    by (suc k) got before starts =
        subst (λ (d : Draft). Reads feed (ride_lines feed journey (suc k)) (way_after feed journey (suc k)) d) (end (suc k) got)
        (subst (λ (ls : List (List ℕ)). Reads feed ls (way_after feed journey (suc k)) (way_at (Some journey.first) (Some r.facts.to) (take (suc k) journey.rides ++ r.ride ∷ []))) (sym (lines (suc k) got before))
        (step_reads feed (Some journey.first) (stop_before feed journey (suc k)) (take (suc k) journey.rides) r.from journey.first r.ride r.facts sound r.are r.way (inr refl)))

take_all : (rides : List Ride) → take (length rides) rides ≡ rides
take_all [] = refl
take_all (r ∷ rs) = ap (λ (xs : List Ride). r ∷ xs) (take_all rs)

mapped : {X Y : Type 0} (f : X → Y) (o : Option X) (y : Y) → option_map f o ≡ Some y → (x : X) × (o ≡ Some x)
mapped f None y e = absurd (none-some y e)
mapped f (Some x) y e = (x, refl)

-- the lines of a journey without rides
direct_reads : (feed : FeedRows) (journey : Journey) (seconds : ℕ) → IsSoundFeed feed → IsKnownStop feed journey.first → direct feed journey.first journey.last ≡ Some seconds
    → Reads feed (last_lines feed journey 0) empty_draft (way_at (Some journey.first) (Some journey.last) [])
direct_reads feed journey seconds sound known e = by (journey.first.0 == journey.last.0) refl
  where
    by : (b : Bool) → (journey.first.0 == journey.last.0) ≡ b → Reads feed (last_lines feed journey 0) empty_draft (way_at (Some journey.first) (Some journey.last) [])
    by true same =
        let end : way_at (Some journey.first) (Some journey.first) [] ≡ way_at (Some journey.first) (Some journey.last) [] =
        ap (λ (s : StopId). way_at (Some journey.first) (Some s) []) (same_stop journey.first journey.last (told journey.first.0 journey.last.0 same)) in
        rw same (subst (Reads feed (option_to_list (stay_line feed journey.first)) empty_draft) end
        (reads_line feed (stay_line feed journey.first) (item.Walk journey.first journey.first) empty_draft (way_at (Some journey.first) (Some journey.first) [])
        (stay_tells feed journey.first sound known) refl))
    by false differ =
        let walk : link feed journey.first journey.last ≡ Some seconds = rw differ at e in
        let walked = walk_reads feed journey.first journey.last empty_draft sound (inr (seconds, walk)) in
        let lines = rw differ at walked in
        rw differ lines

-- the last lines of a journey
last_reads : (feed : FeedRows) (query : Query) (journey : Journey) (arrival : ℤ) → IsSoundFeed feed → IsJourney feed query journey arrival
    → Reads feed (last_lines feed journey (length journey.rides)) (way_after feed journey (length journey.rides)) (way_at (Some journey.first) (Some journey.last) journey.rides)
last_reads feed query journey arrival sound j = by (length journey.rides) refl j.arrives
  where
    by : (n : ℕ) → length journey.rides ≡ n → arrival_after feed query journey n ≡ Some arrival
        → Reads feed (last_lines feed journey n) (way_after feed journey n) (way_at (Some journey.first) (Some journey.last) journey.rides)
    by zero long arrives =
        let seconds = mapped (λ s. query.departure.0 +ℤ pos s) (direct feed journey.first journey.last) arrival arrives in
        subst (λ (rs : List Ride). Reads feed (last_lines feed journey 0) empty_draft (way_at (Some journey.first) (Some journey.last) rs)) (sym (no_item journey.rides long))
        (direct_reads feed journey seconds.0 sound (known_member feed query.from journey.first sound j.starts) seconds.1)
    by (suc k) long arrives =
        let r = reached feed query journey arrival k j (omega arith) in
        let got = r.got in
        let facts : facts_at feed journey.rides k ≡ Some r.facts = rw got r.are in
        let came : option_map (λ s. r.facts.arrival.0 +ℤ pos s) (egress feed query r.facts.to journey.last) ≡ Some arrival = rw facts at arrives in
        let seconds = mapped (λ s. r.facts.arrival.0 +ℤ pos s) (egress feed query r.facts.to journey.last) arrival came in
        let lines : last_lines feed journey (suc k) ≡ walk_lines feed r.facts.to journey.last = rw facts refl in
        let before : way_at (Some journey.first) (Some r.facts.to) journey.rides ≡ way_after feed journey (suc k) =
        ap (λ (o : Option RideFacts). way_at (Some journey.first) (given_last o (λ f. f.to)) journey.rides) (sym facts)
        ∙ ap (λ (rs : List Ride). way_at (Some journey.first) (stop_before feed journey (suc k)) rs) (sym (take_all journey.rides) ∙ ap (λ n. take n journey.rides) long) in
        subst (λ (ls : List (List ℕ)). Reads feed ls (way_after feed journey (suc k)) (way_at (Some journey.first) (Some journey.last) journey.rides)) (sym lines)
        (subst (λ (d : Draft). Reads feed (walk_lines feed r.facts.to journey.last) d (way_at (Some journey.first) (Some journey.last) journey.rides)) before
        (end_reads feed journey.rides journey.first r.facts.to journey.last sound (way_of_egress feed query r.facts.to journey.last seconds.0 seconds.1)))

-- the lines of a journey's way tell the journey
pub travel_reads : (feed : FeedRows) (query : Query) (journey : Journey) (arrival : ℤ) → IsSoundFeed feed → IsJourney feed query journey arrival
    → Reads feed (travel_lines feed journey) empty_draft (way_at (Some journey.first) (Some journey.last) journey.rides)
unfolding travel_lines
travel_reads feed query journey arrival sound j =
    reads_both feed (joined_below (length journey.rides) (ride_lines feed journey)) (last_lines feed journey (length journey.rides)) empty_draft _ _
    (reads_joined feed (length journey.rides) (ride_lines feed journey) (way_after feed journey) (λ i lt. ride_reads feed journey i sound (reached feed query journey arrival i j lt)))
    (last_reads feed query journey arrival sound j)
