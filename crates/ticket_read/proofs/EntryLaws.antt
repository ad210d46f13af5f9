-- The text of entries is read back as these entries, and what is read are entries of the query.
use Rattle.std.proofs.Common.{◌≡◌, refl, sym, ◌∙◌, ap, subst, ℕ, ◌≤◌, Bool, true, false, List, [], ◌∷◌, ◌++◌, length, map, Option, Some, None, arith, append_assoc}
use Rattle.std.specs.Prelude.{option_map, option_and_then, nat_le, All, bytes_eq, ℤ, pos, ◌+ℤ◌, int_le}
use Rattle.std.specs.List.{concat}
use Rattle.std.proofs.lemmas.Bool.{and_parts}
use Rattle.std.proofs.lemmas.Bool.Decides.{nat_tests}
use Rattle.std.proofs.lemmas.List.{map-append, append-nil}
use Rattle.std.proofs.lemmas.List.Elements.{All-nil, All-head, All-tail, All-push}
use Rattle.std.proofs.lemmas.Option.{none-some, same_Some, cond_some, option_and_then_some}
use Rattle.feed_rows.specs.FeedRows.{FeedRows}
use Rattle.feed_rows.specs.EntryText.{travel_lines, fare_lines, entry_lines, lines_of_entries, text_of_entries}
use Rattle.feed_rows.specs.JourneyEntries.{IsEntry, rides_price}
use Rattle.feed_rows.specs.Journeys.{stands_for, IsJourney}
use Rattle.feed_rows.specs.JourneyStands.{Stand, stand_after, end_arrival}
use Rattle.feed_rows.specs.SoundFeed.{IsSoundFeed}
use Rattle.feed_rows.specs.declared.fares.Choice.{Choice}
use Rattle.feed_rows.specs.declared.fares.Entry.{Entry}
use Rattle.feed_rows.specs.declared.journeys.Journey.{Journey}
use Rattle.feed_rows.specs.declared.journeys.Query.{Query}
use Rattle.feed_laws.proofs.JourneyLaws.{travelled_of_journey, journey_of_travelled}
use Rattle.plain_laws.specs.Plain.{after, given, given_last}
use Rattle.plain_laws.proofs.Laws.{after-append, int_le-true, le-int_le}
use Rattle.line_cuts.specs.Cuts.{lines_in, fields_in}
use Rattle.ticket_read.specs.Drafts.{empty_draft, with_item}
use Rattle.ticket_read.specs.EntryTexts.{IsTextOf, HasOneListByText}
use Rattle.ticket_read.specs.Items.{item_of}
use Rattle.feed_rows.specs.Journeys.{Asked, asked}
use Rattle.ticket_read.specs.Judgement.{fits_query, way_arrival, journey_arrival, judged, entry_of}
use Rattle.ticket_read.specs.Readings.{start, all_done, with_draft, closed, begun, added, read_line, read_entries}
use Rattle.ticket_read.specs.declared.drafts.Draft.{Draft}
use Rattle.ticket_read.specs.declared.drafts.Item.{Item}
use Rattle.ticket_read.specs.declared.drafts.Item.TheVariants as item
use Rattle.ticket_read.specs.declared.reader.Reading.{Reading}
use Rattle.ticket_read.proofs.ArrivalLaws.{few_rides}
use Rattle.ticket_read.proofs.CutLaws.{ended, AreUnbroken, unbroken_both, lines_in-joined}
use Rattle.ticket_read.proofs.ItemLaws.{head_tells}
use Rattle.ticket_read.proofs.ReadingLaws.{reads_both, take_line, lines_read}
use Rattle.ticket_read.proofs.TicketLaws.{choice_of, with_fares, fares_read}
use Rattle.ticket_read.proofs.WayLaws.{travel_reads}

-- ---- journeys

fits_true : (feed : FeedRows) (query : Query) (journey : Journey) → stands_for feed query.from journey.first ≡ true → stands_for feed query.to journey.last ≡ true
    → length journey.rides ≤ query.rides → fits_query feed query journey ≡ true
fits_true feed query journey starts ends few =
    let test : nat_le (length journey.rides) query.rides ≡ true = grind (arith, nat_tests) in
    rw (starts, ends, test) refl

-- a journey of the query has its arrival
pub arrival_is : (feed : FeedRows) (query : Query) (journey : Journey) (arrival : ℤ) → IsJourney feed query journey arrival → journey_arrival feed query journey ≡ Some arrival
unfolding journey_arrival way_arrival
arrival_is feed query journey arrival j =
    let t = travelled_of_journey feed query journey arrival j in
    let asked = fits_true feed query journey j.starts j.ends j.few in
    let stands = t.stands in
    let arrives = t.arrives in
    let in_time = le-int_le arrival (query.departure.0 +ℤ pos query.window) t.in_time in
    rw (asked, stands, arrives, in_time) refl

-- and what has one is a journey of the query
pub journey_of : (feed : FeedRows) (query : Query) (journey : Journey) (arrival : ℤ) → journey_arrival feed query journey ≡ Some arrival → IsJourney feed query journey arrival
unfolding journey_arrival way_arrival
journey_of feed query journey arrival e = by (fits_query feed query journey) refl
  where
    travelled : (stand : Stand) (other : ℤ) → fits_query feed query journey ≡ true → stand_after feed query journey.first journey.rides (length journey.rides) ≡ Some stand
        → end_arrival feed query stand journey.last ≡ Some other → int_le other (query.departure.0 +ℤ pos query.window) ≡ true → other ≡ arrival → IsJourney feed query journey arrival
    travelled stand other asked stands arrives in_time same =
        let a = and_parts _ _ asked in
        let b = and_parts _ _ a.0 in
        subst (IsJourney feed query journey) same (journey_of_travelled feed query journey other (record {
          starts = b.0;
          ends = b.1;
          few = few_rides (length journey.rides) query.rides a.1;
          stand = stand;
          stands = stands;
          arrives = arrives;
          in_time = int_le-true other (query.departure.0 +ℤ pos query.window) in_time;
        }))

    by : (b : Bool) → fits_query feed query journey ≡ b → IsJourney feed query journey arrival
    by false is = absurd (none-some arrival (rw is at e))
    by true is =
        option_and_then_some _ (stand_after feed query journey.first journey.rides (length journey.rides)) arrival (rw is at e) (λ stand stands rest.
        option_and_then_some _ (end_arrival feed query stand journey.last) arrival rest (λ other arrives last.
        let both = cond_some (int_le other (query.departure.0 +ℤ pos query.window)) other arrival last in
        travelled stand other is stands arrives both.0 both.1))

-- ---- entries

-- an entry of the query is judged as itself
pub judged_is : (feed : FeedRows) (query : Query) (entry : Entry) → IsEntry feed query entry → judged feed query entry.journey entry.choice ≡ Some entry
unfolding judged
judged_is feed query entry e =
    let arrival = arrival_is feed query entry.journey entry.triple.arrival.0 e.journey in
    let price = e.price in
    rw (arrival, price)
    (ap (λ (n : ℕ). Some (record {
      triple = record { arrival = entry.triple.arrival; rides = n; price = entry.triple.price };
      journey = entry.journey;
      choice = entry.choice;
    })) (sym e.rides))

-- and what is judged is an entry of the query
pub judged_right : (feed : FeedRows) (query : Query) (journey : Journey) (choice : Choice) (entry : Entry) → judged feed query journey choice ≡ Some entry → IsEntry feed query entry
unfolding judged
judged_right feed query journey choice entry e =
    option_and_then_some _ (journey_arrival feed query journey) entry e (λ arrival arrives rest. by arrival arrives (rides_price feed journey.rides choice query.buyer) refl rest)
  where
    made : ℤ → ℤ → Entry
    made arrival price =
        record {
          triple = record { arrival = record { 0 = arrival }; rides = length journey.rides; price = record { 0 = price } };
          journey = journey;
          choice = choice;
        }

    by : (arrival : ℤ) → journey_arrival feed query journey ≡ Some arrival → (o : Option ℤ) → rides_price feed journey.rides choice query.buyer ≡ o
        → option_map (made arrival) o ≡ Some entry → IsEntry feed query entry
    by arrival arrives None price h = absurd (none-some entry h)
    by arrival arrives (Some sum) price h =
        subst (IsEntry feed query) (same_Some (made arrival sum) entry h)
        (record { journey = journey_of feed query journey arrival arrives; rides = refl; price = price })

pub entry_right : (feed : FeedRows) (query : Query) (draft : Draft) (entry : Entry) → entry_of feed query draft ≡ Some entry → IsEntry feed query entry
unfolding entry_of
entry_right feed query draft entry e =
    option_and_then_some _ draft.first entry e (λ first _ rest.
    option_and_then_some _ draft.last entry rest (λ last _ is.
    judged_right feed query (record { first = first; last = last; rides = draft.rides }) (record { legs = draft.legs; changes = draft.changes }) entry is))

-- the lines of an entry, with what they tell after the lines before them
record IsEntryRead (feed : FeedRows) (query : Query) (entry : Entry) : Type 0 where
  fronts : List (List ℕ)
  are : entry_lines feed entry ≡ map ended fronts
  unbroken : AreUnbroken fronts
  draft : Draft
  is : entry_of feed query draft ≡ Some entry
  goes : (before : Reading) (done : List Entry) → closed feed query before ≡ Some (all_done done) → after (read_line feed query) before fronts ≡ Some (with_draft done draft)

head_read : (feed : FeedRows) (query : Query) (done : List Entry) (before : Reading) (head : List ℕ) → closed feed query before ≡ Some (all_done done)
    → item_of feed (fields_in head) ≡ Some item.Head → read_line feed query before head ≡ Some (with_draft done empty_draft)
unfolding read_line begun
head_read feed query done before head is tells = rw (tells, is) refl

-- the head line begins the entry, and the others are its draft's
entry_goes : (feed : FeedRows) (query : Query) (done : List Entry) (before : Reading) (head : List ℕ) (rest : List (List ℕ)) (end : Draft)
    → closed feed query before ≡ Some (all_done done) → item_of feed (fields_in head) ≡ Some item.Head → after (take_line feed) empty_draft rest ≡ Some end
    → after (read_line feed query) before (head ∷ rest) ≡ Some (with_draft done end)
entry_goes feed query done before head rest end is tells goes =
    ap (option_and_then (λ (p : Reading). after (read_line feed query) p rest)) begins ∙ lines_read feed query done empty_draft end rest goes
  where
    begins : read_line feed query before head ≡ Some (with_draft done empty_draft)
    begins = head_read feed query done before head is tells

entry_read : (feed : FeedRows) (query : Query) (entry : Entry) → IsSoundFeed feed → IsEntry feed query entry → IsEntryRead feed query entry
unfolding entry_lines entry_of
entry_read feed query entry sound e =
    let way = travel_reads feed query entry.journey entry.triple.arrival.0 sound e.journey in
    let of = choice_of feed entry.journey.rides entry.choice query.buyer entry.triple.price.0 e.price in
    let fares = fares_read (Some entry.journey.first) (Some entry.journey.last) entry.journey.rides feed entry.choice sound of in
    let rest = reads_both feed (travel_lines feed entry.journey) (fare_lines feed entry.choice) empty_draft _ _ way fares in
    let head = head_tells feed entry.triple sound in
    let draft = with_fares (Some entry.journey.first) (Some entry.journey.last) entry.journey.rides entry.choice in
    record {
      fronts = head.front ∷ rest.fronts;
      are = ap (λ (l : List ℕ). l ∷ travel_lines feed entry.journey ++ fare_lines feed entry.choice) head.is ∙ ap (λ (ls : List (List ℕ)). ended head.front ∷ ls) rest.are;
      unbroken = (head.unbroken, rest.unbroken);
      draft = draft;
      is = judged_is feed query entry e;
      goes = λ before done is. entry_goes feed query done before head.front rest.fronts draft is head.tells rest.goes;
    }

-- ---- lists of entries

closed_draft : (feed : FeedRows) (query : Query) (done : List Entry) (draft : Draft) (entry : Entry) → entry_of feed query draft ≡ Some entry
    → closed feed query (with_draft done draft) ≡ Some (all_done (done ++ entry ∷ []))
unfolding closed
closed_draft feed query done draft entry is = rw is refl

-- the lines of entries, with what they tell after the lines before them
record AreRead (feed : FeedRows) (query : Query) (entries : List Entry) : Type 0 where
  fronts : List (List ℕ)
  are : lines_of_entries feed entries ≡ map ended fronts
  unbroken : AreUnbroken fronts
  goes : (before : Reading) (done : List Entry) → closed feed query before ≡ Some (all_done done)
      → option_and_then (closed feed query) (after (read_line feed query) before fronts) ≡ Some (all_done (done ++ entries))

entries_read : (feed : FeedRows) (query : Query) (entries : List Entry) → IsSoundFeed feed → All (IsEntry feed query) entries → AreRead feed query entries
entries_read feed query [] sound all =
    record {
      fronts = [];
      are = refl;
      unbroken = tt;
      goes = λ before done is. is ∙ ap (λ (es : List Entry). Some (all_done es)) (sym (append-nil done));
    }
entries_read feed query (entry ∷ entries) sound all =
    let first = entry_read feed query entry sound (All-head (IsEntry feed query) entry entries all) in
    let rest = entries_read feed query entries sound (All-tail (IsEntry feed query) entry entries all) in
    record {
      fronts = first.fronts ++ rest.fronts;
      are =
          ap (λ (ls : List (List ℕ)). ls ++ lines_of_entries feed entries) first.are
          ∙ ap (λ (ls : List (List ℕ)). map ended first.fronts ++ ls) rest.are ∙ sym (map-append ended first.fronts rest.fronts);
      unbroken = unbroken_both first.fronts rest.fronts first.unbroken rest.unbroken;
      goes = λ before done is.
          let here = first.goes before done is in
          let later = rest.goes (with_draft done first.draft) (done ++ entry ∷ []) (closed_draft feed query done first.draft entry first.is) in
          ap (option_and_then (closed feed query)) (after-append (read_line feed query) before first.fronts rest.fronts)
          ∙ ap (λ (o : Option Reading). option_and_then (closed feed query) (option_and_then (λ p. after (read_line feed query) p rest.fronts) o)) here
          ∙ later ∙ ap (λ (es : List Entry). Some (all_done es)) (append_assoc done (entry ∷ []) entries);
    }

closed_start : (feed : FeedRows) (query : Query) → closed feed query start ≡ Some (all_done [])
unfolding closed
closed_start feed query = refl

-- the text of entries of the query is read as these entries
pub text_read : (feed : FeedRows) (query : Query) (entries : List Entry) → IsSoundFeed feed → All (IsEntry feed query) entries
    → read_entries feed query (text_of_entries feed entries) ≡ Some entries
unfolding read_entries
text_read feed query entries sound all =
    let read = entries_read feed query entries sound all in
    let lines : lines_in (text_of_entries feed entries) ≡ read.fronts =
    ap (λ (ls : List (List ℕ)). lines_in (concat ls)) read.are ∙ lines_in-joined read.fronts read.unbroken in
    let goes = read.goes start [] (closed_start feed query) in
    ap (λ (ls : List (List ℕ)). given (after (read_line feed query) start ls) (λ reading. given_last (closed feed query reading) (λ last. last.done))) lines
    ∙ by (after (read_line feed query) start read.fronts) goes
  where
    by : (o : Option Reading) → option_and_then (closed feed query) o ≡ Some (all_done entries)
        → given o (λ reading. given_last (closed feed query reading) (λ last. last.done)) ≡ Some entries
    by None e = absurd (none-some (all_done entries) e)
    by (Some reading) e = ap (option_map (λ (last : Reading). last.done)) e

-- so a text is that of one list alone
pub one_list_by_text : (feed : FeedRows) (query : Query) → IsSoundFeed feed → HasOneListByText feed query
one_list_by_text feed query sound entries others right also same =
    same_Some entries others (sym (text_read feed query entries sound right) ∙ ap (read_entries feed query) same ∙ text_read feed query others sound also)

-- ---- what is read are entries of the query

closed_right : (feed : FeedRows) (query : Query) (before end : Reading) → All (IsEntry feed query) before.done → closed feed query before ≡ Some end → All (IsEntry feed query) end.done
unfolding closed
closed_right feed query before end right e = by before.draft refl
  where
    by : (o : Option Draft) → before.draft ≡ o → All (IsEntry feed query) end.done
    by None none =
        let same : Some (all_done before.done) ≡ Some end = rw none at e in
        subst (λ (r : Reading). All (IsEntry feed query) r.done) (same_Some (all_done before.done) end same) right
    by (Some draft) some = entry (entry_of feed query draft) refl (rw some at e)
      where
        entry : (o : Option Entry) → entry_of feed query draft ≡ o → option_map (λ e. all_done (before.done ++ e ∷ [])) o ≡ Some end → All (IsEntry feed query) end.done
        entry None none h = absurd (none-some end h)
        entry (Some e) is h =
            subst (λ (r : Reading). All (IsEntry feed query) r.done) (same_Some (all_done (before.done ++ e ∷ [])) end h)
            (All-push (IsEntry feed query) before.done e right (entry_right feed query draft e is))

line_right : (feed : FeedRows) (query : Query) (before end : Reading) (line : List ℕ) → All (IsEntry feed query) before.done → read_line feed query before line ≡ Some end
    → All (IsEntry feed query) end.done
unfolding read_line begun
line_right feed query before end line right e = by (item_of feed (fields_in line)) refl
  where
    more : (i : Item) → added before i ≡ Some end → All (IsEntry feed query) end.done
    more i h = draft before.draft h
      where
        draft : (o : Option Draft) → option_map (λ d. with_draft before.done (with_item d i)) o ≡ Some end → All (IsEntry feed query) end.done
        draft None h = absurd (none-some end h)
        draft (Some d) h = subst (λ (r : Reading). All (IsEntry feed query) r.done) (same_Some (with_draft before.done (with_item d i)) end h) right

    head : (o : Option Reading) → closed feed query before ≡ o → option_map (λ b. with_draft b.done empty_draft) o ≡ Some end → All (IsEntry feed query) end.done
    head None none h = absurd (none-some end h)
    head (Some b) is h =
        subst (λ (r : Reading). All (IsEntry feed query) r.done) (same_Some (with_draft b.done empty_draft) end h) (closed_right feed query before b right is)

    by : (o : Option Item) → item_of feed (fields_in line) ≡ o → All (IsEntry feed query) end.done
    by None is = absurd (none-some end (rw is at e))
    by (Some item.Head) is = head (closed feed query before) refl (rw is at e)
    by (Some (item.Walk from to)) is = more (item.Walk from to) (rw is at e)
    by (Some (item.Ride ride from to)) is = more (item.Ride ride from to) (rw is at e)
    by (Some (item.Leg pick)) is = more (item.Leg pick) (rw is at e)
    by (Some (item.Change pick)) is = more (item.Change pick) (rw is at e)

lines_right : (feed : FeedRows) (query : Query) (before end : Reading) (lines : List (List ℕ)) → All (IsEntry feed query) before.done
    → after (read_line feed query) before lines ≡ Some end → All (IsEntry feed query) end.done
lines_right feed query before end [] right e = subst (λ (r : Reading). All (IsEntry feed query) r.done) (same_Some before end e) right
lines_right feed query before end (line ∷ lines) right e =
    by (read_line feed query before line) refl (λ between is goes. lines_right feed query between end lines (line_right feed query before between line right is) goes)
  where
    by : (o : Option Reading) → read_line feed query before line ≡ o
        → ((between : Reading) → read_line feed query before line ≡ Some between → after (read_line feed query) between lines ≡ Some end → All (IsEntry feed query) end.done)
        → All (IsEntry feed query) end.done
    by None is rest = absurd (none-some end (rw is at e))
    by (Some between) is rest = rest between is (rw is at e)

-- whatever text is read, its entries are entries of the query
pub read_right : (feed : FeedRows) (query : Query) (text : List ℕ) (entries : List Entry) → read_entries feed query text ≡ Some entries → All (IsEntry feed query) entries
unfolding read_entries
read_right feed query text entries e =
    option_and_then_some _ (after (read_line feed query) start (lines_in text)) entries e (λ reading goes last. by reading goes (closed feed query reading) refl last)
  where
    by : (reading : Reading) → after (read_line feed query) start (lines_in text) ≡ Some reading → (o : Option Reading) → closed feed query reading ≡ o
        → option_map (λ last. last.done) o ≡ Some entries → All (IsEntry feed query) entries
    by reading goes None none h = absurd (none-some entries h)
    by reading goes (Some last) is h =
        subst (All (IsEntry feed query)) (same_Some last.done entries h)
        (closed_right feed query reading last (lines_right feed query start reading (lines_in text) (All-nil (IsEntry feed query)) goes) is)

-- what is read of a text is any list of entries whose text it is
pub only_read : (feed : FeedRows) (query : Query) (reader : Asked) (text : List ℕ) (read : Option (List Entry)) → IsSoundFeed feed → reader ≡ asked feed query
    → read ≡ read_entries reader.feed reader.query text → (entries : List Entry) → IsTextOf feed query entries text → read ≡ Some entries
only_read feed query reader text read sound same is entries t =
    is ∙ ap (λ (a : Asked). read_entries a.feed a.query text) same ∙ ap (read_entries feed query) (sym t.text_is) ∙ text_read feed query entries sound t.right

-- whether this is the text of entries, where it was asked of what they are kept as
pub is_text : (feed rows : FeedRows) (entries kept : List Entry) (text : List ℕ) (is : Bool) → rows ≡ feed → kept ≡ entries → is ≡ bytes_eq (text_of_entries rows kept) text
    → is ≡ bytes_eq (text_of_entries feed entries) text
is_text feed rows entries kept text is same are asked =
    asked ∙ ap (λ (its : FeedRows). bytes_eq (text_of_entries its kept) text) same ∙ ap (λ (es : List Entry). bytes_eq (text_of_entries feed es) text) are

-- what is read of a text, and has it as its text
pub told_read : (feed : FeedRows) (query : Query) (reader : Asked) (text : List ℕ) (read : Option (List Entry)) (entries : List Entry) → reader ≡ asked feed query
    → read ≡ read_entries reader.feed reader.query text → read ≡ Some entries → text_of_entries feed entries ≡ text → IsTextOf feed query entries text
told_read feed query reader text read entries same is some has =
    record {
      right = read_right feed query text entries (sym (is ∙ ap (λ (a : Asked). read_entries a.feed a.query text) same) ∙ some);
      text_is = has;
    }

-- a text that isn't that of what is read is the text of no entries
pub none_read : (feed : FeedRows) (query : Query) (reader : Asked) (text : List ℕ) (read : Option (List Entry)) (entries : List Entry) → IsSoundFeed feed → reader ≡ asked feed query
    → read ≡ read_entries reader.feed reader.query text → read ≡ Some entries → (text_of_entries feed entries ≡ text → ⊥)
    → (others : List Entry) → IsTextOf feed query others text → None ≡ Some others
none_read feed query reader text read entries sound same is some differ others t =
    let alike : entries ≡ others = same_Some entries others (sym some ∙ only_read feed query reader text read sound same is others t) in
    absurd (differ (ap (text_of_entries feed) alike ∙ t.text_is))
