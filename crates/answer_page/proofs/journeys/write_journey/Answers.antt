use Rattle.std.proofs.Common.{◌≡◌, refl, ℕ, ◌+◌, List, [], ◌++◌, Some, append_assoc}
use Rattle.std.specs.Prelude.{slice_get}
use Rattle.std.proofs.lemmas.Option.{slice_get_read}
use Rattle.std.proofs.lemmas.Result.{on_ok_weaker}
use Rattle.answer_page.specs.Html.{filled}
use Rattle.answer_page.specs.Journeys.{head_html, journey_html, journey_at}
use Rattle.answer_page.specs.Tickets.{tickets_html}
use Rattle.answer_page.specs.Ways.{bars_html, way_html}
use Rattle.answer_page.specs.declared.answer.Entry.{Entry}
use Rattle.answer_page.specs.declared.markup.TheConstants.{JOURNEY_END}
use Rattle.answer_page.specs.declared.names.Names.{Names}
use Rattle.answer_page.specs.declared.scale.Scale.{Scale}
use Rattle.answer_page.proofs.journeys.write_journey.Goals as goal

-- the parts of a journey, one behind another
written : (names : Names) (date : List ℕ) (times : Scale) (entries : List Entry) (place : ℕ) (entry : Entry) (page head bars way tickets end : List ℕ)
    → slice_get entries place ≡ Some entry → head ≡ page ++ head_html date (place + 1) entry.head → bars ≡ head ++ bars_html names times (place + 1) entry
    → way ≡ bars ++ way_html names date entry → tickets ≡ way ++ tickets_html entry → end ≡ tickets ++ filled JOURNEY_END.now []
    → end ≡ page ++ journey_at names date times entries place
unfolding journey_html
written names date times entries place entry page head bars way tickets end there h b w t e = rw (there, e, t, w, b, h) (simp append_assoc)

pub returns : goal.returns
returns c =
    let entry = c.in-Some.entry.now in
    on_ok_weaker c.fill.result
    (written c.args.names.now c.args.date.now c.args.times c.args.entries.now c.args.place entry c.args.page.now c.write_head.new.page
    c.write_bars.new.page c.write_way.new.page c.write_tickets.new.page c.fill.new.self
    (slice_get_read c.args.entries.now _ c.args.place entry refl c.requires c.in-Some.ensures.lookup.1) c.in_ok-write_head.ensures
    c.in_ok-write_bars.ensures c.in_ok-write_way.ensures c.in_ok-write_tickets.ensures)
    c.fill.ensures
