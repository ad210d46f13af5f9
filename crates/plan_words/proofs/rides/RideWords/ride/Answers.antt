use Rattle.std.proofs.Common.{◌≡◌, ◌∙◌, None, Some, sym, subst, arith}
use Rattle.std.proofs.lemmas.List.{length-map}
use Rattle.commands.specs.CommandWords.{word_at}
use Rattle.feed_rows.specs.RideWords.{ride_word}
use Rattle.plan_words.specs.Rides.{ride_of, texts_of}
use Rattle.plan_words.proofs.RideLaws.{ride_within, ride_there, no_ride}
use Rattle.plan_words.proofs.rides.RideWords.ride.Goals as goal

pub ride_at-requires : goal.ride_at-requires
ride_at-requires c =
    let texts = c.args.self.now.texts.items in
    let within = ride_within (texts_of texts) c.args.number c.requires in
    omega (arith, within, length-map texts (λ text. text.now))

pub unreachable-requires : goal.unreachable-requires
unreachable-requires c =
    no_ride (texts_of c.args.self.now.texts.items) c.args.number c.requires
    (subst (λ texts. None ≡ ride_word (word_at (texts_of texts) c.args.number)) c.as_slice.ensures.value c.in-None.ensures.value)

pub returns-clause-value : goal.returns-clause-value
returns-clause-value c =
    ride_there (texts_of c.args.self.now.texts.items) c.args.number c.requires
    ∙ sym (subst (λ texts. Some (ride_of c.in-Some.ride) ≡ ride_word (word_at (texts_of texts) c.args.number)) c.as_slice.ensures.value c.in-Some.ensures.value)
