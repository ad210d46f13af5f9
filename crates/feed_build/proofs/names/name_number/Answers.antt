use Rattle.std.proofs.Common.{◌≡◌, refl, ◌∙◌, sym, Some, None}
use Rattle.std.proofs.lemmas.List.{length-map}
use Rattle.feed_faults.specs.AcceptedFeed.{place_of_name}
use Rattle.feed_build.specs.NameNumbers.{names_in}
use Rattle.feed_build.proofs.NumberLaws.{place_is}
use Rattle.feed_build.proofs.names.name_number.Goals as goal

pub returns-in-Some : goal.returns-in-Some
returns-in-Some c =
    let place : place_of_name (names_in c.names.inside.names) c.args.name.now ≡ Some c.in-Some.place = sym (place_is c.names.inside.names.keys c.args.name) ∙ sym c.get_index_of.ensures.index ∙ c.in-Some.is in
    rw (← c.names.view_is, place) refl

pub returns-in-None : goal.returns-in-None
returns-in-None c =
    let place : place_of_name (names_in c.names.inside.names) c.args.name.now ≡ None = sym (place_is c.names.inside.names.keys c.args.name) ∙ sym c.get_index_of.ensures.index ∙ c.in-None.is in
    rw (← c.names.view_is, place) (c.len.ensures.len ∙ sym (length-map c.names.inside.names.keys (λ k. k.now)))
