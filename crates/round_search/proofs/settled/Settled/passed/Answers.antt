-- One label more.
use Rattle.std.proofs.Common.{◌≡◌, ◌⊎◌, inr, ⊎_elim, sym, subst, get_or, List, pos}
use Rattle.std.specs.Prelude.{Contains}
use Rattle.std.proofs.lemmas.List.Elements.{Contains-get_or}
use Rattle.transit_base.specs.declared.moments.Moment.{Moment}
use Rattle.round_search.specs.declared.settled.SettledLabel.{SettledLabel}
use Rattle.round_search.specs.Settled.{HasCheaper}
use Rattle.round_search.proofs.settled.Settled.passed.Goals as goal

abbrev none : SettledLabel
none = record { since = record { 0 = pos 0 }; price = record { 0 = pos 0 } }

pub loop-other-preserved : goal.loop-other-preserved
loop-other-preserved c =
    let items = c.deref-other-items.result.now in
    let other = get_or items c.loop-other.other-index none in
    ⊎_elim
    (λ same. subst (λ (m : Moment). (m ≡ c.args.last) ⊎ HasCheaper c.args.self.now.labels.items c.args.own m.0) (sym same) c.loop-other.invariant)
    (λ less. inr (record {
      label = c.in-Some.label;
      is = c.in-Some.is;
      other = other;
      has = subst (λ (ls : List SettledLabel). Contains ls other) c.deref-other-items.ensures.value
          (Contains-get_or items c.loop-other.other-index none c.loop-other-test.true);
      price = less.0;
      since = less.1;
      other_since = less.2;
    }))
    c.sooner-passed.ensures
