-- A search by the fares of a query makes the table that is asked for.
use Rattle.std.proofs.Common.{◌≡◌, subst, ⊎_elim, Bool, true, false, List, [], ◌∷◌}
use Rattle.feed_rows.specs.declared.fares.Triple.{Triple}
use Rattle.feed_rows.specs.declared.states.Move.{Move}
use Rattle.feed_rows.specs.PartialJourneys.{LabelFacts}
use Rattle.feed_rows.specs.SoundFeed.{IsSoundFeed}
use Rattle.feed_rows.specs.ParetoTriples.{at_most, is_before}
use Rattle.pareto_front.specs.Fronts.{IsFront}
use Rattle.search_laws.specs.Cuts.{MayLack}
use Rattle.search_laws.specs.Stores.{AreWhole}
use Rattle.search_laws.proofs.CutLaws.{lack_more}
use Rattle.search_laws.proofs.StoreLaws.{whole_weaker}
use Rattle.round_laws.specs.Futility.{outdoes}
use Rattle.round_laws.specs.LabelSteps.{ways}
use Rattle.round_laws.specs.LinkedTables.{AreFinals, GoesOn, IsBare, IsFound}
use Rattle.round_terms.specs.declared.finals.Final.{Final}
use Rattle.round_terms.specs.declared.label.Label.{Label}
use Rattle.round_terms.specs.Labels.{covers}
use Rattle.round_terms.specs.Tasks.{Task}
use Rattle.round_search.specs.Cuts.{IsFoundBy, is_given}
use Rattle.round_search.specs.Searches.{IsFit, IsSearched, told}
use Rattle.round_search.proofs.FoundLaws.{found_up}
use Rattle.fare_tariff.specs.declared.fare.Fare.{Fare}
use Rattle.fare_tariff.specs.FareTerms.{TariffOf, at_most as fare_at_most, fare_task}
use Rattle.fare_tariff.proofs.WayLaws.{lacks_of, whole_of}
use Rattle.round_table.specs.Finals.{finals_of}
use Rattle.round_table.specs.Labels.{label_of, labels_of}
use Rattle.round_table.specs.Tables.{table_in}
use Rattle.plan_rounds.specs.Searched.{IsTableOf}
use Rattle.plan_rounds.proofs.FinalLaws.{are_finals}
use Rattle.plan_rounds.proofs.WholeLaws.{closed_all, covers_all, exact_table, finds_all, found_of, real_table, table_search}

-- nothing is found by what is given where nothing is
none_given : (given : List Triple) (t : Triple) → given ≡ [] → is_given given t → ⊥
none_given [] t none h = absurd (let wrong : false ≡ true = h in cc)
none_given (x ∷ xs) t none h = absurd (cc)

module _ (of : TariffOf) (loose : Bool) (given : List Triple) (sound : IsSoundFeed of.feed) (strict : of.whole ≡ true → loose ≡ false)
    (alone : of.whole ≡ true → given ≡ []) (labels : List (Label Fare Move)) (finals : List Final)
    (searched : IsSearched (fare_task of loose given) labels finals)
    (front : IsFront (λ (a b : Final). at_most a.triple b.triple) (λ (a b : Final). is_before a.triple b.triple) finals) where
  abbrev task : Task Fare Move
  task = fare_task of loose given

  abbrev Found : Triple → Type 0
  Found = IsFoundBy task finals

  -- what the table may lack, where the search isn't loose
  abbrev Lacking : LabelFacts → Type 0
  Lacking a = loose ≡ false → MayLack (ways of.feed of.query) (outdoes of.feed of.query) of.whole Found a

  -- the labels as the table has them
  are : AreWhole (table_search of.feed of.query (IsFit task)) Lacking of.query.rides labels
  are =
      whole_of of loose given (told task) (λ x. IsBare (label_of x)) (λ x. GoesOn (label_of x))
      (λ x bare. record { parent = bare.parent; ride = bare.ride; taken = bare.taken })
      (λ x number by move goes. record { parent = goes.parent; ride = goes.ride; taken = goes.taken })
      (covers fare_at_most) sound (λ x fits. fits.fare) of.query.rides labels _ Lacking
      (λ a fare lack strict. lacks_of of loose given sound Found a fare (lack strict)) searched.whole

  ends : AreFinals of.feed of.query (labels_of labels) (finals_of finals)
  ends = are_finals of loose given labels finals searched.right searched.ended front

  -- a search that is to be whole may lack what a final outdoes alone
  all : of.whole ≡ true → AreWhole (table_search of.feed of.query (IsFit task))
      (MayLack (ways of.feed of.query) (outdoes of.feed of.query) true (IsFound (finals_of finals))) of.query.rides labels
  all whole =
      subst (λ w. AreWhole (table_search of.feed of.query (IsFit task))
      (MayLack (ways of.feed of.query) (outdoes of.feed of.query) w (IsFound (finals_of finals))) of.query.rides labels) whole
      (whole_weaker (table_search of.feed of.query (IsFit task)) Lacking
      (MayLack (ways of.feed of.query) (outdoes of.feed of.query) of.whole (IsFound (finals_of finals))) of.query.rides labels
      (λ b lack.
      lack_more (ways of.feed of.query) (outdoes of.feed of.query) of.whole Found (IsFound (finals_of finals)) b
      (λ t. ⊎_elim (found_of finals t) (λ by_given. absurd (none_given given t (alone whole) by_given))) (lack (strict whole)))
      are)

  pub table_of : IsTableOf (record { feed = of.feed; query = of.query; whole = of.whole; loose = loose; given = given }) (table_in labels finals)
  table_of = record {
    real = real_table of.feed of.query (IsFit task) (λ x fits. fits.fare) labels finals Lacking are ends;
    finds = λ strict.
        finds_all of.feed of.query (IsFit task) (λ x fits. fits.fare) labels finals sound of.whole given
        (whole_weaker (table_search of.feed of.query (IsFit task)) Lacking
        (MayLack (ways of.feed of.query) (outdoes of.feed of.query) of.whole Found) of.query.rides labels (λ b lack. lack strict) are)
        (found_up task finals) ends;
    exact = λ whole. exact_table of.feed of.query (IsFit task) (λ x fits. fits.fare) labels finals sound (all whole) ends;
    covers = λ whole. covers_all of.feed of.query (IsFit task) (λ x fits. fits.fare) labels finals sound (all whole);
    closed = λ whole. closed_all of.feed of.query (IsFit task) (λ x fits. fits.fare) labels finals sound (all whole);
  }
