-- What a search holds after each round, and after all.
use Rattle.std.proofs.Common.{◌≡◌, ℕ, ◌+◌, ◌≤◌, List, inl, arith}
use Rattle.std.specs.Prelude.{All, Contains, ◌==◌}
use Rattle.std.proofs.lemmas.Bool.{eqb-true}
use Rattle.std.proofs.lemmas.List.Elements.{All-nil}
use Rattle.std.proofs.lemmas.Option.{slice_get_within}
use Rattle.transit_base.specs.declared.numbers.StopId.{StopId}
use Rattle.feed_rows.specs.declared.fares.Triple.{Triple}
use Rattle.feed_rows.specs.SoundFeed.{IsSoundFeed}
use Rattle.plain_laws.proofs.Laws.{All-from, All-slice_get, Contains-filter_passes, slice_get-Contains}
use Rattle.plan_rides.specs.InTime.{IsUsualQuery}
use Rattle.search_laws.specs.Cuts.{MayLack}
use Rattle.search_laws.specs.Stores.{AreWhole}
use Rattle.search_laws.proofs.CoverLaws.{each_found}
use Rattle.search_laws.proofs.StoreLaws.{whole_of, whole_weaker}
use Rattle.round_terms.specs.declared.finals.Final.{Final}
use Rattle.round_terms.specs.declared.label.Label.{Label}
use Rattle.round_search.specs.declared.search.Found.{Found}
use Rattle.round_search.specs.Bags.{gathered}
use Rattle.round_search.specs.Cuts.{Cuts, IsFoundBy, Lacks}
use Rattle.round_search.specs.Finals.{IsFinal, is_bettered}
use Rattle.round_terms.specs.Labels.{facts_of}
use Rattle.round_search.specs.Searches.{AreEnding, AreLast, IsFit, IsGathered, IsSearched, search_of, told}
use Rattle.round_terms.specs.Steps.{IsEnd, ways}
use Rattle.round_search.proofs.CutLaws.{cuts}
use Rattle.round_search.proofs.FoundLaws.{found_up}
use Rattle.round_search.proofs.LawfulLaws.{cover_test, ways_lawful}
use Rattle.round_terms.specs.Tasks.{HasLaws, Task}

-- labels that fit, with no more rides than the query's limit, may end
pub ending_of : {F M : Type 0} (task : Task F M) (labels : List (Label F M)) → IsUsualQuery task.query →
    All (λ (x : Label F M). x.rides ≤ task.query.rides) labels → All (IsFit task) labels → AreEnding task labels
ending_of task labels usual few fit = record { usual = usual; few = few; fit = fit }

-- what is gathered has so many rides
pub gathered_rides : {F M : Type 0} (rides : ℕ) (bags : List (Label F M)) → All (λ (x : Label F M). x.rides ≡ rides) (gathered rides bags)
gathered_rides {F} {M} rides bags =
    All-from (λ (x : Label F M). x.rides ≡ rides) (gathered rides bags)
    (λ x at. eqb-true x.rides rides (Contains-filter_passes (λ (y : Label F M). y.rides == rides) bags x at))

-- labels without rides are the first and the last
pub last_first : {F M : Type 0} (labels : List (Label F M)) → All (λ (x : Label F M). x.rides ≡ 0) labels → AreLast 0 0 labels
last_first {F} {M} labels none = record {
  within = omega arith;
  last = λ i x at since. All-slice_get (λ (y : Label F M). y.rides ≡ 0) labels i x at none;
  before = λ i x at early. absurd (omega (arith, early));
}

module _ {F M : Type 0} (task : Task F M) (laws : HasLaws task) where
  module _ (found : Found F M) (bags : List (Label F M)) (are : IsGathered task task.query.rides found bags) where
    abbrev labels : List (Label F M)
    labels = found.labels.items

    abbrev finals : List Final
    finals = found.front

    whole : AreWhole (search_of task) (Lacks task finals) task.query.rides labels
    whole =
        whole_of (search_of task) (cover_test task laws) (task.query.rides + 1) labels bags are.stored
        (Lacks task finals) task.query.rides (omega arith) are.apart are.closed are.starts (λ x ride move b step. step.rides.few)

    ended : (x : Label F M) (last : StopId) (triple : Triple) → Contains labels x → IsEnd task (facts_of x) last triple →
        is_bettered finals triple
    ended x last triple at end =
        let place = slice_get-Contains labels x at in
        are.ended.all triple (place.0, slice_get_within labels place.0 x place.1, x, place.1, (last, end))

    -- after all rounds all is found
    pub searched_of : IsSoundFeed task.feed → IsSearched task labels finals
    searched_of sound = record {
      whole = whole;
      right = are.ended.right (All-nil (IsFinal task labels));
      ended = λ triple ends. are.ended.all triple ends;
      all = λ n a last triple reached end strict.
          let more =
          whole_weaker (search_of task) (Lacks task finals) (MayLack (ways task) (Cuts task.terms) task.whole (IsFoundBy task finals))
          task.query.rides labels (λ b lack. lack strict) whole in
          each_found (ways task) (ways_lawful task laws) (told task) (Cuts task.terms) (cuts task laws sound) (IsFoundBy task finals)
          (found_up task finals) task.whole labels more.linked more.starts more.closed
          (λ x last triple at end. inl (ended x last triple at end)) n a last triple reached end;
    }
