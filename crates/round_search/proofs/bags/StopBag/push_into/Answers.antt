use Rattle.std.proofs.Common.{refl, sym, ◌∙◌, ap, ◌++◌, length}
use Rattle.std.specs.Prelude.{filter}
use Rattle.std.proofs.lemmas.Bool.{eq-eqb, ne_eqb}
use Rattle.std.proofs.lemmas.List.{append-nil, take_all}
use Rattle.std.proofs.lemmas.Option.{slice_get_read}
use Rattle.round_search.specs.Bags.{has_rides}
use Rattle.round_search.proofs.BagLaws.{pushes_none, pushes_one}
use Rattle.round_search.proofs.bags.StopBag.push_into.Goals as goal
use Rattle.round_search.proofs.bags.StopBag.push_into.Goals.{then-label-rides+in_ok-push, else-label-rides}

pub loop-label-init : goal.loop-label-init
loop-label-init g c = sym (append-nil c.args.labels.now.items)

pub loop-label-preserved : goal.loop-label-preserved
loop-label-preserved g c =
    let held = c.as_slice-label-items.result.now in
    let item = c.label-item.result in
    let at = slice_get_read held (length held) c.loop-label.label-index item refl c.loop-label-test.true c.label-item.is in
    elim c.if-label-rides.branch [
      | then-label-rides+in_ok-push w ↦
          rw w.labels-is (pushes_one (has_rides c.args.rides) held c.loop-label.label-index item c.args.labels.now.items c.loop-label.labels.items at
          c.loop-label.invariant _ (eq-eqb item.rides c.args.rides w.if-label-rides.true) w.in_ok-push.ensures.items)
      | else-label-rides w ↦
          rw w.labels-is (pushes_none (has_rides c.args.rides) held c.loop-label.label-index item c.args.labels.now.items c.loop-label.labels.items at
          c.loop-label.invariant (ne_eqb item.rides c.args.rides w.if-label-rides.false))
    ]

pub returns : goal.returns
returns g c =
    c.loop-label.invariant
    ∙ ap (λ xs. c.args.labels.now.items ++ filter (has_rides c.args.rides) xs)
    (take_all c.loop-label.label-index c.as_slice-label-items.result.now c.loop-label-test.false ∙ c.as_slice-label-items.ensures.value ∙ c.self.view_is)
