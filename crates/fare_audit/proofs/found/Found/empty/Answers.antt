use Rattle.std.proofs.Common.{◌∙◌, sym, ap, length, false}
use Rattle.std.proofs.lemmas.List.{length-replicate}
use Rattle.std.proofs.lemmas.Option.{none-some}
use Rattle.fare_audit.proofs.SetLaws.{none_in, none_marked}
use Rattle.fare_audit.proofs.found.Found.empty.Goals as goal

pub returns : goal.returns
returns c =
    λ audit many.
    record {
      many = ap length (c.in_ok-vec.ensures.items_if_clones_equal (λ y same. same)) ∙ length-replicate _ false ∙ sym many;
      used = λ i at. absurd (none_marked _ _ i (c.in_ok-vec.ensures.items_if_clones_equal (λ y same. same)) at);
      gaps = λ pair at. absurd (none_in pair (rw c.new.ensures.items at at));
      noted = λ pair at. absurd (c.in_ok-of-2.ensures pair at);
      verdicts = λ ride has at. absurd (c.in_ok-of.ensures ride has at);
      walked = λ walk has from to lt e f at. absurd (none-some e (rw (c.in_ok-no_walks.ensures walk has) at at));
    }
