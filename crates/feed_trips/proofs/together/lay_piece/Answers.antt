use Rattle.std.proofs.Common.{◌≡◌, ◌∙◌, sym, length, true, arith}
use Rattle.std.specs.Prelude.{slice_range}
use Rattle.std.specs.List.{list_all}
use mathlib.Core.Bool.{true≢false}
use Rattle.feed_rows.specs.Calls.{is_timed}
use Rattle.feed_trips.proofs.LaidTimes.{none_laid, piece_laid}
use Rattle.feed_trips.proofs.together.lay_piece.Goals as goal

pub returns-then-are_timed : goal.returns-then-are_timed
returns-then-are_timed c =
    none_laid c.args.rows.now c.args.from c.args.to c.args.times.now.items c.requires.forward c.requires.before
    (sym c.are_timed.ensures ∙ c.if-are_timed.true)

pub returns : goal.returns
returns c =
    let untimed : list_all is_timed (slice_range c.args.rows.now c.args.from c.args.to) ≡ true → ⊥ =
    λ all. true≢false (sym all ∙ sym c.are_timed.ensures ∙ c.if-are_timed.false) in
    let size : length c.resize.new.self.items ≡ c.args.to =
    let ok = c.resize.new.self.ok.0 in let long = c.in_ok-resize.ensures.len in omega (arith, ok, long) in
    let made = c.fill_times.ensures in
    piece_laid c.args.rows.now c.args.from c.args.to c.args.times.now.items _ _ _ _ c.requires.within untimed
    c.requires.before c.requires.forward c.in_ok-reserve.ensures.items c.in_ok-resize.ensures.items size made.long
    made.before made.filled
