use Rattle.std.proofs.Common.{◌≡◌, ◌+◌, length, take, ap, ◌∙◌, ◌++◌, arith, length-append}
use Rattle.std.proofs.lemmas.Result.{on_ok_weaker}
use Rattle.std.proofs.lemmas.List.{take_all}
use Rattle.item_groups.proofs.PartLaws.{pushed_part}
use Rattle.feed_text.specs.Reader.{last_record}
use Rattle.feed_text.proofs.table.push_record.Goals as goal

pub returns-clause-rise : goal.returns-clause-rise
returns-clause-rise g c =
    let fields = last_record c.args.records.now in
    let all : take c.loop-place.place fields ≡ fields = take_all c.loop-place.place fields (omega (arith, c.loop-place-test.false, c.len-place-end.ensures)) in
    let grown : c.loop-place.fields ≡ c.args.fields.now ++ fields = rw all at c.loop-place.invariant in
    let size : c.count.result ≡ length c.args.fields.now + length fields = c.count.ensures ∙ ap length grown ∙ length-append c.args.fields.now fields in
    on_ok_weaker _
    (λ ends. (pushed_part c.args.ends.now.items c.push_end.new.ends.items c.args.fields.now fields c.loop-place.fields c.count.result c.requires ends grown size).0)
    c.push_end.ensures.ok

pub returns-clause-parts : goal.returns-clause-parts
returns-clause-parts g c =
    let fields = last_record c.args.records.now in
    let all : take c.loop-place.place fields ≡ fields = take_all c.loop-place.place fields (omega (arith, c.loop-place-test.false, c.len-place-end.ensures)) in
    let grown : c.loop-place.fields ≡ c.args.fields.now ++ fields = rw all at c.loop-place.invariant in
    let size : c.count.result ≡ length c.args.fields.now + length fields = c.count.ensures ∙ ap length grown ∙ length-append c.args.fields.now fields in
    on_ok_weaker _
    (λ ends. (pushed_part c.args.ends.now.items c.push_end.new.ends.items c.args.fields.now fields c.loop-place.fields c.count.result c.requires ends grown size).1)
    c.push_end.ensures.ok
