use Rattle.std.proofs.Common.{◌≡◌, ◌∙◌, ◌&&◌, ◌||◌, [], ◌∷◌, length, take, length-append, ap, sym}
use Rattle.std.proofs.lemmas.Slice.Zip.{zip_turn, zip_end}
use Rattle.std.specs.Iterator.Adapters.{zip_first, zip_second}
use Rattle.std.specs.List.{list_any, zip}
use Rattle.std.specs.Slice.Iter.{iter_rest}
use Rattle.parreport.specs.States.{shows_both, shows_content_of, is_name_of}
use Rattle.parreport.proofs.LookupLaws.{list_any-zip_more, take-zip_all}
use Rattle.parreport.proofs.states.lookups.both_of.Goals as goal

pub loop-scanned-preserved : goal.loop-scanned-preserved
loop-scanned-preserved c = λ file.
    let start = c.into_iter-scanned-iterator.result in let files = c.args.files.now in let contents = c.args.contents.now in
    let first : iter_rest (zip_first start) ≡ files = cc in
    let second : iter_rest (zip_second start) ≡ contents = cc in
    let turn = zip_turn files contents c.loop-scanned.yielded start c.loop-scanned.scanned-iterator c.next.new.self c.next.result
    first second c.loop-scanned.yielded_by (c.in-Some.scanned, c.in-Some.content) c.in-Some.is c.next.ensures.steps in
    let more = list_any-zip_more (shows_both file) files contents (length c.loop-scanned.yielded) c.in-Some.scanned.now c.in-Some.content.now
    turn.0 turn.1 (turn.2 c.in-Some.scanned.now) (turn.3 c.in-Some.content.now) in
    let pairs = zip files contents in let n = length c.loop-scanned.yielded in let shown = shows_content_of file c.in-Some.content.now in
    c.in_ok-add_both.ensures file
    ∙ (ap (λ b. b || (shown && is_name_of file c.as_bytes.result.now)) (c.loop-scanned.invariant file)
    ∙ (ap (λ name. list_any (shows_both file) (take n pairs) || (shown && is_name_of file name)) (c.as_bytes.ensures.value ∙ c.as_str.ensures)
    ∙ (sym more
    ∙ ap (λ m. list_any (shows_both file) (take m pairs)) (sym (length-append c.loop-scanned.yielded ((c.in-Some.scanned, c.in-Some.content) ∷ []))))))

pub returns : goal.returns
returns c = λ file.
    let start = c.into_iter-scanned-iterator.result in let files = c.args.files.now in let contents = c.args.contents.now in
    let first : iter_rest (zip_first start) ≡ files = cc in
    let second : iter_rest (zip_second start) ≡ contents = cc in
    let all = zip_end files contents c.loop-scanned.yielded start c.loop-scanned.scanned-iterator c.next.new.self c.next.result
    first second c.loop-scanned.yielded_by c.in-None.is c.next.ensures.steps in
    c.loop-scanned.invariant file ∙ ap (list_any (shows_both file)) (take-zip_all files contents (length c.loop-scanned.yielded) all)
