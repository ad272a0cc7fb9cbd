use Rattle.std.proofs.Common.{◌≡◌, map}
use Rattle.std.proofs.lemmas.Result.{IfOk-weaker}
use Rattle.parset.specs.Slices.{file_views, file_view_from}
use Rattle.parset.proofs.FileLaws.{all_told, told_length, views_are}
use Rattle.parset.proofs.building.sums_of.Goals as goal

pub returns : goal.returns
returns c =
    let own = map (λ k. k.now) c.args.own.now in let files = c.args.files.now in let size = c.args.size in
    IfOk-weaker c.checksums.result _ (λ sums. file_views sums files ≡ map (file_view_from size own) files)
    (λ sums h. views_are size own c.in_ok-counts.counts sums files h (c.in_ok-counts.ensures (told_length own) (all_told own files c.requires.described)))
    c.checksums.ensures
