use Rattle.std.proofs.Common.{◌≡◌, Bool, ◌∙◌, sym, ap}
use Rattle.parset.specs.declared.recovery_set.SetSlice.{SetSlice}
use Rattle.parwindow.specs.Missing.{has_fit_crc_of, has_unfound}
use Rattle.parfind.specs.Sought.{Sought}
use Rattle.parfind.proofs.track_laws.ComparedLaws.{compared_plain}
use Rattle.parfind.proofs.tracks.sought.Sought.is_missing_at.Goals as goal

pub returns-in-Plain : goal.returns-in-Plain
returns-in-Plain c =
    let set = c.args.self.now.set in
    let set_is : c.self.inside.index.now ≡ set = ap (λ (s : Sought). s.set) c.self.view_is in
    let mode_is = sym (ap (λ (s : Sought). s.mode) c.self.view_is) ∙ c.in-Plain.is in
    (rw set_is at c.is_missing.ensures)
    ∙ ap (λ (test : SetSlice → Bool). has_unfound set.slices c.args.found.now test)
    (sym (compared_plain set c.args.self.now.mode c.args.k (has_fit_crc_of c.args.crc c.args.left) mode_is c.requires.there))
