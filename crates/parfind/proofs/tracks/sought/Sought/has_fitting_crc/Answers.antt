use Rattle.std.proofs.Common.{◌≡◌, ◌&&◌, Bool, ◌∙◌, sym, ap}
use Rattle.std.specs.List.{list_any}
use Rattle.std.proofs.lemmas.Bool.{le-leb, lt-leb}
use Rattle.parset.specs.declared.recovery_set.SetSlice.{SetSlice}
use Rattle.parwindow.specs.Index.{has_own, has_known_crc}
use Rattle.parwindow.specs.Missing.{has_fit_crc_of}
use Rattle.parfind.specs.Sought.{Sought}
use Rattle.parfind.proofs.track_laws.ComparedLaws.{compared_plain, compared_tails, some_fit_own}
use Rattle.parfind.proofs.tracks.sought.Sought.has_fitting_crc.Goals as goal

pub returns-in-Plain : goal.returns-in-Plain
returns-in-Plain c =
    let set = c.args.self.now.set in
    let set_is : c.self.inside.index.now ≡ set = ap (λ (s : Sought). s.set) c.self.view_is in
    let mode_is = sym (ap (λ (s : Sought). s.mode) c.self.view_is) ∙ c.in-Plain.is in
    (rw set_is at c.has_fit_crc.ensures)
    ∙ ap (λ (test : SetSlice → Bool). list_any test set.slices) (sym (compared_plain set c.args.self.now.mode c.args.k (has_fit_crc_of c.args.crc c.args.left) mode_is c.requires))

pub returns-then-own-left : goal.returns-then-own-left
returns-then-own-left c =
    let set = c.args.self.now.set in
    let set_is : c.self.inside.index.now ≡ set = ap (λ (s : Sought). s.set) c.self.view_is in
    let mode_is = sym (ap (λ (s : Sought). s.mode) c.self.view_is) ∙ c.in-Tails.is in
    let own = c.length_at-own.result in
    let fits = le-leb own c.args.left c.if-own-left.true in
    rw (← c.length_at-own.ensures, compared_tails set c.args.self.now.mode own (has_fit_crc_of c.args.crc c.args.left) mode_is)
    ((rw set_is at c.has_crc_of.ensures)
    ∙ ap (λ (b : Bool). b && list_any (has_own own (has_known_crc c.args.crc)) set.slices) (sym fits)
    ∙ sym (some_fit_own set.slices c.args.crc own c.args.left))

pub returns-else-own-left : goal.returns-else-own-left
returns-else-own-left c =
    let set = c.args.self.now.set in
    let mode_is = sym (ap (λ (s : Sought). s.mode) c.self.view_is) ∙ c.in-Tails.is in
    let own = c.length_at-own.result in
    let fails = lt-leb own c.args.left c.if-own-left.false in
    rw (← c.length_at-own.ensures, compared_tails set c.args.self.now.mode own (has_fit_crc_of c.args.crc c.args.left) mode_is)
    (fails
    ∙ ap (λ (b : Bool). b && list_any (has_own own (has_known_crc c.args.crc)) set.slices) (sym fails)
    ∙ sym (some_fit_own set.slices c.args.crc own c.args.left))
