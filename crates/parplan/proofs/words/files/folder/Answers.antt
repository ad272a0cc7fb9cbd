use Rattle.std.proofs.Common.{◌≡◌, ◌∙◌, ◌++◌, ℕ, Bool, true, false, List, nat_eq, codes, refl, rules, sym}
use Rattle.std.specs.List.{ends_with}
use Rattle.std.proofs.lemmas.Str.Pattern.{ends_text}
use Rattle.parplan.specs.FileWords.{folder_of}
use Rattle.parplan.proofs.words.files.folder.Goals as goal

ends : (dir : List ℕ) (b : Bool) → b ≡ ends_with nat_eq dir (codes "/") → b ≡ true → dir ≡ folder_of dir
unfolding folder_of
ends dir b is yes_it_does = let slash : ends_with nat_eq dir (codes "/") ≡ true = sym is ∙ yes_it_does in rw slash refl

ends_not : (dir : List ℕ) (b : Bool) → b ≡ ends_with nat_eq dir (codes "/") → b ≡ false → folder_of dir ≡ dir ++ codes "/"
unfolding folder_of
ends_not dir b is no_slash = let slash : ends_with nat_eq dir (codes "/") ≡ false = sym is ∙ no_slash in rw slash refl

pub returns-in_ok-from_str : goal.returns-in_ok-from_str
returns-in_ok-from_str c =
    c.in_ok-from_str.ensures.ok ∙ ends c.args.dir.now c.ends_with.result (ends_text _ (codes "/") c.args.dir.now c.ends_with.ensures.cases) c.if-ends_with.true

pub returns-else-ends_with : goal.returns-else-ends_with
returns-else-ends_with c =
    rw (ends_not c.args.dir.now c.ends_with.result (ends_text _ (codes "/") c.args.dir.now c.ends_with.ensures.cases) c.if-ends_with.false) (search rules)
