use Rattle.std.proofs.Common.{true, ◌≡◌, ◌+◌, ◌⊎◌, length, min, ◌-◌, ◌≤◌, sym, ap, ◌∙◌, inl, inr, arith}
use Rattle.parwindow.specs.Rolling.{HasRegister}
use Rattle.parwindow.specs.declared.rolling.roll.Roll.{Roll}
use Rattle.parwindow.proofs.rolling_laws.RollOverLaws.{front_part, back_part, bytes_part}
use Rattle.parwindow.proofs.ListLaws.{rest_is}
use Rattle.parwindow.proofs.rolling_laws.RollUntilLaws.{arrived}
use Rattle.parwindow.proofs.rolling.roll_tables.RollTables.roll_over.Goals as goal
use Rattle.parwindow.proofs.rolling.roll_tables.RollTables.roll_over.Goals.{then-first-via-then-first, then-first-via-else-first+then-first-bytes}

pub returns-then-first : goal.returns-then-first
returns-then-first c =
    let first = front_part (HasRegister c.args.index.now) c.args.front.now c.args.back.now
    c.args.bytes.now
    c.args.self.now.others c.args.start _
    c.requires.full c.requires.start c.roll_until-first.ensures in
    let within : min (length c.args.front.now) (length c.args.bytes.now) ≤ length c.args.bytes.now =
    omega arith in
    elim c.then-first.branch [
      | then-first-via-then-first w ↦
          arrived (HasRegister c.args.index.now) _ _ _ _ first (inl w.if-first.true) within
      | then-first-via-else-first+then-first-bytes w ↦
          arrived (HasRegister c.args.index.now) _ _ _ _ first (inr w.if-first-bytes.true) within
    ]

pub returns-then-second : goal.returns-then-second
returns-then-second c =
    let bytes = c.args.bytes.now in
    let a = c.roll_until-first.result in
    let first = front_part (HasRegister c.args.index.now) c.args.front.now c.args.back.now bytes
    c.args.self.now.others c.args.start a
    c.requires.full c.requires.start c.roll_until-first.ensures in
    let second = back_part (HasRegister c.args.index.now) c.args.front.now c.args.back.now bytes
    c.args.self.now.others a c.roll_until-second.result
    c.requires.full first c.if-first.false c.if-first-bytes.false
    (rw (rest_is bytes a.count) at c.roll_until-second.ensures) in
    let there : a.count ≡ length c.args.front.now = second.0 in
    let long : length c.args.front.now ≤ length bytes = second.1 in
    let within : length c.args.front.now + min (length c.args.back.now)
    (length bytes - length c.args.front.now) ≤ length bytes = omega arith in
    let either : (c.roll_until-second.result.hit ≡ true)
    ⊎ (a.count + c.roll_until-second.result.count ≡ length bytes) =
    elim c.then-second.either [
      | inl hit ↦ inl hit
      | inr whole ↦ inr (sym (ap (λ (r : Roll). r.count) c.then-both.ensures) ∙ whole.1)
    ] in
    rw c.then-both.ensures
    (arrived (HasRegister c.args.index.now) _ _ _ _ second.2 either within)

pub returns : goal.returns
returns c =
    let bytes = c.args.bytes.now in
    let a = c.roll_until-first.result in
    let both = c.then-both.result in
    let is = c.then-both.ensures in
    let first = front_part (HasRegister c.args.index.now) c.args.front.now c.args.back.now bytes
    c.args.self.now.others c.args.start a
    c.requires.full c.requires.start c.roll_until-first.ensures in
    let second = back_part (HasRegister c.args.index.now) c.args.front.now c.args.back.now bytes
    c.args.self.now.others a c.roll_until-second.result
    c.requires.full first c.if-first.false c.if-first-bytes.false
    (rw (rest_is bytes a.count) at c.roll_until-second.ensures) in
    rw c.then.ensures
    (bytes_part (HasRegister c.args.index.now) c.args.front.now c.args.back.now bytes
    c.args.self.now.others both c.roll_until-third.result c.requires.full second.1
    (rw is second.2) (ap (λ (r : Roll). r.hit) is ∙ c.if-second.false) c.if-both-bytes.false
    (rw (rest_is bytes both.count) at c.roll_until-third.ensures))
