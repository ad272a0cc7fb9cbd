use Rattle.parset.proofs.reading.read_main.Goals as goal

pub returns-in-Main-Whole : goal.returns-in-Main-Whole
returns-in-Main-Whole c =
    let given = c.usable_fields.ensures.found _ _ _ c.main_body.ensures.answer in
    rw (c.in-Main-Whole.is-0, c.in-Main-Whole.is-1, ← c.as_slice.ensures) given
