use Rattle.parset.proofs.reading.read_description.Goals as goal

pub returns-in-FileDesc-Whole : goal.returns-in-FileDesc-Whole
returns-in-FileDesc-Whole c =
    let found = c.usable_fields.ensures.found _ _ _ c.desc_body.ensures.answer in
    let memory = c.usable_fields.ensures.memory _ _ _ c.desc_body.ensures.answer in record {
      found = rw (c.in-FileDesc-Whole.is-0, c.in-FileDesc-Whole.is-1, ← c.as_slice.ensures) found;
      memory = rw (c.in-FileDesc-Whole.is-0, c.in-FileDesc-Whole.is-1, ← c.as_slice.ensures) memory;
    }
