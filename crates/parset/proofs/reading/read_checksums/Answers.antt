use Rattle.parset.proofs.reading.read_checksums.Goals as goal

pub returns-in-Ifsc-Whole : goal.returns-in-Ifsc-Whole
returns-in-Ifsc-Whole c =
    let found = c.usable_fields.ensures.found _ _ _ c.ifsc_body.ensures.answer in
    let memory = c.usable_fields.ensures.memory _ _ _ c.ifsc_body.ensures.answer in record {
      found = rw (c.in-Ifsc-Whole.is-0, c.in-Ifsc-Whole.is-1, ← c.as_slice.ensures) found;
      memory = rw (c.in-Ifsc-Whole.is-0, c.in-Ifsc-Whole.is-1, ← c.as_slice.ensures) memory;
    }
