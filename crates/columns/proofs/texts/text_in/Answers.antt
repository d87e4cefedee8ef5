use Rattle.columns.proofs.texts.text_in.Goals as goal

pub returns : goal.returns
returns c = c.from_utf8_unchecked.ensures
