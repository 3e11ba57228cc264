use Rattle.soundness_laws.proofs.Sounding.{sound_text}
use Rattle.soundness_laws.proofs.texts.sound_text_law.Goals as goal

pub returns : goal.returns
returns c text e = sound_text c.alone_law.ensures text e
