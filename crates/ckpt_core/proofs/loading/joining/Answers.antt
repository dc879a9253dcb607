-- Answers the goals of `joining`.
use Rattle.ckpt_core.proofs.{joined_records, joins_from_sound, sound_front}
use Rattle.ckpt_core.proofs.loading.joining.Goals as goal

pub returns-clause-joined : goal.returns-clause-joined
returns-clause-joined c = λ o next rs r s j. joined_records s j

pub returns-clause-tested : goal.returns-clause-tested
returns-clause-tested c = λ o next rs r w. joins_from_sound w

pub returns-clause-front : goal.returns-clause-front
returns-clause-front c = λ o next xs ys w. sound_front xs ys w
