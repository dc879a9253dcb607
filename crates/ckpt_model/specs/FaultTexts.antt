-- The texts of the reasons why a call has changed nothing.
use Rattle.std.specs.Prelude.{ℕ, List, ◌++◌, codes}
use Rattle.ckpt_ids.specs.RefusalTexts.{refusal_text}
use Rattle.ckpt_model.specs.declared.faults.CoreFault.{CoreFault}
use Rattle.ckpt_model.specs.declared.faults.CoreFault.TheVariants.{Refused, Memory}

abbrev pub fault_text : CoreFault → List ℕ
fault_text (Refused why) = codes "refused " ++ refusal_text why
fault_text Memory = codes "out of memory"
