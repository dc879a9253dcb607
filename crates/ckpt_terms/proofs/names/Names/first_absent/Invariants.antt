-- The loop of `Names::first_absent`.
use Rattle.ckpt_terms.proofs.Imports.{◌≡◌, false, take, list_any}
use Rattle.ckpt_terms.proofs.Absent.{is_absent}
use Rattle.ckpt_terms.proofs.names.Names.first_absent.Given as goal

abbrev pub invariant-loop-file : goal.invariant-loop-file
invariant-loop-file l = list_any (is_absent l.self) (take l.file-index l.files) ≡ false
