-- The loop of `Names::remove_all`.
use Rattle.ckpt_terms.proofs.Imports.{◌≡◌, take, without_all}
use Rattle.ckpt_terms.proofs.names.Names.remove_all.Given as goal

abbrev pub invariant-loop-name : goal.invariant-loop-name
invariant-loop-name l = l.self ≡ without_all (take l.name-index l.numbers) l.fn.self
